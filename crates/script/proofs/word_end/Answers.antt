use mathlib.Core.Path.{sym, ◌∙◌}
use Rattle.script.proofs.Words.{word_stops, word_goes_on}
use Rattle.script.proofs.word_end.Goals as goal

pub returns-in-Some : goal.returns-in-Some
returns-in-Some c = word_stops c.args.line.now c.args.from c.requires _ (sym c.first_space.ensures ∙ c.in-Some.is)

pub returns-in-None : goal.returns-in-None
returns-in-None c = word_goes_on c.args.line.now c.args.from c.requires (sym c.first_space.ensures ∙ c.in-None.is)
