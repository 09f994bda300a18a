use mathlib.Core.Path.{◌∙◌}
use Rattle.script.proofs.Words.{spaces_behind, none_behind}
use Rattle.script.proofs.spaces.Goals as goal

pub returns-then-line-from : goal.returns-then-line-from
returns-then-line-from c = none_behind _ _ c.if-line-from.true

pub returns : goal.returns
returns c = c.count_spaces.ensures ∙ spaces_behind c.args.line.now c.args.from
