-- `script::exactly` meets its contract.
use mathlib.Core.Path.{refl, sym, ◌∙◌}
use Rattle.script.specs.Reading.{counted, miscounted}
use borrow.Author.Rules.{rules}
use Rattle.script.proofs.exactly.Goals as goal

pub returns-then-there-wanted : goal.returns-then-there-wanted
returns-then-there-wanted c = record { within = tt; read = miscounted c.spaces-there.ensures c.if-there-wanted.true refl }

pub returns : goal.returns
returns c = record { within = c.numbers.ensures.within; read = counted (sym c.spaces-there.ensures ∙ c.if-there-wanted.false) c.numbers.ensures.read }
