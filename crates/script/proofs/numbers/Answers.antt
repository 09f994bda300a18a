use mathlib.Core.Path.{sym, ◌∙◌}
use Prim.Native.Nat.{◌-◌}
use lib.ListN.{length}
use borrow.Author.Rules.{rules}
use Rattle.script.proofs.Passing.{Passing, passing_first, has_room, passes, stops, ends}
use Rattle.script.proofs.numbers.Goals as goal

pub loop-at-init : goal.loop-at-init
loop-at-init c = search (rules, passing_first)

pub returns-in_default : goal.returns-in_default
returns-in_default c = record { within = search rules; read = stops c.loop-at.invariant c.loop-at-test.true c.word_end-end.ensures (sym c.in_default.is ∙ c.read_number.ensures) }

pub bounds-out-k : goal.bounds-out-k
bounds-out-k c = has_room c.loop-at.invariant c.loop-at-test.true

pub loop-at-preserved : goal.loop-at-preserved
loop-at-preserved c = passes c.loop-at.invariant c.loop-at-test.true c.word_end-end.ensures _ c.in-Some.ensures

pub returns : goal.returns
returns c = record { within = search rules; read = ends c.loop-at.invariant c.loop-at-test.false }
