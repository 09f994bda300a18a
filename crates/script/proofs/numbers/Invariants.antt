-- The words so far are numbers, which stand first in the array. The measure is what is left of the line.
use mathlib.Core.Path.{sym, ◌∙◌}
use Prim.Native.Nat.{◌-◌}
use lib.ListN.{length}
use borrow.Author.Rules.{rules}
use Rattle.script.proofs.Passing.{Passing, passing_first, has_room, passes, stops, ends}
use Rattle.script.proofs.numbers.Given as goal

abbrev pub invariant-loop-at : goal.invariant-loop-at
invariant-loop-at l = Passing l.line l.from l.initial.out l.out l.at l.k

abbrev pub decreases-loop-at : goal.decreases-loop-at
decreases-loop-at l = length l.line - l.at
