-- The loop's invariant: all is as it was. Where a settled row has no answer, none of the rows before it need be tried.
use mathlib.Core.Path.{◌≡◌}
use Rattle.queries.specs.View.{Kept}
use Rattle.matching.proofs.long.ask_later.Given as goal

abbrev pub invariant-loop-left : goal.invariant-loop-left
invariant-loop-left l = (l.values ≡ l.before) × Kept l.count l.initial.matched l.matched

abbrev pub decreases-loop-left : goal.decreases-loop-left
decreases-loop-left l = l.left
