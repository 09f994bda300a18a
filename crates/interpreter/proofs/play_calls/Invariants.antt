-- The invariant: the words before `at` were played, and the calls behind it bring what was worked so far to what the whole list comes to.
use Prim.Native.Nat.{◌-◌}
use lib.ListN.{length}
use Rattle.interpreter.specs.Calls.{conf}
use Rattle.interpreter.proofs.Totals.{Underway}
use Rattle.interpreter.proofs.play_calls.Given as goal

abbrev pub invariant-loop-size : goal.invariant-loop-size
invariant-loop-size l = Underway l.program l.calls (conf l.config) l.worked l.at

abbrev pub decreases-loop-size : goal.decreases-loop-size
decreases-loop-size l = length l.calls - l.at
