use Prim.Native.Nat.{◌-◌, ◌≤◌}
use Rattle.deletion.proofs.Moves.{Compacted}
use Rattle.deletion.proofs.keep_atoms.Given as goal

abbrev pub invariant-loop-i : goal.invariant-loop-i
invariant-loop-i l = (l.i ≤ l.n) × Compacted l.left l.initial.words l.words l.i l.j

abbrev pub decreases-loop-i : goal.decreases-loop-i
decreases-loop-i l = l.n - l.i
