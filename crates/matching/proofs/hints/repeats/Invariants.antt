-- Nothing is claimed but that the counts stay within their bounds.
use Prim.Native.Nat.{◌≤◌}
use Rattle.matching.proofs.hints.repeats.Given as goal

abbrev pub invariant-loop-c : goal.invariant-loop-c
invariant-loop-c l = (l.count ≤ l.c) × (l.again ≤ l.c)
