-- The rows below k stand before the next part.
use Prim.Native.Nat.{◌+◌, ◌/◌}
use lib.ListN.{length}
use Rattle.spans.proofs.Spans.{Halved}
use Rattle.spans.proofs.part_end.Given as goal

abbrev pub invariant-loop-k : goal.invariant-loop-k
invariant-loop-k l = Halved l.program l.set l.rule (l.part + 1) l.k (length l.program / 8)
