use native.Mathlib.Omega.{arith}
use Rattle.spans.proofs.Parts.{part_stops}
use Rattle.spans.proofs.part_end.Goals as goal

pub returns-then-not-is_part : goal.returns-then-not-is_part
returns-then-not-is_part c =
    part_stops _ _ _ _ c.requires.0 _ c.requires.1 c.loop-k.k (omega arith) c.loop-k-test.true c.loop-k.invariant c.is_part.result c.is_part.ensures c.if-not-is_part.true
