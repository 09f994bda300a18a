-- The sum stays below 65536.
use Prim.Native.Nat.{◌<◌}
use Rattle.nogoods.proofs.place.Given as goal

abbrev pub invariant-loop-k : goal.invariant-loop-k
invariant-loop-k l = l.sum < 65536
