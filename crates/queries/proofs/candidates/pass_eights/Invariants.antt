-- The loop's invariant: no atom of the eights before stands so.
use Prim.Native.Nat.{◌+◌, ◌*◌}
use Rattle.queries.specs.View.{Without}
use Rattle.queries.proofs.candidates.pass_eights.Given as goal

abbrev pub invariant-loop-k : goal.invariant-loop-k
invariant-loop-k l = Without l.words l.p l.y l.v l.z l.w l.from (l.from + l.k * 8)
