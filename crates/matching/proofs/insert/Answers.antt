-- A greater id gives way.
use native.Mathlib.Omega.{arith}
use Rattle.matching.proofs.Plans.{passed, moved}
use Rattle.matching.proofs.insert.Goals as goal
use Rattle.matching.proofs.insert.Goals.{then-carried-x-2, else-carried-x-2}

pub loop-j-preserved : goal.loop-j-preserved
loop-j-preserved c =
    elim c.if-carried-x-2.branch [
      | then-carried-x-2 w ↦ rw (w.ids-is, w.carried-is) (moved _ _ _ _ _ _ c.loop-j.invariant c.loop-j-test.true w.if-carried-x-2.true)
      | else-carried-x-2 w ↦ rw (w.ids-is, w.carried-is) (passed _ _ _ _ _ _ c.loop-j.invariant c.loop-j-test.true (let e = c.if-carried-x.false in let f = w.if-carried-x-2.false in omega arith))
    ]
