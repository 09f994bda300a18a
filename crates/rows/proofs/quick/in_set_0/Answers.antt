use native.Mathlib.Omega.{arith}
use Rattle.rows.proofs.Fitting.{set_0_fits}
use Rattle.rows.proofs.quick.in_set_0.Goals as goal
use Rattle.rows.proofs.quick.in_set_0.Goals.{then-r-eq41, else-r-eq41}

pub returns : goal.returns
returns c =
    λ k v. elim c.if-r-eq41.branch [
      | then-r-eq41 w ↦ set_0_fits _ _ _ k v _ _ c.requires.1 c.if-not-r.false (grind arith) (grind arith) c.mark_ceiling.ensures (c.counted.ensures k v _)
      | else-r-eq41 w ↦ set_0_fits _ _ _ k v _ _ c.requires.1 c.if-not-r.false (grind arith) (grind arith) c.mark_ceiling.ensures (c.counted.ensures k v _)
    ]
