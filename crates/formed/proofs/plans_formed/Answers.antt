use mathlib.Core.Path.{◌≡◌, sym}
use mathlib.Core.Bool.{false, ◌&&◌}
use native.Mathlib.Omega.{arith}
use lib.Dec.{ltb}
use Rattle.program.specs.Rows.{rows_of}
use Rattle.state.specs.View.{plan_at, config_of}
use Rattle.formed_plans.specs.Plans.{plan_fits}
use Rattle.formed.proofs.Passes.{passed_fails, passed_all}
use Rattle.formed.proofs.plans_formed.Goals as goal

pub returns-then-not-fits : goal.returns-then-not-fits
returns-then-not-fits c =
    let a = c.args in
    let q = plan_at a.words.now c.loop-k.k in
    let f = plan_fits (rows_of a.program.now) (config_of a.words.now a.scalars) in
    let b = ltb c.loop-k.before c.plan_id-id.result && c.plan_fits.result in
    let e : ltb c.loop-k.before q.id && f q ≡ false = rw (← c.plan_fits.ensures, ← c.plan_id-id.ensures) c.if-not-fits.true in
    sym (passed_fails _ _ _ _ _ _ c.loop-k.invariant.0 (omega (arith, c.loop-k-test.true)) e)

pub returns : goal.returns
returns c = sym (passed_all _ _ _ _ c.loop-k.k _ c.loop-k.invariant.0 (omega arith))
