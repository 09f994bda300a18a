-- The candidates of the row are the plans.
use mathlib.Core.Path.{◌∙◌}
use native.Mathlib.Omega.{arith}
use Rattle.queries.proofs.Skips.{plans_numbered, plan_at_number}
use Rattle.queries.proofs.Seeking.{seeking_ends, seeking_hits, seeking_misses}
use Rattle.queries.proofs.next_plan.Goals as goal

pub returns-then-take-clause-is : goal.returns-then-take-clause-is
returns-then-take-clause-is c =
    let a = c.args in
    let p = c.requires in
    let n = plans_numbered a.s a.r p.3 p.4 in
    let k = c.loop-c-test.true in
    seeking_hits c.loop-c.invariant (omega arith) c.plan_candidate-x.result (c.plan_candidate-x.ensures ∙ plan_at_number a.s a.r p.3 p.4 _ _) c.take.result _ _ c.take.ensures.is c.if-take.true

pub loop-c-preserved : goal.loop-c-preserved
loop-c-preserved c =
    let a = c.args in
    let p = c.requires in
    let n = plans_numbered a.s a.r p.3 p.4 in
    let k = c.loop-c-test.true in
    seeking_misses c.loop-c.invariant (omega arith) c.plan_candidate-x.result (c.plan_candidate-x.ensures ∙ plan_at_number a.s a.r p.3 p.4 _ _) c.take.result _ _ c.take.ensures.is c.if-take.false c.take.ensures.kept

pub returns-clause-is : goal.returns-clause-is
returns-clause-is c =
    let a = c.args in
    let n = plans_numbered a.s a.r c.requires.3 c.requires.4 in
    let h = c.loop-c-test.false in
    seeking_ends c.loop-c.invariant (omega arith)
