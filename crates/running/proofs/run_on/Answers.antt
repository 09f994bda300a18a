use native.Mathlib.Omega.{arith}
use Rattle.running.proofs.Turns.{running_first, at_end, at_refusal, next_fits, gone_fits, at_phase_zero, at_wait, running_next}
use Rattle.running.proofs.run_on.Goals as goal

pub loop-steps-init : goal.loop-steps-init
loop-steps-init c = running_first _ _ _ _ c.requires.0

pub returns-in-Err : goal.returns-in-Err
returns-in-Err c =
    let e = c.in-Err.ensures in
    at_refusal _ _ _ _ _ _ _ _ _ c.loop-steps.invariant c.loop-steps-test.true c.advance.new.words c.in-Err.refusal e.result_after e.untouched

pub overflow_sub-made : goal.overflow_sub-made
overflow_sub-made c = next_fits _ _ _ _ _ _ _ _ _ c.loop-steps.invariant c.loop-steps-test.true c.advance.new.words c.in-Ok.p c.in-Ok.ensures.result_after

pub overflow_add-gone : goal.overflow_add-gone
overflow_add-gone c =
    let h = gone_fits _ _ _ _ _ _ _ _ _ c.loop-steps.invariant c.loop-steps-test.true c.advance.new.words c.in-Ok.p c.in-Ok.ensures.result_after in
    omega arith

pub returns-then-s-eq0 : goal.returns-then-s-eq0
returns-then-s-eq0 c =
    let e = c.in-Ok.ensures.result_after in
    at_phase_zero _ _ _ _ _ _ _ _ _ c.loop-steps.invariant c.loop-steps-test.true c.advance.new.words c.in-Ok.p e c.if-s-eq0.true

pub returns-then-s-ne0 : goal.returns-then-s-ne0
returns-then-s-ne0 c =
    let e = c.in-Ok.ensures.result_after in
    at_wait _ _ _ _ _ _ _ _ _ c.loop-steps.invariant c.loop-steps-test.true c.advance.new.words c.in-Ok.p e c.if-s-eq0.false c.if-s-ne0.true

pub loop-steps-preserved : goal.loop-steps-preserved
loop-steps-preserved c =
    let e = c.in-Ok.ensures.result_after in
    running_next _ _ _ _ _ _ _ _ _ c.loop-steps.invariant c.loop-steps-test.true c.advance.new.words c.in-Ok.p e c.if-s-eq0.false c.if-s-ne0.false

pub returns : goal.returns
returns c = at_end _ _ _ _ _ _ _ _ _ c.loop-steps.invariant (omega (arith, c.loop-steps-test.false))
