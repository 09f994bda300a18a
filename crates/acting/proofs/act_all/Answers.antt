use native.Mathlib.Omega.{arith}
use Rattle.std.proofs.lemmas.Result.{err_from_is_err_and}
use Rattle.acting.proofs.Running.{running_first, body_short, row_flag, running_end, running_barred, running_stopped, running_next, done_told}
use Rattle.acting.proofs.act_all.Goals as goal

pub loop-k-init : goal.loop-k-init
loop-k-init c = let a = c.args in (running_first a.program.now a.words.now a.scalars a.rule a.values c.requires, omega arith)

pub act-requires : goal.act-requires
act-requires c = let a = c.args in (c.loop-k.invariant.0.workable, row_flag a.program.now a.words.now a.scalars a.rule a.values c.requires c.loop-k.k c.row_at-row.result c.row_at-row.ensures (omega arith) (omega arith))

pub returns-in_err-x : goal.returns-in_err-x
returns-in_err-x c =
    let p = err_from_is_err_and c.from_residual.result c.from_residual.ensures.1 in
    rw (p.1, p.2)
    (running_barred c.loop-k.invariant.0 c.loop-k-test.true c.row_at-row.result c.row_at-row.ensures c.act.new.words _ c.in_err-x.ensures.acts c.act.new.words)

pub overflow_add-gone : goal.overflow_add-gone
overflow_add-gone c =
    let a = c.args in
    let h = body_short a.program.now a.words.now a.scalars a.rule a.values c.requires in
    let x = done_told c.act.new.words c.in-Some.x _ c.in-Some.is c.in_ok-x.ensures.workable in
    omega (arith, x.1, c.loop-k.invariant.1)

pub loop-k-preserved : goal.loop-k-preserved
loop-k-preserved c =
    let l = c.loop-k in
    let x = done_told c.act.new.words c.in-Some.x _ c.in-Some.is c.in_ok-x.ensures.workable in (
      running_next l.invariant.0 c.loop-k-test.true c.row_at-row.result c.row_at-row.ensures c.act.new.words c.in-Some.x _ c.in-Some.is c.in_ok-x.ensures.acts x.0,
      omega (arith, x.1, l.invariant.1),
    )

pub returns-after-loop-k : goal.returns-after-loop-k
returns-after-loop-k c = running_end c.loop-k.invariant.0 (omega arith)

pub returns-in_default : goal.returns-in_default
returns-in_default c = running_stopped c.loop-k.invariant.0 c.loop-k-test.true c.row_at-row.result c.row_at-row.ensures c.act.new.words _ c.in_default.is c.in_ok-x.ensures.acts
