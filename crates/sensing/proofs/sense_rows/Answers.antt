use Prim.Native.Nat.{◌/◌}
use native.Mathlib.Omega.{arith}
use lib.ListN.{length}
use Rattle.std.proofs.lemmas.Result.{err_from_is_err_and}
use Rattle.program.specs.Rows.{rows_of}
use Rattle.state.specs.View.{config_of}
use Rattle.sensing.proofs.Readings.{at_barred, at_next}
use Rattle.sensing.proofs.sense_rows.Goals as goal

pub returns-in_err-w-clause-senses_rows : goal.returns-in_err-w-clause-senses_rows
returns-in_err-w-clause-senses_rows c =
    let a = c.args in
    let l = c.loop-k in
    let p = err_from_is_err_and c.from_residual.result c.from_residual.ensures.1 in
    rw (p.1, p.2)
    (at_barred (rows_of a.program.now) a.rows.now (length a.rows.now / 4) (config_of a.words.now a.scalars) l.k l.words l.s l.gone l.invariant.0 (omega arith) _ c.reading_at.ensures _ _ c.in_err-w.ensures.senses_row)

pub loop-k-preserved : goal.loop-k-preserved
loop-k-preserved c =
    let a = c.args in
    let l = c.loop-k in
    let x = c.in_ok-w in
    (at_next (rows_of a.program.now) a.rows.now (length a.rows.now / 4) (config_of a.words.now a.scalars) l.k l.words l.s l.gone l.invariant.0 (omega arith) _ c.reading_at.ensures _ _ x.ensures.ready.0 x.ensures.senses_row, (let g = x.ensures.ready.1 in omega (arith, l.invariant.1)))
