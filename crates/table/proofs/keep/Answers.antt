use mathlib.Core.Path.{◌∙◌}
use mathlib.Core.Bool.{true, false}
use Prim.Native.Nat.{◌<◌}
use native.Mathlib.Omega.{arith}
use lib.ListN.{length}
use Rattle.lists.proofs.Bind.{append-nil}
use Rattle.lists.proofs.Tables.{keep_by_nil, keep_by_more}
use Rattle.table.specs.Rows.{row}
use Rattle.table.proofs.Rows.{below, compacted_none, compacted_kept, compacted_left_out}
use Rattle.table.proofs.keep.Invariants.{kept}
use Rattle.table.proofs.keep.Goals as goal
use Rattle.table.proofs.keep.Goals.{then-marks-i, else-marks-i}

pub loop-i-init : goal.loop-i-init
loop-i-init c = compacted_none _ _ _ (keep_by_nil c.args.marks.now)

pub loop-i-preserved : goal.loop-i-preserved
loop-i-preserved c =
    let a = c.args in
    let ms = a.marks.now in
    let l₀ = a.words.now in
    let l = c.loop-i.words in
    let i = c.loop-i.i in
    let j = c.loop-i.j in
    let h = below i a.n a.width c.loop-i-test.true in
    let hm : i < length ms = omega arith in
    elim c.if-marks-i.branch [
      | then-marks-i w ↦ rw (w.words-is, w.j-is, w.copy_down.ensures) (compacted_kept a.width (kept a.width ms l₀) l₀ l i j c.loop-i.invariant (omega arith) (keep_by_more ms (row a.width l₀) i true hm w.if-marks-i.true))
      | else-marks-i w ↦ rw (w.words-is, w.j-is) (compacted_left_out a.width (kept a.width ms l₀) l₀ l i j c.loop-i.invariant (keep_by_more ms (row a.width l₀) i false hm w.if-marks-i.false ∙ append-nil _))
    ]
