use mathlib.Core.Path.{◌≡◌, ◌∙◌}
use Prim.Native.Nat.{◌+◌, ◌-◌, ◌*◌, ◌≤◌}
use native.Mathlib.Omega.{arith}
use lib.ListN.{drop}
use lib.Seq.{take-take}
use Rattle.table.specs.Rows.{row, placed}
use Rattle.table.proofs.Rows.{placed_self}
use Rattle.table.proofs.copy_down.Goals as goal

pub returns-then-k-i : goal.returns-then-k-i
returns-then-k-i c = let a = c.args in rw c.if-k-i.true (placed_self a.width a.words.now a.i)

pub returns : goal.returns
unfolding placed row
returns c =
    let a = c.args in
    let e : a.i * a.width + a.width - a.i * a.width ≡ a.width = omega arith in
    let h : a.width ≤ a.width = omega arith in
    c.copy_within.ensures.after ∙ rw (e, take-take a.width a.width (drop (a.i * a.width) a.words.now) h)
