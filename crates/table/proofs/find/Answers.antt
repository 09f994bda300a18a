use mathlib.Core.Path.{◌≡◌}
use Prim.Native.Nat.{ℕ, ◌+◌, ◌*◌, ◌<◌, ◌-◌, ◌/◌}
use native.Mathlib.Omega.{arith}
use lib.ListN.{get_or}
use borrow.Author.Rules.{rules}
use Rattle.table.proofs.Rows.{found_at, missing, all_lower, all_higher, nowhere}
use Rattle.table.proofs.find.Goals as goal
use Rattle.table.proofs.find.Goals.{else-low-n-via-then-low-n+else-words-low, else-low-n-via-else-low-n}

-- the middle is a record
abbrev middle : ℕ → ℕ → ℕ
middle low high = low + (high - low) / 2

pub loop-low-preserved-then-words-middle : goal.loop-low-preserved-then-words-middle
loop-low-preserved-then-words-middle c =
    let a = c.args in
    (search rules, search rules, all_lower a.width a.n a.words.now c.requires.0 c.requires.2 (middle c.loop-low.low c.loop-low.high) a.id (omega arith) c.if-words-middle.true, c.loop-low.invariant.3)

pub loop-low-preserved : goal.loop-low-preserved
loop-low-preserved c =
    let a = c.args in
    (search rules, search rules, c.loop-low.invariant.2, all_higher a.width a.n a.words.now c.requires.0 c.requires.2 (middle c.loop-low.low c.loop-low.high) a.id (omega arith) c.if-words-middle.false)

pub returns-then-words-low : goal.returns-then-words-low
returns-then-words-low c =
    let a = c.args in
    (found_at a.width a.n a.words.now c.requires.0 a.id c.loop-low.low c.loop-low.invariant.2 c.if-low-n.true c.if-words-low.true, c.if-low-n.true)

pub returns : goal.returns
returns c =
    let a = c.args in
    let low = c.loop-low.low in
    let inv = c.loop-low.invariant in
    missing a.width a.n a.words.now c.requires.0 a.id
    (elim c.else-low-n.branch [
      | else-low-n-via-then-low-n+else-words-low w ↦ nowhere a.width a.n a.words.now c.requires.0 c.requires.2 low a.id w.if-low-n.true inv.2 (inv.3 low (omega arith) w.if-low-n.true) w.if-words-low.false
      | else-low-n-via-else-low-n w ↦ λ (k : ℕ) (h : k < a.n) (e : get_or a.words.now (k * a.width) 0 ≡ a.id). let y = inv.2 k (omega arith) in omega arith
    ])
