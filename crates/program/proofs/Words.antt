-- Rows in words: one row after the other, and the words of rows read back.
use mathlib.Core.Path.{◌≡◌, refl, ap, sym, ◌∙◌}
use mathlib.Core.List.{List, [], ◌∷◌, ◌++◌}
use Prim.Native.Nat.{ℕ, ◌+◌, ◌-◌, ◌*◌, ◌/◌, ◌≤◌, ◌<◌}
use native.Mathlib.Omega.{arith}
use native.Mathlib.Nat.{div-mul-le_self}
use lib.ListN.{length, take, drop, length-append}
use lib.Seq.{take_at, take_all, drop_at, drop-drop}
use Rattle.lists.proofs.Cuts.{count_up_next, count_up_none}
use Rattle.lists.proofs.Bind.{bind_append}
use Rattle.table.specs.Rows.{placed}
use Rattle.model.specs.declared.Row.{Row}
use Rattle.program.specs.Rows.{row_at, rows_from, row_words, words_of}

module _ (words : List ℕ) where
  pub rows_next : (k n : ℕ) → k < n → rows_from words k (n - k) ≡ row_at words k ∷ rows_from words (k + 1) (n - (k + 1))
  rows_next k n h = rw (count_up_next k n h)

  pub rows_none : (k n : ℕ) → n ≤ k → rows_from words k (n - k) ≡ []
  rows_none k n h = rw (count_up_none k n h)

  -- a row that stands there stands in the words
  pub row_inside : (k : ℕ) → k < length words / 8 → k * 8 + 8 ≤ length words
  row_inside k h = let d = div-mul-le_self (length words) 8 in omega arith

-- the words of rows
pub length_words : (rows : List Row) → length (words_of rows) ≡ length rows * 8
unfolding words_of row_words
length_words [] = refl
length_words (r ∷ rows) = let h = length_words rows in omega arith

pub words_snoc : (rows : List Row) (r : Row) → words_of (rows ++ (r ∷ [])) ≡ words_of rows ++ row_words r
unfolding words_of row_words
words_snoc rows r = bind_append row_words rows (r ∷ [])

pub eight : (r : Row) → length (row_words r) ≡ 8
unfolding row_words
eight r = refl

-- rows stand first in the words, and one more behind them
module _ (lent : List ℕ) (rows : List Row) where
  abbrev with_rows : List ℕ
  with_rows = words_of rows ++ drop (length rows * 8) lent

  pub store_row : (r : Row) → placed 8 with_rows (length rows) (row_words r) ≡ words_of (rows ++ (r ∷ [])) ++ drop (length (rows ++ (r ∷ [])) * 8) lent
  unfolding placed
  store_row r =
      let n = length_words rows in
      let all : take 8 (row_words r) ≡ row_words r = take_all 8 (row_words r) (rw (eight r) (omega arith)) in
      let front : take (length rows * 8) with_rows ≡ words_of rows = take_at (words_of rows) (drop (length rows * 8) lent) (length rows * 8) n in
      let back : drop (length rows * 8) with_rows ≡ drop (length rows * 8) lent = drop_at (words_of rows) (drop (length rows * 8) lent) (length rows * 8) n in
      let rest : drop (length rows * 8 + 8) with_rows ≡ drop (length rows * 8 + 8) lent = sym (drop-drop 8 (length rows * 8) with_rows) ∙ ap (drop 8) back ∙ drop-drop 8 (length rows * 8) lent in
      let next : length (rows ++ (r ∷ [])) * 8 ≡ length rows * 8 + 8 = rw length-append (omega arith) in
      rw (front, all, rest, words_snoc rows r, next)
