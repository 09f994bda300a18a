-- The columns of a line that have been read: integers in range, with a space behind each. Eight of them to the line's end are a row.
use mathlib.Core.Path.{◌≡◌, refl, sym, ap, ◌∙◌, subst}
use mathlib.Core.Logic.{⊎_elim, ◌≢◌}
use mathlib.Core.Bool.{false, ◌||◌, not}
use mathlib.Core.List.{List}
use mathlib.Core.Option.{none}
use Prim.Native.Nat.{ℕ, ◌+◌, ◌-◌, ◌≤◌, ◌<◌}
use native.Mathlib.Omega.{arith}
use lib.Dec.{leb, ltb, eqb}
use lib.ListN.{length, get_or, set, replicate, length-set}
use lib.Seq.{get_or-set_same, get_or-set_other}
use borrow.Author.Tests.{ltb-false, ltb-true, leb-true, eqb-true, eqb-false, not-false}
use Rattle.lists.specs.Lists.{within}
use Rattle.lists.proofs.Lists.{test}
use Rattle.program_laws.proofs.Tests.{and_left, and_right, or_neither_left}
use Rattle.model.specs.declared.Row.{Row}
use Rattle.model.specs.Text.{read_row}
use Rattle.text.specs.Reading.{int_at, as_line, row_line, line_of}
use Rattle.std.specs.Prelude.{Some, None}
use Rattle.text.proofs.Cells.{whole}
use Rattle.text.proofs.Columns.{Columns, columns_begin, next_column, whole_line, got}
use Rattle.explain.specs.declared.Layout.TheVariants as layout
use Rattle.explain.specs.Explaining.{outside, Begins, first, next, Misread, at_ninth}

-- the columns before this one, which begins at `at`
pub record Before (line : List ℕ) (column at : ℕ) : Type 0 where
  pub low : 1 ≤ column
  pub high : column ≤ 9
  pub begins : Begins line column at
  pub cells : List ℕ
  pub long : length cells ≡ 8
  pub columns : column ≤ 8 → Columns line cells at (column - 1)
  pub ranges : (k : ℕ) → k + 1 < column → outside (k + 1) (get_or cells k 0) ≡ false

pub before_first : (line : List ℕ) → Before line 1 0
before_first line = record {
  low = omega arith;
  high = omega arith;
  begins = first;
  cells = replicate 8 0;
  long = refl;
  columns = λ h. columns_begin line (replicate 8 0) refl;
  ranges = λ k h. absurd (omega arith);
}

pub ninth : {line : List ℕ} {column at : ℕ} → Before line column at → 8 < column → Misread line layout.Ninth
ninth {line} {column} {at} w h = let k = w.high in let e : column ≡ 9 = omega arith in at_ninth (subst (λ (c : ℕ). Begins line c at) e w.begins)

-- a column from 1 to 4, and column 6
from_9 : (x : ℕ) → ltb x 9 || false ≡ false → 9 ≤ x
from_9 x e = ltb-false x 9 (or_neither_left (ltb x 9) false e)

to_264 : (x : ℕ) → not (within 9 264 x) ≡ false → (9 ≤ x) × (x ≤ 264)
to_264 x e = let t = not-false (within 9 264 x) e in (leb-true 9 x (and_left (leb 9 x) (leb x 264) t), leb-true x 264 (and_right (leb 9 x) (leb x 264) t))

-- eight numbers in range are a row
row_whole : (v : List ℕ) → ((k : ℕ) → k + 1 < 9 → outside (k + 1) (get_or v k 0) ≡ false) → (r : Row) × (Some r ≡ row_line v)
row_whole v f =
    let p = to_264 (get_or v 5 0) (f 5 (omega arith)) in
    (_, whole v (from_9 (get_or v 0 0) (f 0 (omega arith))) (from_9 (get_or v 1 0) (f 1 (omega arith))) (from_9 (get_or v 2 0) (f 2 (omega arith))) (from_9 (get_or v 3 0) (f 3 (omega arith))) p.0 p.1)

module _ {line : List ℕ} {column at : ℕ} (w : Before line column at) (few : column ≤ 8) {x n : ℕ} (e : int_at line at ≡ Some (record { value = x; next = n })) (inside : outside column x ≡ false) where
  ranges_on : (k : ℕ) → k + 1 < column + 1 → outside (k + 1) (get_or (set w.cells (column - 1) x) k 0) ≡ false
  ranges_on k h =
      let l = w.low in
      let m = w.long in
      ⊎_elim (λ t. let q = eqb-true k (column - 1) t in let p : k + 1 ≡ column = omega arith in rw (p, q, get_or-set_same w.cells (column - 1) x 0 (omega arith)) inside)
      (λ t. let q : k ≢ column - 1 = eqb-false k (column - 1) t in rw (get_or-set_other w.cells (column - 1) k x 0 q) (w.ranges k (omega (arith, q))))
      (test (eqb k (column - 1)))

  pub before_next : n < length line → get_or line n 0 ≡ 32 → Before line (column + 1) (n + 1)
  before_next h f = record {
    low = omega arith;
    high = omega arith;
    begins = next w.begins e inside f;
    cells = set w.cells (column - 1) x;
    long = length-set w.cells (column - 1) x ∙ w.long;
    columns = λ k. let l = w.low in let p : column + 1 - 1 ≡ column - 1 + 1 = omega arith in rw p (next_column (w.columns few) (omega arith) (sym e) h f);
    ranges = ranges_on;
  }

  -- the line ends: it is not column 8, or the line would read as a row
  pub few_columns : length line ≤ n → read_row line ≡ none → column < 8
  unfolding line_of
  few_columns h u = ⊎_elim (λ t. ltb-true column 8 t) (λ t. absurd (eighth (ltb-false column 8 t))) (test (ltb column 8))
    where
      eighth : 8 ≤ column → ⊥
      eighth k =
          let c : column - 1 ≡ 7 = omega arith in
          let i = (got line at (sym e)).inside in
          let r = row_whole (set w.cells (column - 1) x) (λ k l. ranges_on k (omega arith)) in
          let q : row_line (set w.cells (column - 1) x) ≡ line_of line = rw c (whole_line (w.columns few) (omega arith) (sym e) (omega arith)) in
          let z : line_of line ≡ None = ap as_line u in
          let z : ◌≡◌ {A = ℕ} 0 1 = cc in
          omega arith
