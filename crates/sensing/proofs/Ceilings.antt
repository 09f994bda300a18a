-- The first ceiling that applies, row by row.
use mathlib.Core.Path.{◌≡◌, refl, sym, ap, ◌∙◌}
use mathlib.Core.Bool.{Bool, true, false, ◌&&◌, false≢true}
use mathlib.Core.List.{List}
use lib.Dec.{eqb, leb}
use Rattle.sensing.specs.Sensing.{is_ceiling, Bare}
use Prim.Native.Nat.{ℕ, zero, suc, ◌+◌, ◌-◌, ◌/◌, ◌<◌, ◌≤◌}
use native.Mathlib.Omega.{arith}
use lib.ListN.{length}
use Rattle.lists.specs.Lists.{put, keep}
use Rattle.model.specs.declared.Row.{Row}
use Rattle.model.specs.Calls.{Reading, applies, replaced, taken_as}
use Rattle.program.specs.Rows.{row_at, rows_of, rows_from}
use Rattle.program.proofs.Words.{rows_next}

-- what is left to look at
unfoldable pub left_of : List ℕ → Reading → ℕ → ℕ → ℕ
left_of words r k n = replaced r.p (keep (applies r) (rows_from words k (n - k)))

module _ (words : List ℕ) (r : Reading) where
  pub left_first : taken_as (rows_of words) r ≡ left_of words r 0 (length words / 8)
  unfolding left_of taken_as rows_of
  left_first = let e : length words / 8 ≡ length words / 8 - 0 = omega arith in ap (λ (m : ℕ). replaced r.p (keep (applies r) (rows_from words 0 m))) e

  pub left_skip : (k n : ℕ) → k < n → applies r (row_at words k) ≡ false → left_of words r k n ≡ left_of words r (k + 1) n
  unfolding left_of
  left_skip k n h e = ap (λ (l : List Row). replaced r.p (keep (applies r) l)) (rows_next words k n h) ∙ ap (λ (b : Bool). replaced r.p (put b (row_at words k) (keep (applies r) (rows_from words (k + 1) (n - (k + 1)))))) e

  pub left_hit : (k n : ℕ) → k < n → applies r (row_at words k) ≡ true → left_of words r k n ≡ (row_at words k).b - 9
  unfolding left_of replaced
  left_hit k n h e = ap (λ (l : List Row). replaced r.p (keep (applies r) l)) (rows_next words k n h) ∙ ap (λ (b : Bool). replaced r.p (put b (row_at words k) (keep (applies r) (rows_from words (k + 1) (n - (k + 1)))))) e

  pub left_none : (k n : ℕ) → n ≤ k → left_of words r k n ≡ r.p
  unfolding left_of replaced
  left_none k n h = let e : n - k ≡ 0 = omega arith in ap (λ (m : ℕ). replaced r.p (keep (applies r) (rows_from words k m))) e

  -- a row that is no ceiling applies to nothing
  pub bare_row : (k : ℕ) → is_ceiling (row_at words k) ≡ false → applies r (row_at words k) ≡ false
  unfolding applies
  bare_row k e = at (eqb (row_at words k).set 0) (eqb (row_at words k).op 40) e
    where
      at : (s o : Bool) → (s && o) ≡ false → (s && (o && (eqb (row_at words k).p r.p && leb ((row_at words k).a - 9) r.b))) ≡ false
      at false o q = refl
      at true false q = refl
      at true true q = absurd (false≢true (sym q))

  -- bare rows are passed over
  pub left_over : (m k n : ℕ) → k + m ≤ n → ((i : ℕ) → k ≤ i → i < k + m → is_ceiling (row_at words i) ≡ false) → left_of words r k n ≡ left_of words r (k + m) n
  left_over zero k n h e = let z : k ≡ k + 0 = omega arith in ap (λ (i : ℕ). left_of words r i n) z
  left_over (suc m) k n h e =
      let z : k + 1 + m ≡ k + suc m = omega arith in
      left_skip k n (omega arith) (bare_row k (e k (omega arith) (omega arith)))
      ∙ left_over m (k + 1) n (omega arith) (λ i p q. e i (omega arith) (omega arith))
      ∙ ap (λ (i : ℕ). left_of words r i n) z

  pub bare_first : (from to : ℕ) → Bare words from to → taken_as (rows_of words) r ≡ left_of words r from (length words / 8)
  bare_first from to b =
      let z : 0 + from ≡ from = omega arith in
      let o = b.ordered in
      let i = b.inside in
      left_first ∙ left_over from 0 (length words / 8) (omega arith) (λ k p q. b.before k (omega arith)) ∙ ap (λ (m : ℕ). left_of words r m (length words / 8)) z

  pub bare_last : (from to k : ℕ) → Bare words from to → to ≤ k → k ≤ to → left_of words r k (length words / 8) ≡ r.p
  bare_last from to k b h g =
      let i = b.inside in
      left_over (length words / 8 - k) k (length words / 8) (omega arith) (λ j p q. b.behind j (omega arith) (omega arith))
      ∙ left_none (k + (length words / 8 - k)) (length words / 8) (omega arith)

-- the first k rows have been looked at
pub record Looked (words : List ℕ) (from to k : ℕ) : Type 0 where
  pub ordered : from ≤ to
  pub inside : to ≤ k
  pub first : (i : ℕ) → i < from → is_ceiling (row_at words i) ≡ false
  pub last : (i : ℕ) → to ≤ i → i < k → is_ceiling (row_at words i) ≡ false

-- what `taken_as` rests on
pub ruleset taking = (left_hit, left_skip, bare_first, bare_last)
