-- The test that words are a program, row by row.
use Rattle.std.specs.Prelude.{if◌then◌else◌, Ok, Err}
use mathlib.Core.Path.{◌≡◌, refl, sym, ◌∙◌}
use mathlib.Core.Bool.{Bool, true, false, not, ◌&&◌, and-false}
use mathlib.Core.List.{List, [], ◌∷◌, ◌++◌}
use Prim.Native.Nat.{ℕ, ◌+◌, ◌-◌, ◌/◌, ◌%◌, ◌≤◌, ◌<◌}
use native.Mathlib.Omega.{arith}
use lib.ListN.{length}
use borrow.Author.Tests.{eq-eqb, ne_eqb}
use Rattle.lists.specs.Lists.{every}
use Rattle.model.specs.declared.Row.{Row}
use Rattle.model.specs.declared.Scan.{Scan}
use Rattle.model.specs.Load.{at_first, take_row, passed, lacking, finish, go_on, loaded, refused}
use Rattle.model.specs.Render.{in_range, take_rows, is_loaded, well_formed}
use Rattle.program_laws.proofs.Range.{in_range_of}
use Rattle.rows.specs.Scanning.{whole as scanned, Small, verdict_of}
use Rattle.rows.specs.declared.RuleScan.{RuleScan}
use Rattle.model.specs.declared.refusal.LoadError.{LoadError}
use Rattle.rows.proofs.Scans.{small_first, passed_counts}
use Rattle.program.specs.Rows.{row_at, rows_from, rows_of, program_formed}
use Rattle.program.proofs.Words.{rows_next, rows_none}

-- k rows have passed, and left the scan s: the words are well formed if the rows from k on are in range and pass
pub record Checking (words : List ℕ) (s : Scan) (k : ℕ) : Type 0 where
  pub whole : length words % 8 ≡ 0
  pub inside : k ≤ length words / 8
  pub small : Small s
  pub passed_rows : List Row
  pub so_far : well_formed (rows_of words)
      ≡ every in_range (rows_from words k (length words / 8 - k)) && is_loaded (take_rows s passed_rows (rows_from words k (length words / 8 - k)))

pub broken : (words : List ℕ) → (length words % 8 ≡ 0 → ⊥) → false ≡ program_formed words
unfolding program_formed
broken words h = rw (ne_eqb _ 0 h)

pub checks_begin : (words : List ℕ) (s : Scan) → length words % 8 ≡ 0 → s ≡ at_first → Checking words s 0
unfolding well_formed rows_of
checks_begin words s h e = rw e (record {
  whole = h;
  inside = omega arith;
  small = small_first;
  passed_rows = [];
  so_far = let z : length words / 8 - 0 ≡ length words / 8 = omega arith in rw z;
})

module _ {words : List ℕ} {s : Scan} {k : ℕ} (w : Checking words s k) where
  -- what the test says is what is left to see
  left : {b : Bool} → every in_range (rows_from words k (length words / 8 - k)) && is_loaded (take_rows s w.passed_rows (rows_from words k (length words / 8 - k))) ≡ b
      → b ≡ program_formed words
  unfolding program_formed
  left e = sym e ∙ sym w.so_far ∙ rw (eq-eqb _ 0 w.whole)

  pub checks_end : {b : Bool} → length words / 8 ≤ k → b ≡ lacking s → not b ≡ program_formed words
  unfolding every take_rows finish is_loaded
  checks_end {b} h e = left (rw (rows_none words k (length words / 8) h, ← e) (done b))
    where
      done : (b : Bool) → is_loaded (if b then refused 3 (s.count + 1) else loaded w.passed_rows) ≡ not b
      done true = refl
      done false = refl

  module _ (h : k < length words / 8) {r : Row} (e : r ≡ row_at words k) where
    -- one row more
    one_row : every in_range (rows_from words k (length words / 8 - k)) && is_loaded (take_rows s w.passed_rows (rows_from words k (length words / 8 - k)))
        ≡ (in_range r && every in_range (rows_from words (k + 1) (length words / 8 - (k + 1))))
        && is_loaded (go_on (λ t. take_rows t (w.passed_rows ++ (r ∷ [])) (rows_from words (k + 1) (length words / 8 - (k + 1)))) (take_row s r))
    unfolding every take_rows
    one_row = rw (rows_next words k (length words / 8) h, e)

    pub outside : in_range r ≡ false → false ≡ program_formed words
    outside z = left (one_row ∙ rw z)

    -- a row that is known to pass
    pub row_sure : (t : Scan) → in_range r ≡ true → take_row s r ≡ passed t → Checking words t (k + 1)
    unfolding go_on
    row_sure t q z = record {
      whole = w.whole;
      inside = omega arith;
      small = (passed_counts r t w.small z).small;
      passed_rows = w.passed_rows ++ (r ∷ []);
      so_far = w.so_far ∙ one_row ∙ rw (q, z);
    }

    module _ (D : List ℕ) where
      pub row_refused : (f : LoadError) → verdict_of (Err f) D ≡ take_row s r → false ≡ program_formed words
      unfolding verdict_of go_on is_loaded
      row_refused f v = left (one_row ∙ rw (← v, and-false))

      pub row_checked : (t : RuleScan) → verdict_of (Ok t) D ≡ take_row s r → in_range r ≡ true → Checking words (scanned t D) (k + 1)
      unfolding verdict_of
      row_checked t v q = row_sure (scanned t D) q (sym v)

-- a row in range has a predicate that a table of 256 holds
pub predicate_small : (r : Row) → in_range r ≡ true → r.p ≤ 255
predicate_small r q = (in_range_of r q).p

pub ruleset check_laws = (row_checked, predicate_small)
