-- The rows of a program as arrays of eight words, and what a search by halves over them finds.
use mathlib.Core.Path.{◌≡◌, refl, ap, sym, ◌∙◌}
use mathlib.Core.Bool.{Bool, true, false}
use mathlib.Core.Logic.{⊎_elim}
use mathlib.Core.List.{List, []}
use Prim.Native.Nat.{ℕ, zero, suc, ◌+◌, ◌*◌, ◌/◌, ◌<◌, ◌≤◌}
use native.Mathlib.Omega.{arith}
use lib.ListN.{length, take, drop, get_or}
use lib.Seq.{drop-drop}
use Rattle.std.specs.Simd.{first_chunks}
use Rattle.std.specs.List.Sorted.{IsPartitionedBy, IsPartitionPoint}
use Rattle.lists.specs.Lists.{Pairs}
use Rattle.lists.proofs.Tables.{equal_or_not}
use Rattle.table.specs.Rows.{row}
use Rattle.program.specs.Rows.{row_at, row_of, rows_of}
use Rattle.program_laws.specs.Lawful.{NotLater}
use Rattle.spans.specs.Spans.{before, Bound}
use Rattle.spans.proofs.Spans.{before_of, of_before, carried, rows_ordered}

chunks_long : (k : ℕ) (l : List ℕ) → length (first_chunks 8 k l) ≡ k
chunks_long zero l = refl
chunks_long (suc k) l = ap suc (chunks_long k (drop 8 l))

chunk_is : (k i : ℕ) (l d : List ℕ) → i < k → get_or (first_chunks 8 k l) i d ≡ row 8 l i
unfolding row
chunk_is zero i l d h = absurd (omega arith)
chunk_is (suc k) zero l d h = refl
chunk_is (suc k) (suc i) l d h =
    let e : 8 + i * 8 ≡ suc i * 8 = omega arith in
    chunk_is k i (drop 8 l) d (omega arith) ∙ ap (take 8) (drop-drop (i * 8) 8 l ∙ ap (λ (n : ℕ). drop n l) e)

module _ (words : List ℕ) (s n p : ℕ) where
  abbrev pub chunks : List (List ℕ)
  chunks = first_chunks 8 (length words / 8) words

  abbrev pub stands : List ℕ → Bool
  stands c = before s n p (row_of c)

  same : (i : ℕ) (d : List ℕ) → i < length words / 8 → stands (get_or chunks i d) ≡ before s n p (row_at words i)
  same i d h = ap stands (chunk_is (length words / 8) i words d h)

  -- what stands before a row that stands before the part, does so too
  pub parted : Pairs NotLater (rows_of words) → IsPartitionedBy stands chunks
  parted o i j d h k e =
      let z = chunks_long (length words / 8) words in
      let l : j < length words / 8 = omega arith in
      let f : before s n p (row_at words j) ≡ true = sym (same j d l) ∙ e in
      same i d (omega arith) ∙ ⊎_elim
      (λ q. ap (λ (x : ℕ). before s n p (row_at words x)) q ∙ f)
      (λ q. of_before s n p (row_at words i) (carried s n p (row_at words i) (row_at words j) (rows_ordered words o i j (omega (arith, q)) l) (before_of s n p (row_at words j) f)))
      (equal_or_not i j)

  pub point_bounds : (r : ℕ) → r ≤ length words / 8 → IsPartitionPoint (λ c. stands c ≡ true) (λ c. stands c ≡ false) chunks r → Bound words s n p r
  point_bounds r h w =
      let z = chunks_long (length words / 8) words in
      record {
        inside = h;
        earlier = λ i k. sym (same i [] (omega arith)) ∙ w.0 i [] (omega arith) k;
        later = λ i k l. sym (same i [] l) ∙ w.1 i [] k (omega arith);
      }
