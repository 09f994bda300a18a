-- Limits of the values: one operand lowers its own limit, and all rows of a body in turn leave the limits of the body.
use mathlib.Core.Path.{◌≡◌, refl, sym, ap, ◌∙◌}
use mathlib.Core.Bool.{Bool, true, false, not, ◌&&◌, and_assoc, and-true}
use mathlib.Core.Logic.{⊎_elim, ◌≢◌}
use mathlib.Core.List.{List, [], map}
use Prim.Native.Nat.{ℕ, zero, suc, ◌+◌, ◌-◌, ◌≤◌, ◌<◌}
use native.Mathlib.Omega.{arith}
use lib.Dec.{leb, eqb}
use lib.ListN.{length, get_or, set, replicate, get_or-replicate}
use lib.Seq.{get_or-set_same, get_or-set_other}
use borrow.Author.Tests.{eqb-true, eqb-false, le-leb, lt-leb, leb-true, leb-false}
use Rattle.lists.specs.Lists.{every, count_up}
use Rattle.lists.proofs.Lists.{test}
use Rattle.lists.proofs.Tables.{equal_or_not, tabulate_get}
use Rattle.lists.proofs.Cuts.{within_in, count_up_next, count_up_none}
use Rattle.model.specs.declared.Row.{Row}
use Rattle.model.specs.Configuration.{no_value}
use Rattle.model.specs.WellFormed.{has_value, row_has_values}
use Rattle.program.specs.Rows.{row_at, rows_from}
use Rattle.formed_plans.specs.Plans.{within_limits, Limits, Demanded, Limited}

-- a test of the places that is narrower at one of them
module _ (f g : ℕ → Bool) (b : Bool) (p : ℕ) (same : (i : ℕ) → i ≢ p → f i ≡ g i) (here : f p ≡ (g p && b)) where
  behind : (k n : ℕ) → p < k → every f (count_up k n) ≡ every g (count_up k n)
  unfolding every
  behind k zero h = refl
  behind k (suc n) h = rw (same k (λ e. omega arith), behind (suc k) n (omega arith))

  swap : (x y z : Bool) → (x && y) && z ≡ (x && z) && y
  swap true true z = sym (and-true z)
  swap true false true = refl
  swap true false false = refl
  swap false y z = refl

  narrower : (k n : ℕ) → k ≤ p → p < k + n → every f (count_up k n) ≡ (every g (count_up k n) && b)
  unfolding every
  narrower k zero h l = absurd (omega arith)
  narrower k (suc n) h l = ⊎_elim
      (λ e. rw (behind (suc k) n (omega arith), ap f e ∙ here ∙ ap (λ (m : ℕ). g m && b) (sym e)) (swap (g k) b (every g (count_up (suc k) n))))
      (λ e. rw (same k e, narrower (suc k) n (omega arith) (omega arith)) (sym (and_assoc (g k) (every g (count_up (suc k) n)) b)))
      (equal_or_not k p)

-- below 65,536: not above it, and another number; the limit before may be either
one_lower : (x m : ℕ) → 65535 ≤ m → m ≤ no_value → leb x 65535 ≡ (leb x m && not (eqb x no_value))
one_lower x m h k = at (eqb x no_value) refl
  where
    at : (b : Bool) → eqb x no_value ≡ b → leb x 65535 ≡ (leb x m && not b)
    at true e = let d = eqb-true x no_value e in let n : leb x 65535 ≡ false = lt-leb x 65535 (omega arith) in n ∙ sym (both (leb x m))
      where
        both : (b : Bool) → (b && false) ≡ false
        both true = refl
        both false = refl
    at false e = let d = eqb-false x no_value e in ⊎_elim
        (λ l. let n = leb-true x 65535 l in let a : leb x m ≡ true = le-leb x m (omega arith) in rw (l, a))
        (λ l. let n = leb-false x 65535 l in let a : leb x m ≡ false = lt-leb x m (omega arith) in rw (l, a))
        (test (leb x 65535))

module _ (limits : List ℕ) (long : length limits ≡ 8) (w : Limits limits) (x : ℕ) (low : 1 ≤ x) (high : x ≤ 8) where
  abbrev lowered : List ℕ
  lowered = set limits (8 - x) 65535

  lowered_at : get_or lowered (8 - x) 0 ≡ 65535
  lowered_at = get_or-set_same limits (8 - x) 65535 0 (omega arith)

  pub demanded_bounds : Limits (set limits (8 - x) 65535)
  demanded_bounds = record {
    low = λ i h. ⊎_elim
        (λ e. let z = ap (λ (n : ℕ). get_or lowered n 0) e in let y = lowered_at in omega arith)
        (λ e. let z = get_or-set_other limits (8 - x) i 65535 0 e in let y = w.low i h in omega arith)
        (equal_or_not i (8 - x));
    high = λ i h. ⊎_elim
        (λ e. let z = ap (λ (n : ℕ). get_or lowered n 0) e in let y = lowered_at in omega arith)
        (λ e. let z = get_or-set_other limits (8 - x) i 65535 0 e in let y = w.high i h in omega arith)
        (equal_or_not i (8 - x));
  }

  pub demanded_value : Demanded limits x (set limits (8 - x) 65535)
  unfolding within_limits
  demanded_value v =
      let e = within_in 1 8 x low high in
      narrower
      (λ i. leb (get_or v i no_value) (get_or lowered i 0))
      (λ i. leb (get_or v i no_value) (get_or limits i 0))
      (has_value v x)
      (8 - x)
      (λ i h. ap (leb (get_or v i no_value)) (get_or-set_other limits (8 - x) i 65535 0 h))
      (rw (lowered_at, e) (one_lower (get_or v (8 - x) no_value) (get_or limits (8 - x) 0) (w.low (8 - x) (omega arith)) (w.high (8 - x) (omega arith))))
      0 8 (omega arith) (omega arith)

regroup : (a b c d e : Bool) → (((a && b) && c) && d) && e ≡ a && ((b && (c && d)) && e)
regroup a b c d e = simp and_assoc

-- before any row
pub limits_start : Limits (replicate 8 no_value)
limits_start = record {
  low = λ i h. let e = get_or-replicate 8 i no_value 0 h in omega arith;
  high = λ i h. let e = get_or-replicate 8 i no_value 0 h in omega arith;
}

-- each variable of the rows from k up to n has a value
abbrev valued : List ℕ → ℕ → ℕ → List ℕ → Bool
valued program k n v = every (row_has_values v) (rows_from program k (n - k))

-- within the limits so far, and with a value for each variable of the rows from j on
pub record Limiting (program : List ℕ) (from to j : ℕ) (limits : List ℕ) : Type 0 where
  pub bounds : Limits limits
  pub ahead : (v : List ℕ) → length v ≡ 8 → (within_limits limits v && valued program j to v) ≡ (every (λ x. leb x no_value) v && valued program from to v)

start_is : (v : List ℕ) → length v ≡ 8 → within_limits (replicate 8 no_value) v ≡ every (λ x. leb x no_value) v
unfolding within_limits every
start_is v h = ap (every (λ x. leb x no_value)) (tabulate_get 8 v no_value h)

module _ (program : List ℕ) (from to : ℕ) where
  pub limiting_starts : Limiting program from to from (replicate 8 no_value)
  limiting_starts = record { bounds = limits_start; ahead = λ v h. ap (λ (b : Bool). b && valued program from to v) (start_is v h) }

  module _ (j : ℕ) (h : j < to) (limits first second third : List ℕ) (r : Row) (e : r ≡ row_at program j) (w : Limiting program from to j limits)
      (a : Demanded limits r.i first) (b : Demanded first r.a second) (c : Demanded second r.b third) where
    pub limiting_more : Limits third → Limiting program from to (j + 1) third
    unfolding every row_has_values
    limiting_more m = record {
      bounds = m;
      ahead = λ v l.
          let rest = valued program (j + 1) to v in
          let z = ap (map (row_at program)) (count_up_next j to h) in
          rw (c v, b v, a v) (regroup (within_limits limits v) (has_value v r.i) (has_value v r.a) (has_value v r.b) rest
          ∙ ap (λ (q : Row). within_limits limits v && (row_has_values v q && rest)) e
          ∙ (rw z at (w.ahead v l)));
    }

  pub limiting_done : (j : ℕ) → to ≤ j → (limits : List ℕ) → Limiting program from to j limits → Limited limits (rows_from program from (to - from))
  unfolding every
  limiting_done j h limits w v l =
      let z : rows_from program j (to - j) ≡ [] = ap (map (row_at program)) (count_up_none j to h) in
      sym (and-true (within_limits limits v)) ∙ (rw z at (w.ahead v l))
