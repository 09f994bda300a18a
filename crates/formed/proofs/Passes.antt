-- A pass in rising id, place by place.
use mathlib.Core.Path.{◌≡◌, refl, sym, ap, ◌∙◌}
use mathlib.Core.Bool.{Bool, true, false, ◌&&◌, and-eq-true_iff}
use mathlib.Core.List.{◌∷◌, map}
use Prim.Native.Nat.{ℕ, ◌+◌, ◌≤◌, ◌<◌}
use native.Mathlib.Omega.{arith}
use native.Mathlib.Numerals.{add-one}
use lib.Dec.{ltb}
use lib.ListN.{length, get_or}
use borrow.Author.Count.{below_more}
use borrow.Author.Tests.{ltb-true, lt-ltb}
use Rattle.lists.specs.Lists.{every, rises}
use Rattle.lists.specs.Tables.{tabulate}
use Rattle.lists.proofs.Lists.{clash}
use Rattle.lists.proofs.Tests.{and2, every_all}
use Rattle.lists.proofs.Tables.{get_in, tabulate_length, tabulate_at, tabulate_map}
use Rattle.lists.proofs.Counted.{refuted, same_truth, every_places, before, rises_places, rises_at}
use Rattle.formed.specs.Passes.{in_order}

module _ {A : Type 0} (id : A → ℕ) (f : A → Bool) (g : ℕ → A) where
  -- element k stands behind the one before it, and passes the test
  abbrev pub fits_at : ℕ → Bool
  fits_at k = ltb (before (λ (i : ℕ). id (g i)) k) (id (g k)) && f (g k)

  pub in_order_holds : (n : ℕ) → ((k : ℕ) → k < n → fits_at k ≡ true) → in_order id f (tabulate n g) ≡ true
  unfolding in_order
  in_order_holds n h =
      let a : rises (0 ∷ tabulate n (λ (i : ℕ). id (g i))) ≡ true = rises_places (λ (i : ℕ). id (g i)) n (λ k p. ltb-true _ _ ((and-eq-true_iff _ (f (g k))).0 (h k p)).0) in
      and2 (rw (tabulate_map id n g) at a)
      (every_places f (g 0) (tabulate n g) (λ i p.
      let q : i < n = omega (arith, tabulate_length n g) in
      ap f (tabulate_at n g i (g 0) q) ∙ ((and-eq-true_iff (ltb (before (λ (i : ℕ). id (g i)) i) (id (g i))) _).0 (h i q)).1))

  pub in_order_at : (n k : ℕ) → k < n → in_order id f (tabulate n g) ≡ true → fits_at k ≡ true
  unfolding in_order
  in_order_at n k h e =
      let a = (and-eq-true_iff (rises (0 ∷ map id (tabulate n g))) (every f (tabulate n g))).0 e in
      let l : length (tabulate n g) ≡ n = tabulate_length n g in
      let b : before (λ (i : ℕ). id (g i)) k < id (g k) = rises_at (λ (i : ℕ). id (g i)) n k (rw (tabulate_map id n g) a.0) h in
      and2 (lt-ltb _ _ b) (sym (ap f (tabulate_at n g k (g 0) h)) ∙ every_all f (tabulate n g) a.1 (get_or (tabulate n g) k (g 0)) (get_in (tabulate n g) k (g 0) (omega arith)))

  pub in_order_fails : (n k : ℕ) → k < n → fits_at k ≡ false → in_order id f (tabulate n g) ≡ false
  in_order_fails n k h e = refuted (λ t. clash (in_order_at n k h t) e)

  -- one element more, by its own test
  in_order_more : (k : ℕ) → in_order id f (tabulate (k + 1) g) ≡ (in_order id f (tabulate k g) && fits_at k)
  in_order_more k = same_truth
      (λ e. and2 (in_order_holds k (λ i p. in_order_at (k + 1) i (omega arith) e)) (in_order_at (k + 1) k (omega arith) e))
      (λ e. let a = (and-eq-true_iff _ _).0 e in in_order_holds (k + 1) (below_more (λ (i : ℕ). fits_at i ≡ true) k (λ i p. in_order_at k i p a.0) a.1))

  -- whether the first k are in order, and `last` is the id before element k
  pub record Tested (n k last : ℕ) (b : Bool) : Type 0 where
    pub within : k ≤ n
    pub last_is : last ≡ before (λ (i : ℕ). id (g i)) k
    pub is : b ≡ in_order id f (tabulate k g)

  pub tested_none : (n : ℕ) → Tested n 0 0 true
  tested_none n = record { within = omega arith; last_is = refl; is = sym (in_order_holds 0 (λ k h. absurd (omega arith))) }

  pub tested_more : (n k last : ℕ) (b : Bool) → Tested n k last b → k < n → Tested n (k + 1) (id (g k)) (b && (ltb last (id (g k)) && f (g k)))
  tested_more n k last b w h = record { within = omega arith; last_is = rw add-one; is = rw (w.is, w.last_is) (sym (in_order_more k)) }

  pub tested_all : (n k last : ℕ) (b : Bool) → Tested n k last b → n ≤ k → b ≡ in_order id f (tabulate n g)
  tested_all n k last b w h = let a = w.within in let e : k ≡ n = omega arith in w.is ∙ ap (λ (m : ℕ). in_order id f (tabulate m g)) e

  -- the first k have passed, and `last` is the id before element k
  pub record Passed (n k last : ℕ) : Type 0 where
    pub within : k ≤ n
    pub last_is : last ≡ before (λ (i : ℕ). id (g i)) k
    pub all : (i : ℕ) → i < k → fits_at i ≡ true

  pub passed_none : (n : ℕ) → Passed n 0 0
  passed_none n = record { within = omega arith; last_is = refl; all = λ i h. absurd (omega arith) }

  module _ (n k last : ℕ) (w : Passed n k last) where
    pub passed_more : k < n → ltb last (id (g k)) && f (g k) ≡ true → Passed n (k + 1) (id (g k))
    passed_more h e = record { within = omega arith; last_is = rw add-one; all = below_more _ k w.all (rw w.last_is at e) }

    pub passed_fails : k < n → ltb last (id (g k)) && f (g k) ≡ false → in_order id f (tabulate n g) ≡ false
    passed_fails h e = in_order_fails n k h (rw w.last_is at e)

    pub passed_all : n ≤ k → in_order id f (tabulate n g) ≡ true
    passed_all h = in_order_holds n (λ i p. w.all i (omega arith))

-- what `atoms_formed` and `plans_formed` rest on
pub ruleset testing = (tested_none, tested_more, tested_all)

pub ruleset passing = (passed_none, passed_more, passed_fails, passed_all)
