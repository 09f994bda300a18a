-- A list by its places: the first element that passes a test, whether some element does, and what the first one decides.
use Rattle.std.specs.Prelude.{Option, Some, None, MatchOption, option_map, option_to_list}
use Rattle.std.specs.List.{range_with_len, list_any}
use mathlib.Core.Path.{◌≡◌, refl, sym, ap, ◌∙◌, subst}
use mathlib.Core.Bool.{Bool, true, false, ◌||◌}
use mathlib.Core.List.{List, [], ◌∷◌}
use Prim.Native.Nat.{ℕ, zero, suc, ◌+◌, ◌<◌, ◌≤◌}
use native.Mathlib.Omega.{arith}
use lib.ListN.{length, drop, drop_of_length-le}
use Rattle.lists.specs.Lists.{In, first, put, keep, first_of, is_empty, some}
use Rattle.lists.specs.Tables.{tabulate}
use Rattle.lists.proofs.Lists.{clash}
use Rattle.lists.proofs.Some.{first_in}
use Rattle.lists.proofs.Tables.{tabulate_length, tabulate_from}

module _ {A : Type 0} (f : A → Bool) (n : ℕ) (g : ℕ → A) where
  drop_past : (k : ℕ) → n ≤ k → drop k (tabulate n g) ≡ []
  drop_past k h = let z : length (tabulate n g) ≡ n = tabulate_length n g in drop_of_length-le (tabulate n g) {i = k} (omega arith)

  -- none before place k passes
  keep_from : (k : ℕ) → k ≤ n → ((i : ℕ) → i < k → f (g i) ≡ false) → keep f (tabulate n g) ≡ keep f (drop k (tabulate n g))
  keep_from zero h none = refl
  keep_from (suc k) h none =
      let e : k + 1 ≡ suc k = omega arith in
      keep_from k (omega arith) (λ i p. none i (omega arith))
      ∙ ap (keep f) (tabulate_from n g k (omega arith)) ∙ ap (λ (b : Bool). put b (g k) (keep f (drop (k + 1) (tabulate n g)))) (none k (omega arith))
      ∙ ap (λ (m : ℕ). keep f (drop m (tabulate n g))) e

  -- a search of the places found the first that passes
  pub first_kept : (r : Option ℕ) →
      MatchOption r ((k : ℕ) → 0 ≤ k → k < n → f (g k) ≡ false) (λ i. (0 ≤ i) × (i < n) × (f (g i) ≡ true) × ((k : ℕ) → 0 ≤ k → k < i → f (g k) ≡ false)) →
      first_of (keep f (tabulate n g)) ≡ option_to_list (option_map g r)
  first_kept None none = ap first_of (keep_from n (omega arith) (λ k p. none k (omega arith) p) ∙ ap (keep f) (drop_past n (omega arith)))
  first_kept (Some i) h =
      ap first_of (keep_from i (omega (arith, h.1)) (λ k p. h.3 k (omega arith) p) ∙ ap (keep f) (tabulate_from n g i h.1))
      ∙ ap (λ (b : Bool). first_of (put b (g i) (keep f (drop (i + 1) (tabulate n g))))) h.2

  -- a test of the places from k on tests the elements from there on
  pub some_from : (m k : ℕ) → k + m ≡ n → list_any (λ (i : ℕ). f (g i)) (range_with_len k m) ≡ some f (drop k (tabulate n g))
  unfolding some
  some_from zero k e = sym (ap (some f) (drop_past k (omega arith)))
  some_from (suc m) k e = ap (λ (b : Bool). f (g k) || b) (some_from m (k + 1) (omega arith)) ∙ sym (ap (some f) (tabulate_from n g k (omega arith)))

-- a function of lists, where the first element is known, or that there is none
module _ {A B : Type 0} (F : List A → B) (l : List A) where
  pub at_none : first_of l ≡ [] → F l ≡ F []
  at_none e = ap F (none l e)
    where
      none : (m : List A) → first_of m ≡ [] → m ≡ []
      none [] e = refl
      none (x ∷ m) e = clash refl (ap is_empty (sym e))

  pub at_first : (x : A) (y : B) → first_of l ≡ x ∷ [] → ((m : List A) → F (x ∷ m) ≡ y) → F l ≡ y
  at_first x y e h = let r = first_in l (subst (In x) (sym e) (first refl)) in ap F r.1 ∙ h r.0
