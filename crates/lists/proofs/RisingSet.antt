-- A rising set has the list's members, each once, in rising order.
use Rattle.std.specs.Prelude.{if◌then◌else◌}
use mathlib.Core.Path.{◌≡◌, refl, ◌∙◌}
use mathlib.Core.Bool.{Bool, true, false}
use mathlib.Core.Logic.{◌⊎◌, inl, inr, ⊎_elim}
use mathlib.Core.List.{List, [], ◌∷◌}
use Prim.Native.Nat.{ℕ, ◌+◌, ◌≤◌, ◌<◌}
use native.Mathlib.Omega.{arith}
use lib.Dec.{ltb, eqb}
use lib.ListN.{length}
use borrow.Author.Tests.{ltb-true, ltb-false, eqb-true, eqb-false}
use Rattle.lists.specs.Lists.{In, first, later, Pairs, insert, rising_set}
use Rattle.lists.proofs.Lists.{in_nil, in_cons, in_one}

abbrev Rising : List ℕ → Type 0
Rising l = Pairs (λ (x y : ℕ). x < y) l

-- an insertion by its tests
module _ (P : List ℕ → Type 0) (n x : ℕ) (l m : List ℕ) where
  cases : (n < x → P (n ∷ x ∷ l)) → (n ≡ x → P (x ∷ l)) → (x < n → P (x ∷ m)) → P (if ltb n x then n ∷ x ∷ l else if eqb n x then x ∷ l else x ∷ m)
  cases below same above = at (ltb n x) (eqb n x) refl refl
    where
      at : (a b : Bool) → ltb n x ≡ a → eqb n x ≡ b → P (if a then n ∷ x ∷ l else if b then x ∷ l else x ∷ m)
      at true b p q = below (ltb-true n x p)
      at false true p q = same (eqb-true n x q)
      at false false p q = let h = ltb-false n x p in let k = eqb-false n x q in above (omega arith)

insert_in : (n : ℕ) (l : List ℕ) (y : ℕ) → In y (insert n l) → (y ≡ n) ⊎ In y l
unfolding insert
insert_in n [] y h = inl (in_one h)
insert_in n (x ∷ l) y g = cases (λ (k : List ℕ). In y k → (y ≡ n) ⊎ In y (x ∷ l)) n x l (insert n l) (λ b h. in_cons h) (λ b h. inr h)
    (λ b h. ⊎_elim (λ e. inr (first e)) (λ i. ⊎_elim (λ e. inl e) (λ j. inr (later j)) (insert_in n l y i)) (in_cons h)) g

in_insert : (n : ℕ) (l : List ℕ) (y : ℕ) → (y ≡ n) ⊎ In y l → In y (insert n l)
unfolding insert
in_insert n [] y h = ⊎_elim (λ e. first e) (λ i. in_nil i) h
in_insert n (x ∷ l) y h = cases (In y) n x l (insert n l)
    (λ b. ⊎_elim (λ e. first e) (λ i. later i) h)
    (λ b. ⊎_elim (λ e. first (e ∙ b)) (λ i. i) h)
    (λ b. ⊎_elim (λ e. later (in_insert n l y (inl e))) (λ i. ⊎_elim (λ e. first e) (λ j. later (in_insert n l y (inr j))) (in_cons i)) h)

insert_rises : (n : ℕ) (l : List ℕ) → Rising l → Rising (insert n l)
unfolding insert
insert_rises n [] r = (λ y i. in_nil i, tt)
insert_rises n (x ∷ l) r = cases Rising n x l (insert n l)
    (λ b. (λ y i. ⊎_elim (λ e. omega arith) (λ j. let h = r.0 y j in omega arith) (in_cons i), r))
    (λ b. r)
    (λ b. (λ y i. ⊎_elim (λ e. omega arith) (λ j. r.0 y j) (insert_in n l y i), insert_rises n l r.1))

insert_length : (n : ℕ) (l : List ℕ) → (length (insert n l) ≤ 1 + length l) × (1 ≤ length (insert n l))
unfolding insert
insert_length n [] = omega arith
insert_length n (x ∷ l) = let h = insert_length n l in cases (λ (k : List ℕ). (length k ≤ 1 + length (x ∷ l)) × (1 ≤ length k)) n x l (insert n l) (λ b. omega arith) (λ b. omega arith) (λ b. omega arith)

pub rising_set_rises : (l : List ℕ) → Rising (rising_set l)
unfolding rising_set
rising_set_rises [] = tt
rising_set_rises (x ∷ l) = insert_rises x (rising_set l) (rising_set_rises l)

pub rising_set_in : (l : List ℕ) (y : ℕ) → In y (rising_set l) → In y l
unfolding rising_set
rising_set_in [] y h = h
rising_set_in (x ∷ l) y h = ⊎_elim (λ e. first e) (λ i. later (rising_set_in l y i)) (insert_in x (rising_set l) y h)

pub in_rising_set : (l : List ℕ) (y : ℕ) → In y l → In y (rising_set l)
unfolding rising_set
in_rising_set [] y h = h
in_rising_set (x ∷ l) y h = in_insert x (rising_set l) y (⊎_elim (λ e. inl e) (λ i. inr (in_rising_set l y i)) (in_cons h))

pub rising_set_few : (l : List ℕ) → length (rising_set l) ≤ length l
unfolding rising_set
rising_set_few [] = omega arith
rising_set_few (x ∷ l) = let a = insert_length x (rising_set l) in let b = rising_set_few l in omega arith

pub rising_set_some : (l : List ℕ) → 1 ≤ length l → 1 ≤ length (rising_set l)
unfolding rising_set
rising_set_some [] h = h
rising_set_some (x ∷ l) h = (insert_length x (rising_set l)).1
