-- Tests that compute, and what they say: every element, every pair, a rising list, numbers in turn.
use mathlib.Core.Path.{◌≡◌, refl, ap, ◌∙◌}
use mathlib.Core.Bool.{Bool, true, false, not, ◌&&◌, ◌||◌, and-eq-true_iff, false≢true}
use mathlib.Core.Logic.{⊎_elim}
use mathlib.Core.List.{List, [], ◌∷◌, ◌++◌, map}
use Prim.Native.Nat.{ℕ, zero, suc, ◌+◌, ◌≤◌, ◌<◌}
use native.Mathlib.Omega.{arith}
use lib.Dec.{ltb, eqb}
use lib.ListN.{length}
use borrow.Author.Tests.{ltb-true, lt-ltb, eqb-true, eq-eqb}
use Rattle.lists.specs.Lists.{In, first, later, Pairs, every, in_pairs, rises, count_up, same}
use Rattle.lists.proofs.Lists.{clash, in_nil, in_cons, in_map}

-- tests joined
pub and2 : {a b : Bool} → a ≡ true → b ≡ true → (a && b) ≡ true
and2 {a} {b} p q = (and-eq-true_iff a b).1 (p, q)

pub or_left : {a : Bool} (b : Bool) → a ≡ true → (a || b) ≡ true
or_left {a = true} b e = refl
or_left {a = false} b e = absurd (false≢true e)

pub false_not : (b : Bool) → b ≡ false → not b ≡ true
false_not b e = rw e

-- a test of each element; a test of each pair
module _ {A : Type 0} where
  pub every_all : (f : A → Bool) (l : List A) → every f l ≡ true → (x : A) → In x l → f x ≡ true
  unfolding every
  every_all f [] e x h = in_nil h
  every_all f (y ∷ l) e x h =
      let r = (and-eq-true_iff (f y) (every f l)).0 e in
      ⊎_elim (λ q. ap f q ∙ r.0) (λ i. every_all f l r.1 x i) (in_cons h)

  pub all_every : (f : A → Bool) (l : List A) → ((x : A) → In x l → f x ≡ true) → every f l ≡ true
  unfolding every
  all_every f [] h = refl
  all_every f (y ∷ l) h = and2 (h y (first refl)) (all_every f l (λ x i. h x (later i)))

  pub tests_pairs : (r : A → A → Bool) (R : A → A → Type 0) → ((x y : A) → r x y ≡ true → R x y) →
      (l : List A) → in_pairs r l ≡ true → Pairs R l
  unfolding in_pairs
  tests_pairs r R f [] e = tt
  tests_pairs r R f (x ∷ l) e =
      let k = (and-eq-true_iff (every (r x) l) (in_pairs r l)).0 e in
      (λ y i. f x y (every_all (r x) l k.0 y i), tests_pairs r R f l k.1)

  pub pairs_tests : (r : A → A → Bool) (R : A → A → Type 0) → (l : List A) →
      ((x : A) → In x l → (y : A) → In y l → R x y → r x y ≡ true) → Pairs R l → in_pairs r l ≡ true
  unfolding in_pairs
  pairs_tests r R [] f h = refl
  pairs_tests r R (x ∷ l) f h =
      and2 (all_every (r x) l (λ y i. f x (first refl) y (later i) (h.0 y i)))
      (pairs_tests r R l (λ y i z j. f y (later i) z (later j)) h.1)

-- each number is below the next exactly if it is below all that follow
pub rises_pairs : (l : List ℕ) → rises l ≡ true → Pairs (λ (x y : ℕ). x < y) l
unfolding rises
rises_pairs [] e = tt
rises_pairs (x ∷ []) e = (λ y h. in_nil h, tt)
rises_pairs (x ∷ y ∷ l) e =
    let r = (and-eq-true_iff (ltb x y) (rises (y ∷ l))).0 e in
    let below : x < y = ltb-true x y r.0 in
    let rest : Pairs (λ (x y : ℕ). x < y) (y ∷ l) = rises_pairs (y ∷ l) r.1 in
    (λ z h. ⊎_elim (λ q. omega arith) (λ i. let k = rest.0 z i in omega arith) (in_cons h), rest)

pub pairs_rises : (l : List ℕ) → Pairs (λ (x y : ℕ). x < y) l → rises l ≡ true
unfolding rises
pairs_rises [] h = refl
pairs_rises (x ∷ []) h = refl
pairs_rises (x ∷ y ∷ l) h = and2 (lt-ltb x y (h.0 y (first refl))) (pairs_rises (y ∷ l) h.1)

-- a relation of the images along a list, from the relation along the images
pub map_pairs : {A B : Type 0} (R : B → B → Type 0) (f : A → B) (l : List A) → Pairs R (map f l) → Pairs (λ x y. R (f x) (f y)) l
map_pairs R f [] h = tt
map_pairs R f (x ∷ l) h = (λ y i. h.0 (f y) (in_map f i), map_pairs R f l h.1)

-- numbers in turn
pub count_up_in : (k n x : ℕ) → In x (count_up k n) → (k ≤ x) × (x < k + n)
count_up_in k zero x i = in_nil i
count_up_in k (suc n) x i = ⊎_elim (λ e. omega arith) (λ h. let r = count_up_in (suc k) n x h in omega arith) (in_cons i)

pub count_up_rises : (k n : ℕ) → Pairs (λ (x y : ℕ). x < y) (count_up k n)
count_up_rises k zero = tt
count_up_rises k (suc n) = (λ y i. (count_up_in (suc k) n y i).0, count_up_rises (suc k) n)

pub length_count_up : (k n : ℕ) → length (count_up k n) ≡ n
length_count_up k zero = refl
length_count_up k (suc n) = ap suc (length_count_up (suc k) n)

pub count_up_more : (k m : ℕ) {l : List ℕ} → l ≡ count_up (suc k) m → k ∷ l ≡ count_up k (1 + m)
count_up_more k m e = let h : 1 + m ≡ suc m = omega arith in rw (h, e)

pub count_up_append : (k a b m : ℕ) → m ≡ k + a → count_up k a ++ count_up m b ≡ count_up k (a + b)
count_up_append k zero b m e =
    let h : 0 + b ≡ b = omega arith in
    let g : m ≡ k = omega arith in
    rw (h, g)
count_up_append k (suc a) b m e =
    let h : suc a + b ≡ suc (a + b) = omega arith in
    rw h (ap {B = List ℕ} (λ (l : List ℕ). k ∷ l) (count_up_append (suc k) a b m (omega arith)))

-- equal lists, as a test
pub same_equal : (l m : List ℕ) → same l m ≡ true → l ≡ m
unfolding same
same_equal [] [] e = refl
same_equal [] (y ∷ m) e = clash e refl
same_equal (x ∷ l) [] e = clash e refl
same_equal (x ∷ l) (y ∷ m) e =
    let a = (and-eq-true_iff (eqb x y) (same l m)).0 e in
    let h = eqb-true x y a.0 in
    let t = same_equal l m a.1 in
    λ i. h i ∷ t i

pub same_self : (l : List ℕ) → same l l ≡ true
unfolding same
same_self [] = refl
same_self (x ∷ l) = and2 (eq-eqb x x refl) (same_self l)
