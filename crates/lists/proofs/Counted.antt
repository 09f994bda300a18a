-- Tests of lists by their places: what a loop that counts up has shown, and what one place that fails refutes.
use Rattle.std.specs.Prelude.{if◌then◌else◌}
use mathlib.Core.Path.{◌≡◌, refl, sym, ap, ◌∙◌}
use mathlib.Core.Bool.{Bool, true, false, ◌&&◌, and-eq-true_iff}
use mathlib.Core.Logic.{⊎_elim}
use mathlib.Core.List.{List, [], ◌∷◌, map}
use Prim.Native.Nat.{ℕ, zero, suc, ◌+◌, ◌-◌, ◌≤◌, ◌<◌}
use native.Mathlib.Omega.{arith}
use lib.Dec.{leb, ltb, eqb}
use lib.ListN.{length, get_or, drop, length-map, get_or-map}
use borrow.Author.Tests.{eqb-true, eq-eqb, leb-true, le-leb, le-ltb}
use Rattle.lists.specs.Lists.{In, first, later, first_of, Pairs, every, some, in_pairs, rises, count_up, highest}
use Rattle.lists.specs.Tables.{tabulate, index_of, trim_cons, trimmed}
use Rattle.lists.proofs.Lists.{test, clash, in_nil, in_one, in_cast, in_map, in_member, all_snoc, pairs_snoc}
use Rattle.lists.proofs.Tests.{and2, every_all, tests_pairs, rises_pairs, pairs_rises, length_count_up}
use Rattle.lists.proofs.Cuts.{if_either}
use Rattle.lists.proofs.Some.{some_in, in_some}
use Rattle.lists.proofs.Tables.{get_in, get_within, in_get, pairs_get, tabulate_length, tabulate_at, index_found, index_member, index_at, trimmed_at}

-- a test is false where its truth leads to what is not
pub refuted : {b : Bool} → (b ≡ true → ⊥) → b ≡ false
refuted {b} h = ⊎_elim (λ t. absurd (h t)) (λ t. t) (test b)

-- two tests with the same truth
pub same_truth : {a b : Bool} → (a ≡ true → b ≡ true) → (b ≡ true → a ≡ true) → a ≡ b
same_truth {a} {b} f g = ⊎_elim (λ t. t ∙ sym (f t)) (λ t. t ∙ sym (refuted (λ u. clash (g u) t))) (test a)

-- a test of each element
module _ {A : Type 0} (f : A → Bool) where
  pub every_places : (d : A) (l : List A) → ((i : ℕ) → i < length l → f (get_or l i d) ≡ true) → every f l ≡ true
  unfolding every
  every_places d [] h = refl
  every_places d (x ∷ l) h = and2 (h 0 (omega arith)) (every_places d l (λ i p. h (suc i) (omega arith)))

  pub every_fails : (d : A) (l : List A) (k : ℕ) → k < length l → f (get_or l k d) ≡ false → every f l ≡ false
  every_fails d l k h e = refuted (λ t. clash (every_all f l t (get_or l k d) (get_in l k d h)) e)

-- a test of each pair
module _ {A : Type 0} (r : A → A → Bool) (d : A) where
  pub in_pairs_places : (l : List A) → ((i k : ℕ) → i < k → k < length l → r (get_or l i d) (get_or l k d) ≡ true) → in_pairs r l ≡ true
  unfolding in_pairs
  in_pairs_places [] h = refl
  in_pairs_places (x ∷ l) h = and2 (every_places (r x) d l (λ k p. h 0 (suc k) (omega arith) (omega arith))) (in_pairs_places l (λ i k p q. h (suc i) (suc k) (omega arith) (omega arith)))

  pub in_pairs_fails : (l : List A) (i k : ℕ) → i < k → k < length l → r (get_or l i d) (get_or l k d) ≡ false → in_pairs r l ≡ false
  in_pairs_fails l i k p q e = refuted (λ t. clash (pairs_get (λ x y. r x y ≡ true) l d i k (tests_pairs r (λ x y. r x y ≡ true) (λ x y h. h) l t) p q) e)

-- a test of the element with a given number, where the numbers rise
module _ {A : Type 0} (id : A → ℕ) (f : A → Bool) (s : ℕ) (l : List A) where
  abbrev numbered : A → Bool
  numbered x = eqb (id x) s && f x

  number_at : (d : A) (k : ℕ) → k < length l → get_or (map id l) k 0 ≡ id (get_or l k d)
  number_at d k h = let z = length-map l id in get_within (map id l) k 0 (id d) (omega arith) ∙ get_or-map id l k d

  pub some_found : (d : A) → Pairs (λ (x y : ℕ). x < y) (map id l) → index_of s (map id l) < length l → some (λ x. eqb (id x) s && f x) l ≡ f (get_or l (index_of s (map id l)) d)
  some_found d rising h = same_truth to from
    where
      to : some numbered l ≡ true → f (get_or l (index_of s (map id l)) d) ≡ true
      to t =
          let x = some_in numbered l t in
          let a = (and-eq-true_iff (eqb (id x.0) s) (f x.0)).0 x.2 in
          let k = in_get d x.1 in
          let q = k.1 in
          let z = length-map l id in
          let e : get_or (map id l) k.0 0 ≡ s = number_at d k.0 k.1 ∙ ap id k.2 ∙ eqb-true (id x.0) s a.0 in
          let j : k.0 ≡ index_of s (map id l) = index_at (map id l) k.0 rising (omega arith) ∙ ap (λ (v : ℕ). index_of v (map id l)) e in
          ap (λ (i : ℕ). f (get_or l i d)) (sym j) ∙ ap f k.2 ∙ a.1

      from : f (get_or l (index_of s (map id l)) d) ≡ true → some numbered l ≡ true
      from t =
          let z = length-map l id in
          in_some numbered (get_in l (index_of s (map id l)) d h)
          (and2 (eq-eqb (id (get_or l (index_of s (map id l)) d)) s (sym (number_at d (index_of s (map id l)) h) ∙ index_found s (map id l) (omega arith))) t)

  pub some_absent : length l ≤ index_of s (map id l) → some (λ x. eqb (id x) s && f x) l ≡ false
  some_absent h = refuted (λ t.
      let x = some_in numbered l t in
      let a = (and-eq-true_iff (eqb (id x.0) s) (f x.0)).0 x.2 in
      let e = eqb-true (id x.0) s a.0 in
      let z = length-map l id in
      let m = index_member s (map id l) in
      let g : ltb (index_of s (map id l)) (length (map id l)) ≡ false = le-ltb (index_of s (map id l)) (length (map id l)) (omega arith) in
      clash (in_member (in_cast (sym e) (in_map id x.1))) (sym m ∙ g))

-- what stands past the end, and what stands first behind a place
module _ {A : Type 0} where
  pub get_past : (l : List A) (k : ℕ) (d : A) → length l ≤ k → get_or l k d ≡ d
  get_past [] k d h = refl
  get_past (x ∷ l) zero d h = absurd (omega arith)
  get_past (x ∷ l) (suc k) d h = get_past l k d (omega arith)

  pub first_behind : (d : A) (l : List A) (k : ℕ) → k < length l → first_of (drop k l) ≡ get_or l k d ∷ []
  first_behind d [] k h = absurd (omega arith)
  first_behind d (x ∷ l) zero h = refl
  first_behind d (x ∷ l) (suc k) h = first_behind d l k (omega arith)

  pub none_behind : (l : List A) (k : ℕ) → length l ≤ k → first_of (drop k l) ≡ []
  none_behind [] zero h = refl
  none_behind [] (suc k) h = refl
  none_behind (x ∷ l) zero h = absurd (omega arith)
  none_behind (x ∷ l) (suc k) h = none_behind l k (omega arith)

  -- a function of numbers in turn
  pub counted_at : (f : ℕ → A) (d : A) (k n i : ℕ) → i < n → get_or (map f (count_up k n)) i d ≡ f (k + i)
  counted_at f d k zero i h = absurd (omega arith)
  counted_at f d k (suc n) zero h = let e : k ≡ k + 0 = omega arith in ap f e
  counted_at f d k (suc n) (suc i) h = let e : suc k + i ≡ k + suc i = omega arith in counted_at f d (suc k) n i (omega arith) ∙ ap f e

  pub counted_long : (f : ℕ → A) (k n : ℕ) → length (map f (count_up k n)) ≡ n
  counted_long f k n = length-map (count_up k n) f ∙ length_count_up k n

  -- a test of each, from place a to place b
  pub every_counted : (f : A → Bool) (g : ℕ → A) (a b : ℕ) → ((k : ℕ) → a ≤ k → k < b → f (g k) ≡ true) → every f (map g (count_up a (b - a))) ≡ true
  every_counted f g a b h =
      let z = counted_long g a (b - a) in
      every_places f (g 0) (map g (count_up a (b - a))) (λ i p. ap f (counted_at g (g 0) a (b - a) i (omega arith)) ∙ h (a + i) (omega arith) (omega arith))

  pub counted_fails : (f : A → Bool) (g : ℕ → A) (a b k : ℕ) → a ≤ k → k < b → f (g k) ≡ false → every f (map g (count_up a (b - a))) ≡ false
  counted_fails f g a b k p q e =
      let z = counted_long g a (b - a) in
      let n : a + (k - a) ≡ k = omega arith in
      every_fails f (g 0) (map g (count_up a (b - a))) (k - a) (omega arith) (ap f (counted_at g (g 0) a (b - a) (k - a) (omega arith) ∙ ap g n) ∙ e)

-- the greatest of numbers that do not fall is the last
pub highest_last : (l : List ℕ) (k : ℕ) → Pairs (λ (x y : ℕ). x ≤ y) l → suc k ≡ length l → highest l ≡ get_or l k 0
unfolding highest
highest_last [] k p h = absurd (omega arith)
highest_last (x ∷ []) zero p h = at (leb x 0) refl
  where
    at : (b : Bool) → leb x 0 ≡ b → (if b then 0 else x) ≡ x
    at true e = let a = leb-true x 0 e in omega arith
    at false e = refl
highest_last (x ∷ []) (suc k) p h = absurd (omega arith)
highest_last (x ∷ y ∷ l) zero p h = absurd (omega arith)
highest_last (x ∷ y ∷ l) (suc k) p h =
    let e : highest (y ∷ l) ≡ get_or (y ∷ l) k 0 = highest_last (y ∷ l) k p.1 (omega arith) in
    let a = p.0 (get_or (y ∷ l) k 0) (get_in (y ∷ l) k 0 (omega arith)) in
    rw (e, le-leb x (get_or (y ∷ l) k 0) a)

pub highest_below : (l : List ℕ) (b : ℕ) → ((x : ℕ) → In x l → x ≤ b) → highest l ≤ b
unfolding highest
highest_below [] b h = omega arith
highest_below (x ∷ l) b h = if_either (λ (n : ℕ). n ≤ b) (leb x (highest l)) (highest_below l b (λ y i. h y (later i))) (h x (first refl))

-- a relation along a list holds where a closer one does
pub pairs_weaker : {A : Type 0} (R S : A → A → Type 0) (l : List A) → ((x y : A) → R x y → S x y) → Pairs R l → Pairs S l
pairs_weaker R S [] f p = tt
pairs_weaker R S (x ∷ l) f p = (λ y i. f x y (p.0 y i), pairs_weaker R S l f p.1)

-- numbers that rise from above 0: each is above the one before it
abbrev pub before : (ℕ → ℕ) → ℕ → ℕ
before f zero = 0
before f (suc k) = f k

module _ (f : ℕ → ℕ) where
  risen : (n : ℕ) → ((k : ℕ) → k < n → before f k < f k) → Pairs (λ (x y : ℕ). x < y) (0 ∷ tabulate n f) × ((x : ℕ) → In x (0 ∷ tabulate n f) → x ≤ before f n)
  risen zero h = ((λ y i. in_nil i, tt), λ x i. let e = in_one i in omega arith)
  risen (suc n) h =
      let r = risen n (λ k p. h k (omega arith)) in
      let b = h n (omega arith) in (
        pairs_snoc (λ (x y : ℕ). x < y) (0 ∷ tabulate n f) (f n) r.0 (λ x i. let a = r.1 x i in omega arith),
        all_snoc (λ (x : ℕ). x ≤ f n) (0 ∷ tabulate n f) (f n) (λ x i. let a = r.1 x i in omega arith) (omega arith),
      )

  pub rises_places : (n : ℕ) → ((k : ℕ) → k < n → before f k < f k) → rises (0 ∷ tabulate n f) ≡ true
  rises_places n h = pairs_rises (0 ∷ tabulate n f) (risen n h).0

  pub rises_at : (n k : ℕ) → rises (0 ∷ tabulate n f) ≡ true → k < n → before f k < f k
  rises_at n k e h =
      let l : length (tabulate n f) ≡ n = tabulate_length n f in
      let p = pairs_get (λ (x y : ℕ). x < y) (0 ∷ tabulate n f) 0 k (suc k) (rises_pairs (0 ∷ tabulate n f) e) (omega arith) (omega arith) in
      let a : get_or (tabulate n f) k 0 ≡ f k = tabulate_at n f k 0 h in
      let b = earlier k h in
      omega arith
    where
      earlier : (k : ℕ) → k < n → get_or (0 ∷ tabulate n f) k 0 ≡ before f k
      earlier zero h = refl
      earlier (suc k) h = tabulate_at n f k 0 (omega arith)

-- a list without the zeros at its end
pub trimmed_few : (l : List ℕ) → length (trimmed l) ≤ length l
unfolding trimmed
trimmed_few [] = omega arith
trimmed_few (x ∷ l) = at x (trimmed l) (trimmed_few l)
  where
    at : (x : ℕ) (t : List ℕ) → length t ≤ length l → length (trim_cons x t) ≤ suc (length l)
    at zero [] h = omega arith
    at zero (y ∷ t) h = omega arith
    at (suc x) t h = omega arith

-- four numbers are known by what is read of the list without its zeros
pub trimmed_four : (l : List ℕ) → length l ≡ 4 → trimmed (get_or (trimmed l) 0 0 ∷ get_or (trimmed l) 1 0 ∷ get_or (trimmed l) 2 0 ∷ get_or (trimmed l) 3 0 ∷ []) ≡ trimmed l
trimmed_four l h = rw (trimmed_at l 0, trimmed_at l 1, trimmed_at l 2, trimmed_at l 3) (ap trimmed (at l h))
  where
    at : (l : List ℕ) → length l ≡ 4 → get_or l 0 0 ∷ get_or l 1 0 ∷ get_or l 2 0 ∷ get_or l 3 0 ∷ [] ≡ l
    at [] h = absurd (omega arith)
    at (a ∷ []) h = absurd (omega arith)
    at (a ∷ b ∷ []) h = absurd (omega arith)
    at (a ∷ b ∷ c ∷ []) h = absurd (omega arith)
    at (a ∷ b ∷ c ∷ d ∷ []) h = refl
    at (a ∷ b ∷ c ∷ d ∷ x ∷ l) h = absurd (omega arith)
