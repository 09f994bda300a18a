-- What the other proofs use of lists: membership in ++, map, keep; relations along a list.
use mathlib.Core.Path.{◌≡◌, refl, sym, ap, ◌∙◌, subst}
use mathlib.Core.Bool.{Bool, true, false, not, ◌||◌, true≢false, false≢true}
use mathlib.Core.Logic.{◌⊎◌, inl, inr, ⊎_elim}
use mathlib.Core.List.{List, [], ◌∷◌, ◌++◌, map}
use Prim.Native.Nat.{ℕ, suc, ◌+◌}
use native.Mathlib.Omega.{arith}
use lib.Dec.{eqb}
use lib.ListN.{length}
use borrow.Author.Tests.{eqb-true, eq-eqb}
use Rattle.lists.specs.Lists.{In, first, later, put, keep, Pairs, member}

-- a test is true or false, with the equation
pub test : (b : Bool) → (b ≡ true) ⊎ (b ≡ false)
test true = inl refl
test false = inr refl

pub clash {ℓ} : {C : Type ℓ} {b : Bool} → b ≡ true → b ≡ false → C
clash p q = absurd (true≢false (sym p ∙ q))

module _ {A : Type 0} where
  pub in_nil {ℓ} : {C : Type ℓ} {x : A} → In x [] → C
  in_nil h = elim h [ ]

  pub in_cons : {x y : A} {l : List A} → In x (y ∷ l) → (x ≡ y) ⊎ In x l
  in_cons (first e) = inl e
  in_cons (later h) = inr h

  pub in_one : {x y : A} → In x (y ∷ []) → x ≡ y
  in_one h = ⊎_elim (λ e. e) (λ k. in_nil k) (in_cons h)

  pub in_cast : {x y : A} {l : List A} → x ≡ y → In y l → In x l
  in_cast e (first q) = first (e ∙ q)
  in_cast e (later h) = later (in_cast e h)

  pub in_left : {x : A} {l : List A} (m : List A) → In x l → In x (l ++ m)
  in_left m (first e) = first e
  in_left m (later h) = later (in_left m h)

  pub in_right : {x : A} (l : List A) {m : List A} → In x m → In x (l ++ m)
  in_right [] h = h
  in_right (y ∷ l) h = later (in_right l h)

  pub in_append : {x : A} (l m : List A) → In x (l ++ m) → In x l ⊎ In x m
  in_append [] m h = inr h
  in_append {x} (y ∷ l) m h = ⊎_elim (λ e. inl (first e)) (λ k. ⊎_elim (λ i. inl (later i)) (λ j. inr j) (in_append l m k)) (in_cons h)

  -- what holds of each element of l, and of each of m, holds of each of l ++ m
  pub all_append : (P : A → Type 0) (l m : List A) → ((x : A) → In x l → P x) → ((x : A) → In x m → P x) → (x : A) → In x (l ++ m) → P x
  all_append P l m f g x h = ⊎_elim (f x) (g x) (in_append l m h)

  pub all_snoc : (P : A → Type 0) (l : List A) (y : A) → ((x : A) → In x l → P x) → P y → (x : A) → In x (l ++ (y ∷ [])) → P x
  all_snoc P l y f p = all_append P l (y ∷ []) f (λ x h. subst P (sym (in_one h)) p)

  -- keep
  pub put_cases : (b : Bool) (x y : A) (l : List A) → In x (put b y l) → ((b ≡ true) × (x ≡ y)) ⊎ In x l
  put_cases true x y l h = ⊎_elim (λ e. inl (refl, e)) (λ k. inr k) (in_cons h)
  put_cases false x y l h = inr h

  pub put_old : (b : Bool) (y : A) {x : A} {l : List A} → In x l → In x (put b y l)
  put_old true y h = later h
  put_old false y h = h

  pub put_new : (b : Bool) (y : A) {x : A} (l : List A) → b ≡ true → x ≡ y → In x (put b y l)
  put_new true y l p e = first e
  put_new false y l p e = absurd (false≢true p)

  pub keep_in : (f : A → Bool) (l : List A) {x : A} → In x (keep f l) → In x l × (f x ≡ true)
  keep_in f [] h = in_nil h
  keep_in f (y ∷ l) {x} h = ⊎_elim (λ k. (first k.1, ap f k.1 ∙ k.0)) (λ k. let r = keep_in f l k in (later r.0, r.1)) (put_cases (f y) x y (keep f l) h)

  pub in_keep : (f : A → Bool) {x : A} {l : List A} → In x l → f x ≡ true → In x (keep f l)
  in_keep f (first {y = y} {l = l} e) p = put_new (f y) y (keep f l) (ap f (sym e) ∙ p) e
  in_keep f (later {y = y} h) p = put_old (f y) y (in_keep f h p)

  pub keep_same : (f g : A → Bool) (l : List A) → ((x : A) → f x ≡ g x) → keep f l ≡ keep g l
  keep_same f g [] e = refl
  keep_same f g (x ∷ l) e = rw (e x, keep_same f g l e)

  pub all_keep : (P : A → Type 0) (f : A → Bool) (l : List A) → ((x : A) → In x l → f x ≡ true → P x) → (x : A) → In x (keep f l) → P x
  all_keep P f l h x m = h x (keep_in f l m).0 (keep_in f l m).1

  -- relations along a list
  pub pairs_keep : (R : A → A → Type 0) (f : A → Bool) (l : List A) → Pairs R l → Pairs R (keep f l)
  pairs_keep R f [] h = tt
  pairs_keep R f (x ∷ l) h = at (f x) (pairs_keep R f l h.1)
    where
      at : (b : Bool) → Pairs R (keep f l) → Pairs R (put b x (keep f l))
      at true r = (λ y m. h.0 y (keep_in f l m).0, r)
      at false r = r

  pub pairs_all : (R : A → A → Type 0) (l : List A) → ((x : A) → In x l → (y : A) → In y l → R x y) → Pairs R l
  pairs_all R [] h = tt
  pairs_all R (x ∷ l) h = (λ y i. h x (first refl) y (later i), pairs_all R l (λ y i z j. h y (later i) z (later j)))

  pub pairs_append : (R : A → A → Type 0) (l m : List A) → Pairs R l → Pairs R m → ((x : A) → In x l → (y : A) → In y m → R x y) → Pairs R (l ++ m)
  pairs_append R [] m h k c = k
  pairs_append R (x ∷ l) m h k c = (all_append (R x) l m h.0 (c x (first refl)), pairs_append R l m h.1 k (λ y i. c y (later i)))

  pub pairs_snoc : (R : A → A → Type 0) (l : List A) (y : A) → Pairs R l → ((x : A) → In x l → R x y) → Pairs R (l ++ (y ∷ []))
  pairs_snoc R l y h c = pairs_append R l (y ∷ []) h (λ z i. in_nil i, tt) (λ x i z j. subst (R x) (sym (in_one j)) (c x i))

  -- of two elements one stands before the other, or they are one
  pub pairs_either : (R : A → A → Type 0) {x y : A} {l : List A} → Pairs R l → In x l → In y l → (x ≡ y) ⊎ (R x y ⊎ R y x)
  pairs_either R {x = x} {y = y} h (first {y = z} e) k = ⊎_elim (λ q. inl (e ∙ sym q)) (λ q. inr (inl (subst (λ (w : A). R w y) (sym e) (h.0 y q)))) (in_cons k)
  pairs_either R {x = x} {y = y} h (later {y = z} i) k = ⊎_elim (λ q. inr (inr (subst (λ (w : A). R w x) (sym q) (h.0 x i)))) (λ q. pairs_either R h.1 i q) (in_cons k)

  -- how many pass the test, and how many do not
  pub count_keep : (f : A → Bool) (l : List A) → length (keep f l) + length (keep (λ x. not (f x)) l) ≡ length l
  count_keep f [] = refl
  count_keep f (x ∷ l) = at (f x) (count_keep f l)
    where
      at : (b : Bool) → length (keep f l) + length (keep (λ x. not (f x)) l) ≡ length l → length (put b x (keep f l)) + length (put (not b) x (keep (λ x. not (f x)) l)) ≡ suc (length l)
      at true r = omega arith
      at false r = omega arith

module _ {A B : Type 0} where
  pub in_map : (f : A → B) {x : A} {l : List A} → In x l → In (f x) (map f l)
  in_map f (first e) = first (ap f e)
  in_map f (later h) = later (in_map f h)

  pub map_in : (f : A → B) (l : List A) {y : B} → In y (map f l) → (x : A) × In x l × (y ≡ f x)
  map_in f [] h = in_nil h
  map_in f (x ∷ l) h = ⊎_elim (λ e. (x, first refl, e)) (λ k. let r = map_in f l k in (r.0, later r.1, r.2)) (in_cons h)

  pub all_map : (P : B → Type 0) (f : A → B) (l : List A) → ((x : A) → In x l → P (f x)) → (y : B) → In y (map f l) → P y
  all_map P f l h y m = let r = map_in f l m in subst P (sym r.2) (h r.0 r.1)

  pub pairs_map : (R : B → B → Type 0) (f : A → B) (l : List A) → Pairs (λ x y. R (f x) (f y)) l → Pairs R (map f l)
  pairs_map R f [] h = tt
  pairs_map R f (x ∷ l) h = (all_map (R (f x)) f l h.0, pairs_map R f l h.1)

  pub map_keep : (f : A → B) (g : B → Bool) (l : List A) → map f (keep (λ x. g (f x)) l) ≡ keep g (map f l)
  map_keep f g [] = refl
  map_keep f g (x ∷ l) = at (g (f x)) (map_keep f g l)
    where
      at : (b : Bool) → map f (keep (λ x. g (f x)) l) ≡ keep g (map f l) → map f (put b x (keep (λ x. g (f x)) l)) ≡ put b (f x) (keep g (map f l))
      at true r = ap {B = List B} (λ r. f x ∷ r) r
      at false r = r

  pub map_append : (f : A → B) (l m : List A) → map f (l ++ m) ≡ map f l ++ map f m
  map_append f [] m = refl
  map_append f (x ∷ l) m = ap {B = List B} (λ r. f x ∷ r) (map_append f l m)

pub map_map : {A B C : Type 0} (f : A → B) (g : B → C) (l : List A) → map g (map f l) ≡ map (λ x. g (f x)) l
map_map f g [] = refl
map_map {C = C} f g (x ∷ l) = ap {B = List C} (λ r. g (f x) ∷ r) (map_map f g l)

-- tests joined
pub or_cases : (a b : Bool) → (a || b) ≡ true → (a ≡ true) ⊎ (b ≡ true)
or_cases true b e = inl refl
or_cases false b e = inr e

pub or_right : (a : Bool) {b : Bool} → b ≡ true → (a || b) ≡ true
or_right true e = refl
or_right false e = e

-- membership as a test
pub member_in : (x : ℕ) (l : List ℕ) → member x l ≡ true → In x l
member_in x [] e = absurd (false≢true e)
member_in x (y ∷ l) e = ⊎_elim (λ p. first (eqb-true x y p)) (λ p. later (member_in x l p)) (or_cases (eqb x y) (member x l) e)

pub in_member : {x : ℕ} {l : List ℕ} → In x l → member x l ≡ true
in_member {x} (first {y = y} e) = rw (eq-eqb x y e)
in_member {x} (later {y = y} h) = or_right (eqb x y) (in_member h)

pub out_member : (x : ℕ) (l : List ℕ) → (In x l → ⊥) → member x l ≡ false
out_member x l h = ⊎_elim (λ p. absurd (h (member_in x l p))) (λ p. p) (test (member x l))

pub member_out : {x : ℕ} {l : List ℕ} → member x l ≡ false → In x l → ⊥
member_out p h = clash (in_member h) p

-- two lists with the same members test alike
pub member_same : (x : ℕ) (l m : List ℕ) → (In x l → In x m) → (In x m → In x l) → member x l ≡ member x m
member_same x l m f g = ⊎_elim (λ p. p ∙ sym (in_member (f (member_in x l p)))) (λ p. p ∙ sym (out_member x m (λ h. member_out p (g h)))) (test (member x l))
