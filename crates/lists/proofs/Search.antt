-- Laws of answers in lists: answers by number, the first of them, answers that are all one; the greatest number; zeros at the end.
use Rattle.std.specs.Prelude.{if◌then◌else◌}
use mathlib.Core.Path.{◌≡◌, refl, sym, ap, ◌∙◌, subst}
use mathlib.Core.Bool.{Bool, true, false}
use mathlib.Core.Logic.{⊎_elim, ◌≢◌}
use mathlib.Core.List.{List, [], ◌∷◌, ◌++◌, map}
use Prim.Native.Nat.{ℕ, zero, suc, ◌+◌, ◌*◌, ◌/◌, ◌%◌, ◌≤◌, ◌<◌}
use native.Mathlib.Omega.{arith}
use lib.Dec.{ltb, leb, eqb}
use lib.ListN.{length, get_or, take, drop, drop_of_length-le}
use lib.Seq.{drop-cons}
use borrow.Author.Tests.{ltb-true, ltb-false, leb-true, leb-false, eqb-true, eqb-false}
use Rattle.lists.specs.Lists.{In, first, later, put, keep, when, first_of, is_empty, bind, count_up, highest}
use Rattle.lists.specs.Tables.{tabulate, trim_cons, trimmed}
use Rattle.lists.proofs.Lists.{test, clash, in_nil, in_cons, map_append}
use Rattle.lists.proofs.Bind.{append-nil, append_assoc, keep_append, bind_append}

-- binds of binds
module _ {A B C : Type 0} where
  pub bind_assoc : (l : List A) (f : A → List B) (g : B → List C) → bind (bind l f) g ≡ bind l (λ x. bind (f x) g)
  bind_assoc [] f g = refl
  bind_assoc (x ∷ l) f g = bind_append g (f x) (bind l f) ∙ ap (λ (k : List C). bind (f x) g ++ k) (bind_assoc l f g)

  pub map_bind : (g : B → C) (f : A → List B) (l : List A) → map g (bind l f) ≡ bind l (λ x. map g (f x))
  map_bind g f [] = refl
  map_bind g f (x ∷ l) = map_append g (f x) (bind l f) ∙ ap (λ (k : List C). map g (f x) ++ k) (map_bind g f l)

module _ {A B : Type 0} where
  pub bind_same : (f g : A → List B) → ((x : A) → f x ≡ g x) → (l : List A) → bind l f ≡ bind l g
  bind_same f g e [] = refl
  bind_same f g e (x ∷ l) = rw (e x, bind_same f g e l)

  -- of those that pass a test
  pub map_keep_bind : (p : A → Bool) (f : A → B) (l : List A) → map f (keep p l) ≡ bind l (λ x. when (p x) (f x))
  map_keep_bind p f [] = refl
  map_keep_bind p f (x ∷ l) = at (p x) (map_keep_bind p f l)
    where
      at : (b : Bool) → map f (keep p l) ≡ bind l (λ x. when (p x) (f x)) → map f (put b x (keep p l)) ≡ when b (f x) ++ bind l (λ x. when (p x) (f x))
      at true e = ap {B = List B} (λ r. f x ∷ r) e
      at false e = e

  pub keep_bind : (p : B → Bool) (f : A → List B) (l : List A) → keep p (bind l f) ≡ bind l (λ x. keep p (f x))
  keep_bind p f [] = refl
  keep_bind p f (x ∷ l) = keep_append p (f x) (bind l f) ∙ ap (λ (k : List B). keep p (f x) ++ k) (keep_bind p f l)

-- numbers in turn
count_up_snoc : (k n m : ℕ) → m ≡ k + n → count_up k (suc n) ≡ count_up k n ++ (m ∷ [])
count_up_snoc k zero m e = let h : m ≡ k = omega arith in rw h
count_up_snoc k (suc n) m e = ap {B = List ℕ} (λ (l : List ℕ). k ∷ l) (count_up_snoc (suc k) n m (omega arith))

pub in_count_up : (k n x : ℕ) → k ≤ x → x < k + n → In x (count_up k n)
in_count_up k zero x a b = absurd (omega arith)
in_count_up k (suc n) x a b = ⊎_elim (λ e. first (eqb-true x k e)) (λ e. later (in_count_up (suc k) n x (let d = eqb-false x k e in omega arith) (omega arith))) (test (eqb x k))

-- a list given by its places, asked place by place
pub bind_tabulate : {A B : Type 0} (n : ℕ) (f : ℕ → A) (g : A → List B) → bind (tabulate n f) g ≡ bind (count_up 0 n) (λ j. g (f j))
bind_tabulate zero f g = refl
bind_tabulate {B = B} (suc n) f g =
    bind_append g (tabulate n f) (f n ∷ [])
    ∙ ap (λ (k : List B). k ++ (g (f n) ++ [])) (bind_tabulate n f g)
    ∙ sym (ap (λ (l : List ℕ). bind l (λ j. g (f j))) (count_up_snoc 0 n n (omega arith)) ∙ bind_append (λ j. g (f j)) (count_up 0 n) (n ∷ []))

-- a list of n elements at most, place by place
module _ {A B : Type 0} (d : A) (l : List A) (g : A → B) where
  from_place : (n i : ℕ) → length l ≤ i + n → map g (drop i l) ≡ bind (count_up i n) (λ j. when (ltb j (length l)) (g (get_or l j d)))
  from_place zero i h = rw (drop_of_length-le l {i = i} (omega arith))
  from_place (suc n) i h = at (ltb i (length l)) refl (from_place n (suc i) (omega arith))
    where
      at : (b : Bool) → ltb i (length l) ≡ b → map g (drop (suc i) l) ≡ bind (count_up (suc i) n) (λ j. when (ltb j (length l)) (g (get_or l j d))) →
          map g (drop i l) ≡ when b (g (get_or l i d)) ++ bind (count_up (suc i) n) (λ j. when (ltb j (length l)) (g (get_or l j d)))
      at true e r = ap (map g) (drop-cons l i d (ltb-true i (length l) e)) ∙ ap {B = List B} (λ (k : List B). g (get_or l i d) ∷ k) r
      at false e r = let h : length l ≤ i = ltb-false i (length l) e in ap (map g) (drop_of_length-le l {i = i} h ∙ sym (drop_of_length-le l {i = suc i} (omega arith))) ∙ r

  pub map_places : (n : ℕ) → length l ≤ n → map g l ≡ bind (count_up 0 n) (λ j. when (ltb j (length l)) (g (get_or l j d)))
  map_places n h = from_place n 0 (omega arith)

-- four to a number: the numbers of both levels in one run
module _ {A : Type 0} (f : ℕ → ℕ → List A) where
  at_four : (a j c : ℕ) → j < 4 → c ≡ a * 4 + j → f (c / 4) (c % 4) ≡ f a j
  at_four a j c h e =
      let d : c / 4 ≡ a = omega arith in
      let m : c % 4 ≡ j = omega arith in
      ap (λ (x : ℕ). f x (c % 4)) d ∙ ap (f a) m

  pub by_fours : (a n : ℕ) → bind (count_up a n) (λ p. bind (count_up 0 4) (f p)) ≡ bind (count_up (a * 4) (n * 4)) (λ c. f (c / 4) (c % 4))
  by_fours a zero = refl
  by_fours a (suc n) =
      let count : suc n * 4 ≡ suc (suc (suc (suc (n * 4)))) = omega arith in
      let on : suc a * 4 ≡ suc (suc (suc (suc (a * 4)))) = omega arith in
      rw (count, at_four a 0 (a * 4) (omega arith) (omega arith), at_four a 1 (suc (a * 4)) (omega arith) (omega arith), at_four a 2 (suc (suc (a * 4))) (omega arith) (omega arith), at_four a 3 (suc (suc (suc (a * 4)))) (omega arith) (omega arith), ← on, ← by_fours (suc a) n)
      (simp (append_assoc, append-nil))

-- the first answer
module _ {A : Type 0} where
  first_skip : (l r : List A) → first_of l ≡ [] → first_of (l ++ r) ≡ first_of r
  first_skip [] r e = refl
  first_skip (x ∷ l) r e = cc

  first_kept : (a l r : List A) → a ≡ first_of l → is_empty a ≡ false → a ≡ first_of (l ++ r)
  first_kept a [] r e h = clash (ap is_empty e) h
  first_kept a (x ∷ l) r e h = e

  pub first_map : {B : Type 0} (f : A → B) (l : List A) → first_of (map f l) ≡ map f (first_of l)
  first_map f [] = refl
  first_map f (x ∷ l) = refl

  pub first_when : (b : Bool) (x : A) → first_of (when b x) ≡ when b x
  first_when true x = refl
  first_when false x = refl

-- t is the first answer among what follows the candidates l, and then the rest
module _ {A B : Type 0} {t : List B} (l : List A) (M : A → List B) (rest : List B) (is : t ≡ first_of (bind l M ++ rest)) where
  -- no candidate is left
  pub spent : l ≡ [] → t ≡ first_of rest
  spent n = is ∙ ap (λ (k : List A). first_of (bind k M ++ rest)) n

  -- the next candidate v led to the answer a; it led nowhere
  module _ (v : A) (r : List A) (n : l ≡ v ∷ r) (a : List B) (e : a ≡ first_of (M v)) where
    next_is : t ≡ first_of (M v ++ (bind r M ++ rest))
    next_is = is ∙ ap (λ (k : List A). first_of (bind k M ++ rest)) n ∙ ap first_of (append_assoc (M v) (bind r M) rest)

    pub reached : is_empty a ≡ false → a ≡ t
    reached h = first_kept a (M v) (bind r M ++ rest) e h ∙ sym next_is

    pub backed : a ≡ [] → t ≡ first_of (bind r M ++ rest)
    backed h = next_is ∙ first_skip (M v) (bind r M ++ rest) (sym e ∙ h)

-- every element is e
pub data Only {A : Type 0} (e : A) : List A → Type 0 where
  only_none : Only e []
  only_more : {x : A} {l : List A} → x ≡ e → Only e l → Only e (x ∷ l)

module _ {A : Type 0} where
  only_append : {e : A} {l r : List A} → Only e l → Only e r → Only e (l ++ r)
  only_append only_none b = b
  only_append (only_more h a) b = only_more h (only_append a b)

  pub only_when : (e : A) (b : Bool) → Only e (when b e)
  only_when e true = only_more refl only_none
  only_when e false = only_none

  pub only_if : {e : A} (b : Bool) {l r : List A} → Only e l → Only e r → Only e (if b then l else r)
  only_if true x y = x
  only_if false x y = y

  only_head : {e v : A} {r : List A} → Only e (v ∷ r) → v ≡ e
  only_head (only_more p a) = p

  pub only_bind : {B : Type 0} (e : A) (l : List B) (f : B → List A) → ((x : B) → Only e (f x)) → Only e (bind l f)
  only_bind e [] f h = only_none
  only_bind e (x ∷ l) f h = only_append (h x) (only_bind e l f h)

  pub only_chain : {B : Type 0} {e : B} {d : A} {l : List B} (f : B → List A) → Only e l → Only d (f e) → Only d (bind l f)
  only_chain f only_none h = only_none
  only_chain {d = d} f (only_more p a) h = only_append (subst (λ (y : _). Only d (f y)) (sym p) h) (only_chain f a h)

  pub only_map : {B : Type 0} {e : B} {l : List B} (f : B → A) → Only e l → Only (f e) (map f l)
  only_map f only_none = only_none
  only_map f (only_more p a) = only_more (ap f p) (only_map f a)

  first_only : {B : Type 0} {e : A} {l : List A} (M : A → List B) (rest : List B) → Only e l → first_of (M e) ≡ [] → first_of (bind l M ++ rest) ≡ first_of rest
  first_only M rest only_none h = refl
  first_only M rest (only_more {x = x} {l = l} p a) h =
      ap first_of (append_assoc (M x) (bind l M) rest)
      ∙ first_skip (M x) (bind l M ++ rest) (ap (λ (y : A). first_of (M y)) p ∙ h)
      ∙ first_only M rest a h

  -- the candidates are all one: the first led nowhere, and so do all
  pub pruned : {B : Type 0} {t : List B} (e : A) (l : List A) (M : A → List B) (rest : List B) → t ≡ first_of (bind l M ++ rest) → Only e l →
      (v : A) (r : List A) → l ≡ v ∷ r → (a : List B) → a ≡ first_of (M v) → a ≡ [] → t ≡ first_of rest
  pruned e l M rest is o v r n a s h = is ∙ first_only M rest o (ap (λ (x : A). first_of (M x)) (sym (only_head (subst (Only e) n o))) ∙ sym s ∙ h)

-- the greatest number
pub highest_over : (l : List ℕ) (x : ℕ) → In x l → x ≤ highest l
unfolding highest
highest_over [] x i = in_nil i
highest_over (y ∷ l) x i = at (leb y (highest l)) refl (highest_over l x)
  where
    at : (b : Bool) → leb y (highest l) ≡ b → (In x l → x ≤ highest l) → x ≤ (if b then highest l else y)
    at true e ih = let h = leb-true y (highest l) e in ⊎_elim (λ (p : x ≡ y). omega arith) ih (in_cons i)
    at false e ih = let h = leb-false y (highest l) e in ⊎_elim (λ (p : x ≡ y). omega arith) (λ j. let g = ih j in omega arith) (in_cons i)

-- a list without the zeros at its end: what stands within it, and that it does not end in 0
pub get_nonzero : (l : List ℕ) (k : ℕ) → get_or l k 0 ≢ 0 → k < length l
get_nonzero [] k h = absurd (h refl)
get_nonzero (x ∷ l) zero h = omega arith
get_nonzero (x ∷ l) (suc k) h = let g = get_nonzero l k h in omega arith

pub trimmed_last : (l : List ℕ) (k : ℕ) → get_or (trimmed l) k 0 ≡ 0 → length (trimmed l) ≤ suc k → length (trimmed l) ≤ k
unfolding trimmed
trimmed_last [] k e h = omega arith
trimmed_last (x ∷ l) k e h = at x (trimmed l) k e h (trimmed_last l)
  where
    at : (x : ℕ) (m : List ℕ) (k : ℕ) → get_or (trim_cons x m) k 0 ≡ 0 → length (trim_cons x m) ≤ suc k → ((j : ℕ) → get_or m j 0 ≡ 0 → length m ≤ suc j → length m ≤ j) → length (trim_cons x m) ≤ k
    at zero [] k e h ih = omega arith
    at zero (y ∷ m) zero e h ih = absurd (omega arith)
    at zero (y ∷ m) (suc k) e h ih = let g = ih k e (omega arith) in omega arith
    at (suc x) m zero e h ih = absurd (omega arith)
    at (suc x) m (suc k) e h ih = let g = ih k e (omega arith) in omega arith

trimmed_zeros : (l : List ℕ) → ((k : ℕ) → get_or l k 0 ≡ 0) → trimmed l ≡ []
unfolding trimmed
trimmed_zeros [] h = refl
trimmed_zeros (x ∷ l) h = rw (h 0, trimmed_zeros l (λ k. h (suc k)))

-- numbers that are not 0, and zeros behind them
pub trimmed_front : (l : List ℕ) (n : ℕ) → ((k : ℕ) → n ≤ k → get_or l k 0 ≡ 0) → ((x : ℕ) → In x (take n l) → x ≢ 0) → trimmed l ≡ take n l
unfolding trimmed
trimmed_front l zero h f = trimmed_zeros l (λ k. h k (omega arith))
trimmed_front [] (suc n) h f = refl
trimmed_front (x ∷ l) (suc n) h f = at x (f x (first refl)) (trimmed_front l n (λ k g. h (suc k) (omega arith)) (λ y i. f y (later i)))
  where
    at : (x : ℕ) → x ≢ 0 → trimmed l ≡ take n l → trim_cons x (trimmed l) ≡ x ∷ take n l
    at zero z e = absurd (z refl)
    at (suc x) z e = ap {B = List ℕ} (λ r. suc x ∷ r) e
