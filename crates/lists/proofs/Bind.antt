-- The answers of a list's elements, joined: who is among them.
use mathlib.Core.Path.{◌≡◌, refl, sym, ap, ◌∙◌, subst}
use mathlib.Core.Bool.{Bool, true, false}
use mathlib.Core.Logic.{⊎_elim}
use mathlib.Core.List.{List, [], ◌∷◌, ◌++◌, map}
use Rattle.lists.specs.Lists.{In, first, later, put, keep, Pairs, bind}
use Rattle.lists.proofs.Lists.{in_nil, in_left, in_right, in_append, pairs_append}

module _ {A : Type 0} where
  pub append-nil : (l : List A) → l ++ [] ≡ l
  append-nil [] = refl
  append-nil (x ∷ l) = ap {B = List A} (λ r. x ∷ r) (append-nil l)

  pub append_assoc : (l m n : List A) → (l ++ m) ++ n ≡ l ++ (m ++ n)
  append_assoc [] m n = refl
  append_assoc (x ∷ l) m n = ap {B = List A} (λ r. x ∷ r) (append_assoc l m n)

  pub put_append : (b : Bool) (x : A) (l m : List A) → put b x (l ++ m) ≡ put b x l ++ m
  put_append true x l m = refl
  put_append false x l m = refl

  pub keep_append : (f : A → Bool) (l m : List A) → keep f (l ++ m) ≡ keep f l ++ keep f m
  keep_append f [] m = refl
  keep_append f (x ∷ l) m = ap (put (f x) x) (keep_append f l m) ∙ put_append (f x) x (keep f l) (keep f m)

module _ {A B : Type 0} where
  pub bind_in : (f : A → List B) (l : List A) {y : B} → In y (bind l f) → (x : A) × In x l × In y (f x)
  bind_in f [] h = in_nil h
  bind_in f (x ∷ l) h = ⊎_elim (λ i. (x, first refl, i)) (λ i. let r = bind_in f l i in (r.0, later r.1, r.2)) (in_append (f x) (bind l f) h)

  pub in_bind : (f : A → List B) {x : A} {y : B} {l : List A} → In x l → In y (f x) → In y (bind l f)
  in_bind f {y = y} (first {y = z} {l = l} e) h = in_left (bind l f) (subst (λ (w : A). In y (f w)) e h)
  in_bind f (later {y = z} i) h = in_right (f z) (in_bind f i h)

  pub bind_append : (f : A → List B) (l m : List A) → bind (l ++ m) f ≡ bind l f ++ bind m f
  bind_append f [] m = refl
  bind_append f (x ∷ l) m = ap (λ (r : List B). f x ++ r) (bind_append f l m) ∙ sym (append_assoc (f x) (bind l f) (bind m f))

  -- a relation along the answers: along those of each element, and from those of each element to those of each later one
  pub pairs_bind : (R : B → B → Type 0) (f : A → List B) (l : List A) →
      ((x : A) → In x l → Pairs R (f x)) → Pairs (λ x y. (u : B) → In u (f x) → (v : B) → In v (f y) → R u v) l → Pairs R (bind l f)
  pairs_bind R f [] h k = tt
  pairs_bind R f (x ∷ l) h k = pairs_append R (f x) (bind l f) (h x (first refl)) (pairs_bind R f l (λ y i. h y (later i)) k.1)
      (λ u i v j. let r = bind_in f l j in k.0 r.0 r.1 u i v r.2)

  -- alike on each element, alike on the list
  pub map_same : (f g : A → B) (l : List A) → ((x : A) → f x ≡ g x) → map f l ≡ map g l
  map_same f g [] h = refl
  map_same f g (x ∷ l) h = rw (h x, map_same f g l h)
