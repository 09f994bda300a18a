-- Lists that grow at their end, and lists taken apart.
use mathlib.Core.Path.{◌≡◌, refl, ap}
use mathlib.Core.Bool.{Bool, true, false}
use mathlib.Core.Logic.{◌⊎◌, inl, inr}
use mathlib.Core.List.{List, [], ◌∷◌, ◌++◌}
use native.Mathlib.Omega.{arith}
use lib.ListN.{length, length-append}
use Rattle.lists.specs.Lists.{In, first, later, put, keep, when}

module _ {A : Type 0} where
  pub keep_snoc : (f : A → Bool) (l : List A) (x : A) → keep f (l ++ (x ∷ [])) ≡ keep f l ++ when (f x) x
  keep_snoc f [] x = refl
  keep_snoc f (y ∷ l) x = at (f y) (keep_snoc f l x)
    where
      at : (b : Bool) → keep f (l ++ (x ∷ [])) ≡ keep f l ++ when (f x) x → put b y (keep f (l ++ (x ∷ []))) ≡ put b y (keep f l) ++ when (f x) x
      at true e = ap {B = List A} (λ r. y ∷ r) e
      at false e = e

  pub keep_none : (f : A → Bool) (l : List A) → ((x : A) → In x l → f x ≡ false) → keep f l ≡ []
  keep_none f [] h = refl
  keep_none f (x ∷ l) h = rw (h x (first refl), keep_none f l (λ y i. h y (later i)))

  -- where x stands in l with y behind: x is that y, or it stands in l
  pub snoc_split : (l : List A) (y : A) (before : List A) (x : A) (after : List A) → l ++ (y ∷ []) ≡ before ++ (x ∷ after) →
      ((before ≡ l) × (x ≡ y)) ⊎ ((rest : List A) × (l ≡ before ++ (x ∷ rest)))
  snoc_split [] y [] x after e = inl (refl, cc)
  snoc_split [] y (z ∷ before) x after e = let h = ap length e in absurd (omega (arith, length-append before (x ∷ after)))
  snoc_split (w ∷ l) y [] x after e = inr (l, cc)
  snoc_split (w ∷ l) y (z ∷ before) x after e = cons (snoc_split l y before x after (cc))
    where
      cons : ((before ≡ l) × (x ≡ y)) ⊎ ((rest : List A) × (l ≡ before ++ (x ∷ rest))) → ((z ∷ before ≡ w ∷ l) × (x ≡ y)) ⊎ ((rest : List A) × (w ∷ l ≡ z ∷ before ++ (x ∷ rest)))
      cons (inl h) = let p = h.0 in inl (cc, h.1)
      cons (inr h) = let p = h.1 in inr (h.0, cc)
