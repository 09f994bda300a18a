-- What a row gives hangs only on the values of the variables that it looks at: found things that are alike lead to things that are alike,
-- one by one, in the same order.
use Rattle.std.specs.Prelude.{if◌then◌else◌}
use mathlib.Core.Path.{◌≡◌, refl, sym, ap, ◌∙◌, subst}
use mathlib.Core.Bool.{Bool, true, false}
use mathlib.Core.Logic.{⊎_elim}
use mathlib.Core.List.{List, [], ◌∷◌, ◌++◌, map}
use Prim.Native.Nat.{ℕ, ◌≤◌}
use native.Mathlib.Omega.{arith}
use lib.Dec.{eqb}
use lib.ListN.{get_or, set, length-set}
use lib.Seq.{get_or-set_same, get_or-set_other}
use borrow.Author.Tests.{eqb-true, eqb-false, leb-false}
use Rattle.lists.specs.Lists.{when, is_empty, bind}
use Rattle.lists.proofs.Lists.{test}
use Rattle.model.specs.declared.Row.{Row}
use Rattle.model.specs.Program.{any?, constant?, constant}
use Rattle.model.specs.Configuration.{Config, no_value, place, value_of}
use Rattle.search_laws.specs.Agree.{Agree, Alike}
use Rattle.model.specs.Matching.{Candidate, candidates, meet, fit, Found, found, query_row, after_row, negation}

-- two lists, element by element
pub data Both {A : Type 0} (R : A → A → Type 0) : List A → List A → Type 0 where
  both_none : Both R [] []
  both_more : {x y : A} {l m : List A} → R x y → Both R l m → Both R (x ∷ l) (y ∷ m)

module _ {A : Type 0} {R : A → A → Type 0} where
  both_append : {l m k n : List A} → Both R l m → Both R k n → Both R (l ++ k) (m ++ n)
  both_append both_none b = b
  both_append (both_more h a) b = both_more h (both_append a b)

  pub both_empty : {l m : List A} → Both R l m → is_empty l ≡ is_empty m
  both_empty both_none = refl
  both_empty (both_more h a) = refl

  both_when : (x y : A) (b : Bool) → R x y → Both R (when b x) (when b y)
  both_when x y true h = both_more h both_none
  both_when x y false h = both_none

module _ {A B : Type 0} {S : B → B → Type 0} where
  both_over : (l : List A) (f g : A → List B) → ((x : A) → Both S (f x) (g x)) → Both S (bind l f) (bind l g)
  both_over [] f g h = both_none
  both_over (x ∷ l) f g h = both_append (h x) (both_over l f g h)

  both_bind : {R : A → A → Type 0} {l m : List A} (f g : A → List B) → ((x y : A) → R x y → Both S (f x) (g y)) → Both R l m → Both S (bind l f) (bind m g)
  both_bind f g h both_none = both_none
  both_bind f g h (both_more {x = x} {y = y} r a) = both_append (h x y r) (both_bind f g h a)

  both_map : {R : A → A → Type 0} {l m : List A} (f g : A → B) → ((x y : A) → R x y → S (f x) (g y)) → Both R l m → Both S (map f l) (map g m)
  both_map f g h both_none = both_none
  both_map f g h (both_more {x = x} {y = y} r a) = both_more (h x y r) (both_map f g h a)

module _ (X : ℕ → Type 0) where
  agree_set : (x n : ℕ) (v w : List ℕ) → 1 ≤ x → Agree X v w → Agree X (set v (place x) n) (set w (place x) n)
  agree_set x n v w h a = record {
    long_left = length-set v (place x) n ∙ a.long_left;
    long_right = length-set w (place x) n ∙ a.long_right;
    agrees = λ y i l m. ⊎_elim
        (λ e. let q = eqb-true (place y) (place x) e in
        let p = a.long_left in let s = a.long_right in
        ap (λ (j : ℕ). get_or (set v (place x) n) j no_value) q ∙ get_or-set_same v (place x) n no_value (omega arith)
        ∙ sym (ap (λ (j : ℕ). get_or (set w (place x) n) j no_value) q ∙ get_or-set_same w (place x) n no_value (omega arith)))
        (λ e. let q = eqb-false (place y) (place x) e in
        get_or-set_other v (place x) (place y) n no_value q ∙ a.agrees y i l m ∙ sym (get_or-set_other w (place x) (place y) n no_value q))
        (test (eqb (place y) (place x)));
  }

  meet_agree : (x n : ℕ) (v w : List ℕ) → X x → Agree X v w → Both (Agree X) (meet x n v) (meet x n w)
  unfolding meet
  meet_agree x n v w i a = at (any? x) (constant? x) refl refl
    where
      taken : 1 ≤ x → (p : ℕ) (d : Bool) → Both (Agree X) (if d then set v (place x) n ∷ [] else when (eqb p n) v) (if d then set w (place x) n ∷ [] else when (eqb p n) w)
      taken h p true = both_more (agree_set x n v w h a) both_none
      taken h p false = both_when v w (eqb p n) a

      at : (b d : Bool) → any? x ≡ b → constant? x ≡ d →
          Both (Agree X)
          (if b then v ∷ [] else if d then when (eqb (constant x) n) v else if eqb (value_of v x) no_value then set v (place x) n ∷ [] else when (eqb (value_of v x) n) v)
          (if b then w ∷ [] else if d then when (eqb (constant x) n) w else if eqb (value_of w x) no_value then set w (place x) n ∷ [] else when (eqb (value_of w x) n) w)
      at true d p q = both_more a both_none
      at false true p q = both_when v w (eqb (constant x) n) a
      at false false p q =
          let h = eqb-false x 0 p in
          let k = leb-false 9 x q in
          subst (λ (z : ℕ). Both (Agree X)
          (if eqb (value_of v x) no_value then set v (place x) n ∷ [] else when (eqb (value_of v x) n) v)
          (if eqb z no_value then set w (place x) n ∷ [] else when (eqb z n) w))
          (a.agrees x i (omega arith) (omega arith))
          (taken (omega arith) (value_of v x) (eqb (value_of v x) no_value))

  fit_agree : (r : Row) (k : Candidate) (v w : List ℕ) → X r.i × X r.a × X r.b → Agree X v w → Both (Agree X) (fit r k v) (fit r k w)
  unfolding fit
  fit_agree r k v w i a =
      both_bind _ _ (λ t u b. both_bind _ _ (λ y z d. meet_agree r.b k.b y z i.2 d) (meet_agree r.a k.a t u i.1 b)) (meet_agree r.i k.i v w i.0 a)

  module _ (M : List ℕ → List ℕ → Type 0) (more : (a b : List ℕ) (x : ℕ) → M a b → M (a ++ (x ∷ [])) (b ++ (x ∷ []))) (c : Config) where
    found_alike : (r : Row) (k : Candidate) (f g : Found) (v w : List ℕ) → M f.matched g.matched → Agree X v w → Alike X M (found r k f v) (found r k g w)
    unfolding found
    found_alike r k f g v w m a = (a, at (eqb r.part 1))
      where
        at : (b : Bool) → M (if b then f.matched ++ (k.i ∷ []) else f.matched) (if b then g.matched ++ (k.i ∷ []) else g.matched)
        at true = more f.matched g.matched k.i m
        at false = m

    query_alike : (r : Row) (f g : Found) → X r.i × X r.a × X r.b → Alike X M f g → Both (Alike X M) (query_row c r f) (query_row c r g)
    unfolding query_row
    query_alike r f g i a =
        both_over (candidates c r) _ _ (λ k. both_map (found r k f) (found r k g) (λ v w b. found_alike r k f g v w a.1 b) (fit_agree r k f.values g.values i a.0))

    pub row_alike : (r : Row) (f g : Found) → X r.i × X r.a × X r.b → Alike X M f g → Both (Alike X M) (after_row c r f) (after_row c r g)
    unfolding after_row
    row_alike r f g i a = at (negation r) (query_alike r f g i a)
      where
        at : (b : Bool) → Both (Alike X M) (query_row c r f) (query_row c r g) → Both (Alike X M) (if b then when (is_empty (query_row c r f)) f else query_row c r f) (if b then when (is_empty (query_row c r g)) g else query_row c r g)
        at true h = subst (λ (b : Bool). Both (Alike X M) (when (is_empty (query_row c r f)) f) (when b g)) (both_empty h) (both_when f g (is_empty (query_row c r f)) a)
        at false h = h
