-- A candidate with a column that is not the number wanted there does not fit.
use Rattle.std.specs.Prelude.{Option, Some, None, if◌then◌else◌}
use mathlib.Core.Path.{◌≡◌, refl, sym, ap, ◌∙◌}
use mathlib.Core.Bool.{Bool, true, false, false≢true}
use mathlib.Core.Logic.{⊎_elim}
use mathlib.Core.List.{List, [], ◌∷◌, ◌++◌}
use Prim.Native.Nat.{ℕ}
use lib.Dec.{eqb}
use lib.ListN.{get_or, set}
use lib.Seq.{get_or-set_other}
use borrow.Author.Tests.{eqb-true, eqb-false, not-true}
use Rattle.lists.specs.Lists.{In, first, later, when, bind}
use Rattle.lists.proofs.Lists.{in_nil, in_one, or_cases}
use Rattle.model.specs.declared.Row.{Row}
use Rattle.model.specs.Program.{any?, constant?, constant}
use Rattle.model.specs.Configuration.{no_value, place, value_of}
use Rattle.model.specs.Matching.{candidate, meet, fit}
use Rattle.queries.specs.declared.Columns.{Columns}
use Rattle.queries.specs.View.{Grown, Wants, unlike, is_unlike}

-- an operand that meets a number takes no value from another
pub meet_grows : (x n : ℕ) (values v : List ℕ) → In v (meet x n values) → Grown values v
unfolding meet
meet_grows x n values v = at (any? x) (constant? x) (eqb (value_of values x) no_value) refl
  where
    same : In v (values ∷ []) → Grown values v
    same h y k = ap (λ (u : List ℕ). value_of u y) (in_one h)

    met : (b : Bool) → In v (when b values) → Grown values v
    met true h = same h
    met false h = in_nil h

    at : (a k e : Bool) → eqb (value_of values x) no_value ≡ e →
        In v (if a then values ∷ [] else if k then when (eqb (constant x) n) values else if e then set values (place x) n ∷ [] else when (eqb (value_of values x) n) values) → Grown values v
    at true k e q h = same h
    at false true e q h = met (eqb (constant x) n) h
    at false false true q h = λ y z. ap (λ (u : List ℕ). value_of u y) (in_one h) ∙ get_or-set_other values (place x) (place y) n no_value (λ w. z (ap (λ (j : ℕ). value_at j) w ∙ eqb-true (value_of values x) no_value q))
      where
        value_at : ℕ → ℕ
        value_at j = get_or values j no_value
    at false false false q h = met (eqb (value_of values x) n) h

-- nothing follows from nothing
bind_none : {A B : Type 0} (l : List A) (f : A → List B) → ((x : A) → In x l → f x ≡ []) → bind l f ≡ []
bind_none [] f h = refl
bind_none (x ∷ l) f h = ap (λ (m : List _). m ++ bind l f) (h x (first refl)) ∙ bind_none l f (λ y i. h y (later i))

unlike_misses : (w : Option ℕ) (x : ℕ) (values : List ℕ) → Wants w x values → (n : ℕ) → unlike w n ≡ true → (v : List ℕ) → Grown values v → meet x n v ≡ []
unlike_misses None x values a n e = absurd (false≢true e)
unlike_misses (Some m) x values a n e = a.misses n (eqb-false n m (not-true _ e))

pub unlike_fits_not : (r : Row) (values : List ℕ) (i a b : Option ℕ) → Wants i r.i values → Wants a r.a values → Wants b r.b values → (x : Columns) → is_unlike i a b x ≡ true → fit r (candidate x.i x.a x.b) values ≡ []
unfolding fit
unlike_fits_not r values i a b wi wa wb x e = ⊎_elim
    (λ h. ap (λ (l : List (List ℕ)). bind l (λ v. bind (meet r.a x.a v) (λ w. meet r.b x.b w))) (unlike_misses i r.i values wi x.i h values (λ y z. refl)))
    (λ h. ⊎_elim
    (λ k. bind_none (meet r.i x.i values) _ (λ v m. ap (λ (l : List (List ℕ)). bind l (λ w. meet r.b x.b w)) (unlike_misses a r.a values wa x.a k v (meet_grows r.i x.i values v m))))
    (λ k. bind_none (meet r.i x.i values) _ (λ v m. bind_none (meet r.a x.a v) _ (λ w n.
    let g = meet_grows r.i x.i values v m in
    unlike_misses b r.b values wb x.b k w (λ y z. meet_grows r.a x.a v w n y (λ q. z (sym (g y z) ∙ q)) ∙ g y z))))
    (or_cases (unlike a x.a) (unlike b x.b) h))
    (or_cases (unlike i x.i) _ e)
