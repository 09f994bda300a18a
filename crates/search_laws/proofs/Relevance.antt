-- Whether a match counts hangs on its ids, and on the values of the variables that the body looks at.
use Rattle.std.specs.Prelude.{if◌then◌else◌}
use mathlib.Core.Path.{◌≡◌, refl, ap, ◌∙◌}
use mathlib.Core.Bool.{Bool, true, false, not, ◌||◌, ◌&&◌, and-eq-true_iff}
use mathlib.Core.List.{List, [], ◌∷◌}
use Prim.Native.Nat.{ℕ}
use lib.Dec.{eqb, leb}
use borrow.Author.Tests.{leb-true}
use Rattle.lists.specs.Lists.{first, later, some, rising_set, same}
use Rattle.model.specs.declared.Row.{Row}
use Rattle.model.specs.Program.{variable?, body, is_object}
use Rattle.model.specs.Configuration.{Config, Plan, no_value, value_of}
use Rattle.model.specs.Matching.{Found, justifications_of, body_value, body_values, equal_plan, counts}
use Rattle.search_laws.specs.Agree.{Agree, Alike, Looks}

module _ (X : ℕ → Type 0) (c : Config) where
  value_agree : (v w : List ℕ) → Agree X v w → (x : ℕ) → X x → body_value v x ≡ body_value w x
  unfolding body_value
  value_agree v w a x i = at (variable? x) refl
    where
      at : (b : Bool) → variable? x ≡ b → (if b then value_of v x else no_value) ≡ (if b then value_of w x else no_value)
      at true e = let h = (and-eq-true_iff (leb 1 x) (leb x 8)).0 e in a.agrees x i (leb-true 1 x h.0) (leb-true x 8 h.1)
      at false e = refl

  pub body_agree : (rs : List Row) → Looks X rs → (v w : List ℕ) → Agree X v w → body_values rs v ≡ body_values rs w
  unfolding body_values
  body_agree [] l v w a = refl
  body_agree (r ∷ rs) l v w a =
      let i = l r (first refl) in
      rw (value_agree v w a r.i i.0, value_agree v w a r.a i.1, value_agree v w a r.b i.2)
      (ap {B = List ℕ} (λ (m : List ℕ). body_value w r.i ∷ body_value w r.a ∷ body_value w r.b ∷ m) (body_agree rs (λ s j. l s (later j)) v w a))

  some_same : (p q : Plan → Bool) → ((x : Plan) → p x ≡ q x) → (l : List Plan) → some p l ≡ some q l
  unfolding some
  some_same p q e [] = refl
  some_same p q e (x ∷ l) = rw (e x, some_same p q e l)

  module _ (program : List Row) (s n : ℕ) (lb : Looks X (body program s n)) where
    -- whether a match counts hangs on its ids and the values that the body looks at
    pub counts_alike : (f g : Found) → Alike X ◌≡◌ f g → counts program c s n f ≡ counts program c s n g
    unfolding counts equal_plan justifications_of
    counts_alike f g a =
        ap (λ (b : Bool). not (is_object program s n) || not b) (some_same _ _ (λ (q : Plan).
        ap (λ (b : Bool). eqb q.set s && (eqb q.rule n && b))
        (ap (λ (m : List ℕ). same q.justifications (rising_set m) && same (body_values (body program s n) q.values) (body_values (body program s n) f.values)) a.1
        ∙ ap (λ (m : List ℕ). same q.justifications (rising_set g.matched) && same (body_values (body program s n) q.values) m) (body_agree (body program s n) lb f.values g.values a.0))) c.plans)
