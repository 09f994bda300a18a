-- The laws of one rule, by its kind and the rows of its three parts, and how they stay when a row is added.
use mathlib.Core.Path.{◌≡◌, refl, ap, subst}
use mathlib.Core.Bool.{Bool, true, false, not}
use mathlib.Core.Logic.{◌⊎◌, inl, inr, ⊎_elim}
use mathlib.Core.List.{List, [], ◌∷◌, ◌++◌}
use Prim.Native.Nat.{ℕ, ◌+◌, ◌≤◌}
use native.Mathlib.Omega.{arith}
use lib.ListN.{length, length-append}
use Rattle.lists.specs.Lists.{In, when, is_empty}
use Rattle.lists.proofs.Lists.{in_nil, in_left, in_right, in_append, all_snoc}
use Rattle.lists.proofs.Splits.{snoc_split}
use Rattle.model.specs.declared.Row.{Row}
use Rattle.model.specs.declared.Scan.{Scan}
use Rattle.model.specs.Program.{variable?}
use Rattle.model.specs.Load.{query, action, plan_step}
use Rattle.program_laws.specs.Lawful.{Given, Uses}

pub record RuleLawful (object : Bool) (reasons context body : List Row) : Type 0 where
  pub few_reasons : length reasons ≤ 4
  pub few_context : length context ≤ 6
  pub short_body : length body ≤ 8
  pub reason_rows : (r : Row) → In r reasons → (r.op ≡ 1) × (1 ≤ r.p)
  pub context_rows : (r : Row) → In r context → query r ≡ true
  pub object_context : object ≡ true → (r : Row) → In r context → r.op ≤ 2
  pub object_body : object ≡ true → (r : Row) → In r body → plan_step r ≡ true
  pub meta_body : object ≡ false → (r : Row) → In r body → (t : Scan) × (action t r ≡ true)
  pub valued : (before : List Row) (r : Row) (after : List Row) → body ≡ before ++ (r ∷ after) →
      (x : ℕ) → Uses r x → variable? x ≡ true → Given (reasons ++ (context ++ before)) x

-- a rule without rows
pub no_rows : (object : Bool) → RuleLawful object [] [] []
no_rows object = record {
  few_reasons = omega arith;
  few_context = omega arith;
  short_body = omega arith;
  reason_rows = λ r h. in_nil h;
  context_rows = λ r h. in_nil h;
  object_context = λ o r h. in_nil h;
  object_body = λ o r h. in_nil h;
  meta_body = λ o r h. in_nil h;
  valued = λ before r after e. let h = ap length e in absurd (omega (arith, length-append before (r ∷ after)));
}

-- more rows give no less
pub given_in : {l m : List Row} {x : ℕ} → ((r : Row) → In r l → In r m) → Given l x → Given m x
given_in f g = (g.0, f g.0 g.1, g.2)

length_snoc : (l : List Row) (r : Row) → length (l ++ (r ∷ [])) ≡ length l + 1
length_snoc l r = length-append l (r ∷ [])

module _ {object : Bool} {R C B : List Row} (w : RuleLawful object R C B) (r : Row) where
  pub with_reason : length R ≤ 3 → r.op ≡ 1 → 1 ≤ r.p → RuleLawful object (R ++ (r ∷ [])) C B
  with_reason h e p = record {
    few_reasons = omega (arith, length_snoc R r);
    few_context = w.few_context;
    short_body = w.short_body;
    reason_rows = all_snoc (λ (q : Row). (q.op ≡ 1) × (1 ≤ q.p)) R r w.reason_rows (e, p);
    context_rows = w.context_rows;
    object_context = w.object_context;
    object_body = w.object_body;
    meta_body = w.meta_body;
    valued = λ before q after d x u v.
        given_in (λ k i. ⊎_elim (λ j. in_left (C ++ before) (in_left (r ∷ []) j)) (in_right (R ++ (r ∷ []))) (in_append R (C ++ before) i))
        (w.valued before q after d x u v);
  }

  pub with_context : length C ≤ 5 → query r ≡ true → (object ≡ true → r.op ≤ 2) → RuleLawful object R (C ++ (r ∷ [])) B
  with_context h e p = record {
    few_reasons = w.few_reasons;
    few_context = omega (arith, length_snoc C r);
    short_body = w.short_body;
    reason_rows = w.reason_rows;
    context_rows = all_snoc (λ (q : Row). query q ≡ true) C r w.context_rows e;
    object_context = λ o. all_snoc (λ (q : Row). q.op ≤ 2) C r (w.object_context o) (p o);
    object_body = w.object_body;
    meta_body = w.meta_body;
    valued = λ before q after d x u v.
        given_in (λ k i. ⊎_elim (in_left (C ++ (r ∷ []) ++ before)) (λ j. in_right R (old before k j)) (in_append R (C ++ before) i))
        (w.valued before q after d x u v);
  }
    where
      old : (before : List Row) (k : Row) → In k (C ++ before) → In k (C ++ (r ∷ []) ++ before)
      old before k i = ⊎_elim (λ j. in_left before (in_left (r ∷ []) j)) (in_right (C ++ (r ∷ []))) (in_append C before i)

  pub with_body : length B ≤ 7 → (object ≡ true → plan_step r ≡ true) → (object ≡ false → (t : Scan) × (action t r ≡ true)) →
      ((x : ℕ) → Uses r x → variable? x ≡ true → Given (R ++ (C ++ B)) x) → RuleLawful object R C (B ++ (r ∷ []))
  with_body h p q g = record {
    few_reasons = w.few_reasons;
    few_context = w.few_context;
    short_body = omega (arith, length_snoc B r);
    reason_rows = w.reason_rows;
    context_rows = w.context_rows;
    object_context = w.object_context;
    object_body = λ o. all_snoc (λ (k : Row). plan_step k ≡ true) B r (w.object_body o) (p o);
    meta_body = λ o. all_snoc (λ (k : Row). (t : Scan) × (action t k ≡ true)) B r (w.meta_body o) (q o);
    valued = λ before k after d x u v. last before k x u v (snoc_split B r before k after d);
  }
    where
      last : (before : List Row) (k : Row) (x : ℕ) → Uses k x → variable? x ≡ true →
          ((before ≡ B) × (k ≡ r)) ⊎ ((rest : List Row) × (B ≡ before ++ (k ∷ rest))) → Given (R ++ (C ++ before)) x
      last before k x u v (inl e) = rw e.0 (g x (subst (λ (y : Row). Uses y x) e.1 u) v)
      last before k x u v (inr e) = w.valued before k e.0 e.1 x u v

-- whether there are reasons
pub kind_is : (object b : Bool) (R : List Row) (r : Row) →
    (object ≡ true → (1 ≤ length R) ⊎ (b ≡ true)) → (object ≡ false → (length R ≡ 0) × (b ≡ false)) →
    not (is_empty (R ++ when b r)) ≡ object
kind_is true true [] r f g = refl
kind_is true false [] r f g = ⊎_elim (λ h. absurd (omega (arith, h))) (λ e. e) (f refl)
kind_is true b (q ∷ R) r f g = refl
kind_is false true [] r f g = (g refl).1
kind_is false false [] r f g = refl
kind_is false b (q ∷ R) r f g = absurd (omega (arith, (g refl).0))
