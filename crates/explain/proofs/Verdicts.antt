-- What a refused row's number says of the tests.
use Rattle.std.specs.Prelude.{if◌then◌else◌}
use mathlib.Core.Path.{◌≡◌, refl, ap, sym, subst, ◌∙◌}
use mathlib.Core.Logic.{◌≢◌}
use mathlib.Core.Bool.{Bool, true, false, ◌&&◌, ◌||◌, not}
use Prim.Native.Nat.{ℕ, ◌+◌}
use native.Mathlib.Omega.{arith}
use lib.Dec.{eqb}
use Rattle.program_laws.proofs.Tests.{and_left}
use Rattle.program_laws.proofs.Places.{leaves_of, stays_of, row_leaves, row_faults}
use Rattle.model.specs.declared.Row as rows
use Rattle.model.specs.declared.Scan.{Scan}
use Rattle.model.specs.Load.{lacking, same_rule, begun, taken, fault, take_row, passed, refused_at, too_many, breaks, valueless}
use Rattle.model.specs.Places.{LeavesLacking}
use Rattle.model.specs.declared.refusal.Refusal.{Refusal}
use Rattle.model.specs.declared.refusal.Refusal.TheVariants.{NotWellFormed, Layout, Row, Valueless, TooMany, OutOfTurn, OutOfRange, IdsSpent, AtomsFull, PlansFull, CyclesSpent, NotAlive}
use Rattle.model.specs.Refusals as Refusals
use Rattle.causes.specs.declared.Limit.{Limit}
use Rattle.causes.specs.declared.Lack.{Lack}
use Rattle.causes.specs.declared.Breach.{Breach}
use Rattle.causes.specs.declared.Unvalued.{Unvalued}
use Rattle.causes.specs.Causes.{Exceeds, Lacks, Breaches, LacksValue}
use Rattle.explain.specs.declared.Cause.TheVariants as cause
use Rattle.explain.specs.declared.Cause.{Cause}
use Rattle.explain.specs.Explaining.{OfRow, lack, limit, breach, unvalued, number_of}

same_number : (b : Bool) (t : Scan) (n j m k : ℕ) → refused_at n j ≡ (if b then passed t else refused_at m k) → n ≡ m
same_number true t n j m k e = let z : ◌≡◌ {A = ℕ} 0 1 = cc in absurd (omega arith)
same_number false t n j m k e = cc

module _ (a b c : Bool) where
  abbrev tested : ℕ
  tested = if a then 5 else if b then 3 else if c then 4 else 0

five : (a b c : Bool) → tested a b c ≡ 5 → a ≡ true
five true b c e = refl
five false true c e = absurd (omega arith)
five false false true e = absurd (omega arith)
five false false false e = absurd (omega arith)

four : (a b c : Bool) → tested a b c ≡ 4 → c ≡ true
four true b c e = absurd (omega arith)
four false true c e = absurd (omega arith)
four false false true e = refl
four false false false e = absurd (omega arith)

broken : (a b c : Bool) → tested a b c ≡ 3 → b ≡ true
broken true b c e = absurd (omega arith)
broken false true c e = refl
broken false false true e = absurd (omega arith)
broken false false false e = absurd (omega arith)

three : (a b c : Bool) → tested a b c ≢ 0 → tested a b c ≢ 5 → tested a b c ≢ 4 → tested a b c ≡ 3
three true b c x y z = absurd (y refl)
three false true c x y z = refl
three false false true x y z = absurd (z refl)
three false false false x y z = absurd (x refl)

module _ (s t : Scan) (r : rows.Row) where
  pub is_too_many : fault s t r ≡ 5 → too_many s r ≡ true
  unfolding fault
  is_too_many e = five (too_many s r) (breaks s t r) (valueless t r) e

  pub is_broken : fault s t r ≡ 3 → breaks s t r ≡ true
  unfolding fault
  is_broken e = broken (too_many s r) (breaks s t r) (valueless t r) e

  pub is_valueless : fault s t r ≡ 4 → valueless t r ≡ true
  unfolding fault
  is_valueless e = four (too_many s r) (breaks s t r) (valueless t r) e

  pub is_three : fault s t r ≢ 0 → fault s t r ≢ 5 → fault s t r ≢ 4 → fault s t r ≡ 3
  unfolding fault
  is_three x y z = three (too_many s r) (breaks s t r) (valueless t r) x y z

-- the number of a cause is that of the refusal
pub of_row_number : {s : Scan} {r : rows.Row} {c : Cause} {n k : ℕ} → OfRow s r c → take_row s r ≡ refused_at n k → number_of c ≡ n
of_row_number {s} {r} (lack h x) e = let f = row_leaves s r h in cc
of_row_number {s} {r} (limit h x) e = let f = row_faults s r h.0 5 h.1 refl in cc
of_row_number {s} {r} (breach h x) e = let f = row_faults s r h.0 3 h.1 refl in cc
of_row_number {s} {r} (unvalued h x) e = let f = row_faults s r h.0 4 h.1 refl in cc

-- a refusal that is neither 5 nor 4
abbrev Other : ℕ → Type 0
Other n = (n ≢ 0) × (n ≢ 5) × (n ≢ 4)

other : (n : ℕ) → eqb n 0 || eqb n 5 || eqb n 4 ≡ false → Other n
other n e = (λ z. absurd (grind (arith, z)), λ z. absurd (grind (arith, z)), λ z. absurd (grind (arith, z)))

is_other : (f : Refusal) → (f ≡ TooMany → ⊥) → (f ≡ Valueless → ⊥) → Other (Refusals.number_of f)
is_other NotWellFormed x y = other 1 refl
is_other Layout x y = other 2 refl
is_other Row x y = other 3 refl
is_other Valueless x y = absurd (y refl)
is_other TooMany x y = absurd (x refl)
is_other OutOfTurn x y = other 6 refl
is_other OutOfRange x y = other 7 refl
is_other IdsSpent x y = other 8 refl
is_other AtomsFull x y = other 9 refl
is_other PlansFull x y = other 10 refl
is_other CyclesSpent x y = other 11 refl
is_other NotAlive x y = other 12 refl

module _ (s : Scan) (r : rows.Row) (f : Refusal) (k : ℕ) (e : take_row s r ≡ refused_at (Refusals.number_of f) k) where
  number_is : {a : Bool} → a ≡ lacking s → a && not (same_rule s r) ≡ false → Refusals.number_of f ≡ fault s (begun s r) r
  unfolding take_row
  number_is {a} q l =
      same_number (eqb (fault s (begun s r) r) 0) (taken (begun s r) r) (Refusals.number_of f) k (fault s (begun s r) r) (s.count + 2) (sym e ∙ rw (← q, l))

  -- the ways through the tests on a refused row, t being the scan as the row finds it
  module _ {a : Bool} (q : a ≡ lacking s) where
    pub lack_is : a && not (same_rule s r) ≡ true → lacking s ≡ true
    lack_is l = sym q ∙ and_left a (not (same_rule s r)) l

    pub told_lack : (c : Lack) → a && not (same_rule s r) ≡ true → Lacks s c → OfRow s r (cause.Lack c)
    told_lack c l x = lack (leaves_of s r (subst (λ (b : Bool). b && not (same_rule s r) ≡ true) q l)) x

    module _ (l : a && not (same_rule s r) ≡ false) where
      stays : ¬ LeavesLacking s r
      stays = stays_of s r (subst (λ (b : Bool). b && not (same_rule s r) ≡ false) q l)

      fault_is : {n : ℕ} {v : Refusal} → Refusals.number_of v ≡ n → f ≡ v → fault s (begun s r) r ≡ n
      fault_is m i = sym (number_is q l) ∙ ap Refusals.number_of i ∙ m

      pub many_is : f ≡ TooMany → too_many s r ≡ true
      many_is i = is_too_many s (begun s r) r (fault_is refl i)

      pub told_limit : (c : Limit) → f ≡ TooMany → Exceeds s r c → OfRow s r (cause.Limit c)
      told_limit c i x = limit (stays, fault_is refl i) x

      module _ (t : Scan) (g : t ≡ begun s r) where
        pub valueless_is : f ≡ Valueless → valueless t r ≡ true
        valueless_is i = subst (λ (u : Scan). valueless u r ≡ true) (sym g) (is_valueless s (begun s r) r (fault_is refl i))

        pub told_unvalued : (c : Unvalued) → f ≡ Valueless → LacksValue t r c → OfRow s r (cause.Unvalued c)
        told_unvalued c i x = unvalued (stays, fault_is refl i) (subst (λ (u : Scan). LacksValue u r c) g x)

        module _ (x : f ≡ TooMany → ⊥) (y : f ≡ Valueless → ⊥) where
          breach_is : fault s (begun s r) r ≡ 3
          breach_is = let o : Other (fault s (begun s r) r) = subst Other (number_is q l) (is_other f x y) in is_three s (begun s r) r o.0 o.1 o.2

          pub breaks_is : breaks s t r ≡ true
          breaks_is = subst (λ (u : Scan). breaks s u r ≡ true) (sym g) (is_broken s (begun s r) r breach_is)

          pub told_breach : (c : Breach) → Breaches s t r c → OfRow s r (cause.Breach c)
          told_breach c b = breach (stays, breach_is) (subst (λ (u : Scan). Breaches s u r c) g b)
