-- A row that a load takes: its tests, as facts.
use Rattle.std.specs.Prelude.{if◌then◌else◌}
use mathlib.Core.Path.{◌≡◌, refl, sym, ◌∙◌}
use mathlib.Core.Bool.{Bool, true, false, not, ◌&&◌, ◌||◌, or-false, true≢false}
use mathlib.Core.Logic.{⊎_elim, ◌≢◌}
use Prim.Native.Nat.{ℕ, ◌+◌, ◌≤◌}
use native.Mathlib.Omega.{arith}
use lib.Dec.{eqb, leb}
use lib.ListN.{get_or}
use borrow.Author.Tests.{eqb-true, eqb-false, eq-eqb, ne_eqb, leb-true, leb-false, le-leb, ltb-false, not-true, not-false}
use Rattle.lists.proofs.Lists.{test, clash, or_cases}
use Rattle.model.specs.declared.Row.{Row}
use Rattle.model.specs.declared.Scan.{Scan}
use Rattle.model.specs.Program.{variable?, constant?, constant_within}
use Rattle.model.specs.Load.{same_rule, part_full, initial, too_many, in_order, set_0_row, atom_row, ceiling_row, query, action, plan_step, begun, rule_row, breaks, new_variable, valueless, taken, fault, take_row, passed, refused_at, lacking}
use Rattle.program_laws.specs.Lawful.{Uses}
use Rattle.program_laws.proofs.Tests.{and_left, and_right, and_other, parts, misses}

-- where the row stands after the last one
pub data Place (s : Scan) (r : Row) : Type 0 where
  same : same_rule s r ≡ true → r.set ≡ s.set → r.rule ≡ s.rule → s.part ≤ r.part → Place s r
  next_rule : same_rule s r ≡ false → r.set ≡ s.set → 1 ≤ s.set → r.rule ≡ s.rule + 1 → Place s r
  next_set : same_rule s r ≡ false → r.set ≡ s.set + 1 → r.rule ≡ 1 → Place s r

-- what a row of a rule is
pub data RuleRow (t : Scan) (r : Row) : Type 0 where
  reason : r.part ≡ 1 → r.op ≡ 1 → 1 ≤ r.p → RuleRow t r
  condition : r.part ≡ 2 → query r ≡ true → (t.object ≡ true → r.op ≤ 2) → RuleRow t r
  step : r.part ≡ 3 → t.object ≡ true → plan_step r ≡ true → RuleRow t r
  act : r.part ≡ 3 → t.object ≡ false → action t r ≡ true → RuleRow t r

-- what a row of set 0 is
pub record Set0Row (r : Row) : Type 0 where
  pub rule : r.rule ≡ 0
  pub part : r.part ≡ 0
  pub initial : r.op ≡ 41 → (1 ≤ r.p) × (constant? r.a ≡ true) × (constant? r.b ≡ true)
  pub ceiling : r.op ≡ 40 → (constant_within 1 65535 r.a ≡ true) × (constant_within 1 255 r.b ≡ true)

-- s is the scan before the row, t as the row finds it
pub record Accepted (s t : Scan) (r : Row) : Type 0 where
  pub set_small : r.set ≤ 8
  pub rule_small : r.rule ≤ 32
  pub count_small : s.count ≤ 511
  pub atoms_small : initial r ≡ true → s.atoms ≤ 255
  pub part_room : same_rule s r ≡ true → part_full s r ≡ false
  pub place : Place s r
  pub in_set_0 : r.set ≡ 0 → Set0Row r
  pub in_rule : 1 ≤ r.set → RuleRow t r
  pub has_value : r.part ≡ 3 → (x : ℕ) → Uses r x → variable? x ≡ true → get_or t.valued x 0 ≢ 0

module _ (s : Scan) (r : Row) where
  place_of : in_order s r ≡ true → Place s r
  place_of e = ⊎_elim (λ p. ⊎_elim in_same in_next (or_cases _ _ p)) in_set (or_cases _ _ e)
    where
      in_same : same_rule s r && leb s.part r.part ≡ true → Place s r
      in_same p = let q = and_left _ _ p in same q (eqb-true _ _ (and_left _ _ q)) (eqb-true _ _ (and_right (eqb r.set s.set) _ q)) (leb-true _ _ (and_right (same_rule s r) _ p))

      in_next : eqb r.set s.set && leb 1 s.set && eqb r.rule (s.rule + 1) ≡ true → Place s r
      in_next p =
          let e₀ = eqb-true r.set s.set (and_left _ _ (and_left _ _ p)) in
          let h = leb-true 1 s.set (and_right (eqb r.set s.set) _ (and_left _ _ p)) in
          let e₁ = eqb-true r.rule (s.rule + 1) (and_right (eqb r.set s.set && leb 1 s.set) _ p) in
          ⊎_elim (λ q. let e₂ = eqb-true r.rule s.rule (and_right (eqb r.set s.set) _ q) in absurd (omega arith)) (λ q. next_rule q e₀ h e₁) (test (same_rule s r))

      in_set : eqb r.set (s.set + 1) && eqb r.rule 1 ≡ true → Place s r
      in_set p =
          let e₀ = eqb-true r.set (s.set + 1) (and_left _ _ p) in
          let e₁ = eqb-true r.rule 1 (and_right (eqb r.set (s.set + 1)) _ p) in
          ⊎_elim (λ q. let e₂ = eqb-true r.set s.set (and_left _ _ q) in absurd (omega arith)) (λ q. next_set q e₀ e₁) (test (same_rule s r))

  not_both : {C : Type 0} (m n : ℕ) → m ≢ n → eqb r.op m ≡ true → r.op ≡ n → C
  not_both m n h e q = absurd (h (sym (eqb-true r.op m e) ∙ q))

  set_0_of : set_0_row s r ≡ true → Set0Row r
  set_0_of e =
      let p : 1 ≤ r.p = leb-true _ _ (search parts depth 9) in
      let kind : atom_row r || ceiling_row s r ≡ true = search parts in
      record {
        rule = eqb-true _ _ (search parts depth 9);
        part = eqb-true _ _ (search parts depth 9);
        initial = λ o. ⊎_elim (λ a. (p, search parts, search parts)) (λ c. not_both 40 41 (omega arith) (search parts) o) (or_cases (atom_row r) (ceiling_row s r) kind);
        ceiling = λ o. ⊎_elim (λ a. not_both 41 40 (omega arith) (search parts) o) (λ c. (search parts, search parts)) (or_cases (atom_row r) (ceiling_row s r) kind);
      }

  -- a query of op 1 names a predicate
  atom_query : query r ≡ true → r.op ≡ 1 → 1 ≤ r.p
  atom_query e o = leb-true 1 r.p (simp (o, or-false) at e)

  rule_row_of : (t : Scan) → rule_row t r ≡ true → RuleRow t r
  unfolding rule_row
  rule_row_of t e =
      ⊎_elim (λ p. ⊎_elim (λ p. ⊎_elim in_reasons in_context (or_cases _ _ p)) in_steps (or_cases _ _ p)) in_actions (or_cases _ _ e)
    where
      in_reasons : eqb r.part 1 && eqb r.op 1 && query r ≡ true → RuleRow t r
      in_reasons p =
          let o = eqb-true r.op 1 (search parts) in
          reason (eqb-true _ _ (search parts)) o (atom_query (search parts) o)

      in_context : eqb r.part 2 && query r && (not t.object || leb r.op 2) ≡ true → RuleRow t r
      in_context p =
          let k : not t.object || leb r.op 2 ≡ true = search parts in
          condition (eqb-true _ _ (search parts)) (search parts) (λ o. leb-true r.op 2 (⊎_elim (λ n. clash o (not-true _ n)) (λ l. l) (or_cases _ _ k)))

      in_steps : eqb r.part 3 && t.object && plan_step r ≡ true → RuleRow t r
      in_steps p = step (eqb-true _ _ (search parts)) (search parts) (search parts)

      in_actions : eqb r.part 3 && not t.object && action t r ≡ true → RuleRow t r
      in_actions p = act (eqb-true _ _ (search parts)) (not-true _ (search parts)) (search parts)

  -- a variable that is not new has a value
  old_variable : (t : Scan) (x : ℕ) → new_variable t.valued x ≡ false → variable? x ≡ true → get_or t.valued x 0 ≢ 0
  unfolding new_variable
  old_variable t x e v = eqb-false _ _ (and_other (variable? x) _ e v)

  uses_valued : (t : Scan) → valueless t r ≡ false → r.part ≡ 3 → (x : ℕ) → Uses r x → variable? x ≡ true → get_or t.valued x 0 ≢ 0
  unfolding valueless
  uses_valued t e p x u v =
      let none : new_variable t.valued r.a || new_variable t.valued r.b || (not (eqb r.op 21) && new_variable t.valued r.i) ≡ false
      = and_other (eqb r.part 3) _ e (eq-eqb _ _ p) in
      old_variable t x (⊎_elim (λ q. rw q (search misses)) (⊎_elim (λ q. rw q (search misses))
      (λ q. rw q.0 (and_other (not (eqb r.op 21)) _ (search misses) (rw (ne_eqb r.op 21 q.1))))) u) v

  accepted_of : (t : Scan) → too_many s r ≡ false → breaks s t r ≡ false → valueless t r ≡ false → Accepted s t r
  unfolding too_many breaks
  accepted_of t few fine full = record {
    set_small = ltb-false 8 r.set (search misses);
    rule_small = ltb-false 32 r.rule (search misses);
    count_small = let h = leb-false 512 s.count (search misses) in omega arith;
    atoms_small = λ e. let h = leb-false 256 s.atoms (and_other (initial r) _ (search misses) e) in omega arith;
    part_room = λ e. and_other (same_rule s r) _ (search misses) e;
    place = place_of (not-false _ (search misses));
    in_set_0 = λ e. set_0_of (not-false _ (and_other (eqb r.set 0) _ (search misses) (eq-eqb _ _ e)));
    in_rule = λ h. rule_row_of t (not-false _ (and_other (leb 1 r.set) _ (search misses) (le-leb _ _ h)));
    has_value = uses_valued t full;
  }

  faultless : (t : Scan) → fault s t r ≡ 0 → Accepted s t r
  unfolding fault
  faultless t e = go (too_many s r) refl (breaks s t r) refl (valueless t r) refl e
    where
      go : (a : Bool) → too_many s r ≡ a → (b : Bool) → breaks s t r ≡ b → (c : Bool) → valueless t r ≡ c →
          ◌≡◌ {A = ℕ} (if a then 5 else if b then 3 else if c then 4 else 0) 0 → Accepted s t r
      go true p b q c k e = absurd (omega arith)
      go false p true q c k e = absurd (omega arith)
      go false p false q true k e = absurd (omega arith)
      go false p false q false k e = accepted_of t p q k

  -- a row that passes
  pub record Passes (t : Scan) : Type 0 where
    pub accepted : Accepted s (begun s r) r
    pub next : t ≡ taken (begun s r) r

  pub passes : (t : Scan) → take_row s r ≡ passed t → Passes t
  unfolding take_row
  passes t e = go (lacking s && not (same_rule s r)) (eqb (fault s (begun s r) r) 0) refl e
    where
      go : (a b : Bool) → eqb (fault s (begun s r) r) 0 ≡ b →
          (if a then refused_at 3 (s.count + 1) else if b then passed (taken (begun s r) r) else refused_at (fault s (begun s r) r) (s.count + 2)) ≡ passed t → Passes t
      go true b p e = absurd (true≢false cc)
      go false false p e = absurd (true≢false cc)
      go false true p e = record { accepted = faultless (begun s r) (eqb-true _ 0 p); next = cc }
