-- The tests leave nothing out: a row of a rule in which they find nothing wrong is one that the load takes, and a row of set 0 too, but for
-- a second ceiling.
use mathlib.Core.Path.{◌≡◌, refl, sym}
use mathlib.Core.Logic.{◌≢◌, ⊎_elim}
use mathlib.Core.Bool.{Bool, true, false, ◌&&◌, ◌||◌, not, or-true, false≢true}
use Prim.Native.Nat.{ℕ, ◌+◌, ◌≤◌, ◌<◌}
use native.Mathlib.Omega.{arith}
use lib.Dec.{leb, eqb}
use lib.ListN.{get_or}
use borrow.Author.Tests.{eqb-true, eqb-false, eq-eqb, ne_eqb, leb-true, leb-false, le-leb, lt-leb, not-true}
use Rattle.lists.specs.Lists.{within}
use Rattle.lists.proofs.Lists.{test, clash, or_cases, or_right}
use Rattle.program_laws.proofs.Tests.{and_left, and_right, and_other}
use Rattle.model.specs.declared.Row.{Row}
use Rattle.model.specs.declared.Scan.{Scan}
use Rattle.model.specs.Program.{any?, unused?, flag?, constant?, constant_within}
use Rattle.model.specs.Load.{in_order, against_kind, breaks, set_0_row, atom_row, ceiling_row, rule_row, query, action, plan_step}
use Rattle.causes.specs.Causes.{has_predicate, has_flag, is_unused, is_given}
use Rattle.causes.specs.Checking.{Ordered, Stands, Unused, Given, Used, New, Constants, Faultless, misfits}

by_number : {C : Type 0} (n m : ℕ) → (n ≡ m → C) → (n ≢ m → C) → C
by_number n m f g = ⊎_elim (λ t. f (eqb-true n m t)) (λ t. g (eqb-false n m t)) (test (eqb n m))

-- tests put together
held : (a b : Bool) → a && not b ≡ false → a ≡ true → b ≡ true
held true true e h = refl
held true false e h = sym e
held false b e h = absurd (false≢true h)

all_3 : (a b c : Bool) → a ≡ true → b ≡ true → c ≡ true → a && b && c ≡ true
all_3 a b c e f g = rw (e, f, g)

or_first : (a b : Bool) → a ≡ true → a || b ≡ true
or_first a b e = rw e

in_1 : (a b c d : Bool) → a ≡ true → a || b || c || d ≡ true
in_1 a b c d e = rw e

in_2 : (a b c d : Bool) → b ≡ true → a || b || c || d ≡ true
in_2 true b c d e = refl
in_2 false b c d e = rw e

in_3 : (a b c d : Bool) → c ≡ true → a || b || c || d ≡ true
in_3 a b c d e = or_first (a || b || c) d (or_right (a || b) e)

in_4 : (a b c d : Bool) → d ≡ true → a || b || c || d ≡ true
in_4 a b c d e = or_right (a || b || c) e

module _ (t : Scan) (r : Row) (u : Unused r) (g : Given r) (w : Used r) (n : New t r) (k : Constants r) where
  p_used : has_predicate r.op ≡ true → leb 1 r.p ≡ true
  p_used h = let f : r.p ≢ 0 = eqb-false r.p 0 (and_other (has_predicate r.op) (eqb r.p 0) w.predicate h) in le-leb 1 r.p (omega (arith, f))

  p_unused : is_unused r.op 6 ≡ true → eqb r.p 0 ≡ true
  p_unused h = let e = eqb-true (r.p + 9) 9 (held (is_unused r.op 6) (unused? (r.p + 9)) u.p h) in eq-eqb r.p 0 (omega arith)

  i_unused : is_unused r.op 5 ≡ true → unused? r.i ≡ true
  i_unused h = held (is_unused r.op 5) (unused? r.i) u.i h

  a_unused : is_unused r.op 7 ≡ true → unused? r.a ≡ true
  a_unused h = held (is_unused r.op 7) (unused? r.a) u.a h

  b_unused : is_unused r.op 8 ≡ true → unused? r.b ≡ true
  b_unused h = held (is_unused r.op 8) (unused? r.b) u.b h

  i_given : is_given r.op 5 ≡ true → any? r.i ≡ false
  i_given h = and_other (is_given r.op 5) (any? r.i) g.i h

  a_given : is_given r.op 7 ≡ true → any? r.a ≡ false
  a_given h = and_other (is_given r.op 7) (any? r.a) g.a h

  b_given : is_given r.op 8 ≡ true → any? r.b ≡ false
  b_given h = and_other (is_given r.op 8) (any? r.b) g.b h

  flag_is : has_flag r.op ≡ true → flag? r.a ≡ true
  flag_is h = held (has_flag r.op) (flag? r.a) w.flag h

  -- queries
  module _ (low : 1 ≤ r.op) (high : r.op ≤ 14) where
    atoms : r.op ≤ 2 → query r ≡ true
    atoms h = let o = le-leb r.op 2 h in let l = le-leb 1 r.op low in simp (l, o, p_used (simp (l, o)))

    unused_p : 3 ≤ r.op → eqb r.p 0 ≡ true
    unused_p h = p_unused (simp (le-leb 3 r.op h, le-leb r.op 14 high))

    plans : 3 ≤ r.op → r.op ≤ 4 → query r ≡ true
    plans h k = simp (lt-leb r.op 2 h, le-leb 1 r.op low, le-leb 3 r.op h, le-leb r.op 4 k, unused_p h)

    unused_b : 5 ≤ r.op → unused? r.b ≡ true
    unused_b h = b_unused (simp (le-leb 5 r.op h, le-leb r.op 14 high))

    relations : 5 ≤ r.op → r.op ≤ 10 → query r ≡ true
    relations h k =
        simp (lt-leb r.op 2 (omega arith), le-leb 1 r.op low, le-leb 3 r.op (omega arith), lt-leb r.op 4 h, le-leb 5 r.op h, le-leb r.op 10 k, unused_p (omega arith), unused_b h)

    states : 11 ≤ r.op → r.op ≤ 12 → query r ≡ true
    states h k =
        let f = flag_is (simp (le-leb 11 r.op h, le-leb r.op 12 k)) in
        simp (lt-leb r.op 2 (omega arith), le-leb 1 r.op low, le-leb 3 r.op (omega arith), lt-leb r.op 4 (omega arith), le-leb 5 r.op (omega arith), lt-leb r.op 10 h, le-leb 11 r.op h, le-leb r.op 12 k, unused_p (omega arith), f, unused_b (omega arith))

    cycles : 13 ≤ r.op → query r ≡ true
    cycles h =
        let f = i_unused (simp (le-leb 13 r.op h, le-leb r.op 14 high)) in
        simp (lt-leb r.op 2 (omega arith), le-leb 1 r.op low, le-leb 3 r.op (omega arith), lt-leb r.op 4 (omega arith), le-leb 5 r.op (omega arith), lt-leb r.op 10 (omega arith), le-leb 11 r.op (omega arith), lt-leb r.op 12 h, le-leb 13 r.op h, le-leb r.op 14 high, unused_p (omega arith), f, unused_b (omega arith))

    queries : query r ≡ true
    queries =
        ⊎_elim (λ a. atoms (leb-true r.op 2 a)) (λ a. let l : 2 < r.op = leb-false r.op 2 a in
        ⊎_elim (λ b. plans (omega arith) (leb-true r.op 4 b)) (λ b. let m : 4 < r.op = leb-false r.op 4 b in
        ⊎_elim (λ c. relations (omega arith) (leb-true r.op 10 c)) (λ c. let o : 10 < r.op = leb-false r.op 10 c in
        ⊎_elim (λ d. states (omega arith) (leb-true r.op 12 d)) (λ d. let p : 12 < r.op = leb-false r.op 12 d in cycles (omega arith))
        (test (leb r.op 12))) (test (leb r.op 10))) (test (leb r.op 4))) (test (leb r.op 2))

  -- actions of meta rules
  adds : r.op ≡ 21 → action t r ≡ true
  unfolding action
  adds e = simp (p_used (simp e), a_given (simp e), b_given (simp e), n e, e)

  deletes_atom : r.op ≡ 22 → action t r ≡ true
  unfolding action
  deletes_atom e = simp (i_given (simp e), p_unused (simp e), b_unused (simp e), a_unused (simp e), e)

  sets_flag : r.op ≡ 23 → action t r ≡ true
  unfolding action
  sets_flag e = simp (i_given (simp e), p_unused (simp e), b_unused (simp e), flag_is (simp e), e)

  clears_flag : r.op ≡ 24 → action t r ≡ true
  unfolding action
  clears_flag e = simp (i_given (simp e), p_unused (simp e), b_unused (simp e), flag_is (simp e), e)

  deletes_plan : r.op ≡ 25 → action t r ≡ true
  unfolding action
  deletes_plan e = simp (i_given (simp e), p_unused (simp e), b_unused (simp e), a_unused (simp e), e)

  actions : 21 ≤ r.op → r.op ≤ 25 → action t r ≡ true
  actions l h =
      by_number r.op 21 adds (λ (a : r.op ≢ 21). by_number r.op 22 deletes_atom (λ (b : r.op ≢ 22). by_number r.op 23 sets_flag (λ (c : r.op ≢ 23). by_number r.op 24 clears_flag (λ (d : r.op ≢ 24). deletes_plan (omega arith)))))

  -- steps of plans
  tells : 31 ≤ r.op → r.op ≤ 33 → plan_step r ≡ true
  unfolding plan_step
  tells l h =
      let x = le-leb 31 r.op l in
      let y = le-leb r.op 33 h in
      let z = le-leb r.op 34 (omega arith) in
      simp (p_used (simp (x, z, or-true)), a_given (simp (x, z, or-true)), b_given (simp (x, z, or-true)), i_unused (simp (x, y, or-true)), x, y)

  makes_atom : r.op ≡ 34 → plan_step r ≡ true
  unfolding plan_step
  makes_atom e = simp (p_used (simp e), a_given (simp e), b_given (simp e), held (eqb r.op 34 || eqb r.op 36) (any? r.i) w.made (simp e), e)

  step_deletes : r.op ≡ 35 → plan_step r ≡ true
  unfolding plan_step
  step_deletes e = simp (i_given (simp e), p_unused (simp e), b_unused (simp e), a_unused (simp e), e)

  makes_subgoal : r.op ≡ 36 → plan_step r ≡ true
  unfolding plan_step
  makes_subgoal e = simp (p_used (simp e), a_given (simp e), b_given (simp e), held (eqb r.op 34 || eqb r.op 36) (any? r.i) w.made (simp e), e)

  plan_steps : 31 ≤ r.op → r.op ≤ 36 → plan_step r ≡ true
  plan_steps l h =
      by_number r.op 34 makes_atom (λ (a : r.op ≢ 34). by_number r.op 35 step_deletes (λ (b : r.op ≢ 35). by_number r.op 36 makes_subgoal (λ (c : r.op ≢ 36). tells l (omega arith))))

  -- a row of a rule
  abbrev reason_row : Bool
  reason_row = eqb r.part 1 && eqb r.op 1 && query r

  abbrev context_row : Bool
  context_row = eqb r.part 2 && query r && (not t.object || leb r.op 2)

  abbrev step_row : Bool
  step_row = eqb r.part 3 && t.object && plan_step r

  abbrev action_row : Bool
  action_row = eqb r.part 3 && not t.object && action t r

  module _ (st : Stands t r) (h : 1 ≤ r.set) where
    off_0 : eqb r.set 0 ≡ false
    off_0 = ne_eqb r.set 0 (omega arith)

    reason_right : r.part ≡ 1 → rule_row t r ≡ true
    unfolding rule_row
    reason_right e =
        let o : eqb r.op 1 ≡ true = simp (off_0, e) at st.op in
        let q = eqb-true r.op 1 o in
        in_1 reason_row context_row step_row action_row (all_3 (eqb r.part 1) (eqb r.op 1) (query r) (eq-eqb _ _ e) o (queries (omega arith) (omega arith)))

    context_right : r.part ≡ 2 → rule_row t r ≡ true
    unfolding rule_row
    context_right e = ⊎_elim object meta (test t.object)
      where
        object : t.object ≡ true → rule_row t r ≡ true
        object o =
            let x : within 1 2 r.op ≡ true = simp (off_0, e, o) at st.op in
            let l = leb-true 1 r.op (and_left (leb 1 r.op) (leb r.op 2) x) in
            let k = and_right (leb 1 r.op) (leb r.op 2) x in
            let m = leb-true r.op 2 k in
            in_2 reason_row context_row step_row action_row (all_3 (eqb r.part 2) (query r) (not t.object || leb r.op 2) (eq-eqb _ _ e) (queries l (omega arith)) (or_right (not t.object) k))

        meta : t.object ≡ false → rule_row t r ≡ true
        meta o =
            let x : within 1 14 r.op ≡ true = simp (off_0, e, o) at st.op in
            let l = leb-true 1 r.op (and_left (leb 1 r.op) (leb r.op 14) x) in
            let k = leb-true r.op 14 (and_right (leb 1 r.op) (leb r.op 14) x) in
            in_2 reason_row context_row step_row action_row (all_3 (eqb r.part 2) (query r) (not t.object || leb r.op 2) (eq-eqb _ _ e) (queries l k) (rw o))

    body_right : r.part ≡ 3 → rule_row t r ≡ true
    unfolding rule_row
    body_right e = ⊎_elim object meta (test t.object)
      where
        object : t.object ≡ true → rule_row t r ≡ true
        object o =
            let x : within 31 36 r.op ≡ true = simp (off_0, e, o) at st.op in
            let l = leb-true 31 r.op (and_left (leb 31 r.op) (leb r.op 36) x) in
            let k = leb-true r.op 36 (and_right (leb 31 r.op) (leb r.op 36) x) in
            in_3 reason_row context_row step_row action_row (all_3 (eqb r.part 3) t.object (plan_step r) (eq-eqb _ _ e) o (plan_steps l k))

        meta : t.object ≡ false → rule_row t r ≡ true
        meta o =
            let x : within 21 25 r.op ≡ true = simp (off_0, e, o) at st.op in
            let l = leb-true 21 r.op (and_left (leb 21 r.op) (leb r.op 25) x) in
            let k = leb-true r.op 25 (and_right (leb 21 r.op) (leb r.op 25) x) in
            in_4 reason_row context_row step_row action_row (all_3 (eqb r.part 3) (not t.object) (action t r) (eq-eqb _ _ e) (rw o) (actions l k))

    rule_right : rule_row t r ≡ true
    rule_right =
        let x = held (leb 1 r.set) (within 1 3 r.part) st.part (le-leb _ _ h) in
        let l = leb-true 1 r.part (and_left (leb 1 r.part) (leb r.part 3) x) in
        let k = leb-true r.part 3 (and_right (leb 1 r.part) (leb r.part 3) x) in
        by_number r.part 1 reason_right (λ (a : r.part ≢ 1). by_number r.part 2 context_right (λ (b : r.part ≢ 2). body_right (omega arith)))

  -- a row of set 0
  module _ (s : Scan) (st : Stands t r) (h : r.set ≡ 0) where
    op_set_0 : within 40 41 r.op ≡ true
    op_set_0 = simp h at st.op

    set_0_right : atom_row r || ceiling_row s r ≡ true → set_0_row s r ≡ true
    set_0_right x =
        let l = and_left (leb 40 r.op) (leb r.op 41) op_set_0 in
        let m = and_right (leb 40 r.op) (leb r.op 41) op_set_0 in
        let z = eq-eqb r.set 0 h in
        simp (held (eqb r.set 0) (eqb r.rule 0) st.rule_0 z, held (eqb r.set 0) (eqb r.part 0) st.part_0 z, p_used (simp (l, m, or-true)), i_unused (simp (l, m, or-true)), x)

    atom_right : r.op ≡ 41 → set_0_row s r ≡ true
    atom_right e =
        let o = eq-eqb r.op 41 e in
        set_0_right (or_first (atom_row r) (ceiling_row s r) (all_3 (eqb r.op 41) (constant? r.a) (constant? r.b) o (held (eqb r.op 41) (constant? r.a) k.first o) (held (eqb r.op 41) (constant? r.b) k.second o)))

    ceiling_right : r.op ≡ 40 → get_or s.ceilings r.p 0 ≡ 0 → set_0_row s r ≡ true
    ceiling_right e z =
        let o = eq-eqb r.op 40 e in
        set_0_right (or_right (atom_row r) (simp (o, held (eqb r.op 40) (constant_within 1 65535 r.a) k.threshold o, held (eqb r.op 40) (constant_within 1 255 r.b) k.ceiling o, eq-eqb _ _ z)))

    second : set_0_row s r ≡ false → (r.op ≡ 40) × (get_or s.ceilings r.p 0 ≢ 0)
    second f =
        let l = leb-true 40 r.op (and_left (leb 40 r.op) (leb r.op 41) op_set_0) in
        let m = leb-true r.op 41 (and_right (leb 40 r.op) (leb r.op 41) op_set_0) in
        by_number r.op 40 (λ e. (e, λ z. clash (ceiling_right e z) f)) (λ (d : r.op ≢ 40). clash (atom_right (omega arith)) f)

  -- what is left is a second ceiling
  second_ceiling : (s : Scan) → Stands t r → misfits s t r ≡ true → (r.op ≡ 40) × (get_or s.ceilings r.p 0 ≢ 0)
  second_ceiling s st e =
      ⊎_elim (λ x. second s st (eqb-true _ _ (and_left (eqb r.set 0) _ x)) (not-true _ (and_right (eqb r.set 0) _ x)))
      (λ x. clash (rule_right st (leb-true _ _ (and_left (leb 1 r.set) _ x))) (not-true _ (and_right (leb 1 r.set) _ x)))
      (or_cases (eqb r.set 0 && not (set_0_row s r)) (leb 1 r.set && not (rule_row t r)) e)

-- a row that is in order and of its set's kind breaks the rules by its op or columns
misfits_of : (s t : Scan) (r : Row) → breaks s t r ≡ true → Ordered s r → against_kind s r ≡ false → Stands t r → misfits s t r ≡ true
unfolding breaks
misfits_of s t r e o a st =
    let i : in_order s r ≡ true = o (λ z. eqb-true _ _ (held (eqb r.set 0) (eqb r.rule 0) st.rule_0 (eq-eqb _ _ z))) in
    left (in_order s r) (against_kind s r) (eqb r.set 0 && not (set_0_row s r)) (leb 1 r.set && not (rule_row t r)) i a e
  where
    left : (i a x y : Bool) → i ≡ true → a ≡ false → not i || a || x || y ≡ true → x || y ≡ true
    left true false x y p q e = e
    left true true x y p q e = absurd (false≢true (sym q))
    left false a x y p q e = absurd (false≢true p)

-- a row that breaks a rule, in which the tests find nothing
pub only_ceiling : (s t : Scan) (r : Row) → breaks s t r ≡ true → Faultless s t r → (r.op ≡ 40) × (get_or s.ceilings r.p 0 ≢ 0)
only_ceiling s t r b f =
    second_ceiling t r f.unused f.given f.used f.new f.constants s f.stands (misfits_of s t r b f.ordered f.kind f.stands)
