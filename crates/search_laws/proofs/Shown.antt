-- The candidates of a row are what the configuration shows it.
use Rattle.std.specs.Prelude.{if◌then◌else◌}
use mathlib.Core.Path.{◌≡◌, refl, sym, subst}
use mathlib.Core.Bool.{Bool, true, false, not, and-eq-true_iff}
use mathlib.Core.Logic.{◌⊎◌, inl, inr, ⊎_elim, ◌≢◌}
use mathlib.Core.List.{List, [], ◌∷◌, map}
use Prim.Native.Nat.{ℕ, ◌+◌, ◌≤◌, ◌<◌}
use native.Mathlib.Omega.{arith}
use lib.Dec.{eqb, leb}
use borrow.Author.Tests.{eqb-true, eqb-false, eq-eqb, ne_eqb, leb-true, leb-false, le-leb, not-true}
use Rattle.lists.specs.Lists.{In, first, within, keep}
use Rattle.lists.proofs.Lists.{test, clash, in_one, in_map, map_in, in_keep, keep_in, in_cast}
use Rattle.lists.proofs.Bind.{bind_in, in_bind}
use Rattle.lists.proofs.Tests.{false_not}
use Rattle.lists.proofs.Cuts.{within_above}
use Rattle.model.specs.declared.Row.{Row}
use Rattle.model.specs.declared.Atom.{Atom}
use Rattle.model.specs.Program.{constant}
use Rattle.model.specs.Configuration.{Plan, Config, has_flag}
use Rattle.model.specs.Matching.{Candidate, candidate, atom_candidates, justification_candidates, plan_candidates, candidates}
use Rattle.model.specs.Meaning.{Asks, Shows, atom, plan, remainder, justification, subgoal, state, cycle}

-- one of two neighbours, as a test
asked : (n : ℕ) (r : Row) → within n (n + 1) r.op ≡ true → Asks n r
asked n r e =
    let a = (and-eq-true_iff (leb n r.op) (leb r.op (n + 1))).0 e in
    let b = leb-true n r.op a.0 in
    let d = leb-true r.op (n + 1) a.1 in
    ⊎_elim (λ t. inl (eqb-true r.op n t)) (λ t. let f = eqb-false r.op n t in inr (omega arith)) (test (eqb r.op n))

in_if : {A : Type 0} {x : A} (b : Bool) {X Y : List A} → In x (if b then X else Y) → ((b ≡ true) × In x X) ⊎ ((b ≡ false) × In x Y)
in_if true i = inl (refl, i)
in_if false i = inr (refl, i)

module _ (c : Config) (r : Row) where
  abbrev any_plan : Plan → Bool
  any_plan q = true

  abbrev has_subgoal : Plan → Bool
  has_subgoal q = not (eqb q.subgoal 0)

  abbrev flagged : Plan → Bool
  flagged q = has_flag (constant r.a) q.flags

  abbrev by_set : Plan → Candidate
  by_set q = candidate q.id q.set q.rule

  abbrev by_left : Plan → Candidate
  by_left q = candidate q.id q.left 0

  abbrev by_subgoal : Plan → Candidate
  by_subgoal q = candidate q.id q.subgoal 0

  abbrev by_flag : Plan → Candidate
  by_flag q = candidate q.id (constant r.a) 0

  -- which list a row's op chooses
  atoms_asked : Asks 1 r → candidates c r ≡ atom_candidates r.p c
  unfolding candidates
  atoms_asked (inl e) = rw e
  atoms_asked (inr e) = rw e

  plans_asked : Asks 3 r → candidates c r ≡ plan_candidates any_plan by_set c
  unfolding candidates
  plans_asked (inl e) = rw e
  plans_asked (inr e) = rw e

  remainders_asked : Asks 5 r → candidates c r ≡ plan_candidates any_plan by_left c
  unfolding candidates
  remainders_asked (inl e) = rw e
  remainders_asked (inr e) = rw e

  justifications_asked : Asks 7 r → candidates c r ≡ justification_candidates c
  unfolding candidates
  justifications_asked (inl e) = rw e
  justifications_asked (inr e) = rw e

  subgoals_asked : Asks 9 r → candidates c r ≡ plan_candidates has_subgoal by_subgoal c
  unfolding candidates
  subgoals_asked (inl e) = rw e
  subgoals_asked (inr e) = rw e

  states_asked : Asks 11 r → candidates c r ≡ plan_candidates flagged by_flag c
  unfolding candidates
  states_asked (inl e) = rw e
  states_asked (inr e) = rw e

  cycle_asked : (r.op ≡ 0) ⊎ (12 < r.op) → candidates c r ≡ candidate 0 c.cycle 0 ∷ []
  unfolding candidates
  cycle_asked (inl e) = rw e
  cycle_asked (inr h) = rw (
    within_above 1 2 r.op (omega arith),
    within_above 3 4 r.op (omega arith),
    within_above 5 6 r.op (omega arith),
    within_above 7 8 r.op (omega arith),
    within_above 9 10 r.op (omega arith),
    within_above 11 12 r.op (omega arith),
  )

  -- plans that pass a test
  plan_in : (f : Plan → Bool) (g : Plan → Candidate) {k : Candidate} → In k (plan_candidates f g c) → (q : Plan) × In q c.plans × (f q ≡ true) × (k ≡ g q)
  unfolding plan_candidates
  plan_in f g i = let m = map_in g (keep f c.plans) i in let a = keep_in f c.plans m.1 in (m.0, a.0, a.1, m.2)

  in_plan : (f : Plan → Bool) (g : Plan → Candidate) {k : Candidate} (q : Plan) → In q c.plans → f q ≡ true → k ≡ g q → In k (plan_candidates f g c)
  unfolding plan_candidates
  in_plan f g q i e p = in_cast p (in_map g (in_keep f i e))

  subgoal_there : (n : ℕ) → not (eqb n 0) ≡ true → n ≢ 0
  subgoal_there n e = eqb-false n 0 (not-true _ e)

  -- a test that does not hold
  beyond : (low : ℕ) → within low (low + 1) r.op ≡ false → low ≤ r.op → low + 1 < r.op
  beyond low e h = ⊎_elim (λ t. let a = (and-eq-true_iff (leb low r.op) (leb r.op (low + 1))).1 (le-leb low r.op h, t) in clash a e) (λ t. leb-false r.op (low + 1) t) (test (leb r.op (low + 1)))

  no_other : within 1 2 r.op ≡ false → within 3 4 r.op ≡ false → within 5 6 r.op ≡ false → within 7 8 r.op ≡ false → within 9 10 r.op ≡ false → within 11 12 r.op ≡ false → (r.op ≡ 0) ⊎ (12 < r.op)
  no_other a b d e f g = ⊎_elim (λ t. inl (eqb-true r.op 0 t)) (λ t.
      let z = eqb-false r.op 0 t in
      let h = beyond 1 a (omega arith) in
      let i = beyond 3 b (omega arith) in
      let j = beyond 5 d (omega arith) in
      let k = beyond 7 e (omega arith) in
      let l = beyond 9 f (omega arith) in
      inr (beyond 11 g (omega arith))) (test (eqb r.op 0))

  pub shown : (k : Candidate) → In k (candidates c r) → Shows c r k
  unfolding candidates atom_candidates justification_candidates
  shown k i = ⊎_elim
      (λ h. let m = map_in (λ (x : Atom). candidate x.id x.a x.b) (keep (λ (x : Atom). eqb x.p r.p) c.atoms) h.1 in
      let a = keep_in (λ (x : Atom). eqb x.p r.p) c.atoms m.1 in
      atom (asked 1 r h.0) m.0 a.0 (eqb-true m.0.p r.p a.1) m.2)
      (λ h. ⊎_elim
      (λ g. let q = plan_in any_plan by_set g.1 in plan (asked 3 r g.0) q.0 q.1 q.3)
      (λ g. ⊎_elim
      (λ f. let q = plan_in any_plan by_left f.1 in remainder (asked 5 r f.0) q.0 q.1 q.3)
      (λ f. ⊎_elim
      (λ e. let q = bind_in _ c.plans e.1 in
      let m = map_in (λ (j : ℕ). candidate q.0.id j 0) q.0.justifications q.2 in
      justification (asked 7 r e.0) q.0 q.1 m.0 m.1 m.2)
      (λ e. ⊎_elim
      (λ d. let q = plan_in has_subgoal by_subgoal d.1 in subgoal (asked 9 r d.0) q.0 q.1 (subgoal_there q.0.subgoal q.2) q.3)
      (λ d. ⊎_elim
      (λ b. let q = plan_in flagged by_flag b.1 in state (asked 11 r b.0) q.0 q.1 q.2 q.3)
      (λ b. cycle (no_other h.0 g.0 f.0 e.0 d.0 b.0) (in_one b.1))
      (in_if (within 11 12 r.op) d.1))
      (in_if (within 9 10 r.op) e.1))
      (in_if (within 7 8 r.op) f.1))
      (in_if (within 5 6 r.op) g.1))
      (in_if (within 3 4 r.op) h.1))
      (in_if (within 1 2 r.op) i)

  pub in_shown : (k : Candidate) → Shows c r k → In k (candidates c r)
  unfolding atom_candidates justification_candidates
  in_shown k (atom a x i p e) = subst (In k) (sym (atoms_asked a)) (in_cast e (in_map (λ (x : Atom). candidate x.id x.a x.b) (in_keep (λ (x : Atom). eqb x.p r.p) i (eq-eqb x.p r.p p))))
  in_shown k (plan a q i e) = subst (In k) (sym (plans_asked a)) (in_plan any_plan by_set q i refl e)
  in_shown k (remainder a q i e) = subst (In k) (sym (remainders_asked a)) (in_plan any_plan by_left q i refl e)
  in_shown k (justification a q i j m e) = subst (In k) (sym (justifications_asked a)) (in_bind (λ (p : Plan). map (λ (j : ℕ). candidate p.id j 0) p.justifications) i (in_cast e (in_map (λ (j : ℕ). candidate q.id j 0) m)))
  in_shown k (subgoal a q i n e) = subst (In k) (sym (subgoals_asked a)) (in_plan has_subgoal by_subgoal q i (false_not _ (ne_eqb q.subgoal 0 n)) e)
  in_shown k (state a q i f e) = subst (In k) (sym (states_asked a)) (in_plan flagged by_flag q i f e)
  in_shown k (cycle a e) = subst (In k) (sym (cycle_asked a)) (first e)
