-- Each change that the rules make, and the relation of model/specs/Effects that it is.
use mathlib.Core.Path.{◌≡◌, refl, sym, ap, ◌∙◌}
use mathlib.Core.Bool.{true, false, and-eq-true_iff}
use mathlib.Core.List.{List, [], ◌∷◌, map}
use Prim.Native.Nat.{ℕ}
use native.Mathlib.Omega.{arith}
use lib.Dec.{eqb}
use lib.ListN.{length}
use borrow.Author.Tests.{eqb-true, eq-eqb, ne_eqb}
use Rattle.lists.specs.Lists.{In, rising_set}
use Rattle.lists.proofs.Lists.{clash}
use Rattle.lists.proofs.Tests.{and2}
use Rattle.lists.proofs.Some.{some_in, in_some}
use Rattle.lists.proofs.RisingSet.{rising_set_rises, rising_set_in, in_rising_set}
use Rattle.model.specs.declared.Row.{Row}
use Rattle.model.specs.declared.Atom.{Atom}
use Rattle.model.specs.Program.{body}
use Rattle.model.specs.Configuration.{Plan, Config, SameScalars, scheduled, stepped, failed, with_flag, without_flag, with_flags, step_removed, with_subgoal, at_plan, with_phase, with_waiting, change_plan, add_atom, add_plan, add_subgoal, equal_to}
use Rattle.model.specs.Matching.{Found}
use Rattle.model.specs.Calls.{next_cycle, set_stepped, set_failed, remove_step, exists_atom}
use Rattle.model.specs.Effects.{Each, AtomMade, AtPlan, PlanChanged, Turned, Equal, PlanMade, CycleEnded, now_stepped, StepDone, StepFailed, SubgoalMade, Somewhere}

pub same_scalars : (c : Config) → SameScalars c c
same_scalars c = record { same_phase = refl; same_cycle = refl; same_waiting = refl }

pub atom_made : (p a b : ℕ) (c : Config) → AtomMade p a b c (add_atom p a b c)
atom_made p a b c = record { atoms = refl; plans = refl; next = omega arith; scalars = record { same_phase = refl; same_cycle = refl; same_waiting = refl } }

each_map : {A : Type 0} (R : A → A → Type 0) (f : A → A) (l : List A) → ((x : A) → R x (f x)) → Each R l (map f l)
each_map R f [] h = tt
each_map R f (x ∷ l) h = (h x, each_map R f l h)

each_then : {A : Type 0} (R S T : A → A → Type 0) (l m n : List A) → ((x y z : A) → R x y → S y z → T x z) → Each R l m → Each S m n → Each T l n
each_then R S T [] [] [] h r s = tt
each_then R S T [] [] (z ∷ n) h r s = absurd s
each_then R S T [] (y ∷ m) n h r s = absurd r
each_then R S T (x ∷ l) [] n h r s = absurd r
each_then R S T (x ∷ l) (y ∷ m) [] h r s = absurd s
each_then R S T (x ∷ l) (y ∷ m) (z ∷ n) h r s = (h x y z r.0 s.0, each_then R S T l m n h r.1 s.1)

pub plan_changed : (k : ℕ) (f : Plan → Plan) (c : Config) → PlanChanged k f c (change_plan k f c)
plan_changed k f c = record {
  atoms = refl;
  plans = each_map (AtPlan k f) (at_plan k f) c.plans (λ p. (λ e. rw (eq-eqb p.id k e), λ e. rw (ne_eqb p.id k e)));
  next = refl;
  scalars = record { same_phase = refl; same_cycle = refl; same_waiting = refl };
}

-- one change of a plan after another
changed_then : (k : ℕ) (f g : Plan → Plan) (c d e : Config) → ((p : Plan) → (f p).id ≡ p.id) → PlanChanged k f c d → PlanChanged k g d e → PlanChanged k (λ p. g (f p)) c e
changed_then k f g c d e same x y = record {
  atoms = y.atoms ∙ x.atoms;
  plans = each_then (AtPlan k f) (AtPlan k g) (AtPlan k (λ p. g (f p))) c.plans d.plans e.plans both x.plans y.plans;
  next = y.next ∙ x.next;
  scalars = record {
    same_phase = y.scalars.same_phase ∙ x.scalars.same_phase;
    same_cycle = y.scalars.same_cycle ∙ x.scalars.same_cycle;
    same_waiting = y.scalars.same_waiting ∙ x.scalars.same_waiting;
  };
}
  where
    both : (p q r : Plan) → AtPlan k f p q → AtPlan k g q r → AtPlan k (λ p. g (f p)) p r
    both p q r a b = (
      λ i. let z = a.0 i in b.0 (ap (λ (u : Plan). u.id) z ∙ same p ∙ i) ∙ ap g z,
      λ i. let z = a.1 i in b.1 (λ j. i (sym (ap (λ (u : Plan). u.id) z) ∙ j)) ∙ z,
    )

pub step_done : (k : ℕ) (c : Config) → StepDone k c (set_stepped k (remove_step k c))
step_done k c = changed_then k step_removed now_stepped c (remove_step k c) _ (λ p. refl) (plan_changed k step_removed c) (plan_changed k now_stepped (remove_step k c))

pub step_failed : (k : ℕ) (c : Config) → StepFailed k c (set_stepped k (set_failed k c))
step_failed k c = changed_then k (with_flags (with_flag failed)) now_stepped c (set_failed k c) _ (λ p. refl) (plan_changed k (with_flags (with_flag failed)) c) (plan_changed k now_stepped (set_failed k c))

pub subgoal_made : (k p a b : ℕ) (c : Config) → SubgoalMade k p a b c (add_subgoal k p a b c)
subgoal_made k p a b c = record { between = add_atom p a b c; made = atom_made p a b c; linked = plan_changed k (with_subgoal c.next) (add_atom p a b c) }

pub phase_turned : (n : ℕ) (c : Config) → Turned n c.cycle c.waiting c (with_phase n c)
phase_turned n c = record { atoms = refl; plans = refl; next = refl; new_phase = refl; new_cycle = refl; new_waiting = refl }

pub waiting_turned : (k : ℕ) (c : Config) → Turned c.phase c.cycle k c (with_waiting k c)
waiting_turned k c = record { atoms = refl; plans = refl; next = refl; new_phase = refl; new_cycle = refl; new_waiting = refl }

pub cycle_ended : (c : Config) → CycleEnded c (next_cycle c)
cycle_ended c = record {
  atoms = refl;
  plans = each_map _ (with_flags (λ f. without_flag stepped (without_flag scheduled f))) c.plans (λ p. refl);
  next = refl;
  new_phase = refl;
  new_cycle = refl;
  same_waiting = refl;
}

pub plan_made : (program : List Row) (s n : ℕ) (g : Found) (c : Config) → PlanMade program s n g c (add_plan s n g.values (length (body program s n)) (rising_set g.matched) c)
plan_made program s n g c = record {
  plan = record { id = c.next; set = s; rule = n; values = g.values; left = length (body program s n); justifications = rising_set g.matched; subgoal = 0; flags = 0 };
  atoms = refl;
  plans = refl;
  next = omega arith;
  scalars = record { same_phase = refl; same_cycle = refl; same_waiting = refl };
  its_id = refl;
  its_set = refl;
  its_rule = refl;
  its_values = refl;
  whole_body = refl;
  justified = λ j. (rising_set_in g.matched j, in_rising_set g.matched j);
  each_once = rising_set_rises g.matched;
  no_subgoal = refl;
  no_flags = refl;
}

-- live atoms p(a, b)
module _ (p a b : ℕ) (c : Config) where
  pub equal_tested : (x : Atom) → In x c.atoms → equal_to p a b x ≡ true → Equal p a b c x
  equal_tested x i e =
      let h = (and-eq-true_iff (eqb x.p p) _).0 e in
      let k = (and-eq-true_iff (eqb x.a a) (eqb x.b b)).0 h.1 in
      (i, eqb-true x.p p h.0, eqb-true x.a a k.0, eqb-true x.b b k.1)

  pub tests_equal : (x : Atom) → Equal p a b c x → equal_to p a b x ≡ true
  tests_equal x e = and2 (eq-eqb x.p p e.1) (and2 (eq-eqb x.a a e.2) (eq-eqb x.b b e.3))

  pub found_somewhere : exists_atom p a b c ≡ true → Somewhere p a b c
  unfolding exists_atom
  found_somewhere e = let k = some_in (equal_to p a b) c.atoms e in (k.0, equal_tested k.0 k.1 k.2)

  pub nowhere : exists_atom p a b c ≡ false → ¬ Somewhere p a b c
  unfolding exists_atom
  nowhere e (x, h) = clash (in_some (equal_to p a b) h.0 (tests_equal x h)) e
