-- A well-formed configuration, clause by clause: its graph is sound, and the rest is `Shaped`.
use mathlib.Core.Path.{◌≡◌, refl}
use mathlib.Core.Bool.{true, ◌&&◌, and-eq-true_iff}
use mathlib.Core.Logic.{◌⊎◌, inl, inr, ⊎_elim}
use mathlib.Core.List.{List, ◌∷◌}
use Prim.Native.Nat.{ℕ, ◌+◌, ◌≤◌}
use lib.Dec.{leb, eqb}
use lib.ListN.{length}
use borrow.Author.Tests.{eqb-true, eq-eqb, leb-true, le-leb}
use Rattle.lists.specs.Lists.{In, first, some, first_of}
use Rattle.lists.proofs.Lists.{or_cases, or_right}
use Rattle.lists.proofs.Tests.{and2, or_left, every_all, all_every}
use Rattle.lists.proofs.Some.{some_in, in_some, first_in}
use Rattle.model.specs.declared.Row.{Row}
use Rattle.model.specs.declared.Atom.{Atom}
use Rattle.model.specs.Program.{sets, is_object, body}
use Rattle.model.specs.Configuration.{Plan, Config, most_atoms, most_plans, last_next, no_value, remainder}
use Rattle.model.specs.Graph.{Sound}
use Rattle.model.specs.Deletion.{graph}
use Rattle.model.specs.WellFormed.{atom_formed, row_has_values, makes_atom, is_subgoal_step, plan_formed, is_waiting, waiting_formed, config_formed}
use Rattle.graph_laws.proofs.Formed.{graph_formed_is}

pub record AtomFormed (x : Atom) : Type 0 where
  pub p_low : 1 ≤ x.p
  pub p_high : x.p ≤ 255
  pub a_fits : x.a ≤ 65535
  pub b_fits : x.b ≤ 65535
  pub cycle_fits : x.cycle ≤ 65535

-- the plan's first step is a subgoal step equal to its subgoal, one of the atoms xs
pub record SubgoalFirst (program : List Row) (xs : List Atom) (q : Plan) : Type 0 where
  pub row : Row
  pub rest : List Row
  pub stands : remainder program q ≡ row ∷ rest
  pub is_36 : row.op ≡ 36
  pub atom : Atom
  pub alive : In atom xs
  pub is_it : atom.id ≡ q.subgoal
  pub equal : makes_atom q.values row atom ≡ true

pub record PlanFormed (program : List Row) (xs : List Atom) (q : Plan) : Type 0 where
  pub object : is_object program q.set q.rule ≡ true
  pub left_fits : q.left ≤ length (body program q.set q.rule)
  pub values_long : length q.values ≡ 8
  pub values_fit : (v : ℕ) → In v q.values → v ≤ no_value
  pub values_given : (r : Row) → In r (body program q.set q.rule) → row_has_values q.values r ≡ true
  pub flags_fit : q.flags ≤ 65535
  pub subgoal_first : (q.subgoal ≡ 0) ⊎ SubgoalFirst program xs q

-- the waiting plan: alive, with an external action first
pub record WaitingFirst (program : List Row) (n : ℕ) (qs : List Plan) : Type 0 where
  pub plan : Plan
  pub alive : In plan qs
  pub is_it : plan.id ≡ n
  pub row : Row
  pub rest : List Row
  pub stands : remainder program plan ≡ row ∷ rest
  pub is_31 : row.op ≡ 31

pub record Shaped (program : List Row) (c : Config) : Type 0 where
  pub few_atoms : length c.atoms ≤ most_atoms
  pub few_plans : length c.plans ≤ most_plans
  pub phase_fits : c.phase ≤ sets program + 1
  pub cycle_fits : c.cycle ≤ 65535
  pub next_fits : c.next ≤ last_next
  pub atoms_formed : (x : Atom) → In x c.atoms → AtomFormed x
  pub plans_formed : (q : Plan) → In q c.plans → PlanFormed program c.atoms q
  pub waiting_formed : (c.waiting ≡ 0) ⊎ ((c.phase ≡ sets program + 1) × WaitingFirst program c.waiting c.plans)

-- the tests say so
atom_of : (x : Atom) → atom_formed x ≡ true → AtomFormed x
unfolding atom_formed
atom_of x e =
    let a = (and-eq-true_iff _ _).0 e in
    let b = (and-eq-true_iff _ _).0 a.1 in
    let d = (and-eq-true_iff _ _).0 b.1 in
    let f = (and-eq-true_iff _ _).0 d.1 in
    let g = (and-eq-true_iff _ _).0 f.1 in
    record { p_low = leb-true 1 x.p a.0; p_high = leb-true x.p 255 b.0; a_fits = leb-true x.a 65535 d.0; b_fits = leb-true x.b 65535 f.0; cycle_fits = leb-true x.cycle 65535 g.0 }

of_atom : (x : Atom) → AtomFormed x → atom_formed x ≡ true
unfolding atom_formed
of_atom x w = and2 (le-leb 1 x.p w.p_low) (and2 (le-leb x.p 255 w.p_high) (and2 (le-leb x.a 65535 w.a_fits) (and2 (le-leb x.b 65535 w.b_fits) (and2 (le-leb x.cycle 65535 w.cycle_fits) refl))))

module _ (program : List Row) (c : Config) where
  subgoal_of : (q : Plan) → some (is_subgoal_step c q) (first_of (remainder program q)) ≡ true → SubgoalFirst program c.atoms q
  unfolding is_subgoal_step
  subgoal_of q e =
      let r = some_in _ (first_of (remainder program q)) e in
      let m = first_in (remainder program q) r.1 in
      let a = (and-eq-true_iff _ _).0 r.2 in
      let x = some_in _ c.atoms a.1 in
      let b = (and-eq-true_iff _ _).0 x.2 in
      record { row = r.0; rest = m.0; stands = m.1; is_36 = eqb-true r.0.op 36 a.0; atom = x.0; alive = x.1; is_it = eqb-true x.0.id q.subgoal b.0; equal = b.1 }

  of_subgoal : (q : Plan) → SubgoalFirst program c.atoms q → some (is_subgoal_step c q) (first_of (remainder program q)) ≡ true
  unfolding is_subgoal_step
  of_subgoal q s = in_some (is_subgoal_step c q) {x = s.row} (rw s.stands (first refl)) (and2 (eq-eqb s.row.op 36 s.is_36) (in_some _ s.alive (and2 (eq-eqb s.atom.id q.subgoal s.is_it) s.equal)))

  plan_of : (q : Plan) → plan_formed program c q ≡ true → PlanFormed program c.atoms q
  unfolding plan_formed
  plan_of q e =
      let a = (and-eq-true_iff _ _).0 e in
      let b = (and-eq-true_iff _ _).0 a.1 in
      let d = (and-eq-true_iff _ _).0 b.1 in
      let f = (and-eq-true_iff _ _).0 d.1 in
      let g = (and-eq-true_iff _ _).0 f.1 in
      let h = (and-eq-true_iff _ _).0 g.1 in
      let i = (and-eq-true_iff _ _).0 h.1 in
      record {
        object = a.0;
        left_fits = leb-true q.left (length (body program q.set q.rule)) b.0;
        values_long = eqb-true (length q.values) 8 d.0;
        values_fit = λ v k. leb-true v no_value (every_all (λ v. leb v no_value) q.values f.0 v k);
        values_given = every_all (row_has_values q.values) (body program q.set q.rule) g.0;
        flags_fit = leb-true q.flags 65535 h.0;
        subgoal_first = ⊎_elim (λ z. inl (eqb-true q.subgoal 0 z)) (λ z. inr (subgoal_of q z)) (or_cases _ _ i.0);
      }

  of_plan : (q : Plan) → PlanFormed program c.atoms q → plan_formed program c q ≡ true
  unfolding plan_formed
  of_plan q w =
      and2 w.object (and2 (le-leb q.left _ w.left_fits) (and2 (eq-eqb (length q.values) 8 w.values_long)
      (and2 (all_every (λ v. leb v no_value) q.values (λ v k. le-leb v no_value (w.values_fit v k)))
      (and2 (all_every (row_has_values q.values) (body program q.set q.rule) w.values_given) (and2 (le-leb q.flags 65535 w.flags_fit)
      (and2 (⊎_elim (λ z. or_left _ (eq-eqb q.subgoal 0 z)) (λ z. or_right (eqb q.subgoal 0) (of_subgoal q z)) w.subgoal_first) refl))))))

  waiting_of : waiting_formed program c ≡ true → (c.waiting ≡ 0) ⊎ ((c.phase ≡ sets program + 1) × WaitingFirst program c.waiting c.plans)
  unfolding waiting_formed
  waiting_of e = ⊎_elim (λ z. inl (eqb-true c.waiting 0 z)) (λ z. inr (at z)) (or_cases _ _ e)
    where
      at : (eqb c.phase (sets program + 1) && some (is_waiting program c.waiting) c.plans) ≡ true → (c.phase ≡ sets program + 1) × WaitingFirst program c.waiting c.plans
      at z =
          let a = (and-eq-true_iff _ _).0 z in
          let x = some_in _ c.plans a.1 in
          let b = (and-eq-true_iff _ _).0 x.2 in
          let r = some_in _ (first_of (remainder program x.0)) b.1 in
          let m = first_in (remainder program x.0) r.1 in
          (eqb-true c.phase (sets program + 1) a.0, record { plan = x.0; alive = x.1; is_it = eqb-true x.0.id c.waiting b.0; row = r.0; rest = m.0; stands = m.1; is_31 = eqb-true r.0.op 31 r.2 })

  of_waiting : (c.waiting ≡ 0) ⊎ ((c.phase ≡ sets program + 1) × WaitingFirst program c.waiting c.plans) → waiting_formed program c ≡ true
  unfolding waiting_formed
  of_waiting (inl z) = or_left _ (eq-eqb c.waiting 0 z)
  of_waiting (inr (p, w)) = or_right (eqb c.waiting 0) (and2 (eq-eqb c.phase (sets program + 1) p)
      (in_some (is_waiting program c.waiting) w.alive (and2 (eq-eqb w.plan.id c.waiting w.is_it) (in_some (λ r. eqb r.op 31) {x = w.row} (rw w.stands (first refl)) (eq-eqb w.row.op 31 w.is_31)))))

  pub formed_shaped : config_formed program c ≡ true → Sound (graph c) × Shaped program c
  unfolding config_formed
  formed_shaped e =
      let a = (and-eq-true_iff _ _).0 e in
      let b = (and-eq-true_iff _ _).0 a.1 in
      let d = (and-eq-true_iff _ _).0 b.1 in
      let f = (and-eq-true_iff _ _).0 d.1 in
      let g = (and-eq-true_iff _ _).0 f.1 in
      let h = (and-eq-true_iff _ _).0 g.1 in
      let i = (and-eq-true_iff _ _).0 h.1 in
      let j = (and-eq-true_iff _ _).0 i.1 in
      let k = (and-eq-true_iff _ _).0 j.1 in (
        (graph_formed_is (graph c)).0 h.0,
        record {
          few_atoms = leb-true (length c.atoms) most_atoms a.0;
          few_plans = leb-true (length c.plans) most_plans b.0;
          phase_fits = leb-true c.phase (sets program + 1) d.0;
          cycle_fits = leb-true c.cycle 65535 f.0;
          next_fits = leb-true c.next last_next g.0;
          atoms_formed = λ x m. atom_of x (every_all atom_formed c.atoms i.0 x m);
          plans_formed = λ q m. plan_of q (every_all (plan_formed program c) c.plans j.0 q m);
          waiting_formed = waiting_of k.0;
        },
      )

  pub shaped_formed : Sound (graph c) → Shaped program c → config_formed program c ≡ true
  unfolding config_formed
  shaped_formed s w =
      and2 (le-leb (length c.atoms) most_atoms w.few_atoms) (and2 (le-leb (length c.plans) most_plans w.few_plans) (and2 (le-leb c.phase (sets program + 1) w.phase_fits)
      (and2 (le-leb c.cycle 65535 w.cycle_fits) (and2 (le-leb c.next last_next w.next_fits) (and2 ((graph_formed_is (graph c)).1 s)
      (and2 (all_every atom_formed c.atoms (λ x m. of_atom x (w.atoms_formed x m))) (and2 (all_every (plan_formed program c) c.plans (λ q m. of_plan q (w.plans_formed q m)))
      (and2 (of_waiting w.waiting_formed) refl))))))))
