-- All clauses of the model's test, in the order of the code's passes.
use mathlib.Core.Path.{◌≡◌, refl, sym, ap, ◌∙◌}
use mathlib.Core.Bool.{Bool, true, not, ◌&&◌, and-eq-true_iff}
use mathlib.Core.Logic.{⊎_elim}
use mathlib.Core.List.{List, ◌∷◌, map}
use Prim.Native.Nat.{ℕ, ◌+◌, ◌≤◌, ◌<◌}
use native.Mathlib.Omega.{arith}
use lib.Dec.{leb, ltb, eqb}
use lib.ListN.{length}
use borrow.Author.Tests.{eqb-true, leb-true, le-leb}
use Rattle.lists.specs.Lists.{In, Pairs, every, rises, member}
use Rattle.lists.proofs.Lists.{in_cast, in_map, map_in, map_map, all_map, out_member, or_cases}
use Rattle.lists.proofs.Tests.{and2, every_all, all_every, rises_pairs, pairs_rises, map_pairs}
use Rattle.lists.proofs.Tables.{tabulate_length, tabulate_at, get_in}
use Rattle.lists.proofs.Counted.{same_truth}
use Rattle.model.specs.declared.Row.{Row}
use Rattle.model.specs.declared.Atom.{Atom}
use Rattle.model.specs.Program.{sets}
use Rattle.model.specs.Configuration.{Plan, Config, atom_ids}
use Rattle.model.specs.Graph.{Node, node_ids}
use Rattle.model.specs.Deletion.{node, graph}
use Rattle.model.specs.WellFormed.{node_formed, graph_formed, atom_formed, plan_formed, waiting_formed, config_formed}
use Rattle.state.specs.declared.Scalars.{Scalars}
use Rattle.state.specs.View.{atom_at, plan_at, atoms_of, plans_of, config_of, atom_ids_of, PlansRise}
use Rattle.formed_plans.specs.Plans.{plan_fits, AtomsStand, alive_below, justified, subgoal_alive}
use Rattle.formed.specs.Passes.{in_order, atom_id, plan_id, atom_fits, limits_hold, SubgoalsAlive, subgoals_differ}
use Rattle.formed_plans.proofs.Tests.{node_tests}

-- what a pass in rising id says
module _ {A : Type 0} (id : A → ℕ) (f : A → Bool) (l : List A) where
  pub in_order_of : rises (map id l) ≡ true → ((x : A) → In x l → 1 ≤ id x) → every f l ≡ true → in_order id f l ≡ true
  unfolding in_order
  in_order_of r p e = and2 (pairs_rises (0 ∷ map id l) (λ y i. let k = map_in id l i in let h = p k.0 k.1 in let q = k.2 in omega arith, rises_pairs (map id l) r)) e

  module _ (e : in_order id f l ≡ true) where
    risen : Pairs (λ (x y : ℕ). x < y) (0 ∷ map id l)
    unfolding in_order
    risen = rises_pairs (0 ∷ map id l) ((and-eq-true_iff (rises (0 ∷ map id l)) (every f l)).0 e).0

    pub in_order_rises : Pairs (λ (x y : ℕ). x < y) (map id l)
    in_order_rises = risen.1

    pub in_order_positive : (x : A) → In x l → 1 ≤ id x
    in_order_positive x i = risen.0 (id x) (in_map id i)

    pub in_order_every : every f l ≡ true
    unfolding in_order
    in_order_every = ((and-eq-true_iff (rises (0 ∷ map id l)) (every f l)).0 e).1

module _ (program : List Row) (W : List ℕ) (s : Scalars) where
  abbrev c : Config
  c = config_of W s

  abbrev atoms_pass : Bool
  atoms_pass = in_order atom_id (atom_fits s.next) (atoms_of s.atoms W)

  abbrev plans_pass : Bool
  plans_pass = in_order plan_id (plan_fits program c) (plans_of s.plans W)

  abbrev apart_pass : Bool
  apart_pass = subgoals_differ (map node (plans_of s.plans W))

  abbrev passes : Bool
  passes = limits_hold (sets program + 1) s && (atoms_pass && (plans_pass && (apart_pass && waiting_formed program c)))

  -- the limits as the model and as the code count
  atoms_counted : length c.atoms ≡ s.atoms
  atoms_counted = tabulate_length s.atoms (atom_at W)

  plans_counted : length c.plans ≡ s.plans
  plans_counted = tabulate_length s.plans (plan_at W)

  -- the ids of the plans, of the nodes
  ids_same : node_ids (map node c.plans) ≡ map plan_id c.plans
  ids_same = map_map node (λ (q : Node). q.id) c.plans

  node_positive : (q : Plan) → node_formed (graph c) (node q) ≡ true → 1 ≤ q.id
  unfolding node_formed
  node_positive q e = leb-true 1 q.id ((and-eq-true_iff _ _).0 e).0

  to : config_formed program c ≡ true → passes ≡ true
  unfolding config_formed graph_formed plan_fits
  to e =
      let a1 = (and-eq-true_iff _ _).0 e in
      let a2 = (and-eq-true_iff _ _).0 a1.1 in
      let a3 = (and-eq-true_iff (leb s.phase (sets program + 1)) _).0 a2.1 in
      let a4 = (and-eq-true_iff (leb s.cycle 65535) _).0 a3.1 in
      let a5 = (and-eq-true_iff (leb s.next 65536) _).0 a4.1 in
      let a6 = (and-eq-true_iff _ _).0 a5.1 in
      let a7 = (and-eq-true_iff _ _).0 a6.1 in
      let a8 = (and-eq-true_iff _ _).0 a7.1 in
      let a9 = (and-eq-true_iff (waiting_formed program c) true).0 a8.1 in
      let g1 = (and-eq-true_iff _ _).0 a6.0 in
      let g2 = (and-eq-true_iff _ _).0 g1.1 in
      let g3 = (and-eq-true_iff (leb 1 s.next) _).0 g2.1 in
      let g4 = (and-eq-true_iff _ _).0 g3.1 in
      let g5 = (and-eq-true_iff _ _).0 g4.1 in
      let g6 = (and-eq-true_iff apart_pass true).0 g5.1 in
      let xs = c.atoms in
      let qs = c.plans in
      let few_atoms : leb (length xs) 256 ≡ true = a1.0 in
      let few_plans : leb (length qs) 64 ≡ true = a2.0 in
      let given : (x : Atom) → In x xs → leb 1 x.id && ltb x.id s.next ≡ true = λ x i. every_all (λ (n : ℕ). leb 1 n && ltb n s.next) (atom_ids c) g4.0 x.id (in_map atom_id i) in
      let linked : (q : Plan) → In q qs → node_formed (graph c) (node q) ≡ true = λ q i. every_all (node_formed (graph c)) (map node qs) g5.0 (node q) (in_map node i) in
      let rising : rises (node_ids (map node qs)) ≡ true = g2.0 in
      and2 (and2 (rw atoms_counted at few_atoms) (and2 (rw plans_counted at few_plans) (and2 a3.0 (and2 a4.0 (and2 g3.0 a5.0)))))
      (and2 (in_order_of atom_id (atom_fits s.next) xs g1.0
      (λ x i. leb-true 1 x.id ((and-eq-true_iff (leb 1 x.id) (ltb x.id s.next)).0 (given x i)).0)
      (all_every (atom_fits s.next) xs (λ x i. and2 ((and-eq-true_iff (leb 1 x.id) (ltb x.id s.next)).0 (given x i)).1 (every_all atom_formed xs a7.0 x i))))
      (and2 (in_order_of plan_id (plan_fits program c) qs (rw ids_same at rising) (λ q i. node_positive q (linked q i))
      (all_every (plan_fits program c) qs (λ q i. and2 (linked q i) (every_all (plan_formed program c) qs a8.0 q i))))
      (and2 g6.0 a9.0)))

  from : passes ≡ true → config_formed program c ≡ true
  unfolding config_formed graph_formed plan_fits
  from e =
      let p1 = (and-eq-true_iff (limits_hold (sets program + 1) s) _).0 e in
      let p2 = (and-eq-true_iff atoms_pass _).0 p1.1 in
      let p3 = (and-eq-true_iff plans_pass _).0 p2.1 in
      let p4 = (and-eq-true_iff apart_pass _).0 p3.1 in
      let l1 = (and-eq-true_iff (leb s.atoms 256) _).0 p1.0 in
      let l2 = (and-eq-true_iff (leb s.plans 64) _).0 l1.1 in
      let l3 = (and-eq-true_iff (leb s.phase (sets program + 1)) _).0 l2.1 in
      let l4 = (and-eq-true_iff (leb s.cycle 65535) _).0 l3.1 in
      let l5 = (and-eq-true_iff (leb 1 s.next) (leb s.next 65536)).0 l4.1 in
      let xs = c.atoms in
      let qs = c.plans in
      let few_atoms : leb (length xs) 256 ≡ true = ap (λ (n : ℕ). leb n 256) atoms_counted ∙ l1.0 in
      let few_plans : leb (length qs) 64 ≡ true = ap (λ (n : ℕ). leb n 64) plans_counted ∙ l2.0 in
      let fit : (x : Atom) → In x xs → (ltb x.id s.next ≡ true) × (atom_formed x ≡ true) = λ x i.
      (and-eq-true_iff (ltb x.id s.next) (atom_formed x)).0 (every_all (atom_fits s.next) xs (in_order_every atom_id (atom_fits s.next) xs p2.0) x i) in
      let fits : (q : Plan) → In q qs → (node_formed (graph c) (node q) ≡ true) × (plan_formed program c q ≡ true) = λ q i.
      (and-eq-true_iff (node_formed (graph c) (node q)) (plan_formed program c q)).0 (every_all (plan_fits program c) qs (in_order_every plan_id (plan_fits program c) qs p3.0) q i) in
      let given : every (λ (n : ℕ). leb 1 n && ltb n s.next) (atom_ids c) ≡ true = all_every (λ (n : ℕ). leb 1 n && ltb n s.next) (atom_ids c) (all_map (λ (n : ℕ). leb 1 n && ltb n s.next ≡ true) atom_id xs (λ x i.
      and2 (le-leb 1 x.id (in_order_positive atom_id (atom_fits s.next) xs p2.0 x i)) (fit x i).0)) in
      let linked : every (node_formed (graph c)) (map node qs) ≡ true = all_every (node_formed (graph c)) (map node qs) (all_map (λ (q : Node). node_formed (graph c) q ≡ true) node qs (λ q i. (fits q i).0)) in
      let rising : rises (node_ids (map node qs)) ≡ true = ap rises ids_same ∙ pairs_rises (map plan_id qs) (in_order_rises plan_id (plan_fits program c) qs p3.0) in
      let joined : graph_formed (graph c) ≡ true = and2 (pairs_rises (atom_ids c) (in_order_rises atom_id (atom_fits s.next) xs p2.0)) (and2 rising (and2 l5.0 (and2 given (and2 linked (and2 p4.0 refl))))) in
      and2 few_atoms (and2 few_plans (and2 l3.0 (and2 l4.0 (and2 l5.1 (and2 joined
      (and2 (all_every atom_formed xs (λ x i. (fit x i).1)) (and2 (all_every (plan_formed program c) qs (λ q i. (fits q i).1)) (and2 p4.1 refl))))))))

  pub clauses : config_formed program c ≡ limits_hold (sets program + 1) s && (atoms_pass && (plans_pass && (apart_pass && waiting_formed program c)))
  clauses = same_truth to from

-- what the limits say
module _ (exec : ℕ) (s : Scalars) (h : limits_hold exec s ≡ true) where
  pub few_atoms : s.atoms ≤ 256
  few_atoms = leb-true s.atoms 256 ((and-eq-true_iff (leb s.atoms 256) _).0 h).0

  pub few_plans : s.plans ≤ 64
  few_plans = leb-true s.plans 64 ((and-eq-true_iff (leb s.plans 64) _).0 ((and-eq-true_iff (leb s.atoms 256) _).0 h).1).0

-- what a pass leaves to those after it
pub atoms_stand : (W : List ℕ) (n next : ℕ) → n ≤ 256 → in_order atom_id (atom_fits next) (atoms_of n W) ≡ true → AtomsStand W n
atoms_stand W n next few e = record {
  few = few;
  rise = map_pairs (λ (x y : ℕ). x < y) atom_id (atoms_of n W) (in_order_rises atom_id (atom_fits next) (atoms_of n W) e);
  no_zero = out_member 0 (atom_ids_of n W) (λ i.
      let k = map_in atom_id (atoms_of n W) i in
      let h = in_order_positive atom_id (atom_fits next) (atoms_of n W) e k.0 k.1 in
      let z = k.2 in
      omega arith);
}

module _ (program : List Row) (W : List ℕ) (s : Scalars) (e : in_order plan_id (plan_fits program (config_of W s)) (plans_of s.plans W) ≡ true) where
  pub plans_rise : PlansRise s.plans W
  plans_rise = map_pairs (λ (x y : ℕ). x < y) plan_id (plans_of s.plans W) (in_order_rises plan_id (plan_fits program (config_of W s)) (plans_of s.plans W) e)

  pub subgoals_alive : SubgoalsAlive s.atoms s.plans W
  unfolding plan_fits
  subgoals_alive k h z =
      let qs = plans_of s.plans W in
      let q = plan_at W k in
      let l = tabulate_length s.plans (plan_at W) in
      let i : In q qs = in_cast (sym (tabulate_at s.plans (plan_at W) k (plan_at W 0) h)) (get_in qs k (plan_at W 0) (omega arith)) in
      let f = ((and-eq-true_iff (node_formed (graph (config_of W s)) (node q)) (plan_formed program (config_of W s) q)).0 (every_all (plan_fits program (config_of W s)) qs (in_order_every plan_id (plan_fits program (config_of W s)) qs e) q i)).0 in
      let t = ((and-eq-true_iff (leb 1 q.id && (ltb q.id s.next && not (member q.id (atom_ids_of s.atoms W)))) _).0 (node_tests (config_of W s) q ∙ f)).1 in
      let a = ((and-eq-true_iff (justified (alive_below (atom_ids_of s.atoms W) q.id) q.justifications) (subgoal_alive (atom_ids_of s.atoms W) q)).0 t).1 in
      ⊎_elim (λ u. absurd (z (eqb-true q.subgoal 0 u))) (λ u. ((and-eq-true_iff (member q.subgoal (atom_ids_of s.atoms W)) (ltb q.id q.subgoal)).0 u).0) (or_cases (eqb q.subgoal 0) (member q.subgoal (atom_ids_of s.atoms W) && ltb q.id q.subgoal) a)
