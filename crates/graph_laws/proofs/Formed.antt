-- The test of a graph passes exactly where the graph is sound.
use mathlib.Core.Path.{◌≡◌, refl, sym, ap, ◌∙◌}
use mathlib.Core.Bool.{true, not, ◌&&◌, ◌||◌, and-eq-true_iff}
use mathlib.Core.Logic.{⊎_elim, ◌↔◌, ◌≢◌}
use Prim.Native.Nat.{ℕ, zero, suc, ◌≤◌, ◌<◌}
use native.Mathlib.Omega.{arith}
use lib.Dec.{eqb, leb, ltb}
use lib.ListN.{length}
use borrow.Author.Tests.{eqb-true, eqb-false, eq-eqb, ne_eqb, leb-true, le-leb, ltb-true, lt-ltb, not-true}
use Rattle.lists.specs.Lists.{In, Pairs, member}
use Rattle.lists.proofs.Lists.{test, in_cast, member_in, in_member, out_member, member_out, pairs_either, pairs_map, or_cases, or_right}
use Rattle.lists.proofs.Tests.{and2, or_left, false_not, every_all, all_every, tests_pairs, pairs_tests, rises_pairs, pairs_rises, map_pairs}
use Rattle.model.specs.Graph.{Node, Graph, node_ids, Sound}
use Rattle.model.specs.WellFormed.{node_formed, graph_formed}

-- what the test of a plan says
record NodeFormed (g : Graph) (q : Node) : Type 0 where
  given : (1 ≤ q.id) × (q.id < g.next)
  no_atom : In q.id g.atoms → ⊥
  number : (1 ≤ length q.justifications) × (length q.justifications ≤ 4)
  rising : Pairs (λ (i j : ℕ). i < j) q.justifications
  justified : (j : ℕ) → In j q.justifications → In j g.atoms × (j < q.id)
  has_subgoal : q.subgoal ≢ 0 → In q.subgoal g.atoms × (q.id < q.subgoal)

-- two plans with a subgoal have not the same
abbrev Differ : Node → Node → Type 0
Differ p q = p.subgoal ≢ 0 → p.subgoal ≢ q.subgoal

module _ (g : Graph) where
  formed_node : (q : Node) → node_formed g q ≡ true → NodeFormed g q
  unfolding node_formed
  formed_node q e =
      let a = (and-eq-true_iff _ _).0 e in
      let b = (and-eq-true_iff _ _).0 a.1 in
      let c = (and-eq-true_iff _ _).0 b.1 in
      let d = (and-eq-true_iff _ _).0 c.1 in
      let f = (and-eq-true_iff _ _).0 d.1 in
      let h = (and-eq-true_iff _ _).0 f.1 in
      let k = (and-eq-true_iff _ _).0 h.1 in
      let l = (and-eq-true_iff _ _).0 k.1 in
      record {
        given = (leb-true 1 q.id a.0, ltb-true q.id g.next b.0);
        no_atom = member_out (not-true _ c.0);
        number = (leb-true 1 (length q.justifications) d.0, leb-true (length q.justifications) 4 f.0);
        rising = rises_pairs q.justifications h.0;
        justified = λ j i.
            let r = (and-eq-true_iff _ _).0 (every_all (λ j. member j g.atoms && ltb j q.id) q.justifications k.0 j i) in
            (member_in j g.atoms r.0, ltb-true j q.id r.1);
        has_subgoal = λ z. ⊎_elim
            (λ v. absurd (z (eqb-true q.subgoal 0 v)))
            (λ v. let r = (and-eq-true_iff _ _).0 v in (member_in q.subgoal g.atoms r.0, ltb-true q.id q.subgoal r.1))
            (or_cases _ _ l.0);
      }

  node_tests : (q : Node) → NodeFormed g q → node_formed g q ≡ true
  unfolding node_formed
  node_tests q w =
      and2 (le-leb 1 q.id w.given.0)
      (and2 (lt-ltb q.id g.next w.given.1)
      (and2 (false_not _ (out_member q.id g.atoms w.no_atom))
      (and2 (le-leb 1 (length q.justifications) w.number.0)
      (and2 (le-leb (length q.justifications) 4 w.number.1)
      (and2 (pairs_rises q.justifications w.rising)
      (and2 (all_every _ q.justifications (λ j i. let r = w.justified j i in and2 (in_member r.0) (lt-ltb j q.id r.1)))
      (and2 (subgoal_tests q.subgoal refl) refl)))))))
    where
      subgoal_tests : (s : ℕ) → s ≡ q.subgoal → (eqb q.subgoal 0 || (member q.subgoal g.atoms && ltb q.id q.subgoal)) ≡ true
      subgoal_tests zero e = or_left (member q.subgoal g.atoms && ltb q.id q.subgoal) (eq-eqb q.subgoal 0 (sym e))
      subgoal_tests (suc s) e =
          let z : q.subgoal ≢ 0 = omega arith in
          let r = w.has_subgoal z in
          or_right (eqb q.subgoal 0) (and2 (in_member r.0) (lt-ltb q.id q.subgoal r.1))

  formed_sound : graph_formed g ≡ true → Sound g
  unfolding graph_formed
  formed_sound e =
      let a = (and-eq-true_iff _ _).0 e in
      let b = (and-eq-true_iff _ _).0 a.1 in
      let c = (and-eq-true_iff _ _).0 b.1 in
      let d = (and-eq-true_iff _ _).0 c.1 in
      let f = (and-eq-true_iff _ _).0 d.1 in
      let h = (and-eq-true_iff _ _).0 f.1 in
      let differ : Pairs Differ g.plans = tests_pairs _ Differ
      (λ p q t z. ⊎_elim (λ u. absurd (z (eqb-true p.subgoal 0 u))) (λ u. eqb-false p.subgoal q.subgoal (not-true _ u)) (or_cases _ _ t))
      g.plans h.0 in
      let w : (q : Node) → In q g.plans → NodeFormed g q = λ q i. formed_node q (every_all (node_formed g) g.plans f.0 q i) in
      record {
        atoms_rise = rises_pairs g.atoms a.0;
        plans_rise = map_pairs (λ (x y : ℕ). x < y) (λ (q : Node). q.id) g.plans (rises_pairs (node_ids g.plans) b.0);
        next_pos = leb-true 1 g.next c.0;
        atom_given = λ x i.
            let r = (and-eq-true_iff _ _).0 (every_all (λ x. leb 1 x && ltb x g.next) g.atoms d.0 x i) in
            (leb-true 1 x r.0, ltb-true x g.next r.1);
        plan_given = λ q i. (w q i).given;
        apart = λ q i x k v. (w q i).no_atom (in_cast (sym v) k);
        just_fine = λ q i. ((w q i).number.0, (w q i).number.1, (w q i).rising);
        just_alive = λ q i. (w q i).justified;
        sub_alive = λ q i. (w q i).has_subgoal;
        sub_one = λ p i q j z t. ⊎_elim
            (λ v. ap (λ (r : Node). r.id) v)
            (λ v. ⊎_elim (λ k. absurd (k z t)) (λ k. absurd (k (λ u. z (t ∙ u)) (sym t))) v)
            (pairs_either Differ differ i j);
      }

  sound_formed : Sound g → graph_formed g ≡ true
  unfolding graph_formed
  sound_formed s =
      and2 (pairs_rises g.atoms s.atoms_rise)
      (and2 (pairs_rises (node_ids g.plans) (pairs_map (λ (x y : ℕ). x < y) (λ (q : Node). q.id) g.plans s.plans_rise))
      (and2 (le-leb 1 g.next s.next_pos)
      (and2 (all_every _ g.atoms (λ x i. let r = s.atom_given x i in and2 (le-leb 1 x r.0) (lt-ltb x g.next r.1)))
      (and2 (all_every (node_formed g) g.plans (λ q i. node_tests q (record {
        given = s.plan_given q i;
        no_atom = λ h. s.apart q i q.id h refl;
        number = ((s.just_fine q i).0, (s.just_fine q i).1);
        rising = (s.just_fine q i).2;
        justified = s.just_alive q i;
        has_subgoal = s.sub_alive q i;
      })))
      (and2 (pairs_tests _ (λ (p q : Node). p.id < q.id) g.plans differ s.plans_rise) refl)))))
    where
      differ : (p : Node) → In p g.plans → (q : Node) → In q g.plans → p.id < q.id → (eqb p.subgoal 0 || not (eqb p.subgoal q.subgoal)) ≡ true
      differ p i q j h = ⊎_elim
          (λ u. or_left (not (eqb p.subgoal q.subgoal)) u)
          (λ u. or_right (eqb p.subgoal 0) (false_not (eqb p.subgoal q.subgoal) (ne_eqb p.subgoal q.subgoal
          (λ t. let e = s.sub_one p i q j (eqb-false p.subgoal 0 u) t in absurd (omega arith)))))
          (test (eqb p.subgoal 0))

pub graph_formed_is : (g : Graph) → (graph_formed g ≡ true) ↔ Sound g
graph_formed_is g = (formed_sound g, sound_formed g)
