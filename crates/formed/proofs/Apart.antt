-- Marks at the atoms that are subgoals of the plans so far: a mark that is met again is an atom with two plans.
use mathlib.Core.Path.{◌≡◌, refl, sym, ap, ◌∙◌}
use mathlib.Core.Bool.{Bool, true, false, not, ◌||◌}
use mathlib.Core.Logic.{◌≢◌, ◌⊎◌, inl, inr, ⊎_elim}
use mathlib.Core.List.{List, map}
use Prim.Native.Nat.{ℕ, ◌+◌, ◌≤◌, ◌<◌}
use native.Mathlib.Omega.{arith}
use lib.Dec.{eqb}
use lib.ListN.{length, get_or, set, replicate, length-set, get_or-replicate}
use lib.Seq.{get_or-set_same, get_or-set_other}
use borrow.Author.Tests.{ltb-true, eqb-false, eq-eqb, ne_eqb}
use Rattle.std.specs.Prelude.{None}
use Rattle.lists.specs.Lists.{member}
use Rattle.lists.specs.Tables.{tabulate, index_of, PlaceOf}
use Rattle.lists.proofs.Lists.{test, clash, in_cast, in_member, pairs_map, or_right}
use Rattle.lists.proofs.Tests.{or_left, false_not}
use Rattle.lists.proofs.Tables.{equal_or_not, get_in, tabulate_length, tabulate_at, tabulate_map, index_found, index_at, index_member}
use Rattle.lists.proofs.Counted.{in_pairs_places, in_pairs_fails}
use Rattle.model.specs.declared.Atom.{Atom}
use Rattle.model.specs.Graph.{Node}
use Rattle.model.specs.Deletion.{node}
use Rattle.state.specs.View.{atom_at, plan_at, atoms_of, plans_of, atom_ids_of}
use Rattle.formed_plans.specs.Plans.{AtomsStand}
use Rattle.formed.specs.Passes.{SubgoalsAlive, subgoals_differ}
use Rattle.formed_plans.proofs.Words.{atom_ids_long}

abbrev subgoal_at : List ℕ → ℕ → ℕ
subgoal_at W k = (plan_at W k).subgoal

-- the marks of the first k plans
pub record Marked (W : List ℕ) (atoms : ℕ) (marks : List Bool) (k : ℕ) : Type 0 where
  pub long : length marks ≡ 256
  pub apart : (i j : ℕ) → i < j → j < k → subgoal_at W i ≢ 0 → subgoal_at W i ≢ subgoal_at W j
  pub by_one : (m : ℕ) → m < atoms → get_or marks m false ≡ true → (i : ℕ) × (i < k) × (subgoal_at W i ≡ (atom_at W m).id)
  pub by_none : (m : ℕ) → m < atoms → get_or marks m false ≡ false → (i : ℕ) → i < k → subgoal_at W i ≢ (atom_at W m).id

-- the test of two plans
differ_true : (x y : ℕ) → (x ≢ 0 → x ≢ y) → (eqb x 0 || not (eqb x y)) ≡ true
differ_true x y h = ⊎_elim (λ e. or_left (not (eqb x y)) e) (λ e. or_right (eqb x 0) (false_not (eqb x y) (ne_eqb x y (h (eqb-false x 0 e))))) (test (eqb x 0))

differ_false : (x y : ℕ) → x ≢ 0 → x ≡ y → (eqb x 0 || not (eqb x y)) ≡ false
differ_false x y h e = rw (ne_eqb x 0 h, eq-eqb x y e)

last_or_before : (j k : ℕ) → j < k + 1 → (j ≡ k) ⊎ (j < k)
last_or_before j k h = ⊎_elim (λ e. inl e) (λ e. inr (omega arith)) (equal_or_not j k)

abbrev apart_test : Node → Node → Bool
apart_test p q = eqb p.subgoal 0 || not (eqb p.subgoal q.subgoal)

-- the subgoal of a plan stands among the atoms, so it is found
pub not_missing : (W : List ℕ) (atoms plans k subgoal : ℕ) → k < plans → SubgoalsAlive atoms plans W → subgoal ≡ subgoal_at W k → subgoal ≢ 0 → PlaceOf atoms subgoal (atom_ids_of atoms W) None → ⊥
not_missing W atoms plans k subgoal h alive s some e =
    let ids : List ℕ = atom_ids_of atoms W in
    let m : member subgoal ids ≡ true = rw s (alive k h (λ z. some (s ∙ z))) in
    let g : index_of subgoal ids < length ids = ltb-true (index_of subgoal ids) (length ids) (index_member subgoal ids ∙ m) in
    let l = atom_ids_long W atoms in
    omega arith

module _ (W : List ℕ) (atoms : ℕ) (w : AtomsStand W atoms) where
  abbrev ids : List ℕ
  ids = atom_ids_of atoms W

  id_at : (m : ℕ) → m < atoms → get_or ids m 0 ≡ (atom_at W m).id
  id_at m h = ap (λ (l : List ℕ). get_or l m 0) (sym (tabulate_map (λ (x : Atom). x.id) atoms (atom_at W))) ∙ tabulate_at atoms (λ (k : ℕ). (atom_at W k).id) m 0 h

  id_some : (m : ℕ) → m < atoms → (atom_at W m).id ≢ 0
  id_some m h e = let l = atom_ids_long W atoms in clash (in_member (in_cast (sym (id_at m h ∙ e)) (get_in ids m 0 (omega arith)))) w.no_zero

  id_index : (m : ℕ) → m < atoms → m ≡ index_of (atom_at W m).id ids
  id_index m h = let l = atom_ids_long W atoms in index_at ids m (pairs_map (λ (x y : ℕ). x < y) (λ (x : Atom). x.id) (atoms_of atoms W) w.rise) (omega arith) ∙ ap (λ (n : ℕ). index_of n ids) (id_at m h)

  pub marked_none : Marked W atoms (replicate 256 false) 0
  marked_none = record {
    long = refl;
    apart = λ i j p q. absurd (omega arith);
    by_one = λ m h e. let f = w.few in clash e (get_or-replicate 256 m false false (omega arith));
    by_none = λ m h e i p. absurd (omega arith);
  }

  module _ (marks : List Bool) (k : ℕ) (t : Marked W atoms marks k) where
    -- a plan with no subgoal
    pub marked_past : subgoal_at W k ≡ 0 → Marked W atoms marks (k + 1)
    marked_past z = record {
      long = t.long;
      apart = λ i j p q s. ⊎_elim (λ e. λ f. s (f ∙ ap (subgoal_at W) e ∙ z)) (λ h. t.apart i j p h s) (last_or_before j k q);
      by_one = λ m h e. let r = t.by_one m h e in let p = r.1 in (r.0, omega arith, r.2);
      by_none = λ m h e i p. ⊎_elim (λ q. λ f. id_some m h (sym f ∙ ap (subgoal_at W) q ∙ z)) (λ q. t.by_none m h e i q) (last_or_before i k p);
    }

    module _ (n : ℕ) (is_at : n ≡ index_of (subgoal_at W k) ids) (there : n < atoms) where
      found : (atom_at W n).id ≡ subgoal_at W k
      found =
          let l = atom_ids_long W atoms in
          sym (id_at n there) ∙ ap (λ (m : ℕ). get_or ids m 0) is_at ∙ index_found (subgoal_at W k) ids (omega arith)

      -- a plan whose subgoal is not marked yet
      pub marked_more : get_or marks n false ≡ false → Marked W atoms (set marks n true) (k + 1)
      marked_more free = record {
        long = length-set marks n true ∙ t.long;
        apart = λ i j p q s. ⊎_elim (λ e. λ f. t.by_none n there free i (omega arith) (f ∙ ap (subgoal_at W) e ∙ sym found)) (λ h. t.apart i j p h s) (last_or_before j k q);
        by_one = λ m h e. ⊎_elim
            (λ q. (k, omega arith, sym found ∙ ap (λ (i : ℕ). (atom_at W i).id) (sym q)))
            (λ q. let r = t.by_one m h (sym (get_or-set_other marks n m true false q) ∙ e) in let p = r.1 in (r.0, omega arith, r.2))
            (equal_or_not m n);
        by_none = λ m h e i p. ⊎_elim
            (λ q. let f = w.few in let l = t.long in clash (get_or-set_same marks n true false (omega arith)) (ap (λ (j : ℕ). get_or (set marks n true) j false) (sym q) ∙ e))
            (λ q. ⊎_elim
            (λ u. λ f. q (id_index m h ∙ ap (λ (j : ℕ). index_of j ids) (sym f ∙ ap (subgoal_at W) u) ∙ sym is_at))
            (λ u. t.by_none m h (sym (get_or-set_other marks n m true false q) ∙ e) i u)
            (last_or_before i k p))
            (equal_or_not m n);
      }

      -- a plan whose subgoal is marked
      pub marked_twice : (plans : ℕ) → k < plans → subgoal_at W k ≢ 0 → get_or marks n false ≡ true → subgoals_differ (map node (plans_of plans W)) ≡ false
      marked_twice plans h s e =
          let r = t.by_one n there e in
          let i = r.0 in
          let p = r.1 in
          let same : subgoal_at W i ≡ subgoal_at W k = r.2 ∙ found in
          let g : ℕ → Node = λ (k : ℕ). node (plan_at W k) in
          let l : length (tabulate plans g) ≡ plans = tabulate_length plans g in
          let a = tabulate_at plans g i (g 0) (omega arith) in
          let b = tabulate_at plans g k (g 0) h in
          ap subgoals_differ (sym (tabulate_map node plans (plan_at W)))
          ∙ in_pairs_fails apart_test (g 0) (tabulate plans g) i k r.1 (omega arith) (rw (a, b) (differ_false (subgoal_at W i) (subgoal_at W k) (λ z. s (sym same ∙ z)) same))

    pub marked_all : (plans : ℕ) → plans ≤ k → subgoals_differ (map node (plans_of plans W)) ≡ true
    marked_all plans h =
        let g : ℕ → Node = λ (k : ℕ). node (plan_at W k) in
        let l : length (tabulate plans g) ≡ plans = tabulate_length plans g in
        ap subgoals_differ (sym (tabulate_map node plans (plan_at W)))
        ∙ in_pairs_places apart_test (g 0) (tabulate plans g) (λ i j p q.
        let a = tabulate_at plans g i (g 0) (omega arith) in
        let b = tabulate_at plans g j (g 0) (omega arith) in
        rw (a, b) (differ_true (subgoal_at W i) (subgoal_at W j) (t.apart i j p (omega arith))))

-- what `subgoals_differ` rests on
pub ruleset marking = (marked_none, marked_past, marked_more, marked_twice, marked_all, not_missing)
