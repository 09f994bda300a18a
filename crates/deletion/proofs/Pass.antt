-- The pass with marks is the pass with ids: after each plan the marks tell what is left once the ids found so far are gone.
use Rattle.std.specs.Prelude.{if◌then◌else◌}
use mathlib.Core.Path.{◌≡◌, refl, ap, sym, ◌∙◌}
use mathlib.Core.Bool.{Bool, true, false, not, ◌||◌, false≢true}
use mathlib.Core.List.{List, [], ◌∷◌, ◌++◌, map}
use mathlib.Core.Logic.{◌⊎◌, inl, inr, ⊎_elim, ◌≢◌}
use Prim.Native.Nat.{ℕ, zero, suc, ◌+◌, ◌<◌, ◌≤◌}
use native.Mathlib.Numerals.{add-one}
use native.Mathlib.Omega.{arith}
use lib.Dec.{leb, ltb}
use lib.ListN.{length, get_or, set, length-set, get_or-eq_default}
use lib.Seq.{get_or-set_same, get_or-set_other}
use borrow.Author.Tests.{eq-eqb, ne_eqb, ltb-true, ltb-false, leb-false}
use Rattle.lists.specs.Lists.{In, first, later, member}
use Rattle.lists.specs.Tables.{index_of}
use Rattle.lists.proofs.Lists.{test, in_cons, in_one, in_map, in_cast, out_member, member_in, map_append, map_in, or_cases}
use Rattle.lists.proofs.Tables.{equal_or_not, get_in, in_get, keys_differ, tabulate_at, tabulate_length}
use Rattle.model.specs.Graph.{Node, reached, survives, loses_subgoal}
use Rattle.model.specs.declared.Atom.{Atom}
use Rattle.model.specs.Configuration.{Plan, Config}
use Rattle.model.specs.Deletion.{node, graph, links_in}
use Rattle.graph_laws.specs.Pass.{touched, and_subgoal, visit_if, pass}
use Rattle.graph_laws.proofs.Pass.{pass_sweeps}
use Rattle.graph_laws.proofs.Keeps.{loses_member, loses_zero}
use Rattle.state.specs.declared.Scalars.{Scalars}
use Rattle.state.specs.View.{atom_at, plan_at, atoms_of, plans_of, config_of, atom_ids_of, plan_ids_of, SoundWords}
use Rattle.state.proofs.Live.{sound_atoms_rise, sound_plans_rise, found_atom, missing_atom, found_plan, missing_plan}
use Rattle.deletion.specs.Marks.{MarkedAt, Marked, without_atom, without_plan, atom_gone, plan_goes, visited, gone_after}

-- one mark more cleared, one id more gone
module _ (place : ℕ → ℕ) (n : ℕ) (ids : ℕ → ℕ) (D : List ℕ) (left : List Bool) (m : MarkedAt place n ids D left) where
  -- the id at r
  marked_cleared : ((i k : ℕ) → i < n → k < n → i ≢ k → ids i ≢ ids k) → ((i k : ℕ) → i ≢ k → place i ≢ place k) →
      (r : ℕ) → r < n → place r < length left → MarkedAt place n ids (ids r ∷ D) (set left (place r) false)
  marked_cleared differ apart r hr h k hk = ⊎_elim
      (λ (e : k ≡ r). rw (e, eq-eqb (ids r) (ids r) refl) (get_or-set_same left (place r) false false h))
      (λ (ne : k ≢ r). rw (ne_eqb (ids k) (ids r) (differ k r hk hr ne)) (get_or-set_other left (place r) (place k) false false (apart k r ne) ∙ m k hk))
      (equal_or_not k r)

  -- an id that is none of these
  marked_other : (x : ℕ) → ((k : ℕ) → k < n → ids k ≢ x) → MarkedAt place n ids (x ∷ D) left
  marked_other x none k hk = rw (ne_eqb (ids k) x (none k hk)) (m k hk)

  -- a mark that is none of these
  marked_elsewhere : (y : ℕ) → ((k : ℕ) → k < n → place k ≢ y) → MarkedAt place n ids D (set left y false)
  marked_elsewhere y none k hk = get_or-set_other left y (place k) false false (none k hk) ∙ m k hk

marked_less : (place : ℕ → ℕ) (n : ℕ) (ids : ℕ → ℕ) (D : List ℕ) (left : List Bool) (x : ℕ) → ((k : ℕ) → k < n → ids k ≢ x) → MarkedAt place n ids (x ∷ D) left → MarkedAt place n ids D left
marked_less place n ids D left x none m k hk = let e = m k hk in rw (ne_eqb (ids k) x (none k hk)) at e

not_not : (b : Bool) → not (not b) ≡ b
not_not true = refl
not_not false = refl

or-false : (b : Bool) → (b || false) ≡ b
or-false true = refl
or-false false = refl

-- four numbers or fewer, none of them 0
touched_four : (js D : List ℕ) → length js ≤ 4 → ((j : ℕ) → In j js → j ≢ 0) →
    touched js D ≡ (loses_subgoal D (get_or js 0 0) || (loses_subgoal D (get_or js 1 0) || (loses_subgoal D (get_or js 2 0) || loses_subgoal D (get_or js 3 0))))
touched_four [] D h some = refl
touched_four (a ∷ []) D h some = rw (loses_member D a (some a (first refl)))
touched_four (a ∷ b ∷ []) D h some = rw (loses_member D a (some a (first refl)), loses_member D b (some b (later (first refl))))
touched_four (a ∷ b ∷ d ∷ []) D h some =
    rw (loses_member D a (some a (first refl)), loses_member D b (some b (later (first refl))), loses_member D d (some d (later (later (first refl)))))
touched_four (a ∷ b ∷ d ∷ e ∷ []) D h some =
    rw (loses_member D a (some a (first refl)), loses_member D b (some b (later (first refl))), loses_member D d (some d (later (later (first refl)))), loses_member D e (some e (later (later (later (first refl))))), or-false)
touched_four (a ∷ b ∷ d ∷ e ∷ f ∷ js) D h some = absurd (omega arith)

touched_none : (js D : List ℕ) → ((j : ℕ) → In j js → member j D ≡ false) → touched js D ≡ false
touched_none [] D none = refl
touched_none (j ∷ js) D none = rw (none j (first refl)) (touched_none js D (λ k i. none k (later i)))

touched_in : (js D : List ℕ) → touched js D ≡ true → (j : ℕ) × In j js × In j D
touched_in [] D e = absurd (false≢true e)
touched_in (j ∷ js) D e = ⊎_elim (λ p. (j, first refl, member_in j D p)) (λ p. let r = touched_in js D p in (r.0, later r.1, r.2)) (or_cases (member j D) (touched js D) e)

-- marks that say the same of equal tests
marked_like : (place : ℕ → ℕ) (n : ℕ) (ids : ℕ → ℕ) (D E : List ℕ) (left : List Bool) → ((x : ℕ) → member x D ≡ member x E) → MarkedAt place n ids D left → MarkedAt place n ids E left
marked_like place n ids D E left same m k hk = m k hk ∙ ap not (same (ids k))

-- the marks after i plans
pub record Passed (W : List ℕ) (s : Scalars) (t i : ℕ) (left : List Bool) : Type 0 where
  pub long : length left ≡ 320
  pub marked : Marked W s (gone_after W t i) left
  pub above : (x : ℕ) → In x (gone_after W t i) → t ≤ x

module _ (W : List ℕ) (s : Scalars) (h : SoundWords W s) where
  abbrev c : Config
  c = config_of W s

  abbrev atom_id : ℕ → ℕ
  atom_id k = (atom_at W k).id

  abbrev plan_id : ℕ → ℕ
  plan_id k = (plan_at W k).id

  atom_in : (k : ℕ) → k < s.atoms → In (atom_id k) (graph c).atoms
  atom_in k hk =
      let z : length (atoms_of s.atoms W) ≡ s.atoms = tabulate_length s.atoms (atom_at W) in
      in_map (λ (x : Atom). x.id) (in_cast (sym (tabulate_at s.atoms (atom_at W) k (atom_at W 0) hk)) (get_in (atoms_of s.atoms W) k (atom_at W 0) (omega arith)))

  pub plan_in : (k : ℕ) → k < s.plans → In (plan_at W k) c.plans
  plan_in k hk =
      let z : length (plans_of s.plans W) ≡ s.plans = tabulate_length s.plans (plan_at W) in
      in_cast (sym (tabulate_at s.plans (plan_at W) k (plan_at W 0) hk)) (get_in (plans_of s.plans W) k (plan_at W 0) (omega arith))

  pub node_in : (k : ℕ) → k < s.plans → In (node (plan_at W k)) (graph c).plans
  node_in k hk = in_map node (plan_in k hk)

  atoms_differ : (i k : ℕ) → i < s.atoms → k < s.atoms → i ≢ k → atom_id i ≢ atom_id k
  atoms_differ = keys_differ (λ (x : Atom). x.id) s.atoms (atom_at W) (sound_atoms_rise W s h.sound)

  pub plans_differ : (i k : ℕ) → i < s.plans → k < s.plans → i ≢ k → plan_id i ≢ plan_id k
  plans_differ = keys_differ (λ (q : Plan). q.id) s.plans (plan_at W) (sound_plans_rise W s h.sound)

  -- no id is 0; no atom has a plan's id; no plan has the id of a subgoal
  atom_some : (k : ℕ) → k < s.atoms → atom_id k ≢ 0
  atom_some k hk = let g = h.sound.atom_given (atom_id k) (atom_in k hk) in omega arith

  plan_some : (k : ℕ) → k < s.plans → plan_id k ≢ 0
  plan_some k hk = let g = h.sound.plan_given (node (plan_at W k)) (node_in k hk) in omega arith

  atom_no_plan : (i : ℕ) → i < s.plans → (k : ℕ) → k < s.atoms → atom_id k ≢ plan_id i
  atom_no_plan i hi k hk = h.sound.apart (node (plan_at W i)) (node_in i hi) (atom_id k) (atom_in k hk)

  plan_no_subgoal : (i : ℕ) → i < s.plans → (k : ℕ) → k < s.plans → plan_id k ≢ (plan_at W i).subgoal
  plan_no_subgoal i hi k hk e = ⊎_elim
      (λ (z : (plan_at W i).subgoal ≡ 0). plan_some k hk (e ∙ z))
      (λ (ne : (plan_at W i).subgoal ≢ 0). h.sound.apart (node (plan_at W k)) (node_in k hk) (plan_at W i).subgoal (h.sound.sub_alive (node (plan_at W i)) (node_in i hi) ne).0 (sym e))
      (equal_or_not (plan_at W i).subgoal 0)

  abbrev AtomsMarked : List ℕ → List Bool → Type 0
  AtomsMarked D left = MarkedAt (λ k. k) s.atoms atom_id D left

  abbrev PlansMarked : List ℕ → List Bool → Type 0
  PlansMarked D left = MarkedAt (λ k. 256 + k) s.plans plan_id D left

  -- the mark of one id cleared, in its own table and in the other
  module _ (D : List ℕ) (left : List Bool) (x : ℕ) (long : length left ≡ 320) where
    abbrev at_atom : ℕ
    at_atom = index_of x (atom_ids_of s.atoms W)

    abbrev at_plan : ℕ
    at_plan = index_of x (plan_ids_of s.plans W)

    atom_long : length (without_atom W s.atoms x left) ≡ 320
    unfolding without_atom
    atom_long = ⊎_elim
        (λ (e : ltb at_atom s.atoms ≡ true). rw e (length-set left at_atom false ∙ long))
        (λ (e : ltb at_atom s.atoms ≡ false). rw e long)
        (test (ltb at_atom s.atoms))

    plan_long : length (without_plan W s.plans x left) ≡ 320
    unfolding without_plan
    plan_long = ⊎_elim
        (λ (e : ltb at_plan s.plans ≡ true). rw e (length-set left (256 + at_plan) false ∙ long))
        (λ (e : ltb at_plan s.plans ≡ false). rw e long)
        (test (ltb at_plan s.plans))

    atom_cleared : AtomsMarked D left → AtomsMarked (x ∷ D) (without_atom W s.atoms x left)
    unfolding without_atom
    atom_cleared m = ⊎_elim
        (λ (e : ltb at_atom s.atoms ≡ true).
        let lt : at_atom < s.atoms = ltb-true at_atom s.atoms e in
        let few = h.few_atoms in
        let r = marked_cleared (λ k. k) s.atoms atom_id D left m atoms_differ (λ i k ne. ne) at_atom lt (omega arith) in
        rw e (rw (found_atom s.atoms W x lt) at r))
        (λ (e : ltb at_atom s.atoms ≡ false).
        rw e (marked_other (λ k. k) s.atoms atom_id D left m x (missing_atom s.atoms W x (ltb-false at_atom s.atoms e))))
        (test (ltb at_atom s.atoms))

    plan_cleared : PlansMarked D left → PlansMarked (x ∷ D) (without_plan W s.plans x left)
    unfolding without_plan
    plan_cleared m = ⊎_elim
        (λ (e : ltb at_plan s.plans ≡ true).
        let lt : at_plan < s.plans = ltb-true at_plan s.plans e in
        let few = h.few_plans in
        let r = marked_cleared (λ k. 256 + k) s.plans plan_id D left m plans_differ (λ i k ne q. ne (omega arith)) at_plan lt (omega arith) in
        rw e (rw (found_plan s.plans W x lt) at r))
        (λ (e : ltb at_plan s.plans ≡ false).
        rw e (marked_other (λ k. 256 + k) s.plans plan_id D left m x (missing_plan s.plans W x (ltb-false at_plan s.plans e))))
        (test (ltb at_plan s.plans))

    plans_stay : PlansMarked D left → PlansMarked D (without_atom W s.atoms x left)
    unfolding without_atom
    plans_stay m = ⊎_elim
        (λ (e : ltb at_atom s.atoms ≡ true).
        let lt : at_atom < s.atoms = ltb-true at_atom s.atoms e in
        let few = h.few_atoms in
        rw e (marked_elsewhere (λ k. 256 + k) s.plans plan_id D left m at_atom (λ k hk q. omega arith)))
        (λ (e : ltb at_atom s.atoms ≡ false). rw e m)
        (test (ltb at_atom s.atoms))

    atoms_stay : AtomsMarked D left → AtomsMarked D (without_plan W s.plans x left)
    unfolding without_plan
    atoms_stay m = ⊎_elim
        (λ (e : ltb at_plan s.plans ≡ true).
        let few = h.few_atoms in
        rw e (marked_elsewhere (λ k. k) s.atoms atom_id D left m (256 + at_plan) (λ k hk q. omega arith)))
        (λ (e : ltb at_plan s.plans ≡ false). rw e m)
        (test (ltb at_plan s.plans))

  -- no mark is cleared yet
  marked_none : (left : List Bool) → ((k : ℕ) → k < 320 → get_or left k false ≡ true) → Marked W s [] left
  marked_none left all =
      let fa = h.few_atoms in
      let fp = h.few_plans in
      record { atoms = λ k hk. all k (omega arith); plans = λ k hk. all (256 + k) (omega arith) }

  -- the target's mark is cleared
  marked_target : (t : ℕ) (left : List Bool) → length left ≡ 320 → Marked W s [] left → Marked W s (t ∷ []) (without_plan W s.plans t (without_atom W s.atoms t left))
  marked_target t left long m =
      let one : List Bool = without_atom W s.atoms t left in
      let still : length one ≡ 320 = atom_long [] left t long in
      record {
        atoms = atoms_stay (t ∷ []) one t still (atom_cleared [] left t long m.atoms);
        plans = plan_cleared [] one t still (plans_stay [] left t long m.plans);
      }

  -- a subgoal goes too, if there is one
  atoms_too : (E : List ℕ) (left : List Bool) (x : ℕ) → AtomsMarked (x ∷ E) left → AtomsMarked (and_subgoal x E) left
  atoms_too E left zero m = marked_less (λ k. k) s.atoms atom_id E left 0 atom_some m
  atoms_too E left (suc x) m = m

  plans_too : (E : List ℕ) (left : List Bool) (x : ℕ) → ((k : ℕ) → k < s.plans → plan_id k ≢ x) → PlansMarked E left → PlansMarked (and_subgoal x E) left
  plans_too E left zero none m = m
  plans_too E left (suc x) none m = marked_other (λ k. 256 + k) s.plans plan_id E left m (suc x) none

  -- plan i goes, and its subgoal with it
  marked_goes : (D : List ℕ) (left : List Bool) (i : ℕ) → length left ≡ 320 → i < s.plans → Marked W s D left →
      Marked W s (visit_if true (node (plan_at W i)) D) (without_atom W s.atoms (plan_at W i).subgoal (set left (256 + i) false))
  marked_goes D left i long hi m =
      let x : ℕ = (plan_at W i).subgoal in
      let E : List ℕ = plan_id i ∷ D in
      let one : List Bool = set left (256 + i) false in
      let two : List Bool = without_atom W s.atoms x one in
      let fa = h.few_atoms in
      let fp = h.few_plans in
      let still : length one ≡ 320 = length-set left (256 + i) false ∙ long in
      let a : AtomsMarked E one = marked_other (λ k. k) s.atoms atom_id D one (marked_elsewhere (λ k. k) s.atoms atom_id D left m.atoms (256 + i) (λ k hk q. omega arith)) (plan_id i) (atom_no_plan i hi) in
      let p : PlansMarked E one = marked_cleared (λ k. 256 + k) s.plans plan_id D left m.plans plans_differ (λ i k ne q. ne (omega arith)) i hi (omega arith) in
      record {
        atoms = atoms_too E two x (atom_cleared E one x still a);
        plans = plans_too E two x (plan_no_subgoal i hi) (plans_stay E one x still p);
      }

  -- where an atom stands
  atom_place : (j : ℕ) → In j (graph c).atoms → (k : ℕ) × (k < s.atoms) × (atom_id k ≡ j)
  atom_place j i =
      let r = map_in (λ (x : Atom). x.id) (atoms_of s.atoms W) i in
      let g = in_get (atom_at W 0) r.1 in
      let z : length (atoms_of s.atoms W) ≡ s.atoms = tabulate_length s.atoms (atom_at W) in
      let hk : g.0 < s.atoms = omega (arith, g.1) in
      (g.0, hk, ap (λ (x : Atom). x.id) (sym (tabulate_at s.atoms (atom_at W) g.0 (atom_at W 0) hk) ∙ g.2) ∙ sym r.2)

  justification_known : (i : ℕ) → i < s.plans → (j : ℕ) → (get_or (plan_at W i).justifications j 0 ≡ 0) ⊎ In (get_or (plan_at W i).justifications j 0) (graph c).atoms
  justification_known i hi j =
      let js = (plan_at W i).justifications in
      ⊎_elim
      (λ (e : ltb j (length js) ≡ true). inr (h.sound.just_alive (node (plan_at W i)) (node_in i hi) (get_or js j 0) (get_in js j 0 (ltb-true j (length js) e))).0)
      (λ (e : ltb j (length js) ≡ false). inl (get_or-eq_default js 0 (ltb-false j (length js) e)))
      (test (ltb j (length js)))

  -- what the marks tell, where they tell what is left once D is gone, and D has nothing made before t
  module _ (t : ℕ) (D : List ℕ) (left : List Bool) (m : Marked W s D left) (above : (x : ℕ) → In x D → t ≤ x) where
    before_out : (x : ℕ) → x < t → member x D ≡ false
    before_out x q = out_member x D (λ i. let r = above x i in absurd (omega arith))

    gone_is : (j : ℕ) → (j ≡ 0) ⊎ In j (graph c).atoms → atom_gone W s.atoms t left j ≡ loses_subgoal D j
    unfolding atom_gone
    gone_is j known = ⊎_elim
        (λ (e : leb t j ≡ true). rw e (⊎_elim
        (λ (f : ltb k s.atoms ≡ true).
        let lt : k < s.atoms = ltb-true k s.atoms f in
        let same : atom_id k ≡ j = found_atom s.atoms W j lt in
        let mark : get_or left k false ≡ survives D j = m.atoms k lt ∙ ap (survives D) same in
        rw (f, mark) (not_not (member j D) ∙ sym (loses_member D j (λ z. atom_some k lt (same ∙ z)))))
        (λ (f : ltb k s.atoms ≡ false).
        rw f (⊎_elim
        (λ (z : j ≡ 0). sym (loses_zero D j z))
        (λ (i : In j (graph c).atoms). let r = atom_place j i in absurd (missing_atom s.atoms W j (ltb-false k s.atoms f) r.0 r.1 r.2))
        known))
        (test (ltb k s.atoms))))
        (λ (e : leb t j ≡ false). rw e (sym (not_lost j (before_out j (leb-false t j e)))))
        (test (leb t j))
      where
        k : ℕ
        k = index_of j (atom_ids_of s.atoms W)

        not_lost : (j : ℕ) → member j D ≡ false → loses_subgoal D j ≡ false
        not_lost zero e = refl
        not_lost (suc j) e = e

    goes_is : (i : ℕ) → i < s.plans → plan_goes W s.atoms t left i ≡ (member (plan_id i) D || touched (plan_at W i).justifications D)
    unfolding plan_goes
    goes_is i hi = ⊎_elim
        (λ (e : leb t (plan_id i) ≡ true).
        rw (e, m.plans i hi, gone_is (get_or js 0 0) (justification_known i hi 0), gone_is (get_or js 1 0) (justification_known i hi 1), gone_is (get_or js 2 0) (justification_known i hi 2), gone_is (get_or js 3 0) (justification_known i hi 3), not_not)
        (ap (λ (b : Bool). member (plan_id i) D || b) (sym (touched_four js D few some))))
        (λ (e : leb t (plan_id i) ≡ false).
        let q : plan_id i < t = leb-false t (plan_id i) e in
        rw (e, before_out (plan_id i) q) (sym (touched_none js D (λ j k. before_out j (let r = alive j k in omega (arith, r.1))))))
        (test (leb t (plan_id i)))
      where
        js : List ℕ
        js = (plan_at W i).justifications

        alive : (j : ℕ) → In j js → In j (graph c).atoms × (j < plan_id i)
        alive = h.sound.just_alive (node (plan_at W i)) (node_in i hi)

        few : length js ≤ 4
        few = (h.sound.just_fine (node (plan_at W i)) (node_in i hi)).1

        some : (j : ℕ) → In j js → j ≢ 0
        some j k = let r = h.sound.atom_given j (alive j k).0 in omega arith

    -- what plan i adds was made after t
    still_above : (i : ℕ) → i < s.plans → (b : Bool) → (member (plan_id i) D || touched (plan_at W i).justifications D) ≡ b → (x : ℕ) → In x (visit_if b (node (plan_at W i)) D) → t ≤ x
    still_above i hi false e x k = above x k
    still_above i hi true e x k =
        let own : t ≤ plan_id i = ⊎_elim
        (λ p. above (plan_id i) (member_in (plan_id i) D p))
        (λ p. let r = touched_in (plan_at W i).justifications D p in let u = above r.0 r.2 in let v = (h.sound.just_alive (node (plan_at W i)) (node_in i hi) r.0 r.1).1 in omega arith)
        (or_cases (member (plan_id i) D) (touched (plan_at W i).justifications D) e) in
        with_subgoal (plan_at W i).subgoal (λ ne. (h.sound.sub_alive (node (plan_at W i)) (node_in i hi) ne).1) own k
      where
        with_own : t ≤ plan_id i → In x (plan_id i ∷ D) → t ≤ x
        with_own own k = ⊎_elim (λ q. rw q own) (above x) (in_cons k)

        with_subgoal : (y : ℕ) → (y ≢ 0 → plan_id i < y) → t ≤ plan_id i → In x (and_subgoal y (plan_id i ∷ D)) → t ≤ x
        with_subgoal zero later-than own k = with_own own k
        with_subgoal (suc y) later-than own k = ⊎_elim (λ q. let r = later-than (omega arith) in omega arith) (with_own own) (in_cons k)

  -- PLAN BY PLAN

  pass_snoc : (l : List Node) (q : Node) (D : List ℕ) → pass (l ++ (q ∷ [])) D ≡ visit_if (member q.id (pass l D) || touched q.justifications (pass l D)) q (pass l D)
  pass_snoc [] q D = refl
  pass_snoc (p ∷ l) q D = pass_snoc l q (visit_if (member p.id D || touched p.justifications D) p D)

  gone_more : (t i : ℕ) → gone_after W t (i + 1) ≡ visit_if (member (plan_id i) (gone_after W t i) || touched (plan_at W i).justifications (gone_after W t i)) (node (plan_at W i)) (gone_after W t i)
  unfolding gone_after
  gone_more t i = rw (add-one, map_append node (plans_of i W) (plan_at W i ∷ [])) (pass_snoc (map node (plans_of i W)) (node (plan_at W i)) (t ∷ []))

  pub passed_none : (t : ℕ) (left : List Bool) → length left ≡ 320 → ((k : ℕ) → k < 320 → get_or left k false ≡ true) → Passed W s t 0 (without_plan W s.plans t (without_atom W s.atoms t left))
  unfolding gone_after
  passed_none t left long all = record { long = plan_long [] (without_atom W s.atoms t left) t (atom_long [] left t long); marked = marked_target t left long (marked_none left all); above = λ x k. let e = in_one k in omega arith }

  pub passed_more : (t i : ℕ) (left : List Bool) → i < s.plans → Passed W s t i left → Passed W s t (i + 1) (visited W s.atoms t i left)
  unfolding visited
  passed_more t i left hi p = at (plan_goes W s.atoms t left i) refl
    where
      D : List ℕ
      D = gone_after W t i

      test_is : plan_goes W s.atoms t left i ≡ (member (plan_id i) D || touched (plan_at W i).justifications D)
      test_is = goes_is t D left p.marked p.above i hi

      above_more : (b : Bool) → plan_goes W s.atoms t left i ≡ b → (x : ℕ) → In x (visit_if b (node (plan_at W i)) D) → t ≤ x
      above_more b e = still_above t D left p.marked p.above i hi b (sym test_is ∙ e)

      gone_is_now : (b : Bool) → plan_goes W s.atoms t left i ≡ b → gone_after W t (i + 1) ≡ visit_if b (node (plan_at W i)) D
      gone_is_now b e = gone_more t i ∙ ap (λ (v : Bool). visit_if v (node (plan_at W i)) D) (sym test_is ∙ e)

      marks : Bool → List Bool
      marks b = if b then without_atom W s.atoms (plan_at W i).subgoal (set left (256 + i) false) else left

      marked_more : (b : Bool) → Marked W s (visit_if b (node (plan_at W i)) D) (marks b)
      marked_more true = marked_goes D left i p.long hi p.marked
      marked_more false = p.marked

      long_still : (b : Bool) → length (marks b) ≡ 320
      long_still true = atom_long [] (set left (256 + i) false) (plan_at W i).subgoal (length-set left (256 + i) false ∙ p.long)
      long_still false = p.long

      at : (b : Bool) → plan_goes W s.atoms t left i ≡ b → Passed W s t (i + 1) (marks b)
      at b e = record { long = long_still b; marked = rw (gone_is_now b e) (marked_more b); above = rw (gone_is_now b e) (above_more b e) }

  -- after all plans the marks tell what the model's deletion leaves
  pub passed_all : (t i : ℕ) (left : List Bool) → i ≤ s.plans → s.plans ≤ i → Passed W s t i left → Marked W s (reached (links_in c) t) left
  unfolding gone_after
  passed_all t i left low high p =
      let all : i ≡ s.plans = omega arith in
      let D : List ℕ = gone_after W t i in
      let same : (x : ℕ) → member x D ≡ member x (reached (links_in c) t) =
      λ x. ap (λ (n : ℕ). member x (pass (map node (plans_of n W)) (t ∷ []))) all ∙ pass_sweeps (map node c.plans) (t ∷ []) x in
      record {
        atoms = marked_like (λ k. k) s.atoms atom_id D (reached (links_in c) t) left same p.marked.atoms;
        plans = marked_like (λ k. 256 + k) s.plans plan_id D (reached (links_in c) t) left same p.marked.plans;
      }

-- what `mark` rests on
pub ruleset marking = (sound_atoms_rise, sound_plans_rise, passed_none, passed_more, passed_all)
