-- What each change of a configuration keeps of its shape.
use Rattle.std.specs.Prelude.{if◌then◌else◌}
use mathlib.Core.Path.{◌≡◌, refl, ap, ◌∙◌}
use mathlib.Core.Bool.{Bool, true, false, not}
use mathlib.Core.Logic.{◌⊎◌, inl, inr, ⊎_elim}
use mathlib.Core.List.{List, [], ◌∷◌, ◌++◌, map}
use Prim.Native.Nat.{ℕ, zero, suc, ◌+◌, ◌-◌, ◌≤◌, ◌<◌}
use native.Mathlib.Omega.{arith}
use lib.Dec.{eqb}
use lib.ListN.{length, length-append, length-map}
use borrow.Author.Tests.{eqb-true}
use Rattle.lists.specs.Lists.{In, first, keep, bit, member}
use Rattle.lists.proofs.Lists.{in_left, in_right, in_keep, keep_in, all_snoc, all_map, count_keep}
use Rattle.model.specs.declared.Row.{Row}
use Rattle.model.specs.declared.Atom.{Atom}
use Rattle.model.specs.Program.{sets}
use Rattle.model.specs.Configuration.{Plan, Config, most_atoms, most_plans, last_next, remainder, with_flags, step_removed, with_subgoal, at_plan, with_instances, with_phase, change_plan, new_atom, new_plan, add_atom, add_plan, add_subgoal}
use Rattle.model.specs.Graph.{reached, survives, loses_subgoal, choose}
use Rattle.model.specs.Deletion.{links_in, plan_without, remove}
use Rattle.model.specs.WellFormed.{makes_atom}
use Rattle.demands.proofs.Shape.{AtomFormed, SubgoalFirst, PlanFormed, WaitingFirst, Shaped}

-- one plan
module _ (program : List Row) (xs : List Atom) (q : Plan) (w : PlanFormed program xs q) where
  -- with another left, subgoal and flags
  plan_with : (left subgoal flags : ℕ) → left ≤ q.left → flags ≤ 65535 → (ys : List Atom) →
      (let p : Plan = record { id = q.id; set = q.set; rule = q.rule; values = q.values; left = left; justifications = q.justifications; subgoal = subgoal; flags = flags } in
      (subgoal ≡ 0) ⊎ SubgoalFirst program ys p → PlanFormed program ys p)
  plan_with left subgoal flags l f ys s = record {
    object = w.object;
    left_fits = omega (arith, w.left_fits);
    values_long = w.values_long;
    values_fit = w.values_fit;
    values_given = w.values_given;
    flags_fit = f;
    subgoal_first = s;
  }

  pub plan_among : (ys : List Atom) → ((x : Atom) → In x xs → In x ys) → PlanFormed program ys q
  plan_among ys h = plan_with q.left q.subgoal q.flags (omega arith) w.flags_fit ys
      (⊎_elim (λ z. inl z) (λ s. inr (record { row = s.row; rest = s.rest; stands = s.stands; is_36 = s.is_36; atom = s.atom; alive = h s.atom s.alive; is_it = s.is_it; equal = s.equal })) w.subgoal_first)

  pub plan_flags : (f : ℕ → ℕ) → (q.flags ≤ 65535 → f q.flags ≤ 65535) → PlanFormed program xs (with_flags f q)
  unfolding remainder
  plan_flags f h = plan_with q.left q.subgoal (f q.flags) (omega arith) (h w.flags_fit) xs
      (⊎_elim (λ z. inl z) (λ s. inr (record { row = s.row; rest = s.rest; stands = s.stands; is_36 = s.is_36; atom = s.atom; alive = s.alive; is_it = s.is_it; equal = s.equal })) w.subgoal_first)

  -- without its first step, where it has no subgoal
  pub plan_step_removed : q.subgoal ≡ 0 → PlanFormed program xs (step_removed q)
  plan_step_removed z = plan_with (q.left - 1) q.subgoal q.flags (omega arith) w.flags_fit xs (inl z)

  pub plan_subgoal : (n : ℕ) (ys : List Atom) → SubgoalFirst program ys (with_subgoal n q) → PlanFormed program ys (with_subgoal n q)
  plan_subgoal n ys s = plan_with q.left n q.flags (omega arith) w.flags_fit ys (inr s)

  -- after a deletion that it survives
  pub plan_after : (D : List ℕ) → PlanFormed program (keep (λ (x : Atom). survives D x.id) xs) (plan_without D q)
  plan_after D = at (loses_subgoal D q.subgoal) refl
    where
      ys : List Atom
      ys = keep (λ (x : Atom). survives D x.id) xs

      zero_or : (s : ℕ) → loses_subgoal D s ≡ false → (s ≡ 0) ⊎ (member s D ≡ false)
      zero_or zero e = inl refl
      zero_or (suc s) e = inr e

      stays : loses_subgoal D q.subgoal ≡ false → SubgoalFirst program xs q → (q.subgoal ≡ 0) ⊎ SubgoalFirst program ys q
      stays e s = ⊎_elim (λ z. inl z) (λ z. inr (record { row = s.row; rest = s.rest; stands = s.stands; is_36 = s.is_36; atom = s.atom; alive = in_keep _ s.alive (ap not (ap (λ (n : ℕ). member n D) s.is_it ∙ z)); is_it = s.is_it; equal = s.equal })) (zero_or q.subgoal e)

      at : (b : Bool) → loses_subgoal D q.subgoal ≡ b → PlanFormed program ys (record { id = q.id; set = q.set; rule = q.rule; values = q.values; left = q.left - bit b; justifications = q.justifications; subgoal = choose b 0 q.subgoal; flags = q.flags })
      at true e = plan_with (q.left - 1) 0 q.flags (omega arith) w.flags_fit ys (inl refl)
      at false e = let z : q.left - 0 ≡ q.left = omega arith in rw z (plan_with q.left q.subgoal q.flags (omega arith) w.flags_fit ys (⊎_elim (λ z. inl z) (stays e) w.subgoal_first))

-- the configuration
module _ (program : List Row) (c : Config) (w : Shaped program c) where
  waiting_more : (qs : List Plan) → ((q : Plan) → In q c.plans → In q qs) → (c.waiting ≡ 0) ⊎ ((c.phase ≡ sets program + 1) × WaitingFirst program c.waiting qs)
  waiting_more qs h = ⊎_elim (λ z. inl z) (λ z. inr (z.0, record { plan = z.1.plan; alive = h z.1.plan z.1.alive; is_it = z.1.is_it; row = z.1.row; rest = z.1.rest; stands = z.1.stands; is_31 = z.1.is_31 })) w.waiting_formed

  pub shaped_atom : (p a b : ℕ) → 1 ≤ p → p ≤ 255 → a ≤ 65535 → b ≤ 65535 → c.next < last_next → length c.atoms < most_atoms → Shaped program (add_atom p a b c)
  shaped_atom p a b h i j k n m = record {
    few_atoms = let l = length-append c.atoms (new_atom c p a b ∷ []) in omega arith;
    few_plans = w.few_plans;
    phase_fits = w.phase_fits;
    cycle_fits = w.cycle_fits;
    next_fits = omega arith;
    atoms_formed = all_snoc AtomFormed c.atoms (new_atom c p a b) w.atoms_formed (record { p_low = h; p_high = i; a_fits = j; b_fits = k; cycle_fits = w.cycle_fits });
    plans_formed = λ q o. plan_among program c.atoms q (w.plans_formed q o) (c.atoms ++ (new_atom c p a b ∷ [])) (λ x. in_left (new_atom c p a b ∷ []));
    waiting_formed = w.waiting_formed;
  }

  pub shaped_plan : (s n : ℕ) (values : List ℕ) (left : ℕ) (js : List ℕ) → PlanFormed program c.atoms (new_plan c s n values left js) → c.next < last_next → length c.plans < most_plans → Shaped program (add_plan s n values left js c)
  shaped_plan s n values left js h k m = record {
    few_atoms = w.few_atoms;
    few_plans = let l = length-append c.plans (new_plan c s n values left js ∷ []) in omega arith;
    phase_fits = w.phase_fits;
    cycle_fits = w.cycle_fits;
    next_fits = omega arith;
    atoms_formed = w.atoms_formed;
    plans_formed = all_snoc (PlanFormed program c.atoms) c.plans (new_plan c s n values left js) w.plans_formed h;
    waiting_formed = waiting_more (c.plans ++ (new_plan c s n values left js ∷ [])) (λ q. in_left (new_plan c s n values left js ∷ []));
  }

  -- from here on nothing waits
  module _ (z : c.waiting ≡ 0) where
    pub shaped_subgoal : (k p a b : ℕ) → 1 ≤ p → p ≤ 255 → a ≤ 65535 → b ≤ 65535 → c.next < last_next → length c.atoms < most_atoms →
        ((q : Plan) → In q c.plans → q.id ≡ k → (r : Row) × (rs : List Row) × (remainder program q ≡ r ∷ rs) × (r.op ≡ 36) × (makes_atom q.values r (new_atom c p a b) ≡ true)) → Shaped program (add_subgoal k p a b c)
    unfolding remainder
    shaped_subgoal k p a b h i j l n m f = record {
      few_atoms = let l = length-append c.atoms (new_atom c p a b ∷ []) in omega arith;
      few_plans = let l = length-map c.plans (at_plan k (with_subgoal c.next)) in omega (arith, w.few_plans);
      phase_fits = w.phase_fits;
      cycle_fits = w.cycle_fits;
      next_fits = omega arith;
      atoms_formed = all_snoc AtomFormed c.atoms (new_atom c p a b) w.atoms_formed (record { p_low = h; p_high = i; a_fits = j; b_fits = l; cycle_fits = w.cycle_fits });
      plans_formed = all_map (PlanFormed program ys) (at_plan k (with_subgoal c.next)) c.plans (λ q o. at q o (eqb q.id k) refl);
      waiting_formed = inl z;
    }
      where
        ys : List Atom
        ys = c.atoms ++ (new_atom c p a b ∷ [])

        linked : (q : Plan) → In q c.plans → q.id ≡ k → SubgoalFirst program ys (with_subgoal c.next q)
        linked q o e = let g = f q o e in record { row = g.0; rest = g.1; stands = g.2; is_36 = g.3; atom = new_atom c p a b; alive = in_right c.atoms (first refl); is_it = refl; equal = g.4 }

        at : (q : Plan) → In q c.plans → (b : Bool) → eqb q.id k ≡ b → PlanFormed program ys (if b then with_subgoal c.next q else q)
        at q o true e = plan_subgoal program c.atoms q (w.plans_formed q o) c.next ys (linked q o (eqb-true q.id k e))
        at q o false e = plan_among program c.atoms q (w.plans_formed q o) ys (λ x. in_left (new_atom c p a b ∷ []))

    pub shaped_remove : (t : ℕ) → Shaped program (remove t c)
    shaped_remove t = record {
      few_atoms = let l = count_keep (λ (x : Atom). survives D x.id) c.atoms in omega (arith, w.few_atoms);
      few_plans = let l = count_keep (λ (q : Plan). survives D q.id) c.plans in let m = length-map (keep (λ (q : Plan). survives D q.id) c.plans) (plan_without D) in omega (arith, w.few_plans);
      phase_fits = w.phase_fits;
      cycle_fits = w.cycle_fits;
      next_fits = w.next_fits;
      atoms_formed = λ x i. w.atoms_formed x (keep_in (λ (x : Atom). survives D x.id) c.atoms i).0;
      plans_formed = all_map (PlanFormed program (keep (λ (x : Atom). survives D x.id) c.atoms)) (plan_without D) (keep (λ (q : Plan). survives D q.id) c.plans)
          (λ q i. plan_after program c.atoms q (w.plans_formed q (keep_in (λ (q : Plan). survives D q.id) c.plans i).0) D);
      waiting_formed = inl z;
    }
      where
        D : List ℕ
        D = reached (links_in c) t

    pub shaped_plans : (f : Plan → Plan) → ((q : Plan) → In q c.plans → PlanFormed program c.atoms (f q)) → Shaped program (with_instances c c.atoms (map f c.plans) c.next)
    shaped_plans f h = record {
      few_atoms = w.few_atoms;
      few_plans = let l = length-map c.plans f in omega (arith, w.few_plans);
      phase_fits = w.phase_fits;
      cycle_fits = w.cycle_fits;
      next_fits = w.next_fits;
      atoms_formed = w.atoms_formed;
      plans_formed = all_map (PlanFormed program c.atoms) f c.plans h;
      waiting_formed = inl z;
    }

    pub shaped_change : (k : ℕ) (f : Plan → Plan) → ((q : Plan) → In q c.plans → q.id ≡ k → PlanFormed program c.atoms (f q)) → Shaped program (change_plan k f c)
    shaped_change k f h = shaped_plans (at_plan k f) (λ q i. at q i (eqb q.id k) refl)
      where
        at : (q : Plan) → In q c.plans → (b : Bool) → eqb q.id k ≡ b → PlanFormed program c.atoms (if b then f q else q)
        at q i true e = h q i (eqb-true q.id k e)
        at q i false e = w.plans_formed q i

    pub shaped_phase : (n : ℕ) → n ≤ sets program + 1 → Shaped program (with_phase n c)
    shaped_phase n h = record {
      few_atoms = w.few_atoms;
      few_plans = w.few_plans;
      phase_fits = h;
      cycle_fits = w.cycle_fits;
      next_fits = w.next_fits;
      atoms_formed = w.atoms_formed;
      plans_formed = w.plans_formed;
      waiting_formed = inl z;
    }
