-- What is alive is found; the waiting plan too, and its words once the waiting is over.
use Rattle.std.specs.Prelude.{Option, Some, None, IsSome, is_some}
use mathlib.Core.Path.{refl, ◌≡◌, sym, ap, ◌∙◌, subst}
use mathlib.Core.Logic.{⊎_elim, ◌≢◌}
use mathlib.Core.List.{List}
use Prim.Native.Nat.{ℕ, ◌<◌, ◌≤◌}
use native.Mathlib.Omega.{arith}
use lib.ListN.{length, length-map}
use borrow.Author.Tests.{ltb-true}
use Rattle.lists.specs.Lists.{In}
use Rattle.lists.specs.Tables.{index_of, PlaceOf}
use Rattle.lists.proofs.Lists.{in_map, in_cast, in_member}
use Rattle.lists.proofs.Tables.{index_member, tabulate_at, get_in}
use Rattle.model.specs.Configuration as Configuration
use Rattle.model.specs.Configuration.{Plan, with_waiting, atom_alive, plan_alive}
use Rattle.model.specs.Calls.{set_stepped, set_failed, remove_step}
use Rattle.state.specs.declared.Scalars.{Scalars}
use Rattle.state.specs.View.{plan_at, plans_of, plan_ids_of, atom_ids_of, config_of, waiting_put, LivePlan}
use Rattle.state.proofs.Room.{found}
use Rattle.state.proofs.Live.{sound_atoms_rise, sound_plans_rise, plans_counted, found_plan, found_atom_alive, found_plan_alive, sound_live}
use Rattle.in_place.specs.Given.{Admitted}
use Rattle.in_place.proofs.Outcomes.{admitted_well, admitted_words}
use Rattle.in_place.proofs.Answered.{answer_idle, answer_large, answer_yes, answer_no}

-- what is alive is found
module _ (words : List ℕ) (s : Scalars) (x : ℕ) where
  pub atom_there : (r : Option ℕ) → PlaceOf s.atoms x (atom_ids_of s.atoms words) r → is_some r ≡ atom_alive (config_of words s) x
  atom_there r f = sym (found s.atoms x (atom_ids_of s.atoms words) r f) ∙ found_atom_alive words s x

  pub plan_there : (r : Option ℕ) → PlaceOf s.plans x (plan_ids_of s.plans words) r → is_some r ≡ plan_alive (config_of words s) x
  plan_there r f = sym (found s.plans x (plan_ids_of s.plans words) r f) ∙ found_plan_alive words s x

module _ (program words : List ℕ) (s : Scalars) (a : Admitted program words s) (w : s.waiting ≢ 0) where
  -- it is alive, so that it stands among the ids
  among : index_of s.waiting (plan_ids_of s.plans words) < s.plans
  among =
      ⊎_elim (λ z. absurd (w z)) (λ z.
      let q = z.1 in
      let m : In s.waiting (plan_ids_of s.plans words) = in_cast (sym q.is_it) (in_map (λ (p : Plan). p.id) q.alive) in
      let b : index_of s.waiting (plan_ids_of s.plans words) < length (plan_ids_of s.plans words) = ltb-true (index_of s.waiting (plan_ids_of s.plans words)) (length (plan_ids_of s.plans words)) (index_member s.waiting (plan_ids_of s.plans words) ∙ in_member m) in
      let n : length (plan_ids_of s.plans words) ≡ s.plans = length-map (plans_of s.plans words) (λ (p : Plan). p.id) ∙ plans_counted words s in
      omega arith) (admitted_well program (config_of words s) a).shaped.waiting_formed

  pub waiting_found : (r : Option ℕ) → PlaceOf s.plans s.waiting (plan_ids_of s.plans words) r → IsSome r
  waiting_found (Some k) f = refl
  waiting_found None f = let h = among in absurd (omega (arith, f))

  module _ (r : Option ℕ) (p : PlaceOf s.plans s.waiting (plan_ids_of s.plans words) r) (k : ℕ) (e : r ≡ Some k) (idle : Scalars) (i : idle ≡ waiting_put 0 s) where
    f : k ≡ index_of s.waiting (plan_ids_of s.plans words)
    f = (subst (PlaceOf s.plans s.waiting (plan_ids_of s.plans words)) e p).0

    there : k < s.plans
    there = let h = among in omega (arith, f)

    is_it : (plan_at words k).id ≡ s.waiting
    is_it = ap (λ (n : ℕ). (plan_at words n).id) f ∙ found_plan s.plans words s.waiting among

    flags : (plan_at words k).flags ≤ 65535
    flags =
        let n : length (plans_of s.plans words) ≡ s.plans = plans_counted words s in
        let h = there in
        let m : In (plan_at words k) (plans_of s.plans words) = in_cast (sym (tabulate_at s.plans (plan_at words) k (plan_at words 0) h)) (get_in (plans_of s.plans words) k (plan_at words 0) (omega arith)) in
        ((admitted_well program (config_of words s) a).shaped.plans_formed (plan_at words k) m).flags_fit

    pub waiting_live : LivePlan words idle k × ((plan_at words k).flags ≤ 65535)
    waiting_live = let h = admitted_words program words s a in (subst (λ (x : Scalars). LivePlan words x k) (sym i) (sound_live words (waiting_put 0 s) k (record { few_atoms = h.few_atoms; few_plans = h.few_plans; sound = h.sound }) there), flags)

    pub waiting_succeed : set_stepped (plan_at words k).id (remove_step (plan_at words k).id (config_of words idle)) ≡ set_stepped s.waiting (remove_step s.waiting (with_waiting 0 (config_of words s)))
    waiting_succeed = ap (λ (n : ℕ). set_stepped n (remove_step n (config_of words idle))) is_it ∙ ap (λ (x : Scalars). set_stepped s.waiting (remove_step s.waiting (config_of words x))) i

    pub waiting_fail : set_stepped (plan_at words k).id (set_failed (plan_at words k).id (config_of words idle)) ≡ set_stepped s.waiting (set_failed s.waiting (with_waiting 0 (config_of words s)))
    waiting_fail = ap (λ (n : ℕ). set_stepped n (set_failed n (config_of words idle))) is_it ∙ ap (λ (x : Scalars). set_stepped s.waiting (set_failed s.waiting (config_of words x))) i

pub ruleset finding = (sound_atoms_rise, sound_plans_rise, atom_there, plan_there)

pub ruleset answering = (admitted_words, sound_plans_rise, answer_idle, answer_large, answer_yes, answer_no, waiting_found, waiting_live, waiting_succeed, waiting_fail)
