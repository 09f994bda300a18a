-- The plan whose subgoal is the target loses it: where that plan stands, and the plans afterwards.
use Rattle.std.specs.Prelude.{if◌then◌else◌}
use mathlib.Core.Path.{◌≡◌, refl, ap, sym, ◌∙◌}
use mathlib.Core.Bool.{Bool, true, false, not, ◌&&◌}
use mathlib.Core.List.{List, map}
use mathlib.Core.Logic.{◌⊎◌, inl, inr, ⊎_elim, ◌≢◌}
use Prim.Native.Nat.{ℕ, ◌-◌, ◌<◌, ◌≤◌}
use native.Mathlib.Omega.{arith}
use lib.Dec.{eqb}
use lib.ListN.{length}
use borrow.Author.Tests.{eq-eqb, ne_eqb}
use Rattle.std.specs.Prelude.{Option, MatchOption, Some, None}
use Rattle.lists.specs.Tables.{tabulate, index_of, PlaceOf}
use Rattle.lists.proofs.Tables.{equal_or_not, tabulate_same, tabulate_map, index_tabulated, index_tabulated_is, index_missing}
use Rattle.model.specs.Configuration.{Plan, with_subgoal}
use Rattle.model.specs.Deletion.{node}
use Rattle.state.specs.declared.Scalars.{Scalars}
use Rattle.state.specs.View.{plan_at, atoms_of, plans_of, SoundWords, with_plan_word}
use Rattle.state.proofs.Changed.{plan_word_there, plan_word_atoms, left_put, subgoal_put, with_plan_word_long}
use Rattle.deletion.specs.Marks.{subgoal_lost, unlinked_from, subgoals_of}
use Rattle.deletion.proofs.Pass.{node_in, plans_differ}

subgoals_are : (n : ℕ) (W : List ℕ) → tabulate n (λ (k : ℕ). (plan_at W k).subgoal) ≡ subgoals_of n W
subgoals_are n W = tabulate_map (λ (q : Plan). q.subgoal) n (plan_at W)

owner_is : (n : ℕ) (W : List ℕ) (t r : ℕ) → r ≤ n → ((k : ℕ) → k < r → (plan_at W k).subgoal ≡ t → ⊥) → (r < n → (plan_at W r).subgoal ≡ t) → r ≡ index_of t (subgoals_of n W)
owner_is n W t r h none here = index_tabulated_is n (λ (k : ℕ). (plan_at W k).subgoal) t r h none here ∙ ap (index_of t) (subgoals_are n W)

-- where a search among the first n plans came to
pub owner_place : (n : ℕ) (W : List ℕ) (t : ℕ) (r : Option ℕ) → MatchOption r ((k : ℕ) → 0 ≤ k → k < n → (plan_at W k).subgoal ≢ t) (λ i. (0 ≤ i) × (i < n) × ((plan_at W i).subgoal ≡ t) × ((k : ℕ) → 0 ≤ k → k < i → (plan_at W k).subgoal ≢ t)) →
    PlaceOf n t (subgoals_of n W) r
owner_place n W t None none = sym (owner_is n W t n (omega arith) (λ k h. none k (omega arith) h) (λ h. absurd (omega arith)))
owner_place n W t (Some i) h = (owner_is n W t i (omega (arith, h.1)) (λ k p. h.3 k (omega arith) p) (λ g. h.2), h.1)

-- a plan that is not, that is the target's owner
other_stands : (t : ℕ) (q : Plan) → (t ≡ 0) ⊎ (q.subgoal ≢ t) → unlinked_from t q ≡ q
unfolding unlinked_from
other_stands t q (inl z) = rw (eq-eqb t 0 z)
other_stands t q (inr ne) = rw (ne_eqb q.subgoal t ne) (at (eqb t 0))
  where
    at : (b : Bool) → (if not b && false then subgoal_lost q else q) ≡ q
    at true = refl
    at false = refl

owner_loses : (t : ℕ) (q : Plan) → t ≢ 0 → q.subgoal ≡ t → unlinked_from t q ≡ subgoal_lost q
unfolding unlinked_from
owner_loses t q ne e = rw (ne_eqb t 0 ne, eq-eqb q.subgoal t e)

unlinked_by : (n : ℕ) (W X : List ℕ) (t : ℕ) → ((k : ℕ) → k < n → plan_at X k ≡ unlinked_from t (plan_at W k)) → plans_of n X ≡ map (unlinked_from t) (plans_of n W)
unlinked_by n W X t e = tabulate_same n (plan_at X) (λ (k : ℕ). unlinked_from t (plan_at W k)) e ∙ tabulate_map (unlinked_from t) n (plan_at W)

pub no_target : (n : ℕ) (W : List ℕ) (t : ℕ) → t ≡ 0 → plans_of n W ≡ map (unlinked_from t) (plans_of n W)
no_target n W t z = unlinked_by n W W t (λ k h. sym (other_stands t (plan_at W k) (inl z)))

pub no_owner : (n : ℕ) (W : List ℕ) (t k : ℕ) → index_of t (subgoals_of n W) ≡ k → n ≤ k → plans_of n W ≡ map (unlinked_from t) (plans_of n W)
no_owner n W t k e h = unlinked_by n W W t (λ i hi. sym (other_stands t (plan_at W i) (inr (index_missing n (λ (k : ℕ). (plan_at W k).subgoal) t (rw (subgoals_are n W, e) h) i hi))))

-- two words of the owner are changed
module _ (W : List ℕ) (s : Scalars) (long : length W ≡ 2432) (h : SoundWords W s) (t k v : ℕ) (some : t ≢ 0) (found : k ≡ index_of t (subgoals_of s.plans W)) (there : k < s.plans) (less : v ≡ (plan_at W k).left - 1) where
  abbrev shorter : List ℕ
  shorter = with_plan_word W k 3 v

  abbrev after : List ℕ
  after = with_plan_word shorter k 5 0

  owns : (plan_at W k).subgoal ≡ t
  owns =
      let e : k ≡ index_of t (tabulate s.plans (λ (i : ℕ). (plan_at W i).subgoal)) = found ∙ ap (index_of t) (sym (subgoals_are s.plans W)) in
      rw (← e) at (index_tabulated s.plans (λ (i : ℕ). (plan_at W i).subgoal) t (rw (← e) there))

  few : k < 64
  few = omega (arith, h.few_plans)

  here : plan_at after k ≡ subgoal_lost (plan_at W k)
  here = subgoal_put shorter k (with_plan_word_long W k 3 v ∙ long) few 0 ∙ ap (with_subgoal 0) (left_put W k long few v less)

  elsewhere : (i : ℕ) → i ≢ k → plan_at after i ≡ plan_at W i
  elsewhere i ne = plan_word_there shorter k 5 0 (omega arith) i ne ∙ plan_word_there W k 3 v (omega arith) i ne

  owns_alone : (i : ℕ) → i < s.plans → i ≢ k → (plan_at W i).subgoal ≢ t
  owns_alone i hi ne e = plans_differ W s h k i there hi (λ q. ne (sym q))
      (h.sound.sub_one (node (plan_at W k)) (node_in W s h k there) (node (plan_at W i)) (node_in W s h i hi) (λ z. some (sym owns ∙ z)) (owns ∙ sym e))

  pub owner_unlinked : plans_of s.plans after ≡ map (unlinked_from t) (plans_of s.plans W)
  owner_unlinked = unlinked_by s.plans W after t (λ i hi. ⊎_elim
      (λ (e : i ≡ k). rw e (here ∙ sym (owner_loses t (plan_at W k) some owns)))
      (λ (ne : i ≢ k). elsewhere i ne ∙ sym (other_stands t (plan_at W i) (inr (owns_alone i hi ne))))
      (equal_or_not i k))

  pub unlinked_atoms : atoms_of s.atoms after ≡ atoms_of s.atoms W
  unlinked_atoms = plan_word_atoms shorter k 5 0 (omega arith) s.atoms h.few_atoms ∙ plan_word_atoms W k 3 v (omega arith) s.atoms h.few_atoms

-- what `unlink` rests on
pub ruleset unlinking = (no_target, no_owner, owner_unlinked, unlinked_atoms)
