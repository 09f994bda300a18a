-- One word of one plan changed: that plan is another, and all else stands.
use mathlib.Core.Path.{◌≡◌, refl, ap, sym, ◌∙◌}
use mathlib.Core.List.{List, [], ◌∷◌, map}
use mathlib.Core.Logic.{⊎_elim, ◌≢◌}
use Prim.Native.Nat.{ℕ, ◌+◌, ◌-◌, ◌*◌, ◌<◌, ◌≤◌}
use native.Mathlib.Numerals.{add-one}
use native.Mathlib.Omega.{arith}
use lib.ListN.{length, drop, get_or, set, length-drop, length-set}
use lib.Seq.{drop-set-add, get_or-set_other}
use borrow.Author.Tests.{eq-eqb, ne_eqb}
use Rattle.lists.proofs.Tables.{equal_or_not, keys_differ, tabulate_at, tabulate_same, tabulate_map}
use Rattle.table.specs.Rows.{row}
use Rattle.table.proofs.Rows.{row_long, row_set_same, row_set_other}
use Rattle.model.specs.Configuration.{Plan, Config, with_flags, step_removed, with_subgoal, at_plan, change_plan, add_atom, add_subgoal}
use Rattle.state.specs.declared.Scalars.{Scalars}
use Rattle.state.specs.View.{plans_at, plan_of, atom_at, plan_at, atoms_of, plans_of, config_of, PlansRise, LivePlan, atom_counted, with_plan_word}
use Rattle.state.proofs.View.{atom_same}
use Rattle.state.proofs.Made.{config_path}

-- plan k is changed by f, and no other
pub plans_changed : (n : ℕ) (W X : List ℕ) (k : ℕ) (f : Plan → Plan) → PlansRise n W → k < n → plan_at X k ≡ f (plan_at W k) → ((i : ℕ) → i ≢ k → plan_at X i ≡ plan_at W i) →
    plans_of n X ≡ map (at_plan (plan_at W k).id f) (plans_of n W)
plans_changed n W X k f rise h here there =
    tabulate_same n (plan_at X) (λ (i : ℕ). at_plan (plan_at W k).id f (plan_at W i)) at
    ∙ tabulate_map (at_plan (plan_at W k).id f) n (plan_at W)
  where
    at : (i : ℕ) → i < n → plan_at X i ≡ at_plan (plan_at W k).id f (plan_at W i)
    at i hi = ⊎_elim
        (λ (e : i ≡ k). rw (e, eq-eqb (plan_at W k).id (plan_at W k).id refl) here)
        (λ (ne : i ≢ k). rw (ne_eqb (plan_at W i).id (plan_at W k).id (keys_differ (λ (q : Plan). q.id) n (plan_at W) rise i k hi h ne)) (there i ne))
        (equal_or_not i k)

module _ (W : List ℕ) (k e v : ℕ) (he : e < 18) where
  pub plan_word_here : plan_at (with_plan_word W k e v) k ≡ plan_of (set (row 18 (drop plans_at W) k) e v)
  unfolding plan_at with_plan_word
  plan_word_here = ap plan_of (ap (λ (l : List ℕ). row 18 l k) (drop-set-add plans_at W (k * 18 + e) v) ∙ row_set_same 18 (drop plans_at W) k e v he)

  pub plan_word_there : (i : ℕ) → i ≢ k → plan_at (with_plan_word W k e v) i ≡ plan_at W i
  unfolding plan_at with_plan_word
  plan_word_there i ne = ap plan_of (ap (λ (l : List ℕ). row 18 l i) (drop-set-add plans_at W (k * 18 + e) v) ∙ row_set_other 18 (drop plans_at W) k e v i he ne)

  pub plan_word_atoms : (n : ℕ) → n ≤ 256 → atoms_of n (with_plan_word W k e v) ≡ atoms_of n W
  unfolding with_plan_word
  plan_word_atoms n h = tabulate_same n (atom_at (set W (plans_at + (k * 18 + e)) v)) (atom_at W)
      (λ i hi. atom_same W (set W (plans_at + (k * 18 + e)) v) i (omega arith) (λ j hj. get_or-set_other W (plans_at + (k * 18 + e)) j v 0 (λ q. omega arith)))

-- the columns left, flags and subgoal of a plan's words
left_set : (r : List ℕ) (v : ℕ) → 5 < length r → v ≡ get_or r 3 0 - 1 → plan_of (set r 3 v) ≡ step_removed (plan_of r)
left_set [] v h e = absurd (omega arith)
left_set (a ∷ []) v h e = absurd (omega arith)
left_set (a ∷ b ∷ []) v h e = absurd (omega arith)
left_set (a ∷ b ∷ c ∷ []) v h e = absurd (omega arith)
left_set (a ∷ b ∷ c ∷ d ∷ r) v h e = rw e

flags_set : (r : List ℕ) (g : ℕ → ℕ) (v : ℕ) → 5 < length r → v ≡ g (get_or r 4 0) → plan_of (set r 4 v) ≡ with_flags g (plan_of r)
flags_set [] g v h e = absurd (omega arith)
flags_set (a ∷ []) g v h e = absurd (omega arith)
flags_set (a ∷ b ∷ []) g v h e = absurd (omega arith)
flags_set (a ∷ b ∷ c ∷ []) g v h e = absurd (omega arith)
flags_set (a ∷ b ∷ c ∷ d ∷ []) g v h e = absurd (omega arith)
flags_set (a ∷ b ∷ c ∷ d ∷ x ∷ r) g v h e = rw e

subgoal_set : (r : List ℕ) (v : ℕ) → 5 < length r → plan_of (set r 5 v) ≡ with_subgoal v (plan_of r)
subgoal_set [] v h = absurd (omega arith)
subgoal_set (a ∷ []) v h = absurd (omega arith)
subgoal_set (a ∷ b ∷ []) v h = absurd (omega arith)
subgoal_set (a ∷ b ∷ c ∷ []) v h = absurd (omega arith)
subgoal_set (a ∷ b ∷ c ∷ d ∷ []) v h = absurd (omega arith)
subgoal_set (a ∷ b ∷ c ∷ d ∷ x ∷ []) v h = absurd (omega arith)
subgoal_set (a ∷ b ∷ c ∷ d ∷ x ∷ y ∷ r) v h = refl

module _ (W : List ℕ) (k : ℕ) (long : length W ≡ 2432) (few : k < 64) where
  row_of_plan : 5 < length (row 18 (drop plans_at W) k)
  row_of_plan =
      let z : length (drop plans_at W) ≡ length W - plans_at = length-drop plans_at W in
      let r = row_long 18 (drop plans_at W) k (omega arith) in
      omega arith

  pub left_put : (v : ℕ) → v ≡ (plan_at W k).left - 1 → plan_at (with_plan_word W k 3 v) k ≡ step_removed (plan_at W k)
  unfolding plan_at
  left_put v e = plan_word_here W k 3 v (omega arith) ∙ left_set (row 18 (drop plans_at W) k) v row_of_plan e

  pub flags_put : (g : ℕ → ℕ) (v : ℕ) → v ≡ g (plan_at W k).flags → plan_at (with_plan_word W k 4 v) k ≡ with_flags g (plan_at W k)
  unfolding plan_at
  flags_put g v e = plan_word_here W k 4 v (omega arith) ∙ flags_set (row 18 (drop plans_at W) k) g v row_of_plan e

  pub subgoal_put : (v : ℕ) → plan_at (with_plan_word W k 5 v) k ≡ with_subgoal v (plan_at W k)
  unfolding plan_at
  subgoal_put v = plan_word_here W k 5 v (omega arith) ∙ subgoal_set (row 18 (drop plans_at W) k) v row_of_plan

pub with_plan_word_long : (W : List ℕ) (k e v : ℕ) → length (with_plan_word W k e v) ≡ length W
unfolding with_plan_word
with_plan_word_long W k e v = length-set W (plans_at + (k * 18 + e)) v

module _ (W : List ℕ) (s : Scalars) (k : ℕ) (long : length W ≡ 2432) (live : LivePlan W s k) where
  few : k < 64
  few = omega (arith, live.there, live.few_plans)

  changed : (e v : ℕ) (f : Plan → Plan) → e < 18 → plan_at (with_plan_word W k e v) k ≡ f (plan_at W k) →
      config_of (with_plan_word W k e v) s ≡ change_plan (plan_at W k).id f (config_of W s)
  changed e v f he h = config_path s s.next
      (plan_word_atoms W k e v he s.atoms live.few_atoms)
      (plans_changed s.plans W (with_plan_word W k e v) k f live.rise live.there h (plan_word_there W k e v he))
      refl

  pub flags_changed : (g : ℕ → ℕ) (v : ℕ) → v ≡ g (plan_at W k).flags → config_of (with_plan_word W k 4 v) s ≡ change_plan (plan_at W k).id (with_flags g) (config_of W s)
  flags_changed g v e = changed 4 v (with_flags g) (omega arith) (flags_put W k long few g v e)

  pub left_changed : (v : ℕ) → v ≡ (plan_at W k).left - 1 → config_of (with_plan_word W k 3 v) s ≡ change_plan (plan_at W k).id step_removed (config_of W s)
  left_changed v e = changed 3 v step_removed (omega arith) (left_put W k long few v e)

-- an equal list of plans has equal plans
pub plan_stands : (n : ℕ) (W X : List ℕ) (k : ℕ) → k < n → plans_of n X ≡ plans_of n W → plan_at X k ≡ plan_at W k
plan_stands n W X k h e = sym (tabulate_at n (plan_at X) k (plan_at W 0) h) ∙ ap (λ (l : List Plan). get_or l k (plan_at W 0)) e ∙ tabulate_at n (plan_at W) k (plan_at W 0) h

-- the atom was made, then linked
pub subgoal_linked : (W X : List ℕ) (s : Scalars) (k p a b : ℕ) → LivePlan W s k → s.atoms < 256 → length X ≡ 2432 → config_of X (atom_counted s) ≡ add_atom p a b (config_of W s) →
    config_of (with_plan_word X k 5 s.next) (atom_counted s) ≡ add_subgoal (plan_at W k).id p a b (config_of W s)
subgoal_linked W X s k p a b live h long e =
    let ps : plans_of s.plans X ≡ plans_of s.plans W = ap (λ (c : Config). c.plans) e in
    let same : plan_at X k ≡ plan_at W k = plan_stands s.plans W X k live.there ps in
    let rise : PlansRise s.plans X = rw ps live.rise in
    let link : plan_at (with_plan_word X k 5 s.next) k ≡ with_subgoal s.next (plan_at X k) = subgoal_put X k long (omega (arith, live.there, live.few_plans)) s.next in
    config_path s (s.next + 1)
    (plan_word_atoms X k 5 s.next (omega arith) (s.atoms + 1) (omega arith) ∙ ap (λ (c : Config). c.atoms) e)
    (plans_changed s.plans X (with_plan_word X k 5 s.next) k (with_subgoal s.next) rise live.there link (plan_word_there X k 5 s.next (omega arith))
    ∙ ap (λ (q : Plan). map (at_plan q.id (with_subgoal s.next)) (plans_of s.plans X)) same
    ∙ ap (map (at_plan (plan_at W k).id (with_subgoal s.next))) ps)
    (add-one s.next)
