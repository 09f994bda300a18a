-- Words after a part of a step: the plan is still there, and what holds them together still holds.
use mathlib.Core.Path.{◌≡◌, refl, sym, ap, ◌∙◌, subst}
use mathlib.Core.List.{List}
use Prim.Native.Nat.{ℕ, ◌+◌, ◌<◌, ◌≤◌}
use native.Mathlib.Omega.{arith}
use Rattle.model.specs.Deletion.{graph}
use Rattle.model.specs.Configuration.{Plan, Config, with_flags, with_flag, with_subgoal, step_removed, change_plan, add_atom, add_subgoal}
use Rattle.model.specs.Calls.{set_stepped, remove_step}
use Rattle.graph_laws.proofs.Turns.{change_plan_turns_not}
use Rattle.state.specs.declared.Scalars.{Scalars}
use Rattle.state.specs.View.{plan_at, plans_of, config_of, SoundWords, LivePlan, atom_counted, atom_bar, counts_put}
use Rattle.state.proofs.Live.{sound_live, sound_atoms_rise, plan_after}
use Rattle.state.proofs.Made.{config_path}
use Rattle.state.proofs.Changed.{plan_stands}
use Rattle.state.proofs.Room.{bar_free}
use Rattle.deletion.proofs.Sound.{sound_added, sound_still}
use Rattle.program.specs.Rows.{rows_of}
use Rattle.program_laws.specs.Lawful.{NotLater}
use Rattle.lists.specs.Lists.{Pairs}
use Rattle.stepping.specs.Steps.{WellWords}
use Rattle.stepping.proofs.Changed.{live_after}
use Rattle.stepping.proofs.Standing.{lawful_rows, shaped, whole, flags_fit}
use Rattle.executing.specs.Exec.{Due}

-- what well-formed words give the parts of the phase
module _ (program W : List ℕ) (s : Scalars) (w : WellWords program W s) where
  pub cycle_fits : s.cycle ≤ 65535
  cycle_fits = (shaped program W s w).cycle_fits

  pub due_there : (k : ℕ) → k < s.plans → Due W s k
  due_there k h = record { whole = whole program W s w; next_fits = (shaped program W s w).next_fits; there = h; flags_fit = flags_fit program W s w k h }

  pub rows_ordered : Pairs NotLater (rows_of program)
  rows_ordered = (lawful_rows program W s w).ordered

module _ (W : List ℕ) (s : Scalars) (k : ℕ) (d : Due W s k) where
  pub due_live : LivePlan W s k × ((plan_at W k).flags ≤ 65535)
  due_live = (sound_live W s k d.whole d.there, d.flags_fit)

  module _ (X : List ℕ) where
    -- the step was removed
    pub sound_stepped : config_of X s ≡ set_stepped (plan_at W k).id (remove_step (plan_at W k).id (config_of W s)) → SoundWords X s
    sound_stepped e =
        let i = (plan_at W k).id in
        sound_still W X s s d.whole refl refl
        (ap graph e ∙ change_plan_turns_not i (with_flags (with_flag 3)) (λ q. refl) (remove_step i (config_of W s)) ∙ change_plan_turns_not i step_removed (λ q. refl) (config_of W s))

    module _ (t : Scalars) (c : t ≡ atom_counted s) (z : atom_bar s.next s.atoms ≡ 0) where
      room : (s.atoms < 256) × (s.next < 65536)
      room = let f = bar_free s.next s.atoms z in (f.1, omega (arith, f.0, d.next_fits))

      -- an atom was made
      module _ (p a b : ℕ) (e : config_of X t ≡ add_atom p a b (config_of W s)) where
        same_plans : plans_of s.plans X ≡ plans_of s.plans W
        same_plans = ap (λ (u : Scalars). plans_of u.plans X) (sym c) ∙ ap (λ (u : Config). u.plans) e

        pub plan_same : plan_at X k ≡ plan_at W k
        plan_same = plan_stands s.plans W X k d.there same_plans

        pub due_added : Due X t k
        due_added = record {
          whole = sound_added W X s t d.whole p a b room.0 c e;
          next_fits = let z : t.next ≡ s.next + 1 = ap (λ (u : Scalars). u.next) c in omega (arith, room.1);
          there = let z : t.plans ≡ s.plans = ap (λ (u : Scalars). u.plans) c in omega (arith, d.there);
          flags_fit = subst (λ (q : Plan). q.flags ≤ 65535) (sym plan_same) d.flags_fit;
        }

      -- an atom was made and linked
      module _ (p a b : ℕ) (e : config_of X t ≡ add_subgoal (plan_at W k).id p a b (config_of W s)) where
        -- the plans alone
        abbrev bare : Scalars
        bare = counts_put 0 s.plans s

        changed : config_of X bare ≡ change_plan (plan_at W k).id (with_subgoal s.next) (config_of W bare)
        changed = config_path s s.next refl (ap (λ (u : Scalars). plans_of u.plans X) (sym c) ∙ ap (λ (u : Config). u.plans) e) refl

        pub plan_linked : plan_at X k ≡ with_subgoal s.next (plan_at W k)
        plan_linked = plan_after W X bare k (with_subgoal s.next) d.there changed

        pub live_linked : LivePlan X t k
        live_linked =
            let l = due_live.0 in
            let m : LivePlan X bare k = live_after W X bare k (with_subgoal s.next) (λ q. refl) (record { few_atoms = omega arith; few_plans = l.few_plans; there = l.there; rise = l.rise }) changed in
            subst (λ (u : Scalars). LivePlan X u k) (sym c) (record { few_atoms = omega (arith, room.0); few_plans = m.few_plans; there = m.there; rise = m.rise })

        pub flags_linked : (plan_at X k).flags ≤ 65535
        flags_linked = subst (λ (q : Plan). q.flags ≤ 65535) (sym plan_linked) d.flags_fit

pub ruleset stepped = (due_live, sound_stepped, sound_atoms_rise)

pub ruleset linked = (due_live, plan_linked, live_linked, flags_linked)

pub ruleset ready = (whole, flags_fit, cycle_fits, due_there, rows_ordered)
