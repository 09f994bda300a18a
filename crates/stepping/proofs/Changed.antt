-- A live plan that was changed is still one.
use Rattle.std.specs.Prelude.{if◌then◌else◌}
use mathlib.Core.Path.{◌≡◌, refl, sym, ap, ◌∙◌, subst}
use mathlib.Core.Bool.{Bool, true, false}
use mathlib.Core.List.{List, map}
use Prim.Native.Nat.{ℕ, ◌<◌, ◌≤◌}
use native.Mathlib.Omega.{arith}
use lib.Dec.{eqb}
use Rattle.lists.specs.Lists.{Pairs}
use Rattle.lists.specs.Tables.{tabulate}
use Rattle.lists.proofs.Lists.{pairs_map}
use Rattle.lists.proofs.Tests.{map_pairs}
use Rattle.lists.proofs.Bind.{map_same}
use Rattle.model.specs.Configuration.{Plan, Config, with_flag, with_flags, at_plan, change_plan, step_removed}
use Rattle.model.specs.Calls.{set_stepped, set_failed, remove_step}
use Rattle.demands.proofs.Flags.{with_flag_fits}
use Rattle.state.specs.declared.Scalars.{Scalars}
use Rattle.state.specs.View.{plan_at, config_of, LivePlan}
use Rattle.state.proofs.Live.{plan_after}

module _ (words words' : List ℕ) (s : Scalars) (k : ℕ) (f : Plan → Plan) (same : (q : Plan) → (f q).id ≡ q.id) (l : LivePlan words s k)
    (e : config_of words' s ≡ change_plan (plan_at words k).id f (config_of words s)) where
  plans : tabulate s.plans (plan_at words') ≡ map (at_plan (plan_at words k).id f) (tabulate s.plans (plan_at words))
  plans = ap (λ (c : Config). c.plans) e

  kept_id : (q : Plan) → (at_plan (plan_at words k).id f q).id ≡ q.id
  kept_id q = at (eqb q.id (plan_at words k).id)
    where
      at : (b : Bool) → (if b then f q else q).id ≡ q.id
      at true = same q
      at false = refl

  pub live_after : LivePlan words' s k
  live_after = record {
    few_atoms = l.few_atoms;
    few_plans = l.few_plans;
    there = l.there;
    rise = subst (Pairs (λ (p q : Plan). p.id < q.id)) (sym plans) (pairs_map (λ (p q : Plan). p.id < q.id) (at_plan (plan_at words k).id f) (tabulate s.plans (plan_at words)) (weaken (tabulate s.plans (plan_at words)) l.rise));
  }
    where
      weaken : (ps : List Plan) → Pairs (λ (p q : Plan). p.id < q.id) ps → Pairs (λ (p q : Plan). (at_plan (plan_at words k).id f p).id < (at_plan (plan_at words k).id f q).id) ps
      weaken ps h = map_pairs (λ (x y : ℕ). x < y) (λ (q : Plan). (at_plan (plan_at words k).id f q).id) ps
          (subst (Pairs (λ (x y : ℕ). x < y)) (sym (map_same (λ (q : Plan). (at_plan (plan_at words k).id f q).id) (λ (q : Plan). q.id) ps kept_id)) (pairs_map (λ (x y : ℕ). x < y) (λ (q : Plan). q.id) ps h))

-- what can be flagged then, and what it is with stepped set
module _ (words words' : List ℕ) (s : Scalars) (k : ℕ) (l : LivePlan words s k) (fit : (plan_at words k).flags ≤ 65535) where
  pub ready_removed : config_of words' s ≡ change_plan (plan_at words k).id step_removed (config_of words s) → LivePlan words' s k × ((plan_at words' k).flags ≤ 65535)
  ready_removed e = (live_after words words' s k step_removed (λ q. refl) l e, subst (λ (q : Plan). q.flags ≤ 65535) (sym (plan_after words words' s k step_removed l.there e)) fit)

  pub ready_failed : config_of words' s ≡ change_plan (plan_at words k).id (with_flags (with_flag 4)) (config_of words s) → LivePlan words' s k × ((plan_at words' k).flags ≤ 65535)
  ready_failed e = (
    live_after words words' s k (with_flags (with_flag 4)) (λ q. refl) l e,
    subst (λ (q : Plan). q.flags ≤ 65535) (sym (plan_after words words' s k (with_flags (with_flag 4)) l.there e)) (with_flag_fits 4 _ (omega arith) (omega arith) fit),
  )

module _ (words words' words'' : List ℕ) (s : Scalars) (k : ℕ) (l : LivePlan words s k) where
  stepped_after : (f : Plan → Plan) → ((q : Plan) → (f q).id ≡ q.id) → config_of words' s ≡ change_plan (plan_at words k).id f (config_of words s) →
      config_of words'' s ≡ change_plan (plan_at words' k).id (with_flags (with_flag 3)) (config_of words' s) → config_of words'' s ≡ set_stepped (plan_at words k).id (change_plan (plan_at words k).id f (config_of words s))
  stepped_after f same e g =
      let d : (plan_at words' k).id ≡ (plan_at words k).id = ap (λ (q : Plan). q.id) (plan_after words words' s k f l.there e) ∙ same (plan_at words k) in
      g ∙ ap (λ (n : ℕ). set_stepped n (config_of words' s)) d ∙ ap (set_stepped (plan_at words k).id) e

  pub succeeded : config_of words' s ≡ change_plan (plan_at words k).id step_removed (config_of words s) → config_of words'' s ≡ change_plan (plan_at words' k).id (with_flags (with_flag 3)) (config_of words' s) →
      config_of words'' s ≡ set_stepped (plan_at words k).id (remove_step (plan_at words k).id (config_of words s))
  succeeded = stepped_after step_removed (λ q. refl)

  pub failed : config_of words' s ≡ change_plan (plan_at words k).id (with_flags (with_flag 4)) (config_of words s) → config_of words'' s ≡ change_plan (plan_at words' k).id (with_flags (with_flag 3)) (config_of words' s) →
      config_of words'' s ≡ set_stepped (plan_at words k).id (set_failed (plan_at words k).id (config_of words s))
  failed = stepped_after (with_flags (with_flag 4)) (λ q. refl)
