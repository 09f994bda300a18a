-- A plan raised, and a refusal, as the model answers them.
use Rattle.std.specs.Prelude.{Ok, Err}
use mathlib.Core.Path.{◌≡◌, refl, ap, ◌∙◌, subst}
use mathlib.Core.List.{List}
use Prim.Native.Nat.{ℕ, ◌-◌}
use lib.ListN.{take}
use Rattle.lists.specs.Lists.{In, rising_set}
use Rattle.lists.specs.Tables.{trimmed}
use Rattle.model.specs.declared.refusal.Refusal.{Refusal}
use Rattle.model.specs.Refusals.{number_of}
use Rattle.model.specs.Configuration.{Config, add_plan}
use Rattle.model.specs.Matching.{justifications_of}
use Rattle.model.specs.Log.{begin, answer_of, fired, a_plan}
use Rattle.state.specs.declared.Scalars.{Scalars}
use Rattle.state.specs.View.{config_of, plan_bar}
use Rattle.state.proofs.Room.{plans_of_bar}
use Rattle.queries.specs.View.{found_of}
use Rattle.matching.specs.declared.Choice.{Choice}
use Rattle.matching.specs.declared.Ids.{Ids}
use Rattle.matching.specs.Rules.{ids_of, Padded}
use Rattle.matching.proofs.Plans.{ids_trimmed}
use Rattle.stepping.specs.declared.Did.TheVariants.{Fired}
use Rattle.stepping.specs.declared.Made.TheVariants.{Plan}
use Rattle.stepping.specs.Steps.{answered_by}
use Rattle.stepping.proofs.Room.{plan_barred, plan_free}
use Rattle.stepping.proofs.Answers.{answers_refused, answers}
use Rattle.firing.specs.Raising.{raised, Raises}

module _ (words : List ℕ) (s : Scalars) (x : Choice) where
  abbrev C : Config
  C = config_of words s

  pub raised_barred : (e : Refusal) → plan_bar s.next s.plans ≡ number_of e → answered_by s words (Err e) ≡ answer_of C (raised x (begin C))
  unfolding raised
  raised_barred e b = answers_refused words s e _ (plan_barred (begin C) _ e (plans_of_bar words s ∙ b))

  -- the ids as a plan holds them
  pub ids_raised : Raises words s x → (l : Ids) → Padded l → ids_of l ≡ rising_set (take x.bindings.count x.bindings.matched) → trimmed l.ids ≡ justifications_of (found_of x.bindings)
  unfolding justifications_of
  ids_raised w l p e = ids_trimmed l p (λ j i. w.ids j (subst (In j) e i)) ∙ e

  pub raised_done : plan_bar s.next s.plans ≡ 0 → (words' : List ℕ) (s' : Scalars) (js : List ℕ) → js ≡ justifications_of (found_of x.bindings) →
      config_of words' s' ≡ add_plan x.rule.set x.rule.number x.bindings.values (x.rule.end - x.rule.body) js C →
      answered_by s words' (Ok (record { scalars = s'; gone = 0; did = Fired x.rule.set x.rule.number (Plan s.next) })) ≡ answer_of C (raised x (begin C))
  unfolding raised justifications_of
  raised_done b words' s' js f e =
      let d : config_of words' s' ≡ add_plan x.rule.set x.rule.number x.bindings.values (x.rule.end - x.rule.body) (justifications_of (found_of x.bindings)) C =
      e ∙ ap (λ (m : List ℕ). add_plan x.rule.set x.rule.number x.bindings.values (x.rule.end - x.rule.body) m C) f in
      answers C words' s' 0 (fired x.rule.set x.rule.number (a_plan s.next)) _ _ (plan_free (begin C) _ (plans_of_bar words s ∙ b)) refl d refl
