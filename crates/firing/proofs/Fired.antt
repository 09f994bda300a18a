-- The choice of the rule, and what the model makes of it.
use Rattle.std.specs.Prelude.{if◌then◌else◌, Ok}
use mathlib.Core.Path.{◌≡◌, refl, sym, ap, ◌∙◌, subst}
use mathlib.Core.Bool.{Bool, true, false}
use mathlib.Core.List.{List, [], ◌∷◌}
use Prim.Native.Nat.{ℕ, ◌+◌, ◌-◌}
use native.Mathlib.Omega.{arith}
use lib.ListN.{length}
use Rattle.lists.specs.Lists.{In, first}
use Rattle.lists.proofs.Counted.{counted_long}
use Rattle.model.specs.declared.Row.{Row}
use Rattle.model.specs.Program.{body, is_object}
use Rattle.model.specs.Configuration.{Config}
use Rattle.model.specs.Matching.{Found, justifications_of, rule_matches, Firing, firing}
use Rattle.model.specs.Log.{a_plan, fired, begin, report, emit_plan, Outcome, accepted, answer_of}
use Rattle.model.specs.Calls.{room_for_plan, fire_object, fire, fire_first}
use Rattle.program.specs.Rows.{row_at, rows_of}
use Rattle.demands.proofs.Fire.{firing_matches, fits}
use Rattle.state.specs.declared.Scalars.{Scalars}
use Rattle.state.specs.View.{config_of, phase_put}
use Rattle.state.proofs.Live.{sound_atoms_rise, sound_plans_rise}
use Rattle.queries.specs.View.{found_of, Limits}
use Rattle.matching.specs.declared.Choice.{Choice}
use Rattle.matching.specs.Rules.{rows_between, choice_of, Chosen}
use Rattle.stepping.specs.declared.Did.TheVariants.{MovedOn}
use Rattle.stepping.specs.Steps.{answered_by, WellWords}
use Rattle.stepping.proofs.Standing.{lawful_rows, sound_graph, shaped, whole, flags_fit}
use Rattle.firing.specs.Raising.{raised, Raises}
use Rattle.acting.specs.Actions.{Fires, meta_work}
use Rattle.lists.proofs.RisingSet.{rising_set_in}

justified_in : (f : Found) (j : ℕ) → In j (justifications_of f) → In j f.matched
unfolding justifications_of
justified_in f j i = rising_set_in f.matched j i

-- the queries can work on a well-formed configuration
pub well_limits : (program words : List ℕ) (s : Scalars) → WellWords program words s → Limits words s
well_limits program words s w =
    let h = whole program words s w in
    record { atoms = h.few_atoms; plans = h.few_plans; flags = flags_fit program words s w; atoms_rise = sound_atoms_rise words s h.sound; plans_rise = sound_plans_rise words s h.sound }

module _ (program words : List ℕ) (s : Scalars) where
  abbrev P : List Row
  P = rows_of program

  abbrev C : Config
  C = config_of words s

  -- no rule has a match
  pub moved : [] ≡ firing P C s.phase → (s' : Scalars) → s' ≡ phase_put (s.phase + 1) s →
      answered_by s words (Ok (record { scalars = s'; gone = 0; did = MovedOn })) ≡ answer_of C (fire_first P C (firing P C s.phase))
  unfolding fire_first answer_of
  moved is s' e = ap (λ (t : Scalars). answered_by s words (Ok (record { scalars = t; gone = 0; did = MovedOn }))) e ∙ ap (λ (l : List Firing). answer_of C (fire_first P C l)) is

  module _ (x : Choice) (is : choice_of x ∷ [] ≡ firing P C s.phase) (h : Chosen program s.phase x) where
    abbrev n : ℕ
    n = x.rule.number

    abbrev chosen : Firing
    chosen = record { rule = n; match = found_of x.bindings }

    matched : In (found_of x.bindings) (rule_matches P C x.rule.set n)
    matched = subst (λ (t : ℕ). In (found_of x.bindings) (rule_matches P C t n)) (sym h.set_is) (firing_matches P C s.phase chosen (subst (In chosen) is (first refl)))

    body_long : length (body P x.rule.set n) ≡ x.rule.end - x.rule.body
    unfolding rows_between
    body_long = ap length (sym h.located.body_is) ∙ counted_long (row_at program) x.rule.body (x.rule.end - x.rule.body)

    -- the firing, in terms of the set that the rule names
    fires_as : (o : Outcome) → o ≡ fire P x.rule.set chosen (begin C) → o ≡ fire_first P C (firing P C s.phase)
    unfolding fire_first
    fires_as o e = e ∙ ap (λ (t : ℕ). fire P t chosen (begin C)) h.set_is ∙ ap (fire_first P C) is

    is_raised : is_object P x.rule.set n ≡ true → raised x (begin C) ≡ fire P x.rule.set chosen (begin C)
    unfolding raised fire fire_object meta_work
    is_raised e = ap (raise_with) (sym body_long) ∙ ap (λ (b : Bool). if b then raise_with (length (body P x.rule.set n)) else meta_work program C x.rule x.bindings.values) (sym e)
      where
        raise_with : ℕ → Outcome
        raise_with left = room_for_plan (begin C) (accepted (report (fired x.rule.set n (a_plan s.next)) (emit_plan x.rule.set n x.bindings.values left (found_of x.bindings).matched (begin C))))

    is_acted : is_object P x.rule.set n ≡ false → meta_work program C x.rule x.bindings.values ≡ fire P x.rule.set chosen (begin C)
    unfolding meta_work fire
    is_acted e = ap (λ (b : Bool). if b then fire_object P x.rule.set n (found_of x.bindings) (begin C) else meta_work program C x.rule x.bindings.values) (sym e)

    pub object_fires : x.rule.object ≡ true → raised x (begin C) ≡ fire_first P C (firing P C s.phase)
    object_fires o = fires_as (raised x (begin C)) (is_raised (sym h.located.object_is ∙ o))

    pub meta_fires : x.rule.object ≡ false → meta_work program C x.rule x.bindings.values ≡ fire_first P C (firing P C s.phase)
    meta_fires o = fires_as (meta_work program C x.rule x.bindings.values) (is_acted (sym h.located.object_is ∙ o))

    module _ (w : WellWords program words s) (z : s.waiting ≡ 0) where
      pub raises : x.rule.object ≡ true → Raises words s x
      raises o =
          let l = lawful_rows program words s w in
          let d = fits P C l (sound_graph program words s w) (shaped program words s w) z x.rule.set n (found_of x.bindings) matched (sym h.located.object_is ∙ o) in
          record {
            whole = whole program words s w;
            next_fits = (shaped program words s w).next_fits;
            few = h.few;
            ordered = h.located.ordered;
            short = let b = body_long in let m = l.short_body x.rule.set n in omega arith;
            ids = λ j i e. let g = ((sound_graph program words s w).atom_given j (d.3 j (justified_in (found_of x.bindings) j i))).0 in omega arith;
          }

      pub acts : x.rule.object ≡ false → Fires program words s x.rule
      acts o = record { well = w; located = h.located; meta = o }
