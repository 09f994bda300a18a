-- Steps in turn: what a run of at most so many steps is, once some of them are taken.
use Rattle.std.specs.Prelude.{if◌then◌else◌, Ok, Err}
use mathlib.Core.Path.{◌≡◌, refl, sym, ap, ◌∙◌, subst}
use mathlib.Core.Bool.{Bool, true, false, not}
use mathlib.Core.Logic.{◌≢◌}
use mathlib.Core.List.{List}
use Prim.Native.Nat.{ℕ, suc, ◌+◌, ◌-◌, ◌≤◌, ◌<◌}
use native.Mathlib.Omega.{arith}
use lib.Dec.{eqb}
use lib.ListN.{length, length-map}
use borrow.Author.Tests.{eq-eqb, ne_eqb}
use Rattle.model.specs.declared.Row.{Row}
use Rattle.model.specs.declared.refusal.Refusal.{Refusal}
use Rattle.model.specs.Refusals.{number_of}
use Rattle.model.specs.declared.Atom.{Atom}
use Rattle.model.specs.Configuration.{Config}
use Rattle.model.specs.Graph.{Graph}
use Rattle.model.specs.Deletion.{node, graph}
use Rattle.model.specs.Events.{changes, all_made, all_gone}
use Rattle.model.specs.WellFormed.{given_well}
use Rattle.model.specs.Log.{Log, Outcome, refused, accepted, Answer, answer_of}
use Rattle.model.specs.Calls.{step}
use Rattle.model.specs.Run.{Stop, at-phase-0, at-waiting, at-limit, next_refused, Run, stopped, and_before, after_step, step_then, steps_of}
use Rattle.model.specs.Claims.{to_step, work}
use Rattle.graph_laws.specs.Faithful.{Faithful}
use Rattle.graph_laws.proofs.After.{after_of}
use Rattle.graph_laws.proofs.Count.{changes_size}
use Rattle.graph_laws.proofs.Faithful.{changes_next}
use Rattle.demands.proofs.Numbers.{Numbered, step_numbered}
use Rattle.demands.proofs.Calls.{Ends, step_ends, keeps_well_formed}
use Rattle.program.specs.Rows.{rows_of}
use Rattle.state.specs.declared.Scalars.{Scalars}
use Rattle.state.specs.View.{config_of}
use Rattle.state.proofs.Live.{atoms_counted, plans_counted}
use Rattle.state.proofs.Room.{numbered}
use Rattle.stepping.proofs.Standing.{shaped, whole as sound}
use Rattle.stepping.specs.declared.Progress.{Progress}
use Rattle.stepping.specs.Steps.{answered_by, WellWords}
use Rattle.running.specs.Running.{InTurn}

-- ONE STEP, from what it answered
module _ (program words words' : List ℕ) (s : Scalars) where
  abbrev P : List Row
  P = rows_of program

  abbrev C : Config
  C = config_of words s

  pub was_refused : (x : Refusal) → answered_by s words' (Err x) ≡ answer_of C (step P C) → step P C ≡ refused (number_of x)
  unfolding answer_of
  was_refused x e = at (step P C) refl e
    where
      at : (o : Outcome) → step P C ≡ o → answered_by s words' (Err x) ≡ answer_of C o → step P C ≡ refused (number_of x)
      at (refused n) d f = d ∙ ap refused (sym (ap (λ (a : Answer). a.number) f))
      at (accepted L) d f = absurd (numbered x (ap (λ (a : Answer). a.number) f))

  module _ (r : Progress) where
    abbrev C' : Config
    C' = config_of words' r.scalars

    -- the log of an accepted step, and what it says of the words
    pub record Took : Type 0 where
      pub log : Log
      pub is : step P C ≡ accepted log
      pub config : log.config ≡ C'
      pub gone : log.gone ≡ r.gone

    pub was_taken : answered_by s words' (Ok r) ≡ answer_of C (step P C) → Took
    unfolding answer_of Numbered
    was_taken e = at (step P C) refl e (step_numbered P C)
      where
        at : (o : Outcome) → step P C ≡ o → answered_by s words' (Ok r) ≡ answer_of C o → Numbered o → Took
        at (refused n) d f h = let m : 0 ≡ n = ap (λ (a : Answer). a.number) f in absurd (omega arith)
        at (accepted L) d f h = record { log = L; is = d; config = sym (ap (λ (a : Answer). a.config) f); gone = sym (ap (λ (a : Answer). a.gone) f) }

    module _ (t : Took) where
      well_after : WellWords program words' r.scalars
      unfolding work
      well_after = subst (λ (d : Config). given_well P d ≡ true) t.config (keeps_well_formed.calls_keep (to_step P) C t.log t.is)

      faithful : Faithful C t.log
      faithful = (after_of (Ends P C) (step_ends P C) t.is).ends.faithful

      -- the next id rises by what is made, and what is made but not gone is alive
      pub next_rises : r.scalars.next ≡ s.next + all_made t.log.events
      next_rises = sym (ap (λ (d : Config). d.next) t.config) ∙ ap (λ (g : Graph). g.next) faithful.turns ∙ changes_next (graph C) t.log.events

      adds_up : r.scalars.atoms + r.scalars.plans + r.gone ≡ s.atoms + s.plans + all_made t.log.events
      adds_up =
          let es = t.log.events in
          let h = changes_size (graph C) es in
          let g : graph C' ≡ changes (graph C) es = ap graph (sym t.config) ∙ faithful.turns in
          let a : length (graph C').atoms ≡ length (changes (graph C) es).atoms = ap (λ (x : Graph). length x.atoms) g in
          let b : length (graph C').plans ≡ length (changes (graph C) es).plans = ap (λ (x : Graph). length x.plans) g in
          let d : length (graph C').atoms ≡ r.scalars.atoms = length-map C'.atoms (λ (x : Atom). x.id) ∙ atoms_counted words' r.scalars in
          let i : length (graph C').plans ≡ r.scalars.plans = length-map C'.plans node ∙ plans_counted words' r.scalars in
          let j : length (graph C).atoms ≡ s.atoms = length-map C.atoms (λ (x : Atom). x.id) ∙ atoms_counted words s in
          let k : length (graph C).plans ≡ s.plans = length-map C.plans node ∙ plans_counted words s in
          let m : r.gone ≡ all_gone (graph C) es = sym t.gone ∙ faithful.gone_is in
          omega arith

-- A RUN
-- t steps with m made and n gone, then the run r
abbrev pub before : ℕ → ℕ → ℕ → Run → Run
before t m n r = record { config = r.config; steps = t + r.steps; made = m + r.made; gone = n + r.gone; stop = r.stop }

module _ (program words₀ : List ℕ) (s₀ : Scalars) (limit : ℕ) where
  abbrev rows : List Row
  rows = rows_of program

  abbrev whole : Run
  whole = steps_of rows limit (config_of words₀ s₀)

  -- after so many steps, with so many made and gone
  pub record Running (words : List ℕ) (s : Scalars) (steps made gone : ℕ) : Type 0 where
    pub turn : InTurn program words s
    pub few : s₀.atoms + s₀.plans ≤ 320
    pub rises : s.next ≡ s₀.next + made
    pub sums : s.atoms + s.plans + gone ≡ s₀.atoms + s₀.plans + made
    pub is : whole ≡ before steps made gone (steps_of rows (limit - steps) (config_of words s))

  none_before : (r : Run) → r ≡ before 0 0 0 r
  none_before r =
      let x : r.steps ≡ 0 + r.steps = omega arith in
      let y : r.made ≡ 0 + r.made = omega arith in
      let z : r.gone ≡ 0 + r.gone = omega arith in
      λ i. record { config = r.config; steps = x i; made = y i; gone = z i; stop = r.stop }

  pub running_first : InTurn program words₀ s₀ → Running words₀ s₀ 0 0 0
  running_first t = record {
    turn = t;
    few = let h = sound program words₀ s₀ t.well in omega (arith, h.few_atoms, h.few_plans);
    rises = omega arith;
    sums = omega arith;
    is = ap (λ (n : ℕ). steps_of rows n (config_of words₀ s₀)) (let e : limit ≡ limit - 0 = omega arith in e) ∙ none_before (steps_of rows (limit - 0) (config_of words₀ s₀));
  }

  -- a run that stops where it is
  stops : (words : List ℕ) (s : Scalars) (steps made gone : ℕ) (w : Stop) (r : Run) → whole ≡ before steps made gone r → r ≡ stopped (config_of words s) w →
      record { config = config_of words s; steps = steps; made = made; gone = gone; stop = w } ≡ whole
  unfolding stopped
  stops words s steps made gone w r e f =
      let x : steps ≡ steps + 0 = omega arith in
      let y : made ≡ made + 0 = omega arith in
      let z : gone ≡ gone + 0 = omega arith in
      (λ i. record { config = config_of words s; steps = x i; made = y i; gone = z i; stop = w }) ∙ sym (e ∙ ap (before steps made gone) f)

  module _ (words : List ℕ) (s : Scalars) (steps made gone : ℕ) (w : Running words s steps made gone) where
    abbrev here : Config
    here = config_of words s

    pub at_end : steps ≡ limit → record { config = config_of words s; steps = limit; made = made; gone = gone; stop = at-limit } ≡ whole
    unfolding steps_of
    at_end h =
        ap (λ (n : ℕ). record { config = config_of words s; steps = n; made = made; gone = gone; stop = at-limit }) (sym h)
        ∙ stops words s steps made gone at-limit _ w.is (ap (λ (n : ℕ). steps_of rows n here) (let e : limit - steps ≡ 0 = omega arith in e))

    module _ (h : steps < limit) (words' : List ℕ) where
      one_more : steps_of rows (limit - steps) here ≡ step_then here (steps_of rows (limit - (steps + 1))) (step rows here)
      unfolding steps_of
      one_more = ap (λ (n : ℕ). steps_of rows n here) (let e : limit - steps ≡ suc (limit - (steps + 1)) = omega arith in e)

      -- the step is refused
      pub at_refusal : (x : Refusal) → answered_by s words' (Err x) ≡ answer_of here (step rows here) → words' ≡ words →
          record { config = config_of words' s; steps = steps; made = made; gone = gone; stop = next_refused (number_of x) } ≡ whole
      unfolding step_then
      at_refusal x e same =
          ap (λ (l : List ℕ). record { config = config_of l s; steps = steps; made = made; gone = gone; stop = next_refused (number_of x) }) same
          ∙ stops words s steps made gone (next_refused (number_of x)) _ w.is (one_more ∙ ap (step_then here (steps_of rows (limit - (steps + 1)))) (was_refused program words words' s x e))

      -- the step was taken
      module _ (r : Progress) (e : answered_by s words' (Ok r) ≡ answer_of here (step rows here)) where
        abbrev t : Took program words words' s r
        t = was_taken program words words' s r e

        abbrev there : Config
        there = config_of words' r.scalars

        abbrev rest : Run
        rest = after_step there (steps_of rows (limit - (steps + 1)))

        abbrev more : ℕ
        more = r.scalars.next - s.next

        -- what the sums need to fit
        pub next_fits : s.next ≤ r.scalars.next
        next_fits = let h = next_rises program words words' s r t in omega arith

        pub made_fits : made + more ≤ 65536
        made_fits =
            let h = next_rises program words words' s r t in
            let n = (shaped program words' r.scalars (well_after program words words' s r t)).next_fits in
            omega (arith, w.rises)

        pub gone_fits : gone + r.gone ≤ 66000
        gone_fits =
            let h = next_rises program words words' s r t in
            let d = adds_up program words words' s r t in
            let n = (shaped program words' r.scalars (well_after program words words' s r t)).next_fits in
            omega (arith, w.rises, w.sums, w.few)

        onward : whole ≡ before (steps + 1) (made + more) (gone + r.gone) rest
        unfolding step_then and_before
        onward =
            w.is ∙ ap (before steps made gone) (one_more ∙ ap (step_then here (steps_of rows (limit - (steps + 1)))) t.is ∙ same t.log.config t.log.gone t.config t.gone) ∙ joined
          where
            same : (d : Config) (g : ℕ) → d ≡ there → g ≡ r.gone →
                ◌≡◌ {A = Run} (record { config = (after_step d (steps_of rows (limit - (steps + 1)))).config; steps = suc (after_step d (steps_of rows (limit - (steps + 1)))).steps; made = (d.next - s.next) + (after_step d (steps_of rows (limit - (steps + 1)))).made; gone = g + (after_step d (steps_of rows (limit - (steps + 1)))).gone; stop = (after_step d (steps_of rows (limit - (steps + 1)))).stop })
                (record { config = rest.config; steps = suc rest.steps; made = more + rest.made; gone = r.gone + rest.gone; stop = rest.stop })
            same d g p q = λ i. record { config = (after_step (p i) (steps_of rows (limit - (steps + 1)))).config; steps = suc (after_step (p i) (steps_of rows (limit - (steps + 1)))).steps; made = ((p i).next - s.next) + (after_step (p i) (steps_of rows (limit - (steps + 1)))).made; gone = q i + (after_step (p i) (steps_of rows (limit - (steps + 1)))).gone; stop = (after_step (p i) (steps_of rows (limit - (steps + 1)))).stop }

            joined : ◌≡◌ {A = Run} (record { config = rest.config; steps = steps + suc rest.steps; made = made + (more + rest.made); gone = gone + (r.gone + rest.gone); stop = rest.stop })
                (before (steps + 1) (made + more) (gone + r.gone) rest)
            joined =
                let x : steps + suc rest.steps ≡ (steps + 1) + rest.steps = omega arith in
                let y : made + (more + rest.made) ≡ (made + more) + rest.made = omega arith in
                let z : gone + (r.gone + rest.gone) ≡ (gone + r.gone) + rest.gone = omega arith in
                λ i. record { config = rest.config; steps = x i; made = y i; gone = z i; stop = rest.stop }

        pub at_phase_zero : r.scalars.phase ≡ 0 → record { config = there; steps = steps + 1; made = made + more; gone = gone + r.gone; stop = at-phase-0 } ≡ whole
        unfolding after_step
        at_phase_zero z = stops words' r.scalars (steps + 1) (made + more) (gone + r.gone) at-phase-0 rest onward
            (ap (λ (b : Bool). if b then stopped there at-phase-0 else if not (eqb r.scalars.waiting 0) then stopped there at-waiting else steps_of rows (limit - (steps + 1)) there) (eq-eqb r.scalars.phase 0 z))

        module _ (z : r.scalars.phase ≢ 0) where
          goes_on : (b : Bool) → eqb r.scalars.waiting 0 ≡ b → rest ≡ (if not b then stopped there at-waiting else steps_of rows (limit - (steps + 1)) there)
          unfolding after_step
          goes_on b f =
              ap (λ (b : Bool). if b then stopped there at-phase-0 else if not (eqb r.scalars.waiting 0) then stopped there at-waiting else steps_of rows (limit - (steps + 1)) there) (ne_eqb r.scalars.phase 0 z)
              ∙ ap (λ (b : Bool). if not b then stopped there at-waiting else steps_of rows (limit - (steps + 1)) there) f

          pub at_wait : r.scalars.waiting ≢ 0 → record { config = there; steps = steps + 1; made = made + more; gone = gone + r.gone; stop = at-waiting } ≡ whole
          at_wait y = stops words' r.scalars (steps + 1) (made + more) (gone + r.gone) at-waiting rest onward (goes_on false (ne_eqb r.scalars.waiting 0 y))

          pub running_next : r.scalars.waiting ≡ 0 → Running words' r.scalars (steps + 1) (made + more) (gone + r.gone)
          running_next y = record {
            turn = record { well = well_after program words words' s r t; outside = z; idle = y };
            few = w.few;
            rises = let a = next_rises program words words' s r t in omega (arith, w.rises);
            sums = let a = next_rises program words words' s r t in let b = adds_up program words words' s r t in omega (arith, w.sums, w.rises);
            is = onward ∙ ap (before (steps + 1) (made + more) (gone + r.gone)) (goes_on true (eq-eqb r.scalars.waiting 0 y));
          }
