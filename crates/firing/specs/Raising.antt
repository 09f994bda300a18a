-- A plan raised by an object rule.
use Rattle.std.specs.Prelude.{◌≢◌, List, ℕ, ◌-◌, ◌≤◌}
use Rattle.lists.specs.Lists.{In}
use Rattle.model.specs.Configuration.{last_next}
use Rattle.model.specs.Matching.{justifications_of}
use Rattle.model.specs.Log.{a_plan, fired, Log, emit_plan, report, Outcome, accepted}
use Rattle.model.specs.Calls.{room_for_plan}
use Rattle.state.specs.declared.Scalars.{Scalars}
use Rattle.state.specs.View.{SoundWords}
use Rattle.queries.specs.View.{found_of}
use Rattle.matching.specs.declared.Choice.{Choice}

-- "An object rule makes a plan with no flags", whose remainder is the whole body
unfoldable pub raised : Choice → Log → Outcome
raised x L =
    room_for_plan L (accepted (report (fired x.rule.set x.rule.number (a_plan L.config.next))
    (emit_plan x.rule.set x.rule.number x.bindings.values (x.rule.end - x.rule.body) (found_of x.bindings).matched L)))

-- the choice can be raised: four ids at most, none of them 0, a body that a rule may have
pub record Raises (words : List ℕ) (s : Scalars) (x : Choice) : Type 0 where
  pub whole : SoundWords words s
  pub next_fits : s.next ≤ last_next
  pub few : x.bindings.count ≤ 4
  pub ordered : x.rule.body ≤ x.rule.end
  pub short : x.rule.end - x.rule.body ≤ 8
  pub ids : (j : ℕ) → In j (justifications_of (found_of x.bindings)) → j ≢ 0
