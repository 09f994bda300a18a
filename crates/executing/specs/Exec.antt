-- What the exec phase asks of the words, and the parts of a step.
use Rattle.std.specs.Prelude.{Bool, List, ℕ, ◌<◌, ◌≤◌, if◌then◌else◌}
use Rattle.model.specs.Configuration.{last_next, scheduled, stepped, without_flag, atom_alive}
use Rattle.model.specs.Log.{done, executed, Log, emit_subgoal, emit_deletion, quiet, report, Outcome, accepted, and_then}
use Rattle.model.specs.Calls.{room_for_atom, set_stepped, succeed, fail}
use Rattle.state.specs.declared.Scalars.{Scalars}
use Rattle.state.specs.View.{plan_at, SoundWords}

-- sixteen flags to a plan
abbrev pub FlagsFit : ℕ → List ℕ → Type 0
FlagsFit n words = (k : ℕ) → k < n → (plan_at words k).flags ≤ 65535

-- "flags 2 and 3 .. are cleared"
abbrev pub cleared : ℕ → ℕ
cleared f = without_flag stepped (without_flag scheduled f)

-- plan k of a sound configuration can be worked on
pub record Due (words : List ℕ) (s : Scalars) (k : ℕ) : Type 0 where
  pub whole : SoundWords words s
  pub next_fits : s.next ≤ last_next
  pub there : k < s.plans
  pub flags_fit : (plan_at words k).flags ≤ 65535

-- "35": of plan k, on the atom t
abbrev pub delete_step : ℕ → ℕ → Log → Outcome
delete_step k t L = if atom_alive L.config t then and_then (succeed k L) (λ M. accepted (emit_deletion t M)) else fail k L

-- "32", "33": of plan k, by whether what it tests holds
abbrev pub tested_step : ℕ → Bool → Log → Outcome
tested_step k holds L = if holds then succeed k L else fail k L

-- "36": of plan k, for p(a, b)
abbrev pub subgoal_step : ℕ → ℕ → ℕ → ℕ → Log → Outcome
subgoal_step k p a b L = room_for_atom L (accepted (report (executed k done) (quiet (set_stepped k) (emit_subgoal k p a b L))))
