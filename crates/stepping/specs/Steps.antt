-- What a step did, in the paper's terms, and what it leaves.
use Rattle.std.specs.Prelude.{◌≡◌, true, List, ℕ, ◌-◌, Result, Ok, Err}
use Rattle.model.specs.declared.refusal.Refusal.{Refusal}
use Rattle.model.specs.Refusals.{number_of}
use Rattle.model.specs.WellFormed.{given_well}
use Rattle.model.specs.Log as Log
use Rattle.program.specs.Rows.{rows_of}
use Rattle.state.specs.declared.Scalars.{Scalars}
use Rattle.state.specs.View.{config_of}
use Rattle.stepping.specs.declared.Made.{Made}
use Rattle.stepping.specs.declared.How.{How}
use Rattle.stepping.specs.declared.Did.{Did}
use Rattle.stepping.specs.declared.Progress.{Progress}

-- "the plan or last atom made, or none"
abbrev pub made_of : Made → Log.Made
made_of Made.Nothing = Log.nothing
made_of (Made.Atom id) = Log.an_atom id
made_of (Made.Plan id) = Log.a_plan id

-- "how: empty, held by its subgoal, done, failed"
abbrev pub how_of : How → Log.How
how_of How.Empty = Log.empty
how_of How.Held = Log.held
how_of How.Done = Log.done
how_of How.Failed = Log.failed

-- "What a step did is one of: fired (set, rule, ..), moved on, executed (plan; how: ..), waits (plan, p, a, b), cycle ended."
abbrev pub did_of : Did → Log.Did
did_of (Did.Fired set rule made) = Log.fired set rule (made_of made)
did_of Did.MovedOn = Log.moved_on
did_of (Did.Executed plan how) = Log.executed plan (how_of how)
did_of (Did.Waits plan p a b) = Log.waits plan p a b
did_of Did.CycleEnded = Log.cycle_ended

-- the answer of a step that began with these scalars and left these words: what it did, or why it is refused
abbrev pub answered_by : Scalars → List ℕ → Result Progress Refusal → Log.Answer
answered_by s words (Ok r) = record { number = 0; did = did_of r.did; config = config_of words r.scalars; made = r.scalars.next - s.next; gone = r.gone }
answered_by s words (Err e) = record { number = number_of e; did = Log.called; config = config_of words s; made = 0; gone = 0 }

-- words that hold a configuration that is well formed with its program
abbrev pub WellWords : List ℕ → List ℕ → Scalars → Type 0
WellWords program words s = given_well (rows_of program) (config_of words s) ≡ true
