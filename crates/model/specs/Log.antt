-- A call at work. Instances and links change by `emit-..` alone, which notes the event; all else is `quiet`.
use Rattle.std.specs.Prelude.{List, [], ◌∷◌, ◌++◌, Bool, true, false, ℕ, ◌+◌, ◌-◌}
use Rattle.lists.specs.Lists.{rising_set}
use Rattle.model.specs.Configuration.{Config, add_atom, add_plan, add_subgoal}
use Rattle.model.specs.Deletion.{graph, remove}
use Rattle.model.specs.Events.{Event, atom_made, plan_made, subgoal_made, deletion, gone_by}

-- "fired (set, rule, the plan or last atom made, or none)"
pub data Made : Type 0 where
  nothing : Made
  an_atom : ℕ → Made
  a_plan : ℕ → Made

-- "executed (plan; how: empty, held by its subgoal, done, failed)"
pub data How : Type 0 where
  empty held done failed : How

-- "What a step did is one of: fired (set, rule, ..), moved on, executed (plan; how: ..), waits (plan, p, a, b), cycle ended."
pub data Did : Type 0 where
  fired : ℕ → ℕ → Made → Did
  moved_on : Did
  executed : ℕ → How → Did
  waits : ℕ → ℕ → ℕ → ℕ → Did
  cycle_ended : Did
  -- any call but a step
  called : Did

-- the configuration so far, the events so far, how many instances are gone so far, what was done
pub record Log : Type 0 where
  pub config : Config
  pub events : List Event
  pub gone : ℕ
  pub did : Did

abbrev pub begin : Config → Log
begin c = record { config = c; events = []; gone = 0; did = called }

abbrev pub emit : Log → Config → Event → Log
emit L c e = record { config = c; events = L.events ++ (e ∷ []); gone = L.gone + gone_by (graph L.config) e; did = L.did }

abbrev pub emit_atom : ℕ → ℕ → ℕ → Log → Log
emit_atom p a b L = emit L (add_atom p a b L.config) atom_made

abbrev pub emit_plan : ℕ → ℕ → List ℕ → ℕ → List ℕ → Log → Log
emit_plan s n values left ms L = emit L (add_plan s n values left (rising_set ms) L.config) (plan_made ms)

abbrev pub emit_subgoal : ℕ → ℕ → ℕ → ℕ → Log → Log
emit_subgoal k p a b L = emit L (add_subgoal k p a b L.config) (subgoal_made k)

abbrev pub emit_deletion : ℕ → Log → Log
emit_deletion t L = emit L (remove t L.config) (deletion t)

-- flags, phase, cycle, remainder, waiting: a change that leaves the graph as it was
abbrev pub quiet : (Config → Config) → Log → Log
quiet f L = record { config = f L.config; events = L.events; gone = L.gone; did = L.did }

abbrev pub report : Did → Log → Log
report d L = record { config = L.config; events = L.events; gone = L.gone; did = d }

-- a call's work: refused, or done
pub data Outcome : Type 0 where
  refused : ℕ → Outcome
  accepted : Log → Outcome

-- one work after another; a refusal ends it
unfoldable pub and_then : Outcome → (Log → Outcome) → Outcome
and_then (refused n) f = refused n
and_then (accepted L) f = f L

-- refused with n where the test holds
unfoldable pub unless : Bool → ℕ → Outcome → Outcome
unless true n o = refused n
unless false n o = o

-- what a call gives: the refusal's number or 0, what was done, "the next configuration, `made` and `gone`"
pub record Answer : Type 0 where
  pub number : ℕ
  pub did : Did
  pub config : Config
  pub made : ℕ
  pub gone : ℕ

-- "`made` is the rise of next id"; "a refused call undoes its earlier part and reports made 0, gone 0"
unfoldable pub answer_of : Config → Outcome → Answer
answer_of c (refused n) = record { number = n; did = called; config = c; made = 0; gone = 0 }
answer_of c (accepted L) = record { number = 0; did = L.did; config = L.config; made = L.config.next - c.next; gone = L.gone }

-- what a call tells the journal: "a refused call, writes nothing"
unfoldable pub events_of : Outcome → List Event
events_of (refused n) = []
events_of (accepted L) = L.events

unfoldable pub opened : Unit {0}
unfolding and_then unless answer_of events_of
opened = tt
