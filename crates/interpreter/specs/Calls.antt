-- What a call answers, in the paper's terms.
use Rattle.std.specs.Prelude.{◌≡◌, List, OnOk}
use Rattle.model.specs.declared.Row.{Row}
use Rattle.model.specs.Configuration as Configuration
use Rattle.model.specs.Log.{Log, accepted, Answer, answer_of}
use Rattle.model.specs.Run.{RunOutcome}
use Rattle.model.specs.Claims.{StepObeys}
use Rattle.state.specs.declared.Config.{Config}
use Rattle.state.specs.View.{config_of}
use Rattle.in_place.specs.declared.Counts.{Counts}
use Rattle.in_place.specs.declared.Stepped.{Stepped}
use Rattle.in_place.specs.declared.Ran.{Ran}
use Rattle.in_place.specs.Answers.{answered, step_answered, run_answered}
use Rattle.interpreter.specs.declared.Reply.{Reply}

-- the configuration that a value is
abbrev pub conf : Config → Configuration.Config
conf c = config_of c.words c.scalars

abbrev pub reported : Reply Counts → Answer
reported r = answered (conf r.config) r.answer

abbrev pub step_reported : Reply Stepped → Answer
step_reported r = step_answered (conf r.config) r.answer

-- demand 2 of a step's own answer: accepted, it is that of a work that obeys
unfoldable pub Obeys : List Row → Configuration.Config → Reply Stepped → Type 0
Obeys program c r = OnOk r.answer ((L : Log) × (step_reported r ≡ answer_of c (accepted L)) × StepObeys program c L)

-- refused, or the steps in turn
abbrev pub run_reported : Reply Ran → RunOutcome
run_reported r = run_answered (conf r.config) r.answer
