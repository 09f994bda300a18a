-- What a call answers, in the paper's terms: the refusal, or what it tells, with the configuration that it left.
use Rattle.std.specs.Prelude.{◌≡◌, Bool, true, false, Result, Ok, Err, MatchResult}
use Rattle.model.specs.declared.refusal.Refusal.{Refusal}
use Rattle.model.specs.Refusals.{number_of}
use Rattle.model.specs.Configuration.{Config}
use Rattle.model.specs.Log.{Answer, called}
use Rattle.model.specs.Run.{RunOutcome, run_refused, ran}
use Rattle.stepping.specs.Steps.{did_of}
use Rattle.running.specs.Running.{stop_of}
use Rattle.in_place.specs.declared.Counts.{Counts}
use Rattle.in_place.specs.declared.Stepped.{Stepped}
use Rattle.in_place.specs.declared.Ran.{Ran}

-- "a refused call .. reports made 0, gone 0"
abbrev pub refused_with : Config → Refusal → Answer
refused_with c e = record { number = number_of e; did = called; config = c; made = 0; gone = 0 }

abbrev pub answered : Config → Result Counts Refusal → Answer
answered c (Ok t) = record { number = 0; did = called; config = c; made = t.made; gone = t.gone }
answered c (Err e) = refused_with c e

abbrev pub step_answered : Config → Result Stepped Refusal → Answer
step_answered c (Ok t) = record { number = 0; did = did_of t.did; config = c; made = t.made; gone = t.gone }
step_answered c (Err e) = refused_with c e

-- refused, or the steps in turn
abbrev pub run_answered : Config → Result Ran Refusal → RunOutcome
run_answered c (Ok t) = ran (record { config = c; steps = t.steps; made = t.made; gone = t.gone; stop = stop_of t.stop })
run_answered c (Err e) = run_refused (number_of e)

-- a test that is passed, or says that the pair is not well formed
abbrev pub TestedBy : {A : Type 0} → Bool → Result A Refusal → Type 0
TestedBy b r = MatchResult r (λ _. b ≡ true) (λ e. (b ≡ false) × (number_of e ≡ 1))
