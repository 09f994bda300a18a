-- A call's answer as a list of calls has it; demand 2 of a step's answer.
use Rattle.std.specs.Prelude.{Result, Ok, Err}
use mathlib.Core.Path.{◌≡◌, refl, ap, ◌∙◌}
use mathlib.Core.List.{List}
use native.Mathlib.Omega.{arith}
use Rattle.model.specs.declared.Row.{Row}
use Rattle.model.specs.declared.refusal.Refusal.{Refusal}
use Rattle.model.specs.Configuration as Configuration
use Rattle.model.specs.Log.{Log, Outcome, refused, accepted, Answer, answer_of}
use Rattle.model.specs.Calls.{step}
use Rattle.model.specs.Claims.{to_step, work, reply, StepObeys}
use Rattle.demands.proofs.Numbers.{Numbered, step_numbered}
use Rattle.demands.proofs.DemandTwo.{demand_two}
use Rattle.state.specs.declared.Config.{Config}
use Rattle.in_place.specs.declared.Counts.{Counts}
use Rattle.in_place.specs.declared.Stepped.{Stepped}
use Rattle.in_place.specs.Answers.{answered, step_answered}
use Rattle.interpreter.specs.Calls.{conf, Obeys}
use Rattle.interpreter.specs.Playing.{call_answer}

-- the answer of a call that is no step, as a list of calls has it
pub plain : (c : Configuration.Config) (r : Result Counts Refusal) (a : Answer) → answered c r ≡ a → answered c r ≡ call_answer a
plain c (Ok t) a e = ap call_answer e
plain c (Err x) a e = ap call_answer e

-- an accepted step's answer is that of the work which demand 2 speaks of
pub obeys : (program : List Row) (c : Configuration.Config) (d : Config) (r : Result Stepped Refusal) → step_answered (conf d) r ≡ reply (to_step program) c →
    Obeys program c (record { config = d; answer = r })
unfolding Obeys work answer_of Numbered
obeys program c d (Err x) e = tt
obeys program c d (Ok t) e = at (step program c) refl (step_numbered program c)
  where
    at : (o : Outcome) → step program c ≡ o → Numbered o → (L : Log) × (step_answered (conf d) (Ok t) ≡ answer_of c (accepted L)) × StepObeys program c L
    at (refused n) q h = let m = ap (λ (a : Answer). a.number) (e ∙ ap (answer_of c) q) in absurd (omega arith)
    at (accepted L) q h = (L, e ∙ ap (answer_of c) q, demand_two.of_steps program c L q)
