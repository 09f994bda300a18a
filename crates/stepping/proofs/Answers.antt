-- What a step leaves, against the answer of the model's work.
use Rattle.std.specs.Prelude.{Err}
use mathlib.Core.Path.{◌≡◌, sym, ap, ◌∙◌}
use mathlib.Core.List.{List}
use Prim.Native.Nat.{ℕ, ◌-◌}
use Rattle.model.specs.declared.refusal.Refusal.{Refusal}
use Rattle.model.specs.Refusals.{number_of}
use Rattle.model.specs.Configuration.{Config}
use Rattle.model.specs.Log as Log
use Rattle.model.specs.Log.{Log, Outcome, refused, accepted, answer_of, Answer}
use Rattle.state.specs.declared.Scalars.{Scalars}
use Rattle.state.specs.View.{config_of}
use Rattle.stepping.specs.Steps.{answered_by}

-- refused, and nothing was written
pub answers_refused : (words : List ℕ) (s : Scalars) (e : Refusal) (o : Outcome) → o ≡ refused (number_of e) → answered_by s words (Err e) ≡ answer_of (config_of words s) o
unfolding answer_of
answers_refused words s e o f = ap (answer_of (config_of words s)) (sym f)

-- done
pub answers : (c : Config) (words : List ℕ) (s : Scalars) (gone : ℕ) (d : Log.Did) (o : Outcome) (L : Log) → o ≡ accepted L → d ≡ L.did → config_of words s ≡ L.config → gone ≡ L.gone →
    ◌≡◌ {A = Answer} (record { number = 0; did = d; config = config_of words s; made = s.next - c.next; gone = gone }) (answer_of c o)
unfolding answer_of
answers c words s gone d o L e f g h = (λ i. record { number = 0; did = f i; config = g i; made = (g i).next - c.next; gone = h i }) ∙ ap (answer_of c) (sym e)
