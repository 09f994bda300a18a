-- What a step leaves that made an atom, against the answer of the model's work.
use Rattle.std.specs.Prelude.{Ok}
use mathlib.Core.Path.{◌≡◌, sym, ap, ◌∙◌}
use mathlib.Core.List.{List}
use Prim.Native.Nat.{ℕ, ◌-◌}
use Rattle.model.specs.Configuration.{add_atom}
use Rattle.model.specs.Log.{begin, emit_atom, Outcome, accepted, and_then, answer_of}
use Rattle.model.specs.Calls.{make_atom, succeed}
use Rattle.state.specs.declared.Scalars.{Scalars}
use Rattle.state.specs.View.{config_of}
use Rattle.stepping.specs.declared.Progress.{Progress}
use Rattle.stepping.specs.Steps.{answered_by}
use Rattle.executing.proofs.After.{plan_same}
use Rattle.executing.proofs.Taken.{make_barred, make_free}

-- done after an atom was made
pub answers_after : (W words : List ℕ) (s t : Scalars) (r : Progress) (p a b k : ℕ) →
    make_atom p a b (begin (config_of W s)) ≡ accepted (emit_atom p a b (begin (config_of W s))) →
    answered_by t words (Ok r) ≡ answer_of (add_atom p a b (config_of W s)) (succeed k (begin (add_atom p a b (config_of W s)))) →
    answered_by s words (Ok r) ≡ answer_of (config_of W s) (and_then (make_atom p a b (begin (config_of W s))) (succeed k))
unfolding answer_of succeed and_then
answers_after W words s t r p a b k m e =
    (λ i. record { number = (e i).number; did = (e i).did; config = (e i).config; made = (e i).config.next - s.next; gone = (e i).gone })
    ∙ ap (λ (o : Outcome). answer_of (config_of W s) (and_then o (succeed k))) (sym m)

pub ruleset adding = (make_barred, make_free, plan_same, answers_after)
