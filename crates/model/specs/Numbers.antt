-- The numbers and values of what a step did and why a run stopped, as the tables print them and a host's report holds them.
-- "When an answer is an enum, a definition provides this paper's number and values for each of the enum's cases."
use Rattle.std.specs.Prelude.{ℕ, List, [], ◌∷◌}
use Rattle.model.specs.Log.{Made, nothing, an_atom, a_plan, How, empty, held, done, failed, Did, fired, moved_on, executed, waits, cycle_ended, called}
use Rattle.model.specs.Run.{Stop, at-phase-0, at-waiting, at-limit, next_refused}

-- "the plan or last atom made, or none", and its id
unfoldable pub made_numbers : Made → List ℕ
made_numbers nothing = 0 ∷ []
made_numbers (an_atom id) = 1 ∷ id ∷ []
made_numbers (a_plan id) = 2 ∷ id ∷ []

-- "how: empty, held by its subgoal, done, failed"
unfoldable pub how_number : How → ℕ
how_number empty = 1
how_number held = 2
how_number done = 3
how_number failed = 4

-- "What a step did is one of: fired (set, rule, ..), moved on, executed (plan; how: ..), waits (plan, p, a, b), cycle ended."
unfoldable pub did_numbers : Did → List ℕ
did_numbers (fired s n m) = 1 ∷ s ∷ n ∷ made_numbers m
did_numbers moved_on = 2 ∷ []
did_numbers (executed k how) = 3 ∷ k ∷ how_number how ∷ []
did_numbers (waits k p a b) = 4 ∷ k ∷ p ∷ a ∷ b ∷ []
did_numbers cycle_ended = 5 ∷ []
did_numbers called = []

-- "phase 0, waiting, the limit, or a next step that would be refused"
unfoldable pub stop_number : Stop → ℕ
stop_number at-phase-0 = 1
stop_number at-waiting = 2
stop_number at-limit = 3
stop_number (next_refused n) = 4

-- "with the refusal's number"
unfoldable pub stop_refusal : Stop → List ℕ
stop_refusal at-phase-0 = []
stop_refusal at-waiting = []
stop_refusal at-limit = []
stop_refusal (next_refused n) = n ∷ []

unfoldable pub opened : Unit {0}
unfolding made_numbers how_number did_numbers stop_number stop_refusal
opened = tt
