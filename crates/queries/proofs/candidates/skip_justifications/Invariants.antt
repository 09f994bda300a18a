-- The loops' invariants: no candidate of the plans before k fits, and none of the justifications of plan k before j.
use Prim.Native.Nat.{◌+◌, ◌*◌, ◌/◌, ◌%◌, ◌≤◌, max}
use Rattle.std.specs.Prelude.{Option}
use Rattle.state.specs.View.{plan_at}
use Rattle.queries.specs.Answers.{justification_candidate, Skipped}
use Rattle.queries.proofs.candidates.skip_justifications.Given as goal

abbrev pub invariant-loop-k : goal.invariant-loop-k
invariant-loop-k l = (l.k * 4 ≤ max l.from (l.plans * 4)) × ((b : Option _) → Skipped (λ c. justification_candidate (plan_at l.words (c / 4)) (c % 4)) l.i l.a b l.from (max l.from (l.k * 4)))

abbrev pub invariant-loop-j : goal.invariant-loop-j
invariant-loop-j l = (l.j ≤ 4) × ((b : Option _) → Skipped (λ c. justification_candidate (plan_at l.words (c / 4)) (c % 4)) l.i l.a b l.from (l.k * 4 + l.j))
