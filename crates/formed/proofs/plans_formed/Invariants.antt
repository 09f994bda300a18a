-- The first k plans have passed (`Passed`), `before` is the id of the last of them, and `at` has the clauses of some rule.
use Rattle.program.specs.Rows.{rows_of}
use Rattle.state.specs.View.{plan_at, config_of}
use Rattle.formed_plans.specs.Plans.{plan_fits, ClausesAt}
use Rattle.formed.specs.Passes.{plan_id}
use Rattle.formed.proofs.Passes.{Passed}
use Rattle.formed.proofs.plans_formed.Given as goal

abbrev pub invariant-loop-k : goal.invariant-loop-k
invariant-loop-k l = Passed plan_id (plan_fits (rows_of l.program) (config_of l.words l.scalars)) (plan_at l.words) l.n l.k l.before × ClausesAt l.program l.at
