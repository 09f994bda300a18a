-- The loop's invariant: some plan is equal if one from plan k on is.
use mathlib.Core.Path.{◌≡◌}
use lib.ListN.{drop}
use Rattle.lists.specs.Lists.{some}
use Rattle.model.specs.Matching.{equal_plan}
use Rattle.program.specs.Rows.{rows_of}
use Rattle.state.specs.View.{plans_of}
use Rattle.queries.specs.View.{found_of}
use Rattle.matching.proofs.counts.Given as goal

abbrev pub invariant-loop-k : goal.invariant-loop-k
invariant-loop-k l = some (equal_plan (rows_of l.program) l.rule.set l.rule.number (found_of l.f)) (plans_of l.fn.s.plans l.words) ≡ some (equal_plan (rows_of l.program) l.rule.set l.rule.number (found_of l.f)) (drop l.k (plans_of l.fn.s.plans l.words))
