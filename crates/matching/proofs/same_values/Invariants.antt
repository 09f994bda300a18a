-- The loop's invariant: the values in the body are the same if they are in its rows from j on.
use mathlib.Core.Path.{◌≡◌}
use Rattle.lists.specs.Lists.{same}
use Rattle.model.specs.Matching.{body_values}
use Rattle.state.specs.View.{plan_at}
use Rattle.matching.specs.Rules.{rows_between}
use Rattle.matching.proofs.same_values.Given as goal

abbrev pub invariant-loop-j : goal.invariant-loop-j
invariant-loop-j l = same (body_values (rows_between l.program l.from l.to) (plan_at l.words l.k).values) (body_values (rows_between l.program l.from l.to) l.values) ≡ same (body_values (rows_between l.program l.j l.to) (plan_at l.words l.k).values) (body_values (rows_between l.program l.j l.to) l.values)
