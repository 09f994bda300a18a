-- A plan's line has its numbers.
use mathlib.Core.Path.{ap, ◌∙◌}
use mathlib.Core.List.{List, ◌++◌}
use Prim.Native.Nat.{ℕ}
use Rattle.state.specs.View.{plan_at}
use Rattle.listing.specs.Listing.{line}
use Rattle.listing.proofs.Lines.{plan_line_is}
use Rattle.listing.proofs.put_plan.Goals as goal

pub returns-clause-puts : goal.returns-clause-puts
returns-clause-puts c =
    let a = c.args in
    let e = plan_line_is (plan_at a.words.now a.k) c.plan_id-id.ensures c.plan_set-set.ensures c.plan_rule-rule.ensures c.plan_left-left.ensures c.plan_subgoal-subgoal.ensures in
    c.put_line.ensures.puts ∙ ap (λ (l : List ℕ). a.out.now.items ++ line l) e
