-- The tests, one by one.
use Rattle.state.specs.View.{plan_at, config_of}
use Rattle.formed_plans.proofs.Tests.{node_tests}
use Rattle.formed_plans.proofs.node_formed.Goals as goal

pub returns : goal.returns
returns c =
    let a = c.args in
    let w = node_tests (config_of a.words.now a.scalars) (plan_at a.words.now a.k) in
    cc
