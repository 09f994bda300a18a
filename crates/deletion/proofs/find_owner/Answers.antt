-- The first plan that passes the test is the first with this subgoal.
use mathlib.Core.Path.{◌≡◌}
use mathlib.Core.Logic.{◌≢◌}
use borrow.Author.Rules.{rules}
use borrow.Author.Tests.{tests}
use Rattle.std.proofs.lemmas.Iterator.{first_from_Range}
use Rattle.state.specs.View.{plan_at}
use Rattle.deletion.proofs.Unlinked.{owner_place}
use Rattle.deletion.proofs.find_owner.Goals as goal

pub returns : goal.returns
returns c =
    let a = c.args in
    owner_place a.plans a.words.now a.target c.find.result
    (first_from_Range _ _ _ _ (λ i. (plan_at a.words.now i).subgoal ≡ a.target) (λ i. (plan_at a.words.now i).subgoal ≢ a.target) c.find.ensures.ran
    (λ x q k. search (rules, tests)) (λ x q k. search (rules, tests)))
