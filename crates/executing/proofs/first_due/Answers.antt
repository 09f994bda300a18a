-- The first plan that passes the test is the first that is due.
use mathlib.Core.Path.{◌≡◌}
use mathlib.Core.Bool.{true, false}
use borrow.Author.Rules.{rules}
use borrow.Author.Tests.{tests}
use Rattle.std.proofs.lemmas.Iterator.{first_from_Range}
use Rattle.model.specs.Calls.{is_due}
use Rattle.state.specs.View.{plan_at}
use Rattle.executing.proofs.Places.{first_kept}
use Rattle.executing.proofs.first_due.Goals as goal

pub returns-clause-is : goal.returns-clause-is
returns-clause-is c =
    let a = c.args in
    first_kept is_due a.plans (plan_at a.words.now) c.find.result
    (first_from_Range _ _ _ _ (λ k. is_due (plan_at a.words.now k) ≡ true) (λ k. is_due (plan_at a.words.now k) ≡ false) c.find.ensures.ran
    (λ x q k. search (rules, tests)) (λ x q k. search (rules, tests)))
