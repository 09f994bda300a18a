use mathlib.Core.Path.{refl, ◌∙◌}
use Rattle.model.specs.Claims.{to_answer}
use Rattle.state.specs.View.{config_of}
use Rattle.in_place.specs.Given.{given_rows}
use Rattle.in_place.proofs.Answered.{answer_yes, answer_no}
use Rattle.in_place.proofs.Waiting.{waiting_succeed, waiting_fail}
use Rattle.in_place.proofs.Stays.{stays}
use Rattle.in_place.proofs.answer_admitted.Goals as goal

pub returns-then-n-eq1-clause-stays : goal.returns-then-n-eq1-clause-stays
returns-then-n-eq1-clause-stays c =
    let a = c.args in
    let before = config_of a.words.now a.scalars.now in
    let left = waiting_succeed a.program.now a.words.now a.scalars.now c.requires c.if-id-eq0.false
    c.find_plan.result c.find_plan.ensures c.unwrap-k.result c.unwrap-k.ensures c.with_waiting-idle.result c.with_waiting-idle.ensures in
    stays a.program.now before c.requires (to_answer (given_rows a.program.now) a.n) refl _
    (answer_yes a.program.now before a.n c.requires c.if-id-eq0.false c.if-n-eq1.true _ (c.succeed.ensures ∙ left))

pub returns-else-n-eq1-clause-stays : goal.returns-else-n-eq1-clause-stays
returns-else-n-eq1-clause-stays c =
    let a = c.args in
    let before = config_of a.words.now a.scalars.now in
    let left = waiting_fail a.program.now a.words.now a.scalars.now c.requires c.if-id-eq0.false
    c.find_plan.result c.find_plan.ensures c.unwrap-k.result c.unwrap-k.ensures c.with_waiting-idle.result c.with_waiting-idle.ensures in
    stays a.program.now before c.requires (to_answer (given_rows a.program.now) a.n) refl _
    (answer_no a.program.now before a.n c.requires c.if-id-eq0.false c.if-n-eq1.false c.if-n-gt1.false _ (c.fail.ensures ∙ left))
