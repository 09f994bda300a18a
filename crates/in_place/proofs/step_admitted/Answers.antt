use mathlib.Core.Path.{refl, ◌∙◌}
use Rattle.model.specs.Claims.{to_step}
use Rattle.state.specs.View.{config_of}
use Rattle.in_place.specs.Given.{given_rows}
use Rattle.in_place.proofs.StepAnswered.{step_rows}
use Rattle.in_place.proofs.Stays.{stays, rises}
use Rattle.in_place.proofs.step_admitted.Goals as goal

pub overflow_sub-made : goal.overflow_sub-made
overflow_sub-made c =
    let a = c.args in
    let before = config_of a.words.now a.scalars.now in
    rises (to_step (given_rows a.program.now)) before _ (c.in_ok-p.ensures.result_after ∙ step_rows a.program.now before c.requires)

pub returns-clause-stays : goal.returns-clause-stays
returns-clause-stays c =
    let a = c.args in
    let before = config_of a.words.now a.scalars.now in
    stays a.program.now before c.requires (to_step (given_rows a.program.now)) refl _ (c.in_ok-p.ensures.result_after ∙ step_rows a.program.now before c.requires)
