use mathlib.Core.Path.{ap, ◌∙◌}
use native.Mathlib.Omega.{arith}
use Rattle.model.specs.Log.{answer_of}
use Rattle.program.specs.Rows.{rows_of}
use Rattle.program_laws.proofs.Sets.{sets_few}
use Rattle.state.specs.View.{config_of}
use Rattle.stepping.proofs.Standing.{lawful_rows}
use Rattle.firing.proofs.Fired.{moved, object_fires, meta_fires, raises, acts}
use Rattle.firing.proofs.fire_first.Goals as goal

pub overflow_add-scalars : goal.overflow_add-scalars
overflow_add-scalars c =
    let a = c.args in
    let p = c.requires in
    let h = sets_few (rows_of a.program.now) (lawful_rows a.program.now a.words.now a.scalars p.0) in
    omega (arith, p.2)

pub returns-in_default-clause-result_after : goal.returns-in_default-clause-result_after
returns-in_default-clause-result_after c =
    let a = c.args in
    moved a.program.now a.words.now a.scalars c.in_default.ensures.is _ c.with_phase.ensures

pub fire_object-requires : goal.fire_object-requires
fire_object-requires c =
    let a = c.args in
    let x = c.in-Some in
    raises a.program.now a.words.now a.scalars x.x x.ensures.is x.ensures.chosen c.requires.0 c.requires.1 c.if-x.true

pub returns-then-x-clause-result_after : goal.returns-then-x-clause-result_after
returns-then-x-clause-result_after c =
    let a = c.args in
    let x = c.in-Some in
    c.fire_object.ensures.result_after ∙ ap (answer_of (config_of a.words.now a.scalars)) (object_fires a.program.now a.words.now a.scalars x.x x.ensures.is x.ensures.chosen c.if-x.true)

pub fire_meta-requires : goal.fire_meta-requires
fire_meta-requires c =
    let a = c.args in
    let x = c.in-Some in
    acts a.program.now a.words.now a.scalars x.x x.ensures.is x.ensures.chosen c.requires.0 c.requires.1 c.if-x.false

pub returns-clause-result_after : goal.returns-clause-result_after
returns-clause-result_after c =
    let a = c.args in
    let x = c.in-Some in
    c.fire_meta.ensures.result_after ∙ ap (answer_of (config_of a.words.now a.scalars)) (meta_fires a.program.now a.words.now a.scalars x.x x.ensures.is x.ensures.chosen c.if-x.false)
