use mathlib.Core.Path.{refl, sym, ◌∙◌}
use native.Mathlib.Omega.{arith}
use Rattle.model.specs.Claims.{to_sense}
use Rattle.state.specs.View.{config_of}
use Rattle.in_place.specs.Given.{given_rows, readings_of}
use Rattle.in_place.proofs.Sensed.{sense_done}
use Rattle.in_place.proofs.Stays.{stays, rises}
use Rattle.in_place.proofs.sense_admitted.Goals as goal

pub overflow_sub-made : goal.overflow_sub-made
overflow_sub-made c =
    let a = c.args in
    let before = config_of a.words.now a.scalars.now in
    let many = c.if-rows-gt256.false in
    let right = sym c.rows_in_range.ensures ∙ c.if-not-rows_in_range.false in
    rises (to_sense (given_rows a.program.now) (readings_of a.rows.now)) before _
    (sense_done a.program.now before a.rows.now c.requires c.if-scalars-ne0.false c.if-scalars-ne0-2.false (omega arith) c.if-rows-ne0.false right
    c.sense_or_restore.new.words c.in_ok-left.left c.in_ok-left.ensures.senses_rows _ refl)

pub returns : goal.returns
returns c =
    let a = c.args in
    let before = config_of a.words.now a.scalars.now in
    let many = c.if-rows-gt256.false in
    let right = sym c.rows_in_range.ensures ∙ c.if-not-rows_in_range.false in
    let told =
    sense_done a.program.now before a.rows.now c.requires c.if-scalars-ne0.false c.if-scalars-ne0-2.false (omega arith) c.if-rows-ne0.false right
    c.sense_or_restore.new.words c.in_ok-left.left c.in_ok-left.ensures.senses_rows _ c.with_phase.ensures in record {
      result_after = told;
      untouched = tt;
      stays = stays a.program.now before c.requires (to_sense (given_rows a.program.now) (readings_of a.rows.now)) refl _ told;
    }
