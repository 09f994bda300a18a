-- A refusal's number, or the listing of what the run left.
use mathlib.Core.Path.{sym, ap, ◌∙◌}
use Rattle.model.specs.Run.{refusal, listing}
use Rattle.program.specs.Rows.{rows_of}
use Rattle.listing.proofs.Well.{listable}
use Rattle.interpreter.specs.Calls.{conf}
use Rattle.printed_run.specs.Printed.{run_text}
use Rattle.printed_run.proofs.Printed.{sense_refused, sense_done, run_stopped, run_listed, run_well}
use Rattle.printed_run.proofs.print_from.Goals as goal

pub returns-in-Err : goal.returns-in-Err
unfolding run_text
returns-in-Err c =
    let a = c.args in
    let q = c.requires in
    let s = c.sense-sensed in
    c.refusal.ensures ∙ ap refusal c.number.ensures
    ∙ sym (sense_refused a.program.now (rows_of a.program.now) q.0 (conf a.config) (conf s.result.config) q.1 c.in-Err.refusal (rw c.in-Err.is at s.ensures.result_value))

pub returns-in-Err-answer : goal.returns-in-Err-answer
unfolding run_text
returns-in-Err-answer c =
    let a = c.args in
    let q = c.requires in
    let s = c.sense-sensed in
    let r = c.run-ran in
    let done = sense_done a.program.now (rows_of a.program.now) q.0 (conf a.config) (conf s.result.config) q.1 c.in_default.field-0 (rw c.in_default.is at s.ensures.result_value) in
    c.refusal-in-Err-answer.ensures ∙ ap refusal c.number-in-Err-answer.ensures
    ∙ sym (done ∙ run_stopped a.program.now (rows_of a.program.now) q.0 (conf s.result.config) (conf r.result.config) c.in-Err-answer.refusal (rw c.in-Err-answer.is at r.ensures.result_value))

pub listing-requires : goal.listing-requires
listing-requires c =
    let a = c.args in
    let r = c.run-ran in
    listable a.program.now r.result.config.words r.result.config.scalars
    (run_well a.program.now (rows_of a.program.now) c.requires.0 (conf c.sense-sensed.result.config) (conf r.result.config) c.in_default-answer.field-0 (rw c.in_default-answer.is at r.ensures.result_value))

pub returns : goal.returns
unfolding run_text
returns c =
    let a = c.args in
    let q = c.requires in
    let s = c.sense-sensed in
    let r = c.run-ran in
    let done = sense_done a.program.now (rows_of a.program.now) q.0 (conf a.config) (conf s.result.config) q.1 c.in_default.field-0 (rw c.in_default.is at s.ensures.result_value) in
    c.listing.ensures ∙ sym (done ∙ run_listed a.program.now (rows_of a.program.now) q.0 (conf s.result.config) (conf r.result.config) c.in_default-answer.field-0 (rw c.in_default-answer.is at r.ensures.result_value))
