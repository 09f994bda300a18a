use mathlib.Core.Path.{sym, ap, ◌∙◌}
use Rattle.model.specs.Configuration.{fresh}
use Rattle.model.specs.Run.{refusal}
use Rattle.interpreter.proofs.Loads.{rows_held, rows_given, rows_stand, rows_whole, started_fresh}
use Rattle.printed_run.proofs.Printed.{load_refused, then_run}
use Rattle.printed_run.proofs.print_run.Goals as goal

pub slice_bounds-rows-end : goal.slice_bounds-rows-end
slice_bounds-rows-end c = rows_stand _ _ _ _ _ _ c.in-Ok.ensures.program_after

pub slice_bounds-print_from-end : goal.slice_bounds-print_from-end
slice_bounds-print_from-end c = rows_whole _ _ _ _ _ _ c.in-Ok.ensures.program_after

pub print_from-requires : goal.print_from-requires
print_from-requires c =
    let e = c.in-Ok.ensures.program_after in
    let held = rows_held _ _ _ _ _ _ e in
    (rows_given _ _ _ _ _ _ e ∙ sym held, started_fresh _ _ _ _ _ _ e ∙ ap fresh (sym held))

pub returns-in-Ok : goal.returns-in-Ok
returns-in-Ok c = c.print_from.ensures ∙ sym (then_run _ _ _ _ _ _ c.in-Ok.ensures.program_after)

pub returns-in-Err : goal.returns-in-Err
returns-in-Err c = c.refusal.ensures ∙ ap refusal c.number.ensures ∙ sym (load_refused _ _ _ _ _ _ c.in-Err.ensures.program_after)
