-- A refusal leaves the configuration; an accepted text is started from the rows in the lent program.
use Rattle.std.proofs.lemmas.Result.{err_from_is_err_and}
use Rattle.loading.proofs.Starts.{refused_start, accepted_start, few_rows, few_initial}
use Rattle.loading.proofs.load.Goals as goal

pub start-requires : goal.start-requires
start-requires c = (few_rows _ _ _ _ c.in_ok-rows.ensures, few_initial _ _ _ _ c.in_ok-rows.ensures)

pub returns-in_err-rows-clause-program_after : goal.returns-in_err-rows-clause-program_after
returns-in_err-rows-clause-program_after c =
    let p = err_from_is_err_and c.from_residual.result c.from_residual.ensures.1 in
    rw (p.1, p.2) (refused_start _ _ _ _ c.in_err-rows.ensures _)

pub returns-clause-program_after : goal.returns-clause-program_after
returns-clause-program_after c = accepted_start _ _ _ _ c.in_ok-rows.ensures _ _ c.start.ensures
