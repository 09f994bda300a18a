use native.Mathlib.Omega.{arith}
use Rattle.state.specs.View.{config_of}
use Rattle.in_place.proofs.RunAnswered.{run_done}
use Rattle.in_place.proofs.Stays.{run_stays}
use Rattle.in_place.proofs.run_admitted.Goals as goal

pub returns-clause-stays : goal.returns-clause-stays
returns-clause-stays c =
    let a = c.args in
    let before = config_of a.words.now a.scalars.now in
    let few = c.if-limit-gt10000.false in
    let some = c.if-limit-lt1.false in
    let r = c.run_on-course in
    run_stays a.program.now before a.limit _
    (run_done a.program.now before a.limit c.requires c.if-scalars-eq0.false c.if-scalars-ne0.false (omega arith) (omega arith) r.new.words r.result r.ensures)
