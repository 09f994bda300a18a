use Rattle.std.proofs.lemmas.Result.{err_from_is_err_and}
use Rattle.firing.proofs.Raised.{raised_barred, ids_raised, raised_done}
use Rattle.firing.proofs.fire_object.Goals as goal

pub returns-in_err-room_for_plan-clause-result_after : goal.returns-in_err-room_for_plan-clause-result_after
returns-in_err-room_for_plan-clause-result_after c =
    let a = c.args in
    let p = err_from_is_err_and c.from_residual.result c.from_residual.ensures.1 in
    rw (p.1, p.2) (raised_barred a.words.now a.scalars a.x _ c.in_err-room_for_plan.ensures)

pub returns-clause-result_after : goal.returns-clause-result_after
returns-clause-result_after c =
    let a = c.args in
    let l = c.rising_set-reasons in
    let p = c.append_plan-made in
    raised_done a.words.now a.scalars a.x c.in_ok-room_for_plan.ensures p.new.words p.result _ (ids_raised a.words.now a.scalars a.x c.requires l.result l.ensures.padded l.ensures.is) p.ensures.made
