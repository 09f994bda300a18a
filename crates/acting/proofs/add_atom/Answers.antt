use native.Mathlib.Omega.{arith}
use Rattle.std.proofs.lemmas.Result.{err_from_is_err_and}
use Rattle.state.proofs.Room.{bar_free}
use Rattle.acting.proofs.Actions.{add_barred, adds}
use Rattle.acting.proofs.Workable.{workable_added}
use Rattle.acting.proofs.add_atom.Goals as goal

pub returns-in_err-room_for_atom-clause-acts : goal.returns-in_err-room_for_atom-clause-acts
returns-in_err-room_for_atom-clause-acts c =
    let a = c.args in
    let p = err_from_is_err_and c.from_residual.result c.from_residual.ensures.1 in
    rw (p.1, p.2) (add_barred a.row a.values a.made a.scalars a.words.now a.words.now c.requires.1 _ c.in_err-room_for_atom.ensures)

pub returns : goal.returns
returns c =
    let a = c.args in
    let p = c.requires in
    let r = c.append_atom-left in
    let bar = c.in_ok-room_for_atom.ensures in
    let h = bar_free a.scalars.next a.scalars.atoms bar in record {
      acts = adds a.row a.values a.made a.scalars a.words.now r.new.words p.1 bar _ _ c.operand-a.ensures c.operand-b.ensures r.result r.ensures.made _ c.with_value.ensures;
      workable = (workable_added a.words.now r.new.words a.scalars r.result p.0 _ _ _ h.1 (omega (arith, h.0, p.0.next_fits)) r.ensures.counted r.ensures.made, omega arith);
    }
