-- The id stands at one place only: the candidate there is the one.
use Rattle.std.specs.Prelude.{Some, None}
use Rattle.queries.proofs.Halves.{atom_alone, plan_alone}
use Rattle.queries.proofs.candidates.behind.Goals as goal

pub returns-in_err-find_atom : goal.returns-in_err-find_atom
returns-in_err-find_atom c =
    let a = c.args in
    let p = c.requires in
    rw c.from_residual.ensures (atom_alone a.words.now a.s a.r a.id None p.0.atoms_rise p.1 c.if-r-le2.true c.in_err-find_atom.ensures)

pub returns-then-r-le2 : goal.returns-then-r-le2
returns-then-r-le2 c =
    let a = c.args in
    let p = c.requires in
    atom_alone a.words.now a.s a.r a.id (Some c.in_ok-find_atom.field-0) p.0.atoms_rise p.1 c.if-r-le2.true c.in_ok-find_atom.ensures

pub returns-in_err-find_plan : goal.returns-in_err-find_plan
returns-in_err-find_plan c =
    let a = c.args in
    let p = c.requires in
    rw c.from_residual-in_err-find_plan.ensures (plan_alone a.words.now a.s a.r a.id None p.0.plans_rise c.if-r-le2.false p.2 p.3 c.in_err-find_plan.ensures)

pub returns : goal.returns
returns c =
    let a = c.args in
    let p = c.requires in
    plan_alone a.words.now a.s a.r a.id (Some c.in_ok-find_plan.field-0) p.0.plans_rise c.if-r-le2.false p.2 p.3 c.in_ok-find_plan.ensures
