-- Where the id stands it is found at once.
use native.Mathlib.Omega.{arith}
use mathlib.Core.Path.{◌∙◌}
use Rattle.queries.proofs.Halves.{place_is}
use Rattle.queries.proofs.Leaps.{atoms_leapt, plans_leapt, justifications_leapt}
use Rattle.queries.proofs.candidates.skip_wanted.Goals as goal

pub returns-then-op : goal.returns-then-op
returns-then-op c =
    let a = c.args in
    let p = c.requires in
    λ u v. atoms_leapt a.words.now a.s a.r a.id u v a.from _ p.atoms_rise c.if-op.true _ (c.unwrap_or-k.ensures ∙ place_is _ _ _ _ c.find_atom.ensures) c.leap.ensures

pub returns-then-op-2 : goal.returns-then-op-2
returns-then-op-2 c =
    let a = c.args in
    let p = c.requires in
    let h = c.if-op-lt3.false in
    λ u v. justifications_leapt a.words.now a.s a.r a.id u v a.from _ p.plans_rise (omega arith) _ (c.unwrap_or-k-2.ensures ∙ place_is _ _ _ _ c.find_plan.ensures) c.if-op-2.true c.leap-then-op-2.ensures

pub returns : goal.returns
returns c =
    let a = c.args in
    let p = c.requires in
    let h = c.if-op-lt3.false in
    let g = c.if-op-gt12.false in
    λ u v. plans_leapt a.words.now a.s a.r a.id u v a.from _ p.plans_rise (omega arith) _ (c.unwrap_or-k-2.ensures ∙ place_is _ _ _ _ c.find_plan.ensures) (omega arith) c.if-op-2.false c.leap-2.ensures
