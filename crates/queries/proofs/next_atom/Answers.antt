-- The candidates of the row are the atoms; those that are passed over give nothing.
use mathlib.Core.Path.{◌∙◌}
use native.Mathlib.Omega.{arith}
use Rattle.std.specs.Prelude.{None}
use Rattle.queries.proofs.Skips.{atoms_counted, atom_at_number, hits_past_atoms}
use Rattle.queries.proofs.Seeking.{seeking_first, seeking_on, seeking_ends, seeking_hits, seeking_misses}
use Rattle.queries.proofs.next_atom.Goals as goal

pub loop-c-init : goal.loop-c-init
loop-c-init c =
    let p = c.requires in
    let k = c.skip_atoms-c.ensures None in
    seeking_on (seeking_first p.2) _ k.on (hits_past_atoms _ _ p.3 p.4 _ _ _ _ _ _ p.5 p.6 k)

pub returns-then-take-clause-is : goal.returns-then-take-clause-is
returns-then-take-clause-is c =
    let a = c.args in
    let p = c.requires in
    let n = atoms_counted a.s a.r p.3 p.4 in
    let k = c.loop-c-test.true in
    seeking_hits c.loop-c.invariant (omega arith) c.atom_candidate-x.result (c.atom_candidate-x.ensures ∙ atom_at_number a.s a.r p.3 p.4 _ _) c.take.result _ _ c.take.ensures.is c.if-take.true

pub loop-c-smaller : goal.loop-c-smaller
loop-c-smaller c =
    let h = c.loop-c-test.true in
    let on = (c.skip_atoms-c-in-loop-c.ensures None).on in
    omega arith

pub loop-c-preserved : goal.loop-c-preserved
loop-c-preserved c =
    let a = c.args in
    let p = c.requires in
    let n = atoms_counted a.s a.r p.3 p.4 in
    let h = c.loop-c-test.true in
    let k = c.skip_atoms-c-in-loop-c.ensures None in
    seeking_on
    (seeking_misses c.loop-c.invariant (omega arith) c.atom_candidate-x.result (c.atom_candidate-x.ensures ∙ atom_at_number a.s a.r p.3 p.4 _ _) c.take.result _ _ c.take.ensures.is c.if-take.false c.take.ensures.kept)
    _ k.on (hits_past_atoms _ _ p.3 p.4 _ _ _ _ _ _ p.5 p.6 k)

pub returns-clause-is : goal.returns-clause-is
returns-clause-is c =
    let a = c.args in
    let n = atoms_counted a.s a.r c.requires.3 c.requires.4 in
    let h = c.loop-c-test.false in
    seeking_ends c.loop-c.invariant (omega arith)
