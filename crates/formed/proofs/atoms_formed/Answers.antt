use native.Mathlib.Omega.{arith}
use Rattle.state.specs.View.{atom_at}
use Rattle.formed.specs.Passes.{atom_id, atom_fits}
use Rattle.formed.proofs.Passes.{tested_none, tested_more}
use Rattle.formed.proofs.atoms_formed.Goals as goal

pub loop-k-init : goal.loop-k-init
loop-k-init c = tested_none _ _ _ _

pub loop-k-preserved : goal.loop-k-preserved
loop-k-preserved c =
    let a = c.args in
    rw (c.atom_fits.ensures, c.atom_at-x.ensures)
    (tested_more atom_id (atom_fits a.next) (atom_at a.words.now) _ c.loop-k.k c.loop-k.before c.loop-k.fits c.loop-k.invariant (omega arith))
