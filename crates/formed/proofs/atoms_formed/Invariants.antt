-- The test is that of the first k atoms (`Tested`), and `before` is the id of the last of them.
use Rattle.state.specs.View.{atom_at}
use Rattle.formed.specs.Passes.{atom_id, atom_fits}
use Rattle.formed.proofs.Passes.{Tested}
use Rattle.formed.proofs.atoms_formed.Given as goal

abbrev pub invariant-loop-k : goal.invariant-loop-k
invariant-loop-k l = Tested atom_id (atom_fits l.next) (atom_at l.words) l.atoms l.k l.before l.fits
