-- An atom's line has its numbers.
use mathlib.Core.Path.{ap, ◌∙◌}
use mathlib.Core.List.{◌++◌}
use Rattle.model.specs.declared.Atom.{Atom}
use Rattle.model.specs.Run.{atom_line}
use Rattle.listing.specs.Listing.{line}
use Rattle.listing.proofs.put_atom.Goals as goal

pub returns-clause-puts : goal.returns-clause-puts
unfolding atom_line
returns-clause-puts c = c.put_line.ensures.puts ∙ ap (λ (x : Atom). c.args.out.now.items ++ line (atom_line x)) c.atom_at-x.ensures
