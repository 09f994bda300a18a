-- The places that are tested are the atoms.
use mathlib.Core.Path.{refl, ◌∙◌}
use native.Mathlib.Omega.{arith}
use borrow.Author.Rules.{rules}
use borrow.Author.Tests.{tests}
use Rattle.std.proofs.lemmas.Iterator.{YieldsList-from_range}
use Rattle.std.proofs.lemmas.Iterator.Search.{any_from_yields_List}
use Rattle.model.specs.Configuration.{equal_to}
use Rattle.model.specs.Calls.{exists_atom}
use Rattle.state.specs.View.{atom_at}
use Rattle.executing.proofs.Places.{some_from}
use Rattle.executing.proofs.exists_atom.Goals as goal

pub returns : goal.returns
unfolding exists_atom
returns c =
    let a = c.args in
    let n = a.scalars.atoms in
    any_from_yields_List (λ k. equal_to a.p a.a a.b (atom_at a.words.now k)) _ _ _ c.any.ensures.ran
    (YieldsList-from_range 0 n n refl (omega arith)) (λ x b q k. search (rules, tests))
    ∙ some_from (equal_to a.p a.a a.b) n (atom_at a.words.now) n 0 (omega arith)
