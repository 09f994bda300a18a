-- The names, then the instances.
use mathlib.Core.Path.{ap, ◌∙◌}
use mathlib.Core.List.{List, ◌++◌}
use Prim.Native.Nat.{ℕ}
use Rattle.model.specs.Text.{bytes}
use Rattle.model.specs.Run.{instances, as_text, listing}
use Rattle.state.specs.View.{config_of}
use Rattle.listing.proofs.listing.Goals as goal

pub returns : goal.returns
unfolding listing bytes
returns c =
    let lines = as_text (instances (config_of c.args.words.now c.args.scalars)) in
    c.put_instances.ensures ∙ ap (λ (l : List ℕ). l ++ lines) (c.put_bytes.ensures ∙ ap (λ (l : List ℕ). l ++ bytes "kind id p a b sub\n") c.new-out.ensures)
