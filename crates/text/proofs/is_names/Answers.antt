use mathlib.Core.Path.{◌∙◌}
use Rattle.model.specs.Text as Text
use Rattle.text.proofs.Ends.{same_pointwise}
use Rattle.text.proofs.is_names.Goals as goal

pub returns : goal.returns
unfolding Text.names Text.bytes
returns c = c.eq.ensures ∙ rw c.as_slice.ensures (same_pointwise _ _)
