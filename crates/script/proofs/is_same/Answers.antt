use mathlib.Core.Path.{◌∙◌}
use Rattle.script.proofs.Words.{same_texts}
use Rattle.script.proofs.is_same.Goals as goal

pub returns : goal.returns
returns c = c.eq.ensures ∙ same_texts _ _
