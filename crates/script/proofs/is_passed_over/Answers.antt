use mathlib.Core.Path.{sym, ◌∙◌}
use Rattle.script.proofs.Words.{remark, blank}
use Rattle.script.proofs.is_passed_over.Goals as goal

pub returns-then-starts_with : goal.returns-then-starts_with
returns-then-starts_with c = c.if-starts_with.true ∙ remark _ (sym c.starts_with.ensures.value ∙ c.if-starts_with.true)

pub returns-else-starts_with : goal.returns-else-starts_with
returns-else-starts_with c = c.is_blank.ensures ∙ blank _ (sym c.starts_with.ensures.value ∙ c.if-starts_with.false)
