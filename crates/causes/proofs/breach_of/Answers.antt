-- Where no test finds anything wrong, the row is a second ceiling.
use mathlib.Core.Path.{refl}
use Rattle.causes.proofs.Complete.{only_ceiling}
use Rattle.causes.proofs.breach_of.Goals as goal

pub returns-in-Ok : goal.returns-in-Ok
returns-in-Ok c = let last = only_ceiling _ _ _ c.requires.r_value c.in-Ok.ensures in (refl, last.0, last.1)
