use native.Mathlib.Omega.{arith}
use Rattle.text.proofs.Ends.{ends_at}
use Rattle.text.proofs.newline.Goals as goal

pub returns : goal.returns
returns c = ends_at _ _ _ c.requires (omega arith) (λ k p q. c.loop-i.invariant.1 k p (omega arith)) (λ h. absurd (omega arith))
