-- The first rule that fires. Outer loop: none has fired, and the first to fire is the first of the rules from `number` on. Inner
-- loop: it is the first among what follows the answers of the rule's first row from number c on, and then the rules behind it.
use Rattle.std.specs.Prelude.{None}
use mathlib.Core.Path.{◌≡◌}
use mathlib.Core.List.{[]}
use Prim.Native.Nat.{◌-◌}
use Rattle.queries.specs.View.{found_in}
use Rattle.queries.specs.Answers.{width}
use Rattle.matching.proofs.Firing.{Choosing, Trying}
use Rattle.matching.proofs.choose.Given as goal

abbrev pub invariant-candidates : goal.invariant-candidates
invariant-candidates l = Trying l.program l.words l.s l.rule l.start l.r (found_in l.f.values [] 0) l.once l.from × (l.values ≡ l.f.values) × (l.chosen ≡ None)

abbrev pub decreases-candidates : goal.decreases-candidates
decreases-candidates l = width l.s l.r - l.from

abbrev pub invariant-rules : goal.invariant-rules
invariant-rules l = Choosing l.program l.words l.s l.set l.number l.start × (l.values ≡ l.f.values) × (l.chosen ≡ None)

abbrev pub decreases-rules : goal.decreases-rules
decreases-rules l = l.n - l.start
