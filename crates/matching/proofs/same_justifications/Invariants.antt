-- The loop's invariant: the lists are the same if they are from place j on.
use mathlib.Core.Path.{◌≡◌}
use lib.ListN.{take, drop}
use Rattle.lists.specs.Lists.{same}
use Rattle.state.specs.View.{plan_at}
use Rattle.matching.proofs.same_justifications.Given as goal

abbrev pub invariant-loop-j : goal.invariant-loop-j
invariant-loop-j l = same (plan_at l.words l.k).justifications (take l.count l.ids) ≡ same (drop l.j (plan_at l.words l.k).justifications) (drop l.j (take l.count l.ids))
