-- The loop's invariant: the values are what they were; the first match that counts is the first among what follows the answers of row k from
-- number c on; and the nogoods are true.
use Prim.Native.Nat.{◌+◌, ◌-◌}
use mathlib.Core.Path.{◌≡◌}
use mathlib.Core.List.{[], ◌++◌}
use Rattle.lists.specs.Lists.{first_of, bind}
use Rattle.program.specs.Rows.{row_at}
use Rattle.queries.specs.View.{found_in}
use Rattle.queries.specs.Answers.{answers, width}
use Rattle.matching.specs.Rules.{counted}
use Rattle.matching.specs.Sets.{Remembered}
use Rattle.matching.proofs.long.search_rest.Given as goal

abbrev pub invariant-loop-next : goal.invariant-loop-next
invariant-loop-next l =
    (l.values ≡ l.before)
    × (first_of (bind (answers l.words l.s (row_at l.program l.k) (found_in l.before [] 0) l.from) (counted l.program l.words l.s l.rule (l.k + 1)))
    ≡ first_of (bind (answers l.words l.s l.r (found_in l.before [] 0) l.c) (counted l.program l.words l.s l.rule (l.k + 1)) ++ []))
    × Remembered l.program l.words l.s l.rule l.known

abbrev pub decreases-loop-next : goal.decreases-loop-next
decreases-loop-next l = width l.s l.r - l.c
