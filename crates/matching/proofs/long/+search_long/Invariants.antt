-- The rows that remain fall. The loop's invariant: the values are what they were and the first ids too; the first match that counts is the first
-- among what follows the answers of row k from number c on; the answers before that failed, and that hangs on `blame`, which has the row's own
-- operands; and the nogoods are true.
use Rattle.std.specs.Prelude.{IfSome}
use Prim.Native.Nat.{◌+◌, ◌-◌}
use mathlib.Core.Path.{◌≡◌}
use mathlib.Core.List.{[], ◌++◌}
use lib.ListN.{length}
use Rattle.lists.specs.Lists.{first_of, bind}
use Rattle.nogoods.specs.Nogoods.{size}
use Rattle.queries.specs.View.{found_in, Kept}
use Rattle.queries.specs.Answers.{answers, width}
use Rattle.matching.specs.Rules.{counted}
use Rattle.matching.specs.Sets.{OfRow, Changed, Remembered}
use Rattle.matching.proofs.Failing.{Passed}
use Rattle.matching.proofs.long.+search_long.Given as goal

abbrev pub invariant-loop-next : goal.invariant-loop-next
invariant-loop-next l =
    (l.values ≡ l.before) × Kept l.count l.fn.matched l.matched
    × (first_of (counted l.program l.words l.s l.rule l.k (found_in l.before l.fn.matched l.count))
    ≡ first_of (bind (answers l.words l.s l.r (found_in l.before l.fn.matched l.count) l.c) (counted l.program l.words l.s l.rule (l.k + 1)) ++ []))
    × Passed l.program l.words l.s l.rule l.k l.r (found_in l.before l.fn.matched l.count) l.c l.blame
    × OfRow l.r l.blame
    × IfSome l.gives (Changed l.r l.before)
    × Remembered l.program l.words l.s l.rule l.known × (length l.known ≡ size)

abbrev pub decreases-loop-next : goal.decreases-loop-next
decreases-loop-next l = width l.s l.r - l.c

abbrev pub decreases-search_long : goal.decreases-search_long
decreases-search_long l = l.rule.body - l.k
