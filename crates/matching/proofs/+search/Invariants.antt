-- The rows that remain fall. The loop's invariant: the values are what they were and the first ids too; the first match that counts is the first
-- among what follows the answers of row k from number c on; and a row that leaves everything as it was is at its first.
use Prim.Native.Nat.{◌+◌, ◌-◌}
use mathlib.Core.Path.{◌≡◌}
use mathlib.Core.Bool.{true}
use mathlib.Core.List.{[], ◌++◌}
use Rattle.lists.specs.Lists.{first_of, bind}
use Rattle.queries.specs.View.{found_in, Kept}
use Rattle.queries.specs.Answers.{answers, width, closed}
use Rattle.matching.specs.Rules.{counted}
use Rattle.matching.proofs.+search.Given as goal

abbrev pub invariant-loop-next : goal.invariant-loop-next
invariant-loop-next l =
    (l.values ≡ l.fn.values) × Kept l.count l.fn.matched l.matched
    × (first_of (counted l.program l.words l.s l.rule l.k (found_in l.fn.values l.fn.matched l.count))
    ≡ first_of (bind (answers l.words l.s l.r (found_in l.fn.values l.fn.matched l.count) l.c) (counted l.program l.words l.s l.rule (l.k + 1)) ++ []))
    × (closed l.r l.fn.values ≡ true → l.c ≡ 0)

abbrev pub decreases-loop-next : goal.decreases-loop-next
decreases-loop-next l = width l.s l.r - l.c

abbrev pub decreases-search : goal.decreases-search
decreases-search l = l.rule.body - l.k
