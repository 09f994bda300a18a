-- The rows that remain fall.
use Prim.Native.Nat.{◌-◌}
use Rattle.matching.proofs.long.+search_on.Given as goal

abbrev pub decreases-search_on : goal.decreases-search_on
decreases-search_on l = l.rule.body - l.k
