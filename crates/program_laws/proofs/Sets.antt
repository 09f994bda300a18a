-- How many sets a program has.
use mathlib.Core.Logic.{⊎_elim}
use mathlib.Core.List.{List, map}
use Prim.Native.Nat.{◌≤◌}
use native.Mathlib.Omega.{arith}
use Rattle.lists.proofs.Lists.{map_in}
use Rattle.lists.proofs.Tables.{equal_or_not}
use Rattle.lists.proofs.Counted.{highest_below}
use Rattle.model.specs.declared.Row.{Row}
use Rattle.model.specs.Program.{sets}
use Rattle.program_laws.specs.Lawful.{Lawful}

-- "Sets 1 to 8"
pub sets_few : (program : List Row) → Lawful program → sets program ≤ 8
unfolding sets
sets_few program w = highest_below (map (λ (r : Row). r.set) program) 8 (λ x i.
    let r = map_in (λ (r : Row). r.set) program i in
    let e = r.2 in
    ⊎_elim (λ z. omega arith) (λ z. let h = (w.rule_rows r.0 r.1 (omega arith)).0 in omega arith) (equal_or_not r.0.set 0))
