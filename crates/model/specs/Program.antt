-- A program: rows of eight numbers, and how its sets and rules are read off them.
use Rattle.std.specs.Prelude.{ℕ, ◌+◌, ◌-◌, Bool, ◌&&◌, not, List, map, leb, eqb}
use Rattle.lists.specs.Lists.{within, keep, count_up, highest, is_empty}
pub use Rattle.model.specs.declared.Row.{Row}

-- "Columns i, a, b of rules are operands: 0 and up a constant, -1 to -8 variables 1 to 8, -9 "any"."
-- An operand is held 9 higher than written: 0 is any, 8 down to 1 are variables 1 to 8, 9 and up are constants.
abbrev pub any? : ℕ → Bool
any? x = eqb x 0

abbrev pub variable? : ℕ → Bool
variable? x = within 1 8 x

abbrev pub constant? : ℕ → Bool
constant? x = leb 9 x

-- "Unused columns are 0."
abbrev pub unused? : ℕ → Bool
unused? x = eqb x 9

abbrev pub constant_within : ℕ → ℕ → ℕ → Bool
constant_within low high x = within (low + 9) (high + 9) x

-- "a constant flag 1 to 16"
abbrev pub flag? : ℕ → Bool
flag? x = constant_within 1 16 x

-- "0 and up a constant"
abbrev pub constant : ℕ → ℕ
constant x = x - 9

-- "part 1 (reasons)", "part 2 (context)", "part 3 (body)"
unfoldable pub part_of : List Row → ℕ → ℕ → ℕ → List Row
part_of program s n part = keep (λ (r : Row). eqb r.set s && (eqb r.rule n && eqb r.part part)) program

abbrev pub reasons : List Row → ℕ → ℕ → List Row
reasons program s n = part_of program s n 1

abbrev pub context : List Row → ℕ → ℕ → List Row
context program s n = part_of program s n 2

abbrev pub body : List Row → ℕ → ℕ → List Row
body program s n = part_of program s n 3

-- "k = number of rule sets", which are "numbered from 1 without gaps"
unfoldable pub sets : List Row → ℕ
sets program = highest (map (λ (r : Row). r.set) program)

-- the rules of a set, "numbered from 1 without gaps"
unfoldable pub rules_of : List Row → ℕ → List ℕ
rules_of program s = count_up 1 (highest (map (λ (r : Row). r.rule) (keep (λ (r : Row). eqb r.set s) program)))

-- "With reasons it is an object rule, otherwise a meta rule"
unfoldable pub is_object : List Row → ℕ → ℕ → Bool
is_object program s n = not (is_empty (reasons program s n))

-- "op 41 an initial atom p, a, b"; "op 40 a ceiling"
unfoldable pub initial_atoms : List Row → List Row
initial_atoms program = keep (λ (r : Row). eqb r.set 0 && eqb r.op 41) program

unfoldable pub opened : Unit {0}
unfolding part_of sets rules_of is_object initial_atoms
opened = tt
