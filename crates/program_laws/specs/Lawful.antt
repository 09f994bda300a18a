-- What the rows of a well-formed program are like: the tests of a load, as facts about the whole program.
use Rattle.std.specs.Prelude.{◌≡◌, true, false, ◌⊎◌, ◌≢◌, List, ◌∷◌, ◌++◌, ℕ, ◌≤◌, length}
use Rattle.lists.specs.Lists.{In, Pairs}
use Rattle.model.specs.declared.Row.{Row}
use Rattle.model.specs.declared.Scan.{Scan}
use Rattle.model.specs.Program.{variable?, constant?, constant_within, reasons, context, body, is_object, initial_atoms}
use Rattle.model.specs.Load.{query, action, plan_step, odd_query}
use Rattle.model.specs.Render.{in_range}

-- "a variable given a value by a reason, a positive context row or an earlier 21": the row gives operand x a value
abbrev pub Gives : Row → ℕ → Type 0
Gives r x = ((odd_query r.op ≡ true) × ((x ≡ r.i) ⊎ ((x ≡ r.a) ⊎ (x ≡ r.b)))) ⊎ ((r.op ≡ 21) × (x ≡ r.i))

-- some row of the list does
abbrev pub Given : List Row → ℕ → Type 0
Given rows x = (r : Row) × In r rows × Gives r x

-- a body row needs the value of operand x; the i of a 21 takes one
abbrev pub Uses : Row → ℕ → Type 0
Uses r x = (x ≡ r.a) ⊎ ((x ≡ r.b) ⊎ ((x ≡ r.i) × (r.op ≢ 21)))

-- "rows by set, rule, part"
pub record NotLater (r q : Row) : Type 0 where
  pub sets : r.set ≤ q.set
  pub rules : r.set ≡ q.set → r.rule ≤ q.rule
  pub parts : r.set ≡ q.set → r.rule ≡ q.rule → r.part ≤ q.part

pub record Lawful (program : List Row) : Type 0 where
  pub ranges : (r : Row) → In r program → in_range r ≡ true
  pub ordered : Pairs NotLater program
  pub few_rows : length program ≤ 512
  -- "Set 0 rows have rule 0, part 0"; "Sets 1 to 8, rules 1 to 32 in a set"
  pub set_0_rows : (r : Row) → In r program → r.set ≡ 0 → (r.rule ≡ 0) × (r.part ≡ 0)
  pub rule_rows : (r : Row) → In r program → 1 ≤ r.set → (r.set ≤ 8) × (1 ≤ r.rule) × (r.rule ≤ 32) × (1 ≤ r.part) × (r.part ≤ 3)
  -- "up to 4 rows of part 1 (reasons), 6 of part 2 (context), 8 of part 3 (body)"
  pub few_reasons : (s n : ℕ) → length (reasons program s n) ≤ 4
  pub few_context : (s n : ℕ) → length (context program s n) ≤ 6
  pub short_body : (s n : ℕ) → length (body program s n) ≤ 8
  -- "Reasons use 1; an object rule's context 1 and 2; a meta rule's context 1 to 14."
  pub reason_rows : (s n : ℕ) (r : Row) → In r (reasons program s n) → (r.op ≡ 1) × (1 ≤ r.p)
  pub context_rows : (s n : ℕ) (r : Row) → In r (context program s n) → query r ≡ true
  pub object_context : (s n : ℕ) → is_object program s n ≡ true → (r : Row) → In r (context program s n) → r.op ≤ 2
  -- "Actions of meta rules", "Steps of plans"
  pub object_body : (s n : ℕ) → is_object program s n ≡ true → (r : Row) → In r (body program s n) → plan_step r ≡ true
  pub meta_body : (s n : ℕ) → is_object program s n ≡ false → (r : Row) → In r (body program s n) → (t : Scan) × (action t r ≡ true)
  -- "Each other body operand that is used is a constant or a variable given a value by a reason, a positive context row or an earlier 21."
  pub valued : (s n : ℕ) (before : List Row) (r : Row) (after : List Row) → body program s n ≡ before ++ (r ∷ after) →
      (x : ℕ) → Uses r x → variable? x ≡ true → Given (reasons program s n ++ (context program s n ++ before)) x
  -- "an initial atom p, a, b", "constants only"; "256 initial atoms"
  pub few_initial : length (initial_atoms program) ≤ 256
  pub initial_rows : (r : Row) → In r (initial_atoms program) → (1 ≤ r.p) × (constant? r.a ≡ true) × (constant? r.b ≡ true)
  -- "a ceiling ..: a sensed p whose second argument is at least a (1 to 65,535) is taken as predicate b (1 to 255)"
  pub ceilings : (r : Row) → In r program → r.set ≡ 0 → r.op ≡ 40 → constant_within 1 255 r.b ≡ true
  pub ceiling_marks : (r : Row) → In r program → r.set ≡ 0 → r.op ≡ 40 → constant_within 1 65535 r.a ≡ true
