-- "The configuration": atom and plan instances, each list in rising id (DECISIONS 31), and the scalars.
use Rattle.std.specs.Prelude.{ℕ, suc, ◌+◌, ◌-◌, ◌/◌, ◌%◌, ◌^◌, ◌≡◌, Bool, ◌&&◌, List, [], ◌∷◌, ◌++◌, map, eqb, length, get_or, drop, replicate, if◌then◌else◌}
use Rattle.lists.specs.Lists.{member}
use Rattle.model.specs.Program.{Row, constant?, constant, body, initial_atoms}
pub use Rattle.model.specs.declared.Atom.{Atom}

-- "Plan instance: id, set and rule it came from, the values of its rule's variables, remainder (a suffix of the rule's body),
-- 1 to 4 justifications (atom ids), at most one subgoal (an atom id), flags."
pub record Plan : Type 0 where
  pub id : ℕ
  pub set : ℕ
  pub rule : ℕ
  -- of variables 1 to 8; 65,536 for none
  pub values : List ℕ
  -- the length of the remainder
  pub left : ℕ
  -- in rising id
  pub justifications : List ℕ
  -- 0 for none
  pub subgoal : ℕ
  pub flags : ℕ

pub record Config : Type 0 where
  pub atoms : List Atom
  pub plans : List Plan
  pub phase : ℕ
  pub cycle : ℕ
  pub next : ℕ
  -- the plan waiting for an answer, 0 for none
  pub waiting : ℕ

-- phase, cycle and the waiting plan are as they were
pub record SameScalars (c d : Config) : Type 0 where
  pub same_phase : d.phase ≡ c.phase
  pub same_cycle : d.cycle ≡ c.cycle
  pub same_waiting : d.waiting ≡ c.waiting

-- "At most 256 alive." "At most 64 alive." "next id 1 to 65,536"
abbrev pub most_atoms : ℕ
most_atoms = 256

abbrev pub most_plans : ℕ
most_plans = 64

abbrev pub last_next : ℕ
last_next = 65536

-- the value of a variable that has none
abbrev pub no_value : ℕ
no_value = 65536

unfoldable pub no_values : List ℕ
no_values = replicate 8 no_value

-- where variable x of an operand stands among the values: variable 1, which is operand 8, stands first
abbrev pub place : ℕ → ℕ
place x = 8 - x

abbrev pub value_of : List ℕ → ℕ → ℕ
value_of values x = get_or values (place x) no_value

-- the number that a body operand stands for
unfoldable pub operand : List ℕ → ℕ → ℕ
operand values x = if constant? x then constant x else value_of values x

-- "The sixteen flags of a plan instance are one 16-bit number, flag f having weight 2^(f-1):
-- 1 intended, 2 scheduled, 3 stepped, 4 failed, 5 to 16 the setter's."
abbrev pub weight : ℕ → ℕ
weight f = 2 ^ (f - 1)

abbrev pub scheduled : ℕ
scheduled = 2

abbrev pub stepped : ℕ
stepped = 3

abbrev pub failed : ℕ
failed = 4

unfoldable pub has_flag : ℕ → ℕ → Bool
has_flag f flags = eqb (flags / weight f % 2) 1

unfoldable pub with_flag : ℕ → ℕ → ℕ
with_flag f flags = if has_flag f flags then flags else flags + weight f

unfoldable pub without_flag : ℕ → ℕ → ℕ
without_flag f flags = if has_flag f flags then flags - weight f else flags

-- "remainder (a suffix of the rule's body)"
unfoldable pub remainder : List Row → Plan → List Row
remainder program q = drop (length (body program q.set q.rule) - q.left) (body program q.set q.rule)

abbrev pub atom_ids : Config → List ℕ
atom_ids c = map (λ (x : Atom). x.id) c.atoms

abbrev pub plan_ids : Config → List ℕ
plan_ids c = map (λ (q : Plan). q.id) c.plans

unfoldable pub atom_alive : Config → ℕ → Bool
atom_alive c n = member n (atom_ids c)

unfoldable pub plan_alive : Config → ℕ → Bool
plan_alive c n = member n (plan_ids c)

-- the atom is p(a, b)
abbrev pub equal_to : ℕ → ℕ → ℕ → Atom → Bool
equal_to p a b x = eqb x.p p && (eqb x.a a && eqb x.b b)

-- changes of one plan
abbrev pub with_flags : (ℕ → ℕ) → Plan → Plan
with_flags f q = record { id = q.id; set = q.set; rule = q.rule; values = q.values; left = q.left; justifications = q.justifications; subgoal = q.subgoal; flags = f q.flags }

-- without its first step
abbrev pub step_removed : Plan → Plan
step_removed q = record { id = q.id; set = q.set; rule = q.rule; values = q.values; left = q.left - 1; justifications = q.justifications; subgoal = q.subgoal; flags = q.flags }

abbrev pub with_subgoal : ℕ → Plan → Plan
with_subgoal n q = record { id = q.id; set = q.set; rule = q.rule; values = q.values; left = q.left; justifications = q.justifications; subgoal = n; flags = q.flags }

-- the plan n changed, every other as it was
abbrev pub at_plan : ℕ → (Plan → Plan) → Plan → Plan
at_plan n f q = if eqb q.id n then f q else q

-- changes of the configuration
abbrev pub with_instances : Config → List Atom → List Plan → ℕ → Config
with_instances c xs qs k = record { atoms = xs; plans = qs; phase = c.phase; cycle = c.cycle; next = k; waiting = c.waiting }

abbrev pub with_phase : ℕ → Config → Config
with_phase n c = record { atoms = c.atoms; plans = c.plans; phase = n; cycle = c.cycle; next = c.next; waiting = c.waiting }

abbrev pub with_waiting : ℕ → Config → Config
with_waiting n c = record { atoms = c.atoms; plans = c.plans; phase = c.phase; cycle = c.cycle; next = c.next; waiting = n }

abbrev pub change_plan : ℕ → (Plan → Plan) → Config → Config
change_plan n f c = with_instances c c.atoms (map (at_plan n f) c.plans) c.next

abbrev pub new_atom : Config → ℕ → ℕ → ℕ → Atom
new_atom c p a b = record { id = c.next; p = p; a = a; b = b; cycle = c.cycle }

-- "An object rule makes a plan with no flags."
abbrev pub new_plan : Config → ℕ → ℕ → List ℕ → ℕ → List ℕ → Plan
new_plan c s n values left js = record { id = c.next; set = s; rule = n; values = values; left = left; justifications = js; subgoal = 0; flags = 0 }

-- "Atoms and plans share one run of ids; an id is never used again." What is made stands last, since ids rise.
abbrev pub add_atom : ℕ → ℕ → ℕ → Config → Config
add_atom p a b c = with_instances c (c.atoms ++ (new_atom c p a b ∷ [])) c.plans (suc c.next)

abbrev pub add_plan : ℕ → ℕ → List ℕ → ℕ → List ℕ → Config → Config
add_plan s n values left js c = with_instances c c.atoms (c.plans ++ (new_plan c s n values left js ∷ [])) (suc c.next)

-- an atom made and linked as the subgoal of plan k
abbrev pub add_subgoal : ℕ → ℕ → ℕ → ℕ → Config → Config
add_subgoal k p a b c = with_instances c (c.atoms ++ (new_atom c p a b ∷ [])) (map (at_plan k (with_subgoal c.next)) c.plans) (suc c.next)

-- "A fresh configuration has phase 0, cycle 0, next id 1, then takes the program's initial atoms in row order."
abbrev pub empty : Config
empty = record { atoms = []; plans = []; phase = 0; cycle = 0; next = 1; waiting = 0 }

unfoldable pub with_initial : List Row → Config → Config
with_initial [] c = c
with_initial (r ∷ rs) c = with_initial rs (add_atom r.p (constant r.a) (constant r.b) c)

unfoldable pub fresh : List Row → Config
fresh program = with_initial (initial_atoms program) empty

unfoldable pub opened : Unit {0}
unfolding no_values operand has_flag with_flag without_flag remainder atom_alive plan_alive with_initial fresh
opened = tt
