-- What the tests of one plan say, in the model's own tests.
use Rattle.std.specs.Prelude.{◌≡◌, Bool, false, ◌&&◌, ◌||◌, List, ℕ, ◌-◌, ◌/◌, ◌<◌, ◌≤◌, leb, ltb, eqb, length, get_or}
use Rattle.lists.specs.Lists.{every, some, first_of, rises, member, count_up}
use Rattle.model.specs.declared.Row.{Row}
use Rattle.model.specs.Configuration.{Plan, Config, remainder, no_value}
use Rattle.model.specs.Deletion.{node, graph}
use Rattle.model.specs.WellFormed.{node_formed, has_value, row_has_values, is_subgoal_step, plan_formed}
use Rattle.model.specs.Program.{part_of}
use Rattle.program.specs.Rows.{rows_of, rows_from}
use Rattle.state.specs.View.{atom_ids_of, AtomsRise}
use Rattle.formed_plans.specs.declared.Clauses.{Clauses}

-- the atoms as the first pass leaves them: within their limit, their ids rising from 1 on
pub record AtomsStand (words : List ℕ) (atoms : ℕ) : Type 0 where
  pub few : atoms ≤ 256
  pub rise : AtomsRise atoms words
  pub no_zero : member 0 (atom_ids_of atoms words) ≡ false

-- j is a live atom, and made before the plan
abbrev pub alive_below : List ℕ → ℕ → ℕ → Bool
alive_below ids id j = member j ids && ltb j id

-- of the words that hold a plan's justifications, j may stand behind i: 0 for none, or above i, where i is not none
abbrev pub may_follow : (ℕ → Bool) → ℕ → ℕ → Bool
may_follow alive i j = eqb j 0 || (ltb 0 i && (ltb i j && alive j))

-- "1 to 4 justifications"; "a plan's justifications are distinct"; "every link ends at a live instance and its id order rises"
abbrev pub justified : (ℕ → Bool) → List ℕ → Bool
justified alive js = leb 1 (length js) && (leb (length js) 4 && (rises js && every alive js))

abbrev pub subgoal_alive : List ℕ → Plan → Bool
subgoal_alive ids q = eqb q.subgoal 0 || (member q.subgoal ids && ltb q.id q.subgoal)

-- "a plan with a subgoal has as first step a subgoal step equal to that atom"
abbrev pub subgoal_first : List Row → Config → Plan → Bool
subgoal_first program c q = eqb q.subgoal 0 || some (is_subgoal_step c q) (first_of (remainder program q))

-- "an external action first"
abbrev pub acts_first : List Row → Plan → Bool
acts_first program q = some (λ (r : Row). eqb r.op 31) (first_of (remainder program q))

-- a plan whose links and whose parts are well formed
unfoldable pub plan_fits : List Row → Config → Plan → Bool
plan_fits program c q = node_formed (graph c) (node q) && plan_formed program c q

-- no value is above the limit of its place
unfoldable pub within_limits : List ℕ → List ℕ → Bool
within_limits limits values = every (λ (i : ℕ). leb (get_or values i no_value) (get_or limits i 0)) (count_up 0 8)

-- limits of eight values, each that of a value or of none
pub record Limits (limits : List ℕ) : Type 0 where
  pub low : (i : ℕ) → i < 8 → 65535 ≤ get_or limits i 0
  pub high : (i : ℕ) → i < 8 → get_or limits i 0 ≤ no_value

-- within the second limits are the values that are within the first and have one for operand x
abbrev pub Demanded : List ℕ → ℕ → List ℕ → Type 0
Demanded first x second = (v : List ℕ) → within_limits second v ≡ (within_limits first v && has_value v x)

-- within the limits are the values that may be, where each variable of the rows has one
abbrev pub Limited : List ℕ → List Row → Type 0
Limited limits rows = (v : List ℕ) → length v ≡ 8 → within_limits limits v ≡ (every (λ x. leb x no_value) v && every (row_has_values v) rows)

-- the spans are those of the rule's reasons and of its body, and the limits are the body's
pub record ClausesAt (program : List ℕ) (c : Clauses) : Type 0 where
  pub reasons : rows_from program c.reasons.from (c.reasons.to - c.reasons.from) ≡ part_of (rows_of program) c.set c.rule 1
  pub bounded : (c.body.from ≤ c.body.to) × (c.body.to ≤ length program / 8)
  pub body : rows_from program c.body.from (c.body.to - c.body.from) ≡ part_of (rows_of program) c.set c.rule 3
  pub limits : Limited c.limits (part_of (rows_of program) c.set c.rule 3)
