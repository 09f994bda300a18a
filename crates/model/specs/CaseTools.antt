-- What the tables of cases are built from: texts by repetition, configurations by hand, and further kinds of row beside the `Key` of Play.
-- Rn at a row of a table is decision n of docs/DECISIONS.md, which the row shows; a quotation is the paper's sentence.
use Rattle.std.specs.Prelude.{ℕ, zero, suc, ◌+◌, ◌/◌, ◌%◌, Bool, List, [], ◌∷◌, ◌++◌, map, eqb, length, replicate}
use Prim.Native.String.{String}
use Prim.Native.String as S
use Rattle.lists.specs.Lists.{count_up, same}
use Rattle.model.specs.Program.{Row}
use Rattle.model.specs.Configuration.{Atom, Plan, Config, no_value, fresh}
use Rattle.model.specs.Text.{bytes}
use Rattle.model.specs.Load.{Loaded, loaded, load}
use Rattle.model.specs.Load as Load
use Rattle.model.specs.Render.{lines_of}
use Rattle.model.specs.Log.{answer_of}
use Rattle.model.specs.Calls.{Reading, delete}
use Rattle.model.specs.Run.{as_text, keyrun}
use Rattle.model.specs.Play.{Act, Left, play_all, rows_or_none, text}
use Rattle.model.specs.Play as Play

-- TEXTS

unfoldable pub repeat : ℕ → String → String
repeat zero t = ""
repeat (suc n) t = S.◌++◌ t (repeat n t)

unfoldable pub joined : List String → String
joined [] = ""
joined (t ∷ ts) = S.◌++◌ t (joined ts)

-- set, rule, part, op, i, p, a, b; the operands as they are held, 9 higher
unfoldable pub row : ℕ → ℕ → ℕ → ℕ → ℕ → ℕ → ℕ → ℕ → Row
row s n part op i p a b = record { set = s; rule = n; part = part; op = op; i = i; p = p; a = a; b = b }

-- n rules of one reason each, 32 to a set
unfoldable pub one_row_rules : ℕ → List Row
one_row_rules n = map (λ (k : ℕ). row (k / 32 + 1) (k % 32 + 1) 1 1 0 1 0 0) (count_up 0 n)

-- CONFIGURATIONS

-- id, p, a, b, cycle
unfoldable pub atom : ℕ → ℕ → ℕ → ℕ → ℕ → Atom
atom id p a b cycle = record { id = id; p = p; a = a; b = b; cycle = cycle }

-- id, set, rule, steps left, subgoal, flags, justifications, values
unfoldable pub plan : ℕ → ℕ → ℕ → ℕ → ℕ → ℕ → List ℕ → List ℕ → Plan
plan id s n left subgoal flags js values =
    record { id = id; set = s; rule = n; values = values; left = left; justifications = js; subgoal = subgoal; flags = flags }

-- the values of variables 1, 2 and 3; the others have none
unfoldable pub three : ℕ → ℕ → ℕ → List ℕ
three x y z = x ∷ y ∷ z ∷ replicate 5 no_value

-- atoms, plans, phase, cycle, next id, waiting plan
unfoldable pub config : List Atom → List Plan → ℕ → ℕ → ℕ → ℕ → Config
config atoms plans phase cycle next waiting = record { atoms = atoms; plans = plans; phase = phase; cycle = cycle; next = next; waiting = waiting }

-- n atoms 1 0 0 with ids from k on
unfoldable pub atoms_from : ℕ → ℕ → List Atom
atoms_from k n = map (λ (id : ℕ). atom id 1 0 0 0) (count_up k n)

-- n plans of rule 1 of set 1 with ids from k on, with no step left and justified by atom 1
unfoldable pub plans_from : ℕ → ℕ → List Plan
plans_from k n = map (λ (id : ℕ). plan id 1 1 0 0 0 (1 ∷ []) (three 1 0 0)) (count_up k n)

-- LOADS: a text, and the number and line that it is refused with; 0 and 0 where it is accepted
pub record LoadCase : Type 0 where
  pub text : List ℕ
  pub number : ℕ
  pub line : ℕ

unfoldable pub loads : String → LoadCase
loads t = record { text = text t; number = 0; line = 0 }

unfoldable pub refuses : String → ℕ → ℕ → LoadCase
refuses t n k = record { text = text t; number = n; line = k }

-- a text that brings its own names line, or none
unfoldable pub whole : String → ℕ → ℕ → LoadCase
whole t n k = record { text = bytes t; number = n; line = k }

-- a text, then rows
unfoldable pub with_rows : String → List Row → ℕ → ℕ → LoadCase
with_rows t rows n k = record { text = text t ++ lines_of rows; number = n; line = k }

unfoldable pub verdict : Loaded → List ℕ
verdict (loaded program) = 0 ∷ 0 ∷ []
verdict (Load.refused n k) = n ∷ k ∷ []

unfoldable pub load_holds : LoadCase → Bool
load_holds c = same (verdict (load c.text)) (c.number ∷ c.line ∷ [])

-- HANDED IN: a program and a configuration, whatever they are, and the number that `delete 0` answers: 1 where one of them is not
-- well formed, else 12, or 6 while a plan waits
pub record Handed : Type 0 where
  pub program : List Row
  pub config : Config
  pub number : ℕ

unfoldable pub handed : String → Config → ℕ → Handed
handed t c n = record { program = rows_or_none (load (text t)); config = c; number = n }

unfoldable pub handed_rows : List Row → Config → ℕ → Handed
handed_rows rows c n = record { program = rows; config = c; number = n }

unfoldable pub handed_holds : Handed → Bool
handed_holds h = eqb (answer_of h.config (delete h.program h.config 0)).number h.number

-- COUNTED: as a Key, but of the instances only how many atoms and how many plans are alive
pub record Counted : Type 0 where
  pub program : String
  pub calls : List Act
  pub leaves : String

unfoldable pub counted : String → List Act → String → Counted
counted t acts l = record { program = t; calls = acts; leaves = l }

unfoldable pub counts_of : Left → List (List ℕ)
counts_of l =
    l.answered
    ∷ (l.config.phase ∷ l.config.cycle ∷ l.config.next ∷ l.config.waiting ∷ [])
    ∷ (length l.config.atoms ∷ length l.config.plans ∷ []) ∷ []

unfoldable pub start : List Row → Left
start program = record { program = program; config = fresh program; answered = [] }

unfoldable pub counted_holds : Counted → Bool
counted_holds c = same (as_text (counts_of (play_all (start (rows_or_none (load (text c.program)))) c.calls))) (bytes c.leaves)

-- DATED: calls in turn, and the cycles in which the atoms then alive were made, in rising id
pub record Dated : Type 0 where
  pub program : String
  pub calls : List Act
  pub cycles : List ℕ

unfoldable pub dated : String → List Act → List ℕ → Dated
dated t acts cs = record { program = t; calls = acts; cycles = cs }

unfoldable pub dated_holds : Dated → Bool
dated_holds d =
    same (map (λ (x : Atom). x.cycle) (play_all (start (rows_or_none (load (text d.program)))) d.calls).config.atoms) d.cycles

-- PRINTED: a text, and what keyrun prints
pub record Printed : Type 0 where
  pub text : List ℕ
  pub prints : List ℕ

-- a text that brings its own names line, or none
unfoldable pub prints : String → String → Printed
prints t p = record { text = bytes t; prints = bytes p }

-- a text without its names line; in print n atoms 1 0 0, then what is given
unfoldable pub lists_atoms : String → ℕ → String → Printed
lists_atoms t n p = record {
  text = text t;
  prints = bytes "kind id p a b sub\n" ++ as_text (map (λ (id : ℕ). 1 ∷ id ∷ 1 ∷ 0 ∷ 0 ∷ 0 ∷ []) (count_up 1 n)) ++ bytes p;
}

unfoldable pub printed_holds : Printed → Bool
printed_holds c = same (keyrun c.text) c.prints

-- a reading with any sign
unfoldable pub reading : ℕ → ℕ → ℕ → ℕ → Reading
reading s p a b = record { sign = s; p = p; a = a; b = b }

-- all that a row computes with
unfoldable pub opened : Unit {0}
unfolding repeat joined one_row_rules row atom plan three config atoms_from plans_from loads refuses whole with_rows verdict load_holds handed handed_rows handed_holds counted counts_of start counted_holds dated dated_holds prints lists_atoms printed_holds reading Play.opened
opened = tt
