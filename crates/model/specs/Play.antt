-- Calls in turn on a loaded program, and what they leave, as text: the form of the tables in Keys and Cases.
-- The first line is what the last call answered: number, made, gone, and what a step did (`did_numbers`), or after a run the steps taken
-- and why it stopped (`stop_number`). The second line: phase, cycle, next id, waiting. Then the live instances by id: an atom's kind 1,
-- id, p, a, b and 0; a plan's kind 2, id, set, rule, steps left, subgoal, flags and justifications.
use Rattle.std.specs.Prelude.{ℕ, Bool, List, [], ◌∷◌, map}
use Prim.Native.String.{String}
use Prim.Native.String as S
use Rattle.lists.specs.Lists as Lists
use Rattle.lists.specs.Lists.{same}
use Rattle.model.specs.Program.{Row}
use Rattle.model.specs.Program as Program
use Rattle.model.specs.Configuration.{Plan, Config, fresh}
use Rattle.model.specs.Configuration as Configuration
use Rattle.model.specs.Text.{bytes}
use Rattle.model.specs.Text as Text
use Rattle.model.specs.Load.{Loaded, loaded, load}
use Rattle.model.specs.Load as Load
use Rattle.model.specs.Render as Render
use Rattle.model.specs.WellFormed as WellFormed
use Rattle.model.specs.Matching as Matching
use Rattle.model.specs.Log.{Answer, answer_of}
use Rattle.model.specs.Log as Log
use Rattle.model.specs.Calls.{Reading, sense, step, answer, delete}
use Rattle.model.specs.Calls as Calls
use Rattle.model.specs.Run.{Run, RunOutcome, ran, run_refused, run, atom_line, all_by_id, as_text}
use Rattle.model.specs.Run as Run
use Rattle.model.specs.Numbers.{did_numbers, stop_number, stop_refusal}
use Rattle.model.specs.Numbers as Numbers

pub data Act : Type 0 where
  senses : List Reading → Act
  steps : Act
  answers : ℕ → Act
  deletes : ℕ → Act
  runs : ℕ → Act
  -- the configuration in another program's company from here on
  under : String → Act
  -- another configuration from here on, whatever it is
  given : Config → Act

-- what a call answered, as numbers, and the configuration after it
pub record Left : Type 0 where
  pub program : List Row
  pub config : Config
  pub answered : List ℕ

unfoldable pub after_answer : List Row → Answer → Left
after_answer program a = record { program = program; config = a.config; answered = a.number ∷ a.made ∷ a.gone ∷ did_numbers a.did }

unfoldable pub after_run : List Row → Config → RunOutcome → Left
after_run program c (run_refused n) = record { program = program; config = c; answered = n ∷ 0 ∷ 0 ∷ [] }
after_run program c (ran r) = record { program = program; config = r.config; answered = 0 ∷ r.made ∷ r.gone ∷ r.steps ∷ stop_number r.stop ∷ stop_refusal r.stop }

unfoldable pub rows_or_none : Loaded → List Row
rows_or_none (loaded program) = program
rows_or_none (Load.refused n k) = []

-- a text of the tables stands without its names line
unfoldable pub text : String → List ℕ
text t = bytes (S.◌++◌ "set rule part op i p a b\n" t)

unfoldable pub play : Left → Act → Left
play l (senses rs) = after_answer l.program (answer_of l.config (sense l.program l.config rs))
play l steps = after_answer l.program (answer_of l.config (step l.program l.config))
play l (answers n) = after_answer l.program (answer_of l.config (answer l.program l.config n))
play l (deletes t) = after_answer l.program (answer_of l.config (delete l.program l.config t))
play l (runs n) = after_run l.program l.config (run l.program l.config n)
play l (under t) = record { program = rows_or_none (load (text t)); config = l.config; answered = [] }
play l (given c) = record { program = l.program; config = c; answered = [] }

unfoldable pub play_all : Left → List Act → Left
play_all l [] = l
play_all l (a ∷ acts) = play_all (play l a) acts

unfoldable pub plan_line : Plan → List ℕ
plan_line q = 2 ∷ q.id ∷ q.set ∷ q.rule ∷ q.left ∷ q.subgoal ∷ q.flags ∷ q.justifications

unfoldable pub lines_of : Left → List (List ℕ)
lines_of l =
    l.answered
    ∷ (l.config.phase ∷ l.config.cycle ∷ l.config.next ∷ l.config.waiting ∷ [])
    ∷ all_by_id (map plan_line l.config.plans) (map atom_line l.config.atoms)

-- a refused load shows its number and line
unfoldable pub shown : List Act → Loaded → List ℕ
shown acts (loaded program) = as_text (lines_of (play_all (record { program = program; config = fresh program; answered = [] }) acts))
shown acts (Load.refused n k) = as_text ((n ∷ k ∷ []) ∷ [])

-- a program, calls in turn, and what the last one leaves
pub record Key : Type 0 where
  pub program : String
  pub calls : List Act
  pub leaves : String

unfoldable pub key : String → List Act → String → Key
key t acts l = record { program = t; calls = acts; leaves = l }

unfoldable pub holds : Key → Bool
holds k = same (shown k.calls (load (text k.program))) (bytes k.leaves)

unfoldable pub add : ℕ → ℕ → ℕ → Reading
add p a b = record { sign = 1; p = p; a = a; b = b }

unfoldable pub withdraw : ℕ → ℕ → ℕ → Reading
withdraw p a b = record { sign = 2; p = p; a = a; b = b }

-- all that a row computes with
unfoldable pub opened : Unit {0}
unfolding after_answer after_run rows_or_none text play play_all plan_line lines_of shown key holds add withdraw Lists.opened Program.opened Configuration.opened Text.opened Load.opened Render.opened WellFormed.opened Matching.opened Log.opened Calls.opened Run.opened Numbers.opened
opened = tt
