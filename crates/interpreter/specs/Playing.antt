-- A list of calls as words, and what a play of it comes to.
use Rattle.std.specs.Prelude.{◌≡◌, ◌≢◌, ◌&&◌, Option, MatchOption, Result, Ok, Err, List, [], ◌∷◌, ℕ, zero, suc, ◌+◌, ◌-◌, eqb, leb, length, take, drop, get_or, if◌then◌else◌}
use Rattle.lists.specs.Lists.{within}
use Rattle.model.specs.declared.Row.{Row}
use Rattle.model.specs.declared.refusal.LoadError.{LoadError}
use Rattle.model.specs.Refusals.{number_of}
use Rattle.model.specs.Program.{initial_atoms}
use Rattle.model.specs.Configuration.{empty, fresh}
use Rattle.model.specs.Configuration as Configuration
use Rattle.model.specs.Deletion.{graph}
use Rattle.model.specs.Load.{Loaded, loaded, refused, load}
use Rattle.model.specs.Log.{Answer, called}
use Rattle.model.specs.Claims.{Call, to_sense, to_step, to_answer, to_delete, config_after, events_after, made_after, gone_after, Accounted}
use Rattle.in_place.specs.Given.{given_rows, readings_of}
use Rattle.in_place.specs.declared.Counts.{Counts}
use Rattle.interpreter.specs.declared.Worked.{Worked}
use Rattle.interpreter.specs.declared.Played.{Played}
use Rattle.interpreter.specs.Calls.{conf}

-- THE WORDS OF A CALL: its kind, own and operand, then the words of its own program, then those of its readings

-- 1 sense, 2 step, 3 answer, 4 delete
abbrev pub kind : List ℕ → ℕ
kind words = get_or words 0 0

-- "given the loaded program or another": 0, or 1 more than the words of the other
abbrev pub own : List ℕ → ℕ
own words = get_or words 1 0

-- how many words its readings are; the answer; the id to delete
abbrev pub operand : List ℕ → ℕ
operand words = get_or words 2 0

abbrev pub program_end : List ℕ → ℕ
program_end words = 3 + (own words - 1)

abbrev pub call_end : List ℕ → ℕ
call_end words = program_end words + (if eqb (kind words) 1 then operand words else 0)

-- how many words the first call takes; 0: no call, since its kind is none of these or the words are too few
unfoldable pub call_size : List ℕ → ℕ
call_size words = if within 1 4 (kind words) && leb (call_end words) (length words) then call_end words else 0

unfoldable pub program_in : List Row → List ℕ → List Row
program_in program words = if eqb (own words) 0 then program else given_rows (take (own words - 1) (drop 3 words))

unfoldable pub call_by : List Row → ℕ → ℕ → List ℕ → Call
call_by program kind n rest =
    if eqb kind 1 then to_sense program (readings_of (take n rest))
    else if eqb kind 2 then to_step program
    else if eqb kind 3 then to_answer program n
    else to_delete program n

unfoldable pub first_call : List Row → List ℕ → Call
first_call program words = call_by (program_in program words) (kind words) (operand words) (drop (program_end words) words)

-- the calls one after the other, at most so many; words that are no call end the list
unfoldable pub calls_in : ℕ → List Row → List ℕ → List Call
calls_in zero program words = []
calls_in (suc most) program words = if eqb (call_size words) 0 then [] else first_call program words ∷ calls_in most program (drop (call_size words) words)

-- all of them: there are no more calls than words
unfoldable pub calls_of : List Row → List ℕ → List Call
calls_of program words = calls_in (length words) program words

-- "every list of sense, step, answer and delete calls" is what some words are
unfoldable pub EveryList : Type 0
EveryList = (program : List Row) (ks : List Call) → (words : List ℕ) × (calls_of program words ≡ ks)

-- A PLAY: the refusal of the load and its line, or how many calls were worked; the configuration; what the calls reported in all
pub record PlayOutcome : Type 0 where
  pub config : Configuration.Config
  pub number : ℕ
  pub line : ℕ
  pub calls : ℕ
  pub made : ℕ
  pub gone : ℕ

abbrev pub after_calls : List Row → List Call → PlayOutcome
after_calls program ks = record { config = config_after (fresh program) ks; number = 0; line = 0; calls = length ks; made = made_after (fresh program) ks; gone = gone_after (fresh program) ks }

unfoldable pub after_load : List ℕ → Loaded → PlayOutcome
after_load words (refused n k) = record { config = empty; number = n; line = k; calls = 0; made = 0; gone = 0 }
after_load words (loaded program) = after_calls program (calls_of program words)

-- the calls "after an accepted load, refused ones included"
abbrev pub playing : List ℕ → List ℕ → PlayOutcome
playing text words = after_load words (load text)

abbrev pub come_to : Configuration.Config → Result Worked LoadError → PlayOutcome
come_to c (Ok w) = record { config = c; number = 0; line = 0; calls = w.calls; made = w.made; gone = w.gone }
come_to c (Err e) = record { config = c; number = number_of e.refusal; line = e.line; calls = 0; made = 0; gone = 0 }

abbrev pub outcome : Played → PlayOutcome
outcome r = come_to (conf r.config) r.worked

-- demand 3 of what a play gave
unfoldable pub AccountedFor : List ℕ → List ℕ → Played → Type 0
AccountedFor text words r = (program : List Row) → load text ≡ loaded program →
    Accounted (length (initial_atoms program)) (events_after (fresh program) (calls_of program words)) (graph (conf r.config)) (outcome r).made (outcome r).gone

-- ON THE WAY: the answer, but for what a step did
abbrev pub call_answer : Answer → Answer
call_answer a = record { number = a.number; did = called; config = a.config; made = a.made; gone = a.gone }

-- a text was loaded to the rows, and c is its configuration
pub record Begun (program : List ℕ) (c : Configuration.Config) : Type 0 where
  pub text : List ℕ
  pub loads : load text ≡ loaded (given_rows program)
  pub starts : c ≡ fresh (given_rows program)

-- one call more
abbrev pub and_counted : Worked → Counts → Worked
and_counted w t = record { calls = w.calls + 1; made = w.made + t.made; gone = w.gone + t.gone }

-- the size of a call, where 0 says that there is none
abbrev pub SizeOf : ℕ → Option ℕ → Type 0
SizeOf n r = MatchOption r (n ≡ 0) (λ k. (n ≡ k) × (n ≢ 0))
