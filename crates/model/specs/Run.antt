-- "Control program and run": run, the listing, and what keyrun prints.
use Rattle.std.specs.Prelude.{ℕ, zero, suc, ◌+◌, ◌-◌, ◌||◌, not, List, [], ◌∷◌, ◌++◌, map, eqb, ltb, get_or, if◌then◌else◌}
use Rattle.lists.specs.Lists.{within}
use Rattle.model.specs.Program.{Row}
use Rattle.model.specs.Text.{bytes}
use Rattle.model.specs.Load.{Loaded, loaded, load}
use Rattle.model.specs.Load as Load
use Rattle.model.specs.Render.{spaced}
use Rattle.model.specs.Configuration.{Atom, Plan, Config, fresh}
use Rattle.model.specs.WellFormed.{given_well}
use Rattle.model.specs.Log.{Log, Outcome, refused, accepted}
use Rattle.model.specs.Calls.{sense, step}

-- "phase 0, waiting, the limit, or a next step that would be refused", "with the refusal's number"
pub data Stop : Type 0 where
  at-phase-0 at-waiting at-limit : Stop
  next_refused : ℕ → Stop

-- "it returns the steps taken, their made and gone summed, and which"
pub record Run : Type 0 where
  pub config : Config
  pub steps : ℕ
  pub made : ℕ
  pub gone : ℕ
  pub stop : Stop

-- a run that has taken no step yet, and one that has taken one step more
unfoldable pub stopped : Config → Stop → Run
stopped c w = record { config = c; steps = 0; made = 0; gone = 0; stop = w }

unfoldable pub and_before : Config → Log → Run → Run
and_before c L r = record {
  config = r.config;
  steps = suc r.steps;
  made = (L.config.next - c.next) + r.made;
  gone = L.gone + r.gone;
  stop = r.stop;
}

-- "tested in that order after each step": phase 0, waiting, then what the rest of the run says
unfoldable pub after_step : Config → (Config → Run) → Run
after_step c rest =
    if eqb c.phase 0 then stopped c at-phase-0
    else if not (eqb c.waiting 0) then stopped c at-waiting
    else rest c

unfoldable pub step_then : Config → (Config → Run) → Outcome → Run
step_then c rest (refused n) = stopped c (next_refused n)
step_then c rest (accepted L) = and_before c L (after_step L.config rest)

-- at most n steps
unfoldable pub steps_of : List Row → ℕ → Config → Run
steps_of program zero c = stopped c at-limit
steps_of program (suc n) c = step_then c (steps_of program n) (step program c)

pub data RunOutcome : Type 0 where
  run_refused : ℕ → RunOutcome
  ran : Run → RunOutcome

-- "run, with a limit of 1 to 10,000, outside phase 0 and not waiting (else 6)"
unfoldable pub run : List Row → Config → ℕ → RunOutcome
run program c n =
    if not (given_well program c) then run_refused 1
    else if eqb c.phase 0 || not (eqb c.waiting 0) then run_refused 6
    else if not (within 1 10000 n) then run_refused 7
    else ran (steps_of program n c)

-- "`kind id p a b sub`, then live instances by id: kind 1 atom (sub 0), kind 2 plan (set, rule, steps left, subgoal id or 0)"
unfoldable pub atom_line : Atom → List ℕ
atom_line x = 1 ∷ x.id ∷ x.p ∷ x.a ∷ x.b ∷ 0 ∷ []

unfoldable pub plan_line : Plan → List ℕ
plan_line q = 2 ∷ q.id ∷ q.set ∷ q.rule ∷ q.left ∷ q.subgoal ∷ []

-- a line among lines in rising id
unfoldable pub by_id : List ℕ → List (List ℕ) → List (List ℕ)
by_id r [] = r ∷ []
by_id r (x ∷ xs) = if ltb (get_or r 1 0) (get_or x 1 0) then r ∷ x ∷ xs else x ∷ by_id r xs

unfoldable pub all_by_id : List (List ℕ) → List (List ℕ) → List (List ℕ)
all_by_id [] xs = xs
all_by_id (r ∷ rs) xs = all_by_id rs (by_id r xs)

unfoldable pub instances : Config → List (List ℕ)
instances c = all_by_id (map plan_line c.plans) (map atom_line c.atoms)

-- lines of numbers, as text
unfoldable pub as_text : List (List ℕ) → List ℕ
as_text [] = []
as_text (r ∷ rs) = spaced (map (λ n. n + 9) r) ++ (10 ∷ as_text rs)

unfoldable pub listing : Config → List ℕ
listing c = bytes "kind id p a b sub\n" ++ as_text (instances c)

-- "A refused call prints its number alone instead."
unfoldable pub refusal : ℕ → List ℕ
refusal n = as_text ((n ∷ []) ∷ [])

unfoldable pub after_run : RunOutcome → List ℕ
after_run (run_refused n) = refusal n
after_run (ran r) = listing r.config

unfoldable pub after_sense : List Row → Outcome → List ℕ
after_sense program (refused n) = refusal n
after_sense program (accepted L) = after_run (run program L.config 10)

-- "reads `key.prog` .. and loads it, takes sense 1 1 3 1200, run 10, and prints"
unfoldable pub after_load : Loaded → List ℕ
after_load (loaded program) = after_sense program (sense program (fresh program) (record { sign = 1; p = 1; a = 3; b = 1200 } ∷ []))
after_load (Load.refused n k) = refusal n

unfoldable pub keyrun : List ℕ → List ℕ
keyrun text = after_load (load text)

unfoldable pub opened : Unit {0}
unfolding stopped and_before after_step step_then steps_of run atom_line plan_line by_id all_by_id instances as_text listing refusal after_run after_sense after_load keyrun
opened = tt
