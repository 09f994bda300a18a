-- The claims: what is proved of the rules. Each is one statement; the crate that proves it is named.
use Rattle.std.specs.Prelude.{◌≡◌, true, ◌⊎◌, ◌↔◌, ◌≢◌, List, [], ◌∷◌, ◌++◌, ℕ, ◌+◌, ◌-◌, ◌≤◌, ◌<◌, length}
use Rattle.lists.specs.Lists.{In, Pairs, count_up}
use Rattle.model.specs.Program.{Row, sets, rules_of, initial_atoms}
use Rattle.model.specs.Configuration.{Config, fresh}
use Rattle.model.specs.Graph.{Link, Graph, links, Reach, reached, Sound, Alive, initial_graph}
use Rattle.model.specs.Deletion.{graph, links_in, remove, Deleted}
use Rattle.model.specs.Load.{loaded, load}
use Rattle.model.specs.Load as Load
use Rattle.model.specs.Places.{RefusedAt, LoadedWith}
use Rattle.model.specs.Render.{well_formed, text_of}
use Rattle.model.specs.WellFormed.{given_well}
use Rattle.model.specs.Matching.{Found, rule_matches}
use Rattle.model.specs.Meaning.{HasMatch, FirstMatch, FirstWithMatch}
use Rattle.model.specs.Events.{Event}
use Rattle.model.specs.Journal.{new_journal, all_entered, all_gone_in_journal, Same, Exact, ids_given, Spared, Born}
use Rattle.model.specs.Log.{Made, fired, moved_on, called, Log, refused, accepted, Answer, events_of}
use Rattle.model.specs.Calls.{Reading, sense, step, answer, delete}
pub use Rattle.model.specs.Calls.{Call, to_sense, to_step, to_answer, to_delete}
unfoldable pub use Rattle.model.specs.Calls.{work, program_of, reply}
use Rattle.model.specs.Effects.{Turned, Senses, Fired, Executes, Answered}
use Rattle.model.specs.Refusing.{refusals_of, Cause, RunCause}
use Rattle.model.specs.Run.{Stop, at-phase-0, at-waiting, at-limit, next_refused, Run, ran, run_refused, run}

-- DEMAND 1: "Every call that 01 allows is worked to an end ..; all else is refused by the number in 01's table, and a refused call leaves
-- program and configuration exactly as they were."
pub record RefusedRightly (k : Call) (c : Config) (a : Answer) : Type 0 where
  pub among : In a.number (0 ∷ refusals_of k)
  -- a number that is given has its cause, and 1, 6, 7, 11 and 12 are given wherever theirs holds
  pub for_cause : (n : ℕ) → n ≢ 0 → a.number ≡ n → Cause k c n
  pub wherever : (n : ℕ) → In n (1 ∷ 6 ∷ 7 ∷ 11 ∷ 12 ∷ []) → Cause k c n → a.number ≡ n
  -- "a refused call undoes its earlier part and reports made 0, gone 0"
  pub leaves_all : (n : ℕ) → n ≢ 0 → a.number ≡ n → a ≡ record { number = n; did = called; config = c; made = 0; gone = 0 }

-- LOADING: the rows of an accepted load, and the number and the line of a refused one, by the places that it comes to. Proved in
-- `program_laws`.
pub record LoadsRightly : Type 0 where
  pub accepted_when : (text : List ℕ) (rows : List Row) → (load text ≡ loaded rows) ↔ LoadedWith text rows
  pub refused_when : (text : List ℕ) (n k : ℕ) → (load text ≡ Load.refused n k) ↔ RefusedAt text n k

-- Proved in `demands`.
pub record DemandOne : Type 0 where
  pub of_loads : LoadsRightly
  pub of_calls : (k : Call) (c : Config) → RefusedRightly k c (reply k c)
  pub of_runs : (program : List Row) (c : Config) (limit n : ℕ) → (run program c limit ≡ run_refused n) ↔ RunCause program c limit n

-- DEMAND 2: "in phases 1 to k a rule fires exactly when it is the first of its set with a match, and the set is left exactly when
-- no rule has one"

-- the step fired rule n of set s
abbrev pub Fires : Log → ℕ → ℕ → Type 0
Fires L s n = (m : Made) × (L.did ≡ fired s n m)

abbrev pub NoMatch : List Row → Config → ℕ → Type 0
NoMatch program c s = (n : ℕ) → In n (rules_of program s) → ¬ HasMatch program c s n

pub record StepObeys (program : List Row) (c : Config) (L : Log) : Type 0 where
  pub fires_first : (s n : ℕ) → c.phase ≤ sets program → Fires L s n ↔ ((s ≡ c.phase) × FirstWithMatch program c s n)
  -- what the rule does with its first match, and nothing else
  pub fires_rightly : (s n : ℕ) → c.phase ≤ sets program → Fires L s n → (g : Found) × FirstMatch program c s n g × Fired program s n g c L.config L.did
  pub leaves_set : c.phase ≤ sets program → (L.config.phase ≡ c.phase + 1) ↔ NoMatch program c c.phase
  pub moves_on : c.phase ≤ sets program → (L.did ≡ moved_on) ↔ NoMatch program c c.phase
  -- "the phase rises by 1", and nothing else changes
  pub moves_alone : c.phase ≤ sets program → L.did ≡ moved_on → Turned (c.phase + 1) c.cycle c.waiting c L.config
  pub exec_fires_none : sets program < c.phase → (s n : ℕ) → ¬ Fires L s n
  pub executes : sets program < c.phase → Executes program c L.config L.did

-- "nothing else fires a rule"; sense, answer and delete do what they say and no more. Proved in `demands`.
pub record SenseObeys (program : List Row) (rs : List Reading) (c : Config) (L : Log) : Type 0 where
  pub fires_none : L.did ≡ called
  pub before_phase_1 : Config
  pub senses : Senses program rs c before_phase_1
  -- "Rows in order; then phase 1."
  pub then_phase_1 : Turned 1 before_phase_1.cycle before_phase_1.waiting before_phase_1 L.config

pub record DemandTwo : Type 0 where
  pub of_steps : (program : List Row) (c : Config) (L : Log) → step program c ≡ accepted L → StepObeys program c L
  pub of_sense : (program : List Row) (c : Config) (rs : List Reading) (L : Log) → sense program c rs ≡ accepted L → SenseObeys program rs c L
  pub of_answer : (program : List Row) (c : Config) (n : ℕ) (L : Log) → answer program c n ≡ accepted L → (L.did ≡ called) × Answered n c L.config
  pub of_delete : (program : List Row) (c : Config) (t : ℕ) (L : Log) → delete program c t ≡ accepted L → (L.did ≡ called) × Deleted t c L.config

-- the configuration after the calls; "The rules above, worked through the list from the loaded configuration, turn the accepted
-- calls into events in order"; what the calls reported in all
abbrev pub config_after : Config → List Call → Config
config_after c [] = c
config_after c (k ∷ ks) = config_after (reply k c).config ks

abbrev pub events_after : Config → List Call → List Event
events_after c [] = []
events_after c (k ∷ ks) = events_of (work k c) ++ events_after (reply k c).config ks

abbrev pub made_after : Config → List Call → ℕ
made_after c [] = 0
made_after c (k ∷ ks) = (reply k c).made + made_after (reply k c).config ks

abbrev pub gone_after : Config → List Call → ℕ
gone_after c [] = 0
gone_after c (k ∷ ks) = (reply k c).gone + gone_after (reply k c).config ks

-- DEMAND 3: with i initial atoms, after the events es: the graph g, and what was reported as made and gone
pub record Accounted (i : ℕ) (es : List Event) (g : Graph) (made gone : ℕ) : Type 0 where
  -- the graph is as it should be
  pub sound : Sound g
  -- "ids rise along every link, both ends of a link are alive"
  pub links_rise : (l : Link) → In l (links g.plans) → l.from < l.to
  pub links_alive : (l : Link) → In l (links g.plans) → Alive g l.from × Alive g l.to
  -- "no id is given twice": 1, 2, 3, .. in turn
  pub ids_once : Pairs (λ (x y : ℕ). x < y) (count_up 1 i ++ ids_given (initial_graph i) es)
  pub ids_in_turn : count_up 1 i ++ ids_given (initial_graph i) es ≡ count_up 1 (i + made)
  -- "who is alive is what the history says"
  pub alive_when : (x : ℕ) → Alive g x ↔ ((In x (count_up 1 i) × Spared (initial_graph i) es x) ⊎ Born (initial_graph i) es x)
  -- "all agrees with 01's book"
  pub as_journal : Same g (all_entered (new_journal i) es)
  pub journal_exact : Exact (new_journal i) es
  -- "alive = initial + made - gone"
  pub adds_up : length g.atoms + length g.plans + gone ≡ i + made
  pub gone_as_journal : gone ≡ all_gone_in_journal (new_journal i) es

-- "For every list of sense, step, answer and delete calls after an accepted load, refused ones included". Proved in `demands`.
unfoldable pub DemandThree : Type 0
DemandThree = (text : List ℕ) (program : List Row) → load text ≡ loaded program → (ks : List Call) →
    Accounted (length (initial_atoms program)) (events_after (fresh program) ks) (graph (config_after (fresh program) ks)) (made_after (fresh program) ks) (gone_after (fresh program) ks)

-- MATCHING: the search finds a match exactly when there is one, and then the first in the paper's order. Proved in `search_laws`.
pub record SearchExact : Type 0 where
  pub finds : (program : List Row) (c : Config) (s n : ℕ) → HasMatch program c s n → (g : Found) × (rest : List Found) × (rule_matches program c s n ≡ g ∷ rest)
  pub first_of_all : (program : List Row) (c : Config) (s n : ℕ) (g : Found) (rest : List Found) → Sound (graph c) → rule_matches program c s n ≡ g ∷ rest → FirstMatch program c s n g

-- DELETION: one pass over the links finds exactly what is reached, and a deletion removes exactly that. Proved in `graph_laws`.
unfoldable pub ReachedExactly : Type 0
ReachedExactly = (c : Config) → Sound (graph c) → (t x : ℕ) → In x (reached (links_in c) t) ↔ Reach (links_in c) t x

unfoldable pub DeletesExactly : Type 0
DeletesExactly = (c : Config) → Sound (graph c) → (t : ℕ) → Deleted t c (remove t c)

-- PROGRAMS: "A program is well formed when some text loads to it." Proved in `program_laws`.
pub record WellFormedLoads : Type 0 where
  pub exactly : (program : List Row) → (well_formed program ≡ true) ↔ ((text : List ℕ) × (load text ≡ loaded program))
  pub renders : (program : List Row) → well_formed program ≡ true → load (text_of program) ≡ loaded program

-- CALLS keep what is well formed, so that no accepted call leads to refusal 1. Proved in `demands`.
pub record KeepsWellFormed : Type 0 where
  pub loads_well : (text : List ℕ) (program : List Row) → load text ≡ loaded program → given_well program (fresh program) ≡ true
  pub calls_keep : (k : Call) (c : Config) (L : Log) → work k c ≡ accepted L → given_well (program_of k) L.config ≡ true
  -- "`made` is the rise of next id"
  pub made_rises : (k : Call) (c : Config) → (reply k c).config.next ≡ c.next + (reply k c).made

-- RUN: "those steps in turn". From c, the steps of ds one after the other, all accepted, none of them but the last ending in
-- phase 0 or waiting; made and gone in all
abbrev pub Stays : Config → Type 0
Stays c = (c.phase ≢ 0) × (c.waiting ≡ 0)

abbrev pub InTurn : List Row → Config → List Log → Type 0
InTurn program c [] = Unit {0}
InTurn program c (L ∷ []) = step program c ≡ accepted L
InTurn program c (L ∷ M ∷ Ls) = (step program c ≡ accepted L) × Stays L.config × InTurn program L.config (M ∷ Ls)

abbrev pub last_config : Config → List Log → Config
last_config c [] = c
last_config c (L ∷ Ls) = last_config L.config Ls

abbrev pub made_in_turn : Config → List Log → ℕ
made_in_turn c [] = 0
made_in_turn c (L ∷ Ls) = (L.config.next - c.next) + made_in_turn L.config Ls

abbrev pub gone_in_turn : List Log → ℕ
gone_in_turn [] = 0
gone_in_turn (L ∷ Ls) = L.gone + gone_in_turn Ls

-- why a run of at most n steps that took t steps stopped at d
abbrev pub StopsRightly : List Row → ℕ → ℕ → Config → Stop → Type 0
StopsRightly program n t d at-phase-0 = (1 ≤ t) × (d.phase ≡ 0)
StopsRightly program n t d at-waiting = (1 ≤ t) × (d.phase ≢ 0) × (d.waiting ≢ 0)
StopsRightly program n t d at-limit = (t ≡ n) × Stays d
StopsRightly program n t d (next_refused m) = (t < n) × Stays d × (step program d ≡ refused m)

pub record RunInTurn (program : List Row) (c : Config) (n : ℕ) (r : Run) : Type 0 where
  pub logs : List Log
  pub in_turn : InTurn program c logs
  pub counted : r.steps ≡ length logs
  pub at_most : r.steps ≤ n
  pub ends_at : r.config ≡ last_config c logs
  pub made_summed : r.made ≡ made_in_turn c logs
  pub gone_summed : r.gone ≡ gone_in_turn logs
  pub stops_rightly : StopsRightly program n r.steps r.config r.stop

-- Proved in `demands`.
unfoldable pub RunIsItsSteps : Type 0
RunIsItsSteps = (program : List Row) (c : Config) (n : ℕ) (r : Run) → run program c n ≡ ran r → RunInTurn program c n r
