-- When a call is refused: the causes of the paper's table, number by number, in the order in which they are tested. That the calls
-- give these numbers is `DemandOne` of specs/Claims.
use Rattle.std.specs.Prelude.{◌≡◌, true, false, ◌⊎◌, ◌≢◌, List, [], ◌∷◌, ◌++◌, ℕ, ◌≤◌, ◌<◌, length}
use Rattle.lists.specs.Lists.{In}
use Rattle.model.specs.Program.{Row, sets, is_object, body}
use Rattle.model.specs.Configuration.{Plan, Config, remainder}
use Rattle.model.specs.Graph.{Alive}
use Rattle.model.specs.Deletion.{graph}
use Rattle.model.specs.WellFormed.{given_well}
use Rattle.model.specs.Matching.{Found}
use Rattle.model.specs.Meaning.{FirstMatch, FirstWithMatch}
use Rattle.model.specs.Calls.{Reading, Call, to_sense, to_step, to_answer, to_delete, program_of}
use Rattle.model.specs.Effects.{Senses, Moment, ActsInTurn, before_acting, FirstDue, NoneDue}

-- the numbers that a call can give
abbrev pub refusals_of : Call → List ℕ
refusals_of (to_sense program rs) = 1 ∷ 6 ∷ 7 ∷ 8 ∷ 9 ∷ []
refusals_of (to_step program) = 1 ∷ 6 ∷ 8 ∷ 9 ∷ 10 ∷ 11 ∷ []
refusals_of (to_answer program n) = 1 ∷ 6 ∷ 7 ∷ []
refusals_of (to_delete program t) = 1 ∷ 6 ∷ 12 ∷ []

-- 6: "sense, phase 0 only"; "step, phases 1 to k"; "answer, only while waiting, when sense, step and run are out of turn"; "delete, not
-- while waiting"
abbrev pub OutOfTurn : Call → Config → Type 0
OutOfTurn (to_sense program rs) c = (c.phase ≢ 0) ⊎ (c.waiting ≢ 0)
OutOfTurn (to_step program) c = (c.phase ≡ 0) ⊎ (c.waiting ≢ 0)
OutOfTurn (to_answer program n) c = c.waiting ≡ 0
OutOfTurn (to_delete program t) c = c.waiting ≢ 0

-- 7: "0 to 64 rows of sign (1 add, 2 withdraw), p, a, b"; "predicate p (1 to 255), arguments a and b (0 to 65,535)"; "1 removes the
-- step, 0 sets failed"
pub record ReadingFits (r : Reading) : Type 0 where
  pub sign_fits : (r.sign ≡ 1) ⊎ (r.sign ≡ 2)
  pub p_low : 1 ≤ r.p
  pub p_high : r.p ≤ 255
  pub a_fits : r.a ≤ 65535
  pub b_fits : r.b ≤ 65535

abbrev pub OutOfRange : Call → Type 0
OutOfRange (to_sense program rs) = (64 < length rs) ⊎ ((r : Reading) × In r rs × (¬ ReadingFits r))
OutOfRange (to_step program) = ⊥
OutOfRange (to_answer program n) = 1 < n
OutOfRange (to_delete program t) = ⊥

-- 12: "delete of an id not alive"
abbrev pub NotAlive : Call → Config → Type 0
NotAlive (to_sense program rs) c = ⊥
NotAlive (to_step program) c = ⊥
NotAlive (to_answer program n) c = ⊥
NotAlive (to_delete program t) c = ¬ Alive (graph c) t

-- 11: "cycle 65,535 would end"
abbrev pub LastCycle : Call → Config → Type 0
LastCycle (to_sense program rs) c = ⊥
LastCycle (to_step program) c = (sets program < c.phase) × NoneDue c × (c.cycle ≡ 65535)
LastCycle (to_answer program n) c = ⊥
LastCycle (to_delete program t) c = ⊥

-- 8, 9, 10: "next id 65,536", "256 atoms alive", "64 plans alive", "and one more needed"; "8 before 9 or 10"
pub data NoRoomForAtom (c : Config) : ℕ → Type 0 where
  no_id : c.next ≡ 65536 → NoRoomForAtom c 8
  no_place : c.next ≢ 65536 → length c.atoms ≡ 256 → NoRoomForAtom c 9

pub data NoRoomForPlan (c : Config) : ℕ → Type 0 where
  no_id : c.next ≡ 65536 → NoRoomForPlan c 8
  no_place : c.next ≢ 65536 → length c.plans ≡ 64 → NoRoomForPlan c 10

-- the moment at which one more is needed, "as the work meets them"
pub data NoRoom : Call → Config → ℕ → Type 0 where
  at_reading : {program : List Row} {rs : List Reading} {c d : Config} {n : ℕ} (before : List Reading) (r : Reading) (after : List Reading) → rs ≡ before ++ (r ∷ after) → r.sign ≡ 1
      → Senses program before c d → NoRoomForAtom d n → NoRoom (to_sense program rs) c n
  at_plan : {program : List Row} {c : Config} {m n : ℕ} → c.phase ≤ sets program → FirstWithMatch program c c.phase m → is_object program c.phase m ≡ true
      → NoRoomForPlan c n → NoRoom (to_step program) c n
  at_action : {program : List Row} {c : Config} {m n : ℕ} {g : Found} {l : Moment} (before : List Row) (r : Row) (after : List Row) → c.phase ≤ sets program
      → FirstWithMatch program c c.phase m → is_object program c.phase m ≡ false → FirstMatch program c c.phase m g
      → body program c.phase m ≡ before ++ (r ∷ after) → r.op ≡ 21 → ActsInTurn before (before_acting g c) l → NoRoomForAtom l.config n → NoRoom (to_step program) c n
  at_step : {program : List Row} {c : Config} {q : Plan} {r : Row} {rs : List Row} {n : ℕ} → sets program < c.phase → FirstDue c q → remainder program q ≡ r ∷ rs
      → q.subgoal ≡ 0 → (r.op ≡ 34) ⊎ (r.op ≡ 36) → NoRoomForAtom c n → NoRoom (to_step program) c n

-- "Other calls test 1, 6, 7, 12, then 8 before 9 or 10 as the work meets them"
pub data Cause (k : Call) (c : Config) : ℕ → Type 0 where
  not_well : given_well (program_of k) c ≡ false → Cause k c 1
  out_of_turn : given_well (program_of k) c ≡ true → OutOfTurn k c → Cause k c 6
  out_of_range : given_well (program_of k) c ≡ true → ¬ OutOfTurn k c → OutOfRange k → Cause k c 7
  not_alive : given_well (program_of k) c ≡ true → ¬ OutOfTurn k c → ¬ OutOfRange k → NotAlive k c → Cause k c 12
  last_cycle : given_well (program_of k) c ≡ true → ¬ OutOfTurn k c → LastCycle k c → Cause k c 11
  no_room : {n : ℕ} → given_well (program_of k) c ≡ true → ¬ OutOfTurn k c → ¬ OutOfRange k → NoRoom k c n → Cause k c n

-- "run, with a limit of 1 to 10,000, outside phase 0 and not waiting (else 6)"
pub data RunCause (program : List Row) (c : Config) (limit : ℕ) : ℕ → Type 0 where
  not_well : given_well program c ≡ false → RunCause program c limit 1
  out_of_turn : given_well program c ≡ true → (c.phase ≡ 0) ⊎ (c.waiting ≢ 0) → RunCause program c limit 6
  out_of_range : given_well program c ≡ true → c.phase ≢ 0 → c.waiting ≡ 0 → (limit ≡ 0) ⊎ (10000 < limit) → RunCause program c limit 7
