-- What a call does to a configuration, in the paper's words: relations between the configuration before it and the one after it,
-- with no work in them. That the rules do exactly this is `DemandTwo` of specs/Claims.
use Rattle.std.specs.Prelude.{◌≡◌, true, false, ◌⊎◌, ◌↔◌, ◌≢◌, List, [], ◌∷◌, ◌++◌, ℕ, ◌+◌, ◌≤◌, ◌<◌, length, set}
use Rattle.lists.specs.Lists.{In, Pairs}
use Rattle.model.specs.Program.{Row, variable?, constant, body, is_object}
use Rattle.model.specs.Configuration.{Atom, Plan, Config, SameScalars, place, operand, scheduled, stepped, failed, has_flag, with_flag, without_flag, remainder, atom_ids, plan_ids, with_flags, step_removed, with_subgoal}
use Rattle.model.specs.Deletion.{Deleted}
use Rattle.model.specs.Matching.{Found}
use Rattle.model.specs.Log.{Made, nothing, an_atom, a_plan, empty, held, done, Did, fired, executed, waits, cycle_ended}
use Rattle.model.specs.Log as Log
use Rattle.model.specs.Calls.{Reading}

-- the relation holds from each element of a list to the one that stands in its place
abbrev pub Each : {A : Type 0} → (A → A → Type 0) → List A → List A → Type 0
Each R [] [] = Unit {0}
Each R [] (y ∷ ys) = ⊥
Each R (x ∷ xs) [] = ⊥
Each R (x ∷ xs) (y ∷ ys) = R x y × Each R xs ys

-- an atom p(a, b) more, and nothing else
pub record AtomMade (p a b : ℕ) (c d : Config) : Type 0 where
  pub atoms : d.atoms ≡ c.atoms ++ (record { id = c.next; p = p; a = a; b = b; cycle = c.cycle } ∷ [])
  pub plans : d.plans ≡ c.plans
  pub next : d.next ≡ c.next + 1
  pub scalars : SameScalars c d

-- plan k is changed by f, and nothing else
abbrev pub AtPlan : ℕ → (Plan → Plan) → Plan → Plan → Type 0
AtPlan k f p q = (p.id ≡ k → q ≡ f p) × (p.id ≢ k → q ≡ p)

pub record PlanChanged (k : ℕ) (f : Plan → Plan) (c d : Config) : Type 0 where
  pub atoms : d.atoms ≡ c.atoms
  pub plans : Each (AtPlan k f) c.plans d.plans
  pub next : d.next ≡ c.next
  pub scalars : SameScalars c d

-- phase, cycle and the waiting plan become these, and nothing else changes
pub record Turned (phase cycle waiting : ℕ) (c d : Config) : Type 0 where
  pub atoms : d.atoms ≡ c.atoms
  pub plans : d.plans ≡ c.plans
  pub next : d.next ≡ c.next
  pub new_phase : d.phase ≡ phase
  pub new_cycle : d.cycle ≡ cycle
  pub new_waiting : d.waiting ≡ waiting

-- SENSE

-- "a sensed p whose second argument is at least a (1 to 65,535) is taken as predicate b (1 to 255), once"
abbrev pub Ceiling : List Row → Reading → Row → Type 0
Ceiling program r w = In w program × (w.set ≡ 0) × (w.op ≡ 40) × (w.p ≡ r.p) × (constant w.a ≤ r.b)

pub data TakenAs (program : List Row) (r : Reading) : ℕ → Type 0 where
  at_ceiling : (w : Row) → Ceiling program r w → TakenAs program r (constant w.b)
  as_sensed : ((w : Row) → ¬ Ceiling program r w) → TakenAs program r r.p

-- x is a live p(a, b)
abbrev pub Equal : ℕ → ℕ → ℕ → Config → Atom → Type 0
Equal p a b c x = In x c.atoms × (x.p ≡ p) × (x.a ≡ a) × (x.b ≡ b)

-- "A withdrawal deletes each live equal atom, lowest id first."
pub data Withdrawn (p a b : ℕ) : Config → Config → Type 0 where
  none_left : {c : Config} → ((x : Atom) → ¬ Equal p a b c x) → Withdrawn p a b c c
  lowest : {c d e : Config} (x : Atom) → Equal p a b c x → ((y : Atom) → Equal p a b c y → x.id ≤ y.id) → Deleted x.id c d → Withdrawn p a b d e
      → Withdrawn p a b c e

-- "Ceilings apply to both signs. An add makes a new instance even if an equal one lives. .. Rows in order"
pub data Senses (program : List Row) : List Reading → Config → Config → Type 0 where
  no_rows : {c : Config} → Senses program [] c c
  adds : {r : Reading} {rs : List Reading} {p : ℕ} {c d e : Config} → r.sign ≡ 1 → TakenAs program r p → AtomMade p r.a r.b c d → Senses program rs d e
      → Senses program (r ∷ rs) c e
  withdraws : {r : Reading} {rs : List Reading} {p : ℕ} {c d e : Config} → r.sign ≡ 2 → TakenAs program r p → Withdrawn p r.a r.b c d → Senses program rs d e
      → Senses program (r ∷ rs) c e

-- STEP, phases 1 to k

-- "An object rule makes a plan with no flags": rule n of set s with what it found. "a plan gets a link from each atom its reasons matched"
pub record PlanMade (program : List Row) (s n : ℕ) (g : Found) (c d : Config) : Type 0 where
  pub plan : Plan
  pub atoms : d.atoms ≡ c.atoms
  pub plans : d.plans ≡ c.plans ++ (plan ∷ [])
  pub next : d.next ≡ c.next + 1
  pub scalars : SameScalars c d
  pub its_id : plan.id ≡ c.next
  pub its_set : plan.set ≡ s
  pub its_rule : plan.rule ≡ n
  pub its_values : plan.values ≡ g.values
  pub whole_body : plan.left ≡ length (body program s n)
  pub justified : (j : ℕ) → In j plan.justifications ↔ In j g.matched
  pub each_once : Pairs (λ (i j : ℕ). i < j) plan.justifications
  pub no_subgoal : plan.subgoal ≡ 0
  pub no_flags : plan.flags ≡ 0

-- where a meta rule's actions stand: the values of its variables, the last atom made, the configuration
pub record Moment : Type 0 where
  pub values : List ℕ
  pub made : Made
  pub config : Config

-- the instance that an action names by i
abbrev pub target : Row → Moment → ℕ
target r m = operand m.values r.i

-- "its id going to variable i": operand x takes n
abbrev pub TakesId : ℕ → ℕ → List ℕ → List ℕ → Type 0
TakesId x n v w = (variable? x ≡ true → w ≡ set v (place x) n) × (variable? x ≡ false → w ≡ v)

-- "21 add-atom p, a, b, its id going to variable i ..; 22 delete-atom i; 23 set and 24 clear flag a (constant 1 to 16) of plan i;
-- 25 delete-plan i"
pub data ActsOnce (r : Row) (m : Moment) : Moment → Type 0 where
  adds_atom : {w : List ℕ} {d : Config} → r.op ≡ 21 → AtomMade r.p (operand m.values r.a) (operand m.values r.b) m.config d
      → TakesId r.i m.config.next m.values w → ActsOnce r m (record { values = w; made = an_atom m.config.next; config = d })
  deletes_atom : {d : Config} → r.op ≡ 22 → In (target r m) (atom_ids m.config) → Deleted (target r m) m.config d
      → ActsOnce r m (record { values = m.values; made = m.made; config = d })
  sets_flag : {d : Config} → r.op ≡ 23 → In (target r m) (plan_ids m.config) → PlanChanged (target r m) (with_flags (with_flag (constant r.a))) m.config d
      → ActsOnce r m (record { values = m.values; made = m.made; config = d })
  clears_flag : {d : Config} → r.op ≡ 24 → In (target r m) (plan_ids m.config) → PlanChanged (target r m) (with_flags (without_flag (constant r.a))) m.config d
      → ActsOnce r m (record { values = m.values; made = m.made; config = d })
  deletes_plan : {d : Config} → r.op ≡ 25 → In (target r m) (plan_ids m.config) → Deleted (target r m) m.config d
      → ActsOnce r m (record { values = m.values; made = m.made; config = d })

-- actions one after the other, all of them done
pub data ActsInTurn : List Row → Moment → Moment → Type 0 where
  no_action : {m : Moment} → ActsInTurn [] m m
  onward : {r : Row} {rs : List Row} {l m n : Moment} → ActsOnce r l m → ActsInTurn rs m n → ActsInTurn (r ∷ rs) l n

-- "not a live instance of its kind": 22 names an atom, 23 to 25 name a plan
abbrev pub NotLive : Row → Moment → Type 0
NotLive r m = ((r.op ≡ 22) × (¬ In (target r m) (atom_ids m.config))) ⊎ ((22 < r.op) × (¬ In (target r m) (plan_ids m.config)))

abbrev pub StopsAt : List Row → Moment → Type 0
StopsAt [] m = Unit {0}
StopsAt (r ∷ rs) m = NotLive r m

-- "A meta rule's actions run in order and stop at the first whose id is not a live instance of its kind; earlier ones stand."
pub record Acts (rows : List Row) (l m : Moment) : Type 0 where
  pub before : List Row
  pub after : List Row
  pub stands : rows ≡ before ++ after
  pub in_turn : ActsInTurn before l m
  pub stops : StopsAt after m

abbrev pub before_acting : Found → Config → Moment
before_acting g c = record { values = g.values; made = nothing; config = c }

-- rule n of set s fires with what it found; "fired (set, rule, the plan or last atom made, or none)"
pub data Fired (program : List Row) (s n : ℕ) (g : Found) (c : Config) : Config → Did → Type 0 where
  raises : {d : Config} → is_object program s n ≡ true → PlanMade program s n g c d → Fired program s n g c d (fired s n (a_plan c.next))
  acts : (m : Moment) → is_object program s n ≡ false → Acts (body program s n) (before_acting g c) m → Fired program s n g c m.config (fired s n m.made)

-- STEP, phase k + 1

-- "scheduled and not stepped"
abbrev pub Due : Plan → Type 0
Due q = (has_flag scheduled q.flags ≡ true) × (has_flag stepped q.flags ≡ false)

-- "the lowest live plan that is scheduled and not stepped"
pub record FirstDue (c : Config) (q : Plan) : Type 0 where
  pub alive : In q c.plans
  pub is_due : Due q
  pub lowest : (p : Plan) → In p c.plans → Due p → q.id ≤ p.id

abbrev pub NoneDue : Config → Type 0
NoneDue c = (q : Plan) → In q c.plans → ¬ Due q

-- "flags 2 and 3 of all plans are cleared, cycle rises by 1, phase is 0"
pub record CycleEnded (c d : Config) : Type 0 where
  pub atoms : d.atoms ≡ c.atoms
  pub plans : Each (λ p q. q ≡ with_flags (λ f. without_flag stepped (without_flag scheduled f)) p) c.plans d.plans
  pub next : d.next ≡ c.next
  pub new_phase : d.phase ≡ 0
  pub new_cycle : d.cycle ≡ c.cycle + 1
  pub same_waiting : d.waiting ≡ c.waiting

-- "stepped is set"; "the step is removed"; "failed is set"; "atom made and linked"
abbrev pub now_stepped : Plan → Plan
now_stepped p = with_flags (with_flag stepped) p

abbrev pub StepDone : ℕ → Config → Config → Type 0
StepDone k c d = PlanChanged k (λ p. now_stepped (step_removed p)) c d

abbrev pub StepFailed : ℕ → Config → Config → Type 0
StepFailed k c d = PlanChanged k (λ p. now_stepped (with_flags (with_flag failed) p)) c d

pub record SubgoalMade (k p a b : ℕ) (c d : Config) : Type 0 where
  pub between : Config
  pub made : AtomMade p a b c between
  pub linked : PlanChanged k (with_subgoal c.next) between d

abbrev pub Somewhere : ℕ → ℕ → ℕ → Config → Type 0
Somewhere p a b c = (x : Atom) × Equal p a b c x

-- "31: the plan waits. 32, 33: if it holds the step is removed, else failed is set. 34: atom made, step removed. 35: step removed, then
-- the deletion, which may take the plan itself; if i is no live atom, failed is set and the step stays. 36: atom made and linked; the
-- step stays while the link does. All but 31 set stepped." The plan k with its values v takes the step r.
pub data StepTaken (k : ℕ) (v : List ℕ) (r : Row) (c : Config) : Config → Did → Type 0 where
  asks : {d : Config} → r.op ≡ 31 → Turned c.phase c.cycle k c d → StepTaken k v r c d (waits k r.p (operand v r.a) (operand v r.b))
  finds : {d : Config} → r.op ≡ 32 → Somewhere r.p (operand v r.a) (operand v r.b) c → StepDone k c d → StepTaken k v r c d (executed k done)
  misses : {d : Config} → r.op ≡ 32 → ¬ Somewhere r.p (operand v r.a) (operand v r.b) c → StepFailed k c d → StepTaken k v r c d (executed k Log.failed)
  finds_none : {d : Config} → r.op ≡ 33 → ¬ Somewhere r.p (operand v r.a) (operand v r.b) c → StepDone k c d → StepTaken k v r c d (executed k done)
  finds_one : {d : Config} → r.op ≡ 33 → Somewhere r.p (operand v r.a) (operand v r.b) c → StepFailed k c d → StepTaken k v r c d (executed k Log.failed)
  adds : {e d : Config} → r.op ≡ 34 → AtomMade r.p (operand v r.a) (operand v r.b) c e → StepDone k e d → StepTaken k v r c d (executed k done)
  deletes : {e d : Config} → r.op ≡ 35 → In (operand v r.i) (atom_ids c) → StepDone k c e → Deleted (operand v r.i) e d → StepTaken k v r c d (executed k done)
  deletes_none : {d : Config} → r.op ≡ 35 → ¬ In (operand v r.i) (atom_ids c) → StepFailed k c d → StepTaken k v r c d (executed k Log.failed)
  links : {e d : Config} → r.op ≡ 36 → SubgoalMade k r.p (operand v r.a) (operand v r.b) c e → PlanChanged k now_stepped e d
      → StepTaken k v r c d (executed k done)

-- "With none, .. An empty remainder or a live subgoal: stepped is set and nothing else."
pub data Executes (program : List Row) (c : Config) : Config → Did → Type 0 where
  ends : {d : Config} → NoneDue c → CycleEnded c d → Executes program c d cycle_ended
  is_empty : {d : Config} (q : Plan) → FirstDue c q → remainder program q ≡ [] → PlanChanged q.id now_stepped c d → Executes program c d (executed q.id empty)
  is_held : {d : Config} (q : Plan) (r : Row) (rs : List Row) → FirstDue c q → remainder program q ≡ r ∷ rs → q.subgoal ≢ 0 → PlanChanged q.id now_stepped c d
      → Executes program c d (executed q.id held)
  takes : {d : Config} {did : Did} (q : Plan) (r : Row) (rs : List Row) → FirstDue c q → remainder program q ≡ r ∷ rs → q.subgoal ≡ 0
      → StepTaken q.id q.values r c d did → Executes program c d did

-- ANSWER: "1 removes the step, 0 sets failed; both set stepped and end the waiting"
pub record Answered (n : ℕ) (c d : Config) : Type 0 where
  pub between : Config
  pub waiting_ends : Turned c.phase c.cycle 0 c between
  pub answers : ((n ≡ 1) × StepDone c.waiting between d) ⊎ ((n ≡ 0) × StepFailed c.waiting between d)
