-- "Calls": what each makes of a program and a configuration.
use Rattle.std.specs.Prelude.{ℕ, ◌+◌, Bool, true, false, ◌&&◌, ◌||◌, not, List, [], ◌∷◌, map, leb, ltb, eqb, length, set, if◌then◌else◌}
use Rattle.lists.specs.Lists.{within, keep, every, some}
use Rattle.model.specs.Program.{Row, variable?, constant, sets, is_object, body}
use Rattle.model.specs.Configuration.{Atom, Plan, Config, most_atoms, most_plans, last_next, place, operand, scheduled, stepped, failed, has_flag, with_flag, without_flag, remainder, atom_alive, plan_alive, equal_to, with_flags, step_removed, with_phase, with_waiting, change_plan}
use Rattle.model.specs.WellFormed.{given_well}
use Rattle.model.specs.Matching.{Found, Firing, firing}
use Rattle.model.specs.Log.{nothing, an_atom, a_plan, How, empty, held, done, fired, moved_on, executed, waits, cycle_ended, Log, begin, emit_atom, emit_plan, emit_subgoal, emit_deletion, quiet, report, Outcome, refused, accepted, and_then, unless, Answer, answer_of}
use Rattle.model.specs.Log as Log

-- "8 before 9 or 10 as the work meets them": one more atom, subgoal atom or plan
unfoldable pub room_for_atom : Log → Outcome → Outcome
room_for_atom L o = unless (eqb L.config.next last_next) 8 (unless (leb most_atoms (length L.config.atoms)) 9 o)

unfoldable pub room_for_plan : Log → Outcome → Outcome
room_for_plan L o = unless (eqb L.config.next last_next) 8 (unless (leb most_plans (length L.config.plans)) 10 o)

unfoldable pub make_atom : ℕ → ℕ → ℕ → Log → Outcome
make_atom p a b L = room_for_atom L (accepted (emit_atom p a b L))

-- SENSE

-- "rows of sign (1 add, 2 withdraw), p, a, b"
pub record Reading : Type 0 where
  pub sign : ℕ
  pub p : ℕ
  pub a : ℕ
  pub b : ℕ

unfoldable pub in_range : Reading → Bool
in_range r = within 1 2 r.sign && (within 1 255 r.p && (leb r.a 65535 && leb r.b 65535))

-- "a sensed p whose second argument is at least a (1 to 65,535) is taken as predicate b (1 to 255), once"
unfoldable pub applies : Reading → Row → Bool
applies r w = eqb w.set 0 && (eqb w.op 40 && (eqb w.p r.p && leb (constant w.a) r.b))

unfoldable pub replaced : ℕ → List Row → ℕ
replaced p [] = p
replaced p (w ∷ ws) = constant w.b

unfoldable pub taken_as : List Row → Reading → ℕ
taken_as program r = replaced r.p (keep (applies r) program)

-- "A withdrawal deletes each live equal atom, lowest id first."
unfoldable pub equal_atoms : ℕ → ℕ → ℕ → Config → List ℕ
equal_atoms p a b c = map (λ (x : Atom). x.id) (keep (equal_to p a b) c.atoms)

unfoldable pub withdraw_if : Bool → ℕ → Log → Log
withdraw_if true t L = emit_deletion t L
withdraw_if false t L = L

-- each of the ids that is still alive when its turn comes
unfoldable pub withdraw : List ℕ → Log → Log
withdraw [] L = L
withdraw (t ∷ ts) L = withdraw ts (withdraw_if (atom_alive L.config t) t L)

-- "An add makes a new instance even if an equal one lives."
unfoldable pub sense_row : List Row → Reading → Log → Outcome
sense_row program r L =
    if eqb r.sign 1 then make_atom (taken_as program r) r.a r.b L
    else accepted (withdraw (equal_atoms (taken_as program r) r.a r.b L.config) L)

unfoldable pub sense_rows : List Row → List Reading → Log → Outcome
sense_rows program [] L = accepted L
sense_rows program (r ∷ rs) L = and_then (sense_row program r L) (sense_rows program rs)

-- "sense, phase 0 only: 0 to 64 rows ..; Rows in order; then phase 1."
unfoldable pub sense : List Row → Config → List Reading → Outcome
sense program c rs =
    unless (not (given_well program c)) 1
    (unless (not (eqb c.phase 0) || not (eqb c.waiting 0)) 6
    (unless (ltb 64 (length rs) || not (every in_range rs)) 7
    (and_then (sense_rows program rs (begin c)) (λ L. accepted (quiet (with_phase 1) L)))))

-- STEP, phases 1 to k

-- "An object rule makes a plan with no flags."
unfoldable pub fire_object : List Row → ℕ → ℕ → Found → Log → Outcome
fire_object program s n f L =
    room_for_plan L (accepted (report (fired s n (a_plan L.config.next))
    (emit_plan s n f.values (length (body program s n)) f.matched L)))

-- an action is done, with the values after it; or "its id is not a live instance of its kind"; or it meets a limit
pub data Action : Type 0 where
  acted : List ℕ → Log → Action
  stopped : Action
  barred : ℕ → Action

unfoldable pub acted_on : List ℕ → Outcome → Action
acted_on values (refused n) = barred n
acted_on values (accepted L) = acted values L

-- "21 add-atom p, a, b, its id going to variable i"
unfoldable pub add_action : ℕ → ℕ → Row → List ℕ → Log → Action
add_action s n r values L =
    acted_on (if variable? r.i then set values (place r.i) L.config.next else values)
    (room_for_atom L (accepted (report (fired s n (an_atom L.config.next))
    (emit_atom r.p (operand values r.a) (operand values r.b) L))))

-- "22 delete-atom i; 23 set and 24 clear flag a (constant 1 to 16) of plan i; 25 delete-plan i"
unfoldable pub act : ℕ → ℕ → Row → List ℕ → Log → Action
act s n r values L =
    let k = operand values r.i in
    if eqb r.op 21 then add_action s n r values L
    else if eqb r.op 22 then (if atom_alive L.config k then acted values (emit_deletion k L) else stopped)
    else if not (plan_alive L.config k) then stopped
    else if eqb r.op 23 then acted values (quiet (change_plan k (with_flags (with_flag (constant r.a)))) L)
    else if eqb r.op 24 then acted values (quiet (change_plan k (with_flags (without_flag (constant r.a)))) L)
    else acted values (emit_deletion k L)

unfoldable pub after_action : (List ℕ → Log → Outcome) → Log → Action → Outcome
after_action rest L (acted values M) = rest values M
after_action rest L stopped = accepted L
after_action rest L (barred n) = refused n

-- "A meta rule's actions run in order and stop at the first whose id is not a live instance of its kind; earlier ones stand."
unfoldable pub act_all : ℕ → ℕ → List Row → List ℕ → Log → Outcome
act_all s n [] values L = accepted L
act_all s n (r ∷ rs) values L = after_action (λ v M. act_all s n rs v M) L (act s n r values L)

unfoldable pub fire : List Row → ℕ → Firing → Log → Outcome
fire program s f L =
    if is_object program s f.rule then fire_object program s f.rule f.match L
    else act_all s f.rule (body program s f.rule) f.match.values (report (fired s f.rule nothing) L)

-- "the first rule in rising number that has a match fires once; if there is none the phase rises by 1"
unfoldable pub fire_first : List Row → Config → List Firing → Outcome
fire_first program c [] = accepted (report moved_on (quiet (with_phase (c.phase + 1)) (begin c)))
fire_first program c (f ∷ fs) = fire program c.phase f (begin c)

-- STEP, phase k + 1

-- "scheduled and not stepped"
unfoldable pub is_due : Plan → Bool
is_due q = has_flag scheduled q.flags && not (has_flag stepped q.flags)

-- "flags 2 and 3 of all plans are cleared, cycle rises by 1, phase is 0"
abbrev pub next_cycle : Config → Config
next_cycle c = record {
  atoms = c.atoms;
  plans = map (with_flags (λ f. without_flag stepped (without_flag scheduled f))) c.plans;
  phase = 0;
  cycle = c.cycle + 1;
  next = c.next;
  waiting = c.waiting;
}

-- "cycle 65,535 would end"
unfoldable pub end_cycle : Config → Outcome
end_cycle c = unless (eqb c.cycle 65535) 11 (accepted (report cycle_ended (quiet next_cycle (begin c))))

abbrev pub set_stepped : ℕ → Config → Config
set_stepped k = change_plan k (with_flags (with_flag stepped))

abbrev pub set_failed : ℕ → Config → Config
set_failed k = change_plan k (with_flags (with_flag failed))

abbrev pub remove_step : ℕ → Config → Config
remove_step k = change_plan k step_removed

-- "the step is removed", or "failed is set"; both set stepped
unfoldable pub succeed : ℕ → Log → Outcome
succeed k L = accepted (report (executed k done) (quiet (λ c. set_stepped k (remove_step k c)) L))

unfoldable pub fail : ℕ → Log → Outcome
fail k L = accepted (report (executed k Log.failed) (quiet (λ c. set_stepped k (set_failed k c)) L))

unfoldable pub exists_atom : ℕ → ℕ → ℕ → Config → Bool
exists_atom p a b c = some (equal_to p a b) c.atoms

-- "31: the plan waits. 32, 33: if it holds the step is removed, else failed is set. 34: atom made, step removed. 35: step removed,
-- then the deletion ..; if i is no live atom, failed is set and the step stays. 36: atom made and linked; the step stays while the link does."
unfoldable pub take_step : Plan → Row → Log → Outcome
take_step q r L =
    let k = q.id in
    let x = operand q.values r.a in
    let y = operand q.values r.b in
    let t = operand q.values r.i in
    let there = exists_atom r.p x y L.config in
    if eqb r.op 31 then accepted (report (waits k r.p x y) (quiet (with_waiting k) L))
    else if eqb r.op 32 then (if there then succeed k L else fail k L)
    else if eqb r.op 33 then (if there then fail k L else succeed k L)
    else if eqb r.op 34 then and_then (make_atom r.p x y L) (succeed k)
    else if eqb r.op 35
    then (if atom_alive L.config t then and_then (succeed k L) (λ M. accepted (emit_deletion t M)) else fail k L)
    else room_for_atom L (accepted (report (executed k done) (quiet (set_stepped k) (emit_subgoal k r.p x y L))))

-- "An empty remainder or a live subgoal: stepped is set and nothing else."
unfoldable pub pass_over : Plan → How → Log → Outcome
pass_over q how L = accepted (report (executed q.id how) (quiet (set_stepped q.id) L))

unfoldable pub execute_plan : Plan → List Row → Log → Outcome
execute_plan q [] L = pass_over q empty L
execute_plan q (r ∷ rs) L = if eqb q.subgoal 0 then take_step q r L else pass_over q held L

-- "the lowest live plan that is scheduled and not stepped is taken"
unfoldable pub execute : List Row → Config → List Plan → Outcome
execute program c [] = end_cycle c
execute program c (q ∷ qs) = execute_plan q (remainder program q) (begin c)

unfoldable pub step : List Row → Config → Outcome
step program c =
    unless (not (given_well program c)) 1
    (unless (eqb c.phase 0 || not (eqb c.waiting 0)) 6
    (if leb c.phase (sets program) then fire_first program c (firing program c c.phase)
    else execute program c (keep is_due c.plans)))

-- "answer, only while waiting ..: 1 removes the step, 0 sets failed; both set stepped and end the waiting"
unfoldable pub answered : ℕ → Config → Config
answered n c =
    let k = c.waiting in
    let d = with_waiting 0 c in
    set_stepped k (if eqb n 1 then remove_step k d else set_failed k d)

unfoldable pub answer : List Row → Config → ℕ → Outcome
answer program c n =
    unless (not (given_well program c)) 1
    (unless (eqb c.waiting 0) 6
    (unless (ltb 1 n) 7
    (accepted (quiet (answered n) (begin c)))))

-- "delete, not while waiting: an id, atom or plan."
unfoldable pub delete : List Row → Config → ℕ → Outcome
delete program c t =
    unless (not (given_well program c)) 1
    (unless (not (eqb c.waiting 0)) 6
    (unless (not (atom_alive c t || plan_alive c t)) 12
    (accepted (emit_deletion t (begin c)))))

-- A CALL of demand 3, "given the loaded program or another"
pub data Call : Type 0 where
  to_sense : List Row → List Reading → Call
  to_step : List Row → Call
  to_answer : List Row → ℕ → Call
  to_delete : List Row → ℕ → Call

unfoldable pub work : Call → Config → Outcome
work (to_sense program rs) c = sense program c rs
work (to_step program) c = step program c
work (to_answer program n) c = answer program c n
work (to_delete program t) c = delete program c t

abbrev pub program_of : Call → List Row
program_of (to_sense program rs) = program
program_of (to_step program) = program
program_of (to_answer program n) = program
program_of (to_delete program t) = program

abbrev pub reply : Call → Config → Answer
reply k c = answer_of c (work k c)

unfoldable pub opened : Unit {0}
unfolding room_for_atom room_for_plan make_atom in_range applies replaced taken_as equal_atoms withdraw_if withdraw sense_row sense_rows sense fire_object acted_on add_action act after_action act_all fire fire_first is_due end_cycle succeed fail exists_atom take_step pass_over execute_plan execute step answered answer delete
opened = tt
