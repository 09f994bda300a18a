-- A sense or a step that is refused has a refusal's number, which is never 0.
use Rattle.std.specs.Prelude.{if◌then◌else◌}
use mathlib.Core.Bool.{Bool, true, false, not, ◌||◌}
use mathlib.Core.List.{List, [], ◌∷◌}
use Prim.Native.Nat.{ℕ, ◌≤◌}
use native.Mathlib.Omega.{arith}
use lib.Dec.{eqb, leb, ltb}
use lib.ListN.{length}
use Rattle.lists.specs.Lists.{keep, every}
use Rattle.model.specs.declared.Row.{Row}
use Rattle.model.specs.Program.{sets, is_object}
use Rattle.model.specs.Configuration.{Plan, Config, most_atoms, most_plans, last_next, operand, remainder, atom_alive, plan_alive}
use Rattle.model.specs.WellFormed.{given_well}
use Rattle.model.specs.Matching.{Firing, firing}
use Rattle.model.specs.Log.{Log, begin, Outcome, refused, accepted, and_then, unless}
use Rattle.model.specs.Calls.{Reading, in_range, room_for_atom, room_for_plan, make_atom, sense_row, sense_rows, sense, fire_object, Action, acted, stopped, barred, acted_on, add_action, act, after_action, act_all, fire, fire_first, is_due, end_cycle, succeed, fail, exists_atom, take_step, pass_over, execute_plan, execute, step}

unfoldable pub Numbered : Outcome → Type 0
Numbered (refused n) = 1 ≤ n
Numbered (accepted L) = Unit {0}

unless_numbered : (b : Bool) (n : ℕ) (o : Outcome) → 1 ≤ n → Numbered o → Numbered (unless b n o)
unfolding Numbered unless
unless_numbered true n o h k = h
unless_numbered false n o h k = k

either_numbered : (b : Bool) (o u : Outcome) → Numbered o → Numbered u → Numbered (if b then o else u)
either_numbered true o u h k = h
either_numbered false o u h k = k

then_numbered : (o : Outcome) (f : Log → Outcome) → Numbered o → ((L : Log) → Numbered (f L)) → Numbered (and_then o f)
unfolding Numbered and_then
then_numbered (refused n) f h k = h
then_numbered (accepted L) f h k = k L

done_numbered : (L : Log) → Numbered (accepted L)
unfolding Numbered
done_numbered L = tt

room_numbered : (L : Log) (o : Outcome) → Numbered o → Numbered (room_for_atom L o)
unfolding room_for_atom
room_numbered L o h = unless_numbered (eqb L.config.next last_next) 8 _ (omega arith) (unless_numbered (leb most_atoms (length L.config.atoms)) 9 o (omega arith) h)

plan_room_numbered : (L : Log) (o : Outcome) → Numbered o → Numbered (room_for_plan L o)
unfolding room_for_plan
plan_room_numbered L o h = unless_numbered (eqb L.config.next last_next) 8 _ (omega arith) (unless_numbered (leb most_plans (length L.config.plans)) 10 o (omega arith) h)

-- ACTIONS
unfoldable NumberedAction : Action → Type 0
NumberedAction (acted v L) = Unit {0}
NumberedAction stopped = Unit {0}
NumberedAction (barred n) = 1 ≤ n

either_action : (b : Bool) (x y : Action) → NumberedAction x → NumberedAction y → NumberedAction (if b then x else y)
either_action true x y h k = h
either_action false x y h k = k

acted_numbered : (v : List ℕ) (o : Outcome) → Numbered o → NumberedAction (acted_on v o)
unfolding Numbered NumberedAction acted_on
acted_numbered v (refused n) h = h
acted_numbered v (accepted L) h = tt

plain_action : (v : List ℕ) (L : Log) → NumberedAction (acted v L)
unfolding NumberedAction
plain_action v L = tt

stop_action : NumberedAction stopped
unfolding NumberedAction
stop_action = tt

module _ (s n : ℕ) where
  act_numbered : (r : Row) (v : List ℕ) (L : Log) → NumberedAction (act s n r v L)
  unfolding act add_action
  act_numbered r v L =
      either_action (eqb r.op 21) _ _ (acted_numbered _ _ (room_numbered L _ (done_numbered _)))
      (either_action (eqb r.op 22) _ _ (either_action (atom_alive L.config (operand v r.i)) _ _ (plain_action v _) stop_action)
      (either_action (not (plan_alive L.config (operand v r.i))) _ _ stop_action
      (either_action (eqb r.op 23) _ _ (plain_action v _) (either_action (eqb r.op 24) _ _ (plain_action v _) (plain_action v _)))))

  after_numbered : (rest : List ℕ → Log → Outcome) (L : Log) (a : Action) → NumberedAction a → ((v : List ℕ) (M : Log) → Numbered (rest v M)) → Numbered (after_action rest L a)
  unfolding NumberedAction Numbered after_action
  after_numbered rest L (acted v M) h k = k v M
  after_numbered rest L stopped h k = tt
  after_numbered rest L (barred m) h k = h

  all_numbered : (rs : List Row) (v : List ℕ) (L : Log) → Numbered (act_all s n rs v L)
  unfolding act_all
  all_numbered [] v L = done_numbered L
  all_numbered (r ∷ rs) v L = after_numbered (λ w M. act_all s n rs w M) L (act s n r v L) (act_numbered r v L) (λ w M. all_numbered rs w M)

module _ (program : List Row) (c : Config) where
  first_numbered : (fs : List Firing) → Numbered (fire_first program c fs)
  unfolding fire_first fire fire_object
  first_numbered [] = done_numbered _
  first_numbered (f ∷ fs) = either_numbered (is_object program c.phase f.rule) _ _ (plan_room_numbered _ _ (done_numbered _)) (all_numbered c.phase f.rule _ _ _)

  taken_numbered : (q : Plan) (r : Row) (L : Log) → Numbered (take_step q r L)
  unfolding take_step succeed fail make_atom
  taken_numbered q r L =
      let there = exists_atom r.p (operand q.values r.a) (operand q.values r.b) L.config in
      either_numbered (eqb r.op 31) _ _ (done_numbered _)
      (either_numbered (eqb r.op 32) _ _ (either_numbered there _ _ (done_numbered _) (done_numbered _))
      (either_numbered (eqb r.op 33) _ _ (either_numbered there _ _ (done_numbered _) (done_numbered _))
      (either_numbered (eqb r.op 34) _ _ (then_numbered _ _ (room_numbered L _ (done_numbered _)) (λ M. done_numbered _))
      (either_numbered (eqb r.op 35) _ _ (either_numbered (atom_alive L.config (operand q.values r.i)) _ _ (then_numbered _ _ (done_numbered _) (λ M. done_numbered _)) (done_numbered _))
      (room_numbered L _ (done_numbered _))))))

  plan_numbered : (q : Plan) (rs : List Row) (L : Log) → Numbered (execute_plan q rs L)
  unfolding execute_plan pass_over
  plan_numbered q [] L = done_numbered _
  plan_numbered q (r ∷ rs) L = either_numbered (eqb q.subgoal 0) _ _ (taken_numbered q r L) (done_numbered _)

  exec_numbered : (qs : List Plan) → Numbered (execute program c qs)
  unfolding execute end_cycle
  exec_numbered [] = unless_numbered (eqb c.cycle 65535) 11 _ (omega arith) (done_numbered _)
  exec_numbered (q ∷ qs) = plan_numbered q (remainder program q) _

  pub step_numbered : Numbered (step program c)
  unfolding step
  step_numbered =
      unless_numbered (not (given_well program c)) 1 _ (omega arith)
      (unless_numbered (eqb c.phase 0 || not (eqb c.waiting 0)) 6 _ (omega arith)
      (either_numbered (leb c.phase (sets program)) _ _ (first_numbered (firing program c c.phase)) (exec_numbered (keep is_due c.plans))))

-- SENSE
rows_numbered : (program : List Row) (rs : List Reading) (L : Log) → Numbered (sense_rows program rs L)
unfolding sense_rows sense_row make_atom
rows_numbered program [] L = done_numbered L
rows_numbered program (r ∷ rs) L = then_numbered (sense_row program r L) (sense_rows program rs)
    (either_numbered (eqb r.sign 1) _ _ (room_numbered L _ (done_numbered _)) (done_numbered _)) (λ M. rows_numbered program rs M)

pub sense_numbered : (program : List Row) (c : Config) (rs : List Reading) → Numbered (sense program c rs)
unfolding sense
sense_numbered program c rs =
    unless_numbered (not (given_well program c)) 1 _ (omega arith)
    (unless_numbered (not (eqb c.phase 0) || not (eqb c.waiting 0)) 6 _ (omega arith)
    (unless_numbered (ltb 64 (length rs) || not (every in_range rs)) 7 _ (omega arith)
    (then_numbered (sense_rows program rs (begin c)) _ (rows_numbered program rs (begin c)) (λ L. done_numbered _))))
