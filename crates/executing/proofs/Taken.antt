-- The model's step by its op; the parts of a step; the plan that is taken and its first step.
use Rattle.std.specs.Prelude.{if◌then◌else◌, Option, is_some}
use mathlib.Core.Path.{◌≡◌, refl, sym, ap, ◌∙◌}
use mathlib.Core.Bool.{Bool, true, false, not}
use mathlib.Core.Logic.{◌≢◌}
use mathlib.Core.List.{List, [], ◌∷◌}
use Prim.Native.Nat.{ℕ}
use native.Mathlib.Omega.{arith}
use borrow.Author.Tests.{eq-eqb, ne_eqb}
use Rattle.lists.specs.Lists.{first_of}
use Rattle.lists.specs.Tables.{PlaceOf}
use Rattle.model.specs.declared.Row.{Row}
use Rattle.model.specs.declared.refusal.Refusal.{Refusal}
use Rattle.model.specs.Refusals.{number_of}
use Rattle.model.specs.Configuration.{Plan, Config, operand, remainder, atom_alive, with_waiting}
use Rattle.model.specs.Log as Log
use Rattle.model.specs.Log.{Log, begin, emit_atom, emit_subgoal, emit_deletion, quiet, report, executed, waits, cycle_ended, Outcome, refused, accepted, and_then, unless}
use Rattle.model.specs.Calls.{make_atom, next_cycle, end_cycle, set_stepped, remove_step, succeed, fail, exists_atom, take_step, pass_over, execute_plan, execute}
use Rattle.state.specs.declared.Scalars.{Scalars}
use Rattle.state.specs.View.{atom_ids_of, config_of, atom_bar}
use Rattle.state.proofs.Live.{found_atom_alive}
use Rattle.state.proofs.Room.{atoms_of_bar, found}
use Rattle.stepping.proofs.Room.{atom_barred, atom_free}
use Rattle.executing.specs.Exec.{delete_step, tested_step, subgoal_step}
use Rattle.executing.proofs.Places.{at_none, at_first}

-- a step by its op
module _ (q : Plan) (r : Row) (L : Log) where
  abbrev x : ℕ
  x = operand q.values r.a

  abbrev y : ℕ
  y = operand q.values r.b

  pub take_31 : r.op ≡ 31 → take_step q r L ≡ accepted (report (waits q.id r.p x y) (quiet (with_waiting q.id) L))
  unfolding take_step
  take_31 e = rw (eq-eqb r.op 31 e)

  pub take_32 : r.op ≡ 32 → take_step q r L ≡ tested_step q.id (exists_atom r.p x y L.config) L
  unfolding take_step
  take_32 e = rw (ne_eqb r.op 31 (λ z. omega arith), eq-eqb r.op 32 e)

  turned : (b : Bool) → (if b then fail q.id L else succeed q.id L) ≡ tested_step q.id (not b) L
  turned true = refl
  turned false = refl

  pub take_33 : r.op ≡ 33 → take_step q r L ≡ tested_step q.id (not (exists_atom r.p x y L.config)) L
  unfolding take_step
  take_33 e = rw (ne_eqb r.op 31 (λ z. omega arith), ne_eqb r.op 32 (λ z. omega arith), eq-eqb r.op 33 e) (turned (exists_atom r.p x y L.config))

  pub take_34 : r.op ≡ 34 → take_step q r L ≡ and_then (make_atom r.p x y L) (succeed q.id)
  unfolding take_step
  take_34 e = rw (ne_eqb r.op 31 (λ z. omega arith), ne_eqb r.op 32 (λ z. omega arith), ne_eqb r.op 33 (λ z. omega arith), eq-eqb r.op 34 e)

  pub take_35 : r.op ≡ 35 → take_step q r L ≡ delete_step q.id (operand q.values r.i) L
  unfolding take_step
  take_35 e = rw (ne_eqb r.op 31 (λ z. omega arith), ne_eqb r.op 32 (λ z. omega arith), ne_eqb r.op 33 (λ z. omega arith), ne_eqb r.op 34 (λ z. omega arith), eq-eqb r.op 35 e)

  pub take_36 : r.op ≢ 31 → r.op ≢ 32 → r.op ≢ 33 → r.op ≢ 34 → r.op ≢ 35 → take_step q r L ≡ subgoal_step q.id r.p x y L
  unfolding take_step
  take_36 a b c d e = rw (ne_eqb r.op 31 a, ne_eqb r.op 32 b, ne_eqb r.op 33 c, ne_eqb r.op 34 d, ne_eqb r.op 35 e)

-- one more atom: the refusal, or the work
module _ (words : List ℕ) (s : Scalars) (p a b k : ℕ) where
  abbrev L : Log
  L = begin (config_of words s)

  module _ (e : Refusal) (h : atom_bar s.next s.atoms ≡ number_of e) where
    pub make_barred : and_then (make_atom p a b L) (succeed k) ≡ refused (number_of e)
    unfolding make_atom and_then
    make_barred = ap (λ (o : Outcome). and_then o (succeed k)) (atom_barred L _ e (atoms_of_bar words s ∙ h))

    pub subgoal_barred : subgoal_step k p a b L ≡ refused (number_of e)
    subgoal_barred = atom_barred L _ e (atoms_of_bar words s ∙ h)

  module _ (z : atom_bar s.next s.atoms ≡ 0) where
    pub make_free : make_atom p a b L ≡ accepted (emit_atom p a b L)
    unfolding make_atom
    make_free = atom_free L _ (atoms_of_bar words s ∙ z)

    pub subgoal_free : subgoal_step k p a b L ≡ accepted (report (executed k Log.done) (quiet (set_stepped k) (emit_subgoal k p a b L)))
    subgoal_free = atom_free L _ (atoms_of_bar words s ∙ z)

-- the atom that a step deletes
module _ (words : List ℕ) (s : Scalars) (k t : ℕ) (r : Option ℕ) (f : PlaceOf s.atoms t (atom_ids_of s.atoms words) r) where
  found_alive : is_some r ≡ atom_alive (config_of words s) t
  found_alive = sym (found s.atoms t (atom_ids_of s.atoms words) r f) ∙ found_atom_alive words s t

  pub delete_fails : is_some r ≡ false → delete_step k t (begin (config_of words s)) ≡ fail k (begin (config_of words s))
  delete_fails h = let z = sym found_alive ∙ h in rw z

  pub delete_goes : is_some r ≡ true → delete_step k t (begin (config_of words s)) ≡ accepted (emit_deletion t (report (executed k Log.done) (quiet (λ c. set_stepped k (remove_step k c)) (begin (config_of words s)))))
  unfolding succeed and_then
  delete_goes h = let z = sym found_alive ∙ h in rw z

-- the end of the cycle
module _ (c : Config) where
  pub end_barred : c.cycle ≡ 65535 → end_cycle c ≡ refused 11
  unfolding end_cycle unless
  end_barred e = rw (eq-eqb c.cycle 65535 e)

  pub end_free : c.cycle ≢ 65535 → end_cycle c ≡ accepted (report cycle_ended (quiet next_cycle (begin c)))
  unfolding end_cycle unless
  end_free e = rw (ne_eqb c.cycle 65535 e)

-- the first step of a remainder
module _ (q : Plan) (R : List Row) (L : Log) where
  pub plan_empty : [] ≡ first_of R → execute_plan q R L ≡ pass_over q Log.empty L
  unfolding execute_plan
  plan_empty e = at_none (λ (l : List Row). execute_plan q l L) R (sym e)

module _ (q : Plan) (R : List Row) (L : Log) (x : Row) (e : x ∷ [] ≡ first_of R) where
  pub plan_held : q.subgoal ≢ 0 → execute_plan q R L ≡ pass_over q Log.held L
  unfolding execute_plan
  plan_held z = at_first (λ (l : List Row). execute_plan q l L) R x _ (sym e) (λ m. rw (ne_eqb q.subgoal 0 z))

  pub plan_steps : q.subgoal ≡ 0 → execute_plan q R L ≡ take_step q x L
  unfolding execute_plan
  plan_steps z = at_first (λ (l : List Row). execute_plan q l L) R x _ (sym e) (λ m. rw (eq-eqb q.subgoal 0 z))

-- the first of the plans that are due
module _ (program : List Row) (c : Config) (due : List Plan) where
  pub none_due : first_of due ≡ [] → execute program c due ≡ end_cycle c
  unfolding execute
  none_due e = at_none (execute program c) due e

  pub first_due : (q : Plan) → first_of due ≡ q ∷ [] → execute program c due ≡ execute_plan q (remainder program q) (begin c)
  unfolding execute
  first_due q e = at_first (execute program c) due q _ e (λ m. refl)

pub ruleset taking = (take_31, take_32, take_33, take_34, take_35, take_36)

pub ruleset linking = (subgoal_barred, subgoal_free)

pub ruleset deleting = (delete_fails, delete_goes)

pub ruleset ending = (end_barred, end_free)

pub ruleset planned = (plan_empty, plan_held, plan_steps)

pub ruleset choosing = (none_due, first_due)
