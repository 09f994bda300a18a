-- What a step of exec does is what `Executes` says; where it is refused, the last cycle would end, or one more atom was needed and there
-- was no room.
use mathlib.Core.Path.{◌≡◌, refl, sym, subst}
use mathlib.Core.Bool.{true, false, not, and-eq-true_iff}
use mathlib.Core.Logic.{◌⊎◌, inl, inr, ⊎_elim}
use mathlib.Core.List.{List, [], ◌∷◌}
use Prim.Native.Nat.{ℕ, ◌≤◌, ◌<◌}
use native.Mathlib.Omega.{arith}
use lib.Dec.{eqb}
use lib.ListN.{length}
use borrow.Author.Tests.{eqb-true, eqb-false, not-true}
use Rattle.lists.specs.Lists.{In, first, Pairs, keep}
use Rattle.lists.proofs.Lists.{in_nil, in_cons, in_keep, keep_in, member_in, member_out, pairs_keep}
use Rattle.lists.proofs.Tests.{and2, false_not, map_pairs}
use Rattle.model.specs.declared.Row.{Row}
use Rattle.model.specs.Configuration.{Plan, Config, most_atoms, scheduled, stepped, has_flag, operand, remainder, atom_ids, atom_alive}
use Rattle.model.specs.Graph.{Node, Sound}
use Rattle.model.specs.Deletion.{node, graph}
use Rattle.model.specs.Log.{done, executed, Log, begin, emit_atom, emit_deletion, report, quiet}
use Rattle.model.specs.Calls.{is_due, end_cycle, succeed, fail, make_atom, exists_atom, take_step, pass_over, execute_plan, execute, set_stepped, remove_step}
use Rattle.model.specs.Effects.{Due, FirstDue, NoneDue, now_stepped, StepTaken, asks, finds, misses, finds_none, finds_one, adds, deletes, deletes_none, links, Executes, ends, is_empty, is_held, takes}
use Rattle.model.specs.Refusing.{NoRoomForAtom}
use Rattle.graph_laws.proofs.Turns.{change_plan_turns_not}
use Rattle.graph_laws.proofs.Deletion.{deleted}
use Rattle.program_laws.specs.Lawful.{Lawful}
use Rattle.program_laws.proofs.Rows.{StepRow, object_step}
use Rattle.demands.proofs.Told.{Told, told_done, told_unless, told_if, told_then, told_map, told_atom}
use Rattle.demands.proofs.Effects.{atom_made, plan_changed, step_done, step_failed, subgoal_made, waiting_turned, cycle_ended, found_somewhere, nowhere}
use Rattle.demands.proofs.Shape.{Shaped}
use Rattle.demands.proofs.Operands.{remainder_in}

-- "scheduled and not stepped", as a test
pub due : (q : Plan) → is_due q ≡ true → Due q
unfolding is_due
due q e = let a = (and-eq-true_iff (has_flag scheduled q.flags) (not (has_flag stepped q.flags))).0 e in (a.0, not-true _ a.1)

due_test : (q : Plan) → Due q → is_due q ≡ true
unfolding is_due
due_test q d = and2 d.0 (false_not _ d.1)

-- a plan takes a step
module _ (q : Plan) (r : Row) (row : StepRow r) (c : Config) (few : length c.atoms ≤ most_atoms) (s : Sound (graph c)) where
  abbrev Taken : Log → Type 0
  Taken M = StepTaken q.id q.values r c M.config M.did

  abbrev NoPlace : ℕ → Type 0
  NoPlace n = ((r.op ≡ 34) ⊎ (r.op ≡ 36)) × NoRoomForAtom c n

  abbrev x : ℕ
  x = operand q.values r.a

  abbrev y : ℕ
  y = operand q.values r.b

  abbrev t : ℕ
  t = operand q.values r.i

  live : atom_alive c t ≡ true → In t (atom_ids c)
  unfolding atom_alive
  live e = member_in t (atom_ids c) e

  dead : atom_alive c t ≡ false → ¬ In t (atom_ids c)
  unfolding atom_alive
  dead e = member_out e

  -- the step is off before the deletion begins, and its links stay as they were
  still_sound : Sound (graph (set_stepped q.id (remove_step q.id c)))
  still_sound = subst Sound (sym (change_plan_turns_not q.id _ (λ p. refl) (remove_step q.id c))) (subst Sound (sym (change_plan_turns_not q.id _ (λ p. refl) c)) s)

  step_told : Told Taken NoPlace (take_step q r (begin c))
  unfolding take_step succeed fail make_atom
  step_told =
      let low = row.low in
      let high = row.high in
      told_if Taken NoPlace (eqb r.op 31) _ _ (λ e. told_done Taken NoPlace _ (asks (eqb-true r.op 31 e) (waiting_turned q.id c)))
      (λ e. told_if Taken NoPlace (eqb r.op 32) _ _
      (λ f. let o = eqb-true r.op 32 f in told_if Taken NoPlace (exists_atom r.p x y c) _ _
      (λ h. told_done Taken NoPlace _ (finds o (found_somewhere r.p x y c h) (step_done q.id c)))
      (λ h. told_done Taken NoPlace _ (misses o (nowhere r.p x y c h) (step_failed q.id c))))
      (λ f. told_if Taken NoPlace (eqb r.op 33) _ _
      (λ g. let o = eqb-true r.op 33 g in told_if Taken NoPlace (exists_atom r.p x y c) _ _
      (λ h. told_done Taken NoPlace _ (finds_one o (found_somewhere r.p x y c h) (step_failed q.id c)))
      (λ h. told_done Taken NoPlace _ (finds_none o (nowhere r.p x y c h) (step_done q.id c))))
      (λ g. told_if Taken NoPlace (eqb r.op 34) _ _
      (λ h. let o = eqb-true r.op 34 h in
      told_then (λ M. M ≡ emit_atom r.p x y (begin c)) Taken NoPlace (make_atom r.p x y (begin c)) (succeed q.id)
      (told_atom _ NoPlace (begin c) _ few (λ n z. (inl o, z)) (told_done _ NoPlace _ refl))
      (λ M z. told_done Taken NoPlace _ (subst (λ (N : Log). Taken (report (executed q.id done) (quiet (λ d. set_stepped q.id (remove_step q.id d)) N))) (sym z)
      (adds o (atom_made r.p x y c) (step_done q.id _)))))
      (λ h. told_if Taken NoPlace (eqb r.op 35) _ _
      (λ i. let o = eqb-true r.op 35 i in told_if Taken NoPlace (atom_alive c t) _ _
      (λ j. told_then (λ M. M ≡ report (executed q.id done) (quiet (λ d. set_stepped q.id (remove_step q.id d)) (begin c))) Taken NoPlace (succeed q.id (begin c)) _
      (told_done _ NoPlace _ refl)
      (λ M z. told_done Taken NoPlace _ (subst (λ (N : Log). Taken (emit_deletion t N)) (sym z) (deletes o (live j) (step_done q.id c) (deleted _ still_sound t)))))
      (λ j. told_done Taken NoPlace _ (deletes_none o (dead j) (step_failed q.id c))))
      (λ i.
      let a = eqb-false r.op 31 e in
      let b = eqb-false r.op 32 f in
      let d = eqb-false r.op 33 g in
      let k = eqb-false r.op 34 h in
      let m = eqb-false r.op 35 i in
      let o : r.op ≡ 36 = omega arith in
      told_atom Taken NoPlace (begin c) _ few (λ n z. (inr o, z)) (told_done Taken NoPlace _ (links o (subgoal_made q.id r.p x y c) (plan_changed q.id now_stepped _))))))))

module _ (program : List Row) (c : Config) (l : Lawful program) (s : Sound (graph c)) (w : Shaped program c) where
  -- "as the work meets them": the end of the last cycle, or no room for the atom of a step
  pub record StepBarred (n : ℕ) : Type 0 where
    pub plan : Plan
    pub row : Row
    pub rest : List Row
    pub first_due : FirstDue c plan
    pub stands : remainder program plan ≡ row ∷ rest
    pub free : plan.subgoal ≡ 0
    pub makes_one : (row.op ≡ 34) ⊎ (row.op ≡ 36)
    pub full : NoRoomForAtom c n

  abbrev pub ExecBarred : ℕ → Type 0
  ExecBarred n = ((n ≡ 11) × NoneDue c × (c.cycle ≡ 65535)) ⊎ StepBarred n

  abbrev Did : Log → Type 0
  Did M = Executes program c M.config M.did

  plans_rise : Pairs (λ (p q : Plan). p.id < q.id) c.plans
  plans_rise = map_pairs (λ (p q : Node). p.id < q.id) node c.plans s.plans_rise

  none_due : keep is_due c.plans ≡ [] → NoneDue c
  none_due e q i d = in_nil (subst (In q) e (in_keep is_due i (due_test q d)))

  first_due : (q : Plan) (qs : List Plan) → keep is_due c.plans ≡ q ∷ qs → FirstDue c q
  first_due q qs e =
      let h = keep_in is_due c.plans (subst (In q) (sym e) (first refl)) in
      let o = subst (Pairs (λ (p q : Plan). p.id < q.id)) e (pairs_keep (λ (p q : Plan). p.id < q.id) is_due c.plans plans_rise) in
      record {
        alive = h.0;
        is_due = due q h.1;
        lowest = λ p i d. ⊎_elim (λ z. same_id p z) (λ z. let k = o.0 p z in omega arith) (in_cons (subst (In p) e (in_keep is_due i (due_test p d))));
      }
    where
      same_id : (p : Plan) → p ≡ q → q.id ≤ p.id
      same_id p z = subst (λ (u : Plan). u.id ≤ p.id) z (omega arith)

  plan_told : (q : Plan) → FirstDue c q → (rs : List Row) → remainder program q ≡ rs → Told Did ExecBarred (execute_plan q rs (begin c))
  unfolding execute_plan pass_over
  plan_told q f [] e = told_done Did ExecBarred _ (is_empty q f e (plan_changed q.id now_stepped c))
  plan_told q f (r ∷ rs) e = told_if Did ExecBarred (eqb q.subgoal 0) _ _
      (λ z. told_map _ Did _ ExecBarred (take_step q r (begin c))
      (λ M x. takes q r rs f e (eqb-true q.subgoal 0 z) x)
      (λ n x. inr (record { plan = q; row = r; rest = rs; first_due = f; stands = e; free = eqb-true q.subgoal 0 z; makes_one = x.0; full = x.1 }))
      (step_told q r (object_step l q.set q.rule (w.plans_formed q f.alive).object r (remainder_in program q r rs e)) c w.few_atoms s))
      (λ z. told_done Did ExecBarred _ (is_held q r rs f e (eqb-false q.subgoal 0 z) (plan_changed q.id now_stepped c)))

  pub exec_told : Told Did ExecBarred (execute program c (keep is_due c.plans))
  unfolding execute end_cycle
  exec_told = at (keep is_due c.plans) refl
    where
      at : (qs : List Plan) → keep is_due c.plans ≡ qs → Told Did ExecBarred (execute program c qs)
      at [] e = told_unless Did ExecBarred _ 11 _ (λ z. inl (refl, none_due e, eqb-true c.cycle 65535 z)) (λ z. told_done Did ExecBarred _ (ends (none_due e) (cycle_ended c)))
      at (q ∷ qs) e = plan_told q (first_due q qs e) (remainder program q) refl
