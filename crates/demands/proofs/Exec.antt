-- A plan's step, and the end of a cycle, keep the configuration in shape and tell their events.
use mathlib.Core.Path.{◌≡◌, refl, sym, ap, ◌∙◌, subst}
use mathlib.Core.Bool.{true, false}
use mathlib.Core.Logic.{inl, inr, ◌≢◌}
use mathlib.Core.List.{List, [], ◌∷◌}
use Prim.Native.Nat.{ℕ, ◌≤◌, ◌<◌}
use native.Mathlib.Omega.{arith}
use lib.Dec.{eqb, leb}
use lib.ListN.{length, length-map}
use borrow.Author.Tests.{eqb-true, eqb-false, eq-eqb, leb-false}
use Rattle.lists.specs.Lists.{In, first}
use Rattle.lists.proofs.Lists.{in_map, all_map}
use Rattle.lists.proofs.Tests.{and2}
use Rattle.model.specs.declared.Row.{Row}
use Rattle.model.specs.Program.{sets}
use Rattle.model.specs.Configuration.{Plan, Config, most_atoms, last_next, scheduled, stepped, without_flag, remainder, operand, with_flags, with_waiting, new_atom}
use Rattle.model.specs.Graph.{Sound}
use Rattle.model.specs.Deletion.{node, graph}
use Rattle.model.specs.WellFormed.{makes_atom}
use Rattle.model.specs.Log.{How, held, done, executed, waits, cycle_ended, begin, emit_atom, emit_subgoal, quiet, report}
use Rattle.model.specs.Calls.{next_cycle, end_cycle, take_step, pass_over, execute_plan, execute}
use Rattle.graph_laws.specs.Faithful.{After}
use Rattle.graph_laws.proofs.Turns.{turns_not}
use Rattle.graph_laws.proofs.Faithful.{faithful_begin, faithful_subgoal, faithful_quiet, faithful_report}
use Rattle.graph_laws.proofs.After.{after_unless, after_if, after_done, after_map}
use Rattle.program_laws.specs.Lawful.{Lawful}
use Rattle.program_laws.proofs.Rows.{StepRow, part_row, row_range, object_step}
use Rattle.demands.proofs.Shape.{PlanFormed, Shaped}
use Rattle.demands.proofs.Kept.{plan_flags, shaped_subgoal}
use Rattle.demands.proofs.Flags.{without_flag_fits}
use Rattle.demands.proofs.Values.{Values}
use Rattle.demands.proofs.Operands.{operand_fits, value_there, row_values, remainder_in}
use Rattle.demands.proofs.Steps.{after_take_step}
use Rattle.demands.proofs.Good.{plan_once, Kept, Good, kept, good_begin, good_report, good_atom, good_deletion, good_stepped, good_done, good_failed}

-- the atom that a subgoal step makes equals the step
made : (c : Config) (v : List ℕ) (r : Row) → makes_atom v r (new_atom c r.p (operand v r.a) (operand v r.b)) ≡ true
unfolding makes_atom
made c v r = and2 (eq-eqb r.p r.p refl) (and2 (eq-eqb (operand v r.a) (operand v r.a) refl) (eq-eqb (operand v r.b) (operand v r.b) refl))

module _ (program : List Row) (c : Config) (l : Lawful program) (s : Sound (graph c)) (w : Shaped program c) (z : c.waiting ≡ 0) where
  abbrev start : Good program c (begin c)
  start = good_begin program c w z

  -- "flags 2 and 3 of all plans are cleared, cycle rises by 1, phase is 0"
  cycle_good : After (Good program c) (end_cycle c)
  unfolding end_cycle
  cycle_good = after_unless (Good program c) _ _ _ (λ e. after_done (Good program c) _ (good_report program c _ (record {
    faithful = faithful_quiet c (begin c) (faithful_begin c) next_cycle (turns_not (with_flags clear) (λ q. refl) c);
    shaped = record {
      few_atoms = w.few_atoms;
      few_plans = let m = length-map c.plans (with_flags clear) in omega (arith, w.few_plans);
      phase_fits = omega arith;
      cycle_fits = let d = eqb-false c.cycle 65535 e in omega (arith, w.cycle_fits);
      next_fits = w.next_fits;
      atoms_formed = w.atoms_formed;
      plans_formed = all_map (PlanFormed program c.atoms) (with_flags clear) c.plans (λ q i. plan_flags program c.atoms q (w.plans_formed q i) clear (λ h. without_flag_fits stepped (without_flag scheduled q.flags) (without_flag_fits scheduled q.flags h)));
      waiting_formed = inl z;
    };
    idle = z;
  }) cycle_ended))
    where
      clear : ℕ → ℕ
      clear f = without_flag stepped (without_flag scheduled f)

  module _ (q : Plan) (i : In q c.plans) where
    formed : PlanFormed program c.atoms q
    formed = w.plans_formed q i

    passed_over : (how : How) → After (Kept program c) (pass_over q how (begin c))
    unfolding pass_over
    passed_over how = after_done (Kept program c) _ (kept program c _ (good_report program c _ (good_stepped program c (begin c) start q.id) (executed q.id how)))

    -- the plan's next step is r
    module _ (h : sets program < c.phase) (r : Row) (rs : List Row) (e : remainder program q ≡ r ∷ rs) (f : q.subgoal ≡ 0) where
      row : StepRow r
      row = object_step l q.set q.rule formed.object r (remainder_in program q r rs e)

      values : Values q.values
      values = record { long = formed.values_long; fit = formed.values_fit }

      -- "p(a, b)" is an atom
      arguments : r.op ≢ 35 → (operand q.values r.a ≤ 65535) × (operand q.values r.b ≤ 65535)
      arguments o =
          let j = remainder_in program q r rs e in
          let d = row_values q.values r (formed.values_given r j) in
          let g = row_range l r (part_row program q.set q.rule 3 r j).among in
          let m = row.atom o in
          (operand_fits q.values r.a values g.a m.a (value_there q.values r.a d.1), operand_fits q.values r.b values g.b m.b (value_there q.values r.b d.2))

      -- it is the only plan of its id
      only : (p : Plan) → In p c.plans → p.id ≡ q.id → p ≡ q
      only p j d = plan_once c s p q j i d

      free : (p : Plan) → In p c.plans → p.id ≡ q.id → p.subgoal ≡ 0
      free p j d = ap (λ (x : Plan). x.subgoal) (only p j d) ∙ f

      waits_kept : r.op ≡ 31 → Kept program c (report (waits q.id r.p (operand q.values r.a) (operand q.values r.b)) (quiet (with_waiting q.id) (begin c)))
      waits_kept o = record {
        faithful = faithful_report c _ (faithful_quiet c (begin c) (faithful_begin c) (with_waiting q.id) refl) _;
        shaped = record {
          few_atoms = w.few_atoms;
          few_plans = w.few_plans;
          phase_fits = w.phase_fits;
          cycle_fits = w.cycle_fits;
          next_fits = w.next_fits;
          atoms_formed = w.atoms_formed;
          plans_formed = w.plans_formed;
          waiting_formed = inr (omega (arith, w.phase_fits), record { plan = q; alive = i; is_it = refl; row = r; rest = rs; stands = e; is_31 = o });
        };
      }

      linked : r.op ≡ 36 → eqb c.next last_next ≡ false → leb most_atoms (length c.atoms) ≡ false → Good program c (emit_subgoal q.id r.p (operand q.values r.a) (operand q.values r.b) (begin c))
      linked o j k =
          let m = row.atom (omega arith) in
          let a = arguments (omega arith) in
          record {
            faithful = faithful_subgoal c (begin c) (faithful_begin c) q.id r.p (operand q.values r.a) (operand q.values r.b) (node q, in_map node i, refl, f);
            shaped = shaped_subgoal program c w z q.id r.p (operand q.values r.a) (operand q.values r.b) m.low m.high a.0 a.1
                (let d = eqb-false c.next last_next j in omega (arith, w.next_fits)) (leb-false most_atoms (length c.atoms) k)
                (λ p y d. subst Makes (sym (only p y d)) (r, rs, e, o, makes));
            idle = z;
          }
        where
          Makes : Plan → Type 0
          Makes x = (r' : Row) × (rs' : List Row) × (remainder program x ≡ r' ∷ rs') × (r'.op ≡ 36) × (makes_atom x.values r' (new_atom c r.p (operand q.values r.a) (operand q.values r.b)) ≡ true)

          makes : makes_atom q.values r (new_atom c r.p (operand q.values r.a) (operand q.values r.b)) ≡ true
          makes = made c q.values r

      step_kept : After (Kept program c) (take_step q r (begin c))
      step_kept = after_take_step (Kept program c) q r (begin c)
          waits_kept
          (kept program c _ (good_report program c _ (good_done program c (begin c) start q.id free) (executed q.id done)))
          (kept program c _ (good_report program c _ (good_failed program c (begin c) start q.id) _))
          (λ o j k. let m = row.atom (omega arith) in let a = arguments (omega arith) in
          kept program c _ (good_report program c _ (good_done program c (emit_atom r.p (operand q.values r.a) (operand q.values r.b) (begin c)) (good_atom program c (begin c) start r.p (operand q.values r.a) (operand q.values r.b) m.low m.high a.0 a.1 j k) q.id free) (executed q.id done)))
          (λ o j. kept program c _ (good_deletion program c _ (good_report program c _ (good_done program c (begin c) start q.id free) (executed q.id done)) _))
          (λ a b d g m j k. let low = row.low in let high = row.high in kept program c _ (good_report program c _ (good_stepped program c _ (linked (omega arith) j k) q.id) (executed q.id done)))

  plan_kept : sets program < c.phase → (q : Plan) → In q c.plans → (rs : List Row) → remainder program q ≡ rs → After (Kept program c) (execute_plan q rs (begin c))
  unfolding execute_plan
  plan_kept h q i [] e = passed_over q i _
  plan_kept h q i (r ∷ rs) e = after_if (Kept program c) (eqb q.subgoal 0) _ _ (λ f. step_kept q i h r rs e (eqb-true q.subgoal 0 f)) (λ f. passed_over q i held)

  pub exec_kept : sets program < c.phase → (qs : List Plan) → ((q : Plan) → In q qs → In q c.plans) → After (Kept program c) (execute program c qs)
  unfolding execute
  exec_kept h [] k = after_map (Good program c) (Kept program c) (end_cycle c) (kept program c) cycle_good
  exec_kept h (q ∷ qs) k = plan_kept h q (k q (first refl)) (remainder program q) refl
