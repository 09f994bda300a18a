-- Demand 2: in phases 1 to k a rule fires exactly when it is the first of its set with a match, and each call does what it says.
use Rattle.std.specs.Prelude.{if◌then◌else◌}
use mathlib.Core.Path.{◌≡◌, refl, sym, ap, ◌∙◌, subst}
use mathlib.Core.Bool.{Bool, true, false, not, and-eq-true_iff}
use mathlib.Core.Logic.{◌⊎◌, inl, inr, ⊎_elim, ◌≢◌}
use mathlib.Core.List.{List, [], ◌∷◌}
use Prim.Native.Nat.{ℕ, ◌+◌, ◌≤◌, ◌<◌}
use native.Mathlib.Omega.{arith}
use lib.Dec.{eqb, leb, ltb}
use lib.ListN.{length}
use borrow.Author.Tests.{eqb-true, eqb-false, leb-true, leb-false, ltb-false, not-false}
use Rattle.lists.specs.Lists.{keep, every}
use Rattle.lists.proofs.Lists.{test}
use Rattle.model.specs.declared.Row.{Row}
use Rattle.model.specs.Program.{sets, is_object, body}
use Rattle.model.specs.Configuration.{Plan, Config, remainder, atom_alive, with_waiting}
use Rattle.model.specs.Graph.{Sound}
use Rattle.model.specs.Deletion.{graph, Deleted}
use Rattle.model.specs.Render.{well_formed}
use Rattle.model.specs.WellFormed.{given_well, config_formed}
use Rattle.model.specs.Matching.{Firing, firing}
use Rattle.model.specs.Meaning.{FirstMatch, FirstWithMatch}
use Rattle.model.specs.Log.{nothing, an_atom, a_plan, Did, fired, moved_on, executed, waits, cycle_ended, called, Log, begin, report, accepted}
use Rattle.model.specs.Calls.{Reading, in_range, room_for_plan, make_atom, withdraw_if, withdraw, sense_row, sense_rows, sense, fire_object, fire, fire_first, end_cycle, pass_over, execute_plan, execute, step, answered, answer, delete, is_due, set_stepped, set_failed, remove_step}
use Rattle.model.specs.Effects.{Turned, Senses, Fired, Answered, StepDone, StepFailed}
use Rattle.model.specs.Claims.{Fires, NoMatch, StepObeys, SenseObeys, DemandTwo}
use Rattle.graph_laws.specs.Faithful.{After}
use Rattle.graph_laws.proofs.After.{after_then, after_unless, after_if, after_done, after_of}
use Rattle.graph_laws.proofs.Deletion.{deleted}
use Rattle.program_laws.proofs.Tests.{or_neither_right}
use Rattle.program_laws.specs.Lawful.{Lawful}
use Rattle.program_laws.proofs.Lawful.{lawful}
use Rattle.demands.proofs.Outcomes.{passed}
use Rattle.demands.proofs.Shape.{Shaped, formed_shaped}
use Rattle.demands.proofs.Actions.{after_act, after_actions}
use Rattle.demands.proofs.Steps.{after_room, after_take_step}
use Rattle.demands.proofs.Good.{good_begin}
use Rattle.demands.proofs.Told.{told_done, told_then, told_after, told_accepted}
use Rattle.demands.proofs.Effects.{phase_turned, waiting_turned, step_done, step_failed}
use Rattle.demands.proofs.Choice.{FiresWith, Chosen, none_chosen, chosen, choice}
use Rattle.demands.proofs.SenseEffects.{RowBarred, rows_told}
use Rattle.demands.proofs.FireEffects.{FireBarred, fire_told}
use Rattle.demands.proofs.ExecEffects.{ExecBarred, exec_told}

-- a rule that fires says so, and leaves the phase as it was
abbrev FiredIn : ℕ → ℕ → ℕ → Log → Type 0
FiredIn phase s n L = Fires L s n × (L.config.phase ≡ phase)

fired_after : (program : List Row) (phase s : ℕ) (f : Firing) (L : Log) → L.config.phase ≡ phase → After (FiredIn phase s f.rule) (fire program s f L)
unfolding fire fire_object room_for_plan
fired_after program phase s f L e = after_if (FiredIn phase s f.rule) (is_object program s f.rule) _ _
    (λ o. after_unless _ _ _ _ (λ h. after_unless _ _ _ _ (λ k. after_done _ _ ((a_plan L.config.next, refl), e))))
    (λ o. after_actions s f.rule (body program s f.rule) (λ before v M. FiredIn phase s f.rule M) (FiredIn phase s f.rule) (λ before v M p. p)
    (λ before r after q v M p. after_act s f.rule r v M (λ w N. FiredIn phase s f.rule N)
    (λ op h k. ((an_atom M.config.next, refl), p.1)) (λ op h. p) (λ h op. p) (λ h op. p) (λ op h. p))
    (body program s f.rule) [] refl f.match.values (report (fired s f.rule nothing) L) ((nothing, refl), e))

-- exec fires no rule
abbrev number : Did → ℕ
number (fired s n m) = 1
number moved_on = 2
number (executed k how) = 3
number (waits k p a b) = 4
number cycle_ended = 5
number called = 6

differ : {C : Type 0} {d e : Did} → d ≡ e → number d ≢ number e → C
differ p n = absurd (n (ap number p))

abbrev NotFired : Log → Type 0
NotFired L = number L.did ≢ 1

not_fired_exec : (program : List Row) (c : Config) (qs : List Plan) → After NotFired (execute program c qs)
unfolding execute end_cycle execute_plan pass_over
not_fired_exec program c [] = after_unless NotFired _ _ _ (λ e. after_done NotFired _ (omega arith))
not_fired_exec program c (q ∷ qs) = at (remainder program q)
  where
    at : (rs : List Row) → After NotFired (execute_plan q rs (begin c))
    at [] = after_done NotFired _ (omega arith)
    at (r ∷ rs) = after_if NotFired (eqb q.subgoal 0) _ _
        (λ e. after_take_step NotFired q r (begin c) (λ h. omega arith) (omega arith) (omega arith) (λ h i j. omega arith) (λ h i. omega arith) (λ h i j k l m n. omega arith))
        (λ e. after_done NotFired _ (omega arith))

-- the other calls
abbrev pub Called : Log → Type 0
Called L = L.did ≡ called

called_withdraw : (ts : List ℕ) (L : Log) → Called L → Called (withdraw ts L)
unfolding withdraw withdraw_if
called_withdraw [] L e = e
called_withdraw (t ∷ ts) L e = called_withdraw ts (withdraw_if (atom_alive L.config t) t L) (at (atom_alive L.config t))
  where
    at : (b : Bool) → Called (withdraw_if b t L)
    at true = e
    at false = e

pub called_rows : (program : List Row) (rs : List Reading) (L : Log) → Called L → After Called (sense_rows program rs L)
unfolding sense_rows sense_row make_atom
called_rows program [] L e = after_done Called _ e
called_rows program (r ∷ rs) L e = after_then Called Called (sense_row program r L) (sense_rows program rs)
    (after_if Called (eqb r.sign 1) _ _ (λ h. after_room Called L _ (λ i j. after_done Called _ e)) (λ h. after_done Called _ (called_withdraw _ L e)))
    (λ M g. called_rows program rs M g)

-- what the first test of a call says: program and configuration are well formed
pub record Given (program : List Row) (c : Config) : Type 0 where
  pub lawful_rows : Lawful program
  pub sound : Sound (graph c)
  pub shaped : Shaped program c

pub given : (program : List Row) (c : Config) → given_well program c ≡ true → Given program c
unfolding given_well
given program c e =
    let a = (and-eq-true_iff (well_formed program) (config_formed program c)).0 e in
    let b = formed_shaped program c a.1 in
    record { lawful_rows = lawful program a.0; sound = b.0; shaped = b.1 }

-- the claim of steps
module _ (program : List Row) (c : Config) (L : Log) (w : Given program c) (idle : c.waiting ≡ 0) where
  -- phases 1 to k
  in_set : fire_first program c (firing program c c.phase) ≡ accepted L → c.phase ≤ sets program → StepObeys program c L
  unfolding fire_first
  in_set e h = at (firing program c c.phase) (choice program c c.phase w.sound) e
    where
      here : (s n : ℕ) → (s ≡ c.phase) × FirstWithMatch program c s n → FirstWithMatch program c c.phase n
      here s n x = subst (λ (t : ℕ). FirstWithMatch program c t n) x.0 x.1

      -- no rule has a match
      left : NoMatch program c c.phase → (L.did ≡ moved_on) × Turned (c.phase + 1) c.cycle c.waiting c L.config → StepObeys program c L
      left nm x = record {
        fires_first = λ s n g. (λ f. differ (sym x.0 ∙ f.1) (omega arith), λ v. let u = here s n v in absurd (nm n u.in_set u.has));
        fires_rightly = λ s n g f. differ (sym x.0 ∙ f.1) (omega arith);
        leaves_set = λ g. (λ z. nm, λ z. x.1.new_phase);
        moves_on = λ g. (λ z. nm, λ z. x.0);
        moves_alone = λ g d. x.1;
        exec_fires_none = λ g. absurd (omega arith);
        executes = λ g. absurd (omega arith);
      }

      -- f is the first with one
      went : (f : Firing) → FiresWith program c c.phase f → Fired program c.phase f.rule f.match c L.config L.did → FiredIn c.phase c.phase f.rule L → StepObeys program c L
      went f v did x = record {
        fires_first = λ s n g. (
          λ k. let q = same s n k in (sym q.0, subst (λ (t : ℕ). FirstWithMatch program c t n) q.0 (subst (FirstWithMatch program c c.phase) q.1 v.first_rule)),
          λ u. let q = only (here s n u) in (x.0.0, x.0.1 ∙ ap (λ (t : ℕ). fired t f.rule x.0.0) (sym u.0) ∙ ap (λ (t : ℕ). fired s t x.0.0) (sym q)),
        );
        fires_rightly = λ s n g k. let q = same s n k in (
          f.match,
          subst (λ (t : ℕ). FirstMatch program c t n f.match) q.0 (subst (λ (m : ℕ). FirstMatch program c c.phase m f.match) q.1 v.first_match),
          subst (λ (t : ℕ). Fired program t n f.match c L.config L.did) q.0 (subst (λ (m : ℕ). Fired program c.phase m f.match c L.config L.did) q.1 did),
        );
        leaves_set = λ g. (λ z. absurd (omega (arith, x.1)), λ nm. absurd (nm f.rule v.first_rule.in_set v.first_rule.has));
        moves_on = λ g. (λ z. differ (sym z ∙ x.0.1) (omega arith), λ nm. absurd (nm f.rule v.first_rule.in_set v.first_rule.has));
        moves_alone = λ g d. differ (sym d ∙ x.0.1) (omega arith);
        exec_fires_none = λ g. absurd (omega arith);
        executes = λ g. absurd (omega arith);
      }
        where
          same : (s n : ℕ) → Fires L s n → (c.phase ≡ s) × (f.rule ≡ n)
          same s n k =
              let d : fired c.phase f.rule x.0.0 ≡ fired s n k.0 = sym x.0.1 ∙ k.1 in
              (cc d, cc d)

          -- two rules that are each the first with a match are one
          only : {n : ℕ} → FirstWithMatch program c c.phase n → n ≡ f.rule
          only {n} u = ⊎_elim (λ g. absurd (v.first_rule.none_before n u.in_set g u.has)) (λ g. ⊎_elim (λ k. absurd (u.none_before f.rule v.first_rule.in_set k v.first_rule.has)) (λ k. k) g) (order n f.rule)
            where
              order : (n m : ℕ) → (n < m) ⊎ ((m < n) ⊎ (n ≡ m))
              order n m = ⊎_elim (λ p. ⊎_elim (λ q. let a = leb-true m n p in let b = leb-true n m q in inr (inr (omega arith))) (λ q. inr (inl (leb-false n m q))) (test (leb n m))) (λ p. inl (leb-false m n p)) (test (leb m n))

      at : (fs : List Firing) → Chosen program c c.phase fs → fire_first program c fs ≡ accepted L → StepObeys program c L
      at fs (none_chosen nm) z = left nm (after_of (λ (M : Log). (M.did ≡ moved_on) × Turned (c.phase + 1) c.cycle c.waiting c M.config) (after_done _ _ (refl, phase_turned (c.phase + 1) c)) z)
      at fs (chosen f v) z = went f v
          (told_accepted _ (FireBarred program c w.lawful_rows w.sound w.shaped idle c.phase f.rule f.match v.among) (fire_told program c w.lawful_rows w.sound w.shaped idle c.phase f.rule f.match v.among) z)
          (after_of (FiredIn c.phase c.phase f.rule) (fired_after program c.phase c.phase f (begin c) refl) z)

  in_exec : execute program c (keep is_due c.plans) ≡ accepted L → sets program < c.phase → StepObeys program c L
  in_exec e h = record {
    fires_first = λ s n g. absurd (omega arith);
    fires_rightly = λ s n g. absurd (omega arith);
    leaves_set = λ g. absurd (omega arith);
    moves_on = λ g. absurd (omega arith);
    moves_alone = λ g. absurd (omega arith);
    exec_fires_none = λ g s n f. after_of NotFired (not_fired_exec program c (keep is_due c.plans)) e (ap number f.1);
    executes = λ g. told_accepted _ (ExecBarred program c w.lawful_rows w.sound w.shaped) (exec_told program c w.lawful_rows w.sound w.shaped) e;
  }

step_obeys : (program : List Row) (c : Config) (L : Log) → step program c ≡ accepted L → StepObeys program c L
unfolding step
step_obeys program c L e =
    let a = passed _ 1 _ e in
    let b = passed _ 6 _ a.1 in
    let w = given program c (not-false _ a.0) in
    let idle = eqb-true c.waiting 0 (not-false _ (or_neither_right (eqb c.phase 0) (not (eqb c.waiting 0)) b.0)) in
    at w idle (leb c.phase (sets program)) refl b.1
  where
    at : Given program c → c.waiting ≡ 0 → (b : Bool) → leb c.phase (sets program) ≡ b → (if b then fire_first program c (firing program c c.phase) else execute program c (keep is_due c.plans)) ≡ accepted L → StepObeys program c L
    at w idle true p z = in_set program c L w idle z (leb-true c.phase (sets program) p)
    at w idle false p z = in_exec program c L w idle z (leb-false c.phase (sets program) p)

-- the other calls
sense_obeys : (program : List Row) (c : Config) (rs : List Reading) (L : Log) → sense program c rs ≡ accepted L → SenseObeys program rs c L
unfolding sense
sense_obeys program c rs L e =
    let a = passed _ 1 _ e in
    let b = passed _ 6 _ a.1 in
    let d = passed _ 7 _ b.1 in
    let w = given program c (not-false _ a.0) in
    let idle = eqb-true c.waiting 0 (not-false _ (or_neither_right (not (eqb c.phase 0)) (not (eqb c.waiting 0)) b.0)) in
    let fits = not-false (every in_range rs) (or_neither_right (ltb 64 (length rs)) (not (every in_range rs)) d.0) in
    let rows = sense_rows program rs (begin c) in
    let barred = RowBarred program c w.lawful_rows w.sound rs c in
    let told = rows_told program c w.lawful_rows w.sound rs fits (begin c) (good_begin program c w.shaped idle) in
    told_accepted (SenseObeys program rs c) barred
    (told_then (λ M. Called M × Senses program rs c M.config) (SenseObeys program rs c) barred rows _ (told_after Called _ barred rows (called_rows program rs (begin c) refl) told)
    (λ M x. told_done (SenseObeys program rs c) barred _ (record { fires_none = x.0; before_phase_1 = M.config; senses = x.1; then_phase_1 = phase_turned 1 M.config })))
    d.1

answers_so : (n : ℕ) (c : Config) → n ≤ 1 → Answered n c (answered n c)
unfolding answered
answers_so n c h = record { between = with_waiting 0 c; waiting_ends = waiting_turned 0 c; answers = at (eqb n 1) refl }
  where
    at : (b : Bool) → eqb n 1 ≡ b →
        ((n ≡ 1) × StepDone c.waiting (with_waiting 0 c) (set_stepped c.waiting (if b then remove_step c.waiting (with_waiting 0 c) else set_failed c.waiting (with_waiting 0 c))))
        ⊎ ((n ≡ 0) × StepFailed c.waiting (with_waiting 0 c) (set_stepped c.waiting (if b then remove_step c.waiting (with_waiting 0 c) else set_failed c.waiting (with_waiting 0 c))))
    at true e = inl (eqb-true n 1 e, step_done c.waiting (with_waiting 0 c))
    at false e = let z = eqb-false n 1 e in inr (omega arith, step_failed c.waiting (with_waiting 0 c))

answer_obeys : (program : List Row) (c : Config) (n : ℕ) (L : Log) → answer program c n ≡ accepted L → (L.did ≡ called) × Answered n c L.config
unfolding answer
answer_obeys program c n L e = after_of (λ (M : Log). (M.did ≡ called) × Answered n c M.config)
    (after_unless _ _ _ _ (λ h. after_unless _ _ _ _ (λ i. after_unless _ _ _ _ (λ j. let k = ltb-false 1 n j in after_done _ _ (refl, answers_so n c (omega arith)))))) e

delete_obeys : (program : List Row) (c : Config) (t : ℕ) (L : Log) → delete program c t ≡ accepted L → (L.did ≡ called) × Deleted t c L.config
unfolding delete
delete_obeys program c t L e = after_of (λ (M : Log). (M.did ≡ called) × Deleted t c M.config)
    (after_unless _ _ _ _ (λ h. after_unless _ _ _ _ (λ i. after_unless _ _ _ _ (λ j. after_done _ _ (refl, deleted c (given program c (not-false _ h)).sound t))))) e

pub demand_two : DemandTwo
demand_two = record { of_steps = step_obeys; of_sense = sense_obeys; of_answer = answer_obeys; of_delete = delete_obeys }
