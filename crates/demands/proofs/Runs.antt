-- A run is its steps in turn.
use Rattle.std.specs.Prelude.{if◌then◌else◌}
use mathlib.Core.Path.{◌≡◌, refl, ap, subst}
use mathlib.Core.Bool.{Bool, true, false, not, ◌||◌}
use mathlib.Core.List.{List, [], ◌∷◌}
use Prim.Native.Nat.{ℕ, zero, suc, ◌+◌, ◌-◌}
use native.Mathlib.Omega.{arith}
use lib.Dec.{eqb}
use borrow.Author.Tests.{eqb-true, eqb-false}
use Rattle.lists.specs.Lists.{within}
use Rattle.model.specs.declared.Row.{Row}
use Rattle.model.specs.Configuration.{Config}
use Rattle.model.specs.WellFormed.{given_well}
use Rattle.model.specs.Log.{Log, Outcome, refused, accepted}
use Rattle.model.specs.Calls.{step}
use Rattle.model.specs.Run.{Stop, at-phase-0, at-waiting, at-limit, next_refused, Run, stopped, and_before, after_step, step_then, steps_of, RunOutcome, run_refused, ran, run}
use Rattle.demands.proofs.Calls.{keeps_well_formed}
use Rattle.model.specs.Claims.{to_step, work, Stays, InTurn, StopsRightly, RunInTurn, RunIsItsSteps}

-- a run that stops at once
stops : (program : List Row) (c : Config) (n : ℕ) (w : Stop) → StopsRightly program n 0 c w → RunInTurn program c n (stopped c w)
unfolding stopped
stops program c n w h = record { logs = []; in_turn = tt; counted = refl; at_most = omega arith; ends_at = refl; made_summed = refl; gone_summed = refl; stops_rightly = h }

one_more : (program : List Row) (n t : ℕ) (d : Config) (w : Stop) → StopsRightly program n t d w → StopsRightly program (suc n) (suc t) d w
one_more program n t d at-phase-0 h = (omega arith, h.1)
one_more program n t d at-waiting h = (omega arith, h.1, h.2)
one_more program n t d at-limit h = (ap suc h.0, h.1)
one_more program n t d (next_refused m) h = (omega (arith, h.0), h.1, h.2)

in_turn_more : (program : List Row) (c : Config) (L : Log) (Ls : List Log) → step program c ≡ accepted L → Stays L.config → InTurn program L.config Ls → InTurn program c (L ∷ Ls)
in_turn_more program c L [] e s h = e
in_turn_more program c L (M ∷ Ls) e s h = (e, s, h)

module _ (program : List Row) (c : Config) (n : ℕ) (L : Log) (e : step program c ≡ accepted L) where
  -- one step, and the run ends
  last_step : (w : Stop) → StopsRightly program (suc n) 1 L.config w → RunInTurn program c (suc n) (and_before c L (stopped L.config w))
  unfolding and_before stopped
  last_step w h = record { logs = L ∷ []; in_turn = e; counted = refl; at_most = omega arith; ends_at = refl; made_summed = refl; gone_summed = refl; stops_rightly = h }

  -- one step before a run
  step_before : (r : Run) → Stays L.config → RunInTurn program L.config n r → RunInTurn program c (suc n) (and_before c L r)
  unfolding and_before
  step_before r s h = record {
    logs = L ∷ h.logs;
    in_turn = in_turn_more program c L h.logs e s h.in_turn;
    counted = ap suc h.counted;
    at_most = omega (arith, h.at_most);
    ends_at = h.ends_at;
    made_summed = ap (λ (m : ℕ). (L.config.next - c.next) + m) h.made_summed;
    gone_summed = ap (λ (m : ℕ). L.gone + m) h.gone_summed;
    stops_rightly = one_more program n r.steps r.config r.stop h.stops_rightly;
  }

  goes_on : ((d : Config) → Stays d → RunInTurn program d n (steps_of program n d)) → RunInTurn program c (suc n) (and_before c L (after_step L.config (steps_of program n)))
  unfolding after_step
  goes_on rest = at (eqb L.config.phase 0) (eqb L.config.waiting 0) refl refl
    where
      at : (a b : Bool) → eqb L.config.phase 0 ≡ a → eqb L.config.waiting 0 ≡ b →
          RunInTurn program c (suc n) (and_before c L (if a then stopped L.config at-phase-0 else if not b then stopped L.config at-waiting else steps_of program n L.config))
      at true b p q = last_step at-phase-0 (omega arith, eqb-true L.config.phase 0 p)
      at false false p q = last_step at-waiting (omega arith, eqb-false L.config.phase 0 p, eqb-false L.config.waiting 0 q)
      at false true p q = let s : Stays L.config = (eqb-false L.config.phase 0 p, eqb-true L.config.waiting 0 q) in step_before (steps_of program n L.config) s (rest L.config s)

in_turn : (program : List Row) (n : ℕ) (c : Config) → Stays c → RunInTurn program c n (steps_of program n c)
unfolding steps_of step_then
in_turn program zero c s = stops program c zero at-limit (refl, s)
in_turn program (suc n) c s = at (step program c) refl (in_turn program n)
  where
    at : (o : Outcome) → step program c ≡ o → ((d : Config) → Stays d → RunInTurn program d n (steps_of program n d)) → RunInTurn program c (suc n) (step_then c (steps_of program n) o)
    at (refused m) e ih = stops program c (suc n) (next_refused m) (omega arith, s, e)
    at (accepted L) e ih = goes_on program c n L e ih

abbrev kind : RunOutcome → ℕ
kind (run_refused n) = 0
kind (ran r) = 1

not_ran : {C : Type 0} {n : ℕ} {r : Run} → run_refused n ≡ ran r → C
not_ran e = let z : ◌≡◌ {A = ℕ} 0 1 = ap kind e in absurd (omega arith)

pub run_is_its_steps : RunIsItsSteps
unfolding RunIsItsSteps run
run_is_its_steps program c n r e = at (not (given_well program c)) (eqb c.phase 0) (eqb c.waiting 0) (not (within 1 10000 n)) refl refl e
  where
    at : (g p w l : Bool) → eqb c.phase 0 ≡ p → eqb c.waiting 0 ≡ w →
        (if g then run_refused 1 else if p || not w then run_refused 6 else if l then run_refused 7 else ran (steps_of program n c)) ≡ ran r → RunInTurn program c n r
    at true p w l i j z = not_ran z
    at false true w l i j z = not_ran z
    at false false false l i j z = not_ran z
    at false false true true i j z = not_ran z
    at false false true false i j z = subst (RunInTurn program c n) (cc z) (in_turn program n c (eqb-false c.phase 0 i, eqb-true c.waiting 0 j))

-- a run leaves what is well formed
pub run_keeps : (program : List Row) (n : ℕ) (c : Config) → given_well program c ≡ true → given_well program (steps_of program n c).config ≡ true
unfolding steps_of step_then stopped and_before after_step work
run_keeps program zero c g = g
run_keeps program (suc n) c g = at (step program c) refl (run_keeps program n)
  where
    after : (d : Config) → given_well program d ≡ true → ((x : Config) → given_well program x ≡ true → given_well program (steps_of program n x).config ≡ true) → given_well program (after_step d (steps_of program n)).config ≡ true
    after d h ih = by (eqb d.phase 0) (eqb d.waiting 0)
      where
        by : (a b : Bool) → given_well program (if a then stopped d at-phase-0 else if not b then stopped d at-waiting else steps_of program n d).config ≡ true
        by true b = h
        by false false = h
        by false true = ih d h

    at : (o : Outcome) → step program c ≡ o → ((x : Config) → given_well program x ≡ true → given_well program (steps_of program n x).config ≡ true) → given_well program (step_then c (steps_of program n) o).config ≡ true
    at (refused m) e ih = g
    at (accepted L) e ih = after L.config (keeps_well_formed.calls_keep (to_step program) c L e) ih

pub ran_keeps : (program : List Row) (c : Config) (n : ℕ) (r : Run) → run program c n ≡ ran r → given_well program r.config ≡ true
unfolding run
ran_keeps program c n r e = at (given_well program c) (eqb c.phase 0 || not (eqb c.waiting 0)) (not (within 1 10000 n)) refl e
  where
    at : (g p l : Bool) → given_well program c ≡ g →
        (if not g then run_refused 1 else if p then run_refused 6 else if l then run_refused 7 else ran (steps_of program n c)) ≡ ran r → given_well program r.config ≡ true
    at false p l i z = not_ran z
    at true true l i z = not_ran z
    at true false true i z = not_ran z
    at true false false i z = let same : steps_of program n c ≡ r = cc z in subst (λ (x : Run). given_well program x.config ≡ true) same (run_keeps program n c i)
