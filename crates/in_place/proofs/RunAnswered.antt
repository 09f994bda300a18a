-- run, test by test.
use Rattle.std.specs.Prelude.{if◌then◌else◌}
use mathlib.Core.Path.{◌≡◌, sym, ap, ◌∙◌}
use mathlib.Core.Bool.{Bool, true, false, not, ◌||◌, ◌&&◌}
use mathlib.Core.Logic.{◌≢◌}
use mathlib.Core.List.{List}
use Prim.Native.Nat.{ℕ, ◌<◌, ◌≤◌}
use lib.Dec.{eqb, leb}
use borrow.Author.Tests.{eq-eqb, ne_eqb, le-leb, lt-leb}
use Rattle.lists.specs.Lists.{within}
use Rattle.lists.proofs.Lists.{or_right}
use Rattle.lists.proofs.Tests.{and2}
use Rattle.model.specs.declared.Row.{Row}
use Rattle.model.specs.declared.refusal.Refusal.{Refusal}
use Rattle.model.specs.Refusals.{number_of}
use Rattle.model.specs.Configuration.{Config}
use Rattle.model.specs.WellFormed.{given_well}
use Rattle.model.specs.Run.{RunOutcome, run_refused, ran, steps_of, run}
use Rattle.program.specs.Rows.{rows_of}
use Rattle.running.specs.declared.Course.{Course}
use Rattle.running.specs.Running.{run_of}
use Rattle.in_place.specs.Given.{given_rows, admitted}
use Rattle.in_place.proofs.Outcomes.{rows_admitted}
use Rattle.in_place.proofs.StepAnswered.{in_turn}

-- the test decides
if_true : (b : Bool) (x y : RunOutcome) → b ≡ true → (if b then x else y) ≡ x
if_true b x y e = ap (λ (t : Bool). if t then x else y) e

if_false : (b : Bool) (x y : RunOutcome) → b ≡ false → (if b then x else y) ≡ y
if_false b x y e = ap (λ (t : Bool). if t then x else y) e

module _ (program : List ℕ) (c : Config) (n : ℕ) where
  pub run_untested : (e : Refusal) → admitted program c ≡ false → number_of e ≡ 1 → run_refused (number_of e) ≡ run (given_rows program) c n
  unfolding run admitted
  run_untested e a h = ap run_refused h ∙ sym (if_true (not (given_well (given_rows program) c)) _ _ (ap not a))

  module _ (a : admitted program c ≡ true) where
    past_1 : run (given_rows program) c n ≡ (if eqb c.phase 0 || not (eqb c.waiting 0) then run_refused 6 else if not (within 1 10000 n) then run_refused 7 else ran (steps_of (given_rows program) n c))
    unfolding run admitted
    past_1 = if_false (not (given_well (given_rows program) c)) _ _ (ap not a)

    pub run_phase : c.phase ≡ 0 → run_refused 6 ≡ run (given_rows program) c n
    run_phase z = sym (past_1 ∙ if_true _ _ _ (ap (λ (b : Bool). b || not (eqb c.waiting 0)) (eq-eqb c.phase 0 z)))

    pub run_waiting : c.waiting ≢ 0 → run_refused 6 ≡ run (given_rows program) c n
    run_waiting z = sym (past_1 ∙ if_true _ _ _ (or_right (eqb c.phase 0) (ap not (ne_eqb c.waiting 0 z))))

    module _ (p : c.phase ≢ 0) (w : c.waiting ≡ 0) where
      past_6 : run (given_rows program) c n ≡ (if not (within 1 10000 n) then run_refused 7 else ran (steps_of (given_rows program) n c))
      past_6 = past_1 ∙ if_false _ _ _ (ap (λ (b : Bool). b || not (eqb c.waiting 0)) (ne_eqb c.phase 0 p) ∙ ap not (eq-eqb c.waiting 0 w))

      pub run_none : n < 1 → run_refused 7 ≡ run (given_rows program) c n
      run_none h = sym (past_6 ∙ if_true _ _ _ (ap (λ (b : Bool). not (b && leb n 10000)) (lt-leb 1 n h)))

      module _ (l : 1 ≤ n) where
        pub run_many : 10000 < n → run_refused 7 ≡ run (given_rows program) c n
        run_many h = sym (past_6 ∙ if_true _ _ _ (ap (λ (b : Bool). not (b && leb n 10000)) (le-leb 1 n l) ∙ ap not (lt-leb n 10000 h)))

        pub run_done : n ≤ 10000 → (words' : List ℕ) (r : Course) → run_of words' r ≡ steps_of (rows_of program) n c → ran (run_of words' r) ≡ run (given_rows program) c n
        run_done h words' r e =
            ap ran (e ∙ ap (λ (rows : List Row). steps_of rows n c) (sym (rows_admitted program c a)))
            ∙ sym (past_6 ∙ if_false _ _ _ (ap not (and2 (le-leb 1 n l) (le-leb n 10000 h))))

pub ruleset running = (in_turn, run_phase, run_waiting, run_none, run_many, run_done)
