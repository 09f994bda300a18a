-- sense, test by test.
use Rattle.std.specs.Prelude.{Ok, Err}
use mathlib.Core.Path.{◌≡◌, refl, sym, ap, ◌∙◌, subst}
use mathlib.Core.Bool.{Bool, true, false, not, ◌||◌}
use mathlib.Core.Logic.{◌≢◌, ⊎_elim}
use mathlib.Core.List.{List, [], ◌∷◌, ◌++◌}
use Prim.Native.Nat.{ℕ, ◌+◌, ◌-◌, ◌/◌, ◌%◌, ◌<◌, ◌≤◌}
use native.Mathlib.Omega.{arith}
use lib.Dec.{eqb, ltb}
use lib.ListN.{length, length-append, length-map}
use borrow.Author.Tests.{eqb-true, eqb-false, eq-eqb, ne_eqb, lt-ltb, le-ltb}
use Rattle.lists.specs.Lists.{In, first, when, every, count_up}
use Rattle.lists.proofs.Lists.{test, clash, in_right, or_right}
use Rattle.lists.proofs.Tests.{every_all, length_count_up}
use Rattle.lists.proofs.Bind.{append-nil}
use Rattle.model.specs.declared.Row.{Row}
use Rattle.model.specs.declared.refusal.Refusal.{Refusal}
use Rattle.model.specs.declared.refusal.Refusal.TheVariants.{OutOfTurn, OutOfRange}
use Rattle.model.specs.Refusals.{number_of}
use Rattle.model.specs.Configuration.{Config, with_phase}
use Rattle.deletion.specs.declared.Removal.{Removal}
use Rattle.model.specs.Log.{begin, quiet, Outcome, refused, accepted, unless, and_then, answer_of, called}
use Rattle.model.specs.Calls.{Reading, in_range, sense_rows, sense, Call, to_sense, work, reply}
use Rattle.program.specs.Rows.{rows_of}
use Rattle.graph_laws.proofs.After.{after_of}
use Rattle.demands.proofs.DemandTwo.{Called, called_rows}
use Rattle.state.specs.declared.Scalars.{Scalars}
use Rattle.state.specs.View.{config_of, phase_put}
use Rattle.sensing.specs.Sensing.{Ready, reading_at, readings_from, Shows, SensesRows}
use Rattle.in_place.specs.Given.{given_rows, admitted, Admitted, no_reading, readings_of}
use Rattle.in_place.specs.Answers.{refused_with}
use Rattle.demands.proofs.Outcomes.{unless_true, unless_false}
use Rattle.in_place.proofs.Outcomes.{is_admitted, rows_admitted, admitted_well, admitted_words, refuses}

-- what is admitted is ready for work
pub admitted_ready : (program words : List ℕ) (s : Scalars) → Admitted program words s → Ready words s
admitted_ready program words s e =
    record { whole = admitted_words program words s e; next_fits = (admitted_well program (config_of words s) e).shaped.next_fits }

-- the rows of a slice
pub readings_count : (words : List ℕ) → length (readings_from words 0 (length words / 4)) ≡ length words / 4
readings_count words = length-map (count_up 0 (length words / 4)) (reading_at words) ∙ length_count_up 0 (length words / 4)

whole_readings : (words : List ℕ) → length words % 4 ≡ 0 → readings_of words ≡ readings_from words 0 (length words / 4)
unfolding readings_of
whole_readings words e = ap (λ (b : Bool). readings_from words 0 (length words / 4) ++ when (not b) no_reading) (eq-eqb (length words % 4) 0 e) ∙ append-nil (readings_from words 0 (length words / 4))

torn_readings : (words : List ℕ) → length words % 4 ≢ 0 → readings_of words ≡ readings_from words 0 (length words / 4) ++ (no_reading ∷ [])
unfolding readings_of
torn_readings words e = ap (λ (b : Bool). readings_from words 0 (length words / 4) ++ when (not b) no_reading) (ne_eqb (length words % 4) 0 e)

too_many : (words : List ℕ) → 256 < length words → 64 < length (readings_of words)
too_many words h = at (eqb (length words % 4) 0) refl
  where
    at : (b : Bool) → eqb (length words % 4) 0 ≡ b → 64 < length (readings_of words)
    at true e = let f = eqb-true (length words % 4) 0 e in let g : length (readings_of words) ≡ length words / 4 = ap length (whole_readings words f) ∙ readings_count words in omega arith
    at false e =
        let f = eqb-false (length words % 4) 0 e in
        let k = readings_count words in
        let g : length (readings_of words) ≡ length (readings_from words 0 (length words / 4)) + 1 = ap length (torn_readings words f) ∙ length-append (readings_from words 0 (length words / 4)) (no_reading ∷ []) in
        omega arith

torn_range : (words : List ℕ) → length words % 4 ≢ 0 → every in_range (readings_of words) ≡ false
unfolding in_range
torn_range words e = ⊎_elim (λ h. clash (every_all in_range (readings_of words) h no_reading (subst (In no_reading) (sym (torn_readings words e)) (in_right (readings_from words 0 (length words / 4)) (first refl)))) refl) (λ h. h) (test (every in_range (readings_of words)))

module _ (program : List ℕ) (c : Config) (rows : List ℕ) where
  abbrev call : Call
  call = to_sense (given_rows program) (readings_of rows)

  abbrev worked : Outcome
  worked = and_then (sense_rows (rows_of program) (readings_of rows) (begin c)) (λ L. accepted (quiet (with_phase 1) L))

  module _ (a : admitted program c ≡ true) where
    past_1 : work call c ≡ unless (not (eqb c.phase 0) || not (eqb c.waiting 0)) 6 (unless (ltb 64 (length (readings_of rows)) || not (every in_range (readings_of rows))) 7 worked)
    unfolding work sense
    past_1 = is_admitted program c _ a ∙ ap (λ (p : List Row). tested (and_then (sense_rows p (readings_of rows) (begin c)) (λ L. accepted (quiet (with_phase 1) L)))) (rows_admitted program c a)
      where
        tested : Outcome → Outcome
        tested o = unless (not (eqb c.phase 0) || not (eqb c.waiting 0)) 6 (unless (ltb 64 (length (readings_of rows)) || not (every in_range (readings_of rows))) 7 o)

    pub sense_phase : c.phase ≢ 0 → refused_with c OutOfTurn ≡ reply call c
    sense_phase z = refuses call c OutOfTurn (past_1 ∙ unless_true _ 6 _ (ap (λ (b : Bool). not b || not (eqb c.waiting 0)) (ne_eqb c.phase 0 z)))

    pub sense_waiting : c.waiting ≢ 0 → refused_with c OutOfTurn ≡ reply call c
    sense_waiting z = refuses call c OutOfTurn (past_1 ∙ unless_true _ 6 _ (or_right (not (eqb c.phase 0)) (ap not (ne_eqb c.waiting 0 z))))

    module _ (p : c.phase ≡ 0) (idle : c.waiting ≡ 0) where
      past_6 : work call c ≡ unless (ltb 64 (length (readings_of rows)) || not (every in_range (readings_of rows))) 7 worked
      past_6 = past_1 ∙ unless_false _ 6 _ (ap (λ (b : Bool). not b || not (eqb c.waiting 0)) (eq-eqb c.phase 0 p) ∙ ap not (eq-eqb c.waiting 0 idle))

      pub sense_many : 256 < length rows → refused_with c OutOfRange ≡ reply call c
      sense_many h = refuses call c OutOfRange (past_6 ∙ unless_true _ 7 _ (ap (λ (b : Bool). b || not (every in_range (readings_of rows))) (lt-ltb 64 (length (readings_of rows)) (too_many rows h))))

      pub sense_torn : length rows % 4 ≢ 0 → refused_with c OutOfRange ≡ reply call c
      sense_torn e = refuses call c OutOfRange (past_6 ∙ unless_true _ 7 _ (or_right (ltb 64 (length (readings_of rows))) (ap not (torn_range rows e))))

      module _ (m : length rows ≤ 256) (e : length rows % 4 ≡ 0) where
        pub sense_range : every in_range (readings_from rows 0 (length rows / 4)) ≡ false → refused_with c OutOfRange ≡ reply call c
        sense_range h = refuses call c OutOfRange (past_6 ∙ unless_true _ 7 _ (or_right (ltb 64 (length (readings_of rows))) (ap not (ap (every in_range) (whole_readings rows e) ∙ h))))

        module _ (h : every in_range (readings_from rows 0 (length rows / 4)) ≡ true) where
          few : ltb 64 (length (readings_of rows)) ≡ false
          few = let g : length (readings_of rows) ≡ length rows / 4 = ap length (whole_readings rows e) ∙ readings_count rows in le-ltb 64 (length (readings_of rows)) (omega arith)

          past_7 : work call c ≡ and_then (sense_rows (rows_of program) (readings_from rows 0 (length rows / 4)) (begin c)) (λ L. accepted (quiet (with_phase 1) L))
          past_7 = past_6
              ∙ unless_false _ 7 _ (ap (λ (b : Bool). b || not (every in_range (readings_of rows))) few ∙ ap not (ap (every in_range) (whole_readings rows e) ∙ h))
              ∙ ap (λ (rs : List Reading). and_then (sense_rows (rows_of program) rs (begin c)) (λ L. accepted (quiet (with_phase 1) L))) (whole_readings rows e)

          -- the work's refusal, or its log
          pub sense_barred : (words : List ℕ) (e : Refusal) → SensesRows (rows_of program) (readings_from rows 0 (length rows / 4)) c words (Err e) → refused_with c e ≡ reply call c
          unfolding SensesRows and_then
          sense_barred words e s = refuses call c e (past_7 ∙ at (sense_rows (rows_of program) (readings_from rows 0 (length rows / 4)) (begin c)) (s (begin c) refl))
            where
              at : (o : Outcome) → Shows o 0 words (Err e) → and_then o (λ L. accepted (quiet (with_phase 1) L)) ≡ refused (number_of e)
              at (refused n) g = ap refused g
              at (accepted L) g = absurd g

          pub sense_done : (words : List ℕ) (x : Removal) → SensesRows (rows_of program) (readings_from rows 0 (length rows / 4)) c words (Ok x) → (s : Scalars) → s ≡ phase_put 1 x.scalars →
              record { number = 0; did = called; config = config_of words s; made = x.scalars.next - c.next; gone = x.gone } ≡ reply call c
          unfolding SensesRows and_then answer_of
          sense_done words w senses s r = at (sense_rows (rows_of program) (readings_from rows 0 (length rows / 4)) (begin c)) refl (senses (begin c) refl)
            where
              at : (o : Outcome) → sense_rows (rows_of program) (readings_from rows 0 (length rows / 4)) (begin c) ≡ o → Shows o 0 words (Ok w) → record { number = 0; did = called; config = config_of words s; made = w.scalars.next - c.next; gone = w.gone } ≡ reply call c
              at (refused n) k g = absurd g
              at (accepted L) k g =
                  let u : called ≡ L.did = sym (after_of Called (called_rows (rows_of program) (readings_from rows 0 (length rows / 4)) (begin c) refl) k) in
                  let v : config_of words s ≡ with_phase 1 L.config = ap (config_of words) r ∙ ap (with_phase 1) (sym g.0) in
                  let x : w.scalars.next - c.next ≡ L.config.next - c.next = ap (λ (y : Config). y.next - c.next) (sym g.0) in
                  let y : w.gone ≡ L.gone = omega (arith, g.1) in
                  (λ i. record { number = 0; did = u i; config = v i; made = x i; gone = y i }) ∙ ap (answer_of c) (sym (past_7 ∙ ap (λ (o : Outcome). and_then o (λ M. accepted (quiet (with_phase 1) M))) k))

pub ruleset sensing = (admitted_ready, sense_phase, sense_waiting, sense_many, sense_torn, sense_range, sense_barred)
