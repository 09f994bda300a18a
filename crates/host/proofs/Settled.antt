-- What stands in the lent slices after a call, accepted or refused.
use Rattle.std.specs.Prelude.{if◌then◌else◌, Result, Ok, Err, MatchResult, OnErr, IsOkAnd}
use mathlib.Core.Path.{◌≡◌, refl, sym, ap, ◌∙◌, subst}
use mathlib.Core.Bool.{Bool, true, false, ◌&&◌, and-false, and-eq-true_iff}
use mathlib.Core.Logic.{◌≢◌}
use mathlib.Core.List.{List, [], ◌∷◌}
use Prim.Native.Nat.{ℕ, zero, suc, ◌+◌}
use lib.Dec.{eqb, leb}
use lib.ListN.{length}
use borrow.Author.Tests.{eqb-true, eq-eqb, ne_eqb}
use native.Mathlib.Omega.{arith}
use Rattle.lists.proofs.Lists.{clash}
use Rattle.model.specs.declared.Row.{Row}
use Rattle.model.specs.declared.refusal.Refusal.{Refusal}
use Rattle.model.specs.Refusals.{number_of}
use Rattle.model.specs.Configuration.{Config}
use Rattle.model.specs.WellFormed.{config_formed, given_well}
use Rattle.model.specs.Program.{sets}
use Rattle.model.specs.Render.{well_formed}
use Rattle.model.specs.Log.{Answer, Outcome, refused, answer_of, unless, called}
use Rattle.model.specs.Run.{RunOutcome, run_refused, run}
use Rattle.model.specs.Calls.{Call, to_sense, to_step, to_answer, to_delete, sense, step, answer, delete, work, program_of, reply}
use Rattle.state.specs.declared.Scalars.{Scalars}
use Rattle.state.specs.View.{config_of}
use Rattle.state.proofs.Room.{numbered}
use Rattle.stepping.specs.Steps.{did_of}
use Rattle.running.specs.Running.{stop_of}
use Rattle.in_place.specs.declared.Counts.{Counts}
use Rattle.in_place.specs.declared.Stepped.{Stepped}
use Rattle.in_place.specs.declared.Ran.{Ran}
use Rattle.in_place.specs.Answers.{answered, step_answered, run_answered}
use Rattle.in_place.specs.Given.{given_rows, admitted, Admitted}
use Rattle.host.specs.Layout.{scalars_of, scalar_words, sized, padded, report_of, run_report}
use Rattle.host.specs.Calls.{no_config, held, checked, Trusted, Seen, seen, settled, answer_seen, reply_seen, outcome_seen, run_seen}

-- what the lengths are
module _ (words scalars report : List ℕ) where
  pub long : sized words scalars report ≡ true → (length words ≡ 2432) × (length scalars ≡ 6) × (length report ≡ 8)
  unfolding sized
  long e =
      let a = (and-eq-true_iff (eqb (length words) 2432) (eqb (length scalars) 6 && eqb (length report) 8)).0 e in
      let b = (and-eq-true_iff (eqb (length scalars) 6) (eqb (length report) 8)).0 a.1 in
      (eqb-true (length words) 2432 a.0, eqb-true (length scalars) 6 b.0, eqb-true (length report) 8 b.1)

  pub sized_by : length words ≡ 2432 → length scalars ≡ 6 → length report ≡ 8 → sized words scalars report ≡ true
  unfolding sized
  sized_by a b c = rw (eq-eqb (length words) 2432 a, eq-eqb (length scalars) 6 b, eq-eqb (length report) 8 c)

  pub held_as : sized words scalars report ≡ true → held words scalars report ≡ config_of words (scalars_of scalars)
  unfolding held
  held_as e = ap (λ (b : Bool). if b then config_of words (scalars_of scalars) else no_config) e

  pub held_not : sized words scalars report ≡ false → held words scalars report ≡ no_config
  unfolding held
  held_not e = ap (λ (b : Bool). if b then config_of words (scalars_of scalars) else no_config) e

-- no configuration is admitted with any program
none_formed : (program : List Row) → config_formed program no_config ≡ false
unfolding config_formed
none_formed program = and-false (leb 0 (sets program + 1))

pub none_admitted : (program : List ℕ) (c : Config) → c ≡ no_config → admitted program c ≡ false
unfolding admitted given_well
none_admitted program c e = ap (admitted program) e ∙ ap (λ (b : Bool). well_formed (given_rows program) && b) (none_formed (given_rows program)) ∙ and-false (well_formed (given_rows program))

pub padded_length : (n : ℕ) (l : List ℕ) → length (padded n l) ≡ n
unfolding padded
padded_length zero l = refl
padded_length (suc n) [] = ap suc (padded_length n [])
padded_length (suc n) (x ∷ l) = ap suc (padded_length n l)

-- a refused call leaves what was there
pub kept : (e : Refusal) (before after : List ℕ) → before ≡ settled (number_of e) before after
unfolding settled
kept e before after = sym (ap (λ (b : Bool). if b then after else before) (ne_eqb (number_of e) 0 (numbered e)))

-- A TESTED CALL: what is not well formed is refused, so what passes the test may be handed in to the trusted calls.
unworked : (k : Call) (c : Config) → given_well (program_of k) c ≡ false → work k c ≡ refused 1
unfolding work sense step answer delete unless
unworked (to_sense program rs) c e = rw e
unworked (to_step program) c e = rw e
unworked (to_answer program n) c e = rw e
unworked (to_delete program t) c e = rw e

unrun : (program : List Row) (c : Config) (limit : ℕ) → given_well program c ≡ false → run program c limit ≡ run_refused 1
unfolding run
unrun program c limit e = rw e

module _ (program words scalars report : List ℕ) where
  abbrev sizes : Bool
  sizes = sized words scalars report

  abbrev number : ℕ
  number = checked program words scalars

  -- the test of the words, once the lengths are these
  checks : sizes ≡ true → number ≡ (if admitted program (config_of words (scalars_of scalars)) then 0 else 1)
  unfolding checked admitted
  checks z =
      let l = long words scalars report z in
      rw (eq-eqb (length words) 2432 l.0, eq-eqb (length scalars) 6 l.1)

  module _ (b : Bool) (e : b ≡ (sizes && eqb number 0)) where
    pub may_trust : b ≡ true → Trusted program words scalars report
    may_trust f =
        let t = (and-eq-true_iff sizes (eqb number 0)).0 (sym e ∙ f) in
        let n : ◌≡◌ {A = ℕ} (if admitted program (config_of words (scalars_of scalars)) then 0 else 1) 0 = sym (checks t.0) ∙ eqb-true number 0 t.1 in
        record { lengths = t.0; well = at (admitted program (config_of words (scalars_of scalars))) n }
      where
        at : (x : Bool) → ◌≡◌ {A = ℕ} (if x then 0 else 1) 0 → x ≡ true
        at true n = refl
        at false n = absurd (omega arith)

    ill : b ≡ false → given_well (given_rows program) (held words scalars report) ≡ false
    unfolding admitted
    ill f = at sizes (admitted program (config_of words (scalars_of scalars))) refl refl
      where
        at : (x y : Bool) → sizes ≡ x → admitted program (config_of words (scalars_of scalars)) ≡ y →
            given_well (given_rows program) (held words scalars report) ≡ false
        at false y z g = none_admitted program _ (held_not words scalars report z)
        at true false z g = ap (given_well (given_rows program)) (held_as words scalars report z) ∙ g
        at true true z g = clash (e ∙ rw (z, checks z, g)) f

    pub refused_seen : b ≡ false → (k : Call) → program_of k ≡ given_rows program → seen 1 words scalars report ≡ reply_seen k words scalars report
    unfolding answer_seen answer_of settled
    refused_seen f k g =
        let h = unworked k (held words scalars report) (ap (λ (x : List Row). given_well x (held words scalars report)) g ∙ ill f) in
        ap (λ (x : Outcome). answer_seen (answer_of (held words scalars report) x) report) (sym h)

    pub run_refused_seen : b ≡ false → (limit : ℕ) → seen 1 words scalars report ≡ run_seen (given_rows program) limit words scalars report
    unfolding outcome_seen
    run_refused_seen f limit = ap (λ (x : RunOutcome). outcome_seen x (held words scalars report) report) (sym (unrun (given_rows program) (held words scalars report) limit (ill f)))

-- A TRUSTED CALL: it tells what it did, or why it refuses, and that is settled in the lent slices.
module _ {program words scalars report : List ℕ} where
  pub words_long : Trusted program words scalars report → length words ≡ 2432
  words_long t = (long words scalars report t.lengths).0

  pub scalars_long : Trusted program words scalars report → length scalars ≡ 6
  scalars_long t = (long words scalars report t.lengths).1

  pub report_long : Trusted program words scalars report → length report ≡ 8
  report_long t = (long words scalars report t.lengths).2

module _ (program words words' scalars scalars' report report' : List ℕ) (left : Scalars) (result : ℕ) where
  abbrev Settled : Result (List ℕ) Refusal → Type 0
  Settled r = MatchResult r (λ x. (result ≡ 0) × (scalars' ≡ scalar_words left) × (report' ≡ x)) (λ e. (result ≡ number_of e) × (scalars' ≡ scalars) × (report' ≡ report))

  abbrev After : Seen → Type 0
  After shown =
      (seen result words' scalars' report' ≡ shown)
      × (result ≢ 0 → (words' ≡ words) × (scalars' ≡ scalars) × (report' ≡ report))
      × Trusted program words' scalars' report'

  -- the words and the scalars that the call was given
  module _ (trusted : Trusted program words scalars report) (was : List ℕ) (first : Scalars) (w : was ≡ words) (q : first ≡ scalars_of scalars)
      (l : length words' ≡ 2432) (a : Admitted program words' left) where
    held_first : config_of was first ≡ held words scalars report
    held_first = (λ i. config_of (w i) (q i)) ∙ sym (held_as words scalars report trusted.lengths)

    module _ {T : Type 0} (tells : T → List ℕ) (eight : (t : T) → length (tells t) ≡ 8) (shows : Result T Refusal → Seen)
        (done : (t : T) → record { number = 0; config = config_of words' left; report = tells t } ≡ shows (Ok t))
        (barred : (e : Refusal) → config_of words' left ≡ held words scalars report → record { number = number_of e; config = held words scalars report; report = report } ≡ shows (Err e)) where
      told_after : (told : Result T Refusal) (r : Result (List ℕ) Refusal) → OnErr told ((words' ≡ was) × (left ≡ first)) →
          MatchResult told (λ t. IsOkAnd r (λ x. x ≡ tells t)) (λ e. r ≡ Err e) → Settled r → After (shows told)
      told_after (Ok t) (Ok x) u m s =
          let report_is : report' ≡ tells t = s.2 ∙ m in
          let z = sized_by words' scalars' report' l (ap length s.1) (ap length report_is ∙ eight t) in
          let h = held_as words' scalars' report' z ∙ ap (λ (x : List ℕ). config_of words' (scalars_of x)) s.1 in (
            (λ i. record { number = s.0 i; config = h i; report = report_is i }) ∙ done t,
            λ n. absurd (n s.0),
            record { lengths = z; well = subst (Admitted program words') (sym (ap scalars_of s.1)) a },
          )
      told_after (Ok t) (Err e) u m s = absurd m
      told_after (Err e) r u m s =
          let k : Settled (Err e) = subst Settled m s in
          let z = sized_by words' scalars' report' l (ap length k.1 ∙ scalars_long trusted) (ap length k.2 ∙ report_long trusted) in
          let c : scalars_of scalars' ≡ left = ap scalars_of k.1 ∙ sym q ∙ sym u.1 in
          let h : held words' scalars' report' ≡ held words scalars report = λ i. held ((u.0 ∙ w) i) (k.1 i) (k.2 i) in
          let g = sym (ap (config_of words') c) ∙ sym (held_as words' scalars' report' z) ∙ h in (
            (λ i. record { number = k.0 i; config = h i; report = k.2 i }) ∙ barred e g,
            λ n. (u.0 ∙ w, k.1, k.2),
            record { lengths = z; well = subst (Admitted program words') (sym c) a },
          )

    -- a call tells made, gone and what was done
    module _ (k : Call) where
      abbrev shown : Answer → Seen
      shown x = answer_seen x report

      barred_call : (e : Refusal) → config_of words' left ≡ held words scalars report →
          record { number = number_of e; config = held words scalars report; report = report } ≡ shown (record { number = number_of e; did = called; config = config_of words' left; made = 0; gone = 0 })
      unfolding answer_seen settled
      barred_call e g = λ i. record { number = number_of e; config = sym g i; report = kept e report (report_of 0 0 called) i }

      asked : (x : Answer) → x ≡ reply k (config_of was first) → shown x ≡ reply_seen k words scalars report
      asked x f = ap shown (f ∙ ap (reply k) held_first)

      pub call_after : (told : Result Counts Refusal) (r : Result (List ℕ) Refusal) → answered (config_of words' left) told ≡ reply k (config_of was first) →
          OnErr told ((words' ≡ was) × (left ≡ first)) → MatchResult told (λ t. IsOkAnd r (λ x. x ≡ report_of t.made t.gone called)) (λ e. r ≡ Err e) →
          Settled r →
          After (reply_seen k words scalars report)
      unfolding answer_seen settled
      call_after told r f u m s =
          let x = told_after (λ (t : Counts). report_of t.made t.gone called) (λ t. padded_length 8 _)
          (λ o. shown (answered (config_of words' left) o)) (λ t. refl) barred_call told r u m s in
          (x.0 ∙ asked _ f, x.1, x.2)

      pub step_after : (told : Result Stepped Refusal) (r : Result (List ℕ) Refusal) →
          step_answered (config_of words' left) told ≡ reply k (config_of was first) →
          OnErr told ((words' ≡ was) × (left ≡ first)) →
          MatchResult told (λ t. IsOkAnd r (λ x. x ≡ report_of t.made t.gone (did_of t.did))) (λ e. r ≡ Err e) → Settled r →
          After (reply_seen k words scalars report)
      unfolding answer_seen settled
      step_after told r f u m s =
          let x = told_after (λ (t : Stepped). report_of t.made t.gone (did_of t.did)) (λ t. padded_length 8 _)
          (λ o. shown (step_answered (config_of words' left) o)) (λ t. refl) barred_call told r u m s in
          (x.0 ∙ asked _ f, x.1, x.2)

    -- a run tells also its steps, and why it stops
    module _ (rows : List Row) (limit : ℕ) where
      pub run_after : (told : Result Ran Refusal) (r : Result (List ℕ) Refusal) →
          run_answered (config_of words' left) told ≡ run rows (config_of was first) limit →
          OnErr told ((words' ≡ was) × (left ≡ first)) →
          MatchResult told (λ t. IsOkAnd r (λ x. x ≡ run_report t.made t.gone t.steps (stop_of t.stop))) (λ e. r ≡ Err e) → Settled r →
          After (run_seen rows limit words scalars report)
      unfolding outcome_seen
      run_after told r f u m s =
          let shown = λ (x : RunOutcome). outcome_seen x (held words scalars report) report in
          let x = told_after (λ (t : Ran). run_report t.made t.gone t.steps (stop_of t.stop)) (λ t. padded_length 8 _)
          (λ o. shown (run_answered (config_of words' left) o)) (λ t. refl) (λ e g. refl) told r u m s in
          (x.0 ∙ ap shown (f ∙ ap (λ (c : Config). run rows c limit) held_first), x.1, x.2)
