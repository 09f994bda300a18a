-- keyrun, call by call.
use Rattle.std.specs.Prelude.{Result, Ok, Err}
use mathlib.Core.Path.{◌≡◌, refl, sym, ap, ◌∙◌}
use mathlib.Core.Bool.{true}
use mathlib.Core.List.{List, [], ◌∷◌}
use Prim.Native.Nat.{ℕ, ◌*◌}
use native.Mathlib.Omega.{arith}
use lib.ListN.{take}
use Rattle.model.specs.declared.Row.{Row}
use Rattle.model.specs.declared.refusal.LoadError.{LoadError}
use Rattle.model.specs.declared.refusal.Refusal.{Refusal}
use Rattle.model.specs.Refusals.{number_of}
use Rattle.model.specs.Configuration.{fresh}
use Rattle.model.specs.Configuration as Configuration
use Rattle.model.specs.WellFormed.{given_well}
use Rattle.model.specs.Load.{Loaded, loaded, load}
use Rattle.model.specs.Load as Load
use Rattle.model.specs.Log.{Outcome, refused, accepted, Answer, answer_of}
use Rattle.model.specs.Calls.{sense}
use Rattle.model.specs.Run.{Run, ran, run, listing, refusal, after_run, after_sense, after_load, keyrun}
use Rattle.model.specs.Claims.{to_sense, reply, work}
use Rattle.program.specs.Rows.{rows_of}
use Rattle.program.specs.Loading.{loading}
use Rattle.program.specs.Loading as Loading
use Rattle.demands.proofs.Numbers.{Numbered, sense_numbered}
use Rattle.demands.proofs.Runs.{ran_keeps}
use Rattle.table.specs.Rows.{row}
use Rattle.state.proofs.Room.{numbered}
use Rattle.loading.specs.Starting.{Start, starting, seen}
use Rattle.running.specs.Running.{stop_of}
use Rattle.printed_run.specs.Printed.{reading, run_text}
use Rattle.in_place.specs.declared.Counts.{Counts}
use Rattle.in_place.specs.declared.Ran.{Ran}
use Rattle.in_place.specs.Given.{given_rows, readings_of}
use Rattle.in_place.specs.Answers.{answered, run_answered}
use Rattle.interpreter.proofs.Loads.{loads_held}

abbrev pub probe : List ℕ
probe = 1 ∷ 1 ∷ 3 ∷ 1200 ∷ []

probed : readings_of probe ≡ reading ∷ []
unfolding readings_of row
probed = refl

-- LOAD
module _ (text lent : List ℕ) (c d : Configuration.Config) (after : List ℕ) where
  pub load_refused : (x : LoadError) → seen d (Err x) after ≡ starting text lent c → keyrun text ≡ refusal (number_of x.refusal)
  unfolding keyrun after_load seen Loading.seen starting loading Loading.answer_of
  load_refused x e = at (load text) refl
    where
      number : (o : Loaded) → load text ≡ o → number_of x.refusal ≡ (Loading.answer_of lent o).number
      number o q = ap (λ (a : Start). a.answer.number) e ∙ ap (λ (l : Loaded). (Loading.answer_of lent l).number) q

      at : (o : Loaded) → load text ≡ o → after_load (load text) ≡ refusal (number_of x.refusal)
      at (loaded rows) q = absurd (numbered x.refusal (number (loaded rows) q))
      at (Load.refused n k) q = ap after_load q ∙ ap refusal (sym (number (Load.refused n k) q))

  pub then_run : (n : ℕ) → seen d (Ok n) after ≡ starting text lent c → keyrun text ≡ run_text (rows_of (take (n * 8) after))
  unfolding keyrun after_load run_text
  then_run n e = ap after_load (loads_held text lent c d after n e)

-- SENSE
module _ (program : List ℕ) (rows : List Row) (p : given_rows program ≡ rows) (c d : Configuration.Config) (f : c ≡ fresh rows) where
  abbrev sensed : Outcome
  sensed = sense rows (fresh rows) (reading ∷ [])

  replied : (r : Result Counts Refusal) → answered d r ≡ reply (to_sense (given_rows program) (readings_of probe)) c → answered d r ≡ answer_of (fresh rows) sensed
  unfolding work
  replied r e = e ∙ (λ i. answer_of (f i) (sense (p i) (f i) (probed i)))

  pub sense_refused : (x : Refusal) → answered d (Err x) ≡ reply (to_sense (given_rows program) (readings_of probe)) c → after_sense rows sensed ≡ refusal (number_of x)
  unfolding after_sense answer_of
  sense_refused x e = at sensed refl (replied (Err x) e)
    where
      at : (o : Outcome) → sensed ≡ o → answered d (Err x) ≡ answer_of (fresh rows) o → after_sense rows sensed ≡ refusal (number_of x)
      at (refused n) q g = ap (after_sense rows) q ∙ ap refusal (sym (ap (λ (a : Answer). a.number) g))
      at (accepted L) q g = absurd (numbered x (ap (λ (a : Answer). a.number) g))

  pub sense_done : (t : Counts) → answered d (Ok t) ≡ reply (to_sense (given_rows program) (readings_of probe)) c → after_sense rows sensed ≡ after_run (run rows d 10)
  unfolding after_sense answer_of Numbered
  sense_done t e = at sensed refl (replied (Ok t) e) (sense_numbered rows (fresh rows) (reading ∷ []))
    where
      at : (o : Outcome) → sensed ≡ o → answered d (Ok t) ≡ answer_of (fresh rows) o → Numbered o → after_sense rows sensed ≡ after_run (run rows d 10)
      at (refused n) q g h = let m : 0 ≡ n = ap (λ (a : Answer). a.number) g in absurd (omega arith)
      at (accepted L) q g h = ap (after_sense rows) q ∙ ap (λ (x : Configuration.Config). after_run (run rows x 10)) (sym (ap (λ (a : Answer). a.config) g))

-- RUN
module _ (program : List ℕ) (rows : List Row) (p : given_rows program ≡ rows) (c d : Configuration.Config) where
  ran_as : (r : Result Ran Refusal) → run_answered d r ≡ run (given_rows program) c 10 → run_answered d r ≡ run rows c 10
  ran_as r e = e ∙ ap (λ (x : List Row). run x c 10) p

  pub run_stopped : (x : Refusal) → run_answered d (Err x) ≡ run (given_rows program) c 10 → after_run (run rows c 10) ≡ refusal (number_of x)
  unfolding after_run
  run_stopped x e = sym (ap after_run (ran_as (Err x) e))

  module _ (t : Ran) (e : run_answered d (Ok t) ≡ run (given_rows program) c 10) where
    pub run_listed : after_run (run rows c 10) ≡ listing d
    unfolding after_run
    run_listed = sym (ap after_run (ran_as (Ok t) e))

    pub run_well : given_well rows d ≡ true
    run_well = ran_keeps rows c 10 _ (sym (ran_as (Ok t) e))
