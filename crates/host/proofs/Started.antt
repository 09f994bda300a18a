-- What an accepted load leaves may be handed in to the trusted calls.
use Rattle.std.specs.Prelude.{if◌then◌else◌, Ok}
use mathlib.Core.Path.{◌≡◌, sym, ap, ◌∙◌, subst}
use mathlib.Core.Bool.{Bool, true, and-eq-true_iff}
use mathlib.Core.List.{List, [], ◌∷◌}
use Prim.Native.Nat.{ℕ, ◌*◌, ◌%◌}
use lib.Dec.{eqb}
use lib.ListN.{length, take, get_or}
use Rattle.model.specs.Configuration.{Config, fresh}
use Rattle.model.specs.WellFormed.{given_well}
use Rattle.demands.proofs.Calls.{keeps_well_formed}
use Rattle.program.specs.Rows.{rows_of, program_formed}
use Rattle.program.specs.Loading as Loading
use Rattle.program.specs.Loading.{loading}
use Rattle.program.proofs.Accepts.{Accepts, number_0}
use Rattle.loading.specs.Starting as Starting
use Rattle.loading.specs.Starting.{Start, started_from, starting}
use Rattle.state.specs.View.{config_of}
use Rattle.in_place.specs.Given.{no_row, given_rows, admitted}
use Rattle.host.specs.Layout.{scalars_of, sized, padded}
use Rattle.host.specs.Calls.{Trusted, rows_report}

module _ (text lent : List ℕ) (c d : Config) (rows : ℕ) (after : List ℕ) (e : Starting.seen d (Ok rows) after ≡ starting text lent c) where
  accepts : Accepts text lent
  unfolding Starting.seen Loading.seen starting
  accepts = number_0 text lent (sym (ap (λ (y : Start). y.answer.number) e))

  -- the first words lent are the program's rows
  rows_given : given_rows (take (rows * 8) after) ≡ accepts.rows
  unfolding given_rows program_formed Starting.seen Loading.seen starting
  rows_given =
      let front = take ((loading text lent).rows * 8) (loading text lent).program in
      let whole = (and-eq-true_iff (eqb (length front % 8) 0) _).0 accepts.formed in
      let same : take (rows * 8) after ≡ front = λ i. take ((e i).answer.rows * 8) (e i).answer.program in
      ap given_rows same ∙ ap (λ (b : Bool). if b then rows_of front else no_row ∷ []) whole.0 ∙ accepts.holds

  -- and the configuration is its fresh one
  started_fresh : d ≡ fresh accepts.rows
  unfolding Starting.seen starting started_from
  started_fresh = ap (λ (y : Start). y.config) e ∙ ap (started_from c) accepts.loads

  started_well : admitted (take (rows * 8) after) d ≡ true
  unfolding admitted
  started_well = (λ i. given_well (rows_given i) (started_fresh i)) ∙ keeps_well_formed.loads_well text accepts.rows accepts.loads

  pub load_trusted : (words' scalars' report' : List ℕ) → sized words' scalars' report' ≡ true → config_of words' (scalars_of scalars') ≡ d →
      report' ≡ rows_report rows →
      Trusted (take (get_or report' 0 0 * 8) after) words' scalars' report'
  unfolding padded
  load_trusted words' scalars' report' z h t =
      let count : get_or report' 0 0 ≡ rows = ap (λ (x : List ℕ). get_or x 0 0) t in
      let program = take (rows * 8) after in
      subst (λ (x : ℕ). Trusted (take (x * 8) after) words' scalars' report') (sym count)
      (record { lengths = z; well = ap (admitted program) h ∙ started_well })
