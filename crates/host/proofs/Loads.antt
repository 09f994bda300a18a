-- What a load leaves in the lent slices, accepted or refused.
use Rattle.std.specs.Prelude.{if◌then◌else◌, Ok, Err}
use mathlib.Core.Path.{◌≡◌, sym, ap, ◌∙◌}
use mathlib.Core.Bool.{Bool, true, false, ◌&&◌, and-false}
use mathlib.Core.Logic.{◌≢◌}
use mathlib.Core.List.{List}
use Prim.Native.Nat.{ℕ, ◌+◌, ◌*◌}
use native.Mathlib.Omega.{arith}
use lib.Dec.{eqb}
use lib.ListN.{length}
use borrow.Author.Tests.{eq-eqb, ne_eqb}
use Rattle.lists.proofs.Tests.{and2}
use Rattle.model.specs.declared.Row.{Row}
use Rattle.model.specs.declared.refusal.LoadError.{LoadError}
use Rattle.model.specs.Refusals.{number_of}
use Rattle.model.specs.Configuration.{Config}
use Rattle.model.specs.Load as Load
use Rattle.model.specs.Load.{load, loaded, refused}
use Rattle.program.specs.Loading as Loading
use Rattle.program.specs.Loading.{answer_of, loading}
use Rattle.program.proofs.Accepts.{number_0}
use Rattle.loading.specs.Starting as Starting
use Rattle.loading.specs.Starting.{Start, started_from, starting}
use Rattle.state.proofs.Room.{numbered}
use Rattle.host.specs.Layout.{sized}
use Rattle.host.specs.Calls.{held, seen, settled, LoadSeen, rows_report, loaded_as, load_seen}
use Rattle.host.proofs.Settled.{kept}

abbrev unread : List ℕ → List ℕ → List ℕ → List ℕ → LoadSeen
unread program words scalars report = record { seen_of = seen 1 words scalars report; program = program }

module _ (text program words scalars report : List ℕ) where
  abbrev chosen : Bool → LoadSeen
  chosen b = if b then loaded_as (loading text program) (started_from (held words scalars report) (load text)) report else unread program words scalars report

  -- slices of other lengths
  pub short_program : length program ≢ 4096 → unread program words scalars report ≡ load_seen text program words scalars report
  unfolding load_seen
  short_program n = ap (λ (b : Bool). chosen (b && sized words scalars report)) (sym (ne_eqb (length program) 4096 n))

  pub short_words : (b : Bool) → b ≡ sized words scalars report → b ≡ false → unread program words scalars report ≡ load_seen text program words scalars report
  unfolding load_seen
  short_words b e f = sym (ap (λ (x : Bool). chosen (eqb (length program) 4096 && x)) (sym e ∙ f) ∙ ap chosen (and-false (eqb (length program) 4096)))

  module _ (p : length program ≡ 4096) (z : sized words scalars report ≡ true) where
    opens : load_seen text program words scalars report ≡ loaded_as (loading text program) (started_from (held words scalars report) (load text)) report
    unfolding load_seen
    opens = ap chosen (and2 (eq-eqb (length program) 4096 p) z)

    module _ (after : List ℕ) (c d : Config) where
      abbrev begun : Load.Loaded → Start
      begun x = record { answer = answer_of program x; config = started_from c x }

      -- a refused load leaves the program as it was, and its number with its line is not 0
      pub load_refused : (x : LoadError) → Starting.seen d (Err x) after ≡ starting text program c → (n : ℕ) → n ≡ number_of x.refusal →
          (record { seen_of = seen (x.line * 4294967296 + n) words scalars report; program = after } ≡ load_seen text program words scalars report)
          × (after ≡ program) × (x.line * 4294967296 + n ≢ 0)
      unfolding Starting.seen Loading.seen starting loading answer_of started_from loaded_as
      load_refused x e n g = let r = at (load text) e in (r.0 ∙ sym opens, r.1, λ y. numbered x.refusal (sym g ∙ none y))
        where
          none : x.line * 4294967296 + n ≡ 0 → n ≡ 0
          none y = omega arith

          at : (l : Load.Loaded) → Starting.seen d (Err x) after ≡ begun l →
              (record { seen_of = seen (x.line * 4294967296 + n) words scalars report; program = after } ≡ loaded_as (answer_of program l) (started_from (held words scalars report) l) report) × (after ≡ program)
          at (loaded rows) f = absurd (numbered x.refusal (ap (λ (s : Start). s.answer.number) f))
          at (refused m k) f =
              let a : n ≡ m = g ∙ ap (λ (s : Start). s.answer.number) f in
              let b : x.line ≡ k = ap (λ (s : Start). s.answer.line) f in
              let q : x.line * 4294967296 + n ≡ m + k * 4294967296 = omega arith in
              let t = kept x.refusal report (rows_report 0) ∙ ap (λ (y : ℕ). settled y report (rows_report 0)) (sym g ∙ a) in
              let u = ap (λ (s : Start). s.answer.program) f in
              (λ i. record { seen_of = record { number = q i; config = held words scalars report; report = t i }; program = u i }, u)

      pub load_accepted : (rows : ℕ) → Starting.seen d (Ok rows) after ≡ starting text program c → (words' scalars' report' : List ℕ) →
          held words' scalars' report' ≡ d → report' ≡ rows_report rows →
          record { seen_of = seen 0 words' scalars' report'; program = after } ≡ load_seen text program words scalars report
      unfolding Starting.seen Loading.seen starting loading answer_of started_from loaded_as settled
      load_accepted rows e words' scalars' report' h t =
          let b = number_0 text program (sym (ap (λ (y : Start). y.answer.number) e)) in
          at b.rows (e ∙ ap begun b.loads) ∙ ap (λ (x : Load.Loaded). loaded_as (answer_of program x) (started_from (held words scalars report) x) report) (sym b.loads) ∙ sym opens
        where
          at : (l : List Row) → Starting.seen d (Ok rows) after ≡ begun (loaded l) →
              record { seen_of = seen 0 words' scalars' report'; program = after } ≡ loaded_as (answer_of program (loaded l)) (started_from (held words scalars report) (loaded l)) report
          at l f =
              let a = h ∙ ap (λ (y : Start). y.config) f in
              let b = t ∙ ap (λ (y : Start). rows_report y.answer.rows) f in
              let k = ap (λ (y : Start). y.answer.program) f in
              λ i. record { seen_of = record { number = 0; config = a i; report = b i }; program = k i }
