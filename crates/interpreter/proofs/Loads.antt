-- After a load: the words lent hold the program that the text loads to, and the configuration is its fresh one.
use Rattle.std.specs.Prelude.{Ok, Err, if◌then◌else◌}
use mathlib.Core.Path.{◌≡◌, refl, sym, ap, ◌∙◌}
use mathlib.Core.Bool.{Bool, and-eq-true_iff}
use mathlib.Core.List.{List, [], ◌∷◌}
use Prim.Native.Nat.{ℕ, ◌*◌, ◌%◌, ◌≤◌}
use native.Mathlib.Omega.{arith}
use lib.Dec.{eqb}
use lib.ListN.{length, take, drop, length-take}
use lib.Seq.{take_at}
use Rattle.model.specs.declared.refusal.LoadError.{LoadError}
use Rattle.model.specs.Refusals.{number_of}
use Rattle.model.specs.Configuration.{empty, fresh}
use Rattle.model.specs.Configuration as Configuration
use Rattle.model.specs.Load.{Loaded, loaded, refused, load}
use Rattle.program.specs.Rows.{rows_of, words_of, program_formed}
use Rattle.program.specs.Loading.{loading}
use Rattle.program.specs.Loading as Loading
use Rattle.program.proofs.Words.{length_words}
use Rattle.program.proofs.Accepts.{Accepts, number_0}
use Rattle.state.proofs.Room.{numbered}
use Rattle.loading.specs.Starting.{Start, started_from, starting, seen}
use Rattle.in_place.specs.Given.{no_row, given_rows}
use Rattle.interpreter.specs.Playing.{after_load, playing, come_to, Begun}

module _ (text lent : List ℕ) (c d : Configuration.Config) (after : List ℕ) where
  -- a refused load is the whole play
  pub none_played : (x : LoadError) → seen d (Err x) after ≡ starting text lent c → c ≡ empty → (words : List ℕ) → come_to d (Err x) ≡ playing text words
  unfolding seen Loading.seen starting started_from loading Loading.answer_of after_load
  none_played x e f words = at (load text) refl
    where
      at : (o : Loaded) → load text ≡ o → come_to d (Err x) ≡ after_load words (load text)
      at (loaded rows) q =
          let z : number_of x.refusal ≡ 0 = ap (λ (a : Start). a.answer.number) e ∙ ap (λ (o : Loaded). (Loading.answer_of lent o).number) q in
          absurd (numbered x.refusal z)
      at (refused n k) q =
          let g = e ∙ ap (λ (o : Loaded). record { answer = Loading.answer_of lent o; config = started_from c o }) q in
          (λ i. record { config = (g i).config; number = (g i).answer.number; line = (g i).answer.line; calls = 0; made = 0; gone = 0 })
          ∙ (λ i. record { config = f i; number = n; line = k; calls = 0; made = 0; gone = 0 }) ∙ sym (ap (after_load words) q)

  module _ (n : ℕ) (e : seen d (Ok n) after ≡ starting text lent c) where
    -- it is accepted
    pub accepts : Accepts text lent
    unfolding seen Loading.seen starting
    accepts = number_0 text lent (sym (ap (λ (x : Start). x.answer.number) e))

    words_are : take (n * 8) after ≡ take ((loading text lent).rows * 8) (loading text lent).program
    unfolding seen Loading.seen starting
    words_are = λ i. take ((e i).answer.rows * 8) (e i).answer.program

    -- the words lent are the program's rows
    pub rows_held : rows_of (take (n * 8) after) ≡ accepts.rows
    rows_held = ap rows_of words_are ∙ accepts.holds

    pub loads_held : load text ≡ loaded (rows_of (take (n * 8) after))
    loads_held = accepts.loads ∙ ap loaded (sym rows_held)

    pub rows_given : given_rows (take (n * 8) after) ≡ accepts.rows
    unfolding given_rows program_formed
    rows_given =
        let f = (and-eq-true_iff (eqb (length (take ((loading text lent).rows * 8) (loading text lent).program) % 8) 0) _).0 accepts.formed in
        ap (λ (w : List ℕ). if eqb (length w % 8) 0 then rows_of w else no_row ∷ []) words_are
        ∙ ap (λ (b : Bool). if b then rows_of (take ((loading text lent).rows * 8) (loading text lent).program) else no_row ∷ []) f.0 ∙ accepts.holds

    pub started_fresh : d ≡ fresh accepts.rows
    unfolding seen Loading.seen starting started_from
    started_fresh = ap (λ (x : Start). x.config) e ∙ ap (started_from c) accepts.loads

    -- as many words as its rows have
    pub rows_whole : n * 8 ≡ length (take (n * 8) after)
    unfolding seen Loading.seen starting loading Loading.answer_of
    rows_whole =
        let k : n ≡ length accepts.rows = ap (λ (x : Start). x.answer.rows) e ∙ accepts.counts in
        let w : length (take (n * 8) after) ≡ length accepts.rows * 8 =
        ap length words_are
        ∙ ap (λ (o : Loaded). length (take ((Loading.answer_of lent o).rows * 8) (Loading.answer_of lent o).program)) accepts.loads
        ∙ ap length (take_at (words_of accepts.rows) (drop (length accepts.rows * 8) lent) (length accepts.rows * 8) (length_words accepts.rows)) ∙ length_words accepts.rows in
        omega arith

    pub rows_stand : n * 8 ≤ length after
    rows_stand = let h = rows_whole ∙ length-take (n * 8) after in omega arith

    pub begun : Begun (take (n * 8) after) d
    begun = record { text = text; loads = accepts.loads ∙ ap loaded (sym rows_given); starts = started_fresh ∙ ap fresh (sym rows_given) }

    -- the calls on the words lent are the whole play
    pub then_calls : (words : List ℕ) → playing text words ≡ after_load words (loaded (given_rows (take (n * 8) after)))
    then_calls words = ap (after_load words) (accepts.loads ∙ ap loaded (sym rows_given))
