-- A load that is refused leaves the configuration; an accepted one has the rows first in the lent program, and starts from them.
use Rattle.std.specs.Prelude.{Ok, Err}
use mathlib.Core.Path.{◌≡◌, refl, ap, ap₂, sym, ◌∙◌}
use mathlib.Core.List.{List, ◌∷◌, ◌++◌}
use Prim.Native.Nat.{ℕ, zero, suc, ◌+◌, ◌*◌, ◌/◌, ◌≤◌}
use native.Mathlib.Omega.{arith}
use native.Mathlib.Nat.{mul-div_left}
use lib.ListN.{length, drop}
use Rattle.table.proofs.Rows as Table
use Rattle.model.specs.declared.Row.{Row}
use Rattle.model.specs.Program.{initial_atoms}
use Rattle.model.specs.Configuration.{fresh}
use Rattle.model.specs.Configuration as Model
use Rattle.model.specs.Load as Load
use Rattle.model.specs.Load.{load, loaded, refused}
use Rattle.program_laws.specs.Lawful.{Lawful}
use Rattle.program_laws.proofs.Lawful.{lawful}
use Rattle.program_laws.proofs.WellFormed.{loads_well_formed}
use Rattle.model.specs.declared.refusal.LoadError.{LoadError}
use Rattle.model.specs.Refusals.{number_of}
use Rattle.program.specs.Rows.{row_of, row_at, rows_from, rows_of, words_of}
use Rattle.program.specs.Loading as Loading
use Rattle.program.specs.Loading.{Answer, loading, answer_of}
use Rattle.program.proofs.Words.{length_words}
use Rattle.program.proofs.Accepts.{Accepts, number_0, rows_of_words}
use Rattle.state.proofs.Room.{numbered}
use Rattle.loading.specs.Starting.{started_from, starting, seen}

-- rows that stand first in the words
module _ (l m : List ℕ) where
  row_front : (k : ℕ) → k * 8 + 8 ≤ length l → row_at (l ++ m) k ≡ row_at l k
  row_front k h = ap row_of (Table.row_front 8 l m k h)

  rows_front : (n k : ℕ) → (k + n) * 8 ≤ length l → rows_from (l ++ m) k n ≡ rows_from l k n
  rows_front zero k h = refl
  rows_front (suc n) k h = ap₂ {C = List Row} (λ (q : Row) (rows : List Row). q ∷ rows) (row_front k (omega arith)) (rows_front n (suc k) (omega arith))

rows_first : (rows : List Row) (rest : List ℕ) → rows_from (words_of rows ++ rest) 0 (length rows) ≡ rows
unfolding rows_of
rows_first rows rest =
    let n = length_words rows in
    let count : length (words_of rows) / 8 ≡ length rows = rw n (mul-div_left (length rows) {n = 8} (omega arith)) in
    rows_front (words_of rows) rest (length rows) 0 (omega arith) ∙ rw count at (rows_of_words rows)

module _ (text lent : List ℕ) where
  -- a refused text keeps the configuration
  kept : (c : Model.Config) → ((loading text lent).number ≡ 0 → ⊥) → c ≡ started_from c (load text)
  unfolding loading answer_of started_from
  kept c h = go (load text) h
    where
      go : (l : Load.Loaded) → ((answer_of lent l).number ≡ 0 → ⊥) → c ≡ started_from c l
      go (loaded rows) h = absurd (h refl)
      go (refused n k) h = refl

  module _ (e : LoadError) (after : List ℕ) (q : Loading.seen (Err e) after ≡ loading text lent) where
    pub refused_start : (c : Model.Config) → seen c (Err e) after ≡ starting text lent c
    unfolding Loading.seen seen starting
    refused_start c =
        let number : number_of e.refusal ≡ (loading text lent).number = ap (λ (a : Answer). a.number) q in
        let same = kept c (λ z. numbered e.refusal (number ∙ z)) in
        λ i. record { answer = q i; config = same i }

  module _ (r : ℕ) (after : List ℕ) (e : Loading.seen (Ok r) after ≡ loading text lent) where
    accepts : Accepts text lent
    unfolding Loading.seen
    accepts = number_0 text lent (sym (ap (λ (a : Answer). a.number) e))

    -- the rows that the text loads to stand first in the lent program
    rows_are : rows_from after 0 r ≡ accepts.rows
    unfolding Loading.seen loading answer_of
    rows_are =
        let l = accepts.loads in
        let f : loading text lent ≡ answer_of lent (loaded accepts.rows) = ap (answer_of lent) l in
        let count : r ≡ length accepts.rows = ap (λ (a : Answer). a.rows) (e ∙ f) in
        let words : after ≡ words_of accepts.rows ++ drop (length accepts.rows * 8) lent = ap (λ (a : Answer). a.program) (e ∙ f) in
        ap₂ {C = List Row} (λ (w : List ℕ) (n : ℕ). rows_from w 0 n) words count ∙ rows_first accepts.rows (drop (length accepts.rows * 8) lent)

    lawful_rows : Lawful accepts.rows
    lawful_rows = lawful accepts.rows (loads_well_formed text accepts.rows accepts.loads)

    pub few_rows : r ≤ 512
    unfolding Loading.seen
    few_rows = omega (arith, lawful_rows.few_rows, accepts.counts, ap (λ (a : Answer). a.rows) e)

    pub few_initial : length (initial_atoms (rows_from after 0 r)) ≤ 256
    few_initial = rw rows_are lawful_rows.few_initial

    pub accepted_start : (c d : Model.Config) → d ≡ fresh (rows_from after 0 r) → seen d (Ok r) after ≡ starting text lent c
    unfolding Loading.seen seen starting started_from
    accepted_start c d q =
        let same : d ≡ started_from c (load text) = q ∙ ap fresh rows_are ∙ ap (started_from c) (sym accepts.loads) in
        λ i. record { answer = e i; config = same i }
