-- What a load leaves to its callers: its number tells whether the text was accepted, and the words hold the rows that it loads to.
use Rattle.std.specs.Prelude.{if◌then◌else◌}
use mathlib.Core.Path.{◌≡◌, refl, ap, ap₂, ◌∙◌}
use mathlib.Core.Bool.{Bool, true, false, not, ◌&&◌}
use mathlib.Core.Logic.{◌≢◌}
use mathlib.Core.List.{List, [], ◌∷◌, ◌++◌}
use mathlib.Core.Option.{Option, none, some}
use Prim.Native.Nat.{ℕ, zero, suc, ◌+◌, ◌*◌, ◌%◌}
use native.Mathlib.Omega.{arith}
use native.Mathlib.Nat.{mul-div_left, mul-mod_left}
use lib.ListN.{length, take, drop}
use lib.Seq.{take_at, drop-append-add}
use lib.Dec.{eqb}
use borrow.Author.Tests.{eq-eqb, eqb-false}
use Rattle.lists.specs.Lists.{same}
use Rattle.lists.proofs.Cuts.{if_either}
use Rattle.table.specs.Rows.{row}
use Rattle.model.specs.declared.Row.{Row}
use Rattle.model.specs.declared.Scan.{Scan}
use Rattle.model.specs.Text.{Lines, end, unended, line, lines, names, read_row}
use Rattle.model.specs.Load.{Loaded, loaded, refused, load, from_names, load_lines, take_line, take_row, go_on, passed, refused_at, finish, lacking, same_rule, begun, taken, fault, at_first}
use Rattle.program_laws.proofs.WellFormed.{loads_well_formed}
use Rattle.program.specs.Rows.{row_of, row_at, rows_from, rows_of, row_words, words_of, program_formed}
use Rattle.program.specs.Loading.{loading, answer_of}
use Rattle.program.proofs.Words.{length_words}

-- rows behind a first one, by the words behind its words
module _ (r : Row) (words : List ℕ) where
  row_behind : (k : ℕ) → row_at (row_words r ++ words) (suc k) ≡ row_at words k
  unfolding row row_words
  row_behind k =
      let e : suc k * 8 ≡ 8 + k * 8 = omega arith in
      ap (λ (l : List ℕ). row_of (take 8 l)) (ap (λ (n : ℕ). drop n (row_words r ++ words)) e ∙ drop-append-add (row_words r) words (k * 8))

  rows_behind : (n k : ℕ) → rows_from (row_words r ++ words) (suc k) n ≡ rows_from words k n
  rows_behind zero k = refl
  rows_behind (suc n) k = ap₂ {C = List Row} (λ (q : Row) (l : List Row). q ∷ l) (row_behind k) (rows_behind n (suc k))

  row_first : row_at (row_words r ++ words) 0 ≡ r
  unfolding row row_words
  row_first = refl

rows_back : (rows : List Row) → rows_from (words_of rows) 0 (length rows) ≡ rows
unfolding words_of
rows_back [] = refl
rows_back (r ∷ rows) =
    ap₂ {C = List Row} (λ (q : Row) (l : List Row). q ∷ l) (row_first r (words_of rows)) (rows_behind r (words_of rows) (length rows) 0 ∙ rows_back rows)

-- the words of rows hold those rows
pub rows_of_words : (rows : List Row) → rows_of (words_of rows) ≡ rows
unfolding rows_of
rows_of_words rows = rw (length_words rows, mul-div_left (length rows) {n = 8} (omega arith)) (rows_back rows)

-- a refusal's number is not 0
abbrev Numbered : Loaded → Type 0
Numbered (loaded rows) = Unit {0}
Numbered (refused n k) = n ≢ 0

module _ (rest : Scan → Loaded) (numbered : (t : Scan) → Numbered (rest t)) (s : Scan) (r : Row) where
  row_numbered : Numbered (go_on rest (take_row s r))
  unfolding go_on take_row
  row_numbered = go (lacking s && not (same_rule s r)) (eqb (fault s (begun s r) r) 0) refl
    where
      go : (a b : Bool) → eqb (fault s (begun s r) r) 0 ≡ b →
          Numbered (go_on rest (if a then refused_at 3 (s.count + 1) else if b then passed (taken (begun s r) r) else refused_at (fault s (begun s r) r) (s.count + 2)))
      go true b e = λ z. omega arith
      go false true e = numbered (taken (begun s r) r)
      go false false e = eqb-false (fault s (begun s r) r) 0 e

line_numbered : (s : Scan) (rest : Row → Scan → Loaded) → ((r : Row) (t : Scan) → Numbered (rest r t)) → (o : Option Row) → Numbered (take_line s rest o)
unfolding take_line
line_numbered s rest h none = λ z. omega arith
line_numbered s rest h (some r) = row_numbered (rest r) (h r) s r

lines_numbered : (s : Scan) (rows : List Row) (ls : Lines) → Numbered (load_lines s rows ls)
unfolding load_lines finish
lines_numbered s rows end = if_either Numbered (lacking s) (λ z. omega arith) tt
lines_numbered s rows unended = λ z. omega arith
lines_numbered s rows (line l ls) = line_numbered s (λ r t. load_lines t (rows ++ (r ∷ [])) ls) (λ r t. lines_numbered t (rows ++ (r ∷ [])) ls) (read_row l)

names_numbered : (ls : Lines) → Numbered (from_names ls)
unfolding from_names
names_numbered end = λ z. omega arith
names_numbered unended = λ z. omega arith
names_numbered (line l ls) = if_either Numbered (same l names) (lines_numbered at_first [] ls) (λ z. omega arith)

pub record Accepts (text lent : List ℕ) : Type 0 where
  pub rows : List Row
  pub loads : load text ≡ loaded rows
  pub counts : (loading text lent).rows ≡ length rows
  pub holds : rows_of (take ((loading text lent).rows * 8) (loading text lent).program) ≡ rows
  pub formed : program_formed (take ((loading text lent).rows * 8) (loading text lent).program) ≡ true

module _ (text lent : List ℕ) where
  -- a text that loads to rows
  pub loads_accepts : (rows : List Row) → load text ≡ loaded rows → Accepts text lent
  unfolding loading answer_of program_formed
  loads_accepts rows e =
      let front : take (length rows * 8) (words_of rows ++ drop (length rows * 8) lent) ≡ words_of rows = take_at (words_of rows) (drop (length rows * 8) lent) (length rows * 8) (length_words rows) in
      let whole : length (words_of rows) % 8 ≡ 0 = rw (length_words rows) (mul-mod_left (length rows) 8) in
      record {
        rows = rows;
        loads = e;
        counts = rw e;
        holds = rw (e, front) (rows_of_words rows);
        formed = rw (e, front, eq-eqb (length (words_of rows) % 8) 0 whole, rows_of_words rows) (loads_well_formed text rows e);
      }

  -- number 0: the text is accepted
  pub number_0 : (loading text lent).number ≡ 0 → Accepts text lent
  unfolding loading answer_of load
  number_0 z = go (load text) refl (names_numbered (lines text)) z
    where
      go : (l : Loaded) → load text ≡ l → Numbered l → (answer_of lent l).number ≡ 0 → Accepts text lent
      go (loaded rows) e n z = loads_accepts rows e
      go (refused m k) e n z = absurd (n z)
