-- A list of rows is well formed exactly when some text loads to it.
use Rattle.std.specs.Prelude.{if◌then◌else◌}
use Prim.Native.Nat.{ℕ, zero, suc, ◌+◌, ◌-◌, ◌≤◌}
use mathlib.Core.Path.{◌≡◌, refl, ap, ◌∙◌, sym, subst}
use mathlib.Core.Bool.{Bool, true, false, ◌&&◌}
use mathlib.Core.List.{List, [], ◌∷◌, ◌++◌, append_assoc, append-nil}
use mathlib.Core.Option.{Option, none, some}
use native.Mathlib.Omega.{arith}
use lib.ListN.{get_or}
use lib.Dec.{leb, eqb}
use borrow.Author.Tests.{leb-true}
use Rattle.lists.specs.Lists.{within, every, same}
use Rattle.model.specs.declared.Row.{Row}
use Rattle.model.specs.declared.Scan.{Scan}
use Rattle.model.specs.Text.{counting, positive, negative, read_int, Read, number, unreadable, columns, column, last_column, after, row_of, read_row, in_columns, lines, Lines, line, end, unended, names}
use Rattle.model.specs.Load.{Loaded, loaded, refused, finish, lacking, take_row, take_line, Verdict, passed, refused_at, go_on, at_first, load, load_lines, from_names}
use Rattle.model.specs.Render.{text_of, in_range, take_rows, is_loaded, well_formed}
use Rattle.model.specs.Claims.{WellFormedLoads}
use Rattle.lists.proofs.Cuts.{if_either}
use Rattle.program_laws.proofs.Tests.{and_left, and_right}
use Rattle.program_laws.proofs.Range.{InRange, AllInRange, all_in_range, of_all_in_range}
use Rattle.program_laws.proofs.RoundTrip.{load_text}

-- a program that a load finishes with is what it has taken
abbrev Finishes : List Row → Loaded → Type 0
Finishes rows (loaded out) = out ≡ rows
Finishes rows (refused n k) = Unit {0}

finishes_on : (rows : List Row) (f : Scan → Loaded) (v : Verdict) → ((t : Scan) → Finishes rows (f t)) → Finishes rows (go_on f v)
unfolding go_on
finishes_on rows f (passed t) ih = ih t
finishes_on rows f (refused_at n k) ih = tt

finishes : (s : Scan) (before rows : List Row) → Finishes (before ++ rows) (take_rows s before rows)
unfolding take_rows finish
finishes s before [] = if_either (Finishes (before ++ [])) (lacking s) tt (sym (append-nil before))
finishes s before (r ∷ rs) =
    finishes_on _ _ (take_row s r) (λ t.
    subst (λ (l : List Row). Finishes l (take_rows t (before ++ (r ∷ [])) rs)) (append_assoc before (r ∷ []) rs) (finishes t (before ++ (r ∷ [])) rs))

-- what a line reads as is in range
abbrev IntSmall : Read → Type 0
IntSmall unreadable = Unit {0}
IntSmall (number v cs) = v ≤ 65544

int_small : (cs : List ℕ) → IntSmall (read_int cs)
unfolding read_int positive negative
int_small [] = tt
int_small (c ∷ cs) =
    if_either IntSmall (eqb c 48) (omega arith)
    (if_either IntSmall (eqb c 45) (minus (counting cs)) (plus (counting (c ∷ cs))))
  where
    minus : (d : ℕ × List ℕ) → IntSmall (negative d)
    minus d = if_either IntSmall (within 1 9 d.0) (omega arith) tt

    plus : (d : ℕ × List ℕ) → IntSmall (positive d)
    plus d = go (within 1 65535 d.0) refl
      where
        go : (b : Bool) → within 1 65535 d.0 ≡ b → IntSmall (if b then number (d.0 + 9) d.1 else unreadable)
        go true e = let h = leb-true d.0 65535 (and_right (leb 1 d.0) (leb d.0 65535) e) in omega arith
        go false e = tt

abbrev ColumnsSmall : Option (List ℕ) → Type 0
ColumnsSmall none = Unit {0}
ColumnsSmall (some v) = (k : ℕ) → get_or v k 0 ≤ 65544

small_after : (x : ℕ) (o : Option (List ℕ)) → x ≤ 65544 → ColumnsSmall o → ColumnsSmall (after x o)
unfolding after
small_after x none h s = tt
small_after x (some v) h s = λ k. elim k as (λ (j : ℕ). get_or (x ∷ v) j 0 ≤ 65544) [ zero ↦ h | suc j ↦ s j ]

small_last : (r : Read) → IntSmall r → ColumnsSmall (last_column r)
unfolding last_column
small_last unreadable h = tt
small_last (number v []) h = λ k. elim k as (λ (j : ℕ). get_or (v ∷ []) j 0 ≤ 65544) [ zero ↦ h | suc j ↦ omega arith ]
small_last (number v (c ∷ cs)) h = tt

small_column : (f : List ℕ → Option (List ℕ)) (r : Read) → ((cs : List ℕ) → ColumnsSmall (f cs)) → IntSmall r → ColumnsSmall (column f r)
unfolding column
small_column f unreadable s h = tt
small_column f (number v []) s h = tt
small_column f (number v (c ∷ cs)) s h =
    elim (eqb c 32) as (λ b. ColumnsSmall (elim b [ true ↦ after v (f cs) | false ↦ none ])) [ true ↦ small_after v (f cs) h (s cs) | false ↦ tt ]

small_columns : (n : ℕ) (cs : List ℕ) → ColumnsSmall (columns n cs)
unfolding columns
small_columns zero cs = small_last (read_int cs) (int_small cs)
small_columns (suc n) cs = small_column (columns n) (read_int cs) (small_columns n) (int_small cs)

abbrev pub RowInRange : Option Row → Type 0
RowInRange none = Unit {0}
RowInRange (some r) = InRange r

module _ (v : List ℕ) (s : (k : ℕ) → get_or v k 0 ≤ 65544) (e : in_columns v ≡ true) where
  whole_in_range : InRange (record {
    set = get_or v 0 0 - 9;
    rule = get_or v 1 0 - 9;
    part = get_or v 2 0 - 9;
    op = get_or v 3 0 - 9;
    i = get_or v 4 0;
    p = get_or v 5 0 - 9;
    a = get_or v 6 0;
    b = get_or v 7 0;
  })
  unfolding in_columns
  whole_in_range =
      let p = leb-true (get_or v 5 0) 264 (and_right (leb 9 (get_or v 5 0)) _ (and_right (leb 9 (get_or v 0 0) && leb 9 (get_or v 1 0) && leb 9 (get_or v 2 0) && leb 9 (get_or v 3 0)) _ e)) in
      omega (arith, s 0, s 1, s 2, s 3, s 4, s 6, s 7)

row_in_range : (o : Option (List ℕ)) → ColumnsSmall o → RowInRange (row_of o)
unfolding row_of
row_in_range none s = tt
row_in_range (some v) s = go (in_columns v) refl
  where
    go : (b : Bool) → in_columns v ≡ b → RowInRange (row_of (some v))
    go true e = rw e (whole_in_range v s e)
    go false e = rw e tt

pub line_in_range : (cs : List ℕ) → RowInRange (read_row cs)
unfolding read_row
line_in_range cs = row_in_range (columns 7 cs) (small_columns 7 cs)

-- the rows that lines hold
pub record Holds (s : Scan) (before out : List Row) : Type 0 where
  pub rows : List Row
  pub ranges : AllInRange rows
  pub taken : take_rows s before rows ≡ loaded out

refused_is_none : {n k : ℕ} {out : List Row} {A : Type 0} → ◌≡◌ {A = Loaded} (refused n k) (loaded out) → A
refused_is_none e = let z : ◌≡◌ {A = ℕ} 0 1 = cc in absurd (omega arith)

holds_row : (s : Scan) (before out : List Row) (r : Row) (ls : Lines) (v : Verdict) → InRange r → take_row s r ≡ v
    → ((t : Scan) → load_lines t (before ++ (r ∷ [])) ls ≡ loaded out → Holds t (before ++ (r ∷ [])) out)
    → go_on (λ t. load_lines t (before ++ (r ∷ [])) ls) v ≡ loaded out → Holds s before out
unfolding go_on take_rows
holds_row s before out r ls (passed t) h q ih e =
    let w = ih t e in
    record { rows = r ∷ w.rows; ranges = (h, w.ranges); taken = rw q w.taken }
holds_row s before out r ls (refused_at n k) h q ih e = refused_is_none e

holds_line : (s : Scan) (before out : List Row) (ls : Lines) (o : Option Row) → RowInRange o
    → ((t : Scan) (r : Row) → load_lines t (before ++ (r ∷ [])) ls ≡ loaded out → Holds t (before ++ (r ∷ [])) out)
    → take_line s (λ r t. load_lines t (before ++ (r ∷ [])) ls) o ≡ loaded out → Holds s before out
unfolding take_line
holds_line s before out ls none h ih e = refused_is_none e
holds_line s before out ls (some r) h ih e = holds_row s before out r ls (take_row s r) h refl (λ t. ih t r) e

holds : (s : Scan) (before out : List Row) (ls : Lines) → load_lines s before ls ≡ loaded out → Holds s before out
unfolding load_lines take_rows
holds s before out end e = record { rows = []; ranges = tt; taken = e }
holds s before out unended e = refused_is_none e
holds s before out (line l ls) e = holds_line s before out ls (read_row l) (line_in_range l) (λ t r. holds t (before ++ (r ∷ [])) out ls) e

taken_of : (rows : List Row) → is_loaded (take_rows at_first [] rows) ≡ true → take_rows at_first [] rows ≡ loaded rows
unfolding is_loaded
taken_of rows e = go (take_rows at_first [] rows) refl (finishes at_first [] rows) e
  where
    go : (l : Loaded) → take_rows at_first [] rows ≡ l → Finishes rows l → is_loaded l ≡ true → take_rows at_first [] rows ≡ loaded rows
    go (loaded out) q f e = q ∙ ap loaded f
    go (refused n k) q f e = let z : ◌≡◌ {A = ℕ} 0 1 = cc in absurd (omega arith)

pub text_loads : (rows : List Row) → well_formed rows ≡ true → load (text_of rows) ≡ loaded rows
unfolding well_formed
text_loads rows e = load_text rows (all_in_range rows (and_left _ _ e)) ∙ taken_of rows (and_right (every in_range rows) _ e)

from_lines : (ls : Lines) (out : List Row) → from_names ls ≡ loaded out → Holds at_first [] out
unfolding from_names
from_lines end out e = refused_is_none e
from_lines unended out e = refused_is_none e
from_lines (line l ls) out e = go (same l names) e
  where
    go : (b : Bool) → (if b then load_lines at_first [] ls else refused 2 1) ≡ loaded out → Holds at_first [] out
    go true e = holds at_first [] out ls e
    go false e = refused_is_none e

taken_out : (rows out : List Row) → take_rows at_first [] rows ≡ loaded out → out ≡ rows
taken_out rows out e = subst (Finishes rows) e (finishes at_first [] rows)

pub loads_well_formed : (text : List ℕ) (rows : List Row) → load text ≡ loaded rows → well_formed rows ≡ true
unfolding load well_formed is_loaded
loads_well_formed text rows e =
    let w = from_lines (lines text) rows e in
    let f : rows ≡ w.rows = taken_out w.rows rows w.taken in
    rw (f, of_all_in_range w.rows w.ranges, w.taken)

-- "A program is well formed when some text loads to it."
pub well_formed_loads : WellFormedLoads
well_formed_loads = record {
  exactly = λ program. (λ e. (text_of program, text_loads program e), λ t. loads_well_formed t.0 program t.1);
  renders = text_loads;
}
