-- The text of a program loads to it: each integer, each row and each line reads back.
use Prim.Native.Nat.{ℕ, zero, suc, ◌+◌, ◌-◌, ◌*◌, ◌/◌, ◌%◌, ◌^◌, ◌≤◌, ◌<◌}
use mathlib.Core.Path.{◌≡◌, refl, ap, ◌∙◌, subst}
use mathlib.Core.Bool.{Bool, true, false}
use mathlib.Core.List.{List, [], ◌∷◌, ◌++◌, append_assoc, append-nil}
use mathlib.Core.Option.{some}
use native.Mathlib.Omega.{arith}
use native.Mathlib.Nat.{pow-suc, add-sub_cancel}
use lib.ListN.{length}
use lib.Dec.{leb, ltb, eqb}
use borrow.Author.Tests.{le-leb, ltb-true, ltb-false, leb-true, leb-false, eqb-true, ne_eqb}
use Rattle.lists.specs.Lists.{same}
use Rattle.model.specs.declared.Row.{Row}
use Rattle.model.specs.declared.Scan.{Scan}
use Rattle.model.specs.Text.{digits, counting, positive, negative, read_int, number, columns, column, last_column, after, row_of, read_row, in_columns, lines, line, end, onto, names, bytes}
use Rattle.model.specs.Load.{Loaded, take_row, take_line, Verdict, passed, refused_at, go_on, at_first, load, load_lines, from_names}
use Rattle.model.specs.Render.{decimal, integer, cells, spaced, lines_of, text_of, take_rows}
use Rattle.program_laws.proofs.Digits.{digits_on, counting_on}
use Rattle.lists.proofs.Cuts.{within_in, if_either}
use Rattle.program_laws.proofs.Range.{InRange, AllInRange}

-- a number's digits, and whatever follows them
counting_decimal : (f n : ℕ) (cs : List ℕ) → 1 ≤ n → n < 10 ^ f → counting (decimal f n ++ cs) ≡ digits n cs
unfolding decimal
counting_decimal zero n cs h k = absurd (omega arith)
counting_decimal (suc f) n cs h k = go (ltb n 10) refl (counting_decimal f (n / 10) ((n % 10 + 48) ∷ cs))
  where
    go : (b : Bool) → ltb n 10 ≡ b
        → (1 ≤ n / 10 → n / 10 < 10 ^ f → counting (decimal f (n / 10) ++ ((n % 10 + 48) ∷ cs)) ≡ digits (n / 10) ((n % 10 + 48) ∷ cs))
        → counting (decimal (suc f) n ++ cs) ≡ digits n cs
    go true t ih =
        let l = ltb-true n 10 t in
        let e : n + 48 - 48 ≡ n = omega arith in
        rw (t, decimal) (counting_on 0 (n + 48) cs (within_in 49 57 (n + 48) (omega arith) (omega arith)) ∙ ap (λ (m : ℕ). digits m cs) e)
    go false t ih =
        let l = ltb-false n 10 t in
        let e : n / 10 * 10 + (n % 10 + 48 - 48) ≡ n = omega arith in
        let m : n / 10 < 10 ^ f = omega (arith, pow-suc 10 f) in
        rw (t, decimal, append_assoc)
        (ih (omega arith) m
        ∙ digits_on (n / 10) (n % 10 + 48) cs (within_in 48 57 (n % 10 + 48) (omega arith) (omega arith)) ∙ ap (λ (j : ℕ). digits j cs) e)

-- the bytes after an integer do not go on with it
abbrev Stops : List ℕ → Type 0
Stops cs = (n : ℕ) → digits n cs ≡ (n, cs)

read_positive : (cs : List ℕ) → 1 ≤ (counting cs).0 → read_int cs ≡ positive (counting cs)
unfolding counting read_int
read_positive [] h = absurd (omega arith)
read_positive (c ∷ cs) h = go (eqb c 48) refl (eqb c 45) refl
  where
    go : (a : Bool) → eqb c 48 ≡ a → (b : Bool) → eqb c 45 ≡ b → read_int (c ∷ cs) ≡ positive (counting (c ∷ cs))
    go true s b t = let k : 1 ≤ 0 = subst (λ (x : ℕ). 1 ≤ (counting (x ∷ cs)).0) (eqb-true c 48 s) h in absurd (omega arith)
    go false s true t = let k : 1 ≤ 0 = subst (λ (x : ℕ). 1 ≤ (counting (x ∷ cs)).0) (eqb-true c 45 t) h in absurd (omega arith)
    go false s false t = rw (s, t)

read_minus : (l cs : List ℕ) (m : ℕ) → counting l ≡ (m, cs) → 1 ≤ m → m ≤ 9 → read_int (45 ∷ l) ≡ number (9 - m) cs
unfolding read_int negative
read_minus l cs m d h k = rw (d, within_in 1 9 m h k)

read_plus : (l cs : List ℕ) (m : ℕ) → counting l ≡ (m, cs) → 1 ≤ m → m ≤ 65535 → read_int l ≡ number (m + 9) cs
unfolding positive
read_plus l cs m d h k =
    let i : 1 ≤ (counting l).0 = rw d h in
    read_positive l i ∙ rw (d, within_in 1 65535 m h k)

read_zero : (cs : List ℕ) → read_int (decimal 5 0 ++ cs) ≡ number 9 cs
unfolding read_int decimal
read_zero cs = refl

-- an integer, and whatever stops it
read_integer : (x : ℕ) (cs : List ℕ) → x ≤ 65544 → Stops cs → read_int (integer x ++ cs) ≡ number x cs
unfolding integer
read_integer x cs h st = go (leb 9 x) refl (leb 10 x) refl
  where
    go : (a : Bool) → leb 9 x ≡ a → (b : Bool) → leb 10 x ≡ b → read_int (integer x ++ cs) ≡ number x cs
    go false s b t =
        let k = leb-false 9 x s in
        let e : 9 - (9 - x) ≡ x = omega arith in
        let d = counting_decimal 5 (9 - x) cs (omega arith) (omega arith) ∙ st (9 - x) in
        rw s (read_minus _ cs (9 - x) d (omega arith) (omega arith) ∙ ap (λ (y : ℕ). number y cs) e)
    go true s false t =
        let k = leb-true 9 x s in
        let l = leb-false 10 x t in
        let e : x ≡ 9 = omega arith in
        rw e (read_zero cs)
    go true s true t =
        let k = leb-true 10 x t in
        let e : x - 9 + 9 ≡ x = omega arith in
        let d = counting_decimal 5 (x - 9) cs (omega arith) (omega arith) ∙ st (x - 9) in
        rw s (read_plus _ cs (x - 9) d (omega arith) (omega arith) ∙ ap (λ (y : ℕ). number y cs) e)

-- columns
abbrev Small : List ℕ → Type 0
Small [] = Unit {0}
Small (x ∷ xs) = (x ≤ 65544) × Small xs

stops_end : Stops []
unfolding digits
stops_end n = refl

stops_space : (cs : List ℕ) → Stops (32 ∷ cs)
unfolding digits
stops_space cs n = refl

columns_spaced : (n : ℕ) (xs : List ℕ) → length xs ≡ suc n → Small xs → columns n (spaced xs) ≡ some xs
unfolding columns column last_column after spaced
columns_spaced n [] e s = absurd (omega arith)
columns_spaced zero (x ∷ []) e s = rw (← (append-nil (integer x)), read_integer x [] s.0 stops_end)
columns_spaced zero (x ∷ y ∷ ys) e s = absurd (omega arith)
columns_spaced (suc n) (x ∷ []) e s = absurd (omega arith)
columns_spaced (suc n) (x ∷ y ∷ ys) e s = rw (read_integer x (32 ∷ spaced (y ∷ ys)) s.0 (stops_space _), columns_spaced n (y ∷ ys) (omega arith) s.1)

-- a row
row_of_cells : (r : Row) → InRange r → row_of (some (cells r)) ≡ some r
unfolding row_of in_columns cells
row_of_cells r h =
    let h₅ = h.p in
    simp (
      le-leb 9 (r.set + 9) (omega arith),
      le-leb 9 (r.rule + 9) (omega arith),
      le-leb 9 (r.part + 9) (omega arith),
      le-leb 9 (r.op + 9) (omega arith),
      le-leb 9 (r.p + 9) (omega arith),
      le-leb (r.p + 9) 264 (omega arith),
      add-sub_cancel,
    )

small_cells : (r : Row) → InRange r → Small (cells r)
unfolding cells
small_cells r h = omega arith

eight : (r : Row) → length (cells r) ≡ 8
unfolding cells
eight r = refl

read_back : (r : Row) → InRange r → read_row (spaced (cells r)) ≡ some r
unfolding read_row
read_back r h = rw (columns_spaced 7 (cells r) (eight r) (small_cells r h)) (row_of_cells r h)

-- lines: bytes from 11 on, and byte 10
abbrev Inline : List ℕ → Type 0
Inline [] = Unit {0}
Inline (c ∷ cs) = (11 ≤ c) × Inline cs

inline_append : (xs ys : List ℕ) → Inline xs → Inline ys → Inline (xs ++ ys)
inline_append [] ys h k = k
inline_append (x ∷ xs) ys h k = (h.0, inline_append xs ys h.1 k)

inline_decimal : (f n : ℕ) → Inline (decimal f n)
unfolding decimal
inline_decimal zero n = tt
inline_decimal (suc f) n =
    elim (ltb n 10) as (λ b. Inline (elim b [ true ↦ (n + 48) ∷ [] | false ↦ decimal f (n / 10) ++ ((n % 10 + 48) ∷ []) ])) [
      | true ↦ (omega arith, tt)
      | false ↦ inline_append (decimal f (n / 10)) _ (inline_decimal f (n / 10)) (omega arith, tt)
    ]

inline_integer : (x : ℕ) → Inline (integer x)
unfolding integer
inline_integer x = if_either Inline (leb 9 x) (inline_decimal 5 (x - 9)) (omega arith, inline_decimal 5 (9 - x))

inline_spaced : (xs : List ℕ) → Inline (spaced xs)
unfolding spaced
inline_spaced [] = tt
inline_spaced (x ∷ []) = inline_integer x
inline_spaced (x ∷ y ∷ ys) = inline_append (integer x) _ (inline_integer x) (omega arith, inline_spaced (y ∷ ys))

lines_line : (l cs : List ℕ) → Inline l → lines (l ++ (10 ∷ cs)) ≡ line l (lines cs)
unfolding lines onto
lines_line [] cs h = refl
lines_line (c ∷ l) cs h = rw (ne_eqb c 10 (λ e. omega (arith, e, h.0)), lines_line l cs h.1)

-- the lines of a program load as its rows are taken
same_onward : (f g : Scan → Loaded) (v : Verdict) → ((t : Scan) → f t ≡ g t) → go_on f v ≡ go_on g v
unfolding go_on
same_onward f g (passed t) h = h t
same_onward f g (refused_at n k) h = refl

lines_end : lines [] ≡ end
unfolding lines
lines_end = refl

load_rows : (s : Scan) (before rows : List Row) → AllInRange rows → load_lines s before (lines (lines_of rows)) ≡ take_rows s before rows
unfolding load_lines take_rows take_line lines_of
load_rows s before [] h = rw lines_end
load_rows s before (r ∷ rs) h =
    rw (lines_line (spaced (cells r)) (lines_of rs) (inline_spaced (cells r)), read_back r h.0)
    (same_onward _ _ (take_row s r) (λ t. load_rows t (before ++ (r ∷ [])) rs h.1))

names_inline : Inline names
unfolding names bytes
names_inline = omega arith

-- THE ROUND TRIP: the text of rows in range loads as the rows are taken
pub load_text : (rows : List Row) → AllInRange rows → load (text_of rows) ≡ take_rows at_first [] rows
unfolding load text_of from_names names bytes same
load_text rows h = rw (lines_line names (lines_of rows) names_inline) (load_rows at_first [] rows h)
