-- A line of eight integers, column by column.
use Rattle.std.specs.Prelude.{Some, None}
use Prim.Native.Nat.{ℕ, suc, ◌+◌, ◌*◌, ◌-◌, ◌≤◌, ◌<◌}
use mathlib.Core.Path.{◌≡◌, refl, ap, ap₂, ◌∙◌, sym}
use mathlib.Core.Bool.{Bool, true, false}
use mathlib.Core.List.{List, [], ◌∷◌, ◌++◌}
use mathlib.Core.Option.{Option, none, some}
use native.Mathlib.Omega.{arith}
use native.Mathlib.Numerals.{add-one}
use lib.ListN.{length, drop, take, get_or, set, length-set, drop_of_length-le}
use lib.Seq.{take-suc-set, take_all}
use lib.Dec.{eqb}
use borrow.Author.Tests.{ne_eqb}
use Rattle.lists.specs.Lists.{within}
use Rattle.model.specs.Text.{digits, digit?, counting, positive, negative, read_int, number, unreadable, columns, column, last_column, after, row_of, read_row}
use Rattle.model.specs.Text as Text
use Rattle.text.specs.Reading.{read_of, int_at, as_line, row_line, line_of}
use Rattle.text.specs.declared.Digits.{Digits}
use Rattle.lists.proofs.Cuts.{if_either, drop_next, Suffix, suffix_self, suffix_cons, suffix_drop}

-- what is left of a text after an integer is its end
digits_suffix : (n : ℕ) (cs : List ℕ) → Suffix (digits n cs).1 cs
unfolding digits
digits_suffix n [] = suffix_self []
digits_suffix n (c ∷ cs) = go (digit? c) refl (digits_suffix (n * 10 + (c - 48)) cs)
  where
    go : (b : Bool) → digit? c ≡ b → Suffix (digits (n * 10 + (c - 48)) cs).1 cs → Suffix (digits n (c ∷ cs)).1 (c ∷ cs)
    go true t ih = rw (t, digits) (suffix_cons c ih)
    go false t ih = rw (t, digits) (suffix_self (c ∷ cs))

counting_suffix : (cs : List ℕ) → Suffix (counting cs).1 cs
unfolding counting
counting_suffix [] = suffix_self []
counting_suffix (c ∷ cs) = if_either (λ (d : ℕ × List ℕ). Suffix d.1 (c ∷ cs)) (within 49 57 c) (suffix_cons c (digits_suffix (c - 48) cs)) (suffix_self (c ∷ cs))

abbrev LeavesEnd : List ℕ → Text.Read → Type 0
LeavesEnd cs unreadable = Unit {0}
LeavesEnd cs (number v r) = Suffix r cs

int_suffix : (cs : List ℕ) → LeavesEnd cs (read_int cs)
unfolding read_int positive negative
int_suffix [] = tt
int_suffix (c ∷ cs) =
    if_either (LeavesEnd (c ∷ cs)) (eqb c 48) (suffix_cons c (suffix_self cs))
    (if_either (LeavesEnd (c ∷ cs)) (eqb c 45)
    (if_either (LeavesEnd (c ∷ cs)) (within 1 9 (counting cs).0) (suffix_cons c (counting_suffix cs)) tt)
    (if_either (LeavesEnd (c ∷ cs)) (within 1 65535 (counting (c ∷ cs)).0) (counting_suffix (c ∷ cs)) tt))

-- what an answer of `read_int` says
pub record Got (s : List ℕ) (at x n : ℕ) : Type 0 where
  pub reads : read_int (drop at s) ≡ number x (drop n s)
  pub inside : n ≤ length s

module _ (s : List ℕ) (at : ℕ) where
  pub got : {d : Digits} → Some d ≡ int_at s at → Got s at d.value d.next
  unfolding int_at
  got {d} e = go (read_int (drop at s)) refl (int_suffix (drop at s)) e
    where
      go : (r : Text.Read) → read_int (drop at s) ≡ r → LeavesEnd (drop at s) r → Some d ≡ read_of s r → Got s at d.value d.next
      go unreadable q l p = let z : ◌≡◌ {A = ℕ} 0 1 = cc in absurd (omega arith)
      go (number v cs) q l p =
          let e₀ : d.value ≡ v = cc in
          let e₁ : d.next ≡ length s - length cs = cc in
          let w = suffix_drop at s l in
          let h = w.short in
          record {
            reads = q ∙ ap₂ {C = Text.Read} number (sym e₀) (sym w.is ∙ ap (λ (n : ℕ). drop n s) (sym e₁));
            inside = omega arith;
          }

  pub not_got : None ≡ int_at s at → read_int (drop at s) ≡ unreadable
  unfolding int_at
  not_got e = go (read_int (drop at s)) refl e
    where
      go : (r : Text.Read) → read_int (drop at s) ≡ r → None ≡ read_of s r → read_int (drop at s) ≡ unreadable
      go unreadable q p = q
      go (number v cs) q p = let z : ◌≡◌ {A = ℕ} 0 1 = cc in absurd (omega arith)

-- numbers in front of columns
abbrev pub after_all : List ℕ → Option (List ℕ) → Option (List ℕ)
after_all [] o = o
after_all (x ∷ xs) o = after x (after_all xs o)

after_none : (xs : List ℕ) → after_all xs none ≡ none
unfolding after
after_none [] = refl
after_none (x ∷ xs) = ap (after x) (after_none xs)

after_snoc : (xs : List ℕ) (x : ℕ) (o : Option (List ℕ)) → after_all (xs ++ (x ∷ [])) o ≡ after_all xs (after x o)
after_snoc [] x o = refl
after_snoc (y ∷ ys) x o = ap (after y) (after_snoc ys x o)

after_some : (xs ys : List ℕ) → after_all xs (some ys) ≡ some (xs ++ ys)
unfolding after
after_some [] ys = refl
after_some (x ∷ xs) ys = ap (after x) (after_some xs ys)

-- k columns are read, into v
pub record Columns (line v : List ℕ) (at k : ℕ) : Type 0 where
  pub inside : at ≤ length line
  pub few : k ≤ 7
  pub cells : length v ≡ 8
  pub same : columns 7 line ≡ after_all (take k v) (columns (7 - k) (drop at line))

pub columns_begin : (line v : List ℕ) → length v ≡ 8 → Columns line v 0 0
columns_begin line v h = record { inside = omega arith; few = omega arith; cells = h; same = refl }

module _ {line v : List ℕ} {at k : ℕ} (w : Columns line v at k) where
  -- a line with a unreadable column
  unread : columns (7 - k) (drop at line) ≡ none → None ≡ line_of line
  unfolding line_of read_row row_of
  unread e = rw (w.same, e, after_none (take k v))

  module _ (h : k < 7) where
    one_more : columns (7 - k) (drop at line) ≡ column (columns (7 - (k + 1))) (read_int (drop at line))
    unfolding columns
    one_more = let e : 7 - k ≡ suc (7 - (k + 1)) = omega arith in rw e

    pub unreadable_column : None ≡ int_at line at → None ≡ line_of line
    unfolding column
    unreadable_column b = unread (rw (one_more, not_got line at b))

    module _ {d : Digits} (e : Some d ≡ int_at line at) where
      pub short_line : length line ≤ d.next → None ≡ line_of line
      unfolding column
      short_line l = unread (rw (one_more, (got line at e).reads, drop_of_length-le line l))

      pub no_space : d.next < length line → (get_or line d.next 0 ≡ 32 → ⊥) → None ≡ line_of line
      unfolding column
      no_space l f = unread (rw (one_more, (got line at e).reads, drop_next 0 line d.next l) (rw (ne_eqb _ _ f, column)))

      pub next_column : d.next < length line → get_or line d.next 0 ≡ 32 → Columns line (set v k d.value) (d.next + 1) (k + 1)
      unfolding column
      next_column l f =
          let n = w.cells in
          let e₂ : columns (7 - k) (drop at line) ≡ after d.value (columns (7 - (k + 1)) (drop (d.next + 1) line))
          = rw (one_more, (got line at e).reads, drop_next 0 line d.next l, f) in
          let t : take (k + 1) (set v k d.value) ≡ take k v ++ (d.value ∷ []) = rw (add-one, take-suc-set v k d.value (omega arith)) in
          record { inside = omega arith; few = omega arith; cells = rw length-set n; same = rw (t, after_snoc) (w.same ∙ ap (after_all (take k v)) e₂) }

  module _ (h : 7 ≤ k) where
    last_one : columns (7 - k) (drop at line) ≡ last_column (read_int (drop at line))
    unfolding columns
    last_one = let f = w.few in let e : 7 - k ≡ 0 = omega arith in rw e

    pub unreadable_last : None ≡ int_at line at → None ≡ line_of line
    unfolding last_column
    unreadable_last b = unread (rw (last_one, not_got line at b))

    module _ {d : Digits} (e : Some d ≡ int_at line at) where
      pub long_line : (d.next ≡ length line → ⊥) → None ≡ line_of line
      unfolding last_column
      long_line f =
          let i = (got line at e).inside in
          unread (rw (last_one, (got line at e).reads, drop_next 0 line d.next (omega (arith, f))))

      pub whole_line : d.next ≡ length line → row_line (set v 7 d.value) ≡ line_of line
      unfolding line_of read_row row_line last_column
      whole_line f =
          let l = w.few in
          let n = w.cells in
          let k₇ : k ≡ 7 = omega arith in
          let t : set v 7 d.value ≡ take 7 v ++ (d.value ∷ []) = sym (take_all 8 (set v 7 d.value) (rw length-set (omega arith))) ∙ take-suc-set v 7 d.value (omega arith) in
          let e₂ : columns 7 line ≡ some (take 7 v ++ (d.value ∷ []))
          = w.same ∙ rw (last_one, (got line at e).reads, drop_of_length-le line {i = d.next} (omega arith), k₇, after_some) in
          ap (λ (o : Option (List ℕ)). as_line (row_of o)) (ap some t ∙ sym e₂)

pub ruleset line_laws = (columns_begin, unreadable_column, short_line, no_space, next_column, unreadable_last, long_line, whole_line)
