-- Bytes compared, spaces counted, and where a word ends.
use mathlib.Core.Path.{◌≡◌, refl, ap, sym, ◌∙◌}
use mathlib.Core.Bool.{Bool, true, false, ◌&&◌, ◌||◌, not}
use mathlib.Core.List.{List, [], ◌∷◌}
use Prim.Native.Nat.{ℕ, suc, ◌+◌, ◌-◌, ◌≤◌, ◌<◌}
use native.Mathlib.Numerals.{one-add}
use native.Mathlib.Omega.{arith}
use lib.Dec.{eqb}
use lib.Pointwise.{pointwise}
use lib.ListN.{length, take, drop, length-drop, drop_of_length-le}
use lib.Seq.{take_all}
use Rattle.std.specs.Prelude.{Option, Some, None, cond}
use Rattle.std.specs.List.{starts_with, count_by, list_all, position, position_or_len}
use Rattle.std.proofs.lemmas.List.Recursion.{is_count_by, is_position_or_len}
use Rattle.lists.specs.Lists.{bit, every, same}
use Rattle.script.specs.Reading.{spaces_in, passed_over, first_word, WordEnds}

abbrev pub space? : ℕ → Bool
space? x = eqb x 32

pub same_texts : (a b : List ℕ) → pointwise eqb a b ≡ same a b
unfolding same
same_texts [] [] = refl
same_texts [] (y ∷ b) = refl
same_texts (x ∷ a) [] = refl
same_texts (x ∷ a) (y ∷ b) = ap (λ (t : Bool). eqb x y && t) (same_texts a b)

spaces_counted : (l : List ℕ) → count_by space? l ≡ spaces_in l
unfolding spaces_in
spaces_counted l = sym (is_count_by spaces_in space? refl (λ c cs. go (eqb c 32) (spaces_in cs)) l)
  where
    go : (t : Bool) (n : ℕ) → bit t + n ≡ cond t (1 + n) n
    go true n = refl
    go false n = omega arith

all_every : (l : List ℕ) → list_all space? l ≡ every space? l
unfolding every
all_every [] = refl
all_every (c ∷ l) = ap (λ (t : Bool). eqb c 32 && t) (all_every l)

pub remark : (l : List ℕ) → starts_with eqb l (35 ∷ []) ≡ true → true ≡ passed_over l
unfolding passed_over
remark [] h = refl
remark (c ∷ cs) h = grind arith

pub blank : (l : List ℕ) → starts_with eqb l (35 ∷ []) ≡ false → list_all space? l ≡ passed_over l
unfolding passed_over every
blank [] h = refl
blank (c ∷ cs) h = let e = all_every cs in grind (arith, e)

-- `&line[from..]` is the rest of the line
whole_rest : (line : List ℕ) (from : ℕ) → take (length line - from) (drop from line) ≡ drop from line
whole_rest line from = let e = length-drop from line in take_all (length line - from) (drop from line) (omega (arith, e))

pub spaces_behind : (line : List ℕ) (from : ℕ) → count_by space? (take (length line - from) (drop from line)) ≡ spaces_in (drop from line)
spaces_behind line from = spaces_counted (take (length line - from) (drop from line)) ∙ ap spaces_in (whole_rest line from)

pub none_behind : (l : List ℕ) (from : ℕ) → length l < from → 0 ≡ spaces_in (drop from l)
unfolding spaces_in
none_behind l from h = rw (drop_of_length-le l {i = from} (omega arith))

-- the word that begins at a place, up to the first space behind it
word_is : (l : List ℕ) → take (position_or_len space? l) l ≡ first_word l
unfolding first_word
word_is [] = refl
word_is (c ∷ l) = go (eqb c 32) (word_is l)
  where
    go : (t : Bool) → take (position_or_len space? l) l ≡ first_word l → take (cond (not t) (1 + position_or_len space? l) 0) (c ∷ l) ≡ cond t [] (c ∷ first_word l)
    go true e = refl
    go false e = rw one-add (ap (λ (w : List ℕ). c ∷ w) e)

within : (l : List ℕ) → position_or_len space? l ≤ length l
within [] = omega arith
within (c ∷ l) = go (eqb c 32) (within l)
  where
    go : (t : Bool) → position_or_len space? l ≤ length l → cond (not t) (1 + position_or_len space? l) 0 ≤ suc (length l)
    go true h = omega (arith, h)
    go false h = omega (arith, h)

place_is : (l : List ℕ) (from n : ℕ) → position space? l ≡ Some n → from + n - from ≡ position_or_len space? l
place_is l from n e = grind arith

length_is : (l : List ℕ) → position space? l ≡ None → length l ≡ position_or_len space? l
length_is l e = let h = within l in grind (arith, h)

module _ (line : List ℕ) (from : ℕ) (h : from ≤ length line) where
  ends_at : (n : ℕ) → from ≤ n → n ≤ length line → n - from ≡ position_or_len space? (drop from line) → WordEnds line from n
  ends_at n l k e = record { low = l; high = k; word = ap (λ (k : ℕ). take k (drop from line)) e ∙ word_is (drop from line) }

  pub word_stops : (n : ℕ) → position space? (take (length line - from) (drop from line)) ≡ Some n → WordEnds line from (from + n)
  word_stops n e =
      let p = place_is (drop from line) from n (ap (position space?) (sym (whole_rest line from)) ∙ e) in
      let w = within (drop from line) in
      ends_at (from + n) (omega arith) (let d = length-drop from line in omega (arith, w, d, p)) p

  pub word_goes_on : position space? (take (length line - from) (drop from line)) ≡ None → WordEnds line from (length line)
  word_goes_on e =
      ends_at (length line) h (omega arith) (sym (length-drop from line) ∙ length_is (drop from line) (ap (position space?) (sym (whole_rest line from)) ∙ e))
