-- The words of a line behind a place, and their numbers, one after the other.
use Rattle.std.specs.Prelude.{if◌then◌else◌}
use Prim.Native.Nat.{ℕ, suc, ◌+◌, ◌-◌, ◌%◌, ◌≤◌, ◌<◌}
use mathlib.Core.Path.{◌≡◌, refl, ap, ◌∙◌, sym}
use mathlib.Core.Bool.{Bool, true, false}
use mathlib.Core.List.{List, [], ◌∷◌, ◌++◌, append-nil, append_assoc}
use native.Mathlib.Omega.{arith}
use lib.Dec.{eqb, leb}
use borrow.Author.Tests.{leb-true, leb-false}
use lib.ListN.{length, take, drop, get_or, set, length-append, length-drop, length-set, drop_of_length-le}
use lib.Seq.{drop-drop, length-take-le, set-append_seam, get_or-append_seam}
use mathlib.Core.Logic.{◌≢◌}
use Rattle.lists.specs.Lists.{bit}
use Rattle.lists.proofs.Cuts.{drop_next}
use Rattle.std.specs.Prelude.{Some, None, Ok, Err}
use Rattle.script.specs.declared.Misread.TheVariants.{Miscounted, NoNumber}
use Rattle.script.specs.Reading.{Found, number_of, first_word, later_words, words_from, before, leading, spaces_in, WordEnds, Within, Reads, InFours, in_a_row, last_row, cut_short}

-- behind the first word the later ones begin
later_from : (l : List ℕ) → later_words l ≡ words_from (drop (length (first_word l)) l)
unfolding first_word later_words words_from
later_from [] = refl
later_from (c ∷ cs) = go (eqb c 32) (later_from cs)
  where
    go : (b : Bool) → later_words cs ≡ words_from (drop (length (first_word cs)) cs)
        → (if b then first_word cs ∷ later_words cs else later_words cs) ≡ words_from (drop (length (if b then [] else c ∷ first_word cs)) (c ∷ cs))
    go true e = refl
    go false e = e

module _ {line : List ℕ} {at to : ℕ} (h : at < length line) (w : WordEnds line (at + 1) to) where
  pub next_word : words_from (drop at line) ≡ first_word (drop (at + 1) line) ∷ words_from (drop to line)
  unfolding words_from
  next_word =
      let a = w.low in
      let b = w.high in
      let n : length (take (to - (at + 1)) (drop (at + 1) line)) ≡ to - (at + 1) = length-take-le (to - (at + 1)) (drop (at + 1) line) (rw length-drop (omega arith)) in
      let l : length (first_word (drop (at + 1) line)) ≡ to - (at + 1) = sym (ap length w.word) ∙ n in
      let e : at + 1 + length (first_word (drop (at + 1) line)) ≡ to = omega (arith, l) in
      rw (drop_next 0 line at h) (ap (λ (ws : List (List ℕ)). first_word (drop (at + 1) line) ∷ ws)
      (later_from (drop (at + 1) line) ∙ ap words_from (drop-drop (length (first_word (drop (at + 1) line))) (at + 1) line ∙ ap (λ (k : ℕ). drop k line) e)))

no_words : (line : List ℕ) (at : ℕ) → length line ≤ at → words_from (drop at line) ≡ []
unfolding words_from
no_words line at h = rw (drop_of_length-le line {i = at} h)

-- k words from `from` on were numbers, which stand in the array; the others follow at `at`
pub record Passing (line : List ℕ) (from : ℕ) (lent out : List ℕ) (at k : ℕ) : Type 0 where
  pub inside : at ≤ length line
  pub few : k ≤ at
  pub room : length line ≤ length lent
  pub long : length out ≡ length lent
  pub past : List (List ℕ)
  pub done : List ℕ
  pub past_count : length past ≡ k
  pub done_count : length done ≡ k
  pub words : words_from (drop from line) ≡ past ++ words_from (drop at line)
  pub lead : leading (words_from (drop from line)) ≡ done ++ leading (words_from (drop at line))
  pub stored : out ≡ done ++ drop k lent

pub passing_first : (line : List ℕ) (from : ℕ) (lent : List ℕ) → from ≤ length line → length line ≤ length lent → Passing line from lent lent from 0
passing_first line from lent h r = record {
  inside = h;
  few = omega arith;
  room = r;
  long = refl;
  past = [];
  done = [];
  past_count = refl;
  done_count = refl;
  words = refl;
  lead = refl;
  stored = refl;
}

module _ {line : List ℕ} {from : ℕ} {lent out : List ℕ} {at k : ℕ} (w : Passing line from lent out at k) where
  pub has_room : at < length line → k < length out
  has_room h =
      let a = w.few in
      let b = w.room in
      let c = w.long in
      omega arith

  module _ {to : ℕ} (h : at < length line) (e : WordEnds line (at + 1) to) where
    leads : leading (words_from (drop at line)) ≡ before (number_of (first_word (drop (at + 1) line))) (leading (words_from (drop to line)))
    unfolding leading
    leads = rw (next_word h e)

    pub passes : (n : ℕ) → Some n ≡ number_of (take (to - (at + 1)) (drop (at + 1) line)) → Passing line from lent (set out k n) to (k + 1)
    passes n v =
        let a = w.few in
        let b = w.room in
        let c = w.long in
        let p = w.past_count in
        let d = w.done_count in
        let l = e.low in
        let q : number_of (first_word (drop (at + 1) line)) ≡ Some n = ap number_of (sym e.word) ∙ sym v in
        let i : k < length lent = omega arith in
        record {
          inside = e.high;
          few = omega arith;
          room = b;
          long = length-set out k n ∙ c;
          past = w.past ++ (first_word (drop (at + 1) line) ∷ []);
          done = w.done ++ (n ∷ []);
          past_count = length-append w.past (first_word (drop (at + 1) line) ∷ []) ∙ rw p;
          done_count = length-append w.done (n ∷ []) ∙ rw d;
          words = w.words ∙ rw (next_word h e, append_assoc);
          lead = w.lead ∙ rw (leads, q, append_assoc);
          stored = rw (w.stored, drop_next 0 lent k i, append_assoc) (ap (λ (j : ℕ). set (w.done ++ (get_or lent k 0 ∷ drop (k + 1) lent)) j n) (sym d) ∙ set-append_seam w.done (get_or lent k 0) (drop (k + 1) lent) n);
        }

    pub stops : None ≡ number_of (take (to - (at + 1)) (drop (at + 1) line)) → Reads line from lent out (Err (NoNumber k (at + 1) to))
    stops v =
        let p = w.past_count in
        let d = w.done_count in
        let q : number_of (first_word (drop (at + 1) line)) ≡ None = ap number_of (sym e.word) ∙ sym v in
        let f : leading (words_from (drop from line)) ≡ w.done = w.lead ∙ rw (leads, q, append-nil) in
        let g : words_from (drop from line) ≡ w.past ++ (first_word (drop (at + 1) line) ∷ words_from (drop to line)) = w.words ∙ rw (next_word h e) in
        let s : length (words_from (drop from line)) ≡ length w.past + suc (length (words_from (drop to line))) = ap length g ∙ length-append w.past (first_word (drop (at + 1) line) ∷ words_from (drop to line)) in
        record {
          numbers = rw (f, d) w.stored;
          found = (omega (arith, s, p), sym (ap length f ∙ d), e, rw (g, ← p) (get_or-append_seam w.past (first_word (drop (at + 1) line)) (words_from (drop to line)) []));
        }

  pub ends : length line ≤ at → Reads line from lent out (Ok k)
  unfolding leading
  ends h =
      let p = w.past_count in
      let d = w.done_count in
      let n = no_words line at h in
      let f : leading (words_from (drop from line)) ≡ w.done = w.lead ∙ rw (n, append-nil) in
      let g : words_from (drop from line) ≡ w.past = w.words ∙ rw (n, append-nil) in
      record { numbers = rw (f, d) w.stored; found = (sym (ap length g ∙ p), sym (ap length f ∙ d)) }

-- a word stands behind each space
few_spaces : (l : List ℕ) → spaces_in l ≤ length (later_words l)
unfolding spaces_in later_words
few_spaces [] = omega arith
few_spaces (c ∷ cs) = go (eqb c 32) (few_spaces cs)
  where
    go : (b : Bool) → spaces_in cs ≤ length (later_words cs) → bit b + spaces_in cs ≤ length (if b then first_word cs ∷ later_words cs else later_words cs)
    go true h = omega arith
    go false h = omega arith

enough_words : (l : List ℕ) → spaces_in l ≤ length (words_from l)
unfolding spaces_in words_from
enough_words [] = omega arith
enough_words (c ∷ cs) = go (eqb c 32) (few_spaces cs)
  where
    go : (b : Bool) → spaces_in cs ≤ length (later_words cs) → bit b + spaces_in cs ≤ length (first_word cs ∷ later_words cs)
    go true h = omega arith
    go false h = omega arith

module _ {line : List ℕ} {from : ℕ} {lent left : List ℕ} {there over : ℕ} (e : there ≡ spaces_in (drop from line)) (o : over ≡ there % 4) (z : over ≢ 0) where
  pub short_row : (f : Found) → Reads line from lent left f → InFours line from lent left (Err (cut_short (there - over) over f))
  short_row (Ok count) w =
      let a = w.found.0 in
      let b = w.found.1 in
      let n = enough_words (drop from line) in
      last_row e o z (omega arith)
  short_row (Err (Miscounted wanted told)) w = absurd w.found
  short_row (Err (NoNumber k begin to)) w = go (leb (there - over) k) refl
    where
      go : (b : Bool) → leb (there - over) k ≡ b → InFours line from lent left (Err (if b then Miscounted 4 over else NoNumber k begin to))
      go true t =
          let h = leb-true (there - over) k t in
          let q = w.found.1 in
          last_row e o z (omega arith)
      go false t = let h = leb-false (there - over) k t in let i : k < there - there % 4 = omega arith in in_a_row e i w

pub short_within : (n whole over : ℕ) (f : Found) → Within n f → Within n (Err (cut_short whole over f))
short_within n whole over (Ok count) w = tt
short_within n whole over (Err (Miscounted wanted told)) w = tt
short_within n whole over (Err (NoNumber k begin to)) w = go (leb whole k)
  where
    go : (b : Bool) → Within n (Err (if b then Miscounted 4 over else NoNumber k begin to))
    go true = tt
    go false = w
