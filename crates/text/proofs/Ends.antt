-- The end of a line, and equal lists.
use Prim.Native.Nat.{ℕ, zero, suc, ◌+◌, ◌-◌, ◌≤◌, ◌<◌}
use mathlib.Core.Path.{◌≡◌, refl, ap, ◌∙◌, subst}
use mathlib.Core.Bool.{Bool, true, false, ◌&&◌}
use mathlib.Core.List.{List, [], ◌∷◌, ◌++◌, append-nil}
use native.Mathlib.Omega.{arith}
use lib.ListN.{length, drop, take, get_or, length-drop, length-take, drop_of_length-le}
use lib.Seq.{take-suc, get_or-drop}
use lib.Dec.{eqb}
use borrow.Author.Tests.{ne_eqb, eqb-true}
use mathlib.Core.Logic.{◌≢◌}
use Rattle.std.specs.Cmp.Lexicographic.{pointwise}
use Rattle.model.specs.Text.{lines, Lines, line, end, unended, onto}
use Rattle.lists.specs.Lists.{same}
use Rattle.text.specs.Reading.{Ends}
use Rattle.lists.proofs.Cuts.{drop_next}

abbrev pub onto_all : List ℕ → Lines → Lines
onto_all [] ls = ls
onto_all (c ∷ cs) ls = onto c (onto_all cs ls)

onto_snoc : (xs : List ℕ) (c : ℕ) (ls : Lines) → onto_all (xs ++ (c ∷ [])) ls ≡ onto_all xs (onto c ls)
onto_snoc [] c ls = refl
onto_snoc (x ∷ xs) c ls = ap (onto x) (onto_snoc xs c ls)

onto_line : (xs l : List ℕ) (ls : Lines) → onto_all xs (line l ls) ≡ line (xs ++ l) ls
unfolding onto
onto_line [] l ls = refl
onto_line (x ∷ xs) l ls = ap (onto x) (onto_line xs l ls)

onto_end : (xs : List ℕ) → 1 ≤ length xs → onto_all xs end ≡ unended
unfolding onto
onto_end [] h = absurd (omega arith)
onto_end (x ∷ []) h = refl
onto_end (x ∷ y ∷ ys) h = ap (onto x) (onto_end (y ∷ ys) (omega arith))

lines_byte : (text : List ℕ) (i : ℕ) → i < length text → (get_or text i 0 ≡ 10 → ⊥) → lines (drop i text) ≡ onto (get_or text i 0) (lines (drop (i + 1) text))
unfolding lines
lines_byte text i h n = rw (drop_next 0 text i h, ne_eqb _ _ n)

lines_ten : (text : List ℕ) (i : ℕ) → i < length text → get_or text i 0 ≡ 10 → lines (drop i text) ≡ line [] (lines (drop (i + 1) text))
unfolding lines
lines_ten text i h e = rw (drop_next 0 text i h, e)

pub lines_end : (text : List ℕ) (i : ℕ) → length text ≤ i → lines (drop i text) ≡ end
unfolding lines
lines_end text i h = rw (drop_of_length-le text h)

-- no byte 10 from `from` up to i
record Looking (text : List ℕ) (from i : ℕ) : Type 0 where
  pub low : from ≤ i
  pub high : i ≤ length text
  pub so_far : lines (drop from text) ≡ onto_all (take (i - from) (drop from text)) (lines (drop i text))

module _ (text : List ℕ) (from : ℕ) where
  look : from ≤ length text → Looking text from from
  look h = let e : from - from ≡ 0 = omega arith in record { low = omega arith; high = h; so_far = rw e }

  module _ {i : ℕ} (w : Looking text from i) where
    look_on : i < length text → (get_or text i 0 ≡ 10 → ⊥) → Looking text from (i + 1)
    look_on h n =
        let l = w.low in
        let e : i + 1 - from ≡ suc (i - from) = omega arith in
        let g : get_or (drop from text) (i - from) 0 ≡ get_or text i 0 = let q : from + (i - from) ≡ i = omega arith in rw (get_or-drop, q) in
        let t : take (suc (i - from)) (drop from text) ≡ take (i - from) (drop from text) ++ (get_or text i 0 ∷ [])
        = take-suc (drop from text) (i - from) 0 (rw length-drop (omega arith)) ∙ ap (λ (x : ℕ). take (i - from) (drop from text) ++ (x ∷ [])) g in
        record { low = omega arith; high = omega arith; so_far = rw (e, t, onto_snoc) (w.so_far ∙ ap (onto_all (take (i - from) (drop from text))) (lines_byte text i h n)) }

-- past so many bytes of which none is byte 10
look_past : (text : List ℕ) (from d : ℕ) → from + d ≤ length text → ((k : ℕ) → from ≤ k → k < from + d → get_or text k 0 ≢ 10) → Looking text from (from + d)
look_past text from zero h n = let e : from ≡ from + 0 = omega arith in subst (Looking text from) e (look text from (omega arith))
look_past text from (suc d) h n =
    let e : (from + d) + 1 ≡ from + suc d = omega arith in
    let before = look_past text from d (omega arith) (λ k p q. n k p (omega arith)) in
    subst (Looking text from) e (look_on text from before (omega arith) (n (from + d) (omega arith) (omega arith)))

-- the first byte 10 from `from` on stands at r, or none does and r is the length
pub ends_at : (text : List ℕ) (from r : ℕ) → from ≤ r → r ≤ length text → ((k : ℕ) → from ≤ k → k < r → get_or text k 0 ≢ 10) → (r < length text → get_or text r 0 ≡ 10) → Ends text from r
ends_at text from r low high none here =
    let e : from + (r - from) ≡ r = omega arith in
    let w : Looking text from r = subst (Looking text from) e (look_past text from (r - from) (omega arith) (λ k p q. none k p (omega arith))) in
    record {
      low = low;
      high = high;
      ended = λ k. w.so_far ∙ rw (lines_ten text r k (here k), onto_line, append-nil);
      no_end = λ k m. w.so_far ∙ rw (lines_end text r k) (onto_end (take (r - from) (drop from text)) (rw (length-take, length-drop) (omega arith)));
    }

-- byte 10 stands where a line ends
ended_by : (cs l : List ℕ) (ls : Lines) → lines cs ≡ line l ls → get_or cs (length l) 0 ≡ 10
unfolding lines onto
ended_by [] l ls e = let z : ◌≡◌ {A = ℕ} 0 1 = cc in absurd (omega arith)
ended_by (c ∷ cs) l ls e = go (eqb c 10) refl (lines cs) refl (ended_by cs)
  where
    go : (b : Bool) → eqb c 10 ≡ b → (ks : Lines) → lines cs ≡ ks → ((m : List ℕ) (ms : Lines) → lines cs ≡ line m ms → get_or cs (length m) 0 ≡ 10)
        → get_or (c ∷ cs) (length l) 0 ≡ 10
    go true t ks q ih =
        let f : line [] (lines cs) ≡ line l ls = rw t at e in
        let n : [] ≡ l = cc in
        rw (← n) (eqb-true c 10 t)
    go false t end q ih = let f : unended ≡ line l ls = rw (t, q) at e in let z : ◌≡◌ {A = ℕ} 0 1 = cc in absurd (omega arith)
    go false t unended q ih = let f : unended ≡ line l ls = rw (t, q) at e in let z : ◌≡◌ {A = ℕ} 0 1 = cc in absurd (omega arith)
    go false t (line m ms) q ih =
        let f : line (c ∷ m) ms ≡ line l ls = rw (t, q) at e in
        let n : c ∷ m ≡ l = cc in
        rw (← n) (ih m ms q)

pub newline_at : {text : List ℕ} {from r : ℕ} → Ends text from r → r < length text → get_or text r 0 ≡ 10
newline_at {text} {from} {r} w h =
    let l = w.low in
    let n : length (take (r - from) (drop from text)) ≡ r - from = rw (length-take, length-drop) (omega arith) in
    let q : from + (r - from) ≡ r = omega arith in
    (rw (n, get_or-drop, q) at (ended_by (drop from text) _ _ (w.ended h)))

-- equal lists, as the library tests them
pub same_pointwise : (l m : List ℕ) → pointwise eqb l m ≡ same l m
unfolding same
same_pointwise [] [] = refl
same_pointwise [] (y ∷ m) = refl
same_pointwise (x ∷ l) [] = refl
same_pointwise (x ∷ l) (y ∷ m) = ap (λ b. eqb x y && b) (same_pointwise l m)
