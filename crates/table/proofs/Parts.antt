-- Several tables in one list of words, each a part of it: what a call on one part does to the others.
use mathlib.Core.Path.{◌≡◌, ap, sym, ◌∙◌}
use mathlib.Core.List.{List, ◌++◌, append-nil}
use Prim.Native.Nat.{ℕ, ◌+◌, ◌-◌, ◌≤◌}
use native.Mathlib.Omega.{arith}
use lib.ListN.{length, take, drop, length-drop, take-append-drop, drop_of_length-le}
use lib.Seq.{drop_at, drop-append-le, take-append-le, length-take-le, take_all}

-- what a call on the words a to a + k is given
abbrev pub part : ℕ → ℕ → List ℕ → List ℕ
part a k W = take k (drop a W)

-- what stands there after it left ys in their place
abbrev pub with_part : ℕ → ℕ → List ℕ → List ℕ → List ℕ
with_part a k W ys = take a W ++ (ys ++ drop k (drop a W))

front : (b m : ℕ) (A X : List ℕ) → b + m ≤ length A → part b m (A ++ X) ≡ part b m A
front b m A X h =
    let d : length (drop b A) ≡ length A - b = length-drop b A in
    let h1 : b ≤ length A = omega arith in
    let h2 : m ≤ length (drop b A) = omega arith in
    rw (drop-append-le, take-append-le)

module _ (a k : ℕ) (W ys : List ℕ) (fits : a + k ≤ length W) (long : length ys ≡ k) where
  a_long : length (take a W) ≡ a
  a_long = length-take-le a W (omega arith)

  -- a part before it
  pub part_before : (b m : ℕ) → b + m ≤ a → part b m (with_part a k W ys) ≡ part b m W
  part_before b m h =
      let z = a_long in
      front b m (take a W) (ys ++ drop k (drop a W)) (omega arith)
      ∙ sym (front b m (take a W) (drop a W) (omega arith))
      ∙ ap (part b m) (take-append-drop a W)

-- a part that reaches to the end
module _ (a : ℕ) (W ys : List ℕ) where
  pub rest_is : part a (length W - a) W ≡ drop a W
  rest_is = take_all (length W - a) (drop a W) (simp length-drop (omega arith))

  pub rest_same : a ≤ length W → drop a (with_part a (length W - a) W ys) ≡ ys
  rest_same h =
      let e : length (drop a W) ≤ length W - a = simp length-drop (omega arith) in
      drop_at (take a W) (ys ++ drop (length W - a) (drop a W)) a (length-take-le a W h) ∙ rw (drop_of_length-le (drop a W) e) (append-nil ys)
