-- The integer at a place, case by case.
use Rattle.std.specs.Prelude.{Some, None}
use Prim.Native.Nat.{ℕ, ◌+◌, ◌-◌, ◌≤◌, ◌<◌}
use mathlib.Core.Path.{◌≡◌, ap, ap₂, ◌∙◌, sym}
use mathlib.Core.List.{List}
use native.Mathlib.Omega.{arith}
use lib.ListN.{length, drop, get_or, length-drop, drop_of_length-le}
use borrow.Author.Tests.{ne_eqb}
use Rattle.model.specs.Text.{counting, positive, negative, read_int}
use Rattle.text.specs.Reading.{Reaches, read_of, int_at}
use Rattle.text.specs.declared.Digits.{Digits}
use Rattle.lists.proofs.Cuts.{within_in, within_below, within_above, drop_next}

module _ (s : List ℕ) (at : ℕ) where
  pub int_end : length s ≤ at → None ≡ int_at s at
  unfolding int_at read_int
  int_end h = rw (drop_of_length-le s h)

  pub int_zero : at < length s → get_or s at 0 ≡ 48 → Some (record { value = 9; next = at + 1 }) ≡ int_at s at
  unfolding int_at read_int
  int_zero h e =
      let k : at + 1 ≡ length s - length (drop (at + 1) s) = rw length-drop (omega arith) in
      rw (drop_next 0 s at h, e) (ap (λ (x : ℕ). Some (record { value = 9; next = x })) k)

  negative_at : at < length s → get_or s at 0 ≡ 45 → int_at s at ≡ read_of s (negative (counting (drop (at + 1) s)))
  unfolding int_at read_int
  negative_at h e = rw (drop_next 0 s at h, e)

  positive_at : at < length s → (get_or s at 0 ≡ 48 → ⊥) → (get_or s at 0 ≡ 45 → ⊥) → int_at s at ≡ read_of s (positive (counting (drop at s)))
  unfolding int_at read_int
  positive_at h e f = rw (drop_next 0 s at h) (rw (ne_eqb _ _ e, ne_eqb _ _ f))

-- no number stands there
negative_none : (d : ℕ × List ℕ) (s : List ℕ) → d.0 ≡ 0 → None ≡ read_of s (negative d)
unfolding negative
negative_none d s w = rw (within_below 1 9 d.0 (omega arith))

positive_none : (d : ℕ × List ℕ) (s : List ℕ) → d.0 ≡ 0 → None ≡ read_of s (positive d)
unfolding positive
positive_none d s w = rw (within_below 1 65535 d.0 (omega arith))

module _ {s : List ℕ} {from : ℕ} {d : Digits} (w : Reaches s from d) where
  place : d.next ≡ length s - length (counting (drop from s)).1
  place = let h = w.inside in rw (← w.rest, length-drop) (omega arith)

  -- the number is what the code has, up to 65,535
  exact : d.value ≤ 65535 → (counting (drop from s)).0 ≡ d.value
  exact h = let e = w.value in omega arith

  negative_high : 9 < d.value → None ≡ read_of s (negative (counting (drop from s)))
  unfolding negative
  negative_high h = let e = w.value in rw (within_above 1 9 (counting (drop from s)).0 (omega arith))

  negative_in : d.value ≤ 9 → Some (record { value = 9 - d.value; next = d.next }) ≡ read_of s (negative (counting (drop from s)))
  unfolding negative
  negative_in k =
      let h = w.positive in
      let e = exact (omega arith) in
      rw (within_in 1 9 (counting (drop from s)).0 (omega arith) (omega arith)) (ap₂ (λ (x y : ℕ). Some (record { value = 9 - x; next = y })) (sym e) place)

  positive_high : 65535 < d.value → None ≡ read_of s (positive (counting (drop from s)))
  unfolding positive
  positive_high h = let e = w.value in rw (within_above 1 65535 (counting (drop from s)).0 (omega arith))

  positive_in : d.value ≤ 65535 → Some (record { value = d.value + 9; next = d.next }) ≡ read_of s (positive (counting (drop from s)))
  unfolding positive
  positive_in k =
      let h = w.positive in
      let e = exact k in
      rw (within_in 1 65535 (counting (drop from s)).0 (omega arith) (omega arith)) (ap₂ (λ (x y : ℕ). Some (record { value = x + 9; next = y })) (sym e) place)

-- the same, of the integer at a place
module _ (s : List ℕ) (at : ℕ) (h : at < length s) where
  module _ (m : get_or s at 0 ≡ 45) where
    pub minus_none : (counting (drop (at + 1) s)).0 ≡ 0 → None ≡ int_at s at
    minus_none w = negative_none _ s w ∙ sym (negative_at s at h m)

    module _ {d : Digits} (w : Reaches s (at + 1) d) where
      pub minus_high : 9 < d.value → None ≡ int_at s at
      minus_high k = negative_high w k ∙ sym (negative_at s at h m)

      pub minus_in : d.value ≤ 9 → Some (record { value = 9 - d.value; next = d.next }) ≡ int_at s at
      minus_in k = negative_in w k ∙ sym (negative_at s at h m)

  module _ (z : get_or s at 0 ≡ 48 → ⊥) (m : get_or s at 0 ≡ 45 → ⊥) where
    pub plus_none : (counting (drop at s)).0 ≡ 0 → None ≡ int_at s at
    plus_none w = positive_none _ s w ∙ sym (positive_at s at h z m)

    module _ {d : Digits} (w : Reaches s at d) where
      pub plus_high : 65535 < d.value → None ≡ int_at s at
      plus_high k = positive_high w k ∙ sym (positive_at s at h z m)

      pub plus_in : d.value ≤ 65535 → Some (record { value = d.value + 9; next = d.next }) ≡ int_at s at
      plus_in k = positive_in w k ∙ sym (positive_at s at h z m)

pub ruleset int_laws = (int_end, int_zero, minus_none, minus_high, minus_in, plus_none, plus_high, plus_in)
