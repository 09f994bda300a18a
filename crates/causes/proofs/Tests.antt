-- What is left of a test when its other parts do not hold.
use mathlib.Core.Path.{◌≡◌, refl, sym, ◌∙◌}
use mathlib.Core.List.{List}
use mathlib.Core.Bool.{Bool, true, false, ◌&&◌, ◌||◌, not}
use Prim.Native.Nat.{ℕ, ◌≤◌, ◌<◌}
use native.Mathlib.Omega.{arith}
use lib.Dec.{leb, ltb, eqb}
use lib.ListN.{get_or}
use borrow.Author.Tests.{eqb-true, leb-true, le-ltb, lt-leb, ne_eqb}
use Rattle.program_laws.proofs.Tests.{and_left, and_right}
use Rattle.model.specs.declared.Row.{Row}
use Rattle.model.specs.declared.Scan.{Scan}
use Rattle.model.specs.Load.{same_rule, part_full, initial, too_many, lacking, new_variable, valueless}
use Rattle.model.specs.Program.{variable?}

or_left : (a b : Bool) → b ≡ false → a || b ≡ true → a ≡ true
or_left true b e h = refl
or_left false b e h = sym e ∙ h

or_right : (a b : Bool) → a ≡ false → a || b ≡ true → b ≡ true
or_right true b e h = let z : ◌≡◌ {A = ℕ} 0 1 = cc in absurd (omega arith)
or_right false b e h = h

module _ (s : Scan) (r : Row) (h : too_many s r ≡ true) where
  -- 5: within the other limits, the part is full
  pub part_left : r.set ≤ 8 → r.rule ≤ 32 → s.count < 512 → initial r && leb 256 s.atoms ≡ false → same_rule s r && part_full s r ≡ true
  unfolding too_many
  part_left a b c d =
      or_right (ltb 8 r.set || ltb 32 r.rule || leb 512 s.count) (same_rule s r && part_full s r) (simp (le-ltb _ _ a, le-ltb _ _ b, lt-leb _ _ c))
      (or_left (ltb 8 r.set || ltb 32 r.rule || leb 512 s.count || (same_rule s r && part_full s r)) (initial r && leb 256 s.atoms) d h)

module _ (s : Scan) (h : lacking s ≡ true) where
  lacks : leb 1 s.set && eqb s.reasons 0 ≡ true
  lacks = and_left (leb 1 s.set && eqb s.reasons 0) (eqb s.context 0 || eqb s.body 0) h

  pub in_a_rule : 1 ≤ s.set
  in_a_rule = leb-true 1 s.set (and_left (leb 1 s.set) (eqb s.reasons 0) lacks)

  pub no_reason : s.reasons ≡ 0
  no_reason = eqb-true s.reasons 0 (and_right (leb 1 s.set) (eqb s.reasons 0) lacks)

  pub no_body : (s.context ≡ 0 → ⊥) → s.body ≡ 0
  no_body n =
      eqb-true s.body 0
      (or_right (eqb s.context 0) (eqb s.body 0) (ne_eqb s.context 0 n)
      (and_right (leb 1 s.set && eqb s.reasons 0) (eqb s.context 0 || eqb s.body 0) h))

-- a variable's operand is 1 to 8
pub new_small : (valued : List ℕ) (x : ℕ) → new_variable valued x ≡ true → x ≤ 8
unfolding new_variable
new_small valued x h = leb-true x 8 (and_right (leb 1 x) (leb x 8) (and_left (variable? x) (eqb (get_or valued x 0) 0) h))

module _ (t : Scan) (r : Row) (h : valueless t r ≡ true) where
  pub in_body : r.part ≡ 3
  unfolding valueless
  in_body =
      eqb-true r.part 3
      (and_left (eqb r.part 3)
      (new_variable t.valued r.a || new_variable t.valued r.b || (not (eqb r.op 21) && new_variable t.valued r.i)) h)

  -- 4: neither a nor b, then i, and the op is not 21
  module _ (a : new_variable t.valued r.a ≡ false) (b : new_variable t.valued r.b ≡ false) where
    left_over : not (eqb r.op 21) && new_variable t.valued r.i ≡ true
    unfolding valueless
    left_over =
        or_right (new_variable t.valued r.a || new_variable t.valued r.b) (not (eqb r.op 21) && new_variable t.valued r.i) (simp (a, b))
        (and_right (eqb r.part 3)
        (new_variable t.valued r.a || new_variable t.valued r.b || (not (eqb r.op 21) && new_variable t.valued r.i)) h)

    pub i_left : new_variable t.valued r.i ≡ true
    i_left = and_right (not (eqb r.op 21)) (new_variable t.valued r.i) left_over

    pub not_21 : not (eqb r.op 21) ≡ true
    not_21 = and_left (not (eqb r.op 21)) (new_variable t.valued r.i) left_over
