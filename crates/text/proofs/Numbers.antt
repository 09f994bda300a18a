-- Numbers digit by digit, those over 65,535 taken as 65,536.
use Prim.Native.Nat.{ℕ, ◌+◌, ◌*◌, ◌-◌, ◌≤◌, ◌<◌, min}
use mathlib.Core.Path.{◌≡◌, refl, ap, ◌∙◌, sym}
use mathlib.Core.Bool.{Bool, true, false}
use mathlib.Core.Logic.{◌⊎◌, ⊎_elim}
use mathlib.Core.List.{List, [], ◌∷◌}
use native.Mathlib.Omega.{arith}
use lib.ListN.{length, drop, get_or, drop_of_length-le}
use Rattle.lists.specs.Lists.{within}
use Rattle.model.specs.Text.{digits, counting, digit?}
use Rattle.program_laws.proofs.Digits.{digits_on, digits_off, counting_on, counting_off}
use Rattle.text.specs.Reading.{Reaches}
use Rattle.lists.proofs.Cuts.{within_in, within_below, within_above, drop_next}

unfoldable pub capped : ℕ × List ℕ → ℕ × List ℕ
capped d = (min d.0 65536, d.1)

pub capped_digits : (n m : ℕ) (cs : List ℕ) → min n 65536 ≡ min m 65536 → capped (digits n cs) ≡ capped (digits m cs)
unfolding capped digits
capped_digits n m [] e = ap (λ (x : ℕ). (x, [])) e
capped_digits n m (c ∷ cs) e = go (digit? c) refl (capped_digits (n * 10 + (c - 48)) (m * 10 + (c - 48)) cs (omega arith))
  where
    go : (b : Bool) → digit? c ≡ b → capped (digits (n * 10 + (c - 48)) cs) ≡ capped (digits (m * 10 + (c - 48)) cs)
        → capped (digits n (c ∷ cs)) ≡ capped (digits m (c ∷ cs))
    go true t ih = ap capped (digits_on n c cs t) ∙ ih ∙ sym (ap capped (digits_on m c cs t))
    go false t ih = rw (t, digits) (ap (λ (x : ℕ). (x, c ∷ cs)) e)

-- the digits from `from` on are those from `at` on after `value`, numbers over 65,535 taken as 65,536
pub record Counting (s : List ℕ) (from value at : ℕ) : Type 0 where
  pub positive : 1 ≤ value
  pub small : value ≤ 65536
  pub same : capped (counting (drop from s)) ≡ capped (digits value (drop at s))

pub none_at_end : (s : List ℕ) (from : ℕ) → length s ≤ from → (counting (drop from s)).0 ≡ 0
unfolding counting
none_at_end s from k = rw (drop_of_length-le s k)

pub none_here : (s : List ℕ) (from c : ℕ) → from < length s → c ≡ get_or s from 0 → (c < 49) ⊎ ((49 ≤ c) × (57 < c)) → (counting (drop from s)).0 ≡ 0
none_here s from c k e h =
    let off : within 49 57 c ≡ false = ⊎_elim (λ b. within_below 49 57 c b) (λ a. within_above 49 57 c a.1) h in
    rw (drop_next 0 s from k, ← e, counting_off 0 c (drop (from + 1) s) off)

module _ {s : List ℕ} {from : ℕ} where
  pub begin : from < length s → 49 ≤ get_or s from 0 → get_or s from 0 ≤ 57 → Counting s from (get_or s from 0 - 48) (from + 1)
  begin k h l = record {
    positive = omega arith;
    small = omega arith;
    same = rw (drop_next 0 s from k, counting_on 0 (get_or s from 0) (drop (from + 1) s) (within_in _ _ _ h l));
  }

  module _ {v at : ℕ} (w : Counting s from v at) where
    counted : at ≤ length s → capped (digits v (drop at s)) ≡ capped (v, drop at s) → Reaches s from (record { value = v; next = at })
    unfolding capped
    counted h e =
        let k = w.small in
        let q : min v 65536 ≡ v = omega arith in
        record {
          positive = w.positive;
          value = sym (ap (λ (d : ℕ × List ℕ). d.0) (w.same ∙ e) ∙ q);
          rest = sym (ap (λ (d : ℕ × List ℕ). d.1) (w.same ∙ e));
          inside = h;
        }

    pub stop_at_end : length s ≤ at → at ≤ length s → Reaches s from (record { value = v; next = length s })
    unfolding digits
    stop_at_end k h = let e : length s ≡ at = omega arith in rw e (counted h (rw (drop_of_length-le s k)))

    pub stop_here : at < length s → digit? (get_or s at 0) ≡ false → Reaches s from (record { value = v; next = at })
    stop_here k e = counted (omega arith) (rw (drop_next 0 s at k, digits_off v (get_or s at 0) (drop (at + 1) s) e))

    pub more : {u : ℕ} → at < length s → digit? (get_or s at 0) ≡ true → u ≡ min (v * 10 + (get_or s at 0 - 48)) 65536 → Counting s from u (at + 1)
    more {u} k t e =
        let h = w.positive in
        record {
          positive = omega arith;
          small = omega arith;
          same = w.same ∙ rw (drop_next 0 s at k, digits_on v (get_or s at 0) (drop (at + 1) s) t) (capped_digits _ u _ (omega arith));
        }

pub ruleset count_laws = (none_at_end, none_here, begin, more)
