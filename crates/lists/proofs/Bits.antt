-- One bit of a number, set, cleared and tested by shift and mask, in arithmetic.
use mathlib.Core.Path.{◌≡◌, refl, ap, sym, ◌∙◌}
use mathlib.Core.Logic.{◌⊎◌, inl, inr}
use Prim.Native.Nat.{ℕ, zero, suc, ◌+◌, ◌-◌, ◌*◌, ◌/◌, ◌%◌, ◌^◌, ◌<◌}
use native.Mathlib.Nat.{mod-lt, mod-eq_of_lt}
use native.Mathlib.Omega.{arith}
use lib.Bits.{bit_and, bit_or, or_add_and, and_high, and_mask, and_block}
use lib.Pow.{high_ones, ones_split, shl_exact, shr_lt, split, pow_pos, mod-pow-add, mod-mod-pow}

pub bit_cases : (n k : ℕ) → (n / 2 ^ k % 2 ≡ 0) ⊎ (n / 2 ^ k % 2 ≡ 1)
bit_cases n k = two (n / 2 ^ k % 2) (mod-lt (n / 2 ^ k) (omega arith))
  where
    two : (b : ℕ) → b < 2 → (b ≡ 0) ⊎ (b ≡ 1)
    two zero h = inl refl
    two (suc b) h = inr (omega arith)

-- `1 << k` at w bits
one_shifted : (w k : ℕ) → k < w → (1 * 2 ^ k) % 2 ^ w ≡ 1 * 2 ^ k
one_shifted w k h = shl_exact 1 k w (omega arith) (omega arith)

and_bit : (n k : ℕ) → bit_and n (1 * 2 ^ k) ≡ (n / 2 ^ k % 2) * 2 ^ k
and_bit n k = rw (← high_ones 1 k) (and_high n 1 k)

-- `n | (1 << k)`
pub or_bit : (w n k : ℕ) → k < w → bit_or n ((1 * 2 ^ k) % 2 ^ w) + (n / 2 ^ k % 2) * 2 ^ k ≡ n + 2 ^ k
or_bit w n k h =
    let s : bit_or n (1 * 2 ^ k) + bit_and n (1 * 2 ^ k) ≡ n + 1 * 2 ^ k = or_add_and n (1 * 2 ^ k) in
    let a = and_bit n k in
    rw (one_shifted w k h) (omega arith)

-- all bits but bit k, of j + 1 + k
mask_splits : (j k : ℕ) → (2 ^ (j + suc k) - 1) - 1 * 2 ^ k ≡ (2 ^ j - 1) * 2 ^ suc k + (2 ^ k - 1)
mask_splits j k =
    let top : 2 ^ (j + suc k) - 1 ≡ (2 ^ j - 1) * 2 ^ suc k + (2 ^ suc k - 1) = ones_split j (suc k) in
    let double : 2 ^ suc k ≡ 2 ^ k + 2 ^ k = omega arith in
    let pos : 0 < 2 ^ k = pow_pos k in
    rw top (sums ((2 ^ j - 1) * 2 ^ suc k) (2 ^ suc k) (2 ^ k) double pos)
  where
    sums : (a t p : ℕ) → t ≡ p + p → 0 < p → (a + (t - 1)) - 1 * p ≡ a + (p - 1)
    sums a t p e h = omega arith

mask_and : (j k n : ℕ) → n < 2 ^ (j + suc k) → bit_and n ((2 ^ j - 1) * 2 ^ suc k + (2 ^ k - 1)) ≡ n / 2 ^ suc k * 2 ^ suc k + n % 2 ^ k
mask_and j k n lt =
    let q : ℕ = n / 2 ^ suc k in
    let r : ℕ = n % 2 ^ suc k in
    let pos : 0 < 2 ^ k = pow_pos k in
    let below : 2 ^ k - 1 < 2 ^ suc k = omega arith in
    let one-and : 1 + k ≡ suc k = omega arith in
    let low : r % 2 ^ k ≡ n % 2 ^ k = ap (λ (m : ℕ). n % 2 ^ m % 2 ^ k) (sym one-and) ∙ mod-mod-pow n 1 k in
    ap (λ (m : ℕ). bit_and m ((2 ^ j - 1) * 2 ^ suc k + (2 ^ k - 1))) (sym (split n (suc k)))
    ∙ and_block (suc k) q (2 ^ j - 1) r (2 ^ k - 1) (mod-lt n (pow_pos (suc k))) below
    ∙ rw (and_mask q j, and_mask r k, mod-eq_of_lt (shr_lt {n = n} j (suc k) lt), low)

-- `n & !(1 << k)`
pub and_not_bit : (w n k : ℕ) → k < w → n < 2 ^ w → bit_and n ((2 ^ w - 1) - (1 * 2 ^ k) % 2 ^ w) + (n / 2 ^ k % 2) * 2 ^ k ≡ n
and_not_bit w n k h lt = rw (one_shifted w k h) (at (w - suc k) (omega arith))
  where
    at : (j : ℕ) → w ≡ j + suc k → bit_and n ((2 ^ w - 1) - 1 * 2 ^ k) + (n / 2 ^ k % 2) * 2 ^ k ≡ n
    at j e =
        let one-and : 1 + k ≡ suc k = omega arith in
        let bits : n % 2 ^ suc k ≡ (n / 2 ^ k % 2 ^ 1) * 2 ^ k + n % 2 ^ k = ap (λ (m : ℕ). n % 2 ^ m) (sym one-and) ∙ mod-pow-add n 1 k in
        let whole : n / 2 ^ suc k * 2 ^ suc k + n % 2 ^ suc k ≡ n = split n (suc k) in
        rw (e, mask_splits j k, mask_and j k n (rw e at lt)) (sums (n / 2 ^ suc k * 2 ^ suc k) (n % 2 ^ k) ((n / 2 ^ k % 2) * 2 ^ k) (n % 2 ^ suc k) n bits whole)
      where
        sums : (a l b r m : ℕ) → r ≡ b + l → a + r ≡ m → a + l + b ≡ m
        sums a l b r m p q = omega arith

-- `(n >> k) & 1`
pub and_one : (n : ℕ) → bit_and n 1 ≡ n % 2
and_one n = and_mask n 1
