-- The machine's flags, by shift and mask, are the model's, by arithmetic.
use mathlib.Core.Path.{◌≡◌, ap}
use mathlib.Core.Logic.{⊎_elim}
use Prim.Native.Nat.{ℕ, ◌+◌, ◌-◌, ◌*◌, ◌/◌, ◌%◌, ◌^◌, ◌<◌, ◌≤◌}
use native.Mathlib.Omega.{arith}
use lib.Bits.{bit_and, bit_or}
use lib.Dec.{eqb}
use Rattle.lists.proofs.Bits.{bit_cases, or_bit, and_not_bit, and_one}
use Rattle.model.specs.Configuration.{has_flag, with_flag, without_flag}

pub tests_flag : (f n : ℕ) → eqb (bit_and (n / 2 ^ (f - 1)) 1) 1 ≡ has_flag f n
unfolding has_flag
tests_flag f n = ap (λ (b : ℕ). eqb b 1) (and_one (n / 2 ^ (f - 1)))

module _ (f n : ℕ) (low : 1 ≤ f) (high : f ≤ 16) where
  pub sets_flag : bit_or n ((1 * 2 ^ (f - 1)) % 65536) ≡ with_flag f n
  unfolding with_flag has_flag
  sets_flag =
      let h : bit_or n ((1 * 2 ^ (f - 1)) % 65536) + (n / 2 ^ (f - 1) % 2) * 2 ^ (f - 1) ≡ n + 2 ^ (f - 1) = or_bit 16 n (f - 1) (omega arith) in
      ⊎_elim
      (λ (e : n / 2 ^ (f - 1) % 2 ≡ 0). let k = rw e at h in rw e (omega arith))
      (λ (e : n / 2 ^ (f - 1) % 2 ≡ 1). let k = rw e at h in rw e (omega arith))
      (bit_cases n (f - 1))

  pub clears_flag : n < 65536 → bit_and n (65535 - (1 * 2 ^ (f - 1)) % 65536) ≡ without_flag f n
  unfolding without_flag has_flag
  clears_flag small =
      let h : bit_and n (65535 - (1 * 2 ^ (f - 1)) % 65536) + (n / 2 ^ (f - 1) % 2) * 2 ^ (f - 1) ≡ n = and_not_bit 16 n (f - 1) (omega arith) small in
      ⊎_elim
      (λ (e : n / 2 ^ (f - 1) % 2 ≡ 0). let k = rw e at h in rw e (omega arith))
      (λ (e : n / 2 ^ (f - 1) % 2 ≡ 1). let k = rw e at h in rw e (omega arith))
      (bit_cases n (f - 1))
