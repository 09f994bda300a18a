-- A flag set or cleared leaves a 16-bit number.
use Rattle.std.specs.Prelude.{if◌then◌else◌}
use mathlib.Core.Path.{◌≡◌, refl}
use mathlib.Core.Bool.{Bool, true, false}
use mathlib.Core.Logic.{◌≢◌}
use Prim.Native.Nat.{ℕ, zero, suc, ◌+◌, ◌-◌, ◌/◌, ◌%◌, ◌≤◌}
use native.Mathlib.Omega.{arith}
use lib.Dec.{eqb}
use borrow.Author.Tests.{eqb-false}
use Rattle.model.specs.Configuration.{weight, has_flag, with_flag, without_flag}

-- a flag that is not set leaves room for its weight, flag by flag
room : (f n : ℕ) → 1 ≤ f → f ≤ 16 → n ≤ 65535 → n / weight f % 2 ≢ 1 → n + weight f ≤ 65535
room zero n a b h e = absurd (omega arith)
room (suc zero) n a b h e = omega arith
room (suc (suc zero)) n a b h e = omega arith
room (suc (suc (suc zero))) n a b h e = omega arith
room (suc (suc (suc (suc zero)))) n a b h e = omega arith
room (suc (suc (suc (suc (suc zero))))) n a b h e = omega arith
room (suc (suc (suc (suc (suc (suc zero)))))) n a b h e = omega arith
room (suc (suc (suc (suc (suc (suc (suc zero))))))) n a b h e = omega arith
room (suc (suc (suc (suc (suc (suc (suc (suc zero)))))))) n a b h e = omega arith
room (suc (suc (suc (suc (suc (suc (suc (suc (suc zero))))))))) n a b h e = omega arith
room (suc (suc (suc (suc (suc (suc (suc (suc (suc (suc zero)))))))))) n a b h e = omega arith
room (suc (suc (suc (suc (suc (suc (suc (suc (suc (suc (suc zero))))))))))) n a b h e = omega arith
room (suc (suc (suc (suc (suc (suc (suc (suc (suc (suc (suc (suc zero)))))))))))) n a b h e = omega arith
room (suc (suc (suc (suc (suc (suc (suc (suc (suc (suc (suc (suc (suc zero))))))))))))) n a b h e = omega arith
room (suc (suc (suc (suc (suc (suc (suc (suc (suc (suc (suc (suc (suc (suc zero)))))))))))))) n a b h e = omega arith
room (suc (suc (suc (suc (suc (suc (suc (suc (suc (suc (suc (suc (suc (suc (suc zero))))))))))))))) n a b h e = omega arith
room (suc (suc (suc (suc (suc (suc (suc (suc (suc (suc (suc (suc (suc (suc (suc (suc zero)))))))))))))))) n a b h e = omega arith
room (suc (suc (suc (suc (suc (suc (suc (suc (suc (suc (suc (suc (suc (suc (suc (suc (suc f))))))))))))))))) n a b h e = absurd (omega arith)

pub with_flag_fits : (f n : ℕ) → 1 ≤ f → f ≤ 16 → n ≤ 65535 → with_flag f n ≤ 65535
unfolding with_flag has_flag
with_flag_fits f n a b h = at (eqb (n / weight f % 2) 1) refl
  where
    at : (t : Bool) → eqb (n / weight f % 2) 1 ≡ t → (if t then n else n + weight f) ≤ 65535
    at true e = h
    at false e = room f n a b h (eqb-false (n / weight f % 2) 1 e)

pub without_flag_fits : (f n : ℕ) → n ≤ 65535 → without_flag f n ≤ 65535
unfolding without_flag
without_flag_fits f n h = at (has_flag f n)
  where
    at : (t : Bool) → (if t then n - weight f else n) ≤ 65535
    at true = omega arith
    at false = h
