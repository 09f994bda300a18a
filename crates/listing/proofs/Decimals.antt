-- Numbers in base ten: the last digit stands behind the others.
use Prim.Native.Nat.{ℕ, zero, suc, ◌+◌, ◌-◌, ◌/◌, ◌%◌, ◌≤◌, ◌<◌}
use mathlib.Core.Path.{◌≡◌, refl, ap}
use mathlib.Core.Bool.{Bool, true, false}
use mathlib.Core.Logic.{◌≢◌}
use mathlib.Core.List.{[], ◌∷◌, ◌++◌}
use native.Mathlib.Omega.{arith}
use lib.Dec.{ltb}
use lib.ListN.{length, length-append}
use borrow.Author.Tests.{le-leb, lt-ltb, le-ltb}
use Rattle.model.specs.Render.{decimal, integer}

pub decimal_short : (f n : ℕ) → length (decimal f n) ≤ f
unfolding decimal
decimal_short zero n = omega arith
decimal_short (suc f) n = go (ltb n 10) refl (decimal_short f (n / 10))
  where
    go : (b : Bool) → ltb n 10 ≡ b → length (decimal f (n / 10)) ≤ f → length (decimal (suc f) n) ≤ suc f
    go true t ih = rw (t, decimal) (omega arith)
    go false t ih = rw (t, decimal) (simp length-append (omega arith))

-- no digit, one digit, and more than one
pub decimal_none : (d n : ℕ) → d ≡ 0 → decimal d n ≡ []
unfolding decimal
decimal_none d n e = ap (λ (f : ℕ). decimal f n) e

pub decimal_one : (d n : ℕ) → d ≢ 0 → n < 10 → decimal d n ≡ (n + 48) ∷ []
unfolding decimal
decimal_one zero n z h = absurd (z refl)
decimal_one (suc f) n z h = rw (lt-ltb n 10 h, decimal)

pub decimal_more : (d n : ℕ) → d ≢ 0 → 10 ≤ n → decimal (d - 1) (n / 10) ++ ((n % 10 + 48) ∷ []) ≡ decimal d n
unfolding decimal
decimal_more zero n z h = absurd (z refl)
decimal_more (suc f) n z h = let e : suc f - 1 ≡ f = omega arith in rw (e, le-ltb n 10 h, decimal)

pub integer_is : (n : ℕ) → integer (n + 9) ≡ decimal 5 n
unfolding integer
integer_is n = let e : n + 9 - 9 ≡ n = omega arith in rw (le-leb 9 (n + 9) (omega arith), e)
