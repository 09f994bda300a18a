-- None of eight in turn: what a scan by eights passes over.
use mathlib.Core.Path.{◌≡◌, refl, sym, ap, ◌∙◌}
use mathlib.Core.Bool.{Bool, true, false, ◌||◌, false≢true}
use Prim.Native.Nat.{ℕ, zero, suc, ◌+◌, ◌-◌, ◌<◌, ◌≤◌}
use native.Mathlib.Omega.{arith}

neither : (a b : Bool) → (a || b) ≡ false → (a ≡ false) × (b ≡ false)
neither false b h = (refl, h)
neither true b h = absurd (false≢true (sym h))

pub eight_false : (f : ℕ → Bool) (c : ℕ) (b0 b1 b2 b3 b4 b5 b6 b7 : Bool) → b0 ≡ f c → b1 ≡ f (c + 1) → b2 ≡ f (c + 2) → b3 ≡ f (c + 3) → b4 ≡ f (c + 4) → b5 ≡ f (c + 5) → b6 ≡ f (c + 6) → b7 ≡ f (c + 7) →
    (((b0 || b1) || (b2 || b3)) || ((b4 || b5) || (b6 || b7))) ≡ false → (k : ℕ) → c ≤ k → k < c + 8 → f k ≡ false
eight_false f c b0 b1 b2 b3 b4 b5 b6 b7 e0 e1 e2 e3 e4 e5 e6 e7 h k l m = at (k - c) (omega arith) (omega arith)
  where
    halves : (((b0 || b1) || (b2 || b3)) ≡ false) × (((b4 || b5) || (b6 || b7)) ≡ false)
    halves = neither ((b0 || b1) || (b2 || b3)) ((b4 || b5) || (b6 || b7)) h

    low : ((b0 || b1) ≡ false) × ((b2 || b3) ≡ false)
    low = neither (b0 || b1) (b2 || b3) halves.0

    high : ((b4 || b5) ≡ false) × ((b6 || b7) ≡ false)
    high = neither (b4 || b5) (b6 || b7) halves.1

    so : (b : Bool) (j : ℕ) → b ≡ f j → b ≡ false → k ≡ j → f k ≡ false
    so b j e t q = ap f q ∙ sym e ∙ t

    at : (j : ℕ) → j < 8 → k ≡ c + j → f k ≡ false
    at zero g q = so b0 c e0 (neither b0 b1 low.0).0 (omega arith)
    at (suc zero) g q = so b1 (c + 1) e1 (neither b0 b1 low.0).1 (omega arith)
    at (suc (suc zero)) g q = so b2 (c + 2) e2 (neither b2 b3 low.1).0 (omega arith)
    at (suc (suc (suc zero))) g q = so b3 (c + 3) e3 (neither b2 b3 low.1).1 (omega arith)
    at (suc (suc (suc (suc zero)))) g q = so b4 (c + 4) e4 (neither b4 b5 high.0).0 (omega arith)
    at (suc (suc (suc (suc (suc zero))))) g q = so b5 (c + 5) e5 (neither b4 b5 high.0).1 (omega arith)
    at (suc (suc (suc (suc (suc (suc zero)))))) g q = so b6 (c + 6) e6 (neither b6 b7 high.1).0 (omega arith)
    at (suc (suc (suc (suc (suc (suc (suc zero))))))) g q = so b7 (c + 7) e7 (neither b6 b7 high.1).1 (omega arith)
    at (suc (suc (suc (suc (suc (suc (suc (suc j)))))))) g q = absurd (omega arith)
