-- What an accepted work tells of its tests, and what the tests tell of a work.
use mathlib.Core.Path.{◌≡◌, refl, ap}
use mathlib.Core.Bool.{Bool, true, false}
use Prim.Native.Nat.{ℕ}
use native.Mathlib.Omega.{arith}
use Rattle.lists.proofs.Lists.{clash}
use Rattle.model.specs.Log.{Log, Outcome, refused, accepted, unless}

-- 0 for a refused work
abbrev kind : Outcome → ℕ
kind (refused n) = 0
kind (accepted L) = 1

pub refused_not : {C : Type 0} {n : ℕ} {L : Log} → refused n ≡ accepted L → C
refused_not e = let z : ◌≡◌ {A = ℕ} 0 1 = ap kind e in absurd (omega arith)

-- the test of an accepted work did not hold
pub passed : (b : Bool) (n : ℕ) (o : Outcome) {L : Log} → unless b n o ≡ accepted L → (b ≡ false) × (o ≡ accepted L)
unfolding unless
passed true n o e = refused_not e
passed false n o e = (refl, e)

pub unless_true : (b : Bool) (n : ℕ) (o : Outcome) → b ≡ true → unless b n o ≡ refused n
unfolding unless
unless_true true n o e = refl
unless_true false n o e = clash e refl

pub unless_false : (b : Bool) (n : ℕ) (o : Outcome) → b ≡ false → unless b n o ≡ o
unfolding unless
unless_false true n o e = clash refl e
unless_false false n o e = refl
