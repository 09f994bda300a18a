-- What calls at each index in turn made.
use mathlib.Core.Path.{◌≡◌, refl, sym, ◌∙◌, subst}
use mathlib.Core.List.{List}
use Prim.Native.Nat.{ℕ, zero, suc, ◌+◌, ◌<◌}
use native.Mathlib.Omega.{arith}
use lib.ListN.{get_or}
use denote.Param.Members.{Mut, Called}
use Rattle.std.specs.Array.{IsFromFnResult, IsFromFnResultFrom}
use Rattle.lists.specs.Tables.{tabulate}
use Rattle.lists.proofs.Tables.{tabulate_get, tabulate_same}

module _ {F : Type 0} (g : Mut F (ℕ × Unit {0}) ℕ) (f : F) (h : ℕ → ℕ) (calls : (i y : ℕ) (q : F) → Called g f (i, tt) y q → (y ≡ h i) × (q ≡ f)) where
  each : (ys : List ℕ) (i n : ℕ) (p : F) → p ≡ f → IsFromFnResultFrom g p ys i n → (k : ℕ) → k < n → get_or ys (i + k) 0 ≡ h (i + k)
  each ys i zero p s e k hk = absurd (omega arith)
  each ys i (suc n) p s e zero hk =
      let z : i + 0 ≡ i = omega arith in
      rw z (e.2.1 0 ∙ (calls i e.1 e.0 (subst (λ (o : F). Called g o (i, tt) e.1 e.0) s e.3)).0)
  each ys i (suc n) p s e (suc k) hk =
      let z : i + suc k ≡ (i + 1) + k = omega arith in
      rw z (each ys (i + 1) n e.0 (calls i e.1 e.0 (subst (λ (o : F). Called g o (i, tt) e.1 e.0) s e.3)).1 e.4 k (omega arith))

  pub made_by : (ys : List ℕ) (n : ℕ) → IsFromFnResult g f ys n → ys ≡ tabulate n h
  made_by ys n e = sym (tabulate_get n ys 0 e.long) ∙ tabulate_same n (λ (k : ℕ). get_or ys k 0) h (λ k hk. let z : 0 + k ≡ k = omega arith in rw z at (each ys 0 n f refl e.each k hk))
