use mathlib.Core.Path.{◌≡◌, ap, ◌∙◌}
use mathlib.Core.Bool.{false}
use mathlib.Core.List.{List}
use mathlib.Core.Logic.{◌≢◌, ⊎_elim}
use Prim.Native.Nat.{ℕ, ◌+◌, ◌-◌, ◌<◌, ◌≤◌}
use native.Mathlib.Omega.{arith}
use lib.Dec.{eqb}
use lib.ListN.{length, take, drop, get_or, length-take, length-drop}
use lib.Seq.{get_or-take, get_or-drop}
use borrow.Author.Tests.{eqb-false}
use Rattle.std.proofs.lemmas.Bool.{cases_lt}
use Rattle.text.proofs.pass_eights.Goals as goal

-- none before i, none from i to e
further : (text : List ℕ) (from i e : ℕ) → e ≤ length text → ((k : ℕ) → from ≤ k → k < i → get_or text k 0 ≢ 10)
    → ((k d : ℕ) → 0 ≤ k → k < length (take (e - i) (drop i text)) → eqb (get_or (take (e - i) (drop i text)) k d) 10 ≡ false) → (k : ℕ) → from ≤ k → k < e → get_or text k 0 ≢ 10
further text from i e long before part k p q = ⊎_elim (λ (h : k < i). before k p h) (λ (h : i ≤ k). at h) (cases_lt k i)
  where
    at : i ≤ k → get_or text k 0 ≢ 10
    at h =
        let same : i + (k - i) ≡ k = omega arith in
        let g : get_or (take (e - i) (drop i text)) (k - i) 0 ≡ get_or text k 0
        = get_or-take (e - i) (drop i text) (k - i) 0 (omega arith) ∙ get_or-drop i text (k - i) 0 ∙ ap (λ (j : ℕ). get_or text j 0) same in
        rw (← g) (eqb-false _ 10 (part (k - i) 0 (omega arith) (rw (length-take, length-drop) (omega arith))))

pub loop-i-preserved : goal.loop-i-preserved
loop-i-preserved c =
    let l = c.loop-i in
    (omega arith, omega arith, further c.args.text.now c.args.from l.i (l.i + 8) (omega arith) l.invariant.2 c.if-not-contains.ensures.cases)
