-- Five digits at most.
use mathlib.Core.Path.{ap, ◌∙◌}
use mathlib.Core.List.{List}
use Prim.Native.Nat.{ℕ}
use native.Mathlib.Omega.{arith}
use lib.ListN.{length, length-append}
use Rattle.model.specs.Render.{decimal}
use Rattle.listing.proofs.Decimals.{decimal_short}
use Rattle.listing.proofs.put_number.Goals as goal

pub push-requires : goal.push-requires
push-requires c =
    let a = c.args in
    let s = decimal_short 5 a.n in
    let l = ap (λ (x : List ℕ). length x) c.put_decimal.ensures ∙ length-append a.out.now.items (decimal 5 a.n) in
    omega arith

pub returns-clause-short : goal.returns-clause-short
returns-clause-short c =
    let a = c.args in
    let s = decimal_short 5 a.n in
    let l = ap (λ (x : List ℕ). length x) c.put_decimal.ensures ∙ length-append a.out.now.items (decimal 5 a.n) in
    omega (arith, c.push.ensures.len)
