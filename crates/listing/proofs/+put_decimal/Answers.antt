-- All digits but the last, then the last: one digit less may be written.
use mathlib.Core.Path.{sym, ap, ◌∙◌}
use mathlib.Core.List.{List, [], ◌∷◌, ◌++◌, append-nil, append_assoc}
use Prim.Native.Nat.{ℕ, ◌+◌, ◌-◌, ◌/◌, ◌%◌}
use native.Mathlib.Omega.{arith}
use lib.ListN.{length, length-append}
use Rattle.model.specs.Render.{decimal}
use Rattle.listing.proofs.Decimals.{decimal_short, decimal_none, decimal_one, decimal_more}
use Rattle.listing.proofs.+put_decimal.Goals as goal

pub returns-then-digits-eq0 : goal.returns-then-digits-eq0
returns-then-digits-eq0 t c =
    let a = c.args in
    rw (decimal_none a.digits a.n c.if-digits-eq0.true) (sym (append-nil _))

pub returns-then-n-lt10 : goal.returns-then-n-lt10
returns-then-n-lt10 t c =
    let a = c.args in
    rw (decimal_one a.digits a.n c.if-digits-eq0.false c.if-n-lt10.true) c.push.ensures.items

pub push-requires-2 : goal.push-requires-2
push-requires-2 t c =
    let a = c.args in
    let p = c.put_decimal in
    let s = decimal_short (a.digits - 1) (a.n / 10) in
    let l = ap length p.ensures ∙ length-append a.out.now.items (decimal (a.digits - 1) (a.n / 10)) in
    omega (arith, c.if-digits-eq0.false)

pub returns : goal.returns
returns t c =
    let a = c.args in
    let before = decimal (a.digits - 1) (a.n / 10) in
    let last = (a.n % 10 + 48) ∷ [] in
    c.push-2.ensures.items ∙ ap (λ (l : List ℕ). l ++ last) c.put_decimal.ensures ∙ append_assoc a.out.now.items before last
    ∙ ap (λ (l : List ℕ). a.out.now.items ++ l) (decimal_more a.digits a.n c.if-digits-eq0.false (omega arith))
