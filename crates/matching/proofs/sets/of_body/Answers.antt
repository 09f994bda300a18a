use mathlib.Core.Path.{refl}
use native.Mathlib.Omega.{arith}
use Rattle.nogoods.specs.Nogoods.{has}
use Rattle.matching.proofs.Bits.{looks_at}
use Rattle.matching.proofs.sets.of_body.Goals as goal

pub loop-j-init : goal.loop-j-init
unfolding has
loop-j-init c = (omega arith, refl, λ i h k. absurd (omega arith))

pub returns : goal.returns
returns c =
    let a = c.args in
    let inv = c.loop-j.invariant in
    record { small = inv.0; ids = inv.1; rows = looks_at a.program.now a.from a.to c.loop-j.set (λ j h k. inv.2 j h (omega (arith, c.loop-j-test.false))) }
