-- The rows that are tested are the readings.
use mathlib.Core.Path.{◌≡◌, refl}
use mathlib.Core.Bool.{true, false}
use Prim.Native.Nat.{◌/◌}
use native.Mathlib.Omega.{arith}
use lib.ListN.{length}
use borrow.Author.Rules.{rules}
use borrow.Author.Tests.{tests}
use Rattle.std.proofs.lemmas.Iterator.{cases_from_all, YieldsList-from_range}
use Rattle.model.specs.Calls.{in_range as is_in_range}
use Rattle.sensing.specs.Sensing.{reading_at}
use Rattle.sensing.proofs.Readings.{every_reading}
use Rattle.sensing.proofs.rows_in_range.Goals as goal

pub returns : goal.returns
returns c =
    let R = c.args.rows.now in
    let n = length R / 4 in
    every_reading is_in_range R n c.all.result
    (cases_from_all _ _ _ (λ k. is_in_range (reading_at R k) ≡ true) (λ k. is_in_range (reading_at R k) ≡ false) c.all.ensures.ran (YieldsList-from_range 0 n n refl (omega arith))
    (λ x q k. search (rules, tests)) (λ x q k. search (rules, tests)))
