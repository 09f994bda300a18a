-- The literal is the nogood, number by number.
use mathlib.Core.Path.{◌≡◌}
use lib.ListN.{length}
use Rattle.nogoods.proofs.Laws.{numbers_are}
use borrow.Author.Rules.{rules}
use Rattle.nogoods.proofs.numbers.Goals as goal

pub returns : goal.returns
returns c =
    let v : length c.args.values ≡ 8 = search rules in
    let n : length c.args.ids ≡ 4 = search rules in
    numbers_are c.args.rest c.args.set c.args.values c.args.count c.args.ids v n
