-- A reason changes the ids too.
use mathlib.Core.Path.{refl}
use Rattle.model.specs.Configuration.{place}
use Rattle.nogoods.specs.Nogoods.{has}
use Rattle.matching.proofs.sets.changed.Goals as goal

pub returns : goal.returns
unfolding has
returns c =
    let r = c.args.r in
    let whole = c.union-2.ensures in
    let all = c.union-set.ensures in
    let rest = c.union.ensures in
    record {
      small = whole.small;
      at_i = λ n h l z. whole.left (place r.i) (all.left (place r.i) (c.open-i.ensures.1 h l z));
      at_a = λ n h l z. whole.left (place r.a) (all.right (place r.a) (rest.left (place r.a) (c.open-a.ensures.1 h l z)));
      at_b = λ n h l z. whole.left (place r.b) (all.right (place r.b) (rest.right (place r.b) (c.open-b.ensures.1 h l z)));
      at_ids = λ n z. whole.right 8 refl;
    }
