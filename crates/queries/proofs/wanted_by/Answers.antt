-- A constant and a variable with a value meet one number each.
use borrow.Author.Tests.{eqb-false, ne_eqb, le-leb, lt-leb}
use mathlib.Core.Path.{◌≡◌, refl, sym, ◌∙◌}
use mathlib.Core.Bool.{Bool, true, false, not}
use Prim.Native.Nat.{ℕ, ◌-◌}
use Rattle.std.specs.Bool.{then_some}
use native.Mathlib.Omega.{arith}
use lib.Dec.{eqb}
use lib.ListN.{get_or}
use Rattle.lists.proofs.Tables.{get_within}
use Rattle.model.specs.Configuration.{value_of}
use Rattle.model.specs.Matching.{meet}
use Rattle.queries.specs.View.{Wants}
use Rattle.queries.proofs.wanted_by.Goals as goal

pub returns-in_default-clause-wants : goal.returns-in_default-clause-wants
unfolding meet
returns-in_default-clause-wants c =
    let x = c.args.x in
    let z : eqb x 0 ≡ false = ne_eqb x 0 (λ (e : x ≡ 0). let h = c.in_default in omega arith) in
    record { misses = λ n h v g. rw (z, le-leb 9 x (let h = c.in_default in omega arith), ne_eqb (x - 9) n (λ e. h (sym e))) }

pub returns-in-1-to-8-clause-wants : goal.returns-in-1-to-8-clause-wants
unfolding meet
returns-in-1-to-8-clause-wants c = rw c.then_some.ensures (at (eqb v 65536) refl)
  where
    x : ℕ
    x = c.args.x

    v : ℕ
    v = get_or c.args.values.now (8 - x) 0

    at : (t : Bool) → eqb v 65536 ≡ t → Wants (then_some (not t) v) x c.args.values.now
    at true k = record { misses = tt }
    at false k =
        let l = c.args.values.now in
        let is = get_within l (8 - x) 65536 0 (omega arith) in
        let z : eqb x 0 ≡ false = ne_eqb x 0 (λ (e : x ≡ 0). let h = c.in-1-to-8 in omega arith) in
        record {
          misses = λ n h u g.
              let o : value_of u x ≡ value_of l x = g x (λ e. eqb-false _ _ k (sym is ∙ e)) in
              rw (z, lt-leb 9 x (let h = c.in-1-to-8 in omega arith), o, is, k, ne_eqb v n (λ e. h (sym e)));
        }
