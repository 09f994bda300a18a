-- Rows in range, as a fact for each column.
use Prim.Native.Nat.{◌≤◌}
use mathlib.Core.Path.{◌≡◌, refl, sym, subst}
use mathlib.Core.Logic.{⊎_elim}
use mathlib.Core.Bool.{true}
use mathlib.Core.List.{List, [], ◌∷◌}
use borrow.Author.Tests.{le-leb, leb-true}
use Rattle.lists.specs.Lists.{In, every}
use Rattle.lists.proofs.Lists.{in_nil, in_cons}
use Rattle.model.specs.declared.Row.{Row}
use Rattle.model.specs.Render.{in_range}
use Rattle.program_laws.proofs.Tests.{and_left, and_right, parts}

-- "p runs 0 to 255; the others 0 to 65,535, but i, a, b from -9"
pub record InRange (r : Row) : Type 0 where
  pub set : r.set ≤ 65535
  pub rule : r.rule ≤ 65535
  pub part : r.part ≤ 65535
  pub op : r.op ≤ 65535
  pub i : r.i ≤ 65544
  pub p : r.p ≤ 255
  pub a : r.a ≤ 65544
  pub b : r.b ≤ 65544

abbrev pub AllInRange : List Row → Type 0
AllInRange [] = Unit {0}
AllInRange (r ∷ rs) = InRange r × AllInRange rs

pub in_range_of : (r : Row) → in_range r ≡ true → InRange r
unfolding in_range
in_range_of r e = record {
  set = leb-true _ _ (search parts depth 9);
  rule = leb-true _ _ (search parts depth 9);
  part = leb-true _ _ (search parts depth 9);
  op = leb-true _ _ (search parts depth 9);
  i = leb-true _ _ (search parts depth 9);
  p = leb-true _ _ (search parts depth 9);
  a = leb-true _ _ (search parts depth 9);
  b = leb-true _ _ (search parts depth 9);
}

pub of_in_range : (r : Row) → InRange r → in_range r ≡ true
unfolding in_range
of_in_range r h =
    simp (le-leb _ _ h.set, le-leb _ _ h.rule, le-leb _ _ h.part, le-leb _ _ h.op, le-leb _ _ h.i, le-leb _ _ h.p, le-leb _ _ h.a, le-leb _ _ h.b)

pub all_in_range : (rows : List Row) → every in_range rows ≡ true → AllInRange rows
unfolding every
all_in_range [] e = tt
all_in_range (r ∷ rs) e = (in_range_of r (and_left _ _ e), all_in_range rs (and_right (in_range r) _ e))

pub of_all_in_range : (rows : List Row) → AllInRange rows → every in_range rows ≡ true
unfolding every
of_all_in_range [] h = refl
of_all_in_range (r ∷ rs) h = rw (of_in_range r h.0) (of_all_in_range rs h.1)

pub range_in : (rows : List Row) → AllInRange rows → (r : Row) → In r rows → InRange r
range_in [] h r i = in_nil i
range_in (q ∷ rs) h r i = ⊎_elim (λ e. subst InRange (sym e) h.0) (range_in rs h.1 r) (in_cons i)
