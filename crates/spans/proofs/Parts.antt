-- Where a part's rows end: behind a row that does not stand before the part, one stands before the next part exactly if it is of the part.
use mathlib.Core.Path.{◌≡◌, refl, sym, ◌∙◌}
use mathlib.Core.Bool.{Bool, true, false, ◌&&◌, ◌||◌}
use mathlib.Core.Logic.{⊎_elim}
use mathlib.Core.List.{List}
use Prim.Native.Nat.{ℕ, ◌+◌, ◌/◌, ◌≤◌, ◌<◌}
use native.Mathlib.Omega.{arith}
use lib.Dec.{ltb, eqb}
use lib.ListN.{length}
use borrow.Author.Tests.{eqb-true, eqb-false, ltb-false, lt-ltb, le-ltb}
use Rattle.lists.specs.Lists.{Pairs}
use Rattle.lists.proofs.Lists.{test, clash}
use Rattle.model.specs.declared.Row.{Row}
use Rattle.program.specs.Rows.{row_at, rows_of}
use Rattle.program_laws.specs.Lawful.{NotLater}
use Rattle.spans.specs.Spans.{before, Bound}
use Rattle.spans.proofs.Spans.{Halved, halved_down, halved_bound}

exact : (a b c d e e' f : Bool) → (e ≡ false → e' ≡ f) → (a || (b && (c || (d && e)))) ≡ false → (a || (b && (c || (d && e')))) ≡ (b && (d && f))
exact true b c d e e' f h p = clash refl p
exact false true true d e e' f h p = clash refl p
exact false true false true e e' f h p = h p
exact false true false false e e' f h p = refl
exact false false c d e e' f h p = refl

module _ (s n p : ℕ) (r : Row) where
  -- a row that does not stand before the part stands before the next one exactly if it is of the part
  before_part : before s n p r ≡ false → before s n (p + 1) r ≡ (eqb r.set s && (eqb r.rule n && eqb r.part p))
  before_part = exact (ltb r.set s) (eqb r.set s) (ltb r.rule n) (eqb r.rule n) _ _ (eqb r.part p)
      (λ e. let h = ltb-false r.part p e in
      ⊎_elim
      (λ q. let d = eqb-true r.part p q in lt-ltb r.part (p + 1) (omega arith) ∙ sym q)
      (λ q. let d = eqb-false r.part p q in le-ltb r.part (p + 1) (omega arith) ∙ sym q)
      (test (eqb r.part p)))

-- the rows of a part, one after the other
module _ (program : List ℕ) (s n p : ℕ) (o : Pairs NotLater (rows_of program)) where
  module _ (from : ℕ) (x : Bound program s n p from) (k : ℕ) (f : from ≤ k) (l : k < length program / 8) (h : Halved program s n (p + 1) k (length program / 8))
      (b : Bool) (e : b ≡ (eqb (row_at program k).set s && (eqb (row_at program k).rule n && eqb (row_at program k).part p))) where
    here : before s n (p + 1) (row_at program k) ≡ b
    here = before_part s n p (row_at program k) (x.later k f l) ∙ sym e

    pub part_stops : b ≡ false → Bound program s n (p + 1) k
    part_stops t = halved_bound program s n (p + 1) k k (omega arith) (halved_down program s n (p + 1) k (length program / 8) k o (omega arith) l (here ∙ t) h)
