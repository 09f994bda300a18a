use mathlib.Core.Path.{◌≡◌, sym, ◌∙◌}
use Prim.Native.Nat.{◌+◌, ◌-◌}
use native.Mathlib.Omega.{arith}
use Rattle.listing.proofs.Listed.{listed_none, listed_atom, listed_plan, listed_end}
use Rattle.listing.proofs.Next.{next_atom, next_plan}
use Rattle.listing.proofs.put_instances.Goals.{then-is_atom_next, else-is_atom_next}
use Rattle.listing.proofs.put_instances.Goals as goal

pub loop-k-init : goal.loop-k-init
loop-k-init c = (listed_none _ _ _, omega arith)

pub put_atom-requires : goal.put_atom-requires
put_atom-requires c =
    let v = c.loop-k in
    let n = next_atom _ _ v.i (v.k - v.i) (sym c.is_atom_next.ensures ∙ c.if-is_atom_next.true) in
    let o = c.requires.0 in
    (omega (arith, o.few_atoms), omega (arith, v.invariant.0.short, o.few_atoms, o.few_plans))

pub put_plan-requires : goal.put_plan-requires
put_plan-requires c =
    let v = c.loop-k in
    let w = v.invariant.0 in
    let n = next_plan _ _ v.i (v.k - v.i) (sym c.is_atom_next.ensures ∙ c.if-is_atom_next.false) (omega (arith, v.invariant.1)) w.some_plans w.some_atoms in
    let o = c.requires.0 in
    (omega (arith, o.few_plans), omega (arith, w.short, o.few_atoms, o.few_plans))

pub loop-k-preserved : goal.loop-k-preserved
loop-k-preserved c =
    let v = c.loop-k in
    elim c.if-is_atom_next.branch [
      | then-is_atom_next w ↦
          let e : v.k + 1 - (v.i + 1) ≡ v.k - v.i = omega arith in
          (rw (w.i-is, w.out-is, e) (listed_atom _ _ _ _ _ _ v.invariant.0 c.requires.0 _ (sym c.is_atom_next.ensures ∙ w.if-is_atom_next.true) w.put_atom.ensures.puts w.put_atom.ensures.short), rw w.i-is (omega (arith, v.invariant.1)))
      | else-is_atom_next w ↦
          let e : v.k + 1 - v.i ≡ v.k - v.i + 1 = omega (arith, v.invariant.1) in
          (rw (w.i-is, w.out-is, e) (listed_plan _ _ _ _ _ _ v.invariant.0 c.requires.0 _ (omega (arith, v.invariant.1, c.loop-k-test.true)) (sym c.is_atom_next.ensures ∙ w.if-is_atom_next.false) w.put_plan.ensures.puts w.put_plan.ensures.short), rw w.i-is (omega (arith, v.invariant.1)))
    ]

pub returns : goal.returns
returns c =
    let v = c.loop-k in
    listed_end _ _ _ _ _ _ v.invariant.0 (omega (arith, v.invariant.1))
