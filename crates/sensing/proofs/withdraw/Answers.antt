use mathlib.Core.Path.{◌≡◌, sym, ap, ◌∙◌}
use Prim.Native.Nat.{ℕ, ◌+◌}
use native.Mathlib.Omega.{arith}
use borrow.Author.Rules.{rules}
use Rattle.state.specs.View.{config_of}
use Rattle.model.specs.declared.Atom.{Atom}
use Rattle.model.specs.Deletion.{graph, remove as removed}
use Rattle.model.specs.Events.{gone_by, deletion}
use Rattle.model.specs.Configuration.{Config}
use Rattle.sensing.proofs.Withdrawals.{withdrawing_first, withdrawing_on, withdrawing_take, withdrawing_end, fewer}
use Rattle.sensing.proofs.withdraw.Goals as goal

-- a removal by the id that is seen
removal_is : (C D : Config) (g t id : ℕ) → t ≡ id → D ≡ removed t C → g ≡ gone_by (graph C) (deletion t) → (D ≡ removed id C) × (g ≡ gone_by (graph C) (deletion id))
removal_is C D g t id e l n = (l ∙ ap (λ (x : ℕ). removed x C) e, n ∙ ap (λ (x : ℕ). gone_by (graph C) (deletion x)) e)

pub loop-k-init : goal.loop-k-init
loop-k-init c = search (rules, withdrawing_first)

pub loop-k-smaller-then-is_equal : goal.loop-k-smaller-then-is_equal
loop-k-smaller-then-is_equal c =
    let l = c.loop-k in
    let a = c.args in
    let r = c.remove-r in
    let h = removal_is (config_of l.words l.s) (config_of r.new.words r.result.scalars) r.result.gone _ _ (ap (λ (x : Atom). x.id) c.atom_at-x.ensures) r.ensures.removed r.ensures.counted in
    let t = c.loop-k-test.true in
    let f = fewer a.p a.a a.b (config_of a.words.now a.scalars) (a.scalars.atoms + a.scalars.plans) l.words l.s r.new.words r.result.scalars l.gone l.k r.result.gone l.invariant.0 (omega arith) (sym c.is_equal.ensures ∙ c.if-is_equal.true) r.ensures.sound h.0 h.1 in
    omega arith

pub loop-k-preserved-then-is_equal : goal.loop-k-preserved-then-is_equal
loop-k-preserved-then-is_equal c =
    let l = c.loop-k in
    let a = c.args in
    let r = c.remove-r in
    let h = removal_is (config_of l.words l.s) (config_of r.new.words r.result.scalars) r.result.gone _ _ (ap (λ (x : Atom). x.id) c.atom_at-x.ensures) r.ensures.removed r.ensures.counted in
    let t = c.loop-k-test.true in
    (withdrawing_take a.p a.a a.b (config_of a.words.now a.scalars) (a.scalars.atoms + a.scalars.plans) l.words l.s r.new.words r.result.scalars l.gone l.k r.result.gone l.invariant.0 (omega arith) (sym c.is_equal.ensures ∙ c.if-is_equal.true) r.ensures.sound h.0 h.1, l.invariant.1)

pub loop-k-preserved : goal.loop-k-preserved
loop-k-preserved c =
    let l = c.loop-k in
    let i = l.invariant in
    let h = c.loop-k-test.true in
    let e = c.pass_unequal-k.ensures in
    (withdrawing_on _ _ _ _ _ l.words l.s l.gone l.k c.pass_unequal-k.result i.0 (omega (arith, h)) (sym c.is_equal.ensures ∙ c.if-is_equal.false) e.0 e.1 e.2, i.1)

pub returns-clause-withdraws : goal.returns-clause-withdraws
returns-clause-withdraws c = search (rules, withdrawing_end)
