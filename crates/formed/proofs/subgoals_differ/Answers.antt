use mathlib.Core.Path.{sym, ap, ◌∙◌}
use Prim.Native.Nat.{ℕ}
use Rattle.lists.specs.Tables.{index_of}
use Rattle.state.specs.View.{atom_ids_of}
use Rattle.formed.proofs.Apart.{marked_past, marked_more, not_missing}
use Rattle.formed.proofs.subgoals_differ.Goals as goal
use Rattle.formed.proofs.subgoals_differ.Goals.{then-subgoal-ne0+in-Some+else-marks-i, else-subgoal-ne0}

pub returns-in_default : goal.returns-in_default
returns-in_default c =
    let a = c.args in
    absurd (not_missing a.words.now a.atoms a.plans c.loop-k.k _ c.loop-k-test.true c.requires.2 c.plan_subgoal-subgoal.ensures c.if-subgoal-ne0.true c.in_default.ensures)

pub loop-k-preserved : goal.loop-k-preserved
loop-k-preserved c =
    let W = c.args.words.now in
    let n = c.args.atoms in
    elim c.if-subgoal-ne0.branch [
      | then-subgoal-ne0+in-Some+else-marks-i w ↦
          let f = w.in-Some.ensures in
          rw w.marks-is (marked_more W n c.requires.0 c.loop-k.marks c.loop-k.k c.loop-k.invariant _ (f.0 ∙ ap (λ (x : ℕ). index_of x (atom_ids_of n W)) c.plan_subgoal-subgoal.ensures) f.1 w.if-marks-i.false)
      | else-subgoal-ne0 w ↦ rw w.marks-is (marked_past W n c.requires.0 c.loop-k.marks c.loop-k.k c.loop-k.invariant (sym c.plan_subgoal-subgoal.ensures ∙ w.if-subgoal-ne0.false))
    ]
