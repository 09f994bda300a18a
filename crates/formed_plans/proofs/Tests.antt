-- The model's tests in the order in which the code makes them.
use mathlib.Core.Path.{◌≡◌, refl, sym, ap, ◌∙◌}
use mathlib.Core.Bool.{Bool, not, ◌&&◌, and_assoc, and-true}
use mathlib.Core.List.{List}
use Prim.Native.Nat.{ℕ, ◌-◌, ◌<◌}
use lib.Dec.{leb, ltb}
use lib.ListN.{length}
use borrow.Author.Tests.{eq-eqb}
use Rattle.lists.specs.Lists.{every, member}
use Rattle.model.specs.declared.Row.{Row}
use Rattle.model.specs.Program.{is_object, body}
use Rattle.model.specs.Configuration.{Plan, Config, atom_ids, no_value}
use Rattle.model.specs.Deletion.{node, graph}
use Rattle.model.specs.WellFormed.{node_formed, row_has_values, plan_formed}
use Rattle.program.specs.Rows.{rows_of}
use Rattle.state.specs.declared.Scalars.{Scalars}
use Rattle.state.specs.View.{plan_at, config_of}
use Rattle.state.proofs.View.{values_long}
use Rattle.plan_steps.proofs.Bodies.{part_named, body_long, span_body}
use Rattle.formed_plans.specs.declared.Clauses.{Clauses}
use Rattle.formed_plans.specs.Plans.{alive_below, justified, subgoal_alive, subgoal_first, within_limits, ClausesAt}
use Rattle.formed_plans.proofs.Steps.{object_is}

pub node_tests : (c : Config) (q : Plan) →
    (leb 1 q.id && (ltb q.id c.next && not (member q.id (atom_ids c)))) && (justified (alive_below (atom_ids c) q.id) q.justifications && subgoal_alive (atom_ids c) q) ≡ node_formed (graph c) (node q)
unfolding node_formed
node_tests c q = simp (and_assoc, and-true)

pub plan_tests : (program : List Row) (c : Config) (q : Plan) → length q.values ≡ 8 → {object left values flags first : Bool} →
    object ≡ is_object program q.set q.rule →
    left ≡ leb q.left (length (body program q.set q.rule)) →
    values ≡ (every (λ v. leb v no_value) q.values && every (row_has_values q.values) (body program q.set q.rule)) →
    flags ≡ leb q.flags 65535 →
    first ≡ subgoal_first program c q →
    object && (left && (values && (flags && first))) ≡ plan_formed program c q
unfolding plan_formed
plan_tests program c q h o l v f s = rw (o, l, v, f, s, eq-eqb (length q.values) 8 h) (simp (and_assoc, and-true))

-- the tests that the two spans and the limits of the body stand for
pub tests_formed : (P W : List ℕ) (s : Scalars) (k : ℕ) (at : Clauses) → length W ≡ 2432 → k < 64 → ClausesAt P at → at.set ≡ (plan_at W k).set → at.rule ≡ (plan_at W k).rule →
    let q = plan_at W k in
    ltb at.reasons.from at.reasons.to && (leb q.left (at.body.to - at.body.from) && (within_limits at.limits q.values && (leb q.flags 65535 && subgoal_first (rows_of P) (config_of W s) q))) ≡ plan_formed (rows_of P) (config_of W s) q
tests_formed P W s k at long few w e f =
    let q = plan_at W k in
    let body = span_body P q at.body at.set at.rule e f w.bounded w.body in
    let eight = values_long W k long few in
    plan_tests (rows_of P) (config_of W s) q eight
    (object_is P q.set q.rule at.reasons.from at.reasons.to (w.reasons ∙ part_named P q at.set at.rule 1 e f))
    (ap (leb q.left) (sym (body_long P q at.body body)))
    (w.limits q.values eight ∙ ap (λ (l : List Row). every (λ v. leb v no_value) q.values && every (row_has_values q.values) l) (part_named P q at.set at.rule 3 e f))
    refl
    refl
