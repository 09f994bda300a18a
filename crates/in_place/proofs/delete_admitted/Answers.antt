use mathlib.Core.Path.{refl, sym, ◌∙◌}
use Rattle.model.specs.Claims.{to_delete}
use Rattle.state.specs.View.{config_of}
use Rattle.in_place.specs.Given.{given_rows}
use Rattle.in_place.proofs.Deleted.{delete_done}
use Rattle.in_place.proofs.Stays.{stays}
use Rattle.in_place.proofs.delete_admitted.Goals as goal

pub returns-clause-stays : goal.returns-clause-stays
returns-clause-stays c =
    let a = c.args in
    let r = c.remove-r in
    let before = config_of a.words.now a.scalars.now in
    let alive = sym c.is_alive.ensures ∙ c.if-not-is_alive.false in
    stays a.program.now before c.requires (to_delete (given_rows a.program.now) a.id) refl _
    (delete_done a.program.now before a.id c.requires c.if-scalars-ne0.false alive _ _ r.ensures.removed r.ensures.counted)
