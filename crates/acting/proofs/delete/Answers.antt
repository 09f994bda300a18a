use Rattle.acting.proofs.Workable.{workable_deleted}
use Rattle.acting.proofs.delete.Goals as goal

pub returns-clause-workable : goal.returns-clause-workable
returns-clause-workable c =
    let r = c.remove-r in
    workable_deleted c.args.words.now r.new.words c.args.scalars r.result.scalars c.requires c.args.id r.result.gone r.ensures.sound r.ensures.removed r.ensures.counted
