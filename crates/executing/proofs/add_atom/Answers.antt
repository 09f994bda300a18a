use Rattle.executing.proofs.After.{due_added}
use Rattle.executing.proofs.add_atom.Goals as goal

pub done-requires : goal.done-requires
done-requires c =
    let m = c.append_atom-made in
    due_added _ _ _ c.requires _ _ m.ensures.counted c.in_ok-room_for_atom.ensures _ _ _ m.ensures.made
