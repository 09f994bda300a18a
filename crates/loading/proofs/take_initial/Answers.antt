-- A row that is no initial atom adds nothing; one that is has its atom appended.
use Rattle.loading.proofs.Initial.{rule_row_taken, ceiling_taken, atom_room, atom_taken}
use Rattle.loading.proofs.take_initial.Goals as goal

pub returns-then-r-ne0 : goal.returns-then-r-ne0
returns-then-r-ne0 c = rule_row_taken c.requires c.if-r-ne0.true

pub returns-then-r-ne41 : goal.returns-then-r-ne41
returns-then-r-ne41 c = ceiling_taken c.requires c.if-r-ne0.false c.if-r-ne41.true

pub append_atom-requires : goal.append_atom-requires
append_atom-requires c = atom_room c.requires c.if-r-ne0.false c.if-r-ne41.false

pub returns : goal.returns
returns c = atom_taken c.requires c.if-r-ne0.false c.if-r-ne41.false c.constant.ensures c.constant-2.ensures c.append_atom.ensures.counted c.append_atom.ensures.made
