use Rattle.std.proofs.Common.{rules}
use Rattle.rows.proofs.Scans.{begun_small}
use Rattle.rows.proofs.take_row.Goals as goal

pub taken-requires : goal.taken-requires
taken-requires c = let a = c.args in begun_small a.s c.begun-t.result a.ceilings.now a.r (search rules) (c.begun-t.ensures a.ceilings.now) c.requires.0 (search rules)
