-- `script::in_fours` meets its contract.
use mathlib.Core.Path.{refl}
use Prim.Native.Nat.{◌-◌, ◌%◌}
use lib.ListN.{length}
use Rattle.script.specs.Reading.{whole_rows}
use Rattle.script.proofs.Passing.{short_row, short_within}
use borrow.Author.Rules.{rules}
use Rattle.script.proofs.in_fours.Goals as goal

pub returns-then-over-eq0 : goal.returns-then-over-eq0
returns-then-over-eq0 c = record { within = c.numbers-found.ensures.within; read = whole_rows c.spaces-there.ensures c.if-over-eq0.true c.numbers-found.ensures.read }

pub returns : goal.returns
returns c = rw c.cut_short.ensures (record { within = short_within (length c.args.line.now) (c.spaces-there.result - c.spaces-there.result % 4) (c.spaces-there.result % 4) c.numbers-found.result c.numbers-found.ensures.within; read = short_row c.spaces-there.ensures refl c.if-over-eq0.false _ c.numbers-found.ensures.read })
