use Rattle.causes.proofs.tested.Goals as goal

pub returns : goal.returns
returns c = record {
  ordered = c.in_ok-order.ensures;
  kind = c.in_ok-kind.ensures;
  stands = c.in_ok-standing.ensures;
  unused = c.in_ok-not_zero.ensures;
  given = c.in_ok-no_value.ensures;
  used = c.in_ok-used.ensures;
  new = c.in_ok-not_new.ensures;
  constants = c.in_ok-constants.ensures;
}
