-- A row in its place that fits there passes; its columns are then in range.
use mathlib.Core.List.{[]}
use Rattle.std.proofs.lemmas.Option.{IfSome_then}
use Rattle.rows.proofs.Standing.{low_begun}
use Rattle.rows.proofs.Passing.{quick_passes, row_in_range}
use Rattle.rows.proofs.quick.quick_row.Goals as goal

pub in_set_0-requires : goal.in_set_0-requires
in_set_0-requires c = (
  low_begun _ _ _ _ _ c.requires (c.follows.ensures c.if-not-follows.false 512 _ []) (c.begun-t.ensures 512 []),
  c.if-r-eq0.true,
  (c.is_bounded.ensures c.if-not-is_bounded.false).p,
)

pub returns-then-r-eq0-clause-passed : goal.returns-then-r-eq0-clause-passed
returns-then-r-eq0-clause-passed c =
    IfSome_then c.in_set_0.result c.in_set_0.ensures (λ u fits. (
      row_in_range _ _ _ _ (c.is_bounded.ensures c.if-not-is_bounded.false) (c.follows.ensures c.if-not-follows.false 0 [] []) (fits 0 []),
      λ k few. quick_passes _ _ _ _ few (c.follows.ensures c.if-not-follows.false k _ _) (c.begun-t.ensures k _) (fits k _),
    ))

pub in_rule-requires : goal.in_rule-requires
in_rule-requires c = (
  low_begun _ _ _ _ _ c.requires (c.follows.ensures c.if-not-follows.false 512 _ []) (c.begun-t.ensures 512 []),
  c.if-r-eq0.false,
)

pub returns-clause-passed : goal.returns-clause-passed
returns-clause-passed c =
    IfSome_then c.in_rule.result c.in_rule.ensures (λ u fits. (
      row_in_range _ _ _ _ (c.is_bounded.ensures c.if-not-is_bounded.false) (c.follows.ensures c.if-not-follows.false 0 [] []) (fits 0 []),
      λ k few. quick_passes _ _ _ _ few (c.follows.ensures c.if-not-follows.false k _ _) (c.begun-t.ensures k _) (fits k _),
    ))
