use borrow.Author.Rules.{rules}
use Rattle.std.proofs.lemmas.List.Sorted.{IsPartitionPoint-from_clause}
use Rattle.spans.proofs.Halves.{stands, parted, point_bounds}
use Rattle.spans.proofs.first_from.Goals as goal

pub returns : goal.returns
returns c =
    let a = c.args in
    point_bounds a.program.now a.set a.rule a.part c.partition_point.result (search rules)
    (IsPartitionPoint-from_clause (stands a.program.now a.set a.rule a.part) _ _ (rw c.as_chunks.ensures.front at c.partition_point.ensures.partitioned) (parted a.program.now a.set a.rule a.part c.requires) (λ x b f' k. search rules))
