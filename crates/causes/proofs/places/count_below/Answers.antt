use Rattle.std.proofs.Common.{ltb, rules}
use Rattle.std.proofs.lemmas.List.Sorted.{IsPartitionPoint-from_clause, IsPartitionedBy-ltb}
use Rattle.causes.proofs.PositionLemmas.{below_point}
use Rattle.causes.proofs.places.count_below.Goals as goal

pub returns : goal.returns
returns c =
    let parted = IsPartitionedBy-ltb (λ place. place) c.args.places.now c.args.at c.requires in
    let point = IsPartitionPoint-from_clause (λ place. ltb place c.args.at) _ _ c.partition_point.ensures.partitioned parted (λ a r q k. search rules) in
    below_point c.args.places.now c.partition_point.result c.args.at c.partition_point.ensures.bound point
