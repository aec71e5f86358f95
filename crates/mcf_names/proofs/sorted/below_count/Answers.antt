use Rattle.std.proofs.Common.{rules}
use Rattle.std.proofs.lemmas.List.Sorted.{IsPartitionPoint-from_clause}
use Rattle.mcf_names.specs.Private.Index.{is_below}
use Rattle.mcf_names.proofs.OrderLemmas.{partitioned}
use Rattle.mcf_names.proofs.sorted.below_count.Goals as goal

pub returns : goal.returns
returns c =
    IsPartitionPoint-from_clause (is_below c.args.name.now) _ _ c.partition_point.ensures.partitioned
    (partitioned c.args.sorted.now c.args.name.now c.requires) (λ a r q k. search rules)
