use Rattle.std.proofs.Common.{ℕ, List, map, subst}
use Rattle.std.specs.Borrow.{Bor}
use Rattle.mcf_names.specs.Private.Index.{ArePlaced}
use Rattle.mcf_names.proofs.IndexLemmas.{placed_sorted}
use Rattle.mcf_names.proofs.names.Names.of.Goals as goal

pub invariant_of-result : goal.invariant_of-result
invariant_of-result c =
    let placed =
    subst (λ (items : List (Bor (List ℕ))). ArePlaced (map (λ name. name.now) items) c.in_ok-sorted.sorted.items) c.deref.ensures.value
    c.in_ok-sorted.ensures in
    record {
      placed = placed_sorted (map (λ name. name.now) c.args.names.items) c.in_ok-sorted.sorted.items c.sort_unstable.new.self.items
          c.sort_unstable.ensures.permutation placed;
      ordered = c.sort_unstable.ensures.sorted;
    }
