use Rattle.std.proofs.Common.{◌≡◌, ◌<◌, ℕ, length, slice_index_or}
use Rattle.mcf_engine.proofs.shortlist.clear_heads.Given as goal

abbrev pub invariant-nodes : goal.invariant-nodes
invariant-nodes l =
    record {
      count : length l.heads.items ≡ length l.fn.heads.items;
      zero : (i : ℕ) → i < l.i → slice_index_or l.heads.items i 0 ≡ 0;
    }
