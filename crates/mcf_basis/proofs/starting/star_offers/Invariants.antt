use Rattle.std.proofs.Common.{◌≡◌, ◌≤◌, map, vec_capacity, vec_len}
use Rattle.std.specs.List.{range_with_len}
use Rattle.mcf_basis.proofs.StarBases.{star_offer}
use Rattle.mcf_basis.proofs.starting.star_offers.Given as goal

abbrev pub invariant-loop-i : goal.invariant-loop-i
invariant-loop-i l =
    record {
      offers : l.made.items ≡ map (star_offer l.net) (range_with_len 1 l.i);
      size : vec_len l.made ≡ l.i;
      room : l.count ≤ vec_capacity l.made;
    }
