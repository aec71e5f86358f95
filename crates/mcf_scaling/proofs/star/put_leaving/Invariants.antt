use Rattle.mcf_scaling.proofs.StarLaws.{IsListing}
use Rattle.mcf_scaling.proofs.star.put_leaving.Given as goal

abbrev pub invariant-leaving : goal.invariant-leaving
invariant-leaving l =
    record {
      can_next : (goal.iterator-leaving).can_next l.leaving-iterator;
      is_finite : (goal.iterator-leaving).is_finite l.leaving-iterator;
      listing : IsListing l.fn.net l.fn.v l.fn.outs.items l.outs.items l.leaving-iterator;
    }
