use Rattle.std.proofs.Common.{◌≡◌, [], length}
use Rattle.mcf_scaling.specs.Private.Stars.{ArePositionsUpTo}
use Rattle.mcf_scaling.proofs.star.write_positions.Given as goal

abbrev pub invariant-positions : goal.invariant-positions
invariant-positions l =
    record {
      count : length l.positions.items ≡ length l.fn.positions.items;
      positions : ArePositionsUpTo (record { spans = []; outs = l.fn.outs; positions = l.positions.items }) l.i;
    }
