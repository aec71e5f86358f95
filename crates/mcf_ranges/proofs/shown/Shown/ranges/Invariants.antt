use Rattle.std.proofs.Common.{take}
use Rattle.std.specs.List.{AllZip}
use Rattle.mcf_ranges.specs.Ranges.{IsCostRange, IsShownInRange}
use Rattle.mcf_ranges.proofs.shown.Shown.ranges.Given as goal

abbrev pub invariant-loop-k : goal.invariant-loop-k
invariant-loop-k l =
    AllZip (IsCostRange l.fn.self.network l.fn.self.flow) (take l.k-index l.arcs) l.ranges.items
    × AllZip (IsShownInRange l.fn.self.network l.fn.self.flow) (take l.k-index l.arcs) l.ranges.items
