use Rattle.mcf_ranges.specs.Ranges.{IsCostRange, IsShownInRange}
use Rattle.mcf_ranges.proofs.Tasks.{one_range_more}
use Rattle.mcf_ranges.proofs.shown.Shown.ranges.Goals as goal

pub loop-k-preserved : goal.loop-k-preserved
loop-k-preserved c = (
  one_range_more (IsCostRange c.args.self.now.network c.args.self.now.flow) c.args.arcs.now c.loop-k.k-index c.k-item.result
      c.loop-k.ranges.items c.push.new.self.items c.in_ok-range.range c.loop-k-test.true c.k-item.is c.in_ok-push.ensures.items c.in_ok-range.ensures.exact
      c.loop-k.invariant.0,
  one_range_more (IsShownInRange c.args.self.now.network c.args.self.now.flow) c.args.arcs.now c.loop-k.k-index c.k-item.result
      c.loop-k.ranges.items c.push.new.self.items c.in_ok-range.range c.loop-k-test.true c.k-item.is c.in_ok-push.ensures.items c.in_ok-range.ensures.shown
      c.loop-k.invariant.1,
)
