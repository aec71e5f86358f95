use Rattle.mcf_ranges.proofs.RangeLaws.{is_cost_range, is_shown_in_range}
use Rattle.mcf_ranges.proofs.shown.Shown.range.Goals as goal

pub returns-clause-exact : goal.returns-clause-exact
returns-clause-exact c =
    let s = c.args.self.now in
    let shown = c.net-net.ensures.shown in
    is_cost_range s.network s.flow s.prices c.args.k shown.well_formed.ends shown.feasible shown.shows c.requires c.in_ok-down.down c.in_ok-up.up
    c.in_ok-up.ensures c.in_ok-down.ensures

pub returns-clause-shown : goal.returns-clause-shown
returns-clause-shown c =
    let s = c.args.self.now in
    let shown = c.net-net.ensures.shown in
    is_shown_in_range s.network s.flow s.prices c.args.k shown.well_formed.ends shown.feasible shown.shows c.requires c.in_ok-down.down c.in_ok-up.up
    c.in_ok-up.ensures c.in_ok-down.ensures
