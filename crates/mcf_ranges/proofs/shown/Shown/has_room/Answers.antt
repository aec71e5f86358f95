use Rattle.std.proofs.Common.{ap, sym, subst, arith, pos, get_or}
use Rattle.mcf_flows.specs.Network.{IsArcNumber}
use Rattle.mcf_ranges.specs.Private.Shown.{ShownFlow}
use Rattle.mcf_ranges.proofs.Tasks.{flow_count, read_flow, tests_back, tests_forward}
use Rattle.mcf_ranges.proofs.shown.Shown.has_room.Goals as goal

pub bounds-self-inside-place : goal.bounds-self-inside-place
bounds-self-inside-place c =
    let s : ShownFlow = record { network = c.self.inside.instance.now; flow = c.self.inside.flow.now; prices = c.self.inside.prices.now } in
    let h : IsArcNumber s.network c.args.r.arc = subst (λ (x : ShownFlow). IsArcNumber x.network c.args.r.arc) (sym c.self.view_is) c.requires in
    omega (arith, h, c.place.ensures, flow_count s c.self.invariant.shown)

pub returns-then-r : goal.returns-then-r
returns-then-r c =
    let s : ShownFlow = record { network = c.self.inside.instance.now; flow = c.self.inside.flow.now; prices = c.self.inside.prices.now } in
    let h : IsArcNumber s.network c.args.r.arc = subst (λ (x : ShownFlow). IsArcNumber x.network c.args.r.arc) (sym c.self.view_is) c.requires in
    let f = get_or s.flow c.place.result (pos 0) in
    let read = read_flow s c.args.r.arc c.arc-arc.result f c.self.invariant.shown h c.arc-arc.ensures.value (ap (λ i. get_or s.flow i (pos 0)) c.place.ensures) in
    rw (← c.self.view_is) (tests_back s c.args.r c.arc-arc.result f read c.if-r.true)

pub returns-else-r : goal.returns-else-r
returns-else-r c =
    let s : ShownFlow = record { network = c.self.inside.instance.now; flow = c.self.inside.flow.now; prices = c.self.inside.prices.now } in
    let h : IsArcNumber s.network c.args.r.arc = subst (λ (x : ShownFlow). IsArcNumber x.network c.args.r.arc) (sym c.self.view_is) c.requires in
    let f = get_or s.flow c.place.result (pos 0) in
    let read = read_flow s c.args.r.arc c.arc-arc.result f c.self.invariant.shown h c.arc-arc.ensures.value (ap (λ i. get_or s.flow i (pos 0)) c.place.ensures) in
    rw (← c.self.view_is) (tests_forward s c.args.r c.arc-arc.result f read c.if-r.false)
