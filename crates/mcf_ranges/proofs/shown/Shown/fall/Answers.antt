use Rattle.std.proofs.Common.{ap, ◌∙◌, subst, refl, arith, pos, ◌<ℤ◌, false, Some, None, Option, IfSome, ℤ}
use Rattle.std.proofs.lemmas.Int.{ints}
use Rattle.mcf_flows.specs.WellFormed.{IsUpTo}
use Rattle.mcf_network.proofs.StateLaws.{rid}
use Rattle.mcf_ranges.specs.Private.Distances.{IsDistance, room_in}
use Rattle.mcf_ranges.specs.Private.Searches.{distance_limit}
use Rattle.mcf_ranges.proofs.Tasks.{is_fall, net_dst, net_nodes, net_number, net_src}
use Rattle.mcf_ranges.proofs.shown.Shown.fall.Goals as goal

pub ends-to-requires : goal.ends-to-requires
ends-to-requires c = net_number c.args.self.now.network c.net.result.now c.args.k c.net.ensures.value c.requires

pub invariant_of-search : goal.invariant_of-search
invariant_of-search c =
    let g = c.args.self.now.network in
    let count = net_nodes g c.net.result.now c.net.ensures.value in
    let from = c.ends-to.ensures.dst_is_node in
    let to = c.ends-to.ensures.src_is_node in
    record { from_is_node = (from.0, omega (arith, from, count)); to_is_node = (to.0, omega (arith, to, count)) }

pub returns-in-Some : goal.returns-in-Some
returns-in-Some c =
    let s = c.args.self.now in
    let room : pos 0 <ℤ room_in s.network s.flow (rid c.args.k false) = c.has_room.ensures.0 c.if-not-has_room.false in
    let from = c.ends-to.ensures.dst ∙ net_dst s.network c.net.result.now c.args.k c.net.ensures.value c.requires in
    let to = c.ends-to.ensures.src ∙ net_src s.network c.net.result.now c.args.k c.net.ensures.value c.requires in
    let distance = subst (λ (o : Option ℤ). IsDistance s.network s.flow s.prices c.args.k c.ends-to.result.1 c.ends-to.result.0 o) c.in-Some.is c.in_ok-distance.ensures.value in
    let bound = subst (λ (o : Option ℤ). IfSome o (IsUpTo distance_limit)) c.in-Some.is c.in_ok-distance.ensures.small in
    is_fall s c.args.k c.ends-to.result.1 c.ends-to.result.0 (Some c.in-Some.distance) _ room from to distance
    (ap (λ (z : ℤ). Some z) (omega (arith, ints, bound, c.reduced_cost-reduced.ensures.small, c.reduced_cost-reduced.ensures.value)))

pub returns-in-None : goal.returns-in-None
returns-in-None c =
    let s = c.args.self.now in
    let room : pos 0 <ℤ room_in s.network s.flow (rid c.args.k false) = c.has_room.ensures.0 c.if-not-has_room.false in
    let from = c.ends-to.ensures.dst ∙ net_dst s.network c.net.result.now c.args.k c.net.ensures.value c.requires in
    let to = c.ends-to.ensures.src ∙ net_src s.network c.net.result.now c.args.k c.net.ensures.value c.requires in
    let distance = subst (λ (o : Option ℤ). IsDistance s.network s.flow s.prices c.args.k c.ends-to.result.1 c.ends-to.result.0 o) c.in-None.is c.in_ok-distance.ensures.value in
    is_fall s c.args.k c.ends-to.result.1 c.ends-to.result.0 None None room from to distance refl
