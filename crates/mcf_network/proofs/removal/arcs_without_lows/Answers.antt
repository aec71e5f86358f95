use Rattle.std.proofs.Common.{◌≡◌, ◌<◌, length, arith, rules, to_z, of_z}
use mir.Syntax.{w128}
use Rattle.std.proofs.lemmas.Int.{ints}
use Rattle.mcf_network.proofs.RemovalLaws.{arc_of, left_end, left_entry_small, left_next, left_start, stored_next}
use Rattle.mcf_network.proofs.removal.arcs_without_lows.Goals as goal

pub loop-i-init : goal.loop-i-init
loop-i-init c = record { are_stored = record { arcs = search rules; widths_fit = search rules }; left_are = left_start c.args.instance.now c.args.left.now.items c.requires }

pub move_surplus-requires-clause-from : goal.move_surplus-requires-clause-from
move_surplus-requires-clause-from c =
    let g = c.args.instance.now in
    let h : c.loop-i.i < length g.arcs = omega (arith, c.loop-i-test.true, c.arc_count-count.ensures.value) in
    let is = rw c.at.ensures at c.arc-a.ensures.value in
    let a = arc_of g c.loop-i.i c.arc-a.result c.arc-a.ensures.well_formed h is in
    omega (arith, a.ends.src_is_node, c.loop-i.invariant.left_are.count)

pub move_surplus-requires-clause-to : goal.move_surplus-requires-clause-to
move_surplus-requires-clause-to c =
    let g = c.args.instance.now in
    let h : c.loop-i.i < length g.arcs = omega (arith, c.loop-i-test.true, c.arc_count-count.ensures.value) in
    let is = rw c.at.ensures at c.arc-a.ensures.value in
    let a = arc_of g c.loop-i.i c.arc-a.result c.arc-a.ensures.well_formed h is in
    omega (arith, a.ends.dst_is_node, c.loop-i.invariant.left_are.count)

pub move_surplus-requires-clause-x : goal.move_surplus-requires-clause-x
move_surplus-requires-clause-x c =
    let g = c.args.instance.now in
    let h : c.loop-i.i < length g.arcs = omega (arith, c.loop-i-test.true, c.arc_count-count.ensures.value) in
    let is = rw c.at.ensures at c.arc-a.ensures.value in
    let a = arc_of g c.loop-i.i c.arc-a.result c.arc-a.ensures.well_formed h is in
    omega (arith, ints, a.within.low_small)

pub move_surplus-requires-clause-each : goal.move_surplus-requires-clause-each
move_surplus-requires-clause-each c v hv =
    let count : c.loop-i.i < length c.args.instance.now.arcs = omega (arith, c.loop-i-test.true, c.arc_count-count.ensures.value) in
    left_entry_small c.args.instance.now c.loop-i.i v c.loop-i.left.items c.arc-a.ensures.well_formed c.loop-i.invariant.left_are (omega (arith, count)) hv

pub without_low-width-requires : goal.without_low-width-requires
without_low-width-requires c =
    let g = c.args.instance.now in
    let h : c.loop-i.i < length g.arcs = omega (arith, c.loop-i-test.true, c.arc_count-count.ensures.value) in
    (arc_of g c.loop-i.i c.arc-a.result c.arc-a.ensures.well_formed h (rw c.at.ensures at c.arc-a.ensures.value)).within

pub loop-i-preserved : goal.loop-i-preserved
loop-i-preserved c =
    let g = c.args.instance.now in
    let h : c.loop-i.i < length g.arcs = omega (arith, c.loop-i-test.true, c.arc_count-count.ensures.value) in
    let is = rw c.at.ensures at c.arc-a.ensures.value in
    let a = arc_of g c.loop-i.i c.arc-a.result c.arc-a.ensures.well_formed h is in
    let same : to_z w128 (of_z w128 c.arc-a.result.low) ≡ c.arc-a.result.low = omega (arith, ints, a.within.low_small) in
    record {
      are_stored = stored_next g c.loop-i.i c.arc-a.result c.without_low-width.result.0 c.without_low-width.result.1 c.loop-i.links.items c.push.new.self.items
          c.loop-i.widths.items c.put_width.new.widths.items c.loop-i.invariant.are_stored h a.is c.without_low-width.ensures (search rules) (search rules);
      left_are = left_next g c.loop-i.i c.arc-a.result c.loop-i.left.items c.move_surplus.new.surpluses.items c.loop-i.invariant.left_are h is
          c.move_surplus.ensures.length (λ v hv. rw same at (c.move_surplus.ensures.each v hv));
    }

pub returns-clause-left : goal.returns-clause-left
returns-clause-left c =
    left_end c.args.instance.now c.loop-i.i c.loop-i.left.items c.loop-i.invariant.left_are
    (omega (arith, c.loop-i-test.false, c.loop-i.auto, c.arc_count-count.ensures.value))
