use Rattle.std.proofs.Common.{◌≡◌, ◌+◌, ◌+ℤ◌, arith, length, map, rules, take, ℤ}
use Rattle.std.specs.Int.{w64, w128}
use Rattle.std.specs.Prelude.{FitsSigned}
use Rattle.std.proofs.lemmas.Int.{to_z-of_z}
use Rattle.std.proofs.lemmas.List.{length-map, take_all}
use Rattle.mcf_flows.specs.Blocking.{in_table, leaves, enters}
use Rattle.mcf_flows.specs.declared.arc.Arc.{Arc}
use Rattle.mcf_flows.specs.Limits.{limits}
use Rattle.mcf_flows.specs.Network.{arc_sum}
use Rattle.mcf_flows.specs.Packed.{unpacked}
use Rattle.mcf_flows.specs.WellFormed.{HasEnds, IsArcWithinLimits}
use Rattle.mcf_flows.proofs.PackedArcs.{packed_at, packed_caps_up_to, packed_lows_up_to, packed_sum_next}
use Rattle.mcf_flows.proofs.blocking.border_of.Goals as goal

pub enters_set-entering-requires : goal.enters_set-entering-requires
enters_set-entering-requires c =
    packed_at (HasEnds (length c.args.table.now)) c.args.arcs.now c.loop-place.place c.get-arc.result c.requires.ends c.get-arc.ensures

pub leaves_set-leaving-requires : goal.leaves_set-leaving-requires
leaves_set-leaving-requires c =
    packed_at (HasEnds (length c.args.table.now)) c.args.arcs.now c.loop-place.place c.get-arc.result c.requires.ends c.get-arc.ensures

pub add_when-low_in-requires-clause-total : goal.add_when-low_in-requires-clause-total
add_when-low_in-requires-clause-total c =
    rw c.loop-place.invariant.low_in (packed_lows_up_to (enters (in_table c.args.table.now)) c.args.arcs.now c.loop-place.place c.requires.small
    c.requires.count (omega arith))

pub add_when-cap_in-requires-clause-total : goal.add_when-cap_in-requires-clause-total
add_when-cap_in-requires-clause-total c =
    rw c.loop-place.invariant.cap_in (packed_caps_up_to (enters (in_table c.args.table.now)) c.args.arcs.now c.loop-place.place c.requires.small
    c.requires.count (omega arith))

pub add_when-low_out-requires-clause-total : goal.add_when-low_out-requires-clause-total
add_when-low_out-requires-clause-total c =
    rw c.loop-place.invariant.low_out (packed_lows_up_to (leaves (in_table c.args.table.now)) c.args.arcs.now c.loop-place.place c.requires.small
    c.requires.count (omega arith))

pub add_when-cap_out-requires-clause-total : goal.add_when-cap_out-requires-clause-total
add_when-cap_out-requires-clause-total c =
    rw c.loop-place.invariant.cap_out (packed_caps_up_to (leaves (in_table c.args.table.now)) c.args.arcs.now c.loop-place.place c.requires.small
    c.requires.count (omega arith))

pub add_when-low_in-requires-clause-amount : goal.add_when-low_in-requires-clause-amount
add_when-low_in-requires-clause-amount c =
    let a = packed_at (IsArcWithinLimits limits) c.args.arcs.now c.loop-place.place c.get-arc.result c.requires.small c.get-arc.ensures in
    let low_fits : FitsSigned w64 c.get-arc.result.low = search rules in
    simp to_z-of_z a.low_small

pub add_when-cap_in-requires-clause-amount : goal.add_when-cap_in-requires-clause-amount
add_when-cap_in-requires-clause-amount c =
    let a = packed_at (IsArcWithinLimits limits) c.args.arcs.now c.loop-place.place c.get-arc.result c.requires.small c.get-arc.ensures in
    let cap_fits : FitsSigned w64 c.get-arc.result.cap = search rules in
    simp to_z-of_z a.cap_small

pub add_when-low_out-requires-clause-amount : goal.add_when-low_out-requires-clause-amount
add_when-low_out-requires-clause-amount c =
    let a = packed_at (IsArcWithinLimits limits) c.args.arcs.now c.loop-place.place c.get-arc.result c.requires.small c.get-arc.ensures in
    let low_fits : FitsSigned w64 c.get-arc.result.low = search rules in
    simp to_z-of_z a.low_small

pub add_when-cap_out-requires-clause-amount : goal.add_when-cap_out-requires-clause-amount
add_when-cap_out-requires-clause-amount c =
    let a = packed_at (IsArcWithinLimits limits) c.args.arcs.now c.loop-place.place c.get-arc.result c.requires.small c.get-arc.ensures in
    let cap_fits : FitsSigned w64 c.get-arc.result.cap = search rules in
    simp to_z-of_z a.cap_small

pub loop-place-preserved : goal.loop-place-preserved
loop-place-preserved c =
    let next : (t : Arc → ℤ) → arc_sum t (take (c.loop-place.place + 1) (map unpacked c.args.arcs.now)) ≡ arc_sum t
    (take c.loop-place.place (map unpacked c.args.arcs.now)) +ℤ t (unpacked c.get-arc.result) =
    λ t. packed_sum_next t c.args.arcs.now c.loop-place.place c.get-arc.result c.get-arc.ensures in
    let before = c.loop-place.invariant in
    let low_in_fits : FitsSigned w128 c.add_when-low_in.result = search rules in
    let cap_in_fits : FitsSigned w128 c.add_when-cap_in.result = search rules in
    let low_out_fits : FitsSigned w128 c.add_when-low_out.result = search rules in
    let cap_out_fits : FitsSigned w128 c.add_when-cap_out.result = search rules in
    let low_fits : FitsSigned w64 c.get-arc.result.low = search rules in
    let cap_fits : FitsSigned w64 c.get-arc.result.cap = search rules in
    record {
      low_in = simp (next, to_z-of_z) (simp (to_z-of_z, before.low_in, c.enters_set-entering.ensures) at c.add_when-low_in.ensures);
      cap_in = simp (next, to_z-of_z) (simp (to_z-of_z, before.cap_in, c.enters_set-entering.ensures) at c.add_when-cap_in.ensures);
      low_out = simp (next, to_z-of_z) (simp (to_z-of_z, before.low_out, c.leaves_set-leaving.ensures) at c.add_when-low_out.ensures);
      cap_out = simp (next, to_z-of_z) (simp (to_z-of_z, before.cap_out, c.leaves_set-leaving.ensures) at c.add_when-cap_out.ensures);
    }

pub returns-clause-low_in : goal.returns-clause-low_in
returns-clause-low_in c =
    let arcs = map unpacked c.args.arcs.now in
    let n = length-map c.args.arcs.now unpacked in
    rw (take_all c.loop-place.place arcs (omega (arith, n, c.loop-place-test.false, c.len-place-end.ensures))) at c.loop-place.invariant.low_in

pub returns-clause-cap_in : goal.returns-clause-cap_in
returns-clause-cap_in c =
    let arcs = map unpacked c.args.arcs.now in
    let n = length-map c.args.arcs.now unpacked in
    rw (take_all c.loop-place.place arcs (omega (arith, n, c.loop-place-test.false, c.len-place-end.ensures))) at c.loop-place.invariant.cap_in

pub returns-clause-low_out : goal.returns-clause-low_out
returns-clause-low_out c =
    let arcs = map unpacked c.args.arcs.now in
    let n = length-map c.args.arcs.now unpacked in
    rw (take_all c.loop-place.place arcs (omega (arith, n, c.loop-place-test.false, c.len-place-end.ensures))) at c.loop-place.invariant.low_out

pub returns-clause-cap_out : goal.returns-clause-cap_out
returns-clause-cap_out c =
    let arcs = map unpacked c.args.arcs.now in
    let n = length-map c.args.arcs.now unpacked in
    rw (take_all c.loop-place.place arcs (omega (arith, n, c.loop-place-test.false, c.len-place-end.ensures))) at c.loop-place.invariant.cap_out

pub returns-clause-low_in_small : goal.returns-clause-low_in_small
returns-clause-low_in_small c =
    rw c.loop-place.invariant.low_in (packed_lows_up_to (enters (in_table c.args.table.now)) c.args.arcs.now c.loop-place.place c.requires.small
    c.requires.count (omega arith))

pub returns-clause-low_out_small : goal.returns-clause-low_out_small
returns-clause-low_out_small c =
    rw c.loop-place.invariant.low_out (packed_lows_up_to (leaves (in_table c.args.table.now)) c.args.arcs.now c.loop-place.place c.requires.small
    c.requires.count (omega arith))
