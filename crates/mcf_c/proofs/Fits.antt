-- A feasible flow fits 64 bits.
use Rattle.std.proofs.Common.{◌<◌, ◌^◌, List, length, ℤ, pos, arith}
use Rattle.std.specs.Int.{w64}
use Rattle.std.specs.List.{All}
use Rattle.std.specs.Prelude.{FitsSigned}
use Rattle.std.proofs.lemmas.Int.{ints}
use Rattle.mcf_flows.specs.declared.arc.Arc.{Arc}
use Rattle.mcf_flows.specs.Flow.{CanCarry, IsFeasible}
use Rattle.mcf_flows.specs.Limits.{limits}
use Rattle.mcf_flows.specs.Network.{Network}
use Rattle.mcf_flows.specs.WellFormed.{IsWellFormed}
use Rattle.mcf_flows.proofs.AllZips.{AllZip-at, length-AllZip}

no_arc : Arc
no_arc = record { src = 0; dst = 0; low = pos 0; cap = pos 0; cost = pos 0 }

pub flow_fits : (g : Network) (flow : List ℤ) → IsWellFormed limits g → IsFeasible g flow → All (FitsSigned w64) flow
flow_fits g flow well feasible i d inside =
    let within = feasible.within_bounds in
    let long = length-AllZip CanCarry g.arcs flow within in
    let carried = AllZip-at CanCarry g.arcs flow i no_arc d within (omega (arith, inside, long)) in
    let arc = well.within.arcs i no_arc (omega (arith, inside, long)) in
    let low = arc.low_small in
    let cap = arc.cap_small in
    let small : limits.bound < 2 ^ 63 = omega arith in
    omega (arith, ints, low, cap, carried, small)
