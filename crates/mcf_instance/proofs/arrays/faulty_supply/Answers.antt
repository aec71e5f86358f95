use Rattle.std.proofs.Common.{◌≡◌, ◌∙◌, ap, sym, rules, to_z, of_z, get_or, true, false, ℤ}
use Rattle.std.specs.Prelude.{pos}
use mir.Syntax.{w64}
use Rattle.std.proofs.lemmas.Int.{to_z-of_z}
use Rattle.mcf_instance.specs.Fault.{is_up_to}
use Rattle.mcf_flows.specs.Limits.{limits}
use Rattle.mcf_instance.proofs.ArrayFaults.{supply_none, supply_some}
use Rattle.mcf_instance.proofs.arrays.faulty_supply.Goals as goal

pub loop-place-preserved : goal.loop-place-preserved
loop-place-preserved c =
    let z : ℤ = get_or c.args.supplies.now c.loop-place.place (pos 0) in
    let read : to_z w64 (of_z w64 z) ≡ z = search (rules, to_z-of_z) in
    let fine : is_up_to limits.supply z ≡ true = ap (is_up_to limits.supply) (sym read) ∙ sym c.is_up_to.ensures ∙ c.if-not-is_up_to.false in
    supply_none _ c.loop-place.place (pos 0) c.loop-place-test.true c.loop-place.invariant fine

pub returns-then-not-is_up_to : goal.returns-then-not-is_up_to
returns-then-not-is_up_to c =
    let z : ℤ = get_or c.args.supplies.now c.loop-place.place (pos 0) in
    let read : to_z w64 (of_z w64 z) ≡ z = search (rules, to_z-of_z) in
    let far : is_up_to limits.supply z ≡ false = ap (is_up_to limits.supply) (sym read) ∙ sym c.is_up_to.ensures ∙ c.if-not-is_up_to.true in
    rw c.new.ensures (supply_some _ c.loop-place.place (pos 0) c.loop-place-test.true c.loop-place.invariant far)
