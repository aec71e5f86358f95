use Rattle.std.proofs.Common.{arith}
use Rattle.mcf_network.specs.declared.rid.Rid.{Rid}
use Rattle.std.proofs.Common.{false}
use Rattle.mcf_cancel.proofs.price_search.PriceSearch.close.Goals as goal

pub unreachable-requires : goal.unreachable-requires
unreachable-requires c =
    let k = c.requires.leaves.0 in
    let d : Rid = record { arc = 0; back = false } in
    let h = c.requires.leaves.1 in
    let test = c.path-test.false in
    c.path.invariant k d (omega (arith, h, test)) (c.requires.leaves.2 d)
