use Rattle.std.proofs.Common.{◌≡◌, ◌-◌, ◌<◌, arith, false, length, get_or}
use Rattle.std.proofs.lemmas.List.{get_or_read}
use Rattle.mcf_network.proofs.node_set.NodeSet.contains.Goals as goal

pub returns : goal.returns
returns c =
    let marks = c.self.inside.marks.items in
    let here : c.args.v - 1 < length marks = rw c.self.view_is (omega (arith, c.requires)) in
    let read : c.index.result.now ≡ get_or marks (c.args.v - 1) false = get_or_read marks (c.args.v - 1) _ here (rw c.place.ensures at c.index.ensures) false in
    rw c.self.view_is at read
