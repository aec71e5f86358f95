use Rattle.std.proofs.Common.{◌∙◌, ◌-◌, ◌<◌, arith, false, true, length, length-set, refl, sym}
use Rattle.std.proofs.lemmas.List.{get_or_read}
use Rattle.mcf_network.proofs.Marks.{counted_new}
use Rattle.mcf_network.proofs.node_set.NodeSet.insert.Goals as goal

pub invariant_of-self : goal.invariant_of-self
invariant_of-self c =
    let marks = c.self.inside.marks.items in
    let here : c.args.v - 1 < length marks = rw c.self.view_is (omega (arith, c.requires)) in
    let read = get_or_read marks (c.args.v - 1) c.index.result.now here (rw c.place-k.ensures at c.index.ensures) false in
    let one = counted_new marks c.args.v (rw c.self.view_is c.requires) (sym read ∙ c.if-not-index.true) in
    rw c.place-k.ensures (omega (arith, length-set marks (c.args.v - 1) true, c.self.invariant.0), omega (arith, one, c.self.invariant.1))

pub returns-then-not-index : goal.returns-then-not-index
returns-then-not-index c = rw (c.place-k.ensures, c.self.view_is) refl
