use Rattle.std.proofs.Common.{◌≡◌, arith, false, length, rules, sym}
use Rattle.std.proofs.lemmas.List.{length-replicate}
use Rattle.mcf_network.specs.NodeSets.{no_nodes}
use Rattle.mcf_network.proofs.Marks.{count_none}
use Rattle.mcf_network.proofs.node_set.NodeSet.clear.Goals as goal

pub returns : goal.returns
returns c =
    let marks = c.self.inside.marks.items in
    let none : c.fill.new.self.items ≡ no_nodes (length marks) = search rules in
    rw (← c.self.view_is) none

pub invariant_of-self : goal.invariant_of-self
invariant_of-self c =
    let marks = c.self.inside.marks.items in
    let none : c.fill.new.self.items ≡ no_nodes (length marks) = search rules in
    rw none (omega (arith, length-replicate (length marks) false, c.self.invariant.0), sym (count_none (length marks)))
