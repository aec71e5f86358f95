use Rattle.std.proofs.Common.{ap, sym, ◌∙◌}
use Rattle.mcf_basis.specs.Structures.{TreeStructure}
use Rattle.mcf_basis.proofs.Endings.{can_be_written, flow_written}
use Rattle.mcf_basis.proofs.basis.Basis.write_flow.Goals as goal

pub write_outside-requires-clause-net : goal.write_outside-requires-clause-net
write_outside-requires-clause-net c = c.requires ∙ ap (λ (b : TreeStructure). b.net) (sym c.self.view_is)

pub write_tree-requires-clause-size : goal.write_tree-requires-clause-size
write_tree-requires-clause-size c = rw c.write_outside.ensures.net (can_be_written _ c.self.invariant).size

pub write_tree-requires-clause-low : goal.write_tree-requires-clause-low
write_tree-requires-clause-low c = rw c.write_outside.ensures.net (can_be_written _ c.self.invariant).low

pub write_tree-requires-clause-apart : goal.write_tree-requires-clause-apart
write_tree-requires-clause-apart c = rw c.write_outside.ensures.net (can_be_written _ c.self.invariant).apart

pub returns-clause-value : goal.returns-clause-value
returns-clause-value c =
    let outside = rw c.deref.ensures.value at c.write_outside.ensures.each in
    let written = rw (c.write_outside.ensures.net, c.deref-2.ensures.value) at c.write_tree.ensures in
    flow_written _ _ c.write_outside.new.state c.write_tree.new.state c.self.view_is c.self.invariant (record {
      flow = written.valid;
      net = written.net;
      outside = outside;
      inside = written.inside;
      others = written.outside;
    })

pub returns-clause-valid : goal.returns-clause-valid
returns-clause-valid c = c.write_tree.ensures.valid
