use Rattle.std.proofs.Common.{◌∙◌, ap, sym}
use Rattle.mcf_flows.specs.declared.arc.Arc.{Arc}
use Rattle.mcf_network.specs.Private.StoredLinks.{links_in, no_link}
use Rattle.mcf_network.proofs.ArcLaws.{link_in_range, stored_arc_at}
use Rattle.mcf_network.proofs.net.Net.ends.Goals as goal

pub get-link-requires : goal.get-link-requires
get-link-requires c =
    let n = c.self.inside in
    rw c.place.ensures (link_in_range c.args.self.now n.problem (links_in n.links) n.widths.items n.supplies.items c.args.k c.self.view_is c.requires)

pub returns : goal.returns
returns c =
    let n = c.self.inside in
    let a = stored_arc_at c.args.self.now n.problem (links_in n.links) n.widths.items n.supplies.items c.args.k no_link c.self.view_is c.self.invariant.0 c.requires in
    let src = rw (c.get-link.ensures, c.place.ensures) at c.new.ensures in
    let dst = rw (c.get-link.ensures, c.place.ensures) at c.new-2.ensures in
    record {
      src = src ∙ sym (ap (λ (x : Arc). x.src) a.is);
      dst = dst ∙ sym (ap (λ (x : Arc). x.dst) a.is);
      src_is_node = rw src a.ends.src_is_node;
      dst_is_node = rw dst a.ends.dst_is_node;
    }
