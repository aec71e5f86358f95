use Rattle.std.proofs.Common.{◌≡◌, ◌∙◌, ap, refl, subst, sym}
use Rattle.std.specs.Prelude.{not, slice_index_or}
use Rattle.mcf_flows.specs.Network.{Network, IsNode, node_count}
use Rattle.mcf_network.specs.Residual.{head}
use Rattle.mcf_engine.proofs.RaisingSteps.{tail_reversed}
use Rattle.mcf_engine.proofs.Shortlists.{put_one}
use Rattle.mcf_engine.proofs.shortlist.put_below.Goals as goal

pub returns : goal.returns
returns c passed done =
    let k = c.args.arc in
    let b = c.args.back in
    let head_is : c.route-to.result.1 ≡ head c.args.state.now.net (record { arc = k; back = b }) = c.route-to.ensures.head ∙ ap
    (λ (g : Network). head g (record { arc = k; back = b })) c.net.ensures.value in
    let node = subst (λ (g : Network). IsNode (node_count g) c.route-to.result.1) c.net.ensures.value c.route-to.ensures.head_is_node in
    put_one c.args.state.now passed c.args.heads.now.items c.push.new.heads.items c.args.entries.now.items c.push.new.entries.items
    (record { arc = k; back = not b; next = slice_index_or c.args.heads.now.items c.place.result 0 }) (record { arc = k; back = b }) c.route-to.result.1
    c.place.result c.requires.chains node (tail_reversed c.args.state.now.net k b ∙ sym head_is) c.requires.arc refl c.place.ensures refl
    c.push.ensures.heads c.push.ensures.entries
