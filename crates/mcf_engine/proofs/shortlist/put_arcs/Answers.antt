use Rattle.std.proofs.Common.{◌∙◌, ap, arith, length}
use Rattle.mcf_flows.specs.Network.{Network}
use Rattle.mcf_engine.proofs.Shortlists.{listed_all, listed_next, listed_none}
use Rattle.mcf_engine.proofs.shortlist.put_arcs.Goals as goal

pub arcs-init : goal.arcs-init
arcs-init c = listed_none c.args.state.now c.args.passed.now c.args.heads.now.items c.args.entries.now.items c.requires.chains

pub put-forward-requires-clause-chains : goal.put-forward-requires-clause-chains
put-forward-requires-clause-chains c = c.arcs.invariant.chains

pub put-backward-requires-clause-chains : goal.put-backward-requires-clause-chains
put-backward-requires-clause-chains c = (c.put-forward.ensures c.if-not-forward.false).chains

pub arcs-preserved : goal.arcs-preserved
arcs-preserved c =
    listed_next c.args.state.now c.args.passed.now c.arcs.heads.items c.put-forward.new.heads.items c.put-backward.new.heads.items c.arcs.entries.items
    c.put-forward.new.entries.items c.put-backward.new.entries.items c.arcs.number c.at-arc.result c.arcs.invariant c.at-arc.ensures
    (c.put-forward.ensures c.if-not-forward.false) (c.put-backward.ensures c.if-not-backward.false)

pub returns : goal.returns
returns c done =
    let past = c.arcs-test.false in
    let count = c.arc_count-number-end.ensures.value ∙ ap (λ (g : Network). length g.arcs) c.net.ensures.value in
    listed_all c.args.state.now c.args.passed.now c.arcs.heads.items c.arcs.entries.items c.arcs.number c.arcs.invariant (omega (arith, past, count))
