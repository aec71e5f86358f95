use Rattle.std.proofs.Common.{◌∙◌, sym}
use Rattle.mcf_engine_tests.proofs.Extensions.{extension_net, source_row, unmatched_row}
use Rattle.mcf_engine_tests.proofs.assigning.offer.Goals as goal

pub extend-requires-clause-row : goal.extend-requires-clause-row
extend-requires-clause-row c =
    source_row c.args.net.now c.args.matching.now.flow c.args.v c.requires.net c.requires.node (sym c.is_row.ensures ∙ c.if-not-is_row.false)

pub extend-requires-clause-free : goal.extend-requires-clause-free
extend-requires-clause-free c =
    unmatched_row c.args.matching.now.flow c.args.v c.matched.result c.matched.ensures.value.1 c.if-matched.false

pub returns : goal.returns
returns c =
    extension_net c.args.matching.now c.args.v c.extend.result c.extend.new.self c.extend.ensures.extended ∙ c.requires.net
