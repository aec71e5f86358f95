use Rattle.mcf_matching.proofs.search.Tables.search.Goals as goal

pub run-requires-clause-ready : goal.run-requires-clause-ready
run-requires-clause-ready g c = c.begin.ensures.ready c.args.scene.now.prices.now
