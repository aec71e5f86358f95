use Rattle.mcf_engine.proofs.Shortlists.{AreListed}
use Rattle.mcf_engine.proofs.shortlist.put_arcs.Given as goal

abbrev pub invariant-arcs : goal.invariant-arcs
invariant-arcs l = AreListed l.fn.state l.fn.passed l.heads.items l.entries.items l.number
