use Rattle.mcf_matching.proofs.Repriced.{extended_repriced}
use Rattle.mcf_matching.proofs.partial.Partial+i64.extend.Goals as goal

pub grow-requires-clause-row : goal.grow-requires-clause-row
grow-requires-clause-row c = rw c.refresh.ensures.repriced.flow c.requires.row

pub grow-requires-clause-free : goal.grow-requires-clause-free
grow-requires-clause-free c = rw c.refresh.ensures.repriced.flow c.requires.free

pub returns-clause-extended : goal.returns-clause-extended
returns-clause-extended c =
    extended_repriced c.args.self.now c.refresh.new.self c.grow.new.self c.args.row c.grow.result c.refresh.ensures.repriced c.grow.ensures.extended
