use Rattle.mcf_simplex.proofs.Ending.{last_least, last_near}
use Rattle.mcf_simplex.proofs.simplex.show.Goals as goal

pub raise-requires-clause-near : goal.raise-requires-clause-near
raise-requires-clause-near c =
    last_near c.args.basis.now c.write_prices.ensures.basis c.requires.over c.requires.flow c.args.state.now c.write_prices.new.prices
    c.requires.state c.write_prices.ensures.value c.write_prices.ensures.count c.write_prices.ensures.small

pub returns-clause-least : goal.returns-clause-least
returns-clause-least c =
    last_least c.args.basis.now c.write_prices.ensures.basis c.requires.over c.requires.flow c.args.state.now c.requires.state
