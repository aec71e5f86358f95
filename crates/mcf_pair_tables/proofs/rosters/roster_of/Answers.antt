use Rattle.mcf_pair_tables.proofs.MadeRosters.{made_is}
use Rattle.mcf_pair_tables.proofs.rosters.roster_of.Goals as goal

pub returns-clause-exact : goal.returns-clause-exact
returns-clause-exact c =
    made_is c.args.table.now c.args.options c.args.scale c.of.result c.in_ok-takes.takes.items c.in_ok-needs.needs.items c.in_ok-pairs.pairs.items
    c.each_of-each.result c.asks_persons.result c.asks_things.result c.takes.result.now c.needs.result.now c.pairs.result.now
    c.of.ensures.exact c.each_of-each.ensures c.asks_persons.ensures c.asks_things.ensures c.takes.ensures c.needs.ensures c.pairs.ensures
    c.in_ok-takes.ensures c.in_ok-needs.ensures c.in_ok-pairs.ensures
