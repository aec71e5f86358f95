use Rattle.mcf_matrix.proofs.MatchingDuality.{shown_matchings_are_least_lem, shown_matchings_cost_the_prices_lem}
use Rattle.mcf_matrix.proofs.showing.shows.Goals as goal

pub returns-clause-least : goal.returns-clause-least
returns-clause-least g c = λ t.
    shown_matchings_are_least_lem (g.P.Priced.costs c.args.priced.now) c.args.columns_of.now (g.P.Priced.row_prices c.args.priced.now) (g.P.Priced.column_prices c.args.priced.now)
    (c.is_shown-holds.ensures.0 t)

pub returns-clause-cost : goal.returns-clause-cost
returns-clause-cost g c = λ t.
    shown_matchings_cost_the_prices_lem (g.P.Priced.costs c.args.priced.now) c.args.columns_of.now (g.P.Priced.row_prices c.args.priced.now) (g.P.Priced.column_prices c.args.priced.now)
    (c.is_shown-holds.ensures.0 t)
