use Rattle.mcf_matrix.proofs.Shown.{shown_from}
use Rattle.mcf_matrix.proofs.showing.is_shown.Goals as goal

pub returns : goal.returns
returns g c =
    let m = g.P.Priced.costs c.args.priced.now in
    let x = c.args.columns_of.now in (
      (λ t. shown_from m x (g.P.Priced.row_prices c.args.priced.now) (g.P.Priced.column_prices c.args.priced.now) c.pairs_hold.new.seen c.requires.lengths
          (c.pairs_hold.ensures.exact.0 c.if-not-pairs_hold.false) (c.pairs_hold.ensures.marks c.if-not-pairs_hold.false) (c.is_full.ensures.0 c.if-not-is_full.false)
          (c.columns_are_priced.ensures.0 c.if-not-columns_are_priced.false) (c.rows_are_priced.ensures.0 c.if-not-rows_are_priced.false) (c.has_none_below.ensures.0 t)),
      (λ shown. c.has_none_below.ensures.1 shown.prices.feasible.none_below),
    )
