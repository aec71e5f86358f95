use Rattle.mcf_matrix.specs.Private.Pairing.{ArePairedSoFar}
use Rattle.mcf_matrix.proofs.showing.pairs_hold.Given as goal

abbrev pub invariant-loop-row : goal.invariant-loop-row
invariant-loop-row g l =
    ArePairedSoFar (g.P.Priced.costs l.priced) l.columns_of (g.P.Priced.row_prices l.priced) (g.P.Priced.column_prices l.priced) l.row l.seen
