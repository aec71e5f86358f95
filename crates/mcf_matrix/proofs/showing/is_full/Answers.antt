use Rattle.std.proofs.Common.{arith, count_by, ltb, min, subst, eq-eqb, ◌≡◌, ◌∙◌, sym}
use Rattle.std.proofs.lemmas.Bool.{eqb-true}
use Rattle.mcf_matrix.specs.Matchings.{pair_count}
use Rattle.mcf_matrix.proofs.showing.is_full.Goals as goal

pub returns : goal.returns
returns g c =
    let m = g.P.Priced.costs c.args.priced.now in
    let count : c.count_pairs.result ≡ pair_count m c.args.columns_of.now =
    subst (λ n. c.count_pairs.result ≡ count_by (λ j. ltb j n) c.args.columns_of.now) c.column_count.ensures c.count_pairs.ensures in
    let least : c.min.result ≡ min m.rows m.columns = omega (arith, c.min.ensures, c.row_count.ensures, c.column_count-2.ensures) in
    ((λ t. sym count ∙ eqb-true c.count_pairs.result c.min.result t ∙ least), (λ e. eq-eqb c.count_pairs.result c.min.result (count ∙ e ∙ sym least)))
