use Rattle.std.proofs.Common.{arith, drop, length-drop, pos, sym, ◌∙◌}
use Rattle.std.proofs.lemmas.Grind.{get_or_after_one}
use Rattle.std.proofs.lemmas.List.{ext_get_or}
use Rattle.mcf_basis.proofs.price_table.PriceTable.write_nodes.Goals as goal

pub returns : goal.returns
returns c =
    let prices = c.args.self.now.prices in
    let size = length-drop 1 prices in
    ext_get_or (pos 0) c.loop-i.prices (drop 1 prices) (omega (arith, size))
    (λ k h. c.loop-i.invariant k (omega (arith, h, c.loop-i-test.false)) ∙ sym (get_or_after_one prices k (pos 0)))
