use Rattle.std.proofs.Common.{rules, ◌∙◌, sym, true, map, length, ◌≡◌}
use Rattle.std.proofs.lemmas.Int.{to_z-of_z}
use Rattle.std.proofs.lemmas.List.{length-map}
use mir.Val.{SFits}
use mir.Syntax.{w64}
use Rattle.mcf_instance.specs.Private.LineReader.{node_count_fits}
use Rattle.mcf_instance.proofs.LineSteps.{node_line_at}
use Rattle.mcf_instance.proofs.reader.line.node_line.Goals as goal

pub returns-in-Some : goal.returns-in-Some
returns-in-Some c =
    let f : SFits w64 c.in_ok-node.node = search rules in
    let g : SFits w64 c.in_ok-node.supply = search rules in
    let k = simp to_z-of_z at c.node_tests.ensures in
    let q : node_count_fits c.args.header (length (map (λ f. f.now) c.args.fields.now)) ≡ true = rw length-map
    (sym c.node_count_fits.ensures ∙ search rules) in
    k ∙ sym (node_line_at _ _ _ _ _ _ _ c.in-Some.is q (sym (c.in_ok-node.ensures)))
