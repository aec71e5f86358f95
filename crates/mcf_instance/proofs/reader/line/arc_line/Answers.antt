use Rattle.std.proofs.Common.{rules, ◌∙◌, sym, true, map, length, ◌≡◌}
use Rattle.std.proofs.lemmas.List.{length-map}
use Rattle.mcf_instance.specs.Private.LineReader.{arc_count_fits}
use Rattle.mcf_instance.proofs.LineSteps.{arc_line_at}
use Rattle.mcf_instance.proofs.reader.line.arc_line.Goals as goal

pub returns-in-Some : goal.returns-in-Some
returns-in-Some c =
    let q : arc_count_fits c.args.header (length (map (λ f. f.now) c.args.fields.now)) ≡ true = rw length-map (sym c.arc_count_fits.ensures ∙ search rules) in
    c.arc_tests.ensures ∙ sym (arc_line_at _ _ _ _ _ _ _ c.in-Some.is q (sym c.in_ok-numbers.ensures))
