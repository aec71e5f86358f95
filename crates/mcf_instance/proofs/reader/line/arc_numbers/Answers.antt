use Rattle.std.proofs.Common.{◌≡◌, length, map, rules, true}
use Rattle.std.specs.Prelude.{◌==◌}
use Rattle.std.proofs.lemmas.Int.{to_z-of_z}
use Rattle.std.proofs.lemmas.List.{length-map}
use mir.Syntax.{w64}
use mir.Val.{SFits}
use Rattle.mcf_instance.proofs.LineSteps.{arc_numbers_six}
use Rattle.mcf_instance.proofs.reader.line.arc_numbers.Goals as goal

pub returns-in_ok-cap : goal.returns-in_ok-cap
returns-in_ok-cap c =
    let f1 : SFits w64 c.in_ok-src.src = search rules in
    let f2 : SFits w64 c.in_ok-src.dst = search rules in
    let f3 : SFits w64 c.in_ok-third.third = search rules in
    let f4 : SFits w64 c.in_ok-cap.cap = search rules in
    let f5 : SFits w64 c.in_ok-cap.cost = search rules in
    let six : (length (map (λ f. f.now) c.args.fields.now) == 6) ≡ true = rw length-map (search rules) in
    simp to_z-of_z (arc_numbers_six _ _ _ _ _ _ c.in_ok-src.ensures c.in_ok-third.ensures c.in_ok-cap.ensures six)
