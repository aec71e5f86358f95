use Rattle.std.proofs.Common.{rules}
use Rattle.std.proofs.lemmas.Int.{to_z-of_z}
use mir.Syntax.{w64}
use mir.Val.{SFits}
use Rattle.mcf_instance.proofs.PlainLines.{link_said}
use Rattle.mcf_instance.proofs.reader.plain.plain_link.Goals as goal

pub returns : goal.returns
returns c =
    let f1 : SFits w64 c.in_ok-src.src.value = search rules in
    let f2 : SFits w64 c.in_ok-dst.dst.value = search rules in
    let f3 : SFits w64 c.in_ok-low.low.value = search rules in
    let f4 : SFits w64 c.in_ok-cap.cap.value = search rules in
    let f5 : SFits w64 c.in_ok-cost.cost.value = search rules in
    simp to_z-of_z (link_said c.args.text.now _ _ _ _ _ _ _ _ _ _ c.requires c.in_ok-src.ensures c.in_ok-dst.ensures c.in_ok-low.ensures c.in_ok-cap.ensures c.in_ok-cost.ensures)
