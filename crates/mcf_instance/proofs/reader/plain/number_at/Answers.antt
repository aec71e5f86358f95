use Rattle.std.proofs.Common.{rules}
use Rattle.std.proofs.lemmas.Int.{to_z-of_z}
use mir.Syntax.{w64}
use mir.Val.{SFits}
use Rattle.mcf_instance.proofs.PlainLines.{field_from}
use Rattle.mcf_instance.proofs.reader.plain.number_at.Goals as goal

pub returns : goal.returns
returns c =
    let f : SFits w64 c.in_ok-digits.digits.value = search rules in
    simp to_z-of_z (field_from c.args.text.now c.args.start _ _ _ c.in_ok-digits.ensures c.in_ok-place.ensures)
