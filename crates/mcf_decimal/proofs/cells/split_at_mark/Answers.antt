use Rattle.std.proofs.Common.{◌∙◌, ap}
use Rattle.std.specs.Prelude.{is_some}
use Rattle.mcf_decimal.specs.Marks.{is_byte_of}
use Rattle.mcf_decimal.specs.Numbers.{decimals, has_mark, whole_part}
use Rattle.mcf_decimal.proofs.CutLemmas.{is_some-position}
use Rattle.mcf_decimal.proofs.cells.split_at_mark.Goals as goal

pub returns-clause-whole : goal.returns-clause-whole
unfolding whole_part
returns-clause-whole c =
    let cut = c.split_at.ensures (is_byte_of c.args.mark) c.first_of-place.ensures in
    cut.front

pub returns-clause-decimals : goal.returns-clause-decimals
unfolding decimals
returns-clause-decimals c =
    let cut = c.split_at.ensures (is_byte_of c.args.mark) c.first_of-place.ensures in
    cut.back

pub returns-clause-has_mark : goal.returns-clause-has_mark
unfolding has_mark
returns-clause-has_mark c =
    c.is_some-has_mark.ensures ∙ ap is_some c.first_of-place.ensures ∙ is_some-position (is_byte_of c.args.mark) c.args.bytes.now
