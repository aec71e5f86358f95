use Rattle.std.proofs.Common.{◌∙◌, ap, Bool}
use Rattle.mcf_decimal.specs.Settled.{first_place}
use Rattle.mcf_decimal.proofs.Settling.{with_more}
use Rattle.mcf_decimal.proofs.settled.Marks.with_cell.Goals as goal

pub returns : goal.returns
returns c = λ cells is.
    with_more cells c.args.cell.now c.args.self c.mark_in-shown.result c.first_place-point.result c.first_place-comma.result is
    c.mark_in-shown.ensures
    (c.first_place-point.ensures ∙ ap (λ (b : Bool). first_place c.args.self.point b c.args.self.seen) c.is_the.ensures)
    (c.first_place-comma.ensures ∙ ap (λ (b : Bool). first_place c.args.self.comma b c.args.self.seen) c.is_the-2.ensures)
