use Rattle.std.proofs.Common.{◌∙◌, ◌++◌, ap, sym}
use Rattle.std.specs.Prelude.{is_some}
use Rattle.mcf_instance.proofs.Pieces.{none_unless_some, on_piece}
use Rattle.mcf_instance.proofs.reader.pieces.take_piece.Goals as goal

pub returns-in-Ok-clause-read : goal.returns-in-Ok-clause-read
returns-in-Ok-clause-read c = λ text h.
    let whole = text ++ c.args.piece.now in
    let good = none_unless_some c.args.state.now.refusal (ap is_some (sym c.refusal.ensures) ∙ sym c.is_some.ensures ∙ c.if-is_some.false) in
    c.forget_after_fault.ensures.read whole
    (c.in-Ok.ensures.read whole (on_piece text c.args.piece.now c.args.lines.now c.feed.new.self c.args.state.now good c.requires c.in_ok-feed.ensures.ok h))
