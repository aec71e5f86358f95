use Rattle.std.proofs.Common.{◌+◌, ◌∙◌, ap, length, length-append, subst, sym}
use Rattle.mcf_instance.specs.Feeding.{StandsFor}
use Rattle.mcf_flows.specs.Limits.{limits}
use Rattle.mcf_instance.proofs.reader.pieces.Reader.feed.Goals as goal
use Rattle.mcf_instance.proofs.reader.pieces.Reader.feed.Goals.{then-self-len, else-self-len}

pub returns-in-Ok-clause-ok : goal.returns-in-Ok-clause-ok
returns-in-Ok-clause-ok c = λ text stands.
    let inside = subst (λ r. StandsFor limits r text) (sym c.self.view_is) stands in
    elim c.if-self-len.branch [
      | then-self-len w ↦ cc (sym w.taken-is ∙ c.in-Ok.is)
      | else-self-len w ↦
          let taken = rw (sym w.taken-is ∙ c.in-Ok.is) at w.take_piece-taken.ensures in
          rw w.self-inside-is record {
            unrefused = inside.unrefused;
            counted = ap (λ n. n + length c.args.piece.now) inside.counted ∙ sym (length-append text c.args.piece.now);
            is_open = taken.is_open;
            read_on = taken.read text inside.read_on;
          }
    ]
