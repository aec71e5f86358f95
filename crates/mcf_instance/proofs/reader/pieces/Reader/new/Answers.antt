use Rattle.std.proofs.Common.{ap, refl}
use Rattle.mcf_instance.proofs.Pieces.{on_nothing}
use Rattle.mcf_instance.proofs.reader.pieces.Reader.new.Goals as goal

pub returns : goal.returns
returns c = record {
  unrefused = refl;
  counted = refl;
  is_open = ap (λ f. f.has_ended) c.new.ensures;
  read_on = rw (c.new.ensures, c.new-2.ensures) on_nothing;
}
