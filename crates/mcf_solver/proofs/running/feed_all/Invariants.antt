use Rattle.std.proofs.Common.{◌≡◌, ◌-◌, ◌≤◌, length}
use Rattle.mcf_solver.specs.Running.{text_limit}
use Rattle.mcf_solver.proofs.ReadPieces.{HasTaken}
use Rattle.mcf_solver.proofs.running.feed_all.Given as goal

abbrev pub invariant-reads : goal.invariant-reads
invariant-reads g l = record {
  taken : HasTaken l.reader (g.S.Source.remaining l.initial.source) (g.S.Source.remaining l.source);
  room : 1 ≤ length l.piece;
  unfailed : g.S.Source.failures l.source ≡ g.S.Source.failures l.initial.source;
}

abbrev pub decreases-reads : goal.decreases-reads
decreases-reads g l = text_limit - l.reader.fed
