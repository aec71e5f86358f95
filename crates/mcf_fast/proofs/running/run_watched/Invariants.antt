use Rattle.std.proofs.Common.{◌≤◌}
use Rattle.mcf_basis.specs.Ranks.{rank_above}
use Rattle.mcf_fast.proofs.Watched.{IsRunOf}
use Rattle.mcf_fast.proofs.running.run_watched.Given as goal

abbrev pub invariant-quarters : goal.invariant-quarters
invariant-quarters l =
    record {
      run : IsRunOf l.net l.run;
      step : 1 ≤ l.watch.step;
      part : 1 ≤ l.watch.part;
    }

abbrev pub decreases-quarters : goal.decreases-quarters
decreases-quarters l = rank_above l.run.basis
