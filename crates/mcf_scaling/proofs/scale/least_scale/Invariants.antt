use Rattle.std.proofs.Common.{ℕ, ◌≡◌, ◌^◌, ◌≤◌, ◌-◌}
use Rattle.mcf_scaling.proofs.scale.least_scale.Given as goal

abbrev pub invariant-scales : goal.invariant-scales
invariant-scales l =
    record {
      power : l.power ≡ 2 ^ l.scale;
      small : l.scale ≤ 70;
      least : (k : ℕ) → l.fn.need ≤ 2 ^ k → l.scale ≤ k;
    }

abbrev pub decreases-scales : goal.decreases-scales
decreases-scales l = 70 - l.scale
