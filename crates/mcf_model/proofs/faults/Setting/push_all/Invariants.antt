use Rattle.std.proofs.Common.{◌≡◌, ◌++◌, drop, map}
use Rattle.std.specs.Prelude.{filter}
use Rattle.mcf_model.specs.Faults.{applies, route_faults}
use Rattle.mcf_model.proofs.faults.Setting.push_all.Given as goal

abbrev pub invariant-loop-place : goal.invariant-loop-place
invariant-loop-place l =
    l.found.items ++ map (λ what. record { route = l.number; what = what }) (filter (applies l.self.places l.self.steps.now l.self.earning l.row) (drop l.place route_faults))
    ≡ l.initial.found.items ++ map (λ what. record { route = l.number; what = what }) (filter (applies l.self.places l.self.steps.now l.self.earning l.row) route_faults)
