use Rattle.std.proofs.Common.{ap, sym, ◌∙◌}
use Rattle.mcf_model.specs.declared.faults.ModelFault.{ModelFault}
use Rattle.mcf_model.specs.declared.faults.RouteFault.{RouteFault}
use Rattle.mcf_model.specs.declared.faults.RouteFault.TheVariants.{Place}
use Rattle.mcf_model.specs.Faults.{applies, route_faults}
use Rattle.mcf_model.proofs.FaultLists.{none_more, one_more}
use Rattle.mcf_model.proofs.faults.Setting.push_all.Goals as goal
use Rattle.mcf_model.proofs.faults.Setting.push_all.Goals.{then-is_there+in_ok-push, else-is_there}

pub loop-place-preserved : goal.loop-place-preserved
loop-place-preserved c =
    let told : RouteFault → ModelFault = λ what. record { route = c.args.number; what = what } in
    let test = applies c.args.self.places c.args.self.steps.now c.args.self.earning c.args.row in
    elim c.if-is_there.branch [
      | then-is_there+in_ok-push w ↦ one_more test told route_faults c.loop-place.place Place c.loop-place.found.items _ c.loop-place-test.true c.loop-place.invariant
          c.if-is_there.found.items (sym c.applies-is_there.ensures ∙ w.if-is_there.true) (ap (λ r. r.items) w.found-is ∙ w.in_ok-push.ensures.items)
      | else-is_there w ↦ none_more test told route_faults c.loop-place.place Place c.loop-place.found.items _ c.loop-place-test.true c.loop-place.invariant
          c.if-is_there.found.items (sym c.applies-is_there.ensures ∙ w.if-is_there.false) (ap (λ r. r.items) w.found-is)
    ]
