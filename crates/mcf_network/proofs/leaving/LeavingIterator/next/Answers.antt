use Rattle.std.proofs.Common.{◌∙◌, ◌∷◌, ap, arith, length, sym}
use Rattle.mcf_network.specs.declared.rid.Rid.{Rid}
use Rattle.mcf_network.proofs.leaving.LeavingIterator.next.Goals as goal

pub returns-clause-steps : goal.returns-clause-steps
returns-clause-steps c =
    sym c.self.view_is ∙ c.in_ok-first.ensures.cases.0 ∙ ap (λ (r : Rid). r ∷ c.in_ok-first.others.now) (sym c.get.ensures)

pub returns-clause-goes : goal.returns-clause-goes
returns-clause-goes c =
    let more = ap length (sym c.self.view_is ∙ c.in_ok-first.ensures.cases.0) in
    record {
      on = λ _. (tt, tt, omega (arith, more));
      keeps = tt;
      rests = λ _. tt;
    }
