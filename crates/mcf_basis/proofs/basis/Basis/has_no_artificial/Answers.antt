use Rattle.mcf_basis.proofs.Endings.{none_left}
use Rattle.mcf_basis.proofs.basis.Basis.has_no_artificial.Goals as goal

pub returns-clause-value : goal.returns-clause-value
returns-clause-value c =
    none_left _ c.args.self.now c.all_zero.result c.self.view_is c.self.invariant (rw c.deref.ensures.value at c.all_zero.ensures)
