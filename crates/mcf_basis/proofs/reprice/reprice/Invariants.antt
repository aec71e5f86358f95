use Rattle.std.proofs.Common.{◌≡◌, ◌+◌}
use Rattle.mcf_basis.proofs.TurnedResiduals.{IsRepricing}
use Rattle.mcf_basis.proofs.reprice.reprice.Given as goal

-- each price was written once
abbrev pub invariant-part : goal.invariant-part
invariant-part g l = record {
  raised : IsRepricing l.fn.part l.fn.change l.fn.prices.entries l.prices.entries l.v-index;
  counted : l.prices.written ≡ l.fn.prices.written + l.v-index;
}
