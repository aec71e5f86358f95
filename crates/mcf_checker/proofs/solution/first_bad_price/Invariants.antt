use Rattle.std.proofs.Common.{◌≡◌, ℕ, ◌<◌, false}
use Rattle.mcf_checker.specs.Private.StatedFlows.{IsNext, flow_stated}
use Rattle.mcf_checker.proofs.BadPrices.{looseness}
use Rattle.mcf_checker.proofs.solution.first_bad_price.Given as goal

abbrev pub invariant-loop-place : goal.invariant-loop-place
invariant-loop-place t l =
    ((j : ℕ) → j < l.place → looseness (t.P.Price.values l.prices) l.instance.arcs (flow_stated l.instance.arcs l.stated) j ≡ false) × IsNext l.stated l.place l.next
