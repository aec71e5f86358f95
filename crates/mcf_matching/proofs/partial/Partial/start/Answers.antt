use Rattle.std.proofs.Common.{◌≡◌, false, pos, replicate, rules, Bool, List, ℤ, ap, sym, subst, ◌∙◌, length}
use Rattle.std.proofs.lemmas.List.{length-replicate}
use Rattle.mcf_flows.specs.Network.{node_count}
use Rattle.mcf_network.specs.States.{Pseudoflow, IsPseudoflow}
use Rattle.mcf_matching.specs.Private.Forests.{mate}
use Rattle.mcf_matching.specs.Private.Keeping.{IsKept}
use Rattle.mcf_matching.specs.Private.Reaches.{HasWidth}
use Rattle.mcf_matching.specs.Private.RowLists.{AreRows}
use Rattle.mcf_matching.proofs.Kept.{kept_first, shown_kept}
use Rattle.mcf_matching.proofs.partial.Partial.start.Goals as goal

pub invariant_of-result-2 : goal.invariant_of-result-2
invariant_of-result-2 g c =
    let value = c.in_ok-state.ensures.value in
    let inside = c.state.view_is ∙ value in
    let valid = subst (λ (s : Pseudoflow). IsPseudoflow s) value c.in_ok-state.ensures.valid in
    let mates : c.in_ok-mates.mates.items ≡ replicate (node_count c.args.net.now) (mate 0 0) = search rules in
    let count = ap (λ (t : List Bool). length t) c.in_ok-new-2.ensures.value ∙ length-replicate (node_count c.args.net.now) false in
    let n = c.args.net.now in
    let kept = subst (λ (s : Pseudoflow). IsKept s c.in_ok-prices.prices.items c.in_ok-mates.mates.items c.in_ok-new.field-0 c.in_ok-new-2.field-0) (sym inside)
    (kept_first n c.in_ok-prices.prices.items c.in_ok-mates.mates.items c.in_ok-new.field-0 c.in_ok-new-2.field-0 valid c.requires.assignment
    c.in_ok-prices.ensures.prices mates c.in_ok-new.ensures.idle count) in (
      kept,
      subst (λ (s : Pseudoflow). AreRows s.net c.in_ok-rows.rows) (sym inside) c.in_ok-rows.ensures.rows,
      subst (λ (s : Pseudoflow). HasWidth g.W.Width.room s.net) (sym inside) c.requires.width,
      ap (λ (l : List ℤ). length l) c.in_ok-copies.ensures.value ∙ length-replicate c.node_count-nodes.result (pos 0)
          ∙ c.node_count-nodes.ensures.value ∙ ap (λ (s : Pseudoflow). node_count s.net) (sym inside),
    )

pub returns-clause-shown : goal.returns-clause-shown
returns-clause-shown g c = shown_kept (invariant_of-result-2 g c).0
