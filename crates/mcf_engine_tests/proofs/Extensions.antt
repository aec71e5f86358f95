-- Rows that are offered to a matching.
use Rattle.std.proofs.Common.{◌≡◌, ℕ, Bool, true, false, pos, sym, ◌∙◌, ap, subst, inl, true≢false}
use Rattle.std.proofs.lemmas.Bool.Decides.{Decides-int_eq}
use Rattle.mcf_flows.specs.Network.{Network, IsNode, at_node, node_count}
use Rattle.mcf_network.specs.States.{Pseudoflow}
use Rattle.mcf_matching.specs.declared.extended.Extended.{Extended}
use Rattle.mcf_matching.specs.declared.extended.Extended.TheVariants.{Matched, Blocked}
use Rattle.mcf_matching.specs.Extending.{Assigned, IsExtension, IsMatched}
use Rattle.mcf_matching.specs.Matchings.{IsMatchedRow, IsRow}
use Rattle.mcf_assign.specs.Runs.{is_source}

pub extension_net : (m : Assigned) (row : ℕ) (found : Extended) (n : Assigned) → IsExtension m row found n → n.flow.net ≡ m.flow.net
extension_net m row Matched n grown = grown.net
extension_net m row Blocked n stopped = ap (λ (s : Pseudoflow). s.net) stopped.flow

pub source_row : (g : Network) (s : Pseudoflow) (v : ℕ) → s.net ≡ g → IsNode (node_count g) v → is_source g v ≡ true → IsRow s v
source_row g s v same node source =
    let P : Network → Type 0 = λ (n : Network). IsNode (node_count n) v × (at_node n.supplies v ≡ pos 1) in
    subst P (sym same) (node, (Decides-int_eq (at_node g.supplies v) (pos 1)).0 source)

pub unmatched_row : (s : Pseudoflow) (v : ℕ) (b : Bool) → (IsMatched s v → b ≡ true) → b ≡ false → ¬ IsMatchedRow s v
unmatched_row s v b tells none matched =
    true≢false (sym (tells (matched.0, matched.1, inl matched.2)) ∙ none)
