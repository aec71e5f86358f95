-- What the judge concludes.
use Rattle.std.proofs.Common.{◌≡◌, ℕ, ◌+◌, ◌-◌, ◌<◌, List, length, get_or, sym, ◌∙◌, arith, inl, inr, refl, subst, ℤ, pos}
use Rattle.std.specs.Prelude.{◌<ℤ◌}
use Rattle.std.proofs.lemmas.Int.{ints}
use Rattle.std.proofs.lemmas.List.{get_or_default}
use Rattle.std.proofs.lemmas.Bool.{cases_eq}
use Rattle.mcf_flows.specs.declared.arc.Arc.{Arc}
use Rattle.mcf_flows.specs.Flow.{IsComplementary, Shows, reduced_cost}
use Rattle.mcf_flows.specs.Network.{Network, IsArcNumber, IsNode}
use Rattle.mcf_flows.specs.WellFormed.{IsUpTo}
use Rattle.mcf_flows.proofs.AllZips.{AllZip_from}
use Rattle.mcf_flows.proofs.Duality.{shown_flows_are_least_lem}
use Rattle.mcf_network.specs.Nets.{IsNet, IsNetArc}
use Rattle.mcf_network.specs.Residual.{no_arc, arc_at}
use Rattle.mcf_network.specs.States.{HasNoSurplus, IsPseudoflow, Pseudoflow, amount_at}
use Rattle.mcf_network.proofs.ArcLaws.{amount_count, net_arc_at}
use Rattle.mcf_network.proofs.StuckLaws.{feasible_of_state}
use Rattle.mcf_engine.specs.NearPrices.{near_limit}
use Rattle.mcf_engine.specs.Outcomes.{IsLeastState}

-- a fact of each number up to one, and of the next
pub every_next : (P : ℕ → Type 0) (n m : ℕ) → m ≡ n + 1 → ((v : ℕ) → IsNode n v → P v) → P m → (v : ℕ) → IsNode (n + 1) v → P v
every_next P n m is before here v h =
    elim (cases_eq v m) [
      | inl e ↦ subst P (sym e) here
      | inr other ↦ before v (h.0, omega (arith, h, other, is))
    ]

-- prices that show what each arc carries show the flow
pub shown_everywhere : (s : Pseudoflow) (prices : List ℤ) → IsPseudoflow s
    → ((k : ℕ) → IsNode (length s.net.arcs) k → IsComplementary prices (arc_at s.net k) (amount_at s k)) → Shows s.net.arcs prices s.amounts
shown_everywhere s prices ok each =
    AllZip_from (IsComplementary prices) s.net.arcs s.amounts (amount_count s ok)
    (λ i h a f. subst (λ (b : Arc). IsComplementary prices b (get_or s.amounts i f)) (get_or_default s.net.arcs i no_arc a h)
    (subst (λ (x : ℤ). IsComplementary prices (get_or s.net.arcs i no_arc) x) (get_or_default s.amounts i (pos 0) f (omega (arith, amount_count s ok)))
    (at i h)))
  where
    at : (i : ℕ) → i < length s.net.arcs → IsComplementary prices (get_or s.net.arcs i no_arc) (get_or s.amounts i (pos 0))
    at i h =
        let back : i + 1 - 1 ≡ i = omega arith in
        subst (λ (j : ℕ). IsComplementary prices (get_or s.net.arcs j no_arc) (get_or s.amounts j (pos 0))) back (each (i + 1) (omega arith, omega arith))

-- a state without surplus that prices show is least
pub least_judged : (s : Pseudoflow) (prices : List ℤ) → IsPseudoflow s → HasNoSurplus s → Shows s.net.arcs prices s.amounts → IsLeastState s.net s
least_judged s prices ok none shown =
    record {
      feasible = record { of_net = refl; flow = ok; no_surplus = none };
      least = shown_flows_are_least_lem s.net prices s.amounts ok.of_net.ends (feasible_of_state s ok none) shown;
    }

-- an arc of a net whose amount fits its reduced cost
pub complementary : (prices : List ℤ) (a : Arc) (f reduced amount width : ℤ) → IsNetArc a → reduced ≡ reduced_cost prices a → amount ≡ f → width ≡ a.cap
    → (pos 0 <ℤ reduced → amount ≡ pos 0) → (reduced <ℤ pos 0 → amount ≡ width) → IsComplementary prices a f
complementary prices a f reduced amount width arc here there wide above below = (
  λ up. sym there ∙ above (subst (λ (z : ℤ). pos 0 <ℤ z) (sym here) up) ∙ sym arc.no_low,
  λ down. sym there ∙ below (subst (λ (z : ℤ). z <ℤ pos 0) (sym here) down) ∙ wide,
)

-- a cost lies within the limit of prices
pub cost_near : (g : Network) (k : ℕ) (cost : ℤ) → IsNet g → IsArcNumber g k → cost ≡ (arc_at g k).cost → IsUpTo near_limit cost
cost_near g k cost ok arc e =
    let small = (net_arc_at g k ok arc).cost_small in
    (omega (arith, ints, small.0, e), omega (arith, ints, small.1, e))
