-- A flow that is judged with the cost that is claimed for it.
use Rattle.std.proofs.Common.{◌≡◌, ◌+◌, ◌*◌, ◌≤◌, ℕ, List, refl, sym, ap, subst, arith, inl, inr, Bool, true, false, cond, ℤ}
use Rattle.std.specs.Prelude.{◌↔◌, ◌⊎◌, ◌^◌, ◌==◌, nat_le, neg_ℤ, pos}
use Rattle.std.proofs.lemmas.Int.{ints}
use Rattle.mcf_answer.specs.Ranges.{amount_limit}
use Rattle.mcf_c.specs.Judged.{claimed_cost}
use Rattle.mcf_c.specs.Verdicts.{number}
use Rattle.mcf_c.specs.declared.verdicts.McfVerdict.{McfVerdict}
use Rattle.mcf_checker.specs.Correct.{IsRightFlow}
use Rattle.mcf_flows.specs.Limits.{limits, total_limit}
use Rattle.mcf_flows.specs.Flow.{IsFeasible, cost}
use Rattle.mcf_flows.specs.Network.{Network}
use Rattle.mcf_flows.specs.WellFormed.{IsUpTo, IsWellFormed}
use Rattle.mcf_flows.proofs.Bounds.{cost_up_to}

size_up_to : (T size : ℕ) (b : Bool) → IsUpTo T (cond b (neg_ℤ (pos size)) (pos size)) → size ≤ T
size_up_to T size true h = omega (arith, ints, h.0, h.1)
size_up_to T size false h = omega (arith, ints, h.0, h.1)

-- a cost that some flow has is the one that is judged
claimed_small : (c : McfVerdict) → IsUpTo total_limit (number c) → claimed_cost c ≡ number c
claimed_small c small =
    let size : ℕ = c.low + 2 ^ 64 * c.high in
    let few : size ≤ total_limit = size_up_to total_limit size (c.negative == 1) small in
    let test : nat_le size amount_limit ≡ true = grind (arith, few) in
    ap (λ b. cond b (number c) (pos amount_limit)) test

claimed_or : (c : McfVerdict) → (claimed_cost c ≡ number c) ⊎ (claimed_cost c ≡ pos amount_limit)
claimed_or c = go (nat_le (c.low + 2 ^ 64 * c.high) amount_limit) refl
  where
    go : (b : Bool) → nat_le (c.low + 2 ^ 64 * c.high) amount_limit ≡ b → (claimed_cost c ≡ number c) ⊎ (claimed_cost c ≡ pos amount_limit)
    go true e = inl (ap (λ b. cond b (number c) (pos amount_limit)) e)
    go false e = inr (ap (λ b. cond b (number c) (pos amount_limit)) e)

cost_small : (g : Network) (flow : List ℤ) → IsWellFormed limits g → IsFeasible g flow → IsUpTo total_limit (cost g.arcs flow)
cost_small g flow well feasible = cost_up_to g.arcs flow total_limit well.within.total feasible.within_bounds

-- a flow is right with the cost that is judged where it is with the one that is claimed
right_by_claim : (g : Network) (c : McfVerdict) (prices flow : List ℤ) → IsWellFormed limits g → IsRightFlow g (claimed_cost c) prices flow
    → IsRightFlow g (number c) prices flow
right_by_claim g c prices flow well right = go (claimed_or c)
  where
    small : IsUpTo total_limit (claimed_cost c)
    small = subst (IsUpTo total_limit) (sym right.cost_is) (cost_small g flow well right.feasible)

    go : (claimed_cost c ≡ number c) ⊎ (claimed_cost c ≡ pos amount_limit) → IsRightFlow g (number c) prices flow
    go (inl e) = subst (λ (z : ℤ). IsRightFlow g z prices flow) e right
    go (inr e) =
        let far : IsUpTo total_limit (pos amount_limit) = subst (IsUpTo total_limit) e small in absurd (omega (arith, ints, far.1))

pub judged_exactly : (g : Network) (c : McfVerdict) (flow prices : List ℤ) → IsWellFormed limits g
    → IsRightFlow g (claimed_cost c) prices flow ↔ IsRightFlow g (number c) prices flow
judged_exactly g c flow prices well = (
  right_by_claim g c prices flow well,
  λ h.
      let small : IsUpTo total_limit (number c) = subst (IsUpTo total_limit) (sym h.cost_is) (cost_small g flow well h.feasible) in
      subst (λ (z : ℤ). IsRightFlow g z prices flow) (sym (claimed_small c small)) h,
)
