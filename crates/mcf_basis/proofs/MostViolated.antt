-- The most violated arc is that of the first least offer.
use Rattle.std.proofs.Common.{◌≡◌, ℕ, ◌+◌, ◌-◌, ◌≤◌, None, length, get_or, arith, subst, pos, neg_ℤ, ◌<ℤ◌}
use Rattle.std.proofs.lemmas.Int.{ints}
use Rattle.mcf_flows.specs.Network.{IsArcNumber, node_count}
use Rattle.mcf_basis.specs.Pivots.{IsEligible}
use Rattle.mcf_basis.specs.Private.Layouts.{Layout, IsLaidOut, basis_in, no_offer, offer_at}
use Rattle.mcf_basis.specs.Private.Offered.{CanCompareIn, HasOwnEnds, HasPricedEnds, IsFirstLeast, IsLeastOffer, reduced_of}
use Rattle.mcf_basis.specs.Violations.{HasNoneOf, IsFrom, IsMostViolated, violation}
use Rattle.mcf_basis.proofs.Offers.{IsReadOffer, own_nodes_of, read_offer}
use Rattle.mcf_basis.proofs.Views.{price_fits, price_spread}

-- an offer by its place
pub record IsPlacedOffer (l : Layout) (k i : ℕ) : Type 0 where
  pub ends : HasPricedEnds (length l.table.prices) (get_or l.offers i no_offer)
  pub own : HasOwnEnds (get_or l.offers i no_offer)
  pub eligible : reduced_of l.table.prices l.offers i <ℤ pos 0 → IsEligible (basis_in l) k
  pub only : IsEligible (basis_in l) k → reduced_of l.table.prices l.offers i <ℤ pos 0
  pub size : IsEligible (basis_in l) k → reduced_of l.table.prices l.offers i ≡ neg_ℤ (pos (violation (basis_in l) k))

module _ (l : Layout) (ok : IsLaidOut l) where
  prices_size : length l.table.prices ≡ node_count l.net + 1
  prices_size = ok.basis.prices.one_per_node

  placed : (k : ℕ) → IsArcNumber l.net k → IsPlacedOffer l k (k - 1)
  placed k h =
      let r : IsReadOffer (basis_in l) k (offer_at l k) = read_offer l k ok h in
      record {
        ends = record { from = omega (arith, prices_size, r.from); to = omega (arith, prices_size, r.to); cost = r.cost };
        own = own_nodes_of l k ok h;
        eligible = r.eligible;
        only = r.only;
        size = λ el. r.size (r.only el);
      }

  at_place : (i : ℕ) → IsArcNumber l.net (i + 1) → IsPlacedOffer l (i + 1) i
  at_place i h =
      let back : i + 1 - 1 ≡ i = omega arith in
      subst (IsPlacedOffer l (i + 1)) back (placed (i + 1) h)

  pub can_compare_in : CanCompareIn l.table l.offers
  can_compare_in =
      record {
        compared = record {
          ends = λ i high. (at_place i (omega arith, omega (arith, high, ok.offers_size))).ends;
          small = λ v h. price_fits l ok v (omega (arith, h, prices_size));
        };
        spread = λ v up h. price_spread l ok v up (omega (arith, h, prices_size));
        own = λ i high. (at_place i (omega arith, omega (arith, high, ok.offers_size))).own;
      }

  module _ (first end : ℕ) (low : 1 ≤ first) (high : end ≤ length l.net.arcs + 1) where
    pub most_violated_some : (i : ℕ) → IsFirstLeast l.table.prices l.offers (first - 1) (end - 1) i → IsMostViolated (basis_in l) (IsFrom first end) (i + 1)
    most_violated_some i found =
        let here = at_place i (omega arith, omega (arith, found.high)) in
        let el : IsEligible (basis_in l) (i + 1) = here.eligible found.gains in
        record {
          one_of = (omega (arith, found.low), omega (arith, found.high));
          eligible = el;
          greatest = λ j p other. (let there = (placed j other.arc).size other in
              let le = found.least (j - 1) (omega (arith, p.0)) (omega (arith, p.0, p.1, low)) in omega (arith, ints, here.size el, there, le));
          first_one = λ j p below other. (let there = (placed j other.arc).size other in
              let lt = found.first (j - 1) (omega (arith, p.0)) (omega (arith, p.0, below, low)) in omega (arith, ints, here.size el, there, lt));
        }

    pub most_violated_none : IsLeastOffer l.table.prices l.offers (first - 1) (end - 1) None → HasNoneOf (basis_in l) (IsFrom first end)
    most_violated_none none = λ j p other. (let neg = (placed j other.arc).only other in
        let ge = none (j - 1) (omega (arith, p.0)) (omega (arith, p.0, p.1, low)) in omega (arith, ints, neg, ge))
