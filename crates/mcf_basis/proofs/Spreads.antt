-- Which prices and changes a table with a gap can store.
use Rattle.std.proofs.Common.{◌≡◌, ℕ, ◌+◌, ◌-◌, ◌*◌, ◌≤◌, inl, inr, Bool, true, false, arith, refl, sym, ℤ, pos, neg_ℤ, ◌+ℤ◌, ◌-ℤ◌}
use Rattle.std.proofs.lemmas.Int.{ints}
use Rattle.mcf_flows.specs.Limits.{limits}
use Rattle.mcf_flows.specs.Network.{Network, node_count}
use Rattle.mcf_flows.specs.WellFormed.{IsUpTo}
use Rattle.mcf_network.specs.Nets.{greatest_cost}
use Rattle.mcf_basis.specs.Artificial.{artificial_cost}
use Rattle.mcf_basis.specs.Private.Gaps.{IsShown, IsSpread, spread_limit, stand_in}
use Rattle.mcf_basis.specs.Private.Gaps.IsSpread.{plain, above, below}
use Rattle.mcf_basis.specs.Private.Layouts.{IsGapOf, change_limit, path_limit}
use Rattle.mcf_basis.specs.Private.Layouts.IsGapOf.{none, far}
use Rattle.mcf_basis.specs.Private.Turned.{price_change}
use Rattle.mcf_basis.proofs.Gaps.IsMoved.{down, stays, up}
use Rattle.mcf_basis.proofs.Gaps.{IsMoved, is_moved, moved_is, twice, unmoved}
use Rattle.mcf_basis.proofs.TreePrices.{IsNear}

-- a price near the artificial cost, or near its opposite
pub near_spread : (g : Network) (gap reach : ℕ) (p : ℤ) → IsGapOf g gap →
    (node_count g * greatest_cost g.arcs ≤ path_limit → reach ≤ spread_limit) → IsNear (artificial_cost g) reach p → IsSpread gap p
near_spread g gap reach p (none z) short near = plain z
near_spread g gap reach p (far is le) short (inl h) = (let s = short le in above (omega (arith, ints, is, s, h), omega (arith, ints, is, s, h)))
near_spread g gap reach p (far is le) short (inr h) = (let s = short le in below (omega (arith, ints, is, s, h), omega (arith, ints, is, s, h)))

-- a price that lies near one that lies near the artificial cost, or near its opposite
pub near_moved : (cost a b : ℕ) (p q : ℤ) → IsNear cost a q → IsUpTo b (p -ℤ q) → IsNear cost (a + b) p
near_moved cost a b p q (inl h) k = inl (omega (arith, ints, h, k), omega (arith, ints, h, k))
near_moved cost a b p q (inr h) k = inr (omega (arith, ints, h, k), omega (arith, ints, h, k))

stored_as : {gap limit : ℕ} (stored : ℤ) {z : ℤ} → IsMoved stand_in (2 * gap) stored z → IsUpTo limit stored → IsShown gap limit z
stored_as {gap} stored {z} moved small = record { stored = stored; is = moved_is stand_in (2 * gap) stored z moved; small = small }

-- the reduced cost of an offer between such prices, of which each fits
pub reduced_is_shown : (g : Network) (gap limit reach : ℕ) (c p q : ℤ) → IsUpTo limits.cost c → IsGapOf g gap →
    (node_count g * greatest_cost g.arcs ≤ path_limit → reach ≤ path_limit) → artificial_cost g + reach ≤ limit →
    IsNear (artificial_cost g) reach p → IsNear (artificial_cost g) reach q → IsShown gap (change_limit (limit - gap)) (c -ℤ p +ℤ q)
reduced_is_shown g gap limit reach c p q cost (none z) short fits from to = record {
  stored = c -ℤ p +ℤ q;
  is = sym (unmoved stand_in (2 * gap) (c -ℤ p +ℤ q) (twice gap z));
  small = (let n : limit - gap ≡ limit = omega arith in rw n (by_sides from to));
}
  where
    by_sides : IsNear (artificial_cost g) reach p → IsNear (artificial_cost g) reach q → IsUpTo (change_limit limit) (c -ℤ p +ℤ q)
    by_sides (inl h) (inl k) = (omega (arith, ints, cost, fits, h, k), omega (arith, ints, cost, fits, h, k))
    by_sides (inl h) (inr k) = (omega (arith, ints, cost, fits, h, k), omega (arith, ints, cost, fits, h, k))
    by_sides (inr h) (inl k) = (omega (arith, ints, cost, fits, h, k), omega (arith, ints, cost, fits, h, k))
    by_sides (inr h) (inr k) = (omega (arith, ints, cost, fits, h, k), omega (arith, ints, cost, fits, h, k))
reduced_is_shown g gap limit reach c p q cost (far is le) short fits (inl h) (inl k) =
    let s = short le in
    stored_as (c -ℤ p +ℤ q) (stays (omega (arith, ints, cost, s, h, k)) (omega (arith, ints, cost, s, h, k)) refl)
    (omega (arith, ints, cost, is, fits, h, k), omega (arith, ints, cost, is, fits, h, k))
reduced_is_shown g gap limit reach c p q cost (far is le) short fits (inr h) (inr k) =
    let s = short le in
    stored_as (c -ℤ p +ℤ q) (stays (omega (arith, ints, cost, s, h, k)) (omega (arith, ints, cost, s, h, k)) refl)
    (omega (arith, ints, cost, is, fits, h, k), omega (arith, ints, cost, is, fits, h, k))
reduced_is_shown g gap limit reach c p q cost (far is le) short fits (inl h) (inr k) =
    stored_as (c -ℤ p +ℤ q +ℤ pos (2 * gap)) (down (omega (arith, ints, cost, short le, is, h, k)) (omega (arith, ints)))
    (omega (arith, ints, cost, is, fits, h, k), omega (arith, ints, cost, is, fits, h, k))
reduced_is_shown g gap limit reach c p q cost (far is le) short fits (inr h) (inl k) =
    stored_as (c -ℤ p +ℤ q -ℤ pos (2 * gap)) (up (omega (arith, ints, cost, short le, is, h, k)) (omega (arith, ints)))
    (omega (arith, ints, cost, is, fits, h, k), omega (arith, ints, cost, is, fits, h, k))

-- the same the other way
pub turned_shown : (gap limit : ℕ) (left : Bool) (r : ℤ) → IsShown gap limit r → IsShown gap limit (price_change left r)
turned_shown gap limit true r h = h
turned_shown gap limit false r h =
    stored_as (neg_ℤ h.stored) (elim (is_moved stand_in (2 * gap) h.stored) [
      | up k f ↦ down (omega (arith, ints, k)) (omega (arith, ints, h.is, f))
      | down k f ↦ up (omega (arith, ints, k)) (omega (arith, ints, h.is, f))
      | stays j k f ↦ stays (omega (arith, ints, k)) (omega (arith, ints, j)) (omega (arith, ints, h.is, f))
    ]) (omega (arith, ints, h.small), omega (arith, ints, h.small))
