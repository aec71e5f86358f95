-- The least of some offers, by the prices of their ends: places of offers count from 0.
use Rattle.std.specs.Prelude.{◌≡◌, ℕ, ◌<◌, ◌≤◌, List, length, ℤ, pos, ◌+ℤ◌, ◌-ℤ◌, ◌<ℤ◌, ◌≤ℤ◌, Option, Some, None, slice_index_or}
use Rattle.mcf_flows.specs.Limits.{limits}
use Rattle.mcf_flows.specs.WellFormed.{IsUpTo}
use Rattle.mcf_basis.specs.declared.offer.ArcOffer.{ArcOffer}
use Rattle.mcf_basis.specs.Private.Gaps.{IsSpread}
use Rattle.mcf_basis.specs.Private.Layouts.{Prices, no_offer}
use Rattle.mcf_basis.specs.Structures.{price_limit}

-- what a unit along an offer costs, by the prices of its ends
abbrev pub reduced_by : List ℤ → ArcOffer → ℤ
reduced_by prices o = o.cost -ℤ slice_index_or prices o.from (pos 0) +ℤ slice_index_or prices o.to (pos 0)

-- the same of the offer at a place
abbrev pub reduced_of : List ℤ → List ArcOffer → ℕ → ℤ
reduced_of prices offers i = reduced_by prices (slice_index_or offers i no_offer)

-- both ends have prices, and the cost is within the limits
pub record HasPricedEnds (nodes : ℕ) (o : ArcOffer) : Type 0 where
  pub from : o.from < nodes
  pub to : o.to < nodes
  pub cost : IsUpTo limits.cost o.cost

-- its reduced cost can be computed: both prices have room
pub record CanReduce (prices : List ℤ) (o : ArcOffer) : Type 0 where
  pub ends : HasPricedEnds (length prices) o
  pub from_small : IsUpTo price_limit (slice_index_or prices o.from (pos 0))
  pub to_small : IsUpTo price_limit (slice_index_or prices o.to (pos 0))

-- the offers can be compared, by prices that lie no further from 0 than limit
pub record CanCompare (prices : List ℤ) (limit : ℕ) (offers : List ArcOffer) : Type 0 where
  pub ends : (i : ℕ) → i < length offers → HasPricedEnds (length prices) (slice_index_or offers i no_offer)
  pub small : (v : ℕ) → v < length prices → IsUpTo limit (slice_index_or prices v (pos 0))

-- both ends are nodes of the net, or it is the offer of an arc that can carry nothing
pub data HasOwnEnds (o : ArcOffer) : Type 0 where
  nodes : 0 < o.from → 0 < o.to → HasOwnEnds o
  nothing : o ≡ no_offer → HasOwnEnds o

-- the offers can be compared as a table stores the prices
pub record CanCompareIn (table : Prices) (offers : List ArcOffer) : Type 0 where
  pub compared : CanCompare table.prices table.limit offers
  pub spread : (v : ℕ) → 0 < v → v < length table.prices → IsSpread table.gap (slice_index_or table.prices v (pos 0))
  pub own : (i : ℕ) → i < length offers → HasOwnEnds (slice_index_or offers i no_offer)

-- of these offers the first of least reduced cost, which is below 0
pub record IsFirstLeast (prices : List ℤ) (offers : List ArcOffer) (begin end i : ℕ) : Type 0 where
  pub low : begin ≤ i
  pub high : i < end
  pub gains : reduced_of prices offers i <ℤ pos 0
  pub least : (j : ℕ) → begin ≤ j → j < end → reduced_of prices offers i ≤ℤ reduced_of prices offers j
  pub first : (j : ℕ) → begin ≤ j → j < i → reduced_of prices offers i <ℤ reduced_of prices offers j

-- that one, if there is one of reduced cost below 0
abbrev pub IsLeastOffer : List ℤ → List ArcOffer → ℕ → ℕ → Option ℕ → Type 0
IsLeastOffer prices offers begin end (Some i) = IsFirstLeast prices offers begin end i
IsLeastOffer prices offers begin end None = (j : ℕ) → begin ≤ j → j < end → pos 0 ≤ℤ reduced_of prices offers j
