-- Room for the offers that wait, and what relaxing arcs keeps.
use Rattle.std.specs.Prelude.{◌≡◌, ◌==◌, ℕ, ◌+◌, ◌≤◌, List, length, map}
use Rattle.std.specs.List.{count_by, list_any, range_with_len}
use Rattle.mcf_flows.specs.Network.{Network}
use Rattle.mcf_network.specs.declared.rid.Rid.{Rid}
use Rattle.mcf_network.specs.Residual.{arc_at}
use Rattle.mcf_matching.specs.declared.search.Tables.{Tables}
use Rattle.mcf_matching.specs.Private.Searches.{KeepsLabels, forward, search_of}

-- all arcs of a net, forward
abbrev pub all_forward : Network → List Rid
all_forward g = map forward (range_with_len 1 (length g.arcs))

-- how many arcs leave one of some nodes
unfoldable pub out_count : Network → List ℕ → ℕ
out_count g nodes = count_by (λ (r : Rid). list_any (λ v. (arc_at g r.arc).src == v) nodes) (all_forward g)

-- so many offers more can wait
abbrev pub HasRoom : {W : Type 0} → ℕ → Tables W → Type 0
HasRoom more tables = length tables.offers.items + more ≤ tables.offers.room

-- what was settled stays, in its order and at its distance; there is as much room in all as before,
-- and so many offers more wait at most
pub record KeepsSettled (more : ℕ) {W : Type 0} (old new : Tables W) : Type 0 where
  pub labels : KeepsLabels (search_of old) (search_of new)
  pub order : new.order ≡ old.order
  pub room : old.offers.room ≤ new.offers.room
  pub few : length new.offers.items ≤ length old.offers.items + more
