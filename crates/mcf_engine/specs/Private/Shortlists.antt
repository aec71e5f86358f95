-- The residual arcs that cost less than the threshold of the node that they enter, each listed
-- once: a chain of entries for each node.
use Rattle.std.specs.Prelude.{◌≡◌, ◌≢◌, ℕ, ◌-◌, ◌<◌, ◌≤◌, false, true, not, List, length, map, ℤ, ◌<ℤ◌, slice_index_or}
use Rattle.std.specs.List.{Contains}
use Rattle.mcf_flows.specs.Network.{Network, IsArcNumber, IsNode, at_node, node_count}
use Rattle.mcf_network.specs.declared.rid.Rid.{Rid}
use Rattle.mcf_network.specs.Residual.{tail, head, unit_cost}
use Rattle.mcf_network.specs.States.{Pseudoflow}
use Rattle.mcf_network.specs.Walks.{HasRoom}
use Rattle.mcf_engine.specs.declared.near_state.NearState.{NearState}
use Rattle.mcf_engine.specs.declared.shortlist.ChainEntry.{ChainEntry}
use Rattle.mcf_engine.specs.declared.shortlist.Shortlist.{Shortlist}

-- the entry past the end
abbrev pub no_entry : ChainEntry
no_entry = record { arc = 0; back = false; next = 0 }

-- the entry at a place
abbrev pub entry_at : List ChainEntry → ℕ → ChainEntry
entry_at entries i = slice_index_or entries i no_entry

-- the residual arc of an entry, which leaves the node whose chain it is in
abbrev pub out_of : ChainEntry → Rid
out_of e = record { arc = e.arc; back = e.back }

-- c is one more than the place of the last of that many first entries that leaves node w, or 0
-- where none does
pub record IsLastEntry (g : Network) (entries : List ChainEntry) (w c count : ℕ) : Type 0 where
  pub low : c ≤ count
  pub leaves : 1 ≤ c → tail g (out_of (entry_at entries (c - 1))) ≡ w
  pub last : (j : ℕ) → c ≤ j → j < count → tail g (out_of (entry_at entries j)) ≢ w

-- the entries are residual arcs of the net; the head of each node links to its last entry, and each
-- entry to the one of the same node before it
pub record AreChains (g : Network) (heads : List ℕ) (entries : List ChainEntry) : Type 0 where
  pub head_count : length heads ≡ node_count g
  pub arcs : (i : ℕ) → i < length entries → IsArcNumber g (entry_at entries i).arc
  pub first : (w : ℕ) → IsNode (node_count g) w → IsLastEntry g entries w (slice_index_or heads (w - 1) 0) (length entries)
  pub next : (i : ℕ) → i < length entries → IsLastEntry g entries (tail g (out_of (entry_at entries i))) (entry_at entries i).next i

-- a residual arc with room that costs less than the threshold of the node that it enters has its
-- reverse in the list
abbrev pub IsListed : Pseudoflow → List ℤ → List ChainEntry → Rid → Type 0
IsListed s passed entries r =
    HasRoom s r → unit_cost s.net r <ℤ at_node passed (head s.net r) → Contains (map out_of entries) (record { arc = r.arc; back = not r.back })

-- the list is whole: chains, in which each such residual arc stands
pub record IsWhole (s : Pseudoflow) (passed : List ℤ) (heads : List ℕ) (entries : List ChainEntry) : Type 0 where
  pub chains : AreChains s.net heads entries
  pub every : (r : Rid) → IsListed s passed entries r

-- if a list says that it is whole, it is, with a threshold for each node
abbrev pub IsFilled : NearState → Shortlist → Type 0
IsFilled p list =
    list.whole ≡ true
    → (length list.passed.items ≡ node_count p.state.now.net) × IsWhole p.state.now list.passed.items list.heads.items list.entries.items

-- each entry says where the one of the same node before it stands, and an entry of node w stands
-- before place c, or c is 0
pub record IsChain (g : Network) (entries : List ChainEntry) (w c : ℕ) : Type 0 where
  pub low : c ≤ length entries
  pub leaves : 1 ≤ c → tail g (out_of (entry_at entries (c - 1))) ≡ w
  pub arcs : (i : ℕ) → i < length entries → IsArcNumber g (entry_at entries i).arc
  pub next : (i : ℕ) → i < length entries → IsLastEntry g entries (tail g (out_of (entry_at entries i))) (entry_at entries i).next i

-- a list has the residual arcs of the entries before place c that leave node w
abbrev pub HasChain : Network → List ChainEntry → ℕ → ℕ → List Rid → Type 0
HasChain g entries w c rest = (i : ℕ) → i < c → tail g (out_of (entry_at entries i)) ≡ w → Contains rest (out_of (entry_at entries i))

-- a residual arc was put into the list, if it belongs there, and what was listed still is
pub record IsPut (s : Pseudoflow) (passed : List ℤ) (heads : List ℕ) (before entries : List ChainEntry) (r : Rid) : Type 0 where
  pub chains : AreChains s.net heads entries
  pub kept : (out : Rid) → Contains (map out_of before) out → Contains (map out_of entries) out
  pub here : IsListed s passed entries r
