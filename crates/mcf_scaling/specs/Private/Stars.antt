-- The forward star: the residual arcs that leave each node, side by side, as a scan reads them; the
-- position of each; and a mark for each that has capacity.
use Rattle.std.specs.Prelude.{◌≡◌, ◌≢◌, ℕ, ◌+◌, ◌-◌, ◌*◌, ◌/◌, ◌%◌, ◌==◌, ◌<◌, ◌≤◌, Bool, false, List, length, map, drop, take, slice_index_or, pos}
use Rattle.std.specs.Bool.{OnFalse, OnTrue}
use Rattle.std.specs.List.{All}
use Rattle.mcf_flows.specs.Network.{Network, IsNode, node_count}
use Rattle.mcf_network.specs.declared.rid.Rid.{Rid}
use Rattle.mcf_network.specs.Residual.{head, unit_cost}
use Rattle.mcf_network.specs.Stars.{ListsLeaving}
use Rattle.mcf_network.specs.States.{Pseudoflow}
use Rattle.mcf_network.specs.Walks.{HasRoom}
use Rattle.mcf_scaling.specs.declared.star.ResidualArc.{ResidualArc}
use Rattle.mcf_scaling.specs.declared.star.Span.{Span}

-- for each node the positions of the residual arcs that leave it; the residual arc at each
-- position; and for each number of a residual arc its position
pub record Star : Type 0 where
  pub spans : List Span
  pub outs : List ResidualArc
  pub positions : List ℕ

-- the residual arc of a number: two for each arc, forward and backward
abbrev pub residual_of : ℕ → Rid
residual_of link = record { arc = link / 2 + 1; back = link % 2 == 1 }

-- a residual arc of the net, what it costs, and the node that it enters
pub record IsResidualArc (g : Network) (p : ResidualArc) : Type 0 where
  pub link : p.link < 2 * length g.arcs
  pub cost : p.cost ≡ unit_cost g (residual_of p.link)
  pub head : p.head ≡ head g (residual_of p.link)

-- no positions
abbrev pub no_span : Span
no_span = record { first = 0; end = 0 }

-- what is read past the last position
abbrev pub no_out : ResidualArc
no_out = record { cost = pos 0; head = 0; link = 0 }

-- the positions of the residual arcs that leave a node
abbrev pub span_of : Star → ℕ → Span
span_of star v = slice_index_or star.spans (v - 1) no_span

-- the residual arc at a position, as a scan reads it
abbrev pub out_at : Star → ℕ → ResidualArc
out_at star i = slice_index_or star.outs i no_out

-- which residual arc that is
abbrev pub residual_at : ResidualArc → Rid
residual_at p = residual_of p.link

-- the residual arcs at the positions from one up to another
abbrev pub residuals : List ResidualArc → ℕ → ℕ → List Rid
residuals outs i end = map residual_at (drop i (take end outs))

-- that of the first n nodes: at the positions of each stand the residual arcs that leave it, and
-- each position is one of a node
pub record IsStarUpTo (g : Network) (star : Star) (n : ℕ) : Type 0 where
  pub count : length star.spans ≡ n
  pub each : All (IsResidualArc g) star.outs
  pub rises : (v : ℕ) → IsNode n v → (span_of star v).first ≤ (span_of star v).end
  pub within : (v : ℕ) → IsNode n v → (span_of star v).end ≤ length star.outs
  pub lists : (v : ℕ) → IsNode n v → ListsLeaving g v (residuals star.outs (span_of star v).first (span_of star v).end)
  pub covers : (i : ℕ) → i < length star.outs → (v : ℕ) × IsNode n v × ((span_of star v).first ≤ i) × (i < (span_of star v).end)

-- the star of a net
abbrev pub IsStarOf : Network → Star → Type 0
IsStarOf g star = IsStarUpTo g star (node_count g)

-- the position of a residual arc, by its number
abbrev pub position_of : List ℕ → ℕ → ℕ
position_of positions link = slice_index_or positions link 0

-- of each residual arc at the first n positions one of these is known at which it stands
pub record ArePositionsUpTo (star : Star) (n : ℕ) : Type 0 where
  pub within : (i : ℕ) → i < n → position_of star.positions (out_at star i).link < n
  pub same : (i : ℕ) → i < n → (out_at star (position_of star.positions (out_at star i).link)).link ≡ (out_at star i).link

-- each residual arc has one position, which is known
pub record ArePositions (g : Network) (star : Star) : Type 0 where
  pub count : length star.positions ≡ 2 * length g.arcs
  pub within : (link : ℕ) → link < length star.positions → position_of star.positions link < length star.outs
  pub there : (link : ℕ) → link < length star.positions → (out_at star (position_of star.positions link)).link ≡ link
  pub only : (i : ℕ) → i < length star.outs → position_of star.positions (out_at star i).link ≡ i

-- a mark says whether a residual arc has room
pub record IsCapacityMark (s : Pseudoflow) (r : Rid) (mark : Bool) : Type 0 where
  pub yes : OnTrue mark (HasRoom s r)
  pub no : OnFalse mark (¬ HasRoom s r)

-- the mark of a position
abbrev pub mark_of : List Bool → ℕ → Bool
mark_of has_capacity i = slice_index_or has_capacity i false

-- the residual arc at a position
abbrev pub standing : Star → ℕ → Rid
standing star i = residual_at (out_at star i)

-- a mark for each position of a residual arc of the first n arcs, and one for each of the others
-- that says nothing
pub record AreCapacityMarksUpTo (s : Pseudoflow) (star : Star) (has_capacity : List Bool) (n : ℕ) : Type 0 where
  pub count : length has_capacity ≡ length star.outs
  pub each : (i : ℕ) → i < length has_capacity → (standing star i).arc ≤ n → IsCapacityMark s (standing star i) (mark_of has_capacity i)

-- a mark for each position
pub record AreCapacityMarks (s : Pseudoflow) (star : Star) (has_capacity : List Bool) : Type 0 where
  pub count : length has_capacity ≡ length star.outs
  pub each : (i : ℕ) → i < length has_capacity → IsCapacityMark s (standing star i) (mark_of has_capacity i)

-- the marks of an arc were written, and no other
pub record IsMarked (s : Pseudoflow) (star : Star) (old new : List Bool) (k : ℕ) : Type 0 where
  pub count : length new ≡ length old
  pub here : (i : ℕ) → i < length new → (standing star i).arc ≡ k → IsCapacityMark s (standing star i) (mark_of new i)
  pub others : (i : ℕ) → i < length new → (standing star i).arc ≢ k → mark_of new i ≡ mark_of old i
