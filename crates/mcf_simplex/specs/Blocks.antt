-- Block pricing (akin to the candidate list of Ahuja, Magnanti and Orlin, Network Flows, section
-- 11.5). The arcs are gone round once, from the one behind the block that gave the last pick, in
-- blocks of a size: the first block that has an eligible arc gives the one of greatest violation.
-- Source: AMO 11.5 (candidate list), the round own
use Rattle.std.specs.Prelude.{◌≡◌, ℕ, ◌+◌, ◌-◌, ◌*◌, ◌<◌, ◌≤◌, ◌⊎◌, nat_le, min, length, Option, Some, None, if◌then◌else◌}
use Rattle.mcf_basis.specs.Pivots.{IsEligible}
use Rattle.mcf_basis.specs.Structures.{TreeStructure}
use Rattle.mcf_basis.specs.Violations.{HasNoEligible, violation}

-- the size of the blocks, and the arc with which the next pick begins
pub record BlockRule : Type 0 where
  pub size : ℕ
  pub next : ℕ

-- with which arc of this many a pick begins: the first one, if there is no arc of the number
abbrev pub start_arc : ℕ → ℕ → ℕ
start_arc arcs next = if nat_le next arcs then next else 1

-- the arc at a place of the round that begins with the arc start: arc 1 follows the last one
abbrev pub arc_in_round : ℕ → ℕ → ℕ → ℕ
arc_in_round arcs start place = if nat_le (start + place) arcs then start + place else start + place - arcs

-- the arc of a basis's net at a place of the round that begins with the arc start
abbrev pub round_arc : TreeStructure → ℕ → ℕ → ℕ
round_arc b start place = arc_in_round (length b.net.arcs) start place

-- the place behind the block that begins at this place of the round: the last block may be shorter
abbrev pub block_end : ℕ → ℕ → ℕ → ℕ
block_end arcs size place = min (place + size) arcs

-- of the arcs at the places from begin up to but not including end the eligible one of greatest
-- violation, and of those of the same violation the one that is met first
pub record IsInBlock (b : TreeStructure) (start begin end k : ℕ) : Type 0 where
  pub place : ℕ
  pub low : begin ≤ place
  pub high : place < end
  pub is : k ≡ round_arc b start place
  pub eligible : IsEligible b k
  pub greatest : (p : ℕ) → begin ≤ p → p < end → IsEligible b (round_arc b start p) → violation b (round_arc b start p) ≤ violation b k
  pub first_one : (p : ℕ) → begin ≤ p → p < place → IsEligible b (round_arc b start p) → violation b (round_arc b start p) < violation b k

-- none of the arcs at these places is eligible
abbrev pub HasNoneInRound : TreeStructure → ℕ → ℕ → ℕ → Type 0
HasNoneInRound b start begin end = (p : ℕ) → begin ≤ p → p < end → ¬ IsEligible b (round_arc b start p)

-- what the arcs at these places give: the one of greatest violation, or none if none is eligible
abbrev pub IsRoundPick : TreeStructure → ℕ → ℕ → ℕ → Option ℕ → Type 0
IsRoundPick b start begin end (Some k) = IsInBlock b start begin end k
IsRoundPick b start begin end None = HasNoneInRound b start begin end

-- after some whole blocks without an eligible arc the next block gives k; the next pick begins
-- behind this block
pub record IsFound (b : TreeStructure) (old : BlockRule) (start k : ℕ) (new : BlockRule) : Type 0 where
  pub blocks : ℕ
  pub passed : HasNoneInRound b start 0 (blocks * old.size)
  pub found : IsInBlock b start (blocks * old.size) (block_end (length b.net.arcs) old.size (blocks * old.size)) k
  pub size : new.size ≡ old.size
  pub next : new.next ≡ round_arc b start (block_end (length b.net.arcs) old.size (blocks * old.size))

-- no arc is eligible, and the next pick begins where this one did
pub record IsNothing (b : TreeStructure) (old : BlockRule) (start : ℕ) (new : BlockRule) : Type 0 where
  pub none : HasNoEligible b
  pub size : new.size ≡ old.size
  pub next : new.next ≡ start

-- what the rule of blocks picks, and where it begins next
abbrev pub IsBlockPick : BlockRule → TreeStructure → Option ℕ → BlockRule → Type 0
IsBlockPick old b (Some k) new = IsFound b old (start_arc (length b.net.arcs) old.next) k new
IsBlockPick old b None new = IsNothing b old (start_arc (length b.net.arcs) old.next) new

-- of two arcs the one that violates more, the first of two that violate alike
abbrev pub IsMoreViolated : TreeStructure → Option ℕ → Option ℕ → Option ℕ → Type 0
IsMoreViolated b None late answer = answer ≡ late
IsMoreViolated b (Some e) None answer = answer ≡ Some e
IsMoreViolated b (Some e) (Some l) answer =
    ((answer ≡ Some e) × (violation b l ≤ violation b e)) ⊎ ((answer ≡ Some l) × (violation b e < violation b l))
