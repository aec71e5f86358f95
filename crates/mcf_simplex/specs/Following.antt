-- Block pricing in pieces. The arcs stand in some stretches, one after another and of one length
-- but for the last. A block has a piece of each stretch: the arcs whose places in their stretches
-- lie in one range. The blocks are gone round once, from the place behind the block that gave the
-- last pick: the first block that has an eligible arc gives the one of greatest violation. In how
-- many stretches the arcs stand and how long the pieces are may change from pick to pick; the rule
-- afterwards tells with which it picked.
-- Source: own, akin to AMO 11.5 (candidate list)
use Rattle.std.specs.Prelude.{◌≡◌, ℕ, ◌+◌, ◌-◌, ◌*◌, ◌%◌, ◌<◌, ◌≤◌, ◌⊎◌, min, nat_le, length, Option, Some, None, if◌then◌else◌}
use Rattle.std.specs.Int.{div_ceil}
use Rattle.mcf_basis.specs.Structures.{TreeStructure}
use Rattle.mcf_basis.specs.Violations.{HasNoEligible, HasNoneOf, IsMostViolated}

-- in how many stretches the arcs stood at the last pick, how many arcs a piece had, and with which
-- place the next pick begins
pub record FollowingRule : Type 0 where
  pub stretches : ℕ
  pub piece : ℕ
  pub place : ℕ

-- the rule that has picked nothing
abbrev pub first_following : FollowingRule
first_following = record { stretches = 1; piece = 1; place = 0 }

-- the place of an arc in its stretch, counted from 0, where stretches have this length
abbrev pub place_of : ℕ → ℕ → ℕ
place_of length k = (k - 1) % length

-- the arc's place in its stretch is from begin up to but not including end
abbrev pub IsInBlockOf : ℕ → ℕ → ℕ → ℕ → Type 0
IsInBlockOf length begin end k = (begin ≤ place_of length k) × (place_of length k < end)

-- the places from one up to but not including another are gone through in blocks, of which the last
-- may be shorter: after some blocks without an eligible arc the next one, which ends before the
-- place next, gives k
pub record IsFirstBlock (b : TreeStructure) (length piece from until k next : ℕ) : Type 0 where
  pub blocks : ℕ
  pub passed : HasNoneOf b (IsInBlockOf length from (from + blocks * piece))
  pub ends : next ≡ min (from + blocks * piece + piece) until
  pub found : IsMostViolated b (IsInBlockOf length (from + blocks * piece) next) k

-- with which place of stretches of this length a pick begins: the first one, if there is no place
-- of the number
abbrev pub start_place : ℕ → ℕ → ℕ
start_place length place = if nat_le (place + 1) length then place else 0

-- a pick of k from a place on: a block from there to the end of the stretches gives it, or none
-- does, and one of those before the place gives it
abbrev pub IsFoundAround : TreeStructure → ℕ → ℕ → ℕ → ℕ → ℕ → Type 0
IsFoundAround b length piece start k next =
    IsFirstBlock b length piece start length k next
    ⊎ (HasNoneOf b (IsInBlockOf length start length) × IsFirstBlock b length piece 0 start k next)

-- what a pick gives: the arc that is found, or none; the next pick begins behind the block that
-- gave it, or where this one did
abbrev pub IsFoundOrNone : TreeStructure → ℕ → ℕ → ℕ → Option ℕ → ℕ → Type 0
IsFoundOrNone b length piece start (Some k) next = IsFoundAround b length piece start k next
IsFoundOrNone b length piece start None next = HasNoEligible b × (next ≡ start)

-- how long the stretches of a basis's net are with which a rule picks
abbrev pub stretch_of : TreeStructure → FollowingRule → ℕ
stretch_of b rule = div_ceil (length b.net.arcs) rule.stretches

-- what the rule picks
pub record IsFollowingPick (old : FollowingRule) (b : TreeStructure) (answer : Option ℕ) (new : FollowingRule) : Type 0 where
  pub some_stretches : 1 ≤ new.stretches
  pub some_arcs : 1 ≤ new.piece
  pub found : IsFoundOrNone b (stretch_of b new) new.piece (start_place (stretch_of b new) old.place) answer new.place
