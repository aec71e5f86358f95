-- Block pricing for large nets. The arcs stand in four stretches, one after another and of one
-- length but for the last, and a stretch in blocks of a size. Turns go round the stretches: the
-- first block of each, then the second of each, and so on. So blocks that are looked at one after
-- another lie far apart, as in the mixed order of the arcs of LEMON's network simplex.
-- Source: own, akin to AMO 11.5
use Rattle.std.specs.Prelude.{◌≡◌, ℕ, ◌+◌, ◌-◌, ◌*◌, ◌/◌, ◌%◌, ◌<◌, ◌≤◌, min, max, nat_le, length, Option, Some, None, if◌then◌else◌}
use Rattle.std.specs.Int.{div_ceil}
use Rattle.mcf_basis.specs.Structures.{TreeStructure}
use Rattle.mcf_basis.specs.Violations.{HasNoEligible, HasNoneOf, IsFrom, IsMostViolated}

-- the size of the blocks, and the turn with which the next pick begins
pub record WideRule : Type 0 where
  pub size : ℕ
  pub next : ℕ

-- the greatest number whose square is at most n
abbrev pub IsRoot : ℕ → ℕ → Type 0
IsRoot n root = (root * root ≤ n) × (n < (root + 1) * (root + 1))

-- the rule for this many arcs that has picked nothing: its blocks have the root of twice their
-- number, rounded down, but 256 arcs at least
pub record IsWideFor (arcs : ℕ) (rule : WideRule) : Type 0 where
  pub root : ℕ
  pub is_root : IsRoot (2 * arcs) root
  pub size : rule.size ≡ max 256 root
  pub next : rule.next ≡ 0

-- how many arcs a stretch has
abbrev pub stretch_length : ℕ → ℕ
stretch_length arcs = div_ceil arcs 4

-- how many turns look at each block once
abbrev pub turn_count : ℕ → ℕ → ℕ
turn_count arcs size = 4 * div_ceil (stretch_length arcs) size

-- the first arc that is looked at at a turn
abbrev pub turn_begin : ℕ → ℕ → ℕ → ℕ
turn_begin arcs size turn = min (turn % 4 * stretch_length arcs + turn / 4 * size) arcs + 1

-- the arc behind the last that is looked at at a turn
abbrev pub turn_end : ℕ → ℕ → ℕ → ℕ
turn_end arcs size turn = min (turn % 4 * stretch_length arcs + min (turn / 4 * size + size) (stretch_length arcs)) arcs + 1

-- with which of this many turns a pick begins: the first one, if there is no turn of the number
abbrev pub start_turn : ℕ → ℕ → ℕ
start_turn turns next = if nat_le (next + 1) turns then next else 0

-- the turn after so many that were passed from a turn on: the first follows the last one
abbrev pub turn_after : ℕ → ℕ → ℕ → ℕ
turn_after turns start passed = if nat_le (start + passed + 1) turns then start + passed else start + passed - turns

-- none of the arcs that are looked at at a turn is eligible
abbrev pub HasNoneAt : TreeStructure → ℕ → ℕ → Type 0
HasNoneAt b size turn = HasNoneOf b (IsFrom (turn_begin (length b.net.arcs) size turn) (turn_end (length b.net.arcs) size turn))

-- after some turns without an eligible arc the next one gives k, of its arcs the eligible one of
-- greatest violation, and of those of the same violation the one of least number; the next pick
-- begins with the turn after
pub record IsFoundAt (b : TreeStructure) (old : WideRule) (turns start k : ℕ) (new : WideRule) : Type 0 where
  pub passed : ℕ
  pub in_round : passed < turns
  pub none : (p : ℕ) → p < passed → HasNoneAt b old.size (turn_after turns start p)
  pub found : IsMostViolated b (IsFrom (turn_begin (length b.net.arcs) old.size (turn_after turns start passed))
      (turn_end (length b.net.arcs) old.size (turn_after turns start passed))) k
  pub size : new.size ≡ old.size
  pub next : new.next ≡ turn_after turns start (passed + 1)

-- no arc is eligible, and the next pick begins where this one did
pub record IsNoneFound (b : TreeStructure) (old : WideRule) (start : ℕ) (new : WideRule) : Type 0 where
  pub none : HasNoEligible b
  pub size : new.size ≡ old.size
  pub next : new.next ≡ start

-- what a pick gives: the arc that is found, or none
abbrev pub IsWidePick : WideRule → TreeStructure → Option ℕ → WideRule → Type 0
IsWidePick old b (Some k) new =
    IsFoundAt b old (turn_count (length b.net.arcs) old.size) (start_turn (turn_count (length b.net.arcs) old.size) old.next) k new
IsWidePick old b None new = IsNoneFound b old (start_turn (turn_count (length b.net.arcs) old.size) old.next) new
