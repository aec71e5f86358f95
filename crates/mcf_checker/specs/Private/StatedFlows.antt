-- What the lines of a flow answer state, as a pass over the arcs reads them.
use Rattle.std.specs.Prelude.{◌≡◌, ◌==◌, ⊤, ℕ, ◌+◌, ◌≤◌, ◌<◌, if◌then◌else◌, List, length, map, ℤ, Option, Some, None, slice_get}
use Rattle.std.specs.List.{All}
use Rattle.std.specs.List.Sorted.{IsStrictlyIncreasing}
use Rattle.mcf_checker.specs.Correct.{amounts, spread, stated_or_low}
use Rattle.mcf_checker.specs.declared.stated.Stated.{Stated}
use Rattle.mcf_checker.specs.declared.stated.Stated.TheVariants.{Amounts, Each, Moved}
use Rattle.mcf_flows.specs.declared.arc.Arc.{Arc}

-- the flow that the lines give
abbrev pub flow_stated : List Arc → Stated → List ℤ
flow_stated arcs (Each sent) = amounts sent.now
flow_stated arcs (Moved moved) = spread arcs moved.now
flow_stated arcs (Amounts flow) = flow.now

-- numbers of arcs, from 1 on and strictly ascending
pub record AreArcsInOrder (moved : List (ℕ × ℤ)) : Type 0 where
  pub numbered : All (λ m. 1 ≤ m.0) moved
  pub ascending : IsStrictlyIncreasing (map (λ m. m.0) moved)

-- lines that name arcs do so in order
abbrev pub IsInOrder : Stated → Type 0
IsInOrder (Each sent) = ⊤
IsInOrder (Moved moved) = AreArcsInOrder moved.now
IsInOrder (Amounts flow) = ⊤

-- so many of the lines are of the arcs before a place, counted from 0
pub record IsNextLine (moved : List (ℕ × ℤ)) (place next : ℕ) : Type 0 where
  pub ascending : (i j : ℕ) (m n : ℕ × ℤ) → i < j → slice_get moved i ≡ Some m → slice_get moved j ≡ Some n → m.0 < n.0
  pub before : (i : ℕ) (m : ℕ × ℤ) → i < next → slice_get moved i ≡ Some m → m.0 ≤ place
  pub behind : (i : ℕ) (m : ℕ × ℤ) → next ≤ i → slice_get moved i ≡ Some m → place < m.0

-- the same of the lines of each form
abbrev pub IsNext : Stated → ℕ → ℕ → Type 0
IsNext (Each sent) place next = ⊤
IsNext (Moved moved) place next = IsNextLine moved.now place next
IsNext (Amounts flow) place next = ⊤

-- where there is a line for each arc, there is one for the arc at a place
abbrev pub HasLine : Stated → ℕ → Type 0
HasLine (Each sent) place = place < length sent.now
HasLine (Moved moved) place = ⊤
HasLine (Amounts flow) place = place < length flow.now

-- the flow that the lines state for the arc at a place
abbrev pub IsFlowAt : Stated → Arc → ℕ → ℤ → Type 0
IsFlowAt (Each sent) a place f = slice_get (amounts sent.now) place ≡ Some f
IsFlowAt (Moved moved) a place f = f ≡ stated_or_low moved.now (place + 1, a)
IsFlowAt (Amounts flow) a place f = slice_get flow.now place ≡ Some f

-- the flow of a line, if it is there and of the arc of this number
abbrev pub flow_if_of : ℕ → Option (ℕ × ℤ) → Option ℤ
flow_if_of number None = None
flow_if_of number (Some m) = if m.0 == number then Some m.1 else None
