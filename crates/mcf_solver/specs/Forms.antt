-- In which form a flow is written.
-- Source: own
use Rattle.std.specs.Prelude.{◌≡◌, ⊤, ℕ, List, ℤ, Option, Some, None, Result, Ok, Err, filter_map, if◌then◌else◌, zip}
use Rattle.std.specs.List.{enumerate_from}
use Rattle.std.specs.Ordering.{int_eq}
use Rattle.mcf_answer.specs.declared.answers.Answer.{Answer}
use Rattle.mcf_answer.specs.declared.answers.Answer.TheVariants.{Flow, Sparse, Blocked, Refused}
use Rattle.mcf_checker.specs.Correct.{spread}
use Rattle.mcf_flows.specs.declared.arc.Arc.{Arc}
use Rattle.mcf_flows.specs.Codes.{Fault}
use Rattle.mcf_flows.specs.Network.{Network}
use Rattle.mcf_choice.specs.declared.choice.Form.{Form}
use Rattle.mcf_choice.specs.declared.choice.Form.TheVariants.{One, Two}

-- the number of an arc with what it carries, unless that is its low
abbrev pub moved_arc : ℕ × (Arc × ℤ) → Option (ℕ × ℤ)
moved_arc line = if int_eq line.1.1 line.1.0.low then None else Some (line.0, line.1.1)

-- the arcs that carry another flow than their low, ascending, each by its number with what it
-- carries
abbrev pub moved_of : List Arc → List ℤ → List (ℕ × ℤ)
moved_of arcs flow = filter_map moved_arc (enumerate_from 1 (zip arcs flow))

-- a flow's answer has the form that is asked for; the second names exactly the arcs whose flow
-- isn't their low
abbrev pub HasForm : Form → Result Network Fault → Answer → Type 0
HasForm form (Ok g) (Flow a) = form ≡ One
HasForm form (Ok g) (Sparse a) = (form ≡ Two) × (a.moved ≡ moved_of g.arcs (spread g.arcs a.moved))
HasForm form (Ok g) (Blocked a) = ⊤
HasForm form (Ok g) (Refused r) = ⊤
HasForm form (Err fault) a = ⊤
