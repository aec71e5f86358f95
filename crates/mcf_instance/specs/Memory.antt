-- Where reading a text takes memory.
-- Source: own
use Rattle.std.specs.Prelude.{◌≡◌, ℕ, ◌≤◌, ◌<◌, List, find, Some}
use Rattle.mcf_instance.specs.Fault.{first_fault, header, is_p}
use Rattle.mcf_flows.specs.Codes.{Fault}
use Rattle.mcf_flows.specs.Limits.{Limits}
use Rattle.mcf_text.specs.Row.{Row, rows}

-- the first problem line is good, names a node, and comes before the first fault
pub record NamesNodes (allowed : Limits) (text : List ℕ) : Type 0 where
  pub nodes : 1 ≤ (header (rows text)).nodes
  pub before_fault : (row : Row) (fault : Fault) → find is_p (rows text) ≡ Some row → first_fault allowed text ≡ Some fault → row.number < fault.line
