-- Sets of a model's places, told of persons and things: where the hub is in the set, all others are
-- told, and the other side.
-- Source: own
use Rattle.std.specs.Prelude.{ℕ, ◌+◌, Bool, List, map}
use Rattle.std.specs.List.{range_with_len}
use Rattle.mcf_flows.specs.Blocking.{in_table}
use Rattle.mcf_model.specs.Complements.{turned_if}

-- the marks of a table for so many places, after so many others
abbrev pub tests_told : Bool → List Bool → ℕ → ℕ → List Bool
tests_told turned table before count = map (λ v. turned_if turned (in_table table (before + v))) (range_with_len 1 count)
