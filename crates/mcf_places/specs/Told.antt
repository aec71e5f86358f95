-- Sets of a model's places, told as sets of the problem's places: where the hub is in the set, the
-- other places are told, and the other side.
-- Source: own
use Rattle.std.specs.Prelude.{Bool, List, length, map}
use Rattle.std.specs.List.{range_with_len}
use Rattle.mcf_flows.specs.Blocking.{in_table}
use Rattle.mcf_model.specs.Complements.{turned_if}
use Rattle.mcf_places.specs.declared.places.Place.{Place}
use Rattle.mcf_places.specs.Models.{exit_of}

-- the entries of places that a table marks
abbrev pub entries_told : Bool → List Bool → List Place → List Bool
entries_told turned table places = map (λ v. turned_if turned (in_table table v)) (range_with_len 1 (length places))

-- the exits of places that a table marks
abbrev pub exits_told : Bool → List Bool → List Place → List Bool
exits_told turned table places = map (λ v. turned_if turned (in_table table (exit_of places v))) (range_with_len 1 (length places))
