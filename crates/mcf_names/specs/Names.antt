-- Names, numbered from 1 in their order.
-- Source: own
use Rattle.std.specs.Prelude.{ℕ, ◌+◌, Bool, not, List, [], length, map, filter, take, slice_index_or, position, Option}
use Rattle.std.specs.List.{list_any, range_with_len}
use Rattle.std.specs.Option.{option_map}
use Rattle.std.specs.Str.{bytes_eq}

-- the number of the first name that is this one, if there is one
abbrev pub number_of : List ℕ → List (List ℕ) → Option ℕ
number_of name names = option_map (λ place. place + 1) (position (λ other. bytes_eq other name) names)

-- the name at this place, from 0
abbrev pub name_at : List (List ℕ) → ℕ → List ℕ
name_at names place = slice_index_or names place []

-- no name before this place is the same as the one there
abbrev pub is_first : List (List ℕ) → ℕ → Bool
is_first names place = not (list_any (λ other. bytes_eq other (name_at names place)) (take place names))

-- each name once, in the order in which they come first
abbrev pub distinct : List (List ℕ) → List (List ℕ)
distinct names = map (name_at names) (filter (is_first names) (range_with_len 0 (length names)))
