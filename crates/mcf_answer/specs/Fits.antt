-- The lines of a text that fit, and the first that doesn't.
-- Source: own
use Rattle.std.specs.Prelude.{ℕ, ◌+◌, ◌-◌, ◌==◌, nat_lt, Bool, true, false, ◌&&◌, ◌||◌, if◌then◌else◌, List, [], ◌∷◌, map, length, filter_map, ℤ, Option, Some}
use Rattle.std.specs.Prelude.{None, is_some, slice_get}
use Rattle.std.specs.Option.{option_or, option_map_or}
use Rattle.mcf_answer.specs.Said.{Opening, OpensFlow, OpensSparse, OpensSet, OpensRefusal, opening_said, cost_said, sent_said, moved_said, price_said}
use Rattle.mcf_answer.specs.Said.{member_said}
use Rattle.mcf_answer.specs.SparseSolution.{arc_numbers}
use Rattle.mcf_answer.specs.Token.{Token, tokens}
use Rattle.mcf_answer.specs.declared.answers.Sent.{Sent}
use Rattle.mcf_text.specs.Row.{Row, rows, line_after, with_earlier}

-- ---- what the lines after the first say

-- what the flow lines say, in order
abbrev pub sent_lines : List (List Token) → List Sent
sent_lines lines = filter_map sent_said lines

-- the arcs and flows of the `g` lines, in order
abbrev pub moved_lines : List (List Token) → List (ℕ × ℤ)
moved_lines lines = filter_map moved_said lines

-- the nodes and prices of the price lines, in order
abbrev pub price_lines : List (List Token) → List (ℕ × ℤ)
price_lines lines = filter_map price_said lines

-- the nodes of the member lines, `x ID`, in order
abbrev pub member_lines : List (List Token) → List ℕ
member_lines lines = filter_map member_said lines

-- ---- lines that fit

-- the number is greater than the last of the list, if there is one
abbrev pub is_above_last : List ℕ → ℕ → Bool
is_above_last earlier v = option_map_or (λ w. nat_lt w v) (slice_get earlier (length earlier - 1)) true

-- a price line with this number
abbrev pub is_price_of : ℕ → List Token → Bool
is_price_of id line = option_map_or (λ y. y.0 == id) (price_said line) false

-- a `g` line whose arc is above the last of these
abbrev pub is_moved_above : List (ℕ × ℤ) → List Token → Bool
is_moved_above earlier line = option_map_or (λ m. is_above_last (arc_numbers earlier) m.0) (moved_said line) false

-- a member line whose number is greater than the last of these
abbrev pub is_node_above : List ℕ → List Token → Bool
is_node_above earlier line = option_map_or (λ v. is_above_last earlier v) (member_said line) false

-- whether a line fits after a version line, and the lines between the two: next to it a cost line;
-- after that a `g` line with no price line before it, whose arc is above that of the last `g` line,
-- or the price line of the next number
abbrev pub fits_sparse : List (List Token) → List Token → Bool
fits_sparse [] line = is_some (cost_said line)
fits_sparse (cost ∷ others) line =
    (is_moved_above (moved_lines others) line && length (price_lines others) == 0) || is_price_of (length (price_lines others) + 1) line

-- whether a line fits after a first line that opens an answer, and the lines between the two: a
-- flow line with no price line before it, or the price line of the next number; of a set a member
-- line, where fewer nodes stand before it than the set has, and its number is above the last of
-- them
abbrev pub fits_after : Option Opening → List (List Token) → List Token → Bool
fits_after None others line = false
fits_after (Some (OpensFlow cost)) others line =
    (is_some (sent_said line) && length (price_lines others) == 0) || is_price_of (length (price_lines others) + 1) line
fits_after (Some OpensSparse) others line = fits_sparse others line
fits_after (Some (OpensSet side count)) others line =
    nat_lt (length (member_lines others)) count && is_node_above (member_lines others) line
fits_after (Some (OpensRefusal r)) others line = false

-- whether a line fits, where these are the kept lines before it
unfoldable pub fits : List (List Token) → List Token → Bool
fits [] line = is_some (opening_said line)
fits (first ∷ others) line = fits_after (opening_said first) others line

-- ---- the first line that doesn't fit

-- a line, after those before it, by its number, if it doesn't fit
abbrev pub as_misfit : List Row × Row → Option ℕ
as_misfit line = if fits (map tokens line.0) (tokens line.1) then None else Some line.1.number

-- the lines that don't fit, each judged by those before it
unfoldable pub misfits : List Row → List ℕ
misfits lines = filter_map as_misfit (with_earlier lines)

-- after a version line there is a cost line; after a first line that opens a set there are as many
-- member lines as the set has nodes
abbrev pub has_all : Option Opening → List (List Token) → Bool
has_all None others = true
has_all (Some (OpensFlow cost)) others = true
has_all (Some OpensSparse) others = nat_lt 0 (length others)
has_all (Some (OpensSet side count)) others = length (member_lines others) == count
has_all (Some (OpensRefusal r)) others = true

-- there is a first line, and no line is missing
unfoldable pub is_complete : List (List Token) → Bool
is_complete [] = false
is_complete (first ∷ others) = has_all (opening_said first) others

-- the first of the kept lines that doesn't fit; if each fits but some are missing, the line after
-- the last
unfoldable pub misfit_of_lines : ℕ → List Row → Option ℕ
misfit_of_lines after lines =
    option_or (slice_get (misfits lines) 0) (if is_complete (map tokens lines) then None else Some after)

-- the line at which a text is seen to be no answer, if it is none
unfoldable pub misfit : List ℕ → Option ℕ
misfit text = misfit_of_lines (line_after text) (rows text)
