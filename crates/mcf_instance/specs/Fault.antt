-- The faults of an instance text.
-- Source: own
use Rattle.std.specs.Prelude.{ℕ, ◌==◌, nat_le, nat_lt, Bool, true, false, not, ◌&&◌, ◌||◌, if◌then◌else◌, List, [], ◌∷◌, ◌++◌, map, length, filter, filter_map}
use Rattle.std.specs.Prelude.{find, bytes_eq, codes, drop, ℤ, pos, neg_ℤ, int_lt, Option, Some, None, option_map, slice_get, ◌*◌, max, sum, unsigned_abs}
use Rattle.std.specs.List.{list_all, list_any}
use Rattle.std.specs.Option.{option_or, option_map_or}
use Rattle.mcf_flows.specs.declared.code.Code.{Code}
use Rattle.mcf_flows.specs.declared.code.Code.TheVariants.{Kind, Fields, Problem, Number, SecondP, BeforeP, Size, Node, LateN, Twice, Supply, Bound, Order}
use Rattle.mcf_flows.specs.declared.code.Code.TheVariants.{Cost, Extra, Side, Total, NoP, Missing}
use Rattle.mcf_flows.specs.Codes.{Fault, table}
use Rattle.mcf_flows.specs.declared.problem.Problem.{Problem as Format}
use Rattle.mcf_flows.specs.declared.problem.Problem.TheVariants.{Min, Asn}
use Rattle.mcf_instance.specs.declared.reader.line.Header.{Header}
use Rattle.mcf_flows.specs.Limits.{Limits, node_limit, arc_limit}
use Rattle.mcf_text.specs.Row.{Row, rows, field, begins, number, natural, node, with_earlier, line_after}
use Rattle.mcf_text.specs.Whole.{is_whole, is_within}

-- ---- the kinds of lines

-- a problem line
-- Source: DIMACS
abbrev pub is_p : Row → Bool
is_p row = begins (codes "p") row

-- a node line
-- Source: DIMACS
abbrev pub is_n : Row → Bool
is_n row = begins (codes "n") row

-- an arc line
-- Source: DIMACS
abbrev pub is_a : Row → Bool
is_a row = begins (codes "a") row

-- ---- the problem line

-- the second field is `min` or `asn`
-- Source: DIMACS
abbrev pub has_problem_word : Row → Bool
has_problem_word row = bytes_eq (field row 1) (codes "min") || bytes_eq (field row 1) (codes "asn")

-- the problem that the second field names
-- Source: DIMACS
abbrev pub problem_of : Row → Format
problem_of row = if bytes_eq (field row 1) (codes "asn") then Asn else Min

-- the third field is a number of nodes within its limit, and the fourth one of arcs
abbrev pub size_fits : Row → Bool
size_fits row = is_within (pos 0) (pos node_limit) (number row 2) && is_within (pos 0) (pos arc_limit) (number row 3)

-- four fields, a problem's word and two counts that fit; the first field isn't looked at
abbrev pub is_good_header : Row → Bool
is_good_header row = length row.fields == 4 && has_problem_word row && is_whole (field row 2) && is_whole (field row 3) && size_fits row

-- what stands for the problem line if there is none, or it is faulty
abbrev pub no_header : Header
no_header = record { problem = Min; nodes = 0; arcs = 0 }

-- the number that a field says as a number of nodes or arcs
abbrev pub count : Row → ℕ → ℕ
count row k = natural (number row k)

-- what a row says as a problem line
abbrev pub header_of : Row → Header
header_of row = if is_good_header row then record { problem = problem_of row; nodes = count row 2; arcs = count row 3 } else no_header

-- what the first problem line of some lines says
abbrev pub header : List Row → Header
header lines = option_map_or header_of (find is_p lines) no_header

-- whether the problem is the flow problem
abbrev pub is_min : Format → Bool
is_min Min = true
is_min Asn = false

-- ---- what the lines before say

-- a problem line is among the lines before
abbrev pub has_p : List Row → Bool
has_p earlier = list_any is_p earlier

-- the nodes that have a node line
abbrev pub listed : List Row → List ℕ
listed earlier = map (λ row. node row 1) (filter is_n earlier)

-- the node has a node line among the lines before
abbrev pub is_listed : List Row → ℕ → Bool
is_listed earlier v = list_any (λ w. w == v) (listed earlier)

-- the arc lines
abbrev pub arc_lines : List Row → List Row
arc_lines earlier = filter is_a earlier

-- the lines before are of the flow problem
abbrev pub of_min : List Row → Bool
of_min earlier = is_min (header earlier).problem

-- ---- the numbers of a line

-- the fields that should be whole numbers
-- Source: DIMACS
abbrev pub number_fields : Row → List (List ℕ)
number_fields row = if is_p row then drop 2 row.fields else drop 1 row.fields

-- the numbers of fields that are right: before any problem line, those of either problem
abbrev pub field_counts : List Row → Row → List ℕ
field_counts earlier row =
    if is_p row then 4 ∷ []
    else (if not (has_p earlier) then (if is_n row then 3 ∷ 2 ∷ [] else 6 ∷ 4 ∷ [])
    else (if of_min earlier then (if is_n row then 3 ∷ [] else 6 ∷ [])
    else (if is_n row then 2 ∷ [] else 4 ∷ [])))

-- whether the number of fields is right
abbrev pub has_field_count : List Row → Row → Bool
has_field_count earlier row = list_any (λ n. length row.fields == n) (field_counts earlier row)

-- whether the fields that should be whole numbers are
abbrev pub has_numbers : Row → Bool
has_numbers row = list_all is_whole (number_fields row)

-- the places of the fields that name nodes
-- Source: DIMACS
abbrev pub node_places : Row → List ℕ
node_places row = if is_n row then 1 ∷ [] else 1 ∷ 2 ∷ []

-- a number from 1 to the number of nodes that the problem line says
abbrev pub is_node_number : List Row → ℤ → Bool
is_node_number earlier z = is_within (pos 1) (pos (header earlier).nodes) z

-- the number is at most so far from 0
abbrev pub is_up_to : ℕ → ℤ → Bool
is_up_to bound z = is_within (neg_ℤ (pos bound)) (pos bound) z

-- the place of the cost of an arc line
-- Source: DIMACS
abbrev pub cost_place : List Row → ℕ
cost_place earlier = if of_min earlier then 5 else 3

-- ---- the total

-- an arc line of `min` whose numbers can be read: none of `fields`, `number` and `before-p` applies
-- to it
abbrev pub is_counted : List Row → Row → Bool
is_counted earlier row = is_a row && of_min earlier && has_p earlier && has_field_count earlier row && has_numbers row

-- the most that the arc of an arc line of `min` can cost or earn
abbrev pub line_weight : Row → ℕ
line_weight row = unsigned_abs (number row 5) * max (unsigned_abs (number row 3)) (unsigned_abs (number row 4))

-- the total of some lines: that of the arc lines of `min` among them whose numbers can be read
unfoldable pub total_of : List Row → ℕ
total_of lines = sum (map (λ line. line_weight line.1) (filter (λ line. is_counted line.0 line.1) (with_earlier lines)))

-- the total is above the limit, if there is one
abbrev pub passes : Option ℕ → ℕ → Bool
passes None total = false
passes (Some limit) total = nat_lt limit total

-- ---- the table of faults

-- whether a fault applies to a line, where these are the kept lines before it
abbrev pub applies : Limits → Code → List Row → Row → Bool
applies allowed Kind earlier row = not (is_p row || is_n row || is_a row)
applies allowed Fields earlier row = not (has_field_count earlier row)
applies allowed Problem earlier row = is_p row && not (has_problem_word row)
applies allowed Number earlier row = not (has_numbers row)
applies allowed SecondP earlier row = is_p row && has_p earlier
applies allowed BeforeP earlier row = not (is_p row) && not (has_p earlier)
applies allowed Size earlier row = is_p row && not (size_fits row)
applies allowed Node earlier row = not (is_p row) && not (list_all (λ k. is_node_number earlier (number row k)) (node_places row))
applies allowed LateN earlier row = is_n row && nat_lt 0 (length (arc_lines earlier))
applies allowed Twice earlier row = is_n row && is_listed earlier (node row 1)
applies allowed Supply earlier row = is_n row && of_min earlier && not (is_up_to allowed.supply (number row 2))
applies allowed Bound earlier row = is_a row && of_min earlier && not (is_up_to allowed.bound (number row 3) && is_up_to allowed.bound (number row 4))
applies allowed Order earlier row = is_a row && of_min earlier && int_lt (number row 4) (number row 3)
applies allowed Cost earlier row = is_a row && not (is_up_to allowed.cost (number row (cost_place earlier)))
applies allowed Extra earlier row = is_a row && nat_le (header earlier).arcs (length (arc_lines earlier))
applies allowed Side earlier row = is_a row && not (of_min earlier) && (not (is_listed earlier (node row 1)) || is_listed earlier (node row 2))
applies allowed Total earlier row = is_a row && of_min earlier && passes allowed.total (total_of (earlier ++ row ∷ []))
-- the last two are no faults of a line
applies allowed NoP earlier row = false
applies allowed Missing earlier row = false

-- the fault of a line: the first of the table that applies
unfoldable pub fault_of_line : Limits → List Row → Row → Option Code
fault_of_line allowed earlier row = find (λ code. applies allowed code earlier row) table

-- a line, after those before it, as a fault, if it has one
abbrev pub as_fault : Limits → List Row × Row → Option Fault
as_fault allowed line = option_map (λ code. record { line = line.1.number; code = code }) (fault_of_line allowed line.0 line.1)

-- the faults of the lines, each judged by those before it
unfoldable pub faults : Limits → List Row → List Fault
faults allowed lines = filter_map (as_fault allowed) (with_earlier lines)

-- the fault of the lines as a whole
unfoldable pub fault_at_end : List Row → Option Code
fault_at_end lines =
    if not (has_p lines) then Some NoP
    else (if nat_lt (length (arc_lines lines)) (header lines).arcs then Some Missing else None)

-- the first fault of some kept lines, where the line after the last has this number: that of the
-- first faulty line, otherwise that of the whole
unfoldable pub first_fault_of_lines : Limits → ℕ → List Row → Option Fault
first_fault_of_lines allowed after lines =
    option_or (slice_get (faults allowed lines) 0) (option_map (λ code. record { line = after; code = code }) (fault_at_end lines))

-- the first fault of a text; that of the whole stands at the line after the last
unfoldable pub first_fault : Limits → List ℕ → Option Fault
first_fault allowed text = first_fault_of_lines allowed (line_after text) (rows text)
