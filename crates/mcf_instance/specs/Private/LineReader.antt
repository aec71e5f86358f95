-- What a line says, read in the order of the reader's tests.
use Rattle.std.specs.Prelude.{ℕ, ◌+◌, ◌^◌, ◌==◌, nat_le, nat_lt, Bool, not, ◌&&◌, ◌||◌, if◌then◌else◌, List, [], length, bytes_eq, codes, slice_index_or, ℤ}
use Rattle.std.specs.Prelude.{pos, int_lt, Option, Some, None, Result, Ok, Err}
use Rattle.mcf_flows.specs.declared.arc.PackedArc.{PackedArc}
use Rattle.mcf_flows.specs.declared.code.Code.{Code}
use Rattle.mcf_flows.specs.declared.code.Code.TheVariants.{Fields, Problem, Number, SecondP, BeforeP, Size, Node, LateN, Twice, Supply, Bound, Order, Cost}
use Rattle.mcf_flows.specs.declared.code.Code.TheVariants.{Extra, Side, Total}
use Rattle.mcf_flows.specs.declared.problem.Problem.{Problem as Format}
use Rattle.mcf_flows.specs.declared.problem.Problem.TheVariants.{Min, Asn}
use Rattle.mcf_instance.specs.declared.reader.line.Header.{Header}
use Rattle.mcf_instance.specs.declared.reader.line.ArcNumbers.{ArcNumbers}
use Rattle.mcf_flows.specs.Blocking.{in_table}
use Rattle.mcf_instance.specs.Fault.{is_min, is_up_to, passes}
use Rattle.mcf_flows.specs.Limits.{Limits, node_limit, arc_limit}
use Rattle.mcf_flows.specs.Packed.{unpacked}
use Rattle.mcf_flows.specs.WellFormed.{weight}
use Rattle.mcf_text.specs.Row.{natural}
use Rattle.mcf_text.specs.Whole.{is_whole, is_within, whole_value}

-- goes on with the value of the first step
infixl 10 ◌>>=◌
abbrev pub ◌>>=◌ : {A B : Type 0} → Result A Code → (A → Result B Code) → Result B Code
(Ok x) >>= f = f x
(Err e) >>= f = Err e

-- how far from 0 the numbers lie that are kept as they are
abbrev pub kept_size : ℕ
kept_size = 10 ^ 18

-- a number, or one past every range where it is far from 0
abbrev pub clamped : ℤ → ℤ
clamped z = if is_up_to kept_size z then z else pos (kept_size + 1)

-- the number of a field
unfoldable pub number_at : List (List ℕ) → ℕ → Result ℤ Code
number_at fields k =
    if is_whole (slice_index_or fields k []) then Ok (clamped (whole_value (slice_index_or fields k []))) else Err Number

-- two numbers, one after the other
abbrev pub number_pair : List (List ℕ) → ℕ → Result (ℤ × ℤ) Code
number_pair fields k = number_at fields k >>= λ first. number_at fields (k + 1) >>= λ second. Ok (first, second)

-- the problem that a word names, or `problem`
unfoldable pub problem_at : List ℕ → Result Format Code
problem_at word = if bytes_eq word (codes "min") then Ok Min else (if bytes_eq word (codes "asn") then Ok Asn else Err Problem)

-- ---- problem lines

-- what a problem line says, or its fault
unfoldable pub problem_line : Bool → List (List ℕ) → Result Header Code
problem_line seen fields =
    if not (length fields == 4) then Err Fields
    else problem_at (slice_index_or fields 1 []) >>= λ problem.
    number_pair fields 2 >>= λ sizes.
    (if seen then Err SecondP
    else (if not (is_within (pos 0) (pos node_limit) sizes.0 && is_within (pos 0) (pos arc_limit) sizes.1) then Err Size
    else Ok (record { problem = problem; nodes = natural sizes.0; arcs = natural sizes.1 })))

-- ---- node lines

-- a node line has the right number of fields
abbrev pub node_count_fits : Option Header → ℕ → Bool
node_count_fits None n = n == 3 || n == 2
node_count_fits (Some h) n = if is_min h.problem then n == 3 else n == 2

-- the numbers of a node line: its node and its supply
abbrev pub node_numbers : List (List ℕ) → Result (ℤ × ℤ) Code
node_numbers fields =
    if length fields == 3 then number_pair fields 1 else (number_at fields 1 >>= λ node. Ok (node, pos 1))

-- a number as a node
abbrev pub checked_node : Header → ℤ → Result ℕ Code
checked_node h z = if is_within (pos 1) (pos h.nodes) z then Ok (natural z) else Err Node

-- the tests of the numbers of a node line, in order
unfoldable pub node_tests : Limits → Header → ℕ → List Bool → ℤ → ℤ → Result (ℕ × ℤ) Code
node_tests allowed h arcs listed node supply =
    checked_node h node >>= λ v.
    (if nat_lt 0 arcs then Err LateN
    else (if in_table listed v then Err Twice
    else (if not (is_up_to allowed.supply supply) then Err Supply
    else Ok (v, supply))))

-- goes on with what the problem line says, or `before-p`
abbrev pub with_header : {X : Type 0} → Option Header → (Header → Result X Code) → Result X Code
with_header None f = Err BeforeP
with_header (Some h) f = f h

-- what a node line says, or its fault
unfoldable pub node_line : Limits → Option Header → ℕ → List Bool → List (List ℕ) → Result (ℕ × ℤ) Code
node_line allowed header arcs listed fields =
    if not (node_count_fits header (length fields)) then Err Fields
    else (node_numbers fields >>= λ n. with_header header (λ h. node_tests allowed h arcs listed n.0 n.1))

-- ---- arc lines

-- an arc line has the right number of fields
abbrev pub arc_count_fits : Option Header → ℕ → Bool
arc_count_fits None n = n == 6 || n == 4
arc_count_fits (Some h) n = if is_min h.problem then n == 6 else n == 4

-- the numbers of an arc line of either problem
abbrev pub arc_numbers : List (List ℕ) → Result ArcNumbers Code
arc_numbers fields =
    number_pair fields 1 >>= λ ends.
    number_at fields 3 >>= λ third.
    (if length fields == 6
    then (number_pair fields 4 >>= λ amounts. Ok (record { src = ends.0; dst = ends.1; low = third; cap = amounts.0; cost = amounts.1 }))
    else Ok (record { src = ends.0; dst = ends.1; low = pos 0; cap = pos 1; cost = third }))

-- the arc doesn't go from a node with a node line to one without
abbrev pub is_wrong_side : Header → List Bool → ℕ → ℕ → Bool
is_wrong_side h listed src dst = not (is_min h.problem) && (not (in_table listed src) || in_table listed dst)

-- the first fault of the bounds and the cost of an arc
unfoldable pub amount_fault : Limits → ℤ → ℤ → ℤ → Option Code
amount_fault allowed low cap cost =
    if not (is_up_to allowed.bound low && is_up_to allowed.bound cap) then Some Bound
    else (if int_lt cap low then Some Order
    else (if not (is_up_to allowed.cost cost) then Some Cost
    else None))

-- goes on if there is no fault
abbrev pub unless_fault : {X : Type 0} → Option Code → Result X Code → Result X Code
unless_fault None r = r
unless_fault (Some e) r = Err e

-- with the arc the total of an instance of `min` is above the limit
abbrev pub passes_total : Limits → Format → ℕ → PackedArc → Bool
passes_total allowed problem total a = is_min problem && passes allowed.total (total + weight (unpacked a))

-- the arc, where the number of arcs, its sides and the total allow it
abbrev pub fitting_arc : Limits → Header → ℕ → ℕ → List Bool → PackedArc → Result PackedArc Code
fitting_arc allowed h arcs total listed a =
    if nat_le h.arcs arcs then Err Extra
    else (if is_wrong_side h listed a.src a.dst then Err Side
    else (if passes_total allowed h.problem total a then Err Total else Ok a))

-- the tests of the numbers of an arc line, in order
unfoldable pub arc_tests : Limits → Header → ℕ → ℕ → List Bool → ArcNumbers → Result PackedArc Code
arc_tests allowed h arcs total listed a =
    checked_node h a.src >>= λ src.
    checked_node h a.dst >>= λ dst.
    unless_fault (amount_fault allowed a.low a.cap a.cost)
    (fitting_arc allowed h arcs total listed (record { src = src; dst = dst; low = a.low; cap = a.cap; cost = a.cost }))

-- what an arc line says, or its fault
unfoldable pub arc_line : Limits → Option Header → ℕ → ℕ → List Bool → List (List ℕ) → Result PackedArc Code
arc_line allowed header arcs total listed fields =
    if not (arc_count_fits header (length fields)) then Err Fields
    else (arc_numbers fields >>= λ a. with_header header (λ h. arc_tests allowed h arcs total listed a))
