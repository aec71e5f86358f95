-- Neighbouring faults of the table at one line, and the ends of the ranges, evaluated on the
-- definitions.
use Rattle.std.specs.Prelude.{◌≡◌, ℕ, List, [], ◌∷◌, ◌++◌, flat_map, codes, map, None, Some, Option, refl, replicate}
use Rattle.mcf_flows.specs.declared.code.Code.{Code}
use Rattle.mcf_flows.specs.declared.code.Code.TheVariants.{BeforeP, Bound, Cost, Extra, Fields, Kind, LateN, Missing, NoP, Node, Number, Order, Problem}
use Rattle.mcf_flows.specs.declared.code.Code.TheVariants.{SecondP, Side, Size, Supply, Total, Twice}
use Rattle.mcf_instance.specs.Fault.{fault_at_end, fault_of_line, faults, first_fault, first_fault_of_lines, total_of}
use Rattle.mcf_flows.specs.Codes.{Fault}
use Rattle.mcf_flows.specs.Limits.{Limits, limits}

-- the first fault of a text of these lines, each with its end
abbrev fault_of : List (List ℕ) → Option Fault
fault_of lines = first_fault limits (flat_map (λ line. line ++ 10 ∷ []) lines)

abbrev at : ℕ → Code → Option Fault
at line code = Some (record { line = line; code = code })

-- ---- two neighbouring faults at one line: the first of the table is told
-- (a problem line, a node line and an arc line share no fault of their own kind)

kind_before_fields : fault_of (codes "x 1 2" ∷ []) ≡ at 1 Kind
unfolding first_fault first_fault_of_lines faults fault_of_line total_of fault_at_end
kind_before_fields = refl

fields_before_problem : fault_of (codes "p max 2" ∷ []) ≡ at 1 Fields
unfolding first_fault first_fault_of_lines faults fault_of_line total_of fault_at_end
fields_before_problem = refl

problem_before_number : fault_of (codes "p max 2 q" ∷ []) ≡ at 1 Problem
unfolding first_fault first_fault_of_lines faults fault_of_line total_of fault_at_end
problem_before_number = refl

number_before_second_p : fault_of (codes "p min 1 0" ∷ codes "p min q 0" ∷ []) ≡ at 2 Number
unfolding first_fault first_fault_of_lines faults fault_of_line total_of fault_at_end
number_before_second_p = refl

number_before_before_p : fault_of (codes "a 1 2 0 q 1" ∷ []) ≡ at 1 Number
unfolding first_fault first_fault_of_lines faults fault_of_line total_of fault_at_end
number_before_before_p = refl

second_p_before_size : fault_of (codes "p min 1 0" ∷ codes "p min 1000001 0" ∷ []) ≡ at 2 SecondP
unfolding first_fault first_fault_of_lines faults fault_of_line total_of fault_at_end
second_p_before_size = refl

before_p_before_node : fault_of (codes "a 0 2 0 1 1" ∷ []) ≡ at 1 BeforeP
unfolding first_fault first_fault_of_lines faults fault_of_line total_of fault_at_end
before_p_before_node = refl

node_before_late_n : fault_of (codes "p min 2 1" ∷ codes "a 1 2 0 1 1" ∷ codes "n 3 5" ∷ []) ≡ at 3 Node
unfolding first_fault first_fault_of_lines faults fault_of_line total_of fault_at_end
node_before_late_n = refl

late_n_before_twice : fault_of (codes "p min 2 1" ∷ codes "n 1 0" ∷ codes "a 1 2 0 1 1" ∷ codes "n 1 0" ∷ []) ≡ at 4 LateN
unfolding first_fault first_fault_of_lines faults fault_of_line total_of fault_at_end
late_n_before_twice = refl

twice_before_supply : fault_of (codes "p min 2 0" ∷ codes "n 1 5" ∷ codes "n 1 1000000000000000001" ∷ []) ≡ at 3 Twice
unfolding first_fault first_fault_of_lines faults fault_of_line total_of fault_at_end
twice_before_supply = refl

node_before_bound : fault_of (codes "p min 2 1" ∷ codes "a 1 3 0 1000000000000000001 0" ∷ []) ≡ at 2 Node
unfolding first_fault first_fault_of_lines faults fault_of_line total_of fault_at_end
node_before_bound = refl

bound_before_order : fault_of (codes "p min 2 1" ∷ codes "a 1 2 1000000000000000001 0 0" ∷ []) ≡ at 2 Bound
unfolding first_fault first_fault_of_lines faults fault_of_line total_of fault_at_end
bound_before_order = refl

order_before_cost : fault_of (codes "p min 2 1" ∷ codes "a 1 2 5 1 1000000000000001" ∷ []) ≡ at 2 Order
unfolding first_fault first_fault_of_lines faults fault_of_line total_of fault_at_end
order_before_cost = refl

cost_before_extra : fault_of (codes "p min 2 0" ∷ codes "a 1 2 0 1 1000000000000001" ∷ []) ≡ at 2 Cost
unfolding first_fault first_fault_of_lines faults fault_of_line total_of fault_at_end
cost_before_extra = refl

extra_before_side : fault_of (codes "p asn 2 0" ∷ codes "a 1 2 5" ∷ []) ≡ at 2 Extra
unfolding first_fault first_fault_of_lines faults fault_of_line total_of fault_at_end
extra_before_side = refl

side_before_missing : fault_of (codes "p asn 2 2" ∷ codes "a 1 2 5" ∷ []) ≡ at 2 Side
unfolding first_fault first_fault_of_lines faults fault_of_line total_of fault_at_end
side_before_missing = refl

no_p_before_missing : fault_of (codes "c no problem line, and no arcs" ∷ []) ≡ at 2 NoP
unfolding first_fault first_fault_of_lines faults fault_of_line total_of fault_at_end
no_p_before_missing = refl

-- ---- both ends of each range, and the numbers next to them

counts_of_nodes : map (λ z. fault_of ((codes "p min " ++ z ++ codes " 0") ∷ []))
    (codes "0" ∷ codes "1000000" ∷ codes "-1" ∷ codes "1000001" ∷ [])
    ≡ None ∷ None ∷ at 1 Size ∷ at 1 Size ∷ []
unfolding first_fault first_fault_of_lines faults fault_of_line total_of fault_at_end
counts_of_nodes = refl

counts_of_arcs : map (λ z. fault_of ((codes "p min 0 " ++ z) ∷ []))
    (codes "0" ∷ codes "10000000" ∷ codes "-1" ∷ codes "10000001" ∷ [])
    ≡ None ∷ at 2 Missing ∷ at 1 Size ∷ at 1 Size ∷ []
unfolding first_fault first_fault_of_lines faults fault_of_line total_of fault_at_end
counts_of_arcs = refl

nodes_of_node_lines : map (λ z. fault_of (codes "p min 2 0" ∷ (codes "n " ++ z ++ codes " 0") ∷ []))
    (codes "1" ∷ codes "2" ∷ codes "0" ∷ codes "3" ∷ [])
    ≡ None ∷ None ∷ at 2 Node ∷ at 2 Node ∷ []
unfolding first_fault first_fault_of_lines faults fault_of_line total_of fault_at_end
nodes_of_node_lines = refl

nodes_of_an_assignment : map (λ z. fault_of (codes "p asn 2 0" ∷ (codes "n " ++ z) ∷ []))
    (codes "1" ∷ codes "2" ∷ codes "0" ∷ codes "3" ∷ [])
    ≡ None ∷ None ∷ at 2 Node ∷ at 2 Node ∷ []
unfolding first_fault first_fault_of_lines faults fault_of_line total_of fault_at_end
nodes_of_an_assignment = refl

first_ends : map (λ z. fault_of (codes "p min 2 1" ∷ (codes "a " ++ z ++ codes " 1 0 1 0") ∷ []))
    (codes "1" ∷ codes "2" ∷ codes "0" ∷ codes "3" ∷ [])
    ≡ None ∷ None ∷ at 2 Node ∷ at 2 Node ∷ []
unfolding first_fault first_fault_of_lines faults fault_of_line total_of fault_at_end
first_ends = refl

second_ends : map (λ z. fault_of (codes "p min 2 1" ∷ (codes "a 1 " ++ z ++ codes " 0 1 0") ∷ []))
    (codes "1" ∷ codes "2" ∷ codes "0" ∷ codes "3" ∷ [])
    ≡ None ∷ None ∷ at 2 Node ∷ at 2 Node ∷ []
unfolding first_fault first_fault_of_lines faults fault_of_line total_of fault_at_end
second_ends = refl

supplies : map (λ z. fault_of (codes "p min 2 0" ∷ (codes "n 1 " ++ z) ∷ []))
    (codes "-1000000000000000000" ∷ codes "1000000000000000000" ∷ codes "-1000000000000000001" ∷ codes "1000000000000000001" ∷ [])
    ≡ None ∷ None ∷ at 2 Supply ∷ at 2 Supply ∷ []
unfolding first_fault first_fault_of_lines faults fault_of_line total_of fault_at_end
supplies = refl

lower_bounds : map (λ z. fault_of (codes "p min 2 1" ∷ (codes "a 1 2 " ++ z ++ codes " 1000000000000000000 0") ∷ []))
    (codes "-1000000000000000000" ∷ codes "1000000000000000000" ∷ codes "-1000000000000000001" ∷ codes "1000000000000000001" ∷ [])
    ≡ None ∷ None ∷ at 2 Bound ∷ at 2 Bound ∷ []
unfolding first_fault first_fault_of_lines faults fault_of_line total_of fault_at_end
lower_bounds = refl

upper_bounds : map (λ z. fault_of (codes "p min 2 1" ∷ (codes "a 1 2 -1000000000000000000 " ++ z ++ codes " 0") ∷ []))
    (codes "-1000000000000000000" ∷ codes "1000000000000000000" ∷ codes "-1000000000000000001" ∷ codes "1000000000000000001" ∷ [])
    ≡ None ∷ None ∷ at 2 Bound ∷ at 2 Bound ∷ []
unfolding first_fault first_fault_of_lines faults fault_of_line total_of fault_at_end
upper_bounds = refl

costs : map (λ z. fault_of (codes "p min 2 1" ∷ (codes "a 1 2 0 1 " ++ z) ∷ []))
    (codes "-1000000000000000" ∷ codes "1000000000000000" ∷ codes "-1000000000000001" ∷ codes "1000000000000001" ∷ [])
    ≡ None ∷ None ∷ at 2 Cost ∷ at 2 Cost ∷ []
unfolding first_fault first_fault_of_lines faults fault_of_line total_of fault_at_end
costs = refl

costs_of_an_assignment : map (λ z. fault_of (codes "p asn 2 1" ∷ codes "n 1" ∷ (codes "a 1 2 " ++ z) ∷ []))
    (codes "-1000000000000000" ∷ codes "1000000000000000" ∷ codes "-1000000000000001" ∷ codes "1000000000000001" ∷ [])
    ≡ None ∷ None ∷ at 3 Cost ∷ at 3 Cost ∷ []
unfolding first_fault first_fault_of_lines faults fault_of_line total_of fault_at_end
costs_of_an_assignment = refl

bounds_in_order : map (λ z. fault_of (codes "p min 2 1" ∷ (codes "a 1 2 3 " ++ z ++ codes " 0") ∷ []))
    (codes "3" ∷ codes "4" ∷ codes "2" ∷ codes "-3" ∷ [])
    ≡ None ∷ None ∷ at 2 Order ∷ at 2 Order ∷ []
unfolding first_fault first_fault_of_lines faults fault_of_line total_of fault_at_end
bounds_in_order = refl

-- ---- the total, under limits that a few lines reach

abbrev small_limits : Limits
small_limits = record { supply = 10; bound = 10; cost = 10; total = Some 100 }

-- the first fault of an instance of `min` on two nodes with these arc lines, as many as it says
abbrev fault_of_arcs : List ℕ → List (List ℕ) → Option Fault
fault_of_arcs count lines = first_fault small_limits (flat_map (λ line. line ++ 10 ∷ []) ((codes "p min 2 " ++ count) ∷ lines))

up_to_the_limit : fault_of_arcs (codes "2") (codes "a 1 2 0 9 10" ∷ codes "a 1 2 0 1 10" ∷ []) ≡ None
unfolding first_fault first_fault_of_lines faults fault_of_line total_of fault_at_end
up_to_the_limit = refl

one_past_the_limit : fault_of_arcs (codes "2") (codes "a 1 2 0 10 10" ∷ codes "a 1 2 0 1 1" ∷ []) ≡ at 3 Total
unfolding first_fault first_fault_of_lines faults fault_of_line total_of fault_at_end
one_past_the_limit = refl

arcs_that_cost_nothing : fault_of_arcs (codes "3") (codes "a 1 2 0 10 10" ∷ codes "a 1 2 0 1 0" ∷ codes "a 1 2 0 0 1" ∷ []) ≡ None
unfolding first_fault first_fault_of_lines faults fault_of_line total_of fault_at_end
arcs_that_cost_nothing = refl

after_arcs_that_cost_nothing : fault_of_arcs (codes "3") (codes "a 1 2 0 10 10" ∷ codes "a 1 2 0 1 0" ∷ codes "a 1 2 0 1 1" ∷ []) ≡ at 4 Total
unfolding first_fault first_fault_of_lines faults fault_of_line total_of fault_at_end
after_arcs_that_cost_nothing = refl

greater_bound_below_zero : fault_of_arcs (codes "2") (codes "a 1 2 -10 1 10" ∷ codes "a 1 2 -1 0 -1" ∷ []) ≡ at 3 Total
unfolding first_fault first_fault_of_lines faults fault_of_line total_of fault_at_end
greater_bound_below_zero = refl

extra_before_total : fault_of_arcs (codes "1") (codes "a 1 2 0 10 10" ∷ codes "a 1 2 0 1 1" ∷ []) ≡ at 3 Extra
unfolding first_fault first_fault_of_lines faults fault_of_line total_of fault_at_end
extra_before_total = refl

total_before_missing : fault_of_arcs (codes "3") (codes "a 1 2 0 10 10" ∷ codes "a 1 2 0 1 1" ∷ []) ≡ at 3 Total
unfolding first_fault first_fault_of_lines faults fault_of_line total_of fault_at_end
total_before_missing = refl

-- of an assignment no total is looked at
no_total_of_an_assignment : first_fault small_limits (flat_map (λ line. line ++ 10 ∷ [])
    (codes "p asn 2 11" ∷ codes "n 1" ∷ replicate 11 (codes "a 1 2 10"))) ≡ None
unfolding first_fault first_fault_of_lines faults fault_of_line total_of fault_at_end
no_total_of_an_assignment = refl
