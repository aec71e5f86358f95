-- Small texts with a fault, evaluated on the definitions.
use Rattle.std.specs.Prelude.{◌≡◌, ℕ, List, [], ◌∷◌, ◌++◌, flat_map, codes, None, Some, Option, refl}
use Rattle.mcf_flows.specs.declared.code.Code.{Code}
use Rattle.mcf_flows.specs.declared.code.Code.TheVariants.{BeforeP, Bound, Cost, Extra, Fields, Kind, LateN, Missing, NoP, Node, Number, Order, Problem}
use Rattle.mcf_flows.specs.declared.code.Code.TheVariants.{SecondP, Side, Size, Supply, Twice}
use Rattle.mcf_instance.specs.Fault.{fault_at_end, fault_of_line, faults, first_fault, first_fault_of_lines, total_of}
use Rattle.mcf_flows.specs.Codes.{Fault}
use Rattle.mcf_flows.specs.Limits.{limits}

-- the lines, each with its end
abbrev text_of : List (List ℕ) → List ℕ
text_of lines = flat_map (λ line. line ++ 10 ∷ []) lines

-- the first fault of a text of these lines
abbrev fault_of : List (List ℕ) → Option Fault
fault_of lines = first_fault limits (text_of lines)

abbrev at : ℕ → Code → Option Fault
at line code = Some (record { line = line; code = code })

a_comment_alone : fault_of (codes "c hello" ∷ []) ≡ at 2 NoP
unfolding first_fault first_fault_of_lines faults fault_of_line total_of fault_at_end
a_comment_alone = refl

the_empty_text : fault_of ([]) ≡ at 1 NoP
unfolding first_fault first_fault_of_lines faults fault_of_line total_of fault_at_end
the_empty_text = refl

an_unknown_first_field : fault_of (codes "x 1" ∷ []) ≡ at 1 Kind
unfolding first_fault first_fault_of_lines faults fault_of_line total_of fault_at_end
an_unknown_first_field = refl

a_problem_line_of_five_fields : fault_of (codes "p max 2 1 9" ∷ []) ≡ at 1 Fields
unfolding first_fault first_fault_of_lines faults fault_of_line total_of fault_at_end
a_problem_line_of_five_fields = refl

an_unknown_problem_before_a_bad_number : fault_of (codes "p max q 1" ∷ []) ≡ at 1 Problem
unfolding first_fault first_fault_of_lines faults fault_of_line total_of fault_at_end
an_unknown_problem_before_a_bad_number = refl

a_size_with_a_letter : fault_of (codes "p min 2 1x" ∷ []) ≡ at 1 Number
unfolding first_fault first_fault_of_lines faults fault_of_line total_of fault_at_end
a_size_with_a_letter = refl

a_sign_alone : fault_of (codes "p min 2 -" ∷ []) ≡ at 1 Number
unfolding first_fault first_fault_of_lines faults fault_of_line total_of fault_at_end
a_sign_alone = refl

a_node_line_first : fault_of (codes "n 1 5" ∷ []) ≡ at 1 BeforeP
unfolding first_fault first_fault_of_lines faults fault_of_line total_of fault_at_end
a_node_line_first = refl

a_node_line_of_an_assignment_first : fault_of (codes "n 1" ∷ []) ≡ at 1 BeforeP
unfolding first_fault first_fault_of_lines faults fault_of_line total_of fault_at_end
a_node_line_of_an_assignment_first = refl

a_node_line_of_four_fields_first : fault_of (codes "n 1 2 3" ∷ []) ≡ at 1 Fields
unfolding first_fault first_fault_of_lines faults fault_of_line total_of fault_at_end
a_node_line_of_four_fields_first = refl

a_bad_number_before_any_problem_line : fault_of (codes "n 1 q" ∷ []) ≡ at 1 Number
unfolding first_fault first_fault_of_lines faults fault_of_line total_of fault_at_end
a_bad_number_before_any_problem_line = refl

too_many_nodes : fault_of (codes "p min 1000001 0" ∷ []) ≡ at 1 Size
unfolding first_fault first_fault_of_lines faults fault_of_line total_of fault_at_end
too_many_nodes = refl

a_count_of_nodes_below_zero : fault_of (codes "p min -1 0" ∷ []) ≡ at 1 Size
unfolding first_fault first_fault_of_lines faults fault_of_line total_of fault_at_end
a_count_of_nodes_below_zero = refl

a_second_problem_line : fault_of (codes "p min 1 0" ∷ codes "p min 1 0" ∷ []) ≡ at 2 SecondP
unfolding first_fault first_fault_of_lines faults fault_of_line total_of fault_at_end
a_second_problem_line = refl

a_node_line_without_a_supply : fault_of (codes "p min 2 1" ∷ codes "n 1" ∷ []) ≡ at 2 Fields
unfolding first_fault first_fault_of_lines faults fault_of_line total_of fault_at_end
a_node_line_without_a_supply = refl

an_end_that_is_no_node : fault_of (codes "p min 2 1" ∷ codes "a 1 3 0 1 1" ∷ []) ≡ at 2 Node
unfolding first_fault first_fault_of_lines faults fault_of_line total_of fault_at_end
an_end_that_is_no_node = refl

an_end_that_is_no_node_before_the_order : fault_of (codes "p min 2 1" ∷ codes "a 1 3 5 1 0" ∷ []) ≡ at 2 Node
unfolding first_fault first_fault_of_lines faults fault_of_line total_of fault_at_end
an_end_that_is_no_node_before_the_order = refl

a_node_named_twice_in_two_spellings : fault_of (codes "p min 2 0" ∷ codes "n 1 5" ∷ codes "n +01 5" ∷ []) ≡ at 3 Twice
unfolding first_fault first_fault_of_lines faults fault_of_line total_of fault_at_end
a_node_named_twice_in_two_spellings = refl

a_supply_past_the_limit : fault_of (codes "p min 2 1" ∷ codes "n 1 1000000000000000001" ∷ []) ≡ at 2 Supply
unfolding first_fault first_fault_of_lines faults fault_of_line total_of fault_at_end
a_supply_past_the_limit = refl

a_cap_past_the_limit : fault_of (codes "p min 2 1" ∷ codes "a 1 2 0 1000000000000000001 0" ∷ []) ≡ at 2 Bound
unfolding first_fault first_fault_of_lines faults fault_of_line total_of fault_at_end
a_cap_past_the_limit = refl

a_cap_of_forty_digits : fault_of (codes "p min 2 1" ∷ codes "a 1 2 0 1111111111111111111111111111111111111111 0" ∷ []) ≡ at 2 Bound
unfolding first_fault first_fault_of_lines faults fault_of_line total_of fault_at_end
a_cap_of_forty_digits = refl

a_low_above_its_cap : fault_of (codes "p min 2 1" ∷ codes "a 1 2 5 1 0" ∷ []) ≡ at 2 Order
unfolding first_fault first_fault_of_lines faults fault_of_line total_of fault_at_end
a_low_above_its_cap = refl

a_cost_past_the_limit : fault_of (codes "p min 2 1" ∷ codes "a 1 2 0 1 -1000000000000001" ∷ []) ≡ at 2 Cost
unfolding first_fault first_fault_of_lines faults fault_of_line total_of fault_at_end
a_cost_past_the_limit = refl

past_the_former_limits : fault_of (codes "p min 2 1" ∷ codes "n 1 1000000000000001" ∷ [])
    ∷ fault_of (codes "p min 2 1" ∷ codes "a 1 2 0 1000000000000001 0" ∷ [])
    ∷ fault_of (codes "p min 2 1" ∷ codes "a 1 2 0 1 -1000000000001" ∷ []) ∷ [] ≡ at 3 Missing ∷ None ∷ None ∷ []
unfolding first_fault first_fault_of_lines faults fault_of_line total_of fault_at_end
past_the_former_limits = refl

an_arc_too_many : fault_of (codes "p min 2 0" ∷ codes "a 1 2 0 1 0" ∷ []) ≡ at 2 Extra
unfolding first_fault first_fault_of_lines faults fault_of_line total_of fault_at_end
an_arc_too_many = refl

an_arc_from_the_far_side : fault_of (codes "p asn 2 1" ∷ codes "n 1" ∷ codes "a 2 1 5" ∷ []) ≡ at 3 Side
unfolding first_fault first_fault_of_lines faults fault_of_line total_of fault_at_end
an_arc_from_the_far_side = refl

a_loop_of_an_assignment : fault_of (codes "p asn 2 1" ∷ codes "n 1" ∷ codes "a 1 1 5" ∷ []) ≡ at 3 Side
unfolding first_fault first_fault_of_lines faults fault_of_line total_of fault_at_end
a_loop_of_an_assignment = refl

an_arc_too_many_after_a_comment : fault_of (codes "p min 2 1" ∷ codes "a 1 2 0 1 0" ∷ codes "c" ∷ codes "a 1 2 0 1 0" ∷ []) ≡ at 4 Extra
unfolding first_fault first_fault_of_lines faults fault_of_line total_of fault_at_end
an_arc_too_many_after_a_comment = refl

a_supply_in_an_assignment : fault_of (codes "p asn 2 0" ∷ codes "n 1 5" ∷ []) ≡ at 2 Fields
unfolding first_fault first_fault_of_lines faults fault_of_line total_of fault_at_end
a_supply_in_an_assignment = refl

a_node_of_an_assignment_twice : fault_of (codes "p asn 2 1" ∷ codes "n 1" ∷ codes "n 1" ∷ []) ≡ at 3 Twice
unfolding first_fault first_fault_of_lines faults fault_of_line total_of fault_at_end
a_node_of_an_assignment_twice = refl

an_arc_without_a_source : fault_of (codes "p asn 2 1" ∷ codes "a 1 2 5" ∷ []) ≡ at 2 Side
unfolding first_fault first_fault_of_lines faults fault_of_line total_of fault_at_end
an_arc_without_a_source = refl

a_cost_of_an_assignment_past_the_limit : fault_of (codes "p asn 2 1" ∷ codes "n 1" ∷ codes "a 1 2 1000000000000001" ∷ []) ≡ at 3 Cost
unfolding first_fault first_fault_of_lines faults fault_of_line total_of fault_at_end
a_cost_of_an_assignment_past_the_limit = refl

a_node_line_after_an_arc : fault_of (codes "p min 2 1" ∷ codes "a 1 2 -3 -3 1" ∷ codes "n 1 -3" ∷ []) ≡ at 3 LateN
unfolding first_fault first_fault_of_lines faults fault_of_line total_of fault_at_end
a_node_line_after_an_arc = refl

an_arc_too_few : fault_of (codes "p min 2 2" ∷ codes "a 1 2 0 1 1" ∷ []) ≡ at 3 Missing
unfolding first_fault first_fault_of_lines faults fault_of_line total_of fault_at_end
an_arc_too_few = refl
