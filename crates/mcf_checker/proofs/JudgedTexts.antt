-- Worked instances and answers, judged on the definitions.
use Rattle.std.specs.Prelude.{◌≡◌, ℕ, List, codes, pos, refl}
use Rattle.mcf_answer.specs.Fits.{fits, is_complete, misfit, misfit_of_lines, misfits}
use Rattle.mcf_answer.specs.Parsing.{answer_of_lines, parsing}
use Rattle.mcf_answer.specs.Said.{version_said, cost_said, sent_said, moved_said, price_said, set_said, member_said, refusal_said, opening_said}
use Rattle.mcf_checker.specs.Judging.{flow_verdict, judged, set_verdict, solution_verdict, sparse_verdict, verdict}
use Rattle.mcf_checker.specs.declared.verdict.Verdict.TheVariants.{BadShape, BadKind, BadRefusal, Refused as RefusalAccepted, BadArc, BadNode, BadPrice}
use Rattle.mcf_checker.specs.declared.verdict.Verdict.TheVariants.{BadCost, Flow as FlowAccepted, BadSet, Blocked as SetAccepted}
use Rattle.mcf_flows.specs.declared.code.Code.TheVariants.{LateN}
use Rattle.mcf_instance.specs.Fault.{fault_at_end, fault_of_line, faults, first_fault, first_fault_of_lines, total_of}
use Rattle.mcf_instance.specs.Reading.{instance_of_lines, reading}

abbrev four_nodes : List ℕ
four_nodes = codes "p min 4 5\nn 1 4\nn 4 -4\na 1 2 0 4 2\na 1 3 0 2 2\na 2 3 0 2 1\na 2 4 0 3 3\na 3 4 0 5 1\n"

abbrev too_narrow : List ℕ
too_narrow = codes "p min 2 1\nn 1 3\nn 2 -3\na 1 2 0 2 1\n"

abbrev late_node : List ℕ
late_node = codes "p min 2 1\na 1 2 -3 -3 1\nn 1 -3\n"

abbrev two_rows_one_column : List ℕ
two_rows_one_column = codes "p asn 4 2\nn 1\nn 2\na 1 3 1\na 2 3 1\n"

abbrev two_by_two : List ℕ
two_by_two = codes "p asn 4 4\nn 1\nn 2\na 1 3 5\na 1 4 1\na 2 3 2\na 2 4 1\n"

the_right_answer : verdict four_nodes (codes "s 14\nf 1 2 2\nf 1 3 2\nf 2 3 2\nf 2 4 0\nf 3 4 4\ny 1 0\ny 2 -2\ny 3 -3\ny 4 -4\n") ≡ FlowAccepted (pos 14)
unfolding verdict judged solution_verdict sparse_verdict flow_verdict set_verdict reading first_fault
    first_fault_of_lines faults fault_of_line total_of fault_at_end instance_of_lines
    parsing answer_of_lines misfit misfit_of_lines misfits fits is_complete version_said cost_said sent_said moved_said price_said
    set_said member_said refusal_said opening_said
the_right_answer = refl

a_wrong_cost : verdict four_nodes (codes "s 15\nf 1 2 2\nf 1 3 2\nf 2 3 2\nf 2 4 0\nf 3 4 4\ny 1 0\ny 2 -2\ny 3 -3\ny 4 -4\n") ≡ BadCost
unfolding verdict judged solution_verdict sparse_verdict flow_verdict set_verdict reading first_fault
    first_fault_of_lines faults fault_of_line total_of fault_at_end instance_of_lines
    parsing answer_of_lines misfit misfit_of_lines misfits fits is_complete version_said cost_said sent_said moved_said price_said
    set_said member_said refusal_said opening_said
a_wrong_cost = refl

a_node_that_sends_too_much : verdict four_nodes (codes "s 14\nf 1 2 3\nf 1 3 2\nf 2 3 2\nf 2 4 0\nf 3 4 4\ny 1 0\ny 2 -2\ny 3 -3\ny 4 -4\n") ≡ BadNode 1
unfolding verdict judged solution_verdict sparse_verdict flow_verdict set_verdict reading first_fault
    first_fault_of_lines faults fault_of_line total_of fault_at_end instance_of_lines
    parsing answer_of_lines misfit misfit_of_lines misfits fits is_complete version_said cost_said sent_said moved_said price_said
    set_said member_said refusal_said opening_said
a_node_that_sends_too_much = refl

a_flow_above_its_cap : verdict four_nodes (codes "s 14\nf 1 2 5\nf 1 3 2\nf 2 3 2\nf 2 4 0\nf 3 4 4\ny 1 0\ny 2 -2\ny 3 -3\ny 4 -4\n") ≡ BadArc 1
unfolding verdict judged solution_verdict sparse_verdict flow_verdict set_verdict reading first_fault
    first_fault_of_lines faults fault_of_line total_of fault_at_end instance_of_lines
    parsing answer_of_lines misfit misfit_of_lines misfits fits is_complete version_said cost_said sent_said moved_said price_said
    set_said member_said refusal_said opening_said
a_flow_above_its_cap = refl

a_price_that_shows_no_flow : verdict four_nodes (codes "s 14\nf 1 2 2\nf 1 3 2\nf 2 3 2\nf 2 4 0\nf 3 4 4\ny 1 0\ny 2 -2\ny 3 -3\ny 4 -9\n") ≡ BadPrice 4
unfolding verdict judged solution_verdict sparse_verdict flow_verdict set_verdict reading first_fault
    first_fault_of_lines faults fault_of_line total_of fault_at_end instance_of_lines
    parsing answer_of_lines misfit misfit_of_lines misfits fits is_complete version_said cost_said sent_said moved_said price_said
    set_said member_said refusal_said opening_said
a_price_that_shows_no_flow = refl

every_price_raised : verdict four_nodes (codes "s 14\nf 1 2 2\nf 1 3 2\nf 2 3 2\nf 2 4 0\nf 3 4 4\ny 1 100\ny 2 98\ny 3 97\ny 4 96\n") ≡ FlowAccepted (pos 14)
unfolding verdict judged solution_verdict sparse_verdict flow_verdict set_verdict reading first_fault
    first_fault_of_lines faults fault_of_line total_of fault_at_end instance_of_lines
    parsing answer_of_lines misfit misfit_of_lines misfits fits is_complete version_said cost_said sent_said moved_said price_said
    set_said member_said refusal_said opening_said
every_price_raised = refl

two_flow_lines_exchanged : verdict four_nodes (codes "s 14\nf 1 3 2\nf 1 2 2\nf 2 3 2\nf 2 4 0\nf 3 4 4\ny 1 0\ny 2 -2\ny 3 -3\ny 4 -4\n") ≡ BadArc 1
unfolding verdict judged solution_verdict sparse_verdict flow_verdict set_verdict reading first_fault
    first_fault_of_lines faults fault_of_line total_of fault_at_end instance_of_lines
    parsing answer_of_lines misfit misfit_of_lines misfits fits is_complete version_said cost_said sent_said moved_said price_said
    set_said member_said refusal_said opening_said
two_flow_lines_exchanged = refl

the_last_price_missing : verdict four_nodes (codes "s 14\nf 1 2 2\nf 1 3 2\nf 2 3 2\nf 2 4 0\nf 3 4 4\ny 1 0\ny 2 -2\ny 3 -3\n") ≡ BadNode 4
unfolding verdict judged solution_verdict sparse_verdict flow_verdict set_verdict reading first_fault
    first_fault_of_lines faults fault_of_line total_of fault_at_end instance_of_lines
    parsing answer_of_lines misfit misfit_of_lines misfits fits is_complete version_said cost_said sent_said moved_said price_said
    set_said member_said refusal_said opening_said
the_last_price_missing = refl

no_flow_lines : verdict four_nodes (codes "s 14\n") ≡ BadArc 1
unfolding verdict judged solution_verdict sparse_verdict flow_verdict set_verdict reading first_fault
    first_fault_of_lines faults fault_of_line total_of fault_at_end instance_of_lines
    parsing answer_of_lines misfit misfit_of_lines misfits fits is_complete version_said cost_said sent_said moved_said price_said
    set_said member_said refusal_said opening_said
no_flow_lines = refl

a_flow_line_too_many : verdict four_nodes (codes "s 14\nf 1 2 2\nf 1 3 2\nf 2 3 2\nf 2 4 0\nf 3 4 4\nf 3 4 0\ny 1 0\ny 2 -2\ny 3 -3\ny 4 -4\n") ≡ BadArc 6
unfolding verdict judged solution_verdict sparse_verdict flow_verdict set_verdict reading first_fault
    first_fault_of_lines faults fault_of_line total_of fault_at_end instance_of_lines
    parsing answer_of_lines misfit misfit_of_lines misfits fits is_complete version_said cost_said sent_said moved_said price_said
    set_said member_said refusal_said opening_said
a_flow_line_too_many = refl

a_flow_line_after_the_prices : verdict four_nodes (codes "s 14\nf 1 2 2\nf 1 3 2\nf 2 3 2\nf 2 4 0\ny 1 0\ny 2 -2\ny 3 -3\ny 4 -4\nf 3 4 4\n") ≡ BadShape 10
unfolding verdict judged solution_verdict sparse_verdict flow_verdict set_verdict reading first_fault
    first_fault_of_lines faults fault_of_line total_of fault_at_end instance_of_lines
    parsing answer_of_lines misfit misfit_of_lines misfits fits is_complete version_said cost_said sent_said moved_said price_said
    set_said member_said refusal_said opening_said
a_flow_line_after_the_prices = refl

the_empty_text : verdict four_nodes (codes "") ≡ BadShape 1
unfolding verdict judged solution_verdict sparse_verdict flow_verdict set_verdict reading first_fault
    first_fault_of_lines faults fault_of_line total_of fault_at_end instance_of_lines
    parsing answer_of_lines misfit misfit_of_lines misfits fits is_complete version_said cost_said sent_said moved_said price_said
    set_said member_said refusal_said opening_said
the_empty_text = refl

a_refusal_of_a_good_instance : verdict four_nodes (codes "r 1 kind\n") ≡ BadKind
unfolding verdict judged solution_verdict sparse_verdict flow_verdict set_verdict reading first_fault
    first_fault_of_lines faults fault_of_line total_of fault_at_end instance_of_lines
    parsing answer_of_lines misfit misfit_of_lines misfits fits is_complete version_said cost_said sent_said moved_said price_said
    set_said member_said refusal_said opening_said
a_refusal_of_a_good_instance = refl

a_set_that_must_send_too_much : verdict too_narrow (codes "i 1 send\nx 1\n") ≡ SetAccepted 1
unfolding verdict judged solution_verdict sparse_verdict flow_verdict set_verdict reading first_fault
    first_fault_of_lines faults fault_of_line total_of fault_at_end instance_of_lines
    parsing answer_of_lines misfit misfit_of_lines misfits fits is_complete version_said cost_said sent_said moved_said price_said
    set_said member_said refusal_said opening_said
a_set_that_must_send_too_much = refl

a_set_that_must_take_too_much : verdict too_narrow (codes "i 1 take\nx 2\n") ≡ SetAccepted 1
unfolding verdict judged solution_verdict sparse_verdict flow_verdict set_verdict reading first_fault
    first_fault_of_lines faults fault_of_line total_of fault_at_end instance_of_lines
    parsing answer_of_lines misfit misfit_of_lines misfits fits is_complete version_said cost_said sent_said moved_said price_said
    set_said member_said refusal_said opening_said
a_set_that_must_take_too_much = refl

a_set_of_the_wrong_side : verdict too_narrow (codes "i 1 send\nx 2\n") ≡ BadSet
unfolding verdict judged solution_verdict sparse_verdict flow_verdict set_verdict reading first_fault
    first_fault_of_lines faults fault_of_line total_of fault_at_end instance_of_lines
    parsing answer_of_lines misfit misfit_of_lines misfits fits is_complete version_said cost_said sent_said moved_said price_said
    set_said member_said refusal_said opening_said
a_set_of_the_wrong_side = refl

a_set_with_a_node_past_the_last : verdict too_narrow (codes "i 1 send\nx 9\n") ≡ BadSet
unfolding verdict judged solution_verdict sparse_verdict flow_verdict set_verdict reading first_fault
    first_fault_of_lines faults fault_of_line total_of fault_at_end instance_of_lines
    parsing answer_of_lines misfit misfit_of_lines misfits fits is_complete version_said cost_said sent_said moved_said price_said
    set_said member_said refusal_said opening_said
a_set_with_a_node_past_the_last = refl

a_set_of_too_few_nodes : verdict too_narrow (codes "i 2 send\nx 1\n") ≡ BadShape 3
unfolding verdict judged solution_verdict sparse_verdict flow_verdict set_verdict reading first_fault
    first_fault_of_lines faults fault_of_line total_of fault_at_end instance_of_lines
    parsing answer_of_lines misfit misfit_of_lines misfits fits is_complete version_said cost_said sent_said moved_said price_said
    set_said member_said refusal_said opening_said
a_set_of_too_few_nodes = refl

a_set_that_names_a_node_twice : verdict too_narrow (codes "i 2 send\nx 1\nx 1\n") ≡ BadShape 3
unfolding verdict judged solution_verdict sparse_verdict flow_verdict set_verdict reading first_fault
    first_fault_of_lines faults fault_of_line total_of fault_at_end instance_of_lines
    parsing answer_of_lines misfit misfit_of_lines misfits fits is_complete version_said cost_said sent_said moved_said price_said
    set_said member_said refusal_said opening_said
a_set_that_names_a_node_twice = refl

the_right_refusal : verdict late_node (codes "r 3 late-n\n") ≡ RefusalAccepted (record { line = 3; code = LateN })
unfolding verdict judged solution_verdict sparse_verdict flow_verdict set_verdict reading first_fault
    first_fault_of_lines faults fault_of_line total_of fault_at_end instance_of_lines
    parsing answer_of_lines misfit misfit_of_lines misfits fits is_complete version_said cost_said sent_said moved_said price_said
    set_said member_said refusal_said opening_said
the_right_refusal = refl

a_refusal_of_another_line : verdict late_node (codes "r 2 late-n\n") ≡ BadRefusal
unfolding verdict judged solution_verdict sparse_verdict flow_verdict set_verdict reading first_fault
    first_fault_of_lines faults fault_of_line total_of fault_at_end instance_of_lines
    parsing answer_of_lines misfit misfit_of_lines misfits fits is_complete version_said cost_said sent_said moved_said price_said
    set_said member_said refusal_said opening_said
a_refusal_of_another_line = refl

a_flow_for_a_faulty_instance : verdict late_node (codes "s 0\n") ≡ BadKind
unfolding verdict judged solution_verdict sparse_verdict flow_verdict set_verdict reading first_fault
    first_fault_of_lines faults fault_of_line total_of fault_at_end instance_of_lines
    parsing answer_of_lines misfit misfit_of_lines misfits fits is_complete version_said cost_said sent_said moved_said price_said
    set_said member_said refusal_said opening_said
a_flow_for_a_faulty_instance = refl

a_refusal_in_another_spelling : verdict late_node (codes "c mine\n  r   +03 late-n\n") ≡ RefusalAccepted (record { line = 3; code = LateN })
unfolding verdict judged solution_verdict sparse_verdict flow_verdict set_verdict reading first_fault
    first_fault_of_lines faults fault_of_line total_of fault_at_end instance_of_lines
    parsing answer_of_lines misfit misfit_of_lines misfits fits is_complete version_said cost_said sent_said moved_said price_said
    set_said member_said refusal_said opening_said
a_refusal_in_another_spelling = refl

a_set_of_an_assignment : verdict two_rows_one_column (codes "i 1 take\nx 4\n") ≡ SetAccepted 1
unfolding verdict judged solution_verdict sparse_verdict flow_verdict set_verdict reading first_fault
    first_fault_of_lines faults fault_of_line total_of fault_at_end instance_of_lines
    parsing answer_of_lines misfit misfit_of_lines misfits fits is_complete version_said cost_said sent_said moved_said price_said
    set_said member_said refusal_said opening_said
a_set_of_an_assignment = refl

a_set_that_must_send_what_it_can : verdict two_rows_one_column (codes "i 2 send\nx 1\nx 2\n") ≡ BadSet
unfolding verdict judged solution_verdict sparse_verdict flow_verdict set_verdict reading first_fault
    first_fault_of_lines faults fault_of_line total_of fault_at_end instance_of_lines
    parsing answer_of_lines misfit misfit_of_lines misfits fits is_complete version_said cost_said sent_said moved_said price_said
    set_said member_said refusal_said opening_said
a_set_that_must_send_what_it_can = refl

a_matching_that_is_not_least : verdict two_by_two (codes "s 6\nf 1 3 1\nf 1 4 0\nf 2 3 0\nf 2 4 1\ny 1 0\ny 2 0\ny 3 -2\ny 4 -1\n") ≡ BadPrice 1
unfolding verdict judged solution_verdict sparse_verdict flow_verdict set_verdict reading first_fault
    first_fault_of_lines faults fault_of_line total_of fault_at_end instance_of_lines
    parsing answer_of_lines misfit misfit_of_lines misfits fits is_complete version_said cost_said sent_said moved_said price_said
    set_said member_said refusal_said opening_said
a_matching_that_is_not_least = refl

-- ---- two neighbouring verdicts apply: the first of the table is given

shape_before_kind : verdict late_node (codes "s 0\nx 1\n") ≡ BadShape 2
unfolding verdict judged solution_verdict sparse_verdict flow_verdict set_verdict reading first_fault
    first_fault_of_lines faults fault_of_line total_of fault_at_end instance_of_lines
    parsing answer_of_lines misfit misfit_of_lines misfits fits is_complete version_said cost_said sent_said moved_said price_said
    set_said member_said refusal_said opening_said
shape_before_kind = refl

kind_before_arc : verdict late_node (codes "s 0\nf 9 9 9\n") ≡ BadKind
unfolding verdict judged solution_verdict sparse_verdict flow_verdict set_verdict reading first_fault
    first_fault_of_lines faults fault_of_line total_of fault_at_end instance_of_lines
    parsing answer_of_lines misfit misfit_of_lines misfits fits is_complete version_said cost_said sent_said moved_said price_said
    set_said member_said refusal_said opening_said
kind_before_arc = refl

arc_before_node : verdict four_nodes (codes "s 14\nf 1 2 2\nf 1 3 3\nf 2 3 2\nf 2 4 0\nf 3 4 4\ny 1 0\ny 2 -2\ny 3 -3\n") ≡ BadArc 2
unfolding verdict judged solution_verdict sparse_verdict flow_verdict set_verdict reading first_fault
    first_fault_of_lines faults fault_of_line total_of fault_at_end instance_of_lines
    parsing answer_of_lines misfit misfit_of_lines misfits fits is_complete version_said cost_said sent_said moved_said price_said
    set_said member_said refusal_said opening_said
arc_before_node = refl

node_before_price : verdict four_nodes (codes "s 14\nf 1 2 2\nf 1 3 2\nf 2 3 2\nf 2 4 0\nf 3 4 3\ny 1 0\ny 2 -2\ny 3 -3\ny 4 -9\n") ≡ BadNode 3
unfolding verdict judged solution_verdict sparse_verdict flow_verdict set_verdict reading first_fault
    first_fault_of_lines faults fault_of_line total_of fault_at_end instance_of_lines
    parsing answer_of_lines misfit misfit_of_lines misfits fits is_complete version_said cost_said sent_said moved_said price_said
    set_said member_said refusal_said opening_said
node_before_price = refl

price_before_cost : verdict four_nodes (codes "s 15\nf 1 2 2\nf 1 3 2\nf 2 3 2\nf 2 4 0\nf 3 4 4\ny 1 0\ny 2 -2\ny 3 -3\ny 4 -9\n") ≡ BadPrice 4
unfolding verdict judged solution_verdict sparse_verdict flow_verdict set_verdict reading first_fault
    first_fault_of_lines faults fault_of_line total_of fault_at_end instance_of_lines
    parsing answer_of_lines misfit misfit_of_lines misfits fits is_complete version_said cost_said sent_said moved_said price_said
    set_said member_said refusal_said opening_said
price_before_cost = refl

a_flow_at_its_low : verdict four_nodes (codes "s 14\nf 1 2 2\nf 1 3 2\nf 2 3 2\nf 2 4 -1\nf 3 4 4\ny 1 0\ny 2 -2\ny 3 -3\ny 4 -4\n") ≡ BadArc 4
unfolding verdict judged solution_verdict sparse_verdict flow_verdict set_verdict reading first_fault
    first_fault_of_lines faults fault_of_line total_of fault_at_end instance_of_lines
    parsing answer_of_lines misfit misfit_of_lines misfits fits is_complete version_said cost_said sent_said moved_said price_said
    set_said member_said refusal_said opening_said
a_flow_at_its_low = refl

a_node_past_the_last_before_blocking : verdict too_narrow (codes "i 2 send\nx 1\nx 3\n") ≡ BadSet
unfolding verdict judged solution_verdict sparse_verdict flow_verdict set_verdict reading first_fault
    first_fault_of_lines faults fault_of_line total_of fault_at_end instance_of_lines
    parsing answer_of_lines misfit misfit_of_lines misfits fits is_complete version_said cost_said sent_said moved_said price_said
    set_said member_said refusal_said opening_said
a_node_past_the_last_before_blocking = refl
