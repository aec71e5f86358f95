-- The answer of the worked instance of four nodes and five arcs, cut short or with a number
-- changed, judged on the definitions.
use Rattle.std.specs.Prelude.{◌≡◌, ℕ, List, codes, map, take, replicate, pos, refl}
use Rattle.std.specs.List.{range_with_len}
use Rattle.mcf_answer.specs.Fits.{fits, is_complete, misfit, misfit_of_lines, misfits}
use Rattle.mcf_answer.specs.Parsing.{answer_of_lines, parsing}
use Rattle.mcf_answer.specs.Said.{version_said, cost_said, sent_said, moved_said, price_said, set_said, member_said, refusal_said, opening_said}
use Rattle.mcf_checker.specs.Judging.{flow_verdict, judged, set_verdict, solution_verdict, sparse_verdict, verdict}
use Rattle.mcf_checker.specs.declared.verdict.Verdict.{Verdict}
use Rattle.mcf_checker.specs.declared.verdict.Verdict.TheVariants.{BadShape, BadArc, BadNode, BadPrice, Flow as FlowAccepted}
use Rattle.mcf_instance.specs.Fault.{fault_at_end, fault_of_line, faults, first_fault, first_fault_of_lines, total_of}
use Rattle.mcf_instance.specs.Reading.{instance_of_lines, reading}

abbrev instance_text : List ℕ
instance_text = codes "p min 4 5\nn 1 4\nn 4 -4\na 1 2 0 4 2\na 1 3 0 2 2\na 2 3 0 2 1\na 2 4 0 3 3\na 3 4 0 5 1\n"

abbrev answer_text : List ℕ
answer_text = codes "s 14\nf 1 2 2\nf 1 3 2\nf 2 3 2\nf 2 4 0\nf 3 4 4\ny 1 0\ny 2 -2\ny 3 -3\ny 4 -4\n"

-- the verdicts on its first bytes, for so many lengths from one on
abbrev verdicts_on_cuts : ℕ → ℕ → List Verdict
verdicts_on_cuts from count = map (λ length. verdict instance_text (take length answer_text)) (range_with_len from count)

cut_from_0 : verdicts_on_cuts 0 3 ≡ replicate 3 (BadShape 1)
unfolding verdict judged solution_verdict sparse_verdict flow_verdict set_verdict reading first_fault
    first_fault_of_lines faults fault_of_line total_of fault_at_end instance_of_lines
    parsing answer_of_lines misfit misfit_of_lines misfits fits is_complete version_said cost_said sent_said moved_said price_said
    set_said member_said refusal_said opening_said
cut_from_0 = refl

cut_from_3 : verdicts_on_cuts 3 3 ≡ replicate 3 (BadArc 1)
unfolding verdict judged solution_verdict sparse_verdict flow_verdict set_verdict reading first_fault
    first_fault_of_lines faults fault_of_line total_of fault_at_end instance_of_lines
    parsing answer_of_lines misfit misfit_of_lines misfits fits is_complete version_said cost_said sent_said moved_said price_said
    set_said member_said refusal_said opening_said
cut_from_3 = refl

cut_from_6 : verdicts_on_cuts 6 6 ≡ replicate 6 (BadShape 2)
unfolding verdict judged solution_verdict sparse_verdict flow_verdict set_verdict reading first_fault
    first_fault_of_lines faults fault_of_line total_of fault_at_end instance_of_lines
    parsing answer_of_lines misfit misfit_of_lines misfits fits is_complete version_said cost_said sent_said moved_said price_said
    set_said member_said refusal_said opening_said
cut_from_6 = refl

cut_from_12 : verdicts_on_cuts 12 2 ≡ replicate 2 (BadArc 2)
unfolding verdict judged solution_verdict sparse_verdict flow_verdict set_verdict reading first_fault
    first_fault_of_lines faults fault_of_line total_of fault_at_end instance_of_lines
    parsing answer_of_lines misfit misfit_of_lines misfits fits is_complete version_said cost_said sent_said moved_said price_said
    set_said member_said refusal_said opening_said
cut_from_12 = refl

cut_from_14 : verdicts_on_cuts 14 6 ≡ replicate 6 (BadShape 3)
unfolding verdict judged solution_verdict sparse_verdict flow_verdict set_verdict reading first_fault
    first_fault_of_lines faults fault_of_line total_of fault_at_end instance_of_lines
    parsing answer_of_lines misfit misfit_of_lines misfits fits is_complete version_said cost_said sent_said moved_said price_said
    set_said member_said refusal_said opening_said
cut_from_14 = refl

cut_from_20 : verdicts_on_cuts 20 2 ≡ replicate 2 (BadArc 3)
unfolding verdict judged solution_verdict sparse_verdict flow_verdict set_verdict reading first_fault
    first_fault_of_lines faults fault_of_line total_of fault_at_end instance_of_lines
    parsing answer_of_lines misfit misfit_of_lines misfits fits is_complete version_said cost_said sent_said moved_said price_said
    set_said member_said refusal_said opening_said
cut_from_20 = refl

cut_from_22 : verdicts_on_cuts 22 6 ≡ replicate 6 (BadShape 4)
unfolding verdict judged solution_verdict sparse_verdict flow_verdict set_verdict reading first_fault
    first_fault_of_lines faults fault_of_line total_of fault_at_end instance_of_lines
    parsing answer_of_lines misfit misfit_of_lines misfits fits is_complete version_said cost_said sent_said moved_said price_said
    set_said member_said refusal_said opening_said
cut_from_22 = refl

cut_from_28 : verdicts_on_cuts 28 2 ≡ replicate 2 (BadArc 4)
unfolding verdict judged solution_verdict sparse_verdict flow_verdict set_verdict reading first_fault
    first_fault_of_lines faults fault_of_line total_of fault_at_end instance_of_lines
    parsing answer_of_lines misfit misfit_of_lines misfits fits is_complete version_said cost_said sent_said moved_said price_said
    set_said member_said refusal_said opening_said
cut_from_28 = refl

cut_from_30 : verdicts_on_cuts 30 6 ≡ replicate 6 (BadShape 5)
unfolding verdict judged solution_verdict sparse_verdict flow_verdict set_verdict reading first_fault
    first_fault_of_lines faults fault_of_line total_of fault_at_end instance_of_lines
    parsing answer_of_lines misfit misfit_of_lines misfits fits is_complete version_said cost_said sent_said moved_said price_said
    set_said member_said refusal_said opening_said
cut_from_30 = refl

cut_from_36 : verdicts_on_cuts 36 2 ≡ replicate 2 (BadArc 5)
unfolding verdict judged solution_verdict sparse_verdict flow_verdict set_verdict reading first_fault
    first_fault_of_lines faults fault_of_line total_of fault_at_end instance_of_lines
    parsing answer_of_lines misfit misfit_of_lines misfits fits is_complete version_said cost_said sent_said moved_said price_said
    set_said member_said refusal_said opening_said
cut_from_36 = refl

cut_from_38 : verdicts_on_cuts 38 6 ≡ replicate 6 (BadShape 6)
unfolding verdict judged solution_verdict sparse_verdict flow_verdict set_verdict reading first_fault
    first_fault_of_lines faults fault_of_line total_of fault_at_end instance_of_lines
    parsing answer_of_lines misfit misfit_of_lines misfits fits is_complete version_said cost_said sent_said moved_said price_said
    set_said member_said refusal_said opening_said
cut_from_38 = refl

cut_from_44 : verdicts_on_cuts 44 2 ≡ replicate 2 (BadNode 1)
unfolding verdict judged solution_verdict sparse_verdict flow_verdict set_verdict reading first_fault
    first_fault_of_lines faults fault_of_line total_of fault_at_end instance_of_lines
    parsing answer_of_lines misfit misfit_of_lines misfits fits is_complete version_said cost_said sent_said moved_said price_said
    set_said member_said refusal_said opening_said
cut_from_44 = refl

cut_from_46 : verdicts_on_cuts 46 4 ≡ replicate 4 (BadShape 7)
unfolding verdict judged solution_verdict sparse_verdict flow_verdict set_verdict reading first_fault
    first_fault_of_lines faults fault_of_line total_of fault_at_end instance_of_lines
    parsing answer_of_lines misfit misfit_of_lines misfits fits is_complete version_said cost_said sent_said moved_said price_said
    set_said member_said refusal_said opening_said
cut_from_46 = refl

cut_from_50 : verdicts_on_cuts 50 2 ≡ replicate 2 (BadNode 2)
unfolding verdict judged solution_verdict sparse_verdict flow_verdict set_verdict reading first_fault
    first_fault_of_lines faults fault_of_line total_of fault_at_end instance_of_lines
    parsing answer_of_lines misfit misfit_of_lines misfits fits is_complete version_said cost_said sent_said moved_said price_said
    set_said member_said refusal_said opening_said
cut_from_50 = refl

cut_from_52 : verdicts_on_cuts 52 5 ≡ replicate 5 (BadShape 8)
unfolding verdict judged solution_verdict sparse_verdict flow_verdict set_verdict reading first_fault
    first_fault_of_lines faults fault_of_line total_of fault_at_end instance_of_lines
    parsing answer_of_lines misfit misfit_of_lines misfits fits is_complete version_said cost_said sent_said moved_said price_said
    set_said member_said refusal_said opening_said
cut_from_52 = refl

cut_from_57 : verdicts_on_cuts 57 2 ≡ replicate 2 (BadNode 3)
unfolding verdict judged solution_verdict sparse_verdict flow_verdict set_verdict reading first_fault
    first_fault_of_lines faults fault_of_line total_of fault_at_end instance_of_lines
    parsing answer_of_lines misfit misfit_of_lines misfits fits is_complete version_said cost_said sent_said moved_said price_said
    set_said member_said refusal_said opening_said
cut_from_57 = refl

cut_from_59 : verdicts_on_cuts 59 5 ≡ replicate 5 (BadShape 9)
unfolding verdict judged solution_verdict sparse_verdict flow_verdict set_verdict reading first_fault
    first_fault_of_lines faults fault_of_line total_of fault_at_end instance_of_lines
    parsing answer_of_lines misfit misfit_of_lines misfits fits is_complete version_said cost_said sent_said moved_said price_said
    set_said member_said refusal_said opening_said
cut_from_59 = refl

cut_from_64 : verdicts_on_cuts 64 2 ≡ replicate 2 (BadNode 4)
unfolding verdict judged solution_verdict sparse_verdict flow_verdict set_verdict reading first_fault
    first_fault_of_lines faults fault_of_line total_of fault_at_end instance_of_lines
    parsing answer_of_lines misfit misfit_of_lines misfits fits is_complete version_said cost_said sent_said moved_said price_said
    set_said member_said refusal_said opening_said
cut_from_64 = refl

cut_from_66 : verdicts_on_cuts 66 5 ≡ replicate 5 (BadShape 10)
unfolding verdict judged solution_verdict sparse_verdict flow_verdict set_verdict reading first_fault
    first_fault_of_lines faults fault_of_line total_of fault_at_end instance_of_lines
    parsing answer_of_lines misfit misfit_of_lines misfits fits is_complete version_said cost_said sent_said moved_said price_said
    set_said member_said refusal_said opening_said
cut_from_66 = refl

cut_from_71 : verdicts_on_cuts 71 2 ≡ replicate 2 (FlowAccepted (pos 14))
unfolding verdict judged solution_verdict sparse_verdict flow_verdict set_verdict reading first_fault
    first_fault_of_lines faults fault_of_line total_of fault_at_end instance_of_lines
    parsing answer_of_lines misfit misfit_of_lines misfits fits is_complete version_said cost_said sent_said moved_said price_said
    set_said member_said refusal_said opening_said
cut_from_71 = refl

flow_1_raised : verdict instance_text (codes "s 14\nf 1 2 3\nf 1 3 2\nf 2 3 2\nf 2 4 0\nf 3 4 4\ny 1 0\ny 2 -2\ny 3 -3\ny 4 -4\n") ≡ BadNode 1
unfolding verdict judged solution_verdict sparse_verdict flow_verdict set_verdict reading first_fault
    first_fault_of_lines faults fault_of_line total_of fault_at_end instance_of_lines
    parsing answer_of_lines misfit misfit_of_lines misfits fits is_complete version_said cost_said sent_said moved_said price_said
    set_said member_said refusal_said opening_said
flow_1_raised = refl

flow_1_lowered : verdict instance_text (codes "s 14\nf 1 2 1\nf 1 3 2\nf 2 3 2\nf 2 4 0\nf 3 4 4\ny 1 0\ny 2 -2\ny 3 -3\ny 4 -4\n") ≡ BadNode 1
unfolding verdict judged solution_verdict sparse_verdict flow_verdict set_verdict reading first_fault
    first_fault_of_lines faults fault_of_line total_of fault_at_end instance_of_lines
    parsing answer_of_lines misfit misfit_of_lines misfits fits is_complete version_said cost_said sent_said moved_said price_said
    set_said member_said refusal_said opening_said
flow_1_lowered = refl

flow_2_raised : verdict instance_text (codes "s 14\nf 1 2 2\nf 1 3 3\nf 2 3 2\nf 2 4 0\nf 3 4 4\ny 1 0\ny 2 -2\ny 3 -3\ny 4 -4\n") ≡ BadArc 2
unfolding verdict judged solution_verdict sparse_verdict flow_verdict set_verdict reading first_fault
    first_fault_of_lines faults fault_of_line total_of fault_at_end instance_of_lines
    parsing answer_of_lines misfit misfit_of_lines misfits fits is_complete version_said cost_said sent_said moved_said price_said
    set_said member_said refusal_said opening_said
flow_2_raised = refl

flow_2_lowered : verdict instance_text (codes "s 14\nf 1 2 2\nf 1 3 1\nf 2 3 2\nf 2 4 0\nf 3 4 4\ny 1 0\ny 2 -2\ny 3 -3\ny 4 -4\n") ≡ BadNode 1
unfolding verdict judged solution_verdict sparse_verdict flow_verdict set_verdict reading first_fault
    first_fault_of_lines faults fault_of_line total_of fault_at_end instance_of_lines
    parsing answer_of_lines misfit misfit_of_lines misfits fits is_complete version_said cost_said sent_said moved_said price_said
    set_said member_said refusal_said opening_said
flow_2_lowered = refl

flow_3_raised : verdict instance_text (codes "s 14\nf 1 2 2\nf 1 3 2\nf 2 3 3\nf 2 4 0\nf 3 4 4\ny 1 0\ny 2 -2\ny 3 -3\ny 4 -4\n") ≡ BadArc 3
unfolding verdict judged solution_verdict sparse_verdict flow_verdict set_verdict reading first_fault
    first_fault_of_lines faults fault_of_line total_of fault_at_end instance_of_lines
    parsing answer_of_lines misfit misfit_of_lines misfits fits is_complete version_said cost_said sent_said moved_said price_said
    set_said member_said refusal_said opening_said
flow_3_raised = refl

flow_3_lowered : verdict instance_text (codes "s 14\nf 1 2 2\nf 1 3 2\nf 2 3 1\nf 2 4 0\nf 3 4 4\ny 1 0\ny 2 -2\ny 3 -3\ny 4 -4\n") ≡ BadNode 2
unfolding verdict judged solution_verdict sparse_verdict flow_verdict set_verdict reading first_fault
    first_fault_of_lines faults fault_of_line total_of fault_at_end instance_of_lines
    parsing answer_of_lines misfit misfit_of_lines misfits fits is_complete version_said cost_said sent_said moved_said price_said
    set_said member_said refusal_said opening_said
flow_3_lowered = refl

flow_4_raised : verdict instance_text (codes "s 14\nf 1 2 2\nf 1 3 2\nf 2 3 2\nf 2 4 1\nf 3 4 4\ny 1 0\ny 2 -2\ny 3 -3\ny 4 -4\n") ≡ BadNode 2
unfolding verdict judged solution_verdict sparse_verdict flow_verdict set_verdict reading first_fault
    first_fault_of_lines faults fault_of_line total_of fault_at_end instance_of_lines
    parsing answer_of_lines misfit misfit_of_lines misfits fits is_complete version_said cost_said sent_said moved_said price_said
    set_said member_said refusal_said opening_said
flow_4_raised = refl

flow_4_lowered : verdict instance_text (codes "s 14\nf 1 2 2\nf 1 3 2\nf 2 3 2\nf 2 4 -1\nf 3 4 4\ny 1 0\ny 2 -2\ny 3 -3\ny 4 -4\n") ≡ BadArc 4
unfolding verdict judged solution_verdict sparse_verdict flow_verdict set_verdict reading first_fault
    first_fault_of_lines faults fault_of_line total_of fault_at_end instance_of_lines
    parsing answer_of_lines misfit misfit_of_lines misfits fits is_complete version_said cost_said sent_said moved_said price_said
    set_said member_said refusal_said opening_said
flow_4_lowered = refl

flow_5_raised : verdict instance_text (codes "s 14\nf 1 2 2\nf 1 3 2\nf 2 3 2\nf 2 4 0\nf 3 4 5\ny 1 0\ny 2 -2\ny 3 -3\ny 4 -4\n") ≡ BadNode 3
unfolding verdict judged solution_verdict sparse_verdict flow_verdict set_verdict reading first_fault
    first_fault_of_lines faults fault_of_line total_of fault_at_end instance_of_lines
    parsing answer_of_lines misfit misfit_of_lines misfits fits is_complete version_said cost_said sent_said moved_said price_said
    set_said member_said refusal_said opening_said
flow_5_raised = refl

flow_5_lowered : verdict instance_text (codes "s 14\nf 1 2 2\nf 1 3 2\nf 2 3 2\nf 2 4 0\nf 3 4 3\ny 1 0\ny 2 -2\ny 3 -3\ny 4 -4\n") ≡ BadNode 3
unfolding verdict judged solution_verdict sparse_verdict flow_verdict set_verdict reading first_fault
    first_fault_of_lines faults fault_of_line total_of fault_at_end instance_of_lines
    parsing answer_of_lines misfit misfit_of_lines misfits fits is_complete version_said cost_said sent_said moved_said price_said
    set_said member_said refusal_said opening_said
flow_5_lowered = refl

price_1_raised : verdict instance_text (codes "s 14\nf 1 2 2\nf 1 3 2\nf 2 3 2\nf 2 4 0\nf 3 4 4\ny 1 1\ny 2 -2\ny 3 -3\ny 4 -4\n") ≡ BadPrice 1
unfolding verdict judged solution_verdict sparse_verdict flow_verdict set_verdict reading first_fault
    first_fault_of_lines faults fault_of_line total_of fault_at_end instance_of_lines
    parsing answer_of_lines misfit misfit_of_lines misfits fits is_complete version_said cost_said sent_said moved_said price_said
    set_said member_said refusal_said opening_said
price_1_raised = refl

price_1_lowered : verdict instance_text (codes "s 14\nf 1 2 2\nf 1 3 2\nf 2 3 2\nf 2 4 0\nf 3 4 4\ny 1 -1\ny 2 -2\ny 3 -3\ny 4 -4\n") ≡ BadPrice 1
unfolding verdict judged solution_verdict sparse_verdict flow_verdict set_verdict reading first_fault
    first_fault_of_lines faults fault_of_line total_of fault_at_end instance_of_lines
    parsing answer_of_lines misfit misfit_of_lines misfits fits is_complete version_said cost_said sent_said moved_said price_said
    set_said member_said refusal_said opening_said
price_1_lowered = refl

price_2_raised : verdict instance_text (codes "s 14\nf 1 2 2\nf 1 3 2\nf 2 3 2\nf 2 4 0\nf 3 4 4\ny 1 0\ny 2 -1\ny 3 -3\ny 4 -4\n") ≡ BadPrice 1
unfolding verdict judged solution_verdict sparse_verdict flow_verdict set_verdict reading first_fault
    first_fault_of_lines faults fault_of_line total_of fault_at_end instance_of_lines
    parsing answer_of_lines misfit misfit_of_lines misfits fits is_complete version_said cost_said sent_said moved_said price_said
    set_said member_said refusal_said opening_said
price_2_raised = refl

price_2_lowered : verdict instance_text (codes "s 14\nf 1 2 2\nf 1 3 2\nf 2 3 2\nf 2 4 0\nf 3 4 4\ny 1 0\ny 2 -3\ny 3 -3\ny 4 -4\n") ≡ BadPrice 1
unfolding verdict judged solution_verdict sparse_verdict flow_verdict set_verdict reading first_fault
    first_fault_of_lines faults fault_of_line total_of fault_at_end instance_of_lines
    parsing answer_of_lines misfit misfit_of_lines misfits fits is_complete version_said cost_said sent_said moved_said price_said
    set_said member_said refusal_said opening_said
price_2_lowered = refl

price_3_raised : verdict instance_text (codes "s 14\nf 1 2 2\nf 1 3 2\nf 2 3 2\nf 2 4 0\nf 3 4 4\ny 1 0\ny 2 -2\ny 3 -2\ny 4 -4\n") ≡ BadPrice 3
unfolding verdict judged solution_verdict sparse_verdict flow_verdict set_verdict reading first_fault
    first_fault_of_lines faults fault_of_line total_of fault_at_end instance_of_lines
    parsing answer_of_lines misfit misfit_of_lines misfits fits is_complete version_said cost_said sent_said moved_said price_said
    set_said member_said refusal_said opening_said
price_3_raised = refl

price_3_lowered : verdict instance_text (codes "s 14\nf 1 2 2\nf 1 3 2\nf 2 3 2\nf 2 4 0\nf 3 4 4\ny 1 0\ny 2 -2\ny 3 -4\ny 4 -4\n") ≡ BadPrice 5
unfolding verdict judged solution_verdict sparse_verdict flow_verdict set_verdict reading first_fault
    first_fault_of_lines faults fault_of_line total_of fault_at_end instance_of_lines
    parsing answer_of_lines misfit misfit_of_lines misfits fits is_complete version_said cost_said sent_said moved_said price_said
    set_said member_said refusal_said opening_said
price_3_lowered = refl

price_4_raised : verdict instance_text (codes "s 14\nf 1 2 2\nf 1 3 2\nf 2 3 2\nf 2 4 0\nf 3 4 4\ny 1 0\ny 2 -2\ny 3 -3\ny 4 -3\n") ≡ BadPrice 5
unfolding verdict judged solution_verdict sparse_verdict flow_verdict set_verdict reading first_fault
    first_fault_of_lines faults fault_of_line total_of fault_at_end instance_of_lines
    parsing answer_of_lines misfit misfit_of_lines misfits fits is_complete version_said cost_said sent_said moved_said price_said
    set_said member_said refusal_said opening_said
price_4_raised = refl

price_4_lowered : verdict instance_text (codes "s 14\nf 1 2 2\nf 1 3 2\nf 2 3 2\nf 2 4 0\nf 3 4 4\ny 1 0\ny 2 -2\ny 3 -3\ny 4 -5\n") ≡ BadPrice 5
unfolding verdict judged solution_verdict sparse_verdict flow_verdict set_verdict reading first_fault
    first_fault_of_lines faults fault_of_line total_of fault_at_end instance_of_lines
    parsing answer_of_lines misfit misfit_of_lines misfits fits is_complete version_said cost_said sent_said moved_said price_said
    set_said member_said refusal_said opening_said
price_4_lowered = refl
