-- Small texts, with what they stand for as answers.
use Rattle.std.specs.Prelude.{◌≡◌, ℕ, List, [], ◌∷◌, ◌++◌, ◌^◌, codes, flat_map, refl, pos, neg_ℤ, Result, Ok, Err}
use Rattle.mcf_answer.specs.Fits.{fits, misfits, is_complete, misfit_of_lines, misfit}
use Rattle.mcf_answer.specs.Parsing.{answer_of_lines, parsing}
use Rattle.mcf_answer.specs.Said.{cost_said, version_said, sent_said, moved_said, price_said, set_said, member_said, refusal_said, opening_said}
use Rattle.mcf_answer.specs.declared.answers.Answer.{Answer}
use Rattle.mcf_answer.specs.declared.answers.Answer.TheVariants.{Flow, Sparse, Refused}
use Rattle.mcf_answer.specs.declared.shape.Shape.{Shape}
use Rattle.mcf_flows.specs.declared.code.Code.TheVariants.{LateN}

-- what a text of these lines stands for, each with its end
abbrev parsed : List (List ℕ) → Result Answer Shape
parsed lines = parsing (flat_map (λ line. line ++ 10 ∷ []) lines)

-- no answer, as is seen at this line
abbrev no : ℕ → Result Answer Shape
no line = Err (record { line = line })

the_empty_text : parsed ([]) ≡ no 1
unfolding parsing misfit misfit_of_lines misfits is_complete fits answer_of_lines opening_said cost_said version_said sent_said moved_said price_said set_said
    member_said refusal_said
the_empty_text = refl

comments_alone : parsed (codes "c hello" ∷ [] ∷ []) ≡ no 3
unfolding parsing misfit misfit_of_lines misfits is_complete fits answer_of_lines opening_said cost_said version_said sent_said moved_said price_said set_said
    member_said refusal_said
comments_alone = refl

a_set_with_a_node_too_few : parsed (codes "i 2 send" ∷ codes "x 1" ∷ []) ≡ no 3
unfolding parsing misfit misfit_of_lines misfits is_complete fits answer_of_lines opening_said cost_said version_said sent_said moved_said price_said set_said
    member_said refusal_said
a_set_with_a_node_too_few = refl

a_set_that_doesnt_ascend : parsed (codes "i 2 send" ∷ codes "x 1" ∷ codes "x 1" ∷ []) ≡ no 3
unfolding parsing misfit misfit_of_lines misfits is_complete fits answer_of_lines opening_said cost_said version_said sent_said moved_said price_said set_said
    member_said refusal_said
a_set_that_doesnt_ascend = refl

a_set_with_a_node_too_many : parsed (codes "i 1 send" ∷ codes "x 1" ∷ codes "x 2" ∷ []) ≡ no 3
unfolding parsing misfit misfit_of_lines misfits is_complete fits answer_of_lines opening_said cost_said version_said sent_said moved_said price_said set_said
    member_said refusal_said
a_set_with_a_node_too_many = refl

a_set_without_nodes : parsed (codes "i 0 send" ∷ []) ≡ no 1
unfolding parsing misfit misfit_of_lines misfits is_complete fits answer_of_lines opening_said cost_said version_said sent_said moved_said price_said set_said
    member_said refusal_said
a_set_without_nodes = refl

a_set_of_no_side : parsed (codes "i 1 Send" ∷ codes "x 1" ∷ []) ≡ no 1
unfolding parsing misfit misfit_of_lines misfits is_complete fits answer_of_lines opening_said cost_said version_said sent_said moved_said price_said set_said
    member_said refusal_said
a_set_of_no_side = refl

a_flow_line_after_a_price_line : parsed (codes "s 14" ∷ codes "f 1 2 2" ∷ codes "y 1 0" ∷ codes "f 3 4 4" ∷ []) ≡ no 4
unfolding parsing misfit misfit_of_lines misfits is_complete fits answer_of_lines opening_said cost_said version_said sent_said moved_said price_said set_said
    member_said refusal_said
a_flow_line_after_a_price_line = refl

a_price_line_out_of_turn : parsed (codes "s 0" ∷ codes "y 1 0" ∷ codes "y 3 0" ∷ []) ≡ no 3
unfolding parsing misfit misfit_of_lines misfits is_complete fits answer_of_lines opening_said cost_said version_said sent_said moved_said price_said set_said
    member_said refusal_said
a_price_line_out_of_turn = refl

a_first_price_line_of_node_two : parsed (codes "s 0" ∷ codes "y 2 0" ∷ []) ≡ no 2
unfolding parsing misfit misfit_of_lines misfits is_complete fits answer_of_lines opening_said cost_said version_said sent_said moved_said price_said set_said
    member_said refusal_said
a_first_price_line_of_node_two = refl

two_cost_lines : parsed (codes "s 0" ∷ codes "s 0" ∷ []) ≡ no 2
unfolding parsing misfit misfit_of_lines misfits is_complete fits answer_of_lines opening_said cost_said version_said sent_said moved_said price_said set_said
    member_said refusal_said
two_cost_lines = refl

a_flow_line_first : parsed (codes "f 1 2 0" ∷ []) ≡ no 1
unfolding parsing misfit misfit_of_lines misfits is_complete fits answer_of_lines opening_said cost_said version_said sent_said moved_said price_said set_said
    member_said refusal_said
a_flow_line_first = refl

a_node_line_in_a_flow : parsed (codes "s 0" ∷ codes "x 1" ∷ []) ≡ no 2
unfolding parsing misfit misfit_of_lines misfits is_complete fits answer_of_lines opening_said cost_said version_said sent_said moved_said price_said set_said
    member_said refusal_said
a_node_line_in_a_flow = refl

a_flow_line_in_a_set : parsed (codes "i 1 send" ∷ codes "f 1 2 0" ∷ codes "x 1" ∷ []) ≡ no 2
unfolding parsing misfit misfit_of_lines misfits is_complete fits answer_of_lines opening_said cost_said version_said sent_said moved_said price_said set_said
    member_said refusal_said
a_flow_line_in_a_set = refl

a_line_after_a_refusal : parsed (codes "r 3 late-n" ∷ codes "r 3 late-n" ∷ []) ≡ no 2
unfolding parsing misfit misfit_of_lines misfits is_complete fits answer_of_lines opening_said cost_said version_said sent_said moved_said price_said set_said
    member_said refusal_said
a_line_after_a_refusal = refl

a_code_that_is_none : parsed (codes "r 1 nonsense" ∷ []) ≡ no 1
unfolding parsing misfit misfit_of_lines misfits is_complete fits answer_of_lines opening_said cost_said version_said sent_said moved_said price_said set_said
    member_said refusal_said
a_code_that_is_none = refl

a_refusal_of_line_zero : parsed (codes "r 0 no-p" ∷ []) ≡ no 1
unfolding parsing misfit misfit_of_lines misfits is_complete fits answer_of_lines opening_said cost_said version_said sent_said moved_said price_said set_said
    member_said refusal_said
a_refusal_of_line_zero = refl

a_node_out_of_range : parsed (codes "s 0" ∷ codes "f 1 1000001 0" ∷ []) ≡ no 2
unfolding parsing misfit misfit_of_lines misfits is_complete fits answer_of_lines opening_said cost_said version_said sent_said moved_said price_said set_said
    member_said refusal_said
a_node_out_of_range = refl

a_node_zero : parsed (codes "s 0" ∷ codes "f 0 1 0" ∷ []) ≡ no 2
unfolding parsing misfit misfit_of_lines misfits is_complete fits answer_of_lines opening_said cost_said version_said sent_said moved_said price_said set_said
    member_said refusal_said
a_node_zero = refl

a_field_too_many : parsed (codes "s 0 0" ∷ []) ≡ no 1
unfolding parsing misfit misfit_of_lines misfits is_complete fits answer_of_lines opening_said cost_said version_said sent_said moved_said price_said set_said
    member_said refusal_said
a_field_too_many = refl

a_field_too_few : parsed (codes "s 0" ∷ codes "f 1 2" ∷ []) ≡ no 2
unfolding parsing misfit misfit_of_lines misfits is_complete fits answer_of_lines opening_said cost_said version_said sent_said moved_said price_said set_said
    member_said refusal_said
a_field_too_few = refl

a_cost_past_the_limit : parsed (codes "s 10000000000000000000000000000000000001" ∷ []) ≡ no 1
unfolding parsing misfit misfit_of_lines misfits is_complete fits answer_of_lines opening_said cost_said version_said sent_said moved_said price_said set_said
    member_said refusal_said
a_cost_past_the_limit = refl

a_flow_past_the_limit : parsed (codes "s 0" ∷ codes "f 1 2 -10000000000000000000000000000000000001" ∷ []) ≡ no 2
unfolding parsing misfit misfit_of_lines misfits is_complete fits answer_of_lines opening_said cost_said version_said sent_said moved_said price_said set_said
    member_said refusal_said
a_flow_past_the_limit = refl

a_price_that_is_no_number : parsed (codes "s 0" ∷ codes "y 1 0x" ∷ []) ≡ no 2
unfolding parsing misfit misfit_of_lines misfits is_complete fits answer_of_lines opening_said cost_said version_said sent_said moved_said price_said set_said
    member_said refusal_said
a_price_that_is_no_number = refl

an_answer_in_capitals : parsed (codes "S 0" ∷ []) ≡ no 1
unfolding parsing misfit misfit_of_lines misfits is_complete fits answer_of_lines opening_said cost_said version_said sent_said moved_said price_said set_said
    member_said refusal_said
an_answer_in_capitals = refl

comments_count : parsed (codes "c one" ∷ codes "s 0" ∷ [] ∷ codes "  c two" ∷ codes "y 1" ∷ []) ≡ no 5
unfolding parsing misfit misfit_of_lines misfits is_complete fits answer_of_lines opening_said cost_said version_said sent_said moved_said price_said set_said
    member_said refusal_said
comments_count = refl

a_refusal_after_a_comment : parsed (codes "c mine" ∷ codes "  r   +03 late-n" ∷ []) ≡ Ok (Refused (record { line = 3; code = LateN }))
unfolding parsing misfit misfit_of_lines misfits is_complete fits answer_of_lines opening_said cost_said version_said sent_said moved_said price_said set_said
    member_said refusal_said
a_refusal_after_a_comment = refl

the_cost_at_the_limit : parsed (codes "s -10000000000000000000000000000000000000" ∷ []) ≡ Ok
    (Flow (record { cost = neg_ℤ (pos (10 ^ 37)); sent = []; prices = [] }))
unfolding parsing misfit misfit_of_lines misfits is_complete fits answer_of_lines opening_said cost_said version_said sent_said moved_said price_said set_said
    member_said refusal_said
the_cost_at_the_limit = refl

zero_with_a_minus_sign : parsed (codes "s -0" ∷ codes "c" ∷ codes "y +1 007" ∷ []) ≡ Ok (Flow (record { cost = pos 0; sent = []; prices = pos 7 ∷ [] }))
unfolding parsing misfit misfit_of_lines misfits is_complete fits answer_of_lines opening_said cost_said version_said sent_said moved_said price_said set_said
    member_said refusal_said
zero_with_a_minus_sign = refl

a_version_line_alone : parsed (codes "v 2" ∷ []) ≡ no 2
unfolding parsing misfit misfit_of_lines misfits is_complete fits answer_of_lines opening_said cost_said version_said sent_said moved_said price_said set_said
    member_said refusal_said
a_version_line_alone = refl

a_version_that_is_none : parsed (codes "v 3" ∷ codes "s 0" ∷ []) ≡ no 1
unfolding parsing misfit misfit_of_lines misfits is_complete fits answer_of_lines opening_said cost_said version_said sent_said moved_said price_said set_said
    member_said refusal_said
a_version_that_is_none = refl

a_version_of_no_number : parsed (codes "v two" ∷ codes "s 0" ∷ []) ≡ no 1
unfolding parsing misfit misfit_of_lines misfits is_complete fits answer_of_lines opening_said cost_said version_said sent_said moved_said price_said set_said
    member_said refusal_said
a_version_of_no_number = refl

a_version_line_late : parsed (codes "s 0" ∷ codes "v 2" ∷ []) ≡ no 2
unfolding parsing misfit misfit_of_lines misfits is_complete fits answer_of_lines opening_said cost_said version_said sent_said moved_said price_said set_said
    member_said refusal_said
a_version_line_late = refl

two_version_lines : parsed (codes "v 2" ∷ codes "v 2" ∷ codes "s 0" ∷ []) ≡ no 2
unfolding parsing misfit misfit_of_lines misfits is_complete fits answer_of_lines opening_said cost_said version_said sent_said moved_said price_said set_said
    member_said refusal_said
two_version_lines = refl

two_cost_lines_after_a_version_line : parsed (codes "v 2" ∷ codes "s 0" ∷ codes "s 0" ∷ []) ≡ no 3
unfolding parsing misfit misfit_of_lines misfits is_complete fits answer_of_lines opening_said cost_said version_said sent_said moved_said price_said set_said
    member_said refusal_said
two_cost_lines_after_a_version_line = refl

a_sparse_line_before_its_cost : parsed (codes "v 2" ∷ codes "g 1 0" ∷ codes "s 0" ∷ []) ≡ no 2
unfolding parsing misfit misfit_of_lines misfits is_complete fits answer_of_lines opening_said cost_said version_said sent_said moved_said price_said set_said
    member_said refusal_said
a_sparse_line_before_its_cost = refl

a_set_after_a_version_line : parsed (codes "v 2" ∷ codes "i 1 send" ∷ codes "x 1" ∷ []) ≡ no 2
unfolding parsing misfit misfit_of_lines misfits is_complete fits answer_of_lines opening_said cost_said version_said sent_said moved_said price_said set_said
    member_said refusal_said
a_set_after_a_version_line = refl

a_refusal_after_a_version_line : parsed (codes "v 2" ∷ codes "r 3 late-n" ∷ []) ≡ no 2
unfolding parsing misfit misfit_of_lines misfits is_complete fits answer_of_lines opening_said cost_said version_said sent_said moved_said price_said set_said
    member_said refusal_said
a_refusal_after_a_version_line = refl

a_flow_line_after_a_version_line : parsed (codes "v 2" ∷ codes "s 0" ∷ codes "f 1 2 0" ∷ []) ≡ no 3
unfolding parsing misfit misfit_of_lines misfits is_complete fits answer_of_lines opening_said cost_said version_said sent_said moved_said price_said set_said
    member_said refusal_said
a_flow_line_after_a_version_line = refl

a_sparse_line_after_a_flow_line : parsed (codes "s 0" ∷ codes "f 1 2 0" ∷ codes "g 1 0" ∷ []) ≡ no 3
unfolding parsing misfit misfit_of_lines misfits is_complete fits answer_of_lines opening_said cost_said version_said sent_said moved_said price_said set_said
    member_said refusal_said
a_sparse_line_after_a_flow_line = refl

arcs_that_dont_ascend : parsed (codes "v 2" ∷ codes "s 14" ∷ codes "g 2 2" ∷ codes "g 1 2" ∷ []) ≡ no 4
unfolding parsing misfit misfit_of_lines misfits is_complete fits answer_of_lines opening_said cost_said version_said sent_said moved_said price_said set_said
    member_said refusal_said
arcs_that_dont_ascend = refl

an_arc_named_twice : parsed (codes "v 2" ∷ codes "s 14" ∷ codes "g 1 2" ∷ codes "g 1 2" ∷ []) ≡ no 4
unfolding parsing misfit misfit_of_lines misfits is_complete fits answer_of_lines opening_said cost_said version_said sent_said moved_said price_said set_said
    member_said refusal_said
an_arc_named_twice = refl

a_sparse_line_after_a_price_line : parsed (codes "v 2" ∷ codes "s 0" ∷ codes "g 1 0" ∷ codes "y 1 0" ∷ codes "g 2 0" ∷ []) ≡ no 5
unfolding parsing misfit misfit_of_lines misfits is_complete fits answer_of_lines opening_said cost_said version_said sent_said moved_said price_said set_said
    member_said refusal_said
a_sparse_line_after_a_price_line = refl

a_sparse_price_line_out_of_turn : parsed (codes "v 2" ∷ codes "s 0" ∷ codes "y 1 0" ∷ codes "y 3 0" ∷ []) ≡ no 4
unfolding parsing misfit misfit_of_lines misfits is_complete fits answer_of_lines opening_said cost_said version_said sent_said moved_said price_said set_said
    member_said refusal_said
a_sparse_price_line_out_of_turn = refl

a_version_by_its_value : parsed (codes " v +02" ∷ codes "c" ∷ codes "s -0" ∷ codes "g 01 -1" ∷ []) ≡ Ok
    (Sparse (record { cost = pos 0; moved = (1, neg_ℤ (pos 1)) ∷ []; prices = [] }))
unfolding parsing misfit misfit_of_lines misfits is_complete fits answer_of_lines opening_said cost_said version_said sent_said moved_said price_said set_said
    member_said refusal_said
a_version_by_its_value = refl

-- carriage returns and tabs are blanks, and the last line may lack its end
other_blanks : parsing (codes "s\t-1\r\n y 1  5") ≡ Ok (Flow (record { cost = neg_ℤ (pos 1); sent = []; prices = pos 5 ∷ [] }))
unfolding parsing misfit misfit_of_lines misfits is_complete fits answer_of_lines opening_said cost_said version_said sent_said moved_said price_said set_said
    member_said refusal_said
other_blanks = refl
