-- Small answers, with the texts that are written of them; each text is parsed to its answer.
use Rattle.std.specs.Prelude.{◌≡◌, ℕ, List, [], ◌∷◌, ◌++◌, codes, flat_map, refl, pos, negsuc, Ok}
use Rattle.std.specs.Fmt.{digits}
use Rattle.mcf_answer.specs.Fits.{fits, misfits, is_complete, misfit_of_lines, misfit}
use Rattle.mcf_answer.specs.Parsing.{answer_of_lines, parsing}
use Rattle.mcf_answer.specs.Said.{cost_said, version_said, sent_said, moved_said, price_said, set_said, member_said, refusal_said, opening_said}
use Rattle.mcf_answer.specs.Spelling.{spelling}
use Rattle.mcf_answer.specs.Token.{token_lines}
use Rattle.mcf_answer.specs.Written.{written}
use Rattle.mcf_answer.specs.declared.answers.Answer.{Answer}
use Rattle.mcf_answer.specs.declared.answers.Answer.TheVariants.{Flow, Sparse, Blocked, Refused}
use Rattle.mcf_flows.specs.declared.code.Code.TheVariants.{LateN}
use Rattle.mcf_flows.specs.declared.problem.Side.TheVariants.{Send, Take}

-- the lines, each with its end
abbrev text_of : List (List ℕ) → List ℕ
text_of lines = flat_map (λ line. line ++ 10 ∷ []) lines

-- the answer is written as this text; the text has its lines, and is parsed to it
record IsTextOf (a : Answer) (text : List ℕ) : Type 0 where
  is_written : written a ≡ text
  spells : token_lines text ≡ spelling a
  is_parsed : parsing text ≡ Ok a

a_flow : IsTextOf (Flow (record {
  cost = pos 14;
  sent = record { src = 1; dst = 2; flow = pos 2 } ∷ record { src = 1; dst = 3; flow = pos 0 } ∷ [];
  prices = pos 0 ∷ negsuc 1 ∷ negsuc 2 ∷ [];
}))
    (text_of (codes "s 14" ∷ codes "f 1 2 2" ∷ codes "f 1 3 0" ∷ codes "y 1 0" ∷ codes "y 2 -2" ∷ codes "y 3 -3" ∷ []))
unfolding digits written spelling parsing misfit misfit_of_lines misfits is_complete fits answer_of_lines opening_said cost_said version_said sent_said
    moved_said price_said set_said member_said refusal_said
a_flow = record { is_written = refl; spells = refl; is_parsed = refl }

a_cost_alone : IsTextOf (Flow (record { cost = pos 0; sent = []; prices = [] })) (text_of (codes "s 0" ∷ []))
unfolding digits written spelling parsing misfit misfit_of_lines misfits is_complete fits answer_of_lines opening_said cost_said version_said sent_said
    moved_said price_said set_said member_said refusal_said
a_cost_alone = record { is_written = refl; spells = refl; is_parsed = refl }

numbers_below_zero : IsTextOf (Flow (record { cost = negsuc 6; sent = record { src = 1_000_000; dst = 1; flow = negsuc 4 } ∷ []; prices = negsuc 0 ∷ [] }))
    (text_of (codes "s -7" ∷ codes "f 1000000 1 -5" ∷ codes "y 1 -1" ∷ []))
unfolding digits written spelling parsing misfit misfit_of_lines misfits is_complete fits answer_of_lines opening_said cost_said version_said sent_said
    moved_said price_said set_said member_said refusal_said
numbers_below_zero = record { is_written = refl; spells = refl; is_parsed = refl }

a_sparse_flow : IsTextOf (Sparse (record {
  cost = pos 14;
  moved = (1, pos 2) ∷ (2, pos 2) ∷ (10_000_000, negsuc 4) ∷ [];
  prices = pos 0 ∷ negsuc 1 ∷ [];
}))
    (text_of (codes "v 2" ∷ codes "s 14" ∷ codes "g 1 2" ∷ codes "g 2 2" ∷ codes "g 10000000 -5" ∷ codes "y 1 0" ∷ codes "y 2 -2" ∷ []))
unfolding digits written spelling parsing misfit misfit_of_lines misfits is_complete fits answer_of_lines opening_said cost_said version_said sent_said
    moved_said price_said set_said member_said refusal_said
a_sparse_flow = record { is_written = refl; spells = refl; is_parsed = refl }

a_sparse_cost_alone : IsTextOf (Sparse (record { cost = pos 0; moved = []; prices = [] })) (text_of (codes "v 2" ∷ codes "s 0" ∷ []))
unfolding digits written spelling parsing misfit misfit_of_lines misfits is_complete fits answer_of_lines opening_said cost_said version_said sent_said
    moved_said price_said set_said member_said refusal_said
a_sparse_cost_alone = record { is_written = refl; spells = refl; is_parsed = refl }

a_set_that_sends : IsTextOf (Blocked (record { side = Send; nodes = 1 ∷ [] })) (text_of (codes "i 1 send" ∷ codes "x 1" ∷ []))
unfolding digits written spelling parsing misfit misfit_of_lines misfits is_complete fits answer_of_lines opening_said cost_said version_said sent_said
    moved_said price_said set_said member_said refusal_said
a_set_that_sends = record { is_written = refl; spells = refl; is_parsed = refl }

a_set_that_takes : IsTextOf (Blocked (record { side = Take; nodes = 1 ∷ 20 ∷ [] })) (text_of (codes "i 2 take" ∷ codes "x 1" ∷ codes "x 20" ∷ []))
unfolding digits written spelling parsing misfit misfit_of_lines misfits is_complete fits answer_of_lines opening_said cost_said version_said sent_said
    moved_said price_said set_said member_said refusal_said
a_set_that_takes = record { is_written = refl; spells = refl; is_parsed = refl }

a_refusal : IsTextOf (Refused (record { line = 3; code = LateN })) (text_of (codes "r 3 late-n" ∷ []))
unfolding digits written spelling parsing misfit misfit_of_lines misfits is_complete fits answer_of_lines opening_said cost_said version_said sent_said
    moved_said price_said set_said member_said refusal_said
a_refusal = record { is_written = refl; spells = refl; is_parsed = refl }
