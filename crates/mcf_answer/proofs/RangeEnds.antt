-- Both ends of each range of an answer text, and the numbers next to them: no line that doesn't
-- fit, or its number.
use Rattle.std.specs.Prelude.{◌≡◌, [], ◌∷◌, ◌++◌, codes, flat_map, map, refl, None, Some}
use Rattle.mcf_answer.specs.Fits.{fits, misfits, is_complete, misfit_of_lines, misfit}
use Rattle.mcf_answer.specs.Said.{cost_said, version_said, sent_said, moved_said, price_said, set_said, member_said, refusal_said, opening_said}

costs : map (λ z. misfit (flat_map (λ line. line ++ 10 ∷ []) ((codes "s " ++ z) ∷ [])))
    (codes "-10000000000000000000000000000000000000" ∷ codes "10000000000000000000000000000000000000" ∷ codes "-10000000000000000000000000000000000001"
    ∷ codes "10000000000000000000000000000000000001" ∷ [])
    ≡ None ∷ None ∷ Some 1 ∷ Some 1 ∷ []
unfolding misfit misfit_of_lines misfits is_complete fits opening_said cost_said version_said sent_said moved_said price_said set_said member_said
    refusal_said
costs = refl

flows : map (λ z. misfit (flat_map (λ line. line ++ 10 ∷ []) (codes "s 0" ∷ (codes "f 1 2 " ++ z) ∷ [])))
    (codes "-10000000000000000000000000000000000000" ∷ codes "10000000000000000000000000000000000000" ∷ codes "-10000000000000000000000000000000000001"
    ∷ codes "10000000000000000000000000000000000001" ∷ [])
    ≡ None ∷ None ∷ Some 2 ∷ Some 2 ∷ []
unfolding misfit misfit_of_lines misfits is_complete fits opening_said cost_said version_said sent_said moved_said price_said set_said member_said
    refusal_said
flows = refl

prices : map (λ z. misfit (flat_map (λ line. line ++ 10 ∷ []) (codes "s 0" ∷ (codes "y 1 " ++ z) ∷ [])))
    (codes "-10000000000000000000000000000000000000" ∷ codes "10000000000000000000000000000000000000" ∷ codes "-10000000000000000000000000000000000001"
    ∷ codes "10000000000000000000000000000000000001" ∷ [])
    ≡ None ∷ None ∷ Some 2 ∷ Some 2 ∷ []
unfolding misfit misfit_of_lines misfits is_complete fits opening_said cost_said version_said sent_said moved_said price_said set_said member_said
    refusal_said
prices = refl

first_ends : map (λ z. misfit (flat_map (λ line. line ++ 10 ∷ []) (codes "s 0" ∷ (codes "f " ++ z ++ codes " 2 0") ∷ [])))
    (codes "1" ∷ codes "1000000" ∷ codes "0" ∷ codes "1000001" ∷ [])
    ≡ None ∷ None ∷ Some 2 ∷ Some 2 ∷ []
unfolding misfit misfit_of_lines misfits is_complete fits opening_said cost_said version_said sent_said moved_said price_said set_said member_said
    refusal_said
first_ends = refl

second_ends : map (λ z. misfit (flat_map (λ line. line ++ 10 ∷ []) (codes "s 0" ∷ (codes "f 1 " ++ z ++ codes " 0") ∷ [])))
    (codes "1" ∷ codes "1000000" ∷ codes "0" ∷ codes "1000001" ∷ [])
    ≡ None ∷ None ∷ Some 2 ∷ Some 2 ∷ []
unfolding misfit misfit_of_lines misfits is_complete fits opening_said cost_said version_said sent_said moved_said price_said set_said member_said
    refusal_said
second_ends = refl

arcs : map (λ z. misfit (flat_map (λ line. line ++ 10 ∷ []) (codes "v 2" ∷ codes "s 0" ∷ (codes "g " ++ z ++ codes " 0") ∷ [])))
    (codes "1" ∷ codes "10000000" ∷ codes "0" ∷ codes "10000001" ∷ [])
    ≡ None ∷ None ∷ Some 3 ∷ Some 3 ∷ []
unfolding misfit misfit_of_lines misfits is_complete fits opening_said cost_said version_said sent_said moved_said price_said set_said member_said
    refusal_said
arcs = refl

sparse_flows : map (λ z. misfit (flat_map (λ line. line ++ 10 ∷ []) (codes "v 2" ∷ codes "s 0" ∷ (codes "g 1 " ++ z) ∷ [])))
    (codes "-10000000000000000000000000000000000000" ∷ codes "10000000000000000000000000000000000000" ∷ codes "-10000000000000000000000000000000000001"
    ∷ codes "10000000000000000000000000000000000001" ∷ [])
    ≡ None ∷ None ∷ Some 3 ∷ Some 3 ∷ []
unfolding misfit misfit_of_lines misfits is_complete fits opening_said cost_said version_said sent_said moved_said price_said set_said member_said
    refusal_said
sparse_flows = refl

members : map (λ z. misfit (flat_map (λ line. line ++ 10 ∷ []) (codes "i 1 send" ∷ (codes "x " ++ z) ∷ [])))
    (codes "1" ∷ codes "1000000" ∷ codes "0" ∷ codes "1000001" ∷ [])
    ≡ None ∷ None ∷ Some 2 ∷ Some 2 ∷ []
unfolding misfit misfit_of_lines misfits is_complete fits opening_said cost_said version_said sent_said moved_said price_said set_said member_said
    refusal_said
members = refl

sizes_of_sets : map (λ z. misfit (flat_map (λ line. line ++ 10 ∷ []) ((codes "i " ++ z ++ codes " take") ∷ codes "x 1" ∷ [])))
    (codes "1" ∷ codes "1000000" ∷ codes "0" ∷ codes "1000001" ∷ [])
    ≡ None ∷ Some 3 ∷ Some 1 ∷ Some 1 ∷ []
unfolding misfit misfit_of_lines misfits is_complete fits opening_said cost_said version_said sent_said moved_said price_said set_said member_said
    refusal_said
sizes_of_sets = refl

lines_of_refusals : map (λ z. misfit (flat_map (λ line. line ++ 10 ∷ []) ((codes "r " ++ z ++ codes " kind") ∷ [])))
    (codes "1" ∷ codes "10000000000000000000000000000000000000" ∷ codes "0" ∷ codes "10000000000000000000000000000000000001" ∷ [])
    ≡ None ∷ None ∷ Some 1 ∷ Some 1 ∷ []
unfolding misfit misfit_of_lines misfits is_complete fits opening_said cost_said version_said sent_said moved_said price_said set_said member_said
    refusal_said
lines_of_refusals = refl

nodes_of_prices : map (λ z. misfit (flat_map (λ line. line ++ 10 ∷ []) (codes "s 0" ∷ codes "y 1 0" ∷ (codes "y " ++ z ++ codes " 0") ∷ [])))
    (codes "2" ∷ codes "1" ∷ codes "3" ∷ codes "0" ∷ [])
    ≡ None ∷ Some 3 ∷ Some 3 ∷ Some 3 ∷ []
unfolding misfit misfit_of_lines misfits is_complete fits opening_said cost_said version_said sent_said moved_said price_said set_said member_said
    refusal_said
nodes_of_prices = refl
