use Rattle.std.proofs.Common.{rules, ◌≡◌, ℕ, ◌∙◌, ap, sym, List, ◌∷◌, [], ◌++◌}
use Rattle.mcf_figures.proofs.Forests.{range_more}
use Rattle.mcf_figures.proofs.groups.own_parents.Goals as goal

pub loop-place-preserved : goal.loop-place-preserved
loop-place-preserved c =
    let pushed : c.push.new.self.items ≡ c.loop-place.made.items ++ c.loop-place.place ∷ [] = search rules in
    pushed ∙ ap (λ (xs : List ℕ). xs ++ c.loop-place.place ∷ []) c.loop-place.invariant ∙ sym (range_more c.loop-place.place)
