-- Bounds of links, which come in turn.
use Rattle.std.proofs.Common.{◌≡◌, ℕ, suc, ◌+◌, ◌<◌, Bool, List, ◌++◌, get_or, length, drop, ap, sym, ◌∙◌, arith, append_assoc}
use Rattle.std.proofs.lemmas.List.{drop_more}
use Rattle.mcf_flows.specs.declared.problem.Side.{Side}
use Rattle.mcf_model.specs.declared.rows.RouteRow.{RouteRow}
use Rattle.mcf_roster.specs.declared.pairs.Range.{Range}
use Rattle.mcf_groups.specs.declared.bounds.GroupBound.{GroupBound}
use Rattle.mcf_groups.specs.MarkedPlaces.{bound_of, link_bounds}

module _ (marks : List Bool) (side : Side) (number : ℕ) (r : Range) where
  pub bounds_next : (links : List RouteRow) (i : ℕ) (d : RouteRow) (before now : List GroupBound) → i < length links
      → now ≡ before ++ bound_of marks side number r (i + 1) (get_or links i d)
      → now ++ link_bounds marks side number r (suc (i + 1)) (drop (i + 1) links) ≡ before ++ link_bounds marks side number r (suc i) (drop i links)
  bounds_next links i d before now inside put =
      let rest = drop (i + 1) links in
      let next : i + 1 ≡ suc i = omega arith in
      ap (λ xs. xs ++ link_bounds marks side number r (suc (i + 1)) rest) put
      ∙ append_assoc before (bound_of marks side number r (i + 1) (get_or links i d)) (link_bounds marks side number r (suc (i + 1)) rest)
      ∙ ap (λ k. before ++ (bound_of marks side number r k (get_or links i d) ++ link_bounds marks side number r (suc k) rest)) next
      ∙ ap (λ ls. before ++ link_bounds marks side number r (suc i) ls) (sym (drop_more links i d inside))
