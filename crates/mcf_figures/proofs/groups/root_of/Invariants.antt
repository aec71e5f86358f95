use Rattle.std.proofs.Common.{◌≡◌, ◌<◌, List, ℕ, length}
use Rattle.mcf_figures.specs.Groups.{entry}
use Rattle.mcf_figures.specs.Private.Forests.{Falls, IsForest}
use Rattle.mcf_figures.proofs.groups.root_of.Given as goal

abbrev pub invariant-climb : goal.invariant-climb
invariant-climb l = record {
  as_long : length l.parents ≡ length l.initial.parents;
  inside : l.at < length l.initial.parents;
  falls : Falls l.parents;
  kept : (labels : List ℕ) → IsForest l.initial.parents labels → IsForest l.parents labels;
  label : (labels : List ℕ) → IsForest l.initial.parents labels → entry labels l.at ≡ entry labels l.number;
}

abbrev pub decreases-climb : goal.decreases-climb
decreases-climb l = l.at
