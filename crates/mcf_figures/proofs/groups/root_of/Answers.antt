use Rattle.std.proofs.Common.{◌≡◌, ◌<◌, ◌∙◌, ap, sym, subst, arith, length, set}
use Rattle.std.proofs.lemmas.List.{length-set}
use Rattle.mcf_figures.specs.Groups.{entry}
use Rattle.mcf_figures.specs.Private.Forests.{Falls, IsForest}
use Rattle.mcf_figures.proofs.Forests.{halved_falls, halved_forest, twice_falls}
use Rattle.mcf_figures.proofs.groups.root_of.Goals as goal

pub climb-preserved : goal.climb-preserved
climb-preserved c =
    let p = c.climb.parents in
    let at = c.climb.at in
    let i = c.climb.invariant in
    let h : at < length p = omega (arith, i.inside, i.as_long) in
    let hp : entry p at < length p = omega (arith, h, i.falls at h) in
    let value : c.halved-at.result ≡ entry p (entry p at) = c.halved-at.ensures.value in
    let new : c.halved-at.new.parents ≡ set p at (entry p (entry p at)) = c.halved-at.ensures.written ∙ ap (set p at) value in
    record {
      as_long = ap length new ∙ length-set p at (entry p (entry p at)) ∙ i.as_long;
      inside = omega (arith, value, twice_falls p at i.falls h, i.falls at h, i.inside);
      falls = subst Falls (sym new) (halved_falls p at i.falls h);
      kept = λ labels f. subst (λ q. IsForest q labels) (sym new) (halved_forest p labels at h (i.kept labels f));
      label = λ labels f.
          let g = i.kept labels f in
          ap (entry labels) value ∙ g.same (entry p at) hp ∙ g.same at h ∙ i.label labels f;
    }
