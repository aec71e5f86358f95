use Rattle.std.proofs.Common.{◌∙◌, sym, ap, [], ◌∷◌}
use Rattle.mcf_places.specs.declared.origins.Origin.TheVariants.{OfAll}
use Rattle.mcf_places.specs.Origins.{found_in}
use Rattle.mcf_places.proofs.ArcOrigins.{only_all}
use Rattle.mcf_places.proofs.origins.found.Goals as goal

pub returns-in-Left : goal.returns-in-Left
returns-in-Left c = sym (ap (λ s. found_in s (OfAll ∷ [])) c.in-Left.is ∙ only_all c.in-Left.field-0)
