use Rattle.std.proofs.Common.{◌∙◌, ap, map}
use Rattle.std.proofs.lemmas.Option.{IfSome_then}
use Rattle.std.proofs.lemmas.Simd.{map-map}
use Rattle.mcf_flows.specs.Packed.{unpacked}
use Rattle.mcf_flows.specs.Private.StoredArcs.{of_unit}
use Rattle.mcf_flows.proofs.instances.Instance.shared_links.Goals as goal

pub returns-clause-some : goal.returns-clause-some
returns-clause-some c =
    rw (← c.self.view_is) (IfSome_then c.shared_links.result c.shared_links.ensures (λ links e. ap (map unpacked) e ∙ map-map unpacked of_unit links.value.items))
