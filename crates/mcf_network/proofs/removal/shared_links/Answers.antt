use Rattle.std.proofs.Common.{◌∙◌, sym}
use Rattle.std.proofs.lemmas.Option.{IfSome_then}
use Rattle.mcf_network.proofs.RemovalLaws.{its_own_net}
use Rattle.mcf_network.proofs.removal.shared_links.Goals as goal

pub returns-in-Asn : goal.returns-in-Asn
returns-in-Asn c =
    IfSome_then c.shared_links.result c.shared_links.ensures.some
    (λ links e. its_own_net c.args.instance.now links.value.items c.shared_links.ensures.well_formed (sym c.problem.ensures.value ∙ c.in-Asn.is) e)
