use Rattle.std.proofs.Common.{◌∙◌, ◌<◌, ℕ, [], List, length, get_or, sym, ap, arith}
use Rattle.std.proofs.lemmas.List.{length-map}
use Rattle.std.specs.Borrow.{Bor}
use Rattle.mcf_names.proofs.DistinctLemmas.{first_by_number}
use Rattle.mcf_names.proofs.IndexLemmas.{borrowed_at}
use Rattle.mcf_names.proofs.names.Names.is_first.Goals as goal

pub returns : goal.returns
returns c =
    let items = c.self.inside.names.items in
    let inside : c.args.place < length items =
    omega (arith, c.requires, ap length c.self.view_is, length-map items (λ (n : Bor (List ℕ)). n.now)) in
    let at = borrowed_at items c.args.place c.index-name.result.now inside c.index-name.ensures in
    first_by_number c.args.self.now c.args.place c.index-name.result.now.now c.number_of.result c.eq.result c.requires
    (sym (ap (λ (names : List (List ℕ)). get_or names c.args.place []) (sym c.self.view_is) ∙ at)) c.number_of.ensures c.eq.ensures
