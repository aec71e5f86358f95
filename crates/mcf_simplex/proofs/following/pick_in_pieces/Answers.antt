use Rattle.std.proofs.Common.{◌≡◌, length, ap, ◌∙◌, sym}
use Rattle.std.specs.Int.{div_ceil}
use Rattle.mcf_simplex.proofs.Pieces.{found_by, found_early, none_found}
use Rattle.mcf_simplex.proofs.following.pick_in_pieces.Goals as goal

pub returns-clause-none : goal.returns-clause-none
returns-clause-none c =
    let m : c.arc_count.result ≡ length c.args.basis.now.net.arcs = c.arc_count.ensures.value ∙ ap (λ g. length g.arcs) c.net.ensures.value in
    let l : c.div_ceil-stretch.result ≡ div_ceil (length c.args.basis.now.net.arcs) c.args.stretches =
    c.div_ceil-stretch.ensures ∙ ap (λ n. div_ceil n c.args.stretches) m in
    none_found c.args.basis.now c.args.stretches c.div_ceil-stretch.result c.args.piece c.start_place-start.result c.first_found-late.result.next
    c.first_found.result.next c.first_found-late.result.arc c.first_found.result.arc c.requires.stretches l (sym c.is_some.ensures ∙ c.if-is_some.false)
    c.first_found-late.ensures c.first_found.ensures

pub returns-clause-found : goal.returns-clause-found
returns-clause-found c =
    let m : c.arc_count.result ≡ length c.args.basis.now.net.arcs = c.arc_count.ensures.value ∙ ap (λ g. length g.arcs) c.net.ensures.value in
    let l : c.div_ceil-stretch.result ≡ div_ceil (length c.args.basis.now.net.arcs) c.args.stretches =
    c.div_ceil-stretch.ensures ∙ ap (λ n. div_ceil n c.args.stretches) m in
    found_by c.args.basis.now c.args.stretches c.div_ceil-stretch.result c.args.piece c.start_place-start.result c.args.place c.first_found.result.next
    c.first_found.result.arc l c.start_place-start.ensures.value
    (found_early c.args.basis.now c.args.stretches c.div_ceil-stretch.result c.args.piece c.start_place-start.result c.first_found-late.result.next
    c.first_found.result.next c.first_found-late.result.arc c.first_found.result.arc c.requires.stretches l (sym c.is_some.ensures ∙ c.if-is_some.false)
    c.first_found-late.ensures c.first_found.ensures)
