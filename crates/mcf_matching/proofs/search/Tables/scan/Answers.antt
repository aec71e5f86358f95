use Rattle.std.proofs.Common.{◌++◌, ◌∷◌, ◌∙◌, [], ap, map, arith, sym}
use Rattle.std.proofs.lemmas.List.Elements.{Contains-append_right}
use Rattle.mcf_matching.specs.Private.RowLists.{forward_of, span_at}
use Rattle.mcf_matching.specs.Private.Rooms.{out_count}
use Rattle.mcf_matching.specs.Private.Searches.{forward, search_of}
use Rattle.mcf_matching.proofs.Rooms.{kept_after, kept_few, kept_same, room_left}
use Rattle.mcf_matching.proofs.RowLists.{kept_row, kept_span}
use Rattle.mcf_matching.proofs.Relaxing.{bound_fits, others_relaxed, relaxed_after, row_kept, row_relaxed}
use Rattle.mcf_matching.proofs.search.Tables.scan.Goals as goal

pub span-span-requires : goal.span-span-requires
span-span-requires g c =
    let count = c.requires.scene.rows.count in
    let node = c.requires.ready.1.is_row.0 in
    (omega (arith, node), omega (arith, node, count))

pub between-kept-requires : goal.between-kept-requires
between-kept-requires g c =
    let is = kept_span c.args.scene.now.state.now.net c.args.scene.now.rows.now c.row_of-row.result.id c.span-span.result c.requires.scene.rows
    c.row_of-row.ensures.row.is_row.0 (c.span-span.ensures ∙ ap (span_at c.args.scene.now.rows.now.spans.items) (sym c.row_of-row.ensures.id)) in
    (is.rises, is.within)

pub scan_kept-requires-clause-arcs : goal.scan_kept-requires-clause-arcs
scan_kept-requires-clause-arcs g c =
    (kept_row c.args.scene.now.state.now.net c.args.scene.now.rows.now c.row_of-row.result.id c.span-span.result c.between-kept.result.now
    c.requires.scene.rows c.row_of-row.ensures.row.is_row.0 (c.span-span.ensures ∙ ap (span_at c.args.scene.now.rows.now.spans.items) (sym c.row_of-row.ensures.id)) c.between-kept.ensures).each

pub scan_kept-requires-clause-room : goal.scan_kept-requires-clause-room
scan_kept-requires-clause-room g c =
    let row = c.row_of-row.result.id in
    let kept = kept_row c.args.scene.now.state.now.net c.args.scene.now.rows.now row c.span-span.result c.between-kept.result.now c.requires.scene.rows c.row_of-row.ensures.row.is_row.0
    (c.span-span.ensures ∙ ap (span_at c.args.scene.now.rows.now.spans.items) (sym c.row_of-row.ensures.id)) c.between-kept.ensures in
    let few = kept_few c.args.scene.now.state.now.net row c.args.id c.between-kept.result.now c.row_of-row.ensures.id kept.each kept.once in
    let room = c.requires.room in
    omega (arith, few, room)

pub scan_all-requires-clause-room : goal.scan_all-requires-clause-room
scan_all-requires-clause-room g c =
    let row = c.row_of-row.result.id in
    let kept = kept_row c.args.scene.now.state.now.net c.args.scene.now.rows.now row c.span-span.result c.between-kept.result.now c.requires.scene.rows c.row_of-row.ensures.row.is_row.0
    (c.span-span.ensures ∙ ap (span_at c.args.scene.now.rows.now.spans.items) (sym c.row_of-row.ensures.id)) c.between-kept.ensures in
    let few = kept_few c.args.scene.now.state.now.net row c.args.id c.between-kept.result.now c.row_of-row.ensures.id kept.each kept.once in
    let same = ap (λ v. out_count c.args.scene.now.state.now.net (v ∷ [])) c.row_of-row.ensures.id in
    room_left _ _ _ c.args.self.now c.scan_kept.new.self c.scan_kept.ensures.kept c.requires.room (omega (arith, few, same))

pub scan_all-requires-clause-row : goal.scan_all-requires-clause-row
scan_all-requires-clause-row g c =
    row_kept c.args.scene.now.state.now _ c.args.scene.now.rows.now c.args.scene.now.prices.now c.args.scene.now.mates.now (search_of c.args.self.now)
    (search_of c.scan_kept.new.self) c.row_of-row.result c.scan_kept.ensures.kept.labels c.row_of-row.ensures.row

pub returns-else-may_improve-clause-kept : goal.returns-else-may_improve-clause-kept
returns-else-may_improve-clause-kept g c =
    let row = c.row_of-row.result.id in
    let kept = kept_row c.args.scene.now.state.now.net c.args.scene.now.rows.now row c.span-span.result c.between-kept.result.now c.requires.scene.rows c.row_of-row.ensures.row.is_row.0
    (c.span-span.ensures ∙ ap (span_at c.args.scene.now.rows.now.spans.items) (sym c.row_of-row.ensures.id)) c.between-kept.ensures in
    let few = kept_few c.args.scene.now.state.now.net row c.args.id c.between-kept.result.now c.row_of-row.ensures.id kept.each kept.once in
    kept_after _ 0 _ c.args.self.now c.scan_kept.new.self c.scan_kept.new.self c.scan_kept.ensures.kept (kept_same c.scan_kept.new.self) (omega (arith, few))

pub returns-then-may_improve-clause-kept : goal.returns-then-may_improve-clause-kept
returns-then-may_improve-clause-kept g c =
    let row = c.row_of-row.result.id in
    let kept = kept_row c.args.scene.now.state.now.net c.args.scene.now.rows.now row c.span-span.result c.between-kept.result.now c.requires.scene.rows c.row_of-row.ensures.row.is_row.0
    (c.span-span.ensures ∙ ap (span_at c.args.scene.now.rows.now.spans.items) (sym c.row_of-row.ensures.id)) c.between-kept.ensures in
    let few = kept_few c.args.scene.now.state.now.net row c.args.id c.between-kept.result.now c.row_of-row.ensures.id kept.each kept.once in
    let same = ap (λ v. out_count c.args.scene.now.state.now.net (v ∷ [])) c.row_of-row.ensures.id in
    kept_after _ _ _ c.args.self.now c.scan_kept.new.self c.scan_all.new.self c.scan_kept.ensures.kept c.scan_all.ensures.kept (omega (arith, few, same))

pub returns-else-may_improve-clause-search : goal.returns-else-may_improve-clause-search
returns-else-may_improve-clause-search g c source ready =
    let s = c.args.scene.now.state.now in
    let y = c.args.scene.now.prices.now in
    let q = search_of c.args.self.now in
    let new = search_of c.scan_kept.new.self in
    let row = c.row_of-row.result in
    let list = c.between-kept.result.now in
    let first = c.scan_kept.ensures.relaxed in
    let kept = kept_row s.net c.args.scene.now.rows.now row.id c.span-span.result list c.requires.scene.rows c.row_of-row.ensures.row.is_row.0 (c.span-span.ensures ∙ ap (span_at c.args.scene.now.rows.now.spans.items) (sym c.row_of-row.ensures.id))
    c.between-kept.ensures in
    let now = row_kept s _ c.args.scene.now.rows.now y c.args.scene.now.mates.now q new row c.scan_kept.ensures.kept.labels c.row_of-row.ensures.row in
    row_relaxed s y q new source row.id c.args.id c.args.self.now.order.items _ c.row_of-row.ensures.id kept.every
    (relaxed_after s y q new new (map forward_of list) (map forward_of kept.others) first
    (others_relaxed s _ c.args.scene.now.rows.now y c.args.scene.now.mates.now new row c.span-span.result.others kept.others now kept.each_other kept.dearer
    (c.may_improve.ensures c.if-may_improve.false)))
    ready

pub returns-then-may_improve-clause-search : goal.returns-then-may_improve-clause-search
returns-then-may_improve-clause-search g c source ready =
    let s = c.args.scene.now.state.now in
    let y = c.args.scene.now.prices.now in
    let q = search_of c.args.self.now in
    let list = map forward_of c.between-kept.result.now in
    let (rest, has, relaxed) = c.scan_all.ensures.relaxed in
    row_relaxed s y q (search_of c.scan_all.new.self) source c.row_of-row.result.id c.args.id c.args.self.now.order.items (list ++ rest) c.row_of-row.ensures.id
    (λ k arc from. Contains-append_right list rest (forward k) (has k arc from))
    (relaxed_after s y q (search_of c.scan_kept.new.self) (search_of c.scan_all.new.self) list rest c.scan_kept.ensures.relaxed relaxed)
    ready

pub may_improve-requires : goal.may_improve-requires
may_improve-requires g c =
    let kept = kept_row c.args.scene.now.state.now.net c.args.scene.now.rows.now c.row_of-row.result.id c.span-span.result c.between-kept.result.now
    c.requires.scene.rows c.row_of-row.ensures.row.is_row.0 (c.span-span.ensures ∙ ap (span_at c.args.scene.now.rows.now.spans.items) (sym c.row_of-row.ensures.id)) c.between-kept.ensures in
    bound_fits c.span-span.result.others c.row_of-row.ensures.row kept.small
