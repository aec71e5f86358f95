use Rattle.std.proofs.Common.{◌-◌, arith, refl}
use Rattle.std.proofs.lemmas.List.Sorted.{length_permutation}
use Rattle.mcf_matching.proofs.Relaxing.{arc_best, arc_fresh, arc_queued, arc_settled, arc_worse, offer_fits}
use Rattle.mcf_matching.proofs.search.Tables.relax.Goals as goal

pub offered-dist-requires : goal.offered-dist-requires
offered-dist-requires g c =
    let head = c.requires.arc.head in
    let count = c.requires.row.scene.prices.count in
    let fits = offer_fits c.requires.row c.requires.arc in
    record { column = (omega (arith, head), omega (arith, head, count)); cost = fits.0; price = fits.1 }

pub returns-then-not-is_better-clause-relaxed : goal.returns-then-not-is_better-clause-relaxed
returns-then-not-is_better-clause-relaxed g c =
    arc_worse c.requires.row c.requires.arc _ c.offered-dist.ensures c.if-not-is_better.ensures

pub returns-then-index-clause-relaxed : goal.returns-then-index-clause-relaxed
returns-then-index-clause-relaxed g c =
    arc_settled c.requires.row c.requires.arc c.index.result.now (c.args.a.column - 1) c.index.ensures refl c.if-index.true

pub returns-then-scene-c-eq0-clause-relaxed : goal.returns-then-scene-c-eq0-clause-relaxed
returns-then-scene-c-eq0-clause-relaxed g c =
    arc_best c.requires.row c.requires.arc _ c.offered-dist.ensures c.if-scene-c-eq0.true c.if-not-is_better.ensures
    (arc_fresh c.requires.row c.requires.arc c.index.result.now (c.args.a.column - 1) c.index.ensures refl c.if-index.false)

pub returns-clause-relaxed : goal.returns-clause-relaxed
returns-clause-relaxed g c =
    let mated = c.if-scene-c-eq0.false in
    arc_queued c.requires.row c.requires.arc _ c.put.new.self.items c.offered-dist.ensures (omega (arith, mated))
    (arc_fresh c.requires.row c.requires.arc c.index.result.now (c.args.a.column - 1) c.index.ensures refl c.if-index.false) c.put.ensures.items

pub returns-clause-kept : goal.returns-clause-kept
returns-clause-kept g c =
    let longer = length_permutation _ _ c.put.ensures.items in
    record { labels = refl; order = refl; room = c.put.ensures.room; few = omega (arith, longer) }
