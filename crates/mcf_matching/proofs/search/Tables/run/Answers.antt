use Rattle.std.proofs.Common.{◌∷◌, ◌++◌, ◌∙◌, ℕ, List, [], ap, subst, sym, arith, length, refl, vec_capacity}
use Rattle.std.proofs.lemmas.List.{length_push}
use Rattle.mcf_offers.specs.Offers.{Offer}
use Rattle.mcf_matching.specs.Matchings.{IsColumn}
use Rattle.mcf_matching.specs.Private.Keeping.{IsReady}
use Rattle.mcf_matching.specs.Private.Rooms.{out_count}
use Rattle.mcf_matching.specs.Private.Searches.{IsNearest, Search, paired, search_of}
use Rattle.mcf_matching.proofs.Orders.{order_kept, pair_settled}
use Rattle.mcf_matching.proofs.PairLaws.{column_is}
use Rattle.mcf_matching.proofs.Rooms.{kept_on, out_all, out_more}
use Rattle.mcf_matching.proofs.search.Tables.run.Goals as goal

pub rows-init : goal.rows-init
rows-init g c =
    let g = c.args.scene.now.state.now.net in
    let order = c.requires.ready.order_ok in
    let none = ap (λ (l : List Offer). length l) c.requires.empty in
    let more = out_more g (c.args.source ∷ []) order.rest in
    let same = ap (λ l. out_count g l) order.first in
    record { ready = c.requires.ready; number = refl; order = refl; room = omega arith; few = omega (arith, none, more, same) }

pub scan-requires-clause-room : goal.scan-requires-clause-room
scan-requires-clause-room g c =
    let all = out_all c.args.scene.now.state.now.net c.rows.self.order.items in
    let queue = c.requires.queue in
    let few = c.rows.invariant.few in
    let room = c.rows.invariant.room in
    omega (arith, all, queue, few, room)

pub nearest-requires : goal.nearest-requires
nearest-requires g c =
    record {
      search = (
        c.args.scene.now.state.now,
        c.args.scene.now.prices.now,
        c.args.source,
        c.requires.scene.matching,
        c.scan.ensures.search c.args.source c.rows.invariant.ready,
      );
    }

pub returns-in_default-clause-ended : goal.returns-in_default-clause-ended
returns-in_default-clause-ended g c =
    let s = c.args.scene.now.state.now in
    let y = c.args.scene.now.prices.now in
    let found = c.nearest.ensures.found s y c.args.source c.requires.scene.matching (c.scan.ensures.search c.args.source c.rows.invariant.ready) in
    let (searched, over) = subst (λ r. IsNearest s y c.args.source (search_of c.nearest.new.self) r) c.in_default.is found in
    let kept = kept_on c.scan.ensures.kept c.nearest.ensures.kept in
    record { search = searched; over = over; order_ok = order_kept s c.rows.self c.nearest.new.self c.args.source _ kept c.rows.invariant.ready.order_ok }

pub settle-id-requires-clause-entries : goal.settle-id-requires-clause-entries
settle-id-requires-clause-entries g c =
    (c.in-Some.ensures.found c.args.scene.now.state.now c.args.scene.now.prices.now c.args.source c.requires.scene.matching
    (c.scan.ensures.search c.args.source c.rows.invariant.ready)).0.entries

pub settle-id-requires-clause-matched : goal.settle-id-requires-clause-matched
settle-id-requires-clause-matched g c =
    (c.in-Some.ensures.found c.args.scene.now.state.now c.args.scene.now.prices.now c.args.source c.requires.scene.matching
    (c.scan.ensures.search c.args.source c.rows.invariant.ready)).1.matched

pub settle-id-requires-clause-column : goal.settle-id-requires-clause-column
settle-id-requires-clause-column g c =
    let s = c.args.scene.now.state.now in
    let (k, pair, at) = (c.in-Some.ensures.found s c.args.scene.now.prices.now c.args.source c.requires.scene.matching
    (c.scan.ensures.search c.args.source c.rows.invariant.ready)).1.matched in
    subst (λ v. IsColumn s v) at (column_is s k c.requires.scene.matching pair.arc)

pub settle-id-requires-clause-room : goal.settle-id-requires-clause-room
settle-id-requires-clause-room g c =
    let s = c.args.scene.now.state.now in
    let kept = kept_on c.scan.ensures.kept c.nearest.ensures.kept in
    let listed = order_kept s c.rows.self c.nearest.new.self c.args.source _ kept c.rows.invariant.ready.order_ok in
    let found = c.in-Some.ensures.found s c.args.scene.now.prices.now c.args.source c.requires.scene.matching
    (c.scan.ensures.search c.args.source c.rows.invariant.ready) in
    let (k, pair, at) = found.1.matched in
    let few = (pair_settled c.requires.scene.matching c.requires.scene.prices listed found (k, pair, at, refl)).few in
    let room = c.requires.room in
    let here = c.rows.invariant.order in
    let still = ap (λ l. vec_capacity l) kept.order in
    omega (arith, few, room, here, still)

pub rows-smaller : goal.rows-smaller
rows-smaller g c =
    let s = c.args.scene.now.state.now in
    let kept = kept_on c.scan.ensures.kept c.nearest.ensures.kept in
    let listed = order_kept s c.rows.self c.nearest.new.self c.args.source _ kept c.rows.invariant.ready.order_ok in
    let found = c.in-Some.ensures.found s c.args.scene.now.prices.now c.args.source c.requires.scene.matching
    (c.scan.ensures.search c.args.source c.rows.invariant.ready) in
    let few = (pair_settled c.requires.scene.matching c.requires.scene.prices listed found c.settle-id.ensures.pair).few in
    let here = ap (λ l. length l.items) kept.order in
    let now = ap (λ l. length l) c.settle-id.ensures.order in
    let one = length_push c.nearest.new.self.order.items c.in-Some.offer.column in
    let two = length_push (c.nearest.new.self.order.items ++ c.in-Some.offer.column ∷ []) c.settle-id.result in
    omega (arith, few, here, now, one, two)

pub rows-preserved : goal.rows-preserved
rows-preserved g c =
    let s = c.args.scene.now.state.now in
    let y = c.args.scene.now.prices.now in
    let o = c.in-Some.offer in
    let r = c.settle-id.result in
    let inv = c.rows.invariant in
    let kept = kept_on c.scan.ensures.kept c.nearest.ensures.kept in
    let listed = order_kept s c.rows.self c.nearest.new.self c.args.source _ kept inv.ready.order_ok in
    let found = c.in-Some.ensures.found s y c.args.source c.requires.scene.matching (c.scan.ensures.search c.args.source inv.ready) in
    let done = pair_settled c.requires.scene.matching c.requires.scene.prices listed found c.settle-id.ensures.pair in
    let e = c.settle-id.ensures in
    record {
      ready = subst (λ (x : Search). IsReady s y x c.args.source c.settle-id.new.self.order.items r) (sym e.value)
          (subst (λ (l : List ℕ). IsReady s y (paired (search_of c.nearest.new.self) o r) c.args.source l r) (sym e.order) done.ready);
      number = ap (λ (x : Search). x.number) (e.value ∙ ap (λ (x : Search). paired x o r) kept.labels) ∙ inv.number;
      order = e.room ∙ ap (λ l. vec_capacity l) kept.order ∙ inv.order;
      room = (
          let queue = ap (λ x. x.room) e.queue in
          let more = kept.room in
          let was = inv.room in
          omega (arith, queue, more, was));
      few = (
          let queue = ap (λ x. length x.items) e.queue in
          let more = kept.few in
          let was = inv.few in
          let arcs = done.arcs in
          let before = ap (λ l. out_count s.net l.items) kept.order in
          let after = ap (λ l. out_count s.net l) e.order in
          omega (arith, queue, more, was, arcs, before, after));
    }
