use Rattle.std.proofs.Common.{refl, ◌∷◌, ◌++◌, [], ap, arith, length, sym, ◌∙◌}
use Rattle.mcf_flows.specs.Network.{Network}
use Rattle.mcf_network.specs.Residual.{arc_at}
use Rattle.mcf_matching.specs.Private.Searches.{search_of}
use Rattle.mcf_matching.proofs.Found.{found_arc, found_forest, found_free, found_rise, found_room, found_tight}
use Rattle.mcf_matching.proofs.Kept.{idle_more}
use Rattle.mcf_matching.proofs.Raising.{listing_of}
use Rattle.mcf_matching.proofs.search.Tables.augment.Goals as goal

pub ends-column-requires : goal.ends-column-requires
ends-column-requires g c =
    rw c.net.ensures.value (found_arc c.requires.matching c.requires.prices c.requires.ended.1 c.requires.best)

pub raise-requires-clause-listing : goal.raise-requires-clause-listing
raise-requires-clause-listing g c =
    listing_of c.args.state.now (search_of c.args.self.now) c.requires.ended.0 (length c.args.prices.now) c.args.self.now.order.items
    (sym c.requires.prices.count) c.requires.ended.1.order_ok

pub raise-requires-clause-rises : goal.raise-requires-clause-rises
raise-requires-clause-rises g c v n h =
    let count = c.requires.prices.count in
    found_rise c.requires.matching c.requires.prices c.requires.ended.1 c.requires.best c.requires.small c.requires.width v (n.0, omega (arith, n, count)) h

pub turn-requires-clause-forest : goal.turn-requires-clause-forest
turn-requires-clause-forest g c =
    let e = c.requires.ended in
    let raised = c.raise.ensures.raised c.args.state.now (sym c.requires.prices.count) in (
      e.0,
      c.raise.new.prices,
      found_forest c.requires.matching c.requires.prices e.1 c.requires.best c.raise.new.prices raised,
      found_tight c.requires.matching c.requires.prices e.1 c.requires.best c.raise.new.prices raised,
    )

pub turn-requires-clause-free : goal.turn-requires-clause-free
turn-requires-clause-free g c =
    found_free c.requires.matching c.requires.prices c.requires.ended.1 c.requires.best

pub returns-clause-raised : goal.returns-clause-raised
returns-clause-raised g c = c.raise.ensures.raised c.args.state.now (sym c.requires.prices.count)

pub returns-clause-extended : goal.returns-clause-extended
returns-clause-extended g c source ended =
    let raised = c.raise.ensures.raised c.args.state.now (sym c.requires.prices.count) in
    (c.turn.ensures.extended source c.raise.new.prices (found_forest c.requires.matching c.requires.prices ended c.requires.best c.raise.new.prices raised)
    (found_tight c.requires.matching c.requires.prices ended c.requires.best c.raise.new.prices raised))

pub returns-clause-changed : goal.returns-clause-changed
returns-clause-changed g c =
    c.turn.ensures.changed

pub push_reserved-requires : goal.push_reserved-requires
push_reserved-requires g c =
    let room = found_room c.requires.matching c.requires.prices c.requires.ended.1 c.requires.best in
    let fits = c.requires.idle.room in
    omega (arith, room, fits, c.args.self.now.order.ok.0)

pub returns-clause-order : goal.returns-clause-order
returns-clause-order g c =
    c.push_reserved.ensures.items ∙ ap (λ v. c.args.self.now.order.items ++ v ∷ [])
    (c.ends-column.ensures.dst ∙ ap (λ (g : Network). (arc_at g c.args.arc).dst) c.net.ensures.value)

pub returns-clause-idle : goal.returns-clause-idle
returns-clause-idle g c =
    let idle = c.requires.idle in
    idle_more c.requires.matching c.requires.prices c.requires.ended.1 c.requires.best (c.raise.ensures.raised c.args.state.now (sym c.requires.prices.count)) refl
    (c.push_reserved.ensures.items ∙ ap (λ v. c.args.self.now.order.items ++ v ∷ [])
    (c.ends-column.ensures.dst ∙ ap (λ (g : Network). (arc_at g c.args.arc).dst) c.net.ensures.value))
    (rw c.push_reserved.ensures.capacity idle.room) idle.queue

pub turn-requires-clause-entries : goal.turn-requires-clause-entries
turn-requires-clause-entries g c = c.requires.ended.1.search.entries

pub raise-requires-clause-entries : goal.raise-requires-clause-entries
raise-requires-clause-entries g c = rw c.requires.prices.count c.requires.ended.1.search.entries
