use Rattle.std.proofs.Common.{◌<◌, ◌-ℤ◌, ◌∙◌, arith, ap, get_or, sym}
use Rattle.std.proofs.lemmas.Bool.{ltb-true}
use Rattle.std.proofs.lemmas.Bool.Decides.{Decides-int_eq}
use Rattle.mcf_matching.specs.Private.Forests.{mate_at}
use Rattle.mcf_matching.proofs.Raising.{price_read}
use Rattle.mcf_matching.proofs.Updated.{node_fits}
use Rattle.mcf_matching.proofs.judging.does_node_fit.Goals as goal

pub returns-then-eq : goal.returns-then-eq
returns-then-eq c same =
    let y = c.args.scene.now.prices.now in
    let node = c.requires.node in
    let count = c.requires.scene.prices.count in
    let read = get_or y c.place-i.result c.index-scene-i.result in
    let old = price_read y c.args.v c.place-i.result c.index-scene-i.result c.index-scene-i.is c.place-i.ensures (omega (arith, node, count)) in
    node_fits c.args.scene.now.state.now y c.args.v c.args.price read c.requires.reach (c.minus.ensures ∙ ap (λ z. z -ℤ c.args.reach) c.of.ensures)
    (sym c.lt.ensures ∙ c.if-lt.false) (sym c.lt-else-lt.ensures ∙ c.if-lt-2.false) (sym c.lt-else-lt-2.ensures ∙ c.if-lt-3.false)
    (sym c.index-scene-i.is ∙ old) (λ _. (Decides-int_eq c.args.price read).0 (sym c.eq.ensures ∙ same) ∙ sym c.index-scene-i.is ∙ old)

pub returns-else-eq : goal.returns-else-eq
returns-else-eq c is =
    let y = c.args.scene.now.prices.now in
    let node = c.requires.node in
    let count = c.requires.scene.prices.count in
    let read = get_or y c.place-i.result c.index-scene-i.result in
    let old = price_read y c.args.v c.place-i.result c.index-scene-i.result c.index-scene-i.is c.place-i.ensures (omega (arith, node, count)) in
    let some : 0 < (mate_at c.args.scene.now.mates.now c.args.v).arc = rw (← c.place-i.ensures) (ltb-true _ _ is) in
    node_fits c.args.scene.now.state.now y c.args.v c.args.price read c.requires.reach (c.minus.ensures ∙ ap (λ z. z -ℤ c.args.reach) c.of.ensures)
    (sym c.lt.ensures ∙ c.if-lt.false) (sym c.lt-else-lt.ensures ∙ c.if-lt-2.false) (sym c.lt-else-lt-2.ensures ∙ c.if-lt-3.false)
    (sym c.index-scene-i.is ∙ old) (λ none. absurd (none (c.requires.scene.mates.matched c.args.v c.requires.node some)))
