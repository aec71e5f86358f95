use Rattle.std.proofs.Common.{rules, ◌≡◌, ◌+◌, ◌++◌, ◌∷◌, [], arith, ap, ◌∙◌, pos, to_z, of_z}
use Rattle.std.specs.Prelude.{None}
use Rattle.std.specs.Int.{w128}
use Rattle.mcf_places.specs.declared.places.Place.{Place}
use Rattle.mcf_places.specs.Kinds.{kind_route}
use Rattle.mcf_places.proofs.Listed.{amount_step}
use Rattle.mcf_places.proofs.reading.by_place.Goals as goal

pub loop-place-preserved : goal.loop-place-preserved
loop-place-preserved c =
    let d : Place = record { supply = pos 0; through = None; penalty = None } in
    let kept : to_z w128 (of_z w128 c.next_amount-amount.result.0) ≡ c.next_amount-amount.result.0 = search rules in
    amount_step (kind_route c.args.kind c.args.places.now c.args.policy) c.args.places.now c.loop-place.place d c.loop-place-test.true (c.loop-place.place + 1)
    (c.loop-place.place + 1 + 1) (c.loop-place.place + 1) (omega arith) (omega arith) c.next_amount-amount.result.0 c.loop-place.made.items c.push.new.self.items
    c.loop-place.rest.now c.next_amount-amount.result.1.now _ (c.next_amount-amount.ensures.amount c.args.places.now (c.loop-place.place + 1))
    (c.next_amount-amount.ensures.later c.args.places.now (c.loop-place.place + 1))
    (c.in_ok-push.ensures.items ∙ ap (λ y. c.loop-place.made.items ++ y ∷ []) kept) c.loop-place.invariant
