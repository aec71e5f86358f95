use Rattle.std.proofs.Common.{◌≡◌, ◌++◌, ◌+◌, ◌∷◌, [], drop, map, ap, sym, ◌∙◌, arith, w64, of_z, to_z, slice_index_or, pos}
use Rattle.std.proofs.lemmas.Int.{ints}
use Rattle.std.proofs.lemmas.List.{append-nil}
use Rattle.mcf_instance.specs.Arrays.{arc_of_numbers}
use Rattle.mcf_model.specs.Arcs.{last_arc, step_arc, way}
use Rattle.mcf_model.proofs.Filling.{pushed, way_end, way_more}
use Rattle.mcf_model.proofs.arcs.push_way.Goals as goal

pub loop-place-preserved : goal.loop-place-preserved
loop-place-preserved c =
    let rest = to_z w64 c.loop-place.rest-bits in
    let s = slice_index_or c.args.steps.now c.loop-place.place (record { most = pos 0; cost = pos 0 }) in
    let e : to_z w64 (of_z w64 c.rest_after-rest.result) ≡ c.rest_after-rest.result = omega (arith, ints) in
    let left = way c.args.direction.tail c.args.direction.head c.rest_after-rest.result (drop (c.loop-place.place + 1) c.args.steps.now) c.args.direction.last.most c.args.direction.last.cost in
    rw e (pushed c.loop-place.arcs.items c.push.new.self.items c.step_arc-arc.result (step_arc c.args.direction.tail c.args.direction.head rest s) left
    c.in_ok-push.ensures.items c.step_arc-arc.ensures
    ∙ ap (λ z. map arc_of_numbers c.loop-place.arcs.items ++ step_arc c.args.direction.tail c.args.direction.head rest s
    ∷ way c.args.direction.tail c.args.direction.head z (drop (c.loop-place.place + 1) c.args.steps.now) c.args.direction.last.most c.args.direction.last.cost) c.rest_after-rest.ensures
    ∙ ap (λ xs. map arc_of_numbers c.loop-place.arcs.items ++ xs)
    (sym (way_more c.args.direction.tail c.args.direction.head rest c.args.steps.now c.loop-place.place (record { most = pos 0; cost = pos 0 }) c.args.direction.last.most c.args.direction.last.cost
    c.loop-place-test.true))
    ∙ c.loop-place.invariant)

pub returns : goal.returns
returns c =
    let rest = to_z w64 c.loop-place.rest-bits in
    sym (append-nil (map arc_of_numbers c.push-2.new.self.items))
    ∙ pushed c.loop-place.arcs.items c.push-2.new.self.items c.last_arc-arc.result (last_arc c.args.direction.tail c.args.direction.head rest c.args.direction.last.most c.args.direction.last.cost) []
    c.in_ok-push-2.ensures.items c.last_arc-arc.ensures
    ∙ ap (λ xs. map arc_of_numbers c.loop-place.arcs.items ++ xs)
    (sym (way_end c.args.direction.tail c.args.direction.head rest c.args.steps.now c.loop-place.place c.args.direction.last.most c.args.direction.last.cost c.loop-place-test.false))
    ∙ c.loop-place.invariant
