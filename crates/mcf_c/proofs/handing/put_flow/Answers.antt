use Rattle.std.proofs.Common.{◌≡◌, ◌+◌, ◌<◌, ◌∙◌, ap, rules, length, set, subst, sym, take, to_z, of_z, ℤ, List}
use Rattle.std.specs.Int.{w64, w128}
use Rattle.std.specs.Prelude.{FitsSigned}
use Rattle.std.proofs.lemmas.Int.{to_z-of_z}
use Rattle.std.proofs.lemmas.List.{get_or-map, length-map, length-set}
use Rattle.mcf_answer.specs.declared.answers.Sent.{Sent}
use Rattle.mcf_checker.specs.Correct.{amounts}
use Rattle.mcf_c.proofs.Stored.{stored}
use Rattle.mcf_c.proofs.handing.put_flow.Goals as goal

pub overflow_cast-room : goal.overflow_cast-room
overflow_cast-room c =
    let l = c.loop-i in
    let sent = c.args.sent.now in
    let d = c.index-sent-i.result in
    let t : to_z w128 (of_z w128 c.flow_of.result) ≡ c.flow_of.result = search (rules, to_z-of_z) in
    let read = t ∙ c.flow_of.ensures ∙ ap (λ (s : Sent). s.flow) c.index-sent-i.is in
    let at = get_or-map (λ (s : Sent). s.flow) sent l.i d d.flow c.loop-i-test.true in
    let inside : l.i < length (amounts sent) = rw (length-map sent (λ (s : Sent). s.flow)) c.loop-i-test.true in
    subst (FitsSigned w64) (at ∙ sym read) (c.requires.fits l.i d.flow inside)

pub loop-i-preserved : goal.loop-i-preserved
loop-i-preserved c =
    let l = c.loop-i in
    let t : to_z w128 (of_z w128 c.flow_of.result) ≡ c.flow_of.result = search (rules, to_z-of_z) in
    let read = ap (λ (s : Sent). s.flow) c.index-sent-i.is in
    let back = to_z-of_z w64 (to_z w128 (of_z w128 c.flow_of.result)) (overflow_cast-room c) in
    let is = ap (λ z. set l.room l.i z) (back ∙ t ∙ c.flow_of.ensures ∙ read) in
    record {
      same = ap length is ∙ length-set l.room l.i _ ∙ l.invariant.same;
      written = ap (λ (xs : List ℤ). take (l.i + 1) xs) is ∙ stored (λ (s : Sent). s.flow) l.room c.args.sent.now l.i c.index-sent-i.result l.invariant.same c.loop-i-test.true l.invariant.written;
    }
