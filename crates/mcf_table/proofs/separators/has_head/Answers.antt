use Rattle.std.proofs.Common.{◌∙◌, ◌+◌, take, length-drop, sym, ap, arith}
use Rattle.std.specs.Prelude.{◌==◌}
use Rattle.std.specs.List.{list_any}
use Rattle.std.proofs.lemmas.List.{take_rest}
use Rattle.mcf_table.specs.Separators.{is_head}
use Rattle.mcf_table.proofs.SeparatorLemmas.{any_first, any_next, head_met, only, split_last}
use Rattle.mcf_table.proofs.separators.has_head.Goals as goal

pub returns-then-is_head : goal.returns-then-is_head
returns-then-is_head c =
    let head = c.args.head.now in
    let rest = c.parts.rest.now in
    let parts = head_met c.args.byte head rest c.in-Some.end c.in-Some.ensures in
    sym (c.parts.invariant.same ∙ ap (list_any (is_head head)) parts
    ∙ any_first head (take c.in-Some.end rest) _ (sym c.is_head.ensures ∙ c.if-is_head.true))

pub overflow_add-rest : goal.overflow_add-rest
overflow_add-rest c = omega (arith, c.in-Some.ensures.inside, c.parts.invariant.inside)

pub parts-preserved : goal.parts-preserved
parts-preserved c =
    let head = c.args.head.now in
    let rest = c.parts.rest.now in
    let parts = head_met c.args.byte head rest c.in-Some.end c.in-Some.ensures in
    record {
      same = simp take_rest (c.parts.invariant.same ∙ ap (list_any (is_head head)) parts
          ∙ any_next head (take c.in-Some.end rest) _ (sym c.is_head.ensures ∙ c.if-is_head.false));
      inside = simp take_rest (omega (arith, c.parts.invariant.inside, length-drop (c.in-Some.end + 1) rest));
    }

pub returns : goal.returns
returns c =
    let head = c.args.head.now in
    let parts = split_last (λ b. b == c.args.byte) c.parts.rest.now c.in_default.ensures in
    c.is_head-2.ensures ∙ sym (c.parts.invariant.same ∙ ap (list_any (is_head head)) parts ∙ only head c.parts.rest.now)
