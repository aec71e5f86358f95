use Rattle.std.proofs.Common.{◌≡◌, ◌∙◌, ◌<◌, sym, ap, arith, length, drop}
use Rattle.std.proofs.lemmas.Bool.{eqb-true, eqb-false}
use Rattle.std.proofs.lemmas.List.{take_rest}
use Rattle.mcf_decimal.specs.Groups.{are_groups, group_len, separators}
use Rattle.mcf_decimal.proofs.GroupLemmas.{groups_none, groups_step, groups_stop}
use Rattle.mcf_decimal.proofs.groups.are_groups.Goals as goal

pub returns-then-len-eq0 : goal.returns-then-len-eq0
returns-then-len-eq0 c =
    let rest = c.groups.rest.now in
    let long : 0 < length rest = omega (arith, eqb-false _ _ (sym c.is_empty.ensures ∙ c.groups-test.true)) in
    sym (c.groups.invariant ∙ groups_stop (separators c.args.mark) rest long (sym c.group_len-len.ensures.value ∙ c.if-len-eq0.true))

pub groups-preserved : goal.groups-preserved
groups-preserved c =
    let rest = c.groups.rest.now in
    let words = separators c.args.mark in
    let long : 0 < length rest = omega (arith, eqb-false _ _ (sym c.is_empty.ensures ∙ c.groups-test.true)) in
    let some : 0 < group_len words rest = omega (arith, c.if-len-eq0.false, c.group_len-len.ensures.value) in
    let next : are_groups words c.args.bytes.now ≡ are_groups words (drop c.group_len-len.result rest) =
    c.groups.invariant ∙ groups_step words rest long some ∙ ap (λ n. are_groups words (drop n rest)) (sym c.group_len-len.ensures.value) in
    simp take_rest next

pub returns : goal.returns
returns c =
    sym (c.groups.invariant ∙ groups_none (separators c.args.mark) c.groups.rest.now
    (eqb-true _ _ (sym c.is_empty.ensures ∙ c.groups-test.false)))
