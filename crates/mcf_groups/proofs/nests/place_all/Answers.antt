use Rattle.std.proofs.Common.{◌∙◌, ◌-◌, ◌<◌, ap, get_or, length, set, sym, take, arith}
use Rattle.std.proofs.lemmas.List.{take_more}
use Rattle.mcf_groups.specs.Nests.{placed}
use Rattle.mcf_groups.proofs.Placing.{placed_more, placed_none}
use Rattle.mcf_groups.proofs.nests.place_all.Goals as goal

pub loop-number-init : goal.loop-number-init
loop-number-init c = sym (placed_none c.args.place c.args.before.now)

pub loop-number-preserved : goal.loop-number-preserved
loop-number-preserved c =
    let ms = c.args.members.now in
    let i = c.loop-number.number in
    let few : i < length ms = omega arith in
    ap (λ xs. set xs (get_or ms i 0 - 1) c.args.place) c.loop-number.invariant
    ∙ placed_more c.args.place (take i ms) c.args.before.now (get_or ms i 0) (c.requires i 0 few)
    ∙ ap (λ xs. placed c.args.place xs c.args.before.now) (sym (take_more ms i 0 few))
