use Rattle.std.proofs.Common.{◌∙◌, sym, arith}
use Rattle.std.proofs.lemmas.Int.{ints}
use Rattle.mcf_network.proofs.RemovalLaws.{stored_is, width_loop, width_plain}
use Rattle.mcf_network.proofs.removal.without_low.Goals as goal

pub returns-then-src-dst : goal.returns-then-src-dst
returns-then-src-dst c =
    let a = c.args.a in
    let s = c.get-src.ensures in
    let d = c.get-dst.ensures in
    stored_is a _ _ _ _ s d (sym (width_loop a (sym s ∙ c.if-src-dst.true ∙ d))) (omega (arith, ints, c.requires.cost_small))

pub returns-else-src-dst : goal.returns-else-src-dst
returns-else-src-dst c =
    let a = c.args.a in
    let s = c.get-src.ensures in
    let d = c.get-dst.ensures in
    let wide = width_plain a (λ e. c.if-src-dst.false (s ∙ e ∙ sym d)) in
    stored_is a _ _ _ _ s d (omega (arith, ints, wide, c.requires.low_small, c.requires.cap_small)) (omega (arith, ints, c.requires.cost_small))
