use Rattle.std.proofs.Common.{get_or, pos, arith, rules, map}
use Rattle.std.specs.Prelude.{ℤ}
use Rattle.std.specs.List.{enumerate_from}
use Rattle.std.proofs.lemmas.Int.{to_z-of_z}
use Rattle.std.proofs.lemmas.List.{get_or_default, length-map, take_all}
use Rattle.std.proofs.lemmas.List.FromFn.{length-enumerate_from}
use mir.Val.{SFits}
use mir.Syntax.{w128}
use Rattle.mcf_answer.specs.Spelling.{price_line}
use Rattle.mcf_answer.specs.Written.{line_text}
use Rattle.mcf_answer.proofs.Puts.{IsAt-enumerate_from, IsAt-map, puts_next, puts_stopped}
use Rattle.mcf_answer.proofs.writer.put_prices.Goals as goal

pub loop-k-preserved : goal.loop-k-preserved
loop-k-preserved c =
    let price : ℤ = get_or c.args.prices.now c.loop-k.k (pos 0) in
    let fits : SFits w128 price = search rules in
    let at = IsAt-enumerate_from c.args.prices.now c.loop-k.k price (c.loop-k-test.true, get_or_default _ _ _ _ c.loop-k-test.true) in
    puts_next line_text _ _ _ (IsAt-map price_line _ _ _ at) c.loop-k.invariant (simp to_z-of_z at c.in_ok-put_price.ensures)

pub returns-in_err-put_price : goal.returns-in_err-put_price
returns-in_err-put_price c =
    let price : ℤ = get_or c.args.prices.now c.loop-k.k (pos 0) in
    let fits : SFits w128 price = search rules in
    let at = IsAt-enumerate_from c.args.prices.now c.loop-k.k price (c.loop-k-test.true, get_or_default _ _ _ _ c.loop-k-test.true) in
    puts_stopped line_text _ _ _ (IsAt-map price_line _ _ _ at) c.from_residual.ensures.0 c.loop-k.invariant (simp to_z-of_z at c.in_err-put_price.ensures)

pub returns : goal.returns
returns c =
    let all = take_all c.loop-k.k (map price_line (enumerate_from 1 c.args.prices.now)) (omega (arith, length-map (enumerate_from 1 c.args.prices.now) price_line, length-enumerate_from 1 c.args.prices.now)) in
    rw all at c.loop-k.invariant
