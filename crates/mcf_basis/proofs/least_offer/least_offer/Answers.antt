use Rattle.std.proofs.Common.{◌+◌, ◌*◌, arith, subst, sym, ◌∙◌}
use Rattle.std.proofs.lemmas.Int.{ints}
use Rattle.mcf_basis.specs.Private.Offered.{reduced_of}
use Rattle.mcf_basis.proofs.LeastOffers.{IsLeastSoFar, least_found, least_none, less, not_less, so_far_even, so_far_next, so_far_odd}
use Rattle.mcf_basis.proofs.least_offer.least_offer.Goals.{then-end-begin-eq1, else-end-begin-eq1}
use Rattle.mcf_basis.proofs.least_offer.least_offer.Goals as goal

pub pairs-preserved : goal.pairs-preserved
pairs-preserved g c =
    let value = reduced_of c.args.prices.now c.args.offers.now in
    let begin = c.args.begin in
    let i = begin + 2 * c.pairs.pair in
    let one = c.or_less-best.ensures in
    let two = c.or_less-best-in-pairs.ensures in
    let first = so_far_next value begin i c.pairs.best.place c.or_less-best.result.place c.pairs.best.reduced c.or_less-best.result.reduced
    c.reduced_at.result (omega arith) c.reduced_at.ensures one.place one.reduced c.pairs.invariant in
    let second = so_far_next value begin (i + 1) c.or_less-best.result.place c.or_less-best-in-pairs.result.place c.or_less-best.result.reduced
    c.or_less-best-in-pairs.result.reduced c.reduced_at-in-pairs.result (omega arith) c.reduced_at-in-pairs.ensures two.place two.reduced first in
    subst (λ n. IsLeastSoFar value begin n c.or_less-best-in-pairs.result.place c.or_less-best-in-pairs.result.reduced) (omega arith) second

pub returns-then-lt : goal.returns-then-lt
returns-then-lt g c =
    let value = reduced_of c.args.prices.now c.args.offers.now in
    let order = c.requires.order in
    let all = c.pairs-test.false in
    let best = c.if-end-begin-eq1.best in
    let zero = c.of-2.ensures in
    let so_far : IsLeastSoFar value c.args.begin c.args.end best.place best.reduced = elim c.if-end-begin-eq1.branch [
      | then-end-begin-eq1 w ↦
          let next = w.or_less-best-then-end-begin-eq1 in
          let odd = w.if-end-begin-eq1.true in
          rw w.best-is (so_far_odd value c.args.begin c.args.end c.pairs.pair c.pairs.best.place c.pairs.best.reduced order all c.pairs.auto.pair-end
          c.pairs.invariant next.result.place next.result.reduced w.reduced_at-then-end-begin-eq1.result odd w.reduced_at-then-end-begin-eq1.ensures
          next.ensures.place next.ensures.reduced)
      | else-end-begin-eq1 w ↦
          let even = w.if-end-begin-eq1.false in
          rw w.best-is (so_far_even value c.args.begin c.args.end c.pairs.pair c.pairs.best.place c.pairs.best.reduced order all c.pairs.auto.pair-end
          c.pairs.invariant even)
    ] in
    least_found c.args.prices.now c.args.offers.now c.args.begin c.args.end best.place best.reduced so_far
    (let lt = less best.reduced c.of-2.result (sym c.lt.ensures ∙ c.if-lt.true) in omega (arith, ints, zero, lt))

pub returns-else-lt : goal.returns-else-lt
returns-else-lt g c =
    let value = reduced_of c.args.prices.now c.args.offers.now in
    let order = c.requires.order in
    let all = c.pairs-test.false in
    let best = c.if-end-begin-eq1.best in
    let zero = c.of-2.ensures in
    let so_far : IsLeastSoFar value c.args.begin c.args.end best.place best.reduced = elim c.if-end-begin-eq1.branch [
      | then-end-begin-eq1 w ↦
          let next = w.or_less-best-then-end-begin-eq1 in
          let odd = w.if-end-begin-eq1.true in
          rw w.best-is (so_far_odd value c.args.begin c.args.end c.pairs.pair c.pairs.best.place c.pairs.best.reduced order all c.pairs.auto.pair-end
          c.pairs.invariant next.result.place next.result.reduced w.reduced_at-then-end-begin-eq1.result odd w.reduced_at-then-end-begin-eq1.ensures
          next.ensures.place next.ensures.reduced)
      | else-end-begin-eq1 w ↦
          let even = w.if-end-begin-eq1.false in
          rw w.best-is (so_far_even value c.args.begin c.args.end c.pairs.pair c.pairs.best.place c.pairs.best.reduced order all c.pairs.auto.pair-end
          c.pairs.invariant even)
    ] in
    least_none c.args.prices.now c.args.offers.now c.args.begin c.args.end best.place best.reduced so_far
    (let ge = not_less best.reduced c.of-2.result (sym c.lt.ensures ∙ c.if-lt.false) in omega (arith, ints, zero, ge))
