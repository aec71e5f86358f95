use Rattle.std.proofs.Common.{true, false, arith, rules}
use Rattle.std.proofs.lemmas.Int.{ints, to_z-of_z}
use Rattle.mcf_network.proofs.ArcLaws.{amount_of}
use Rattle.mcf_basis.proofs.Endings.{amount_pushed}
use Rattle.mcf_basis.proofs.ending.set_amount.Goals.{then-back, else-back}
use Rattle.mcf_basis.proofs.ending.set_amount.Goals as goal

pub returns-clause-value : goal.returns-clause-value
returns-clause-value c =
    let a = amount_of c.args.state.now c.args.k c.amount-old.ensures.valid c.requires.arc in
    elim c.if-back.branch [
      | then-back w ↦ amount_pushed c.args.state.now c.push.new.self c.args.k true c.if-back.change c.args.amount a.in_range
          (omega (arith, ints, c.amount-old.ensures.value, w.change-is)) (search (rules, to_z-of_z, w.if-back.true))
      | else-back w ↦ amount_pushed c.args.state.now c.push.new.self c.args.k false c.if-back.change c.args.amount a.in_range
          (omega (arith, ints, c.amount-old.ensures.value, w.change-is)) (search (rules, to_z-of_z, w.if-back.false))
    ]

pub push-requires-clause-high : goal.push-requires-clause-high
push-requires-clause-high c =
    let old = c.amount-old.ensures.value in
    elim c.if-back.branch [
      | then-back w ↦ (let change = w.change-is in rw w.if-back.true (omega (arith, ints, old, change, c.requires.low)))
      | else-back w ↦ (let change = w.change-is in rw w.if-back.false (omega (arith, ints, old, change, c.requires.high)))
    ]
