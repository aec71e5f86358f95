use Rattle.std.proofs.Common.{◌≡◌, length, rules, arith}
use Rattle.std.proofs.lemmas.List.{nil_from_length}
use Rattle.mcf_pair_tables.proofs.MadeRosters.{improper}
use Rattle.mcf_pair_tables.proofs.answering.choice_answer.Goals as goal

pub returns : goal.returns
returns g c =
    let none : length c.in_ok-great.great.items ≡ 0 = search (rules, arith) in
    improper c.args.table.now c.args.options c.scale_of-scale.result c.in_ok-great.great.items c.pairs.result.now c.pairs-2.result.now c.in_ok-roster.field-0 c.in-Err.fault
    c.in_ok-great.ensures (nil_from_length c.in_ok-great.great.items none) c.scale_of-scale.ensures c.pairs.ensures c.pairs-2.ensures c.in_ok-roster.ensures.exact c.in-Err.is
