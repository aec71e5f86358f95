use Rattle.std.proofs.Common.{◌≡◌, ◌∙◌, ℕ, ap, length, rules, arith, subst}
use Rattle.std.proofs.lemmas.List.{nil_from_length}
use Rattle.mcf_roster.specs.RosterFaults.{IsSoundRoster}
use Rattle.mcf_pair_tables.specs.GroupedAnswers.{IsGroupedRoster}
use Rattle.mcf_pair_tables.specs.PairCosts.{scale_of_pairs}
use Rattle.mcf_pair_tables.proofs.MadeRosters.{improper, proper}
use Rattle.mcf_pair_tables.proofs.grouped.grouped_choice.Goals as goal

pub returns-in-Ok : goal.returns-in-Ok
returns-in-Ok g c =
    let none : length c.in_ok-great.great.items ≡ 0 = search (rules, arith) in
    let unit : c.scale_of-scale.result ≡ scale_of_pairs c.args.table.now.pairs = c.scale_of-scale.ensures ∙ ap scale_of_pairs c.pairs.ensures in
    let sound : IsSoundRoster c.in-Ok.roster = search rules in
    let told : IsGroupedRoster c.scale_of-scale.result c.in-Ok.roster c.args.groups.now c.args.asked.crossing c.in_ok-made-in-Ok.made = search rules in
    let both =
    proper c.args.table.now c.args.asked.options c.scale_of-scale.result c.in_ok-great.great.items c.pairs.result.now c.pairs-2.result.now c.in_ok-roster.field-0 c.in-Ok.roster
    c.in_ok-great.ensures (nil_from_length c.in_ok-great.great.items none) c.scale_of-scale.ensures c.pairs.ensures c.pairs-2.ensures c.in_ok-roster.ensures.exact c.in-Ok.is in (
      c.in-Ok.roster,
      both.0,
      both.1,
      sound,
      subst (λ (n : ℕ). IsGroupedRoster n c.in-Ok.roster c.args.groups.now c.args.asked.crossing c.in_ok-made-in-Ok.made) unit told,
    )

pub returns : goal.returns
returns g c =
    let none : length c.in_ok-great.great.items ≡ 0 = search (rules, arith) in
    improper c.args.table.now c.args.asked.options c.scale_of-scale.result c.in_ok-great.great.items c.pairs.result.now c.pairs-2.result.now c.in_ok-roster.field-0
    c.in-Err.fault c.in_ok-great.ensures (nil_from_length c.in_ok-great.great.items none) c.scale_of-scale.ensures c.pairs.ensures c.pairs-2.ensures
    c.in_ok-roster.ensures.exact c.in-Err.is
