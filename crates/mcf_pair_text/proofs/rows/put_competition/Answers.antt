use Rattle.std.proofs.Common.{rules}
use Rattle.mcf_pair_text.specs.MemberRows.{member_lists}
use Rattle.mcf_pair_text.specs.PairPlaces.{sheet_in}
use Rattle.mcf_pair_text.specs.PairRows.{all_chosen, competition_heading}
use Rattle.mcf_pair_text.proofs.ListTexts.{three_lists}
use Rattle.mcf_pair_text.proofs.rows.put_competition.Goals as goal

pub returns : goal.returns
returns c =
    let s = sheet_in c.args.page in
    let said = c.args.table.now in
    let f = c.args.found.now in
    three_lists c.put_all_chosen.result c.args.out.now.items c.put_competition_heading.new.out.items c.put_member_lists.new.out.items
    c.put_all_chosen.new.out.items (competition_heading said f.side) (member_lists s said f) (all_chosen s said f.amounts.pairs.items)
    (search rules) (search rules) (search rules)
