use Rattle.std.proofs.Common.{rules}
use Rattle.mcf_pair_text.specs.MemberRows.{named_lists}
use Rattle.mcf_pair_text.specs.PairPlaces.{sheet_in}
use Rattle.mcf_pair_text.specs.PairRows.{all_chosen, choice_heading}
use Rattle.mcf_pair_text.proofs.ListTexts.{three_lists}
use Rattle.mcf_pair_text.proofs.rows.put_choice.Goals as goal

pub returns : goal.returns
returns c =
    let s = sheet_in c.args.page in
    let said = c.args.table.now in
    three_lists c.put_named_lists.result c.args.out.now.items c.put_choice_heading.new.out.items c.put_all_chosen.new.out.items
    c.put_named_lists.new.out.items (choice_heading c.args.unit.maximise said c.args.unit.scale c.args.choice.now.value)
    (all_chosen s said c.args.choice.now.chosen.items) (named_lists s said) (search rules) (search rules) (search rules)
