use Rattle.std.proofs.Common.{◌∙◌, sym}
use Rattle.mcf_table.proofs.EditLemmas.{edit_found, found_edit}
use Rattle.mcf_table.proofs.near.is_one_edit.Goals as goal

pub returns-clause-edit : goal.returns-clause-edit
returns-clause-edit c =
    let one = c.args.one.now in
    let other = c.args.other.now in
    (λ hit. edit_found one other (sym c.edited_once.ensures ∙ hit), λ is. c.edited_once.ensures ∙ found_edit one other is)
