use Rattle.mcf_table.proofs.FieldLemmas.{plain_first}
use Rattle.mcf_table.proofs.fields.plain_field.Goals as goal

pub returns : goal.returns
returns c = plain_first c.args.separator c.args.text.now c.plain_len-len.result c.requires c.plain_len-len.ensures
