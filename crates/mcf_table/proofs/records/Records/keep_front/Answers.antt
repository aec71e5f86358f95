use Rattle.std.proofs.Common.{◌∙◌, List, map, take, sym, ap}
use Rattle.std.proofs.lemmas.List.{take-map}
use Rattle.mcf_table.specs.Private.Found.{row_in}
use Rattle.mcf_table.specs.Texts.{Record}
use Rattle.mcf_table.specs.declared.records.RowPart.{RowPart}
use Rattle.mcf_table.proofs.records.Records.keep_front.Goals as goal

pub returns : goal.returns
returns c =
    ap (λ (parts : List RowPart). map (row_in c.self.inside.cells) parts) c.truncate.ensures.items
    ∙ sym (take-map (row_in c.self.inside.cells) c.args.count c.self.inside.parts.items)
    ∙ ap (λ (rows : List Record). take c.args.count rows) c.self.view_is
