use Rattle.std.proofs.Common.{◌≡◌, ◌∙◌, List, drop, take, length, ap, arith}
use Rattle.mcf_table.specs.Texts.{Record}
use Rattle.mcf_table.specs.declared.records.RowPart.{RowPart}
use Rattle.mcf_table.proofs.HeadRowLemmas.{rows_dropped}
use Rattle.mcf_table.proofs.records.Records.drop_front.Goals as goal

pub returns : goal.returns
returns c =
    let parts = c.self.inside.parts.items in
    let len_is : c.len-len.result ≡ length parts = omega (arith, c.len-len.ensures, c.self.inside.parts.ok.0) in
    rows_dropped c.self.inside.cells parts c.truncate.new.self.items c.args.count c.len-len.result c.min.result c.saturating_sub.result
    len_is c.min.ensures c.saturating_sub.ensures
    (c.truncate.ensures.items ∙ ap (λ (xs : List RowPart). take c.saturating_sub.result xs) c.rotate_left.ensures.items)
    ∙ ap (λ (records : List Record). drop c.args.count records) c.self.view_is
