use Rattle.std.proofs.Common.{◌≡◌, ◌∙◌, ◌+◌, ◌<◌, List, ℕ, length, sym, ap, arith}
use Rattle.std.specs.Str.{str_eq_ignore_ascii_case}
use Rattle.mcf_table.specs.Heads.{heads}
use Rattle.mcf_table.specs.Private.Found.{also_at_all}
use Rattle.mcf_table.specs.declared.heads.Column.{Column}
use Rattle.mcf_table.proofs.HeadLemmas.{heads_hit, heads_left, heads_miss, heads_start, is_head}
use Rattle.mcf_table.proofs.records.Records.column_of.Goals as goal
use Rattle.mcf_table.proofs.records.Records.column_of.Goals.{then-is_same, else-is_same}

pub heads-init : goal.heads-init
heads-init c = record { count = c.head_count-count.ensures; left = heads_start c.args.head.now c.args.self.now }

pub heads-preserved : goal.heads-preserved
heads-preserved c =
    let head = c.args.head.now in
    let records = c.args.self.now in
    let place = c.heads.place in
    let found = c.heads.found in
    let below : place < length (heads records) = omega (arith, c.heads-test.true, c.heads.invariant.count) in
    let same : is_head head records place ≡ c.is_same.result =
    sym (c.is_same.ensures ∙ ap (λ (cell : List ℕ). str_eq_ignore_ascii_case cell head) c.cell.ensures) in
    record {
      count = c.heads.invariant.count;
      left = elim c.if-is_same.branch [
        | then-is_same w ↦
            ap (λ (column : Column). also_at_all column (heads_left head records (place + 1))) (w.found-is ∙ w.also_at-found.ensures)
            ∙ heads_hit head records found place below (same ∙ w.if-is_same.true) c.heads.invariant.left
        | else-is_same w ↦
            ap (λ (column : Column). also_at_all column (heads_left head records (place + 1))) w.found-is
            ∙ heads_miss head records found place below (same ∙ w.if-is_same.false) c.heads.invariant.left
      ];
    }
