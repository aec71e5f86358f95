use Rattle.std.proofs.Common.{◌∙◌, ◌+◌, ◌<◌, ◌≤◌, length, map, min, get_or, sym, arith}
use Rattle.mcf_table.specs.Texts.{no_record}
use Rattle.mcf_table.proofs.HeadRowLemmas.{heads_borrowed, none_more, row_found, row_missing}
use Rattle.mcf_table.proofs.records.Records.head_row.Goals as goal

pub returns-then-has_heads : goal.returns-then-has_heads
returns-then-has_heads c =
    let wanted = map (λ head. head.now) c.args.wanted.now in
    let records = c.args.self.now in
    let row = c.rows.row in
    let inside : row < length records = omega (arith, c.rows-test.true, c.rows.invariant.end) in
    let near : row < c.args.from + 10 = omega (arith, c.rows-test.true, c.rows.invariant.end) in
    row_found c.args.from row wanted records c.rows.auto.row inside near c.rows.invariant.none
    (heads_borrowed c.args.wanted.now (get_or records row no_record) ∙ sym c.has_heads.ensures ∙ c.if-has_heads.true)

pub rows-preserved : goal.rows-preserved
rows-preserved c =
    let wanted = map (λ head. head.now) c.args.wanted.now in
    let records = c.args.self.now in
    let row = c.rows.row in
    record {
      end = c.rows.invariant.end;
      none = none_more c.args.from row wanted records c.rows.invariant.none
          (heads_borrowed c.args.wanted.now (get_or records row no_record) ∙ sym c.has_heads.ensures ∙ c.if-has_heads.false);
    }

pub returns : goal.returns
returns c =
    let past : min (length c.args.self.now) (c.args.from + 10) ≤ c.rows.row = omega (arith, c.rows-test.false, c.rows.invariant.end) in
    row_missing c.args.from c.rows.row (map (λ head. head.now) c.args.wanted.now) c.args.self.now past c.rows.invariant.none
