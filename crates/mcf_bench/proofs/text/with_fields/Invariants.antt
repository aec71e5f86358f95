use Rattle.std.proofs.Common.{◌≡◌, ◌+◌, ◌<◌, ◌^◌, length}
use Rattle.mcf_text.specs.Fields.{fields_of}
use Rattle.mcf_bench.specs.Private.Tally.{capped}
use Rattle.mcf_bench.proofs.text.with_fields.Given as goal

abbrev pub invariant-loop-field : goal.invariant-loop-field
invariant-loop-field l = record {
  lines : l.tally.lines ≡ l.initial.tally.lines;
  fields : capped (l.tally.fields + length l.field-iterator) ≡ capped (l.initial.tally.fields + length (fields_of l.line));
  fields_fit : l.tally.fields < 2 ^ 64;
}
