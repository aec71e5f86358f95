use Rattle.std.proofs.Common.{◌≡◌, ◌+◌, ◌<◌, ◌^◌, length}
use Rattle.mcf_text.specs.Lines.{numbered_lines}
use Rattle.mcf_bench.specs.Private.Tally.{capped, fields_in}
use Rattle.mcf_bench.proofs.text.count.Given as goal

abbrev pub invariant-loop-line : goal.invariant-loop-line
invariant-loop-line l = record {
  lines : capped (l.tally.lines + length l.line-iterator) ≡ capped (length (numbered_lines 1 l.text));
  fields : capped (l.tally.fields + fields_in l.line-iterator) ≡ capped (fields_in (numbered_lines 1 l.text));
  lines_fit : l.tally.lines < 2 ^ 64;
  fields_fit : l.tally.fields < 2 ^ 64;
}
