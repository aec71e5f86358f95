use Rattle.std.proofs.Common.{◌≡◌, map, take, []}
use Rattle.mcf_model.specs.Faults.{AreListed}
use Rattle.mcf_unit_ranges.specs.Private.Rows.{plain}
use Rattle.mcf_unit_ranges.specs.Spans.{span}
use Rattle.mcf_unit_ranges.proofs.rows.span_rows.Given as goal

abbrev pub invariant-loop-place : goal.invariant-loop-place
invariant-loop-place l = record {
  routes : map plain l.rows.items ≡ map (span l.prices) (take l.place l.model.routes);
  listed : AreListed [] l.rows.items;
}
