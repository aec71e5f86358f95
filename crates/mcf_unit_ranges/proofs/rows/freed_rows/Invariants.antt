use Rattle.std.proofs.Common.{◌≡◌, map, take, []}
use Rattle.mcf_model.specs.Faults.{AreListed}
use Rattle.mcf_unit_ranges.specs.Private.Rows.{plain}
use Rattle.mcf_unit_ranges.specs.SpanModels.{freed}
use Rattle.mcf_unit_ranges.proofs.rows.freed_rows.Given as goal

abbrev pub invariant-loop-place : goal.invariant-loop-place
invariant-loop-place l = record {
  routes : map plain l.freed.items ≡ map freed (map plain (take l.place l.rows));
  listed : AreListed [] l.freed.items;
}
