use Rattle.std.proofs.Common.{◌≡◌, ◌≤◌, ◌++◌, map, take, length}
use Rattle.mcf_text.specs.Fields.{fields_of}
use Rattle.mcf_instance.proofs.reader.fields.first_fields.Given as goal

abbrev pub invariant-loop-field : goal.invariant-loop-field
invariant-loop-field l = record {
  few : l.count ≤ 7;
  places : length l.first ≡ 7;
  fields : map (λ f. f.now) (take l.count l.first) ++ l.field-iterator ≡ fields_of l.line;
}
