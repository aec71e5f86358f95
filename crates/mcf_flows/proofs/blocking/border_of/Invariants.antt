use Rattle.std.proofs.Common.{◌≡◌, map, take}
use Rattle.mcf_flows.specs.Blocking.{in_table, low_entering, cap_entering, low_leaving, cap_leaving}
use Rattle.mcf_flows.specs.Packed.{unpacked}
use Rattle.mcf_flows.proofs.blocking.border_of.Given as goal

abbrev pub invariant-loop-place : goal.invariant-loop-place
invariant-loop-place l =
    record {
      low_in : l.low_in ≡ low_entering (take l.place (map unpacked l.arcs)) (in_table l.table);
      cap_in : l.cap_in ≡ cap_entering (take l.place (map unpacked l.arcs)) (in_table l.table);
      low_out : l.low_out ≡ low_leaving (take l.place (map unpacked l.arcs)) (in_table l.table);
      cap_out : l.cap_out ≡ cap_leaving (take l.place (map unpacked l.arcs)) (in_table l.table);
    }
