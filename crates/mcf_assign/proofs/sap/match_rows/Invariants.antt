use Rattle.mcf_assign.specs.Runs.{Run, sources_to}
use Rattle.mcf_assign.proofs.sap.match_rows.Given as goal

abbrev pub invariant-rows : goal.invariant-rows
invariant-rows l = Run l.net (sources_to l.net l.number) l.matching
