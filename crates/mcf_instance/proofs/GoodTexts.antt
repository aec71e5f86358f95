-- Worked instances without a fault, evaluated on the definitions.
use Rattle.std.specs.Prelude.{◌≡◌, ℕ, List, [], ◌∷◌, ◌++◌, flat_map, codes, pos, negsuc, Ok, Result, refl}
use Rattle.mcf_flows.specs.declared.problem.Problem.TheVariants.{Min, Asn}
use Rattle.mcf_instance.specs.Fault.{fault_at_end, fault_of_line, faults, first_fault, first_fault_of_lines, total_of}
use Rattle.mcf_flows.specs.Codes.{Fault}
use Rattle.mcf_flows.specs.Limits.{limits}
use Rattle.mcf_flows.specs.Network.{Network}
use Rattle.mcf_instance.specs.Reading.{instance_of_lines, reading}

-- what a text of these lines, each with its end, stands for
abbrev reading_of_text : List (List ℕ) → Result Network Fault
reading_of_text lines = reading limits (flat_map (λ line. line ++ 10 ∷ []) lines)

no_nodes : reading_of_text (codes "p min 0 0" ∷ []) ≡ Ok (record { problem = Min; arcs = []; supplies = [] })
unfolding first_fault first_fault_of_lines faults fault_of_line total_of fault_at_end instance_of_lines reading
no_nodes = refl

a_loop : reading_of_text (codes "p min 1 1" ∷ codes "a 1 1 0 7 -3" ∷ []) ≡ Ok (record {
  problem = Min;
  arcs = record { src = 1; dst = 1; low = pos 0; cap = pos 7; cost = negsuc 2 } ∷ [];
  supplies = pos 0 ∷ [];
})
unfolding first_fault first_fault_of_lines faults fault_of_line total_of fault_at_end instance_of_lines reading
a_loop = refl

bounds_below_zero : reading_of_text (codes "p min 2 1" ∷ codes "n 1 -3" ∷ codes "n 2 3" ∷ codes "a 1 2 -3 -3 1" ∷ []) ≡ Ok (record {
  problem = Min;
  arcs = record { src = 1; dst = 2; low = negsuc 2; cap = negsuc 2; cost = pos 1 } ∷ [];
  supplies = negsuc 2 ∷ pos 3 ∷ [];
})
unfolding first_fault first_fault_of_lines faults fault_of_line total_of fault_at_end instance_of_lines reading
bounds_below_zero = refl

an_assignment : reading_of_text (codes "p asn 4 2" ∷ codes "n 1" ∷ codes "n 2" ∷ codes "a 1 3 1" ∷ codes "a 2 3 1" ∷ []) ≡ Ok (record {
  problem = Asn;
  arcs = record { src = 1; dst = 3; low = pos 0; cap = pos 1; cost = pos 1 }
      ∷ record { src = 2; dst = 3; low = pos 0; cap = pos 1; cost = pos 1 } ∷ [];
  supplies = pos 1 ∷ pos 1 ∷ negsuc 0 ∷ negsuc 0 ∷ [];
})
unfolding first_fault first_fault_of_lines faults fault_of_line total_of fault_at_end instance_of_lines reading
an_assignment = refl

-- blanks of three kinds, a plus sign, leading zeros, a comment, blank lines, a last line without
-- its end
every_leniency : reading limits (codes "c sample\r\n\r\n\tp min 2 1\r\nn 01 +3\nn 2 -003\na 1 2 0 4 7") ≡ Ok (record {
  problem = Min;
  arcs = record { src = 1; dst = 2; low = pos 0; cap = pos 4; cost = pos 7 } ∷ [];
  supplies = pos 3 ∷ negsuc 2 ∷ [];
})
unfolding first_fault first_fault_of_lines faults fault_of_line total_of fault_at_end instance_of_lines reading
every_leniency = refl
