-- The worked instance of four nodes and five arcs: what its first bytes and the whole stand for,
-- evaluated on the definitions.
use Rattle.std.specs.Prelude.{◌≡◌, ℕ, List, [], ◌∷◌, codes, map, take, replicate, pos, negsuc, None, Some, Ok, Option, refl}
use Rattle.std.specs.List.{range_with_len}
use Rattle.mcf_flows.specs.declared.code.Code.{Code}
use Rattle.mcf_flows.specs.declared.code.Code.TheVariants.{Fields, Missing, NoP, Number}
use Rattle.mcf_flows.specs.declared.problem.Problem.TheVariants.{Min}
use Rattle.mcf_instance.specs.Fault.{fault_at_end, fault_of_line, faults, first_fault, first_fault_of_lines, total_of}
use Rattle.mcf_flows.specs.Codes.{Fault}
use Rattle.mcf_flows.specs.Limits.{limits}
use Rattle.mcf_instance.specs.Reading.{instance_of_lines, reading}

abbrev text : List ℕ
text = codes "p min 4 5\nn 1 4\nn 4 -4\na 1 2 0 4 2\na 1 3 0 2 2\na 2 3 0 2 1\na 2 4 0 3 3\na 3 4 0 5 1\n"

-- the first faults of its first bytes, for so many lengths from one on
abbrev faults_of_cuts : ℕ → ℕ → List (Option Fault)
faults_of_cuts from count = map (λ length. first_fault limits (take length text)) (range_with_len from count)

-- this many times this fault
abbrev all_at : ℕ → ℕ → Code → List (Option Fault)
all_at count line code = replicate count (Some (record { line = line; code = code }))

cut_from_0 : faults_of_cuts 0 1 ≡ all_at 1 1 NoP
unfolding first_fault first_fault_of_lines faults fault_of_line total_of fault_at_end
cut_from_0 = refl

cut_from_1 : faults_of_cuts 1 8 ≡ all_at 8 1 Fields
unfolding first_fault first_fault_of_lines faults fault_of_line total_of fault_at_end
cut_from_1 = refl

cut_from_9 : faults_of_cuts 9 2 ≡ all_at 2 2 Missing
unfolding first_fault first_fault_of_lines faults fault_of_line total_of fault_at_end
cut_from_9 = refl

cut_from_11 : faults_of_cuts 11 4 ≡ all_at 4 2 Fields
unfolding first_fault first_fault_of_lines faults fault_of_line total_of fault_at_end
cut_from_11 = refl

cut_from_15 : faults_of_cuts 15 2 ≡ all_at 2 3 Missing
unfolding first_fault first_fault_of_lines faults fault_of_line total_of fault_at_end
cut_from_15 = refl

cut_from_17 : faults_of_cuts 17 4 ≡ all_at 4 3 Fields
unfolding first_fault first_fault_of_lines faults fault_of_line total_of fault_at_end
cut_from_17 = refl

cut_from_21 : faults_of_cuts 21 1 ≡ all_at 1 3 Number
unfolding first_fault first_fault_of_lines faults fault_of_line total_of fault_at_end
cut_from_21 = refl

cut_from_22 : faults_of_cuts 22 2 ≡ all_at 2 4 Missing
unfolding first_fault first_fault_of_lines faults fault_of_line total_of fault_at_end
cut_from_22 = refl

cut_from_24 : faults_of_cuts 24 10 ≡ all_at 10 4 Fields
unfolding first_fault first_fault_of_lines faults fault_of_line total_of fault_at_end
cut_from_24 = refl

cut_from_34 : faults_of_cuts 34 2 ≡ all_at 2 5 Missing
unfolding first_fault first_fault_of_lines faults fault_of_line total_of fault_at_end
cut_from_34 = refl

cut_from_36 : faults_of_cuts 36 10 ≡ all_at 10 5 Fields
unfolding first_fault first_fault_of_lines faults fault_of_line total_of fault_at_end
cut_from_36 = refl

cut_from_46 : faults_of_cuts 46 2 ≡ all_at 2 6 Missing
unfolding first_fault first_fault_of_lines faults fault_of_line total_of fault_at_end
cut_from_46 = refl

cut_from_48 : faults_of_cuts 48 10 ≡ all_at 10 6 Fields
unfolding first_fault first_fault_of_lines faults fault_of_line total_of fault_at_end
cut_from_48 = refl

cut_from_58 : faults_of_cuts 58 2 ≡ all_at 2 7 Missing
unfolding first_fault first_fault_of_lines faults fault_of_line total_of fault_at_end
cut_from_58 = refl

cut_from_60 : faults_of_cuts 60 10 ≡ all_at 10 7 Fields
unfolding first_fault first_fault_of_lines faults fault_of_line total_of fault_at_end
cut_from_60 = refl

cut_from_70 : faults_of_cuts 70 2 ≡ all_at 2 8 Missing
unfolding first_fault first_fault_of_lines faults fault_of_line total_of fault_at_end
cut_from_70 = refl

cut_from_72 : faults_of_cuts 72 10 ≡ all_at 10 8 Fields
unfolding first_fault first_fault_of_lines faults fault_of_line total_of fault_at_end
cut_from_72 = refl

-- without its last line end, and whole, it has no fault
uncut : faults_of_cuts 82 2 ≡ replicate 2 None
unfolding first_fault first_fault_of_lines faults fault_of_line total_of fault_at_end
uncut = refl

stands_for : reading limits text ≡ Ok (record {
  problem = Min;
  arcs = record { src = 1; dst = 2; low = pos 0; cap = pos 4; cost = pos 2 }
      ∷ record { src = 1; dst = 3; low = pos 0; cap = pos 2; cost = pos 2 }
      ∷ record { src = 2; dst = 3; low = pos 0; cap = pos 2; cost = pos 1 }
      ∷ record { src = 2; dst = 4; low = pos 0; cap = pos 3; cost = pos 3 }
      ∷ record { src = 3; dst = 4; low = pos 0; cap = pos 5; cost = pos 1 } ∷ [];
  supplies = pos 4 ∷ pos 0 ∷ pos 0 ∷ negsuc 3 ∷ [];
})
unfolding first_fault first_fault_of_lines faults fault_of_line total_of fault_at_end instance_of_lines reading
stands_for = refl
