-- The chosen block of a net.
use Rattle.std.proofs.Common.{◌≡◌, ℕ, Bool, true, List, length, refl, arith, pos, ◌<ℤ◌}
use Rattle.std.proofs.lemmas.Int.{ints}
use Rattle.mcf_flows.specs.declared.problem.Side.TheVariants.{Send, Take}
use Rattle.mcf_flows.specs.Blocking.{in_table}
use Rattle.mcf_flows.specs.Network.{Network, IsNode, node_count}
use Rattle.mcf_network.specs.Nets.{IsNet}
use Rattle.mcf_network.specs.States.{Pseudoflow, IsPseudoflow}
use Rattle.mcf_network.specs.Stuck.{IsStuck}
use Rattle.mcf_network.specs.Chosen.{IsChosenBlock, supply_total}
use Rattle.mcf_network.proofs.StuckLaws.{stuck_sets_block_lem}
use Rattle.mcf_network.proofs.Wholes.{whole_sends, whole_takes}

module _ (g : Network) (table : List Bool) (ok : IsNet g) (n : length table ≡ node_count g)
    (all : (v : ℕ) → IsNode (node_count g) v → in_table table v ≡ true) where
  pub chosen_take : supply_total g <ℤ pos 0 → IsChosenBlock g table Take
  chosen_take h =
      record {
        one_per_node = n;
        blocks = whole_takes g (in_table table) ok all h;
        chosen = record { take = (λ e. h, λ l. refl); whole = λ ne. all };
      }

  pub chosen_send : pos 0 <ℤ supply_total g → IsChosenBlock g table Send
  chosen_send h =
      record {
        one_per_node = n;
        blocks = whole_sends g (in_table table) ok all h;
        chosen = record { take = (λ e. cc, λ l. absurd (omega (arith, ints, l, h))); whole = λ ne. all };
      }

pub chosen_stuck : (s : Pseudoflow) (table : List Bool) → IsPseudoflow s → length table ≡ node_count s.net → IsStuck s (in_table table)
    → supply_total s.net ≡ pos 0 → IsChosenBlock s.net table Send
chosen_stuck s table ok n stuck balanced =
    record {
      one_per_node = n;
      blocks = stuck_sets_block_lem s (in_table table) ok stuck;
      chosen = record { take = (λ e. cc, λ l. absurd (omega (arith, ints, l, balanced))); whole = λ ne. absurd (ne balanced) };
    }
