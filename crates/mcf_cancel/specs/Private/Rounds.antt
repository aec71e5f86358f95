-- A round of a search for prices: each node that waits relaxes the residual arcs that enter it.
use Rattle.std.specs.Prelude.{◌≡◌, ℕ, ◌<◌, ◌+◌, ◌*◌, length, ◌≤ℤ◌, ◌<ℤ◌, ◌⊎◌}
use Rattle.std.specs.List.{Contains}
use Rattle.mcf_flows.specs.Network.{node_count}
use Rattle.mcf_network.specs.declared.rid.Rid.{Rid}
use Rattle.mcf_network.specs.Residual.{head}
use Rattle.mcf_network.specs.States.{Pseudoflow}
use Rattle.mcf_network.specs.Walks.{HasRoom}
use Rattle.mcf_cancel.specs.Private.Labels.{Labels, IsLabelling, total}
use Rattle.mcf_engine.specs.Respecting.{AreAtLeast, Respects, cost_limit}
use Rattle.mcf_cancel.specs.Private.Queues.{Waiting, IsQueue, no_queue}

-- a residual arc is respected, or its head waits
abbrev pub IsHandled : Labels → Waiting → Rid → Type 0
IsHandled l q r = Respects l.flow l.prices r ⊎ Contains q.nodes (head l.flow.net r)

-- prices fell, at most by so much, and where one fell its node waits
pub record IsProgress (old new : Labels) (before after : Waiting) (depth : ℕ) : Type 0 where
  pub valid : IsLabelling new
  pub queue : IsQueue after
  pub flow : new.flow ≡ old.flow
  pub table : length after.table ≡ length before.table
  pub waits : (v : ℕ) → Contains before.nodes v → Contains after.nodes v
  pub keeps : (r : Rid) → HasRoom old.flow r → Respects old.flow old.prices r → IsHandled new after r
  pub floor : (f : ℕ) → AreAtLeast f old.prices → AreAtLeast (f + depth) new.prices
  pub not_above : total new.prices ≤ℤ total old.prices
  pub falls : length before.nodes < length after.nodes → total new.prices <ℤ total old.prices

-- what is known before a round: labels of the state, and a queue of those that wait for the round,
-- and one of nobody
pub record IsReady (s : Pseudoflow) (l : Labels) (waiting fallen : Waiting) : Type 0 where
  pub flow : l.flow ≡ s
  pub labelling : IsLabelling l
  pub floor : AreAtLeast (cost_limit * node_count s.net) l.prices
  pub valid : IsQueue waiting
  pub table : length waiting.table ≡ node_count s.net
  pub empty : fallen ≡ no_queue (node_count s.net)
  pub queue : IsQueue fallen
  pub handled : (r : Rid) → HasRoom l.flow r → IsHandled l waiting r
