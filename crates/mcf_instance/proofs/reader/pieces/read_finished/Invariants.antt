use Rattle.std.proofs.Common.{◌≡◌, ◌≤◌, ℕ, List, length}
use Rattle.mcf_flows.specs.Limits.{limits}
use Rattle.mcf_instance.specs.ReadOn.{HasReadOn}
use Rattle.mcf_instance.proofs.reader.pieces.read_finished.Given as goal

-- the state stands for the lines so far
abbrev pub invariant-finished : goal.invariant-finished
invariant-finished l = record {
  read : (text : List ℕ) → HasReadOn limits text l.fn.lines l.fn.state → HasReadOn limits text l.lines l.state;
  shorter : length l.lines.rest ≤ length l.fn.lines.rest;
  same_end : l.lines.has_ended ≡ l.fn.lines.has_ended;
  same_count : l.lines.fed ≡ l.fn.lines.fed;
}

abbrev pub decreases-finished : goal.decreases-finished
decreases-finished l = length l.lines.rest
