use Rattle.std.proofs.Common.{◌≡◌, None, length}
use Rattle.mcf_flows.specs.Limits.{limits}
use Rattle.mcf_instance.specs.ReadOn.{HasRead}
use Rattle.mcf_text.specs.Lines.{numbered_lines}
use Rattle.mcf_instance.proofs.reader.read.Given as goal

-- the state stands for the lines so far, none of which has a fault
abbrev pub invariant-lines : goal.invariant-lines
invariant-lines l = record {
  good : l.state.refusal ≡ None;
  read : HasRead limits l.text l.state l.next (numbered_lines l.next l.rest);
}

abbrev pub decreases-lines : goal.decreases-lines
decreases-lines l = length l.rest
