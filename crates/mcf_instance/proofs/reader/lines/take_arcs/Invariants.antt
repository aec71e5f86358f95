use Rattle.std.proofs.Common.{◌-◌, length}
use Rattle.mcf_instance.proofs.TakenArcs.{HasTaken}
use Rattle.mcf_instance.proofs.reader.lines.take_arcs.Given as goal

-- the lines so far are good arc lines, and the state has read them
abbrev pub invariant-arcs : goal.invariant-arcs
invariant-arcs l = HasTaken l.initial.state l.text l.state l.lines l.bytes

abbrev pub decreases-arcs : goal.decreases-arcs
decreases-arcs l = length l.text - l.bytes
