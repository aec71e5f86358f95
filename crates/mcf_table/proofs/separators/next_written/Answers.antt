use Rattle.std.proofs.Common.{◌∙◌, ◌+◌, [], take, length-drop, sym, arith}
use Rattle.std.proofs.lemmas.List.{take_rest}
use Rattle.mcf_table.specs.Separators.{ends_line}
use Rattle.mcf_table.proofs.CutLemmas.{position_nowhere}
use Rattle.mcf_table.proofs.SeparatorLemmas.{blank_next, line_met, split_last, written_last, written_next}
use Rattle.mcf_table.proofs.separators.next_written.Goals as goal

pub returns-then-is_written-clause-some : goal.returns-then-is_written-clause-some
returns-then-is_written-clause-some c =
    let rest = c.lines.rest.now in
    let met = line_met rest c.in-Some.end (sym c.line_end.ensures ∙ c.in-Some.is) in
    simp take_rest (c.lines.invariant.same
    ∙ written_next rest (take c.in-Some.end rest) _ met.1 (sym c.is_written.ensures ∙ c.if-is_written.true))

pub overflow_add-rest : goal.overflow_add-rest
overflow_add-rest c =
    let met = line_met c.lines.rest.now c.in-Some.end (sym c.line_end.ensures ∙ c.in-Some.is) in
    omega (arith, met.0, c.lines.invariant.inside)

pub lines-preserved : goal.lines-preserved
lines-preserved c =
    let rest = c.lines.rest.now in
    let met = line_met rest c.in-Some.end (sym c.line_end.ensures ∙ c.in-Some.is) in
    record {
      same = simp take_rest (c.lines.invariant.same
          ∙ blank_next rest (take c.in-Some.end rest) _ met.1 (sym c.is_written.ensures ∙ c.if-is_written.false));
      inside = simp take_rest (omega (arith, c.lines.invariant.inside, length-drop (c.in-Some.end + 1) rest));
    }

pub returns-then-is_written-2-clause-some : goal.returns-then-is_written-2-clause-some
returns-then-is_written-2-clause-some c =
    let rest = c.lines.rest.now in
    let last = split_last ends_line rest (position_nowhere ends_line rest (sym c.line_end.ensures ∙ c.in_default.is)) in
    c.lines.invariant.same ∙ written_last rest last (sym c.is_written-2.ensures ∙ c.if-is_written-2.true)

pub returns-else-is_written-2-clause-none : goal.returns-else-is_written-2-clause-none
returns-else-is_written-2-clause-none c =
    let rest = c.lines.rest.now in
    let last = split_last ends_line rest (position_nowhere ends_line rest (sym c.line_end.ensures ∙ c.in_default.is)) in
    c.lines.invariant.same ∙ blank_next rest rest [] last (sym c.is_written-2.ensures ∙ c.if-is_written-2.false)
