use Rattle.std.proofs.Common.{◌+◌, ◌∙◌, ap, arith, drop, sym}
use Rattle.std.proofs.lemmas.List.{take_rest}
use Rattle.std.proofs.lemmas.Result.{err_from_is_err_and}
use Rattle.mcf_text.specs.Lines.{numbered_lines}
use Rattle.mcf_instance.proofs.TakenArcs.{arcs_after, next_line, read_end, read_few, wants_after}
use Rattle.mcf_instance.proofs.WholeTexts.{read_all, read_nothing, read_refused}
use Rattle.mcf_instance.proofs.reader.read.Goals as goal

pub lines-init : goal.lines-init
lines-init c = record {
  good = ap (λ s. s.refusal) c.new-state.ensures;
  read = rw c.new-state.ensures (read_nothing c.args.text.now);
}

pub read_line-requires : goal.read_line-requires
read_line-requires c = let few = read_few _ _ _ _ c.lines.invariant.read in (few.0, omega arith)

pub returns-in_err-read_line-clause-wants : goal.returns-in_err-read_line-clause-wants
returns-in_err-read_line-clause-wants c =
    let p = err_from_is_err_and c.from_residual.result c.from_residual.ensures.1 in
    let line = next_line c.args.text.now c.lines.state c.lines.next c.lines.rest.now c.in-Some.parts.0.now c.in-Some.parts.1.now c.in-Some.ensures.value c.lines.invariant.read in
    rw p.1 (c.in_err-read_line.ensures.wants c.args.text.now c.lines.next (numbered_lines (c.lines.next + 1) c.in-Some.parts.1.now) line)

pub returns-in-Some-refusal-clause-exact : goal.returns-in-Some-refusal-clause-exact
returns-in-Some-refusal-clause-exact c =
    let line = next_line c.args.text.now c.lines.state c.lines.next c.lines.rest.now c.in-Some.parts.0.now c.in-Some.parts.1.now c.in-Some.ensures.value c.lines.invariant.read in
    let read = c.in_ok-read_line.ensures.read c.args.text.now c.lines.next (numbered_lines (c.lines.next + 1) c.in-Some.parts.1.now) line in
    sym (read_refused _ _ _ _ c.in-Some-refusal.refusal read (sym c.in-Some-refusal.ensures))

pub returns-in_err-run-clause-wants : goal.returns-in_err-run-clause-wants
returns-in_err-run-clause-wants c =
    let p = err_from_is_err_and c.from_residual-in_err-run.result c.from_residual-in_err-run.ensures.1 in
    let line = next_line c.args.text.now c.lines.state c.lines.next c.lines.rest.now c.in-Some.parts.0.now c.in-Some.parts.1.now c.in-Some.ensures.value c.lines.invariant.read in
    rw p.1 (wants_after c.args.text.now c.read_line.new.state c.lines.next c.in-Some.parts.1.now c.in_err-run.ensures.wants (c.in_ok-read_line.ensures.read c.args.text.now c.lines.next (numbered_lines (c.lines.next + 1) c.in-Some.parts.1.now) line))

pub overflow_add-next-in-Some : goal.overflow_add-next-in-Some
overflow_add-next-in-Some c =
    let few = read_few _ _ _ _ c.lines.invariant.read in
    let begins = c.in_ok-run.ensures.lines in
    omega (arith, few.1, begins.few, begins.inside)

pub lines-preserved : goal.lines-preserved
lines-preserved c =
    let line = next_line c.args.text.now c.lines.state c.lines.next c.lines.rest.now c.in-Some.parts.0.now c.in-Some.parts.1.now c.in-Some.ensures.value c.lines.invariant.read in
    let read = c.in_ok-read_line.ensures.read c.args.text.now c.lines.next (numbered_lines (c.lines.next + 1) c.in-Some.parts.1.now) line in
    let run = c.in_ok-run.run' in
    record {
      good = c.in_ok-run.ensures.good;
      read = rw (take_rest c.in-Some.parts.1.now run.bytes)
          (arcs_after c.args.text.now c.read_line.new.state c.take_arcs.new.state c.lines.next run.lines c.in-Some.parts.1.now
          (drop run.bytes c.in-Some.parts.1.now) c.in_ok-run.ensures.read read);
    }

pub finish-requires : goal.finish-requires
finish-requires c = let few = read_few _ _ _ _ c.lines.invariant.read in (few.0, omega arith)

pub returns-clause-exact : goal.returns-clause-exact
returns-clause-exact c = c.finish.ensures ∙ read_all _ _ _ (read_end c.args.text.now c.lines.state c.lines.next c.lines.rest.now c.in_default.ensures.value c.lines.invariant.read)
