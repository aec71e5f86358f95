use Rattle.std.proofs.Common.{◌∙◌, ap, arith, sym}
use Rattle.std.specs.Prelude.{is_some}
use Rattle.std.proofs.lemmas.Result.{err_from_is_err_and}
use Rattle.mcf_instance.proofs.Pieces.{line_read, line_wants, none_unless_some, on_read}
use Rattle.mcf_instance.proofs.reader.pieces.read_finished.Goals as goal

pub pop_arcs-requires : goal.pop_arcs-requires
pop_arcs-requires c = none_unless_some c.finished.state.refusal (ap is_some (sym c.refusal.ensures) ∙ c.finished-test.ensures)

pub returns-in_err-pop_arcs-clause-wants : goal.returns-in_err-pop_arcs-clause-wants
returns-in_err-pop_arcs-clause-wants c =
    let p = err_from_is_err_and c.from_residual.result c.from_residual.ensures.1 in
    let good = none_unless_some c.finished.state.refusal (ap is_some (sym c.refusal.ensures) ∙ c.finished-test.ensures) in
    rw p.1 (λ text h. c.in_err-pop_arcs.ensures.wants text ((c.finished.invariant.read text h).lines_read good))

pub returns-in_default-clause-read : goal.returns-in_default-clause-read
returns-in_default-clause-read c = λ text h.
    let none = rw c.in_default.is at c.pop.follows.holds-at-none in
    let good = none_unless_some c.finished.state.refusal (ap is_some (sym c.refusal.ensures) ∙ c.finished-test.ensures) in
    rw none.1 (on_read text c.pop_arcs.new.lines c.pop_arcs.new.state (c.in_ok-pop_arcs.ensures.read text ((c.finished.invariant.read text h).lines_read good)))

pub returns-in_err-read_line-clause-wants : goal.returns-in_err-read_line-clause-wants
returns-in_err-read_line-clause-wants c =
    let takes = rw c.in-Some.is at c.pop.follows.holds-at-none in
    let p = err_from_is_err_and c.from_residual-in_err-read_line.result c.from_residual-in_err-read_line.ensures.1 in
    let good = none_unless_some c.finished.state.refusal (ap is_some (sym c.refusal.ensures) ∙ c.finished-test.ensures) in
    rw p.1 (λ text h.
    line_wants text c.pop_arcs.new.lines c.pop_arcs.new.state c.in-Some.line.number c.in-Some.line.bytes.now c.pop.follows.lender-at-none.rest
    takes.number takes.finishes c.in_err-read_line.ensures.wants (c.in_ok-pop_arcs.ensures.read text ((c.finished.invariant.read text h).lines_read good)))

pub finished-preserved : goal.finished-preserved
finished-preserved c =
    let takes = rw c.in-Some.is at c.pop.follows.holds-at-none in
    let arcs = c.in_ok-pop_arcs.ensures in
    let good = none_unless_some c.finished.state.refusal (ap is_some (sym c.refusal.ensures) ∙ c.finished-test.ensures) in
    record {
      read = λ text h.
          on_read text c.pop.follows.lender-at-none c.read_line.new.state
          (line_read text c.pop_arcs.new.lines c.pop.follows.lender-at-none c.pop_arcs.new.state c.read_line.new.state c.in-Some.line.number c.in-Some.line.bytes.now
          takes.number takes.finishes (ap (λ f. f.popped) takes.after) (ap (λ f. f.has_ended) takes.after) c.in_ok-read_line.ensures.read
          (arcs.read text ((c.finished.invariant.read text h).lines_read good)));
      shorter = omega (arith, takes.shorter, arcs.shorter, c.finished.invariant.shorter);
      same_end = ap (λ f. f.has_ended) takes.after ∙ arcs.same_end ∙ c.finished.invariant.same_end;
      same_count = ap (λ f. f.fed) takes.after ∙ arcs.same_count ∙ c.finished.invariant.same_count;
    }
