use Rattle.std.proofs.Common.{◌∙◌, ap, subst, sym}
use Rattle.std.proofs.lemmas.Result.{err_from_is_err_and}
use Rattle.mcf_instance.specs.Feeding.{StandsFor}
use Rattle.mcf_flows.specs.Limits.{limits}
use Rattle.mcf_instance.proofs.Pieces.{on_end, on_finished}
use Rattle.mcf_instance.proofs.reader.pieces.Reader.end.Goals as goal

pub returns-in_err-read_finished-clause-wants : goal.returns-in_err-read_finished-clause-wants
returns-in_err-read_finished-clause-wants c = λ text stands.
    let inside = subst (λ r. StandsFor limits r text) (sym c.self.view_is) stands in
    let p = err_from_is_err_and c.from_residual.result c.from_residual.ensures.1 in
    rw p.1 (c.in_err-read_finished.ensures.wants text
    (on_end text c.self.inside.lines c.end.new.self c.self.inside.state inside.is_open c.end.ensures inside.read_on))

pub returns-clause-exact : goal.returns-clause-exact
returns-clause-exact c = λ text stands.
    let inside = subst (λ r. StandsFor limits r text) (sym c.self.view_is) stands in
    let ended = on_end text c.self.inside.lines c.end.new.self c.self.inside.state inside.is_open c.end.ensures inside.read_on in
    c.finish.ensures
    ∙ rw c.popped.ensures.value (on_finished text c.read_finished.new.lines c.read_finished.new.state
    (λ none. c.in_ok-read_finished.ensures.drained none (c.read_finished.ensures.same_end ∙ ap (λ f. f.has_ended) c.end.ensures))
    (c.in_ok-read_finished.ensures.read text ended))
