use Rattle.std.proofs.Common.{◌≡◌, ◌∙◌, false, sym, true}
use Rattle.std.proofs.lemmas.Result.{err_from_is_err_and}
use Rattle.mcf_text.specs.Fields.{is_kept}
use Rattle.mcf_instance.proofs.NamedNodes.{text_names_nodes}
use Rattle.mcf_instance.proofs.WholeTexts.{read_kept, read_unkept}
use Rattle.mcf_instance.proofs.reader.lines.read_line.Goals as goal

pub returns-then-not-is_kept-clause-read : goal.returns-then-not-is_kept-clause-read
returns-then-not-is_kept-clause-read c = λ text next rest h.
    let unkept : is_kept c.args.line.now ≡ false = sym c.is_kept.ensures ∙ c.if-not-is_kept.true in
    read_unkept text c.args.state.now next (c.args.number, c.args.line.now) rest h unkept

pub returns-in_err-step-clause-wants : goal.returns-in_err-step-clause-wants
returns-in_err-step-clause-wants c =
    let kept : is_kept c.args.line.now ≡ true = sym c.is_kept.ensures ∙ c.if-not-is_kept.false in
    let p = err_from_is_err_and c.from_residual.result c.from_residual.ensures.1 in
    rw p.1 (λ text next rest h. text_names_nodes text c.args.state.now next (c.args.number, c.args.line.now) rest h c.in_err-step.ensures.wants kept)

pub returns-clause-read : goal.returns-clause-read
returns-clause-read c = λ text next rest h.
    let kept : is_kept c.args.line.now ≡ true = sym c.is_kept.ensures ∙ c.if-not-is_kept.false in
    read_kept text c.args.state.now c.step.new.self next (c.args.number, c.args.line.now) rest h kept c.in_ok-step.ensures.stands
