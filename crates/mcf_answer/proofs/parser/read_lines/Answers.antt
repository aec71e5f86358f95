use Rattle.std.proofs.Common.{◌≡◌, ◌∙◌, ap, cond, sym, subst, ℕ, List, Some, None}
use Rattle.mcf_answer.specs.Private.Draft.{after}
use Rattle.mcf_answer.specs.Token.{tokens_of}
use Rattle.mcf_answer.specs.declared.draft.Draft.{Draft}
use Rattle.mcf_text.specs.Fields.{fields_of}
use Rattle.mcf_answer.proofs.Wants.{IsReadOn, on_err, read_line, read_past, read_wanting}
use Rattle.mcf_answer.proofs.parser.read_lines.Goals as goal
use Rattle.mcf_answer.proofs.parser.read_lines.Goals.{else-is_kept-via-then-is_kept+in_ok-take+else-not-branch, else-is_kept-via-else-is_kept}

pub returns-in_err-take-clause-wants : goal.returns-in_err-take-clause-wants
returns-in_err-take-clause-wants c =
    let at = subst (λ (lines : List (ℕ × List ℕ)). IsReadOn c.args.text.now c.loop-line.draft lines) c.in-Some.ensures.steps c.loop-line.invariant in
    on_err c.from_residual.result _ (read_wanting _ _ _ _ at (sym c.is_kept.ensures ∙ c.if-is_kept.true) c.in_err-take.ensures.wants c.in_err-take.ensures.fits)

pub loop-line-preserved : goal.loop-line-preserved
loop-line-preserved c =
    let at = subst (λ (lines : List (ℕ × List ℕ)). IsReadOn c.args.text.now c.loop-line.draft lines) c.in-Some.ensures.steps c.loop-line.invariant in
    elim c.else-is_kept.branch [
      | else-is_kept-via-then-is_kept+in_ok-take+else-not-branch w ↦ (
          let fits : after c.loop-line.draft (tokens_of (fields_of c.in-Some.line.bytes.now)) ≡ Some w.take.new.self =
          sym w.in_ok-take.ensures.value ∙ ap (λ fit. cond fit (Some w.take.new.self) None) w.if-not-branch.false in
          subst (λ (d : Draft). IsReadOn c.args.text.now d c.next.new.self) (sym w.draft-is)
          (read_line _ _ _ _ w.take.new.self at (sym c.is_kept.ensures ∙ w.if-is_kept.true) fits))
      | else-is_kept-via-else-is_kept w ↦
          subst (λ (d : Draft). IsReadOn c.args.text.now d c.next.new.self) (sym w.draft-is)
          (read_past _ _ _ _ at (sym c.is_kept.ensures ∙ w.if-is_kept.false))
    ]
