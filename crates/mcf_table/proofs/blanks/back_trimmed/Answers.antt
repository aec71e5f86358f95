use Rattle.std.proofs.Common.{◌∙◌, ◌-◌, ℕ, length, take, sym, ap}
use Rattle.mcf_table.specs.Blanks.{back_trimmed}
use Rattle.mcf_table.proofs.BlankLemmas.{back_step, back_stop}
use Rattle.mcf_table.proofs.blanks.back_trimmed.Goals as goal

pub blanks-preserved : goal.blanks-preserved
blanks-preserved c =
    let rest = c.blanks.rest.now in
    record {
      same = c.blanks.invariant.same ∙ back_step rest
          ∙ ap (λ (n : ℕ). back_trimmed (take (length rest - n) rest)) (sym c.blanks.invariant.next);
      next = c.back_blank-len-in-blanks.ensures.value;
      inside = c.back_blank-len-in-blanks.ensures.inside;
    }

pub returns : goal.returns
returns c = sym (c.blanks.invariant.same ∙ back_stop c.blanks.rest.now (sym c.blanks.invariant.next ∙ c.blanks-test.false))
