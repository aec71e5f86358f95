use Rattle.std.proofs.Common.{◌∙◌, ℕ, drop, sym, ap}
use Rattle.std.proofs.lemmas.List.{take_rest}
use Rattle.mcf_table.specs.Blanks.{front_trimmed}
use Rattle.mcf_table.proofs.BlankLemmas.{front_step, front_stop}
use Rattle.mcf_table.proofs.blanks.front_trimmed.Goals as goal

pub blanks-preserved : goal.blanks-preserved
blanks-preserved c =
    let rest = c.blanks.rest.now in
    record {
      same = simp take_rest
          (c.blanks.invariant.same ∙ front_step rest ∙ ap (λ (n : ℕ). front_trimmed (drop n rest)) (sym c.blanks.invariant.next));
      next = c.front_blank-len-in-blanks.ensures.value;
      inside = c.front_blank-len-in-blanks.ensures.inside;
    }

pub returns : goal.returns
returns c = sym (c.blanks.invariant.same ∙ front_stop c.blanks.rest.now (sym c.blanks.invariant.next ∙ c.blanks-test.false))
