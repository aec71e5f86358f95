use Rattle.std.proofs.Common.{◌∙◌, ℕ, sym}
use Rattle.std.specs.Prelude.{not}
use Rattle.std.specs.Char.{is_ascii_digit}
use Rattle.mcf_decimal.specs.Groups.{lead}
use Rattle.mcf_decimal.proofs.CutLemmas.{at_place, nowhere_len}
use Rattle.mcf_decimal.proofs.groups.lead.Goals as goal

pub returns-in-Some-clause-value : goal.returns-in-Some-clause-value
unfolding lead
returns-in-Some-clause-value c =
    let at = at_place (λ (b : ℕ). not (is_ascii_digit b)) c.args.bytes.now c.in-Some.place (sym c.first_other.ensures ∙ c.in-Some.is) in
    sym at.0

pub returns-in-None-clause-value : goal.returns-in-None-clause-value
unfolding lead
returns-in-None-clause-value c =
    sym (nowhere_len (λ (b : ℕ). not (is_ascii_digit b)) c.args.bytes.now (sym c.first_other.ensures ∙ c.in-None.is))
