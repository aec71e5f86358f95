use Rattle.std.proofs.Common.{◌∙◌, sym, ap}
use Rattle.mcf_roster.specs.RosterFaults.{roster_fault}
use Rattle.mcf_roster.proofs.ProperRosters.{sound_roster}
use Rattle.mcf_roster.proofs.rosters.Roster.of.Goals as goal

pub invariant_of-result : goal.invariant_of-result
invariant_of-result c =
    let same = ap (λ t. roster_fault t c.deref-2.result.now c.deref-3.result.now) c.deref.ensures.value
    ∙ ap (λ n. roster_fault c.args.takes.items n c.deref-3.result.now) c.deref-2.ensures.value
    ∙ ap (roster_fault c.args.takes.items c.args.needs.items) c.deref-3.ensures.value in
    sound_roster c.args.takes.items c.args.needs.items c.args.pairs.items (sym (c.roster_fault.ensures ∙ same) ∙ c.in-None.is)

pub returns-in-None-clause-sound : goal.returns-in-None-clause-sound
returns-in-None-clause-sound c =
    let same = ap (λ t. roster_fault t c.deref-2.result.now c.deref-3.result.now) c.deref.ensures.value
    ∙ ap (λ n. roster_fault c.args.takes.items n c.deref-3.result.now) c.deref-2.ensures.value
    ∙ ap (roster_fault c.args.takes.items c.args.needs.items) c.deref-3.ensures.value in
    sound_roster c.args.takes.items c.args.needs.items c.args.pairs.items (sym (c.roster_fault.ensures ∙ same) ∙ c.in-None.is)
