use Rattle.std.proofs.Common.{◌≡◌, ◌∙◌, ap, replicate, rules}
use mir.Syntax.{w64}
use mir.Val.{to_z}
use Rattle.mcf_instance.specs.Private.ReaderState.{default_supply}
use Rattle.mcf_instance.proofs.SoundStates.{sound_header}
use Rattle.mcf_instance.proofs.reader.state.ReaderState.start.Goals as goal
use Rattle.mcf_instance.proofs.reader.state.ReaderState.start.Goals.{in-Min, in-Asn}

pub invariant_of-self : goal.invariant_of-self
invariant_of-self c =
    let fits = rw (← c.self.view_is) at c.requires in
    let supply : to_z w64 c.match-header.supply-bits ≡ default_supply c.args.header.problem =
    elim c.match-header.branch [ in-Min w ↦ search rules | in-Asn w ↦ search rules ] in
    let listed = c.in_ok-listed.ensures.value in
    let supplies = c.in_ok-supplies.ensures.value ∙ ap (replicate c.args.header.nodes) supply in
    rw (listed, supplies) (sound_header _ _ _ _ _ _ c.self.invariant fits)
