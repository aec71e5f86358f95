use Rattle.std.proofs.Common.{rules}
use Rattle.std.proofs.lemmas.Int.{to_z-of_z}
use mir.Syntax.{w64}
use mir.Val.{SFits}
use Rattle.mcf_instance.proofs.SoundStates.{sound_supply}
use Rattle.mcf_instance.proofs.reader.state.ReaderState.take.Goals as goal

pub invariant_of-self : goal.invariant_of-self
invariant_of-self c =
    let fits = rw (← c.self.view_is, c.in-Supply.is) at c.requires in
    let f : SFits w64 c.in-Supply.supply = search rules in
    simp to_z-of_z (sound_supply _ _ _ _ _ _ _ c.self.invariant fits)
