use Rattle.mcf_instance.proofs.SoundStates.{sound_link}
use Rattle.mcf_instance.proofs.reader.state.ReaderState.link.Goals as goal

pub invariant_of-self-2 : goal.invariant_of-self-2
invariant_of-self-2 c =
    let fits = rw (← c.self.view_is) at c.requires in
    rw (c.in_ok-push.ensures.ok, c.weight.ensures.value) (sound_link _ _ _ _ _ _ c.self.invariant fits)
