use Rattle.mcf_instance.proofs.SoundStates.{well_formed}
use Rattle.mcf_instance.proofs.reader.state.ReaderState.into_instance.Goals as goal

pub of-requires : goal.of-requires
of-requires c =
    let problem = rw (← c.self.view_is) at c.problem-problem.ensures in
    rw problem (well_formed _ _ _ _ _ c.self.invariant)

pub returns-clause-sound : goal.returns-clause-sound
returns-clause-sound c =
    let problem = rw (← c.self.view_is) at c.problem-problem.ensures in
    rw (c.of.ensures, problem) (well_formed _ _ _ _ _ c.self.invariant)
