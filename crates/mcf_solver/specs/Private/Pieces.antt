-- What a source's bytes are to a reader that is fed them, and what a fault on the way says.
use Rattle.std.specs.Prelude.{◌≡◌, ◌≢◌, ◌≤◌, ℕ, List, Option, IfSome, length}
use Rattle.mcf_flows.specs.Limits.{limits}
use Rattle.mcf_instance.specs.Feeding.{ReaderData, StandsFor}
use Rattle.mcf_solver.specs.Devices.{CountsOneFailure}
use Rattle.mcf_solver.specs.Running.{IsTooLong, text_limit}
use Rattle.mcf_solver.specs.declared.fault.RunFault.{RunFault}
use Rattle.mcf_solver.specs.declared.fault.RunFault.TheVariants.{Read, Write, TooLong}

-- the reader stands for all that was given, which is no more than is taken
pub record HasTakenAll (reader : ReaderData) (given : Option (List ℕ)) : Type 0 where
  pub text : List ℕ
  pub stands : StandsFor limits reader text
  pub in_range : length text ≤ text_limit
  pub is_given : IfSome given (λ bytes. bytes ≡ text)

-- a fault before all was read: where the source failed, it counted that; a sink has no part in it
pub record IsReadFault (given : Option (List ℕ)) (before now : ℕ) (fault : RunFault) : Type 0 where
  pub read_failed : fault ≡ Read → CountsOneFailure before now
  pub unfailed : fault ≢ Read → now ≡ before
  pub too_long : fault ≡ TooLong → IsTooLong given
  pub no_write : fault ≢ Write
