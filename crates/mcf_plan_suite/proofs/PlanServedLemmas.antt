-- What a run of the command leaves.
use Rattle.std.proofs.Common.{◌≡◌, ◌≢◌, ◌∙◌, inl, inr, subst, sym, ap, ℕ, List, IfOk, OnOk, Option, Result, Ok, Err, Bor}
use Rattle.std.specs.Fn.{Mut}
use Rattle.std.specs.Io.KnownBytes.{Appends}
use Rattle.clap.specs.Words.{App, HasKind, IsAmong, Kinds, Text, fault_of, kind_of}
use Rattle.clap.specs.declared.error.Error.{Error}
use Rattle.clap.specs.declared.error.kind.ErrorKind.{ErrorKind}
use Rattle.clap.specs.declared.error.kind.ErrorKind.TheVariants.{DisplayHelp, DisplayVersion, OutOfMemory}
use Rattle.mcf_plan_asking.specs.PlanAsking.{IsMcfplan}
use Rattle.mcf_plan_suite.specs.PlanServing.{IsShownPlan, ServesPlan}

-- a kind that an error has, where it isn't lack of memory
kind_among : (kind : ErrorKind) (kinds : Kinds) (e : Error) → kind ≢ OutOfMemory → kind_of e ≡ kind → HasKind kinds e → IsAmong kind kinds
kind_among kind kinds e other is (inl memory) = absurd (other (sym is ∙ memory))
kind_among kind kinds e other is (inr among) = subst (λ k. IsAmong k kinds) is among

-- words that ask for help or for the version
pub help_is_served : {F V X E : Type 0} (calls : Mut F (Bor (List ℕ) × Unit {0}) (Result V X)) (bytes : V → List ℕ) (read after : F) (words : List Text)
    (app : App) (e : Error) (r : Result ℕ E) (old new : Option (List ℕ)) → IsMcfplan app → HasKind (fault_of app words) e
    → IfOk r (λ status. status ≡ 0) → OnOk r (IsShownPlan (kind_of e) old new)
    → IfOk r (λ status. ServesPlan calls bytes read after words status old new)
help_is_served calls bytes read after words app e (Ok status) old new is_mcfplan has is_zero (inl help) = inr (inl (
  record { app = app; is_mcfplan = is_mcfplan; among = kind_among DisplayHelp (fault_of app words) e (λ bad. cc) help.0 has },
  is_zero,
  help.1,
))
help_is_served calls bytes read after words app e (Ok status) old new is_mcfplan has is_zero (inr version) = inr (inr (
  record { app = app; is_mcfplan = is_mcfplan; among = kind_among DisplayVersion (fault_of app words) e (λ bad. cc) version.0 has },
  is_zero,
  version.1,
))
help_is_served calls bytes read after words app e (Err f) old new is_mcfplan has is_zero shown = tt
