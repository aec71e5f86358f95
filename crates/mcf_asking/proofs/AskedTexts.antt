-- What the definitions say of worked words.
use Rattle.std.proofs.Common.{◌≡◌, refl, codes, ℕ, List, [], ◌∷◌, true, Option, Some, None}
use Rattle.std.specs.Prelude.{option_map}
use Rattle.clap.specs.Words.{Text, fault_of, first_of, subcommand_of, takes}
use Rattle.clap.specs.declared.error.kind.ErrorKind.TheVariants.{DisplayHelp, InvalidValue, MissingSubcommand, UnknownArgument, ValueValidation}
use Rattle.clap.proofs.OnLiterals.{clap_on_literals}
use Rattle.mcf_choice.specs.declared.choice.EngineChoice.{EngineChoice}
use Rattle.mcf_choice.specs.declared.choice.EngineChoice.TheVariants.{Auto, Cancel, Scaling, Fast, Sap}
use Rattle.mcf_choice.specs.declared.choice.PricingChoice.{PricingChoice}
use Rattle.mcf_choice.specs.declared.choice.PricingChoice.TheVariants.{Best, Block}
use Rattle.mcf_choice.specs.declared.choice.Form.{Form}
use Rattle.mcf_choice.specs.declared.choice.Form.TheVariants.{One, Two}
use Rattle.mcf_asking.specs.Asking.{block_by, engine_by, form_by, pricing_by}
use Rattle.mcf_asking.proofs.AskedLemmas.{some_app}

-- the name of the subcommand, the engine and the file
asked_by : List Text → Option (Text × EngineChoice × Option Text)
unfolding some_app
asked_by words = option_map (λ p. (p.0, engine_by (first_of (codes "engine") p.1), first_of (codes "file") p.1))
    (subcommand_of some_app words)

-- the pricing rule and the size of its blocks
rule_asked_by : List Text → Option (PricingChoice × ℕ)
unfolding some_app
rule_asked_by words = option_map (λ p. (pricing_by (first_of (codes "pricing") p.1), block_by (first_of (codes "block") p.1)))
    (subcommand_of some_app words)

-- the form of the answer
form_asked_by : List Text → Option Form
unfolding some_app
form_asked_by words = option_map (λ p. form_by (first_of (codes "form") p.1)) (subcommand_of some_app words)

with_neither : asked_by (codes "mcf" ∷ codes "solve" ∷ []) ≡ Some (codes "solve", Auto, None)
unfolding clap_on_literals asked_by some_app
with_neither = refl

with_both : asked_by (codes "mcf" ∷ codes "solve" ∷ codes "--engine" ∷ codes "cancel" ∷ codes "a.min" ∷ [])
    ≡ Some (codes "solve", Cancel, Some (codes "a.min"))
unfolding clap_on_literals asked_by some_app
with_both = refl

with_equals : asked_by (codes "mcf" ∷ codes "solve" ∷ codes "-" ∷ codes "--engine=auto" ∷ [])
    ≡ Some (codes "solve", Auto, Some (codes "-"))
unfolding clap_on_literals asked_by some_app
with_equals = refl

with_scaling : asked_by (codes "mcf" ∷ codes "solve" ∷ codes "--engine=scaling" ∷ []) ≡ Some (codes "solve", Scaling, None)
unfolding clap_on_literals asked_by some_app
with_scaling = refl

with_fast : asked_by (codes "mcf" ∷ codes "solve" ∷ codes "--engine=fast" ∷ []) ≡ Some (codes "solve", Fast, None)
unfolding clap_on_literals asked_by some_app
with_fast = refl

with_sap : asked_by (codes "mcf" ∷ codes "solve" ∷ codes "--engine=sap" ∷ []) ≡ Some (codes "solve", Sap, None)
unfolding clap_on_literals asked_by some_app
with_sap = refl

without_rule : rule_asked_by (codes "mcf" ∷ codes "solve" ∷ codes "--engine=simplex" ∷ []) ≡ Some (Block, 256)
unfolding clap_on_literals rule_asked_by some_app
without_rule = refl

with_rule : rule_asked_by (codes "mcf" ∷ codes "solve" ∷ codes "--block" ∷ codes "1000000" ∷ codes "--pricing=best" ∷ []) ≡ Some (Best, 1000000)
unfolding clap_on_literals rule_asked_by some_app
with_rule = refl

without_form : form_asked_by (codes "mcf" ∷ codes "solve" ∷ codes "a.min" ∷ []) ≡ Some One
unfolding clap_on_literals form_asked_by some_app
without_form = refl

with_form : form_asked_by (codes "mcf" ∷ codes "solve" ∷ codes "--form" ∷ codes "2" ∷ codes "a.min" ∷ []) ≡ Some Two
unfolding clap_on_literals form_asked_by some_app
with_form = refl

with_named_form : form_asked_by (codes "mcf" ∷ codes "solve" ∷ codes "--form=sparse" ∷ []) ≡ Some Two
unfolding clap_on_literals form_asked_by some_app
with_named_form = refl

no_form : fault_of some_app (codes "mcf" ∷ codes "solve" ∷ codes "--form=3" ∷ []) ≡ InvalidValue ∷ []
unfolding clap_on_literals some_app
no_form = refl

taken : takes some_app (codes "mcf" ∷ codes "solve" ∷ codes "--engine" ∷ codes "cancel" ∷ codes "a.min" ∷ []) ≡ true
unfolding clap_on_literals some_app
taken = refl

two_files : fault_of some_app (codes "mcf" ∷ codes "solve" ∷ codes "a" ∷ codes "b" ∷ []) ≡ UnknownArgument ∷ []
unfolding clap_on_literals some_app
two_files = refl

no_engine : fault_of some_app (codes "mcf" ∷ codes "solve" ∷ codes "--engine" ∷ codes "none" ∷ []) ≡ InvalidValue ∷ []
unfolding clap_on_literals some_app
no_engine = refl

no_subcommand : fault_of some_app (codes "mcf" ∷ []) ≡ MissingSubcommand ∷ []
unfolding clap_on_literals some_app
no_subcommand = refl

help : fault_of some_app (codes "mcf" ∷ codes "solve" ∷ codes "--help" ∷ []) ≡ DisplayHelp ∷ []
unfolding clap_on_literals some_app
help = refl

no_block : fault_of some_app (codes "mcf" ∷ codes "solve" ∷ codes "--block" ∷ codes "0" ∷ []) ≡ ValueValidation ∷ []
unfolding clap_on_literals some_app
no_block = refl

too_large_a_block : fault_of some_app (codes "mcf" ∷ codes "solve" ∷ codes "--block=1000001" ∷ []) ≡ ValueValidation ∷ []
unfolding clap_on_literals some_app
too_large_a_block = refl
