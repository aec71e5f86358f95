-- What the numbers of a call choose.
-- Source: own
use Rattle.std.specs.Prelude.{ℕ, ◌==◌, nat_le, Bool, true, false, Option, Some, None, if◌then◌else◌}
use Rattle.mcf_c.specs.declared.choosing.McfChoice.{McfChoice}
use Rattle.mcf_choice.specs.BlockSizes.{block_limit, standard_block}
use Rattle.mcf_choice.specs.declared.choice.Choice.{Choice}
use Rattle.mcf_choice.specs.declared.choice.EngineChoice.{EngineChoice}
use Rattle.mcf_choice.specs.declared.choice.EngineChoice.TheVariants.{Auto, Cancel, Simplex, Scaling, Sap, Fast}
use Rattle.mcf_choice.specs.declared.choice.Form.{Form}
use Rattle.mcf_choice.specs.declared.choice.Form.TheVariants.{One, Two}
use Rattle.mcf_choice.specs.declared.choice.PricingChoice.{PricingChoice}
use Rattle.mcf_choice.specs.declared.choice.PricingChoice.TheVariants.{First, Best, Block, Wide}

-- the engine with a number
abbrev pub engine_of : ℕ → Option EngineChoice
engine_of n =
    if n == 0 then Some Auto else (if n == 1 then Some Cancel else (if n == 2 then Some Simplex else (if n == 3 then Some Scaling else (if n == 4 then Some Sap else (if n == 5 then Some Fast else None)))))

-- the pricing rule with a number
abbrev pub pricing_of : ℕ → Option PricingChoice
pricing_of n = if n == 0 then Some Block else (if n == 1 then Some First else (if n == 2 then Some Best else (if n == 3 then Some Wide else None)))

-- the size of blocks that a number means, the standard one for 0
abbrev pub block_of : ℕ → Option ℕ
block_of n = if n == 0 then Some standard_block else (if nat_le n block_limit then Some n else None)

-- the form with a number
abbrev pub form_of : ℕ → Option Form
form_of n = if n == 0 then Some One else (if n == 1 then Some One else (if n == 2 then Some Two else None))

-- the choice of four parts, if each is there
abbrev pub choice_from : Option EngineChoice → Option PricingChoice → Option ℕ → Option Form → Option Choice
choice_from (Some engine) (Some pricing) (Some block) (Some form) = Some (record { engine = engine; pricing = pricing; block = block; form = form })
choice_from None pricing block form = None
choice_from (Some engine) None block form = None
choice_from (Some engine) (Some pricing) None form = None
choice_from (Some engine) (Some pricing) (Some block) None = None

-- the choice that the numbers mean, if they mean one
abbrev pub choice_of : McfChoice → Option Choice
choice_of c = choice_from (engine_of c.engine) (pricing_of c.pricing) (block_of c.block) (form_of c.form)

-- whether an engine is one that mends the answer to a similar problem where there is one
abbrev pub is_mender : EngineChoice → Bool
is_mender Auto = true
is_mender Cancel = false
is_mender Simplex = false
is_mender Scaling = false
is_mender Sap = false
is_mender Fast = true
