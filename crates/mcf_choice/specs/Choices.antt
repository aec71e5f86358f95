-- What is chosen.
use Rattle.mcf_choice.specs.BlockSizes.{standard_block}
use Rattle.mcf_choice.specs.declared.choice.Choice.{Choice}
use Rattle.mcf_choice.specs.declared.choice.EngineChoice.TheVariants.{Auto}
use Rattle.mcf_choice.specs.declared.choice.Form.TheVariants.{One}
use Rattle.mcf_choice.specs.declared.choice.PricingChoice.TheVariants.{Block}

-- what is chosen where nothing is named
abbrev pub standard_choice : Choice
standard_choice = record { engine = Auto; pricing = Block; block = standard_block; form = One }
