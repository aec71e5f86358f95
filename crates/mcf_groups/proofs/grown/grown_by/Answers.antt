use Rattle.std.proofs.Common.{refl}
use Rattle.mcf_groups.specs.Nests.{nest_in}
use Rattle.mcf_groups.proofs.Made.{all_grown}
use Rattle.mcf_groups.proofs.grown.grown_by.Goals as goal

pub returns : goal.returns
returns c =
    all_grown c.args.roster.now c.args.groups.now c.in_ok-nest.ensures.sound (record { nest = c.grow.new.nest; links = c.grow.new.rows })
    (nest_in c.in_ok-nest.nest) c.new-links.result.items c.grow.new.rows.items c.in_ok-grow.field-0 c.in_ok-nest.ensures.value c.new-links.ensures.items
    c.requires.fine c.in_ok-grow.ensures refl
