use Rattle.std.proofs.Common.{◌≡◌, take, true}
use Rattle.std.specs.List.{list_all}
use Rattle.mcf_figures.specs.Figures.{figure_limit}
use Rattle.mcf_figures.specs.Told.{is_up_to}
use Rattle.mcf_figures.proofs.rows.are_small.Given as goal

abbrev pub invariant-loop-place : goal.invariant-loop-place
invariant-loop-place l = list_all (is_up_to figure_limit) (take l.place l.numbers) ≡ true
