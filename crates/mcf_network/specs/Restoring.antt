-- The flow of a network for which a state of its net stands.
-- Source: AMO 2.4, loops own
use Rattle.std.specs.Prelude.{Bool, ◌&&◌, List, [], ◌∷◌, ℤ, pos, ◌+ℤ◌, ◌-ℤ◌, ◌*ℤ◌, int_lt, if◌then◌else◌}
use Rattle.mcf_flows.specs.declared.arc.Arc.{Arc}
use Rattle.mcf_flows.specs.Network.{arc_sum, when}
use Rattle.mcf_network.specs.Removal.{is_loop}

-- whether an arc is a loop that earns by what it carries
-- Source: own
abbrev pub is_earning_loop : Arc → Bool
is_earning_loop a = is_loop a && int_lt a.cost (pos 0)

-- what an arc carries where the arc of the net carries x: x more than its low; but a loop of
-- negative cost carries its cap, and every other loop its low, whatever x is
abbrev pub restored_flow : Arc → ℤ → ℤ
restored_flow a x = if is_loop a then (if int_lt a.cost (pos 0) then a.cap else a.low) else a.low +ℤ x

-- the flow for which a state stands
abbrev pub restored : List Arc → List ℤ → List ℤ
restored [] amounts = []
restored (a ∷ arcs) [] = []
restored (a ∷ arcs) (x ∷ amounts) = restored_flow a x ∷ restored arcs amounts

-- what a restored flow costs more than its state: the cost of the lows, and what the loops earn
abbrev pub fixed_cost : List Arc → ℤ
fixed_cost arcs =
    arc_sum (λ a. a.cost *ℤ a.low) arcs +ℤ arc_sum (λ a. when (is_earning_loop a) (a.cost *ℤ (a.cap -ℤ a.low))) arcs
