-- Plans of models of spans, as the code finds them.
use Rattle.std.specs.Prelude.{List, ◌∷◌, map, ℤ, pos, ◌*ℤ◌, ◌≤ℤ◌}
use Rattle.mcf_model.specs.Model.{IsLeastPlan, IsPlan, Model}
use Rattle.mcf_model.specs.Scaling.{scaled}

-- there is a plan
abbrev pub HasPlan : Model → Type 0
HasPlan m = (plan : List ℤ) × IsPlan m plan

-- a least plan, in finer units too, carries so much on the first route
pub record CarriesFirst (m : Model) (first : ℤ) : Type 0 where
  pub rest : List ℤ
  pub is_plan : IsPlan m (first ∷ rest)
  pub least : (k : ℤ) → pos 1 ≤ℤ k → IsLeastPlan (scaled k m) (map (λ x. k *ℤ x) (first ∷ rest))
