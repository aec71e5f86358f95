-- The figures of a route, from numbers as the code reads them.
use Rattle.std.proofs.Common.{◌≡◌, ℕ, ◌<◌, Bool, List, length, ap, sym, ◌∙◌, subst, ℤ, ◌-ℤ◌, pos, ◌≤ℤ◌}
use Rattle.std.specs.Prelude.{Option, Some, None, IfSome, slice_index_or}
use Rattle.std.specs.List.{All}
use Rattle.std.proofs.lemmas.List.Elements.{All-get_or}
use Rattle.mcf_flows.specs.Network.{at_node}
use Rattle.mcf_model.specs.declared.rows.RouteRow.{RouteRow}
use Rattle.mcf_model.specs.declared.rows.Step.{Step}
use Rattle.mcf_model.specs.Laws.{IsProper, StepsTake}
use Rattle.mcf_model.specs.Model.{IsSoundRoute, Model, Route, charged}
use Rattle.mcf_model.specs.Prices.{price_drop}
use Rattle.mcf_model.specs.Tables.{no_route, route_at, route_with}
use Rattle.mcf_figures.specs.declared.figures.RouteFigures.{RouteFigures}
use Rattle.mcf_figures.specs.declared.rows.RowFigures.{RowFigures}
use Rattle.mcf_figures.specs.Figures.{amount_at, dearer, free, saving, saving_if}
use Rattle.mcf_figures.specs.Groups.{is_exact_between}
use Rattle.mcf_figures.specs.Private.Units.{AreNumbers, dearer_by, is_loose}
use Rattle.mcf_figures.specs.Rows.{row_told}
use Rattle.mcf_figures.specs.Told.{AreRouteFigures, cost_told}
use Rattle.mcf_figures.proofs.LooseRoutes.{loose_iff}
use Rattle.mcf_figures.proofs.NextUnits.{dearer_is}

pub numbers : (r : Route) (x x' d d' : ℤ) (left more : Option ℤ) (saved saved' : ℤ) (loose : Bool) → x' ≡ x → d' ≡ d → saved' ≡ saved → left ≡ free r x'
    → saved ≡ saving_if r.last_most (charged r.both d' -ℤ r.last_cost) → loose ≡ is_loose r d' x' → more ≡ dearer_by r d' x'
    → AreNumbers r x d (record { free = left; saves = saved'; loose = loose; dearer = more })
numbers r x x' d d' left more saved saved' loose e f g h k l o =
    record {
      free_is = h ∙ ap (free r) e;
      saves_is = g ∙ k ∙ ap (λ z. saving_if r.last_most (charged r.both z -ℤ r.last_cost)) f;
      loose_is = l ∙ ap (λ z. is_loose r z x') f ∙ ap (is_loose r d) e;
      dearer_is = o ∙ ap (λ z. dearer_by r z x') f ∙ ap (dearer_by r d) e;
    }

pub same_numbers : (r : Route) (x x' d d' drop : ℤ) (f : RouteFigures) → x' ≡ x → d' ≡ d → d ≡ drop → AreNumbers r x' d' f → AreNumbers r x drop f
same_numbers r x x' d d' drop f e g h k =
    subst (λ z. AreNumbers r x z f) (g ∙ h) (subst (λ z. AreNumbers r z d' f) e k)

-- what is told of a route without faults
one_told : (places : ℕ) (prices : List ℤ) (r : Route) (x : ℤ) (f : RouteFigures) → IsSoundRoute places r → AreNumbers r x (price_drop prices r) f
    → AreRouteFigures prices r x f
one_told places prices r x f sound k =
    let iff = loose_iff places prices r x sound in
    record {
      free_is = k.free_is;
      saves_is = k.saves_is;
      loose_is = (λ e. iff.0 (sym k.loose_is ∙ e), λ loose. k.loose_is ∙ iff.1 loose);
      dearer_is = k.dearer_is ∙ dearer_is prices r x;
    }

abbrev row_with : Option ℤ → Option ℤ → ℤ → Bool → Option ℤ → RowFigures
row_with cost free saves exact dearer = record { cost = cost; free = free; saves = saves; exact = exact; dearer = dearer }

-- what is told of route k
pub row_is : (m : Model) (prices plan : List ℤ) (groups : List ℕ) (k : ℕ) (r : Route) (x d : ℤ) (f : RouteFigures) (t : RowFigures)
    → r ≡ route_at m k → x ≡ amount_at plan k → d ≡ price_drop prices (route_at m k) → AreNumbers r x d f
    → t.cost ≡ cost_told r x → t.free ≡ f.free → t.saves ≡ f.saves → t.exact ≡ is_exact_between groups r.tail r.head f.saves → t.dearer ≡ f.dearer
    → t ≡ row_told m prices plan groups k
row_is m prices plan groups k r x d f t e at drop n costs leaves saved exact more =
    let there = route_at m k in
    let now : AreNumbers there (amount_at plan k) (price_drop prices there) f =
    subst (λ q. AreNumbers q (amount_at plan k) (price_drop prices there) f) e (subst (λ z. AreNumbers r z (price_drop prices there) f) at (subst (λ z. AreNumbers r x z f) drop n)) in
    let c : t.cost ≡ cost_told there (amount_at plan k) = costs ∙ ap (cost_told r) at ∙ ap (λ (q : Route). cost_told q (amount_at plan k)) e in
    let l : t.free ≡ free there (amount_at plan k) = leaves ∙ now.free_is in
    let s : t.saves ≡ saving prices there = saved ∙ now.saves_is in
    let y : t.exact ≡ is_exact_between groups there.tail there.head (saving prices there) =
    exact ∙ ap (λ (q : Route). is_exact_between groups q.tail q.head f.saves) e ∙ ap (is_exact_between groups there.tail there.head) now.saves_is in
    let w : t.dearer ≡ dearer prices there (amount_at plan k) = more ∙ now.dearer_is ∙ dearer_is prices there (amount_at plan k) in
    let c' = cost_told there (amount_at plan k) in
    let l' = free there (amount_at plan k) in
    let s' = saving prices there in
    let y' = is_exact_between groups there.tail there.head s' in
    ap (λ z. row_with z t.free t.saves t.exact t.dearer) c ∙ ap (λ z. row_with c' z t.saves t.exact t.dearer) l ∙ ap (λ z. row_with c' l' z t.exact t.dearer) s
    ∙ ap (λ z. row_with c' l' s' z t.dearer) y ∙ ap (row_with c' l' s' y') w

pub told : (o : Option RouteFigures) (m : Model) (prices : List ℤ) (place : ℕ) (r : Route) (x y tail head : ℤ) → IsProper m → place < length m.routes
    → r ≡ slice_index_or m.routes place no_route → x ≡ y → tail ≡ at_node prices r.tail → head ≡ at_node prices r.head
    → IfSome o (AreNumbers r x (tail -ℤ head)) → IfSome o (AreRouteFigures prices (slice_index_or m.routes place no_route) y)
told None m prices place r x y tail head proper h e f t u k = tt
told (Some found) m prices place r x y tail head proper h e f t u k =
    let drop : tail -ℤ head ≡ price_drop prices r = ap (λ z. z -ℤ head) t ∙ ap (λ z. at_node prices r.tail -ℤ z) u in
    let sound : IsSoundRoute (length m.supplies) r = subst (IsSoundRoute (length m.supplies)) (sym e) (proper.sound place no_route h) in
    subst (λ z. AreRouteFigures prices (slice_index_or m.routes place no_route) z found) f
    (subst (λ s. AreRouteFigures prices s x found) e
    (one_told (length m.supplies) prices r x found sound (subst (λ d. AreNumbers r x d found) drop k)))

-- no step of a route of a model takes less than 0
pub takes_at : (m : Model) (place : ℕ) (row : RouteRow) (own : List Step) → IsProper m → place < length m.routes
    → route_with row own ≡ slice_index_or m.routes place no_route → All (λ s. pos 0 ≤ℤ s.most) own
takes_at m place row own proper h e = subst StepsTake (sym e) (All-get_or StepsTake m.routes place no_route h proper.steps_take)
