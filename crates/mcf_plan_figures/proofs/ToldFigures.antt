-- What is told of routes and places, as loops tell it.
use Rattle.std.proofs.Common.{◌≡◌, ℕ, zero, suc, ◌+◌, ◌-◌, ◌<◌, ◌≤◌, Bool, true, false, List, [], ◌∷◌, ◌++◌, length, map, get_or, take, refl, ap, sym, ◌∙◌, subst, arith, ℤ, pos}
use Rattle.std.specs.Prelude.{◌&&◌, ◌↔◌, IsTrue, Option, Some, None, option_map, slice_index_or}
use Rattle.std.specs.List.{range_with_len}
use Rattle.std.specs.Option.{option_to_list}
use Rattle.std.proofs.lemmas.Int.{ints}
use Rattle.mcf_flows.proofs.IntLaws.{at_most}
use Rattle.mcf_flows.specs.Network.{at_node}
use Rattle.mcf_flows.specs.WellFormed.{IsUpTo}
use Rattle.mcf_model.specs.Model.{Route}
use Rattle.mcf_model.specs.Tables.{IsRouteNumber, no_route}
use Rattle.mcf_figures.specs.Figures.{IsExact, amount_at, figure_limit}
use Rattle.mcf_figures.specs.Groups.{HaveFigures}
use Rattle.mcf_figures.specs.Rows.{row_told}
use Rattle.mcf_figures.specs.Told.{AreSmall, are_small, is_up_to}
use Rattle.mcf_places.specs.declared.answering.ShownModel.{ShownModel}
use Rattle.mcf_places.specs.declared.places.Bounds.{Bounds}
use Rattle.mcf_places.specs.declared.places.Place.{Place}
use Rattle.mcf_places.specs.Models.{plain_route, routes_by, through_route, with_first}
use Rattle.mcf_places.specs.Planners.{Planner}
use Rattle.mcf_plan_figures.specs.PlannerFigures.{through_number}
use Rattle.mcf_plan_figures.specs.Told.{has_figures, way_told}

-- ---- numbers within the limit

both : (a b : Bool) → (a && b) ≡ true → (a ≡ true) × (b ≡ true)
both true true e = (refl, refl)
both true false e = cc e
both false b e = cc e

up_to : (limit : ℕ) (z : ℤ) → is_up_to limit z ≡ true → IsUpTo limit z
up_to limit z e =
    let b = both _ _ e in
    (at_most _ _ b.0, at_most _ _ b.1)

small_at : (numbers : List ℤ) (i : ℕ) → are_small numbers ≡ true → IsUpTo figure_limit (slice_index_or numbers i (pos 0))
small_at [] i e = (omega (arith, ints), omega (arith, ints))
small_at (z ∷ numbers) zero e = up_to figure_limit z (both (is_up_to figure_limit z) (are_small numbers) e).0
small_at (z ∷ numbers) (suc i) e = small_at numbers i (both (is_up_to figure_limit z) (are_small numbers) e).1

-- the numbers of a route
pub small_way : (s : ShownModel) (prices carries : List ℤ) (k t h : ℕ) → prices ≡ s.prices.items → carries ≡ s.carries.items → has_figures s ≡ true
    → AreSmall (amount_at carries k) (at_node prices t) (at_node prices h)
small_way s prices carries k t h e f told =
    let b = both (are_small s.prices.items) (are_small s.carries.items) told in
    let p : are_small prices ≡ true = ap are_small e ∙ b.0 in
    let q : are_small carries ≡ true = ap are_small f ∙ b.1 in
    record { amount = small_at carries (k - 1) q; at_tail = small_at prices (t - 1) p; at_head = small_at prices (h - 1) p }

-- all routes have figures
pub have_figures : (s : ShownModel) (prices carries : List ℤ) → prices ≡ s.prices.items → carries ≡ s.carries.items → has_figures s ≡ true
    → HaveFigures s.model prices carries
have_figures s prices carries e f told place h =
    let back : suc place - 1 ≡ place = omega arith in
    let r = get_or s.model.routes place no_route in
    let small = small_way s prices carries (suc place) r.tail r.head e f told in
    record {
      is_route = h;
      small = record { amount = subst (λ i. IsUpTo figure_limit (slice_index_or carries i (pos 0))) back small.amount; at_tail = small.at_tail; at_head = small.at_head };
    }

-- what is exact, by the numbers of the model that is shown
pub exact_in : (s : ShownModel) (prices carries : List ℤ) (groups : List ℕ) → prices ≡ s.prices.items → carries ≡ s.carries.items
    → ((number : ℕ) → IsRouteNumber s.model number → (IsTrue (row_told s.model prices carries groups number).exact ↔ IsExact prices s.model carries number))
    → (number : ℕ) → IsRouteNumber s.model number → (IsTrue (way_told s groups number).exact ↔ IsExact s.prices.items s.model s.carries.items number)
exact_in s prices carries groups e f exact number h =
    subst (λ c. IsTrue (row_told s.model s.prices.items c groups number).exact ↔ IsExact s.prices.items s.model c number) f
    (subst (λ p. IsTrue (row_told s.model p carries groups number).exact ↔ IsExact p s.model carries number) e (exact number h))

-- ---- lists by number, from 1

range_more : {X : Type 0} (f : ℕ → X) (first n : ℕ) → map f (range_with_len first (suc n)) ≡ map f (range_with_len first n) ++ f (first + n) ∷ []
range_more f first zero = (let same : first ≡ first + 0 = omega arith in ap (λ (k : ℕ). f k ∷ []) same)
range_more f first (suc n) =
    let same : first + 1 + n ≡ first + suc n = omega arith in
    ap (λ ys. f first ∷ ys) (range_more f (first + 1) n ∙ ap (λ (k : ℕ). map f (range_with_len (first + 1) n) ++ f k ∷ []) same)

pub made_more : {X : Type 0} (f : ℕ → X) (made after : List X) (n : ℕ) (x : X) → made ≡ map f (range_with_len 1 n) → x ≡ f (n + 1)
    → after ≡ made ++ x ∷ [] → after ≡ map f (range_with_len 1 (n + 1))
made_more f made after n x e g pushed =
    let last : n + 1 ≡ 1 + n = omega arith in
    let more : n + 1 ≡ suc n = omega arith in
    pushed ∙ ap (λ ys. ys ++ x ∷ []) e ∙ ap (λ y. map f (range_with_len 1 n) ++ y ∷ []) (g ∙ ap f last)
    ∙ sym (ap (λ k. map f (range_with_len 1 k)) more ∙ range_more f 1 n)

-- ---- the numbers of routes for what passes through places

abbrev no_place : Place
no_place = record { supply = pos 0; through = None; penalty = None }

pub first_length : (o : Option Bounds) (make : Bounds → Route) (rs : List Route) → length (with_first (option_map make o) rs) ≡ length (option_to_list o) + length rs
first_length (Some b) make rs = omega arith
first_length None make rs = omega arith

pub no_more : (o : Option Bounds) → length (option_to_list o) ≤ 1
no_more (Some b) = omega arith
no_more None = omega arith

counted : (places : List Place) (v : ℕ) (ps : List Place) (i : ℕ) → i < length ps
    → length (routes_by (through_route places) v (take (suc i) ps)) ≡ length (routes_by (through_route places) v (take i ps)) + length (option_to_list (get_or ps i no_place).through)
counted places v [] i h = absurd (omega (arith, h))
counted places v (p ∷ ps) zero h =
    omega (arith, first_length p.through (λ (b : Bounds). plain_route v (length places + 2 + v) b.least b.most b.cost) [])
counted places v (p ∷ ps) (suc i) h =
    let make : Bounds → Route = λ (b : Bounds). plain_route v (length places + 2 + v) b.least b.most b.cost in
    omega (
      arith,
      first_length p.through make (routes_by (through_route places) (suc v) (take (suc i) ps)),
      first_length p.through make (routes_by (through_route places) (suc v) (take i ps)),
      counted places (suc v) ps i (omega (arith, h)),
    )

pub first_number : (P : Planner) (number : ℕ) → number ≡ length P.routes + 1 → number ≡ through_number P (0 + 1)
first_number P number e = omega (arith, e)

pub next_number : (P : Planner) (place number next : ℕ) → place < length P.places → number ≡ through_number P (place + 1)
    → next ≡ number + length (option_to_list (get_or P.places place no_place).through) → next ≡ through_number P (place + 1 + 1)
next_number P place number next h e f =
    let here : place + 1 - 1 ≡ place = omega arith in
    let there : place + 1 + 1 - 1 ≡ suc place = omega arith in
    let a = ap (λ i. length (routes_by (through_route P.places) 1 (take i P.places))) here in
    let b = ap (λ i. length (routes_by (through_route P.places) 1 (take i P.places))) there in
    omega (arith, e, f, a, b, counted P.places 1 P.places place h)
