-- Sums that are cut to one more than a limit, one more term at a time.
use Rattle.std.proofs.Common.{◌≡◌, ℕ, suc, ◌+◌, ◌<◌, List, [], ◌∷◌, length, map, drop, get_or, refl, ap, sym, ◌∙◌, arith, ℤ, pos, ◌+ℤ◌, ◌≤ℤ◌}
use Rattle.std.proofs.lemmas.Int.{clamps, ints}
use Rattle.std.proofs.lemmas.List.{at_drop_more}
use Rattle.mcf_model.specs.declared.rows.RouteRow.{RouteRow}
use Rattle.mcf_model.specs.declared.rows.Step.{Step}
use Rattle.mcf_model.specs.Bottlenecks.{route_sum}
use Rattle.mcf_model.specs.Model.{size}
use Rattle.mcf_model.specs.Tables.{route_of}
use Rattle.mcf_places.specs.declared.places.Place.{Place}
use Rattle.mcf_places.specs.Planners.{place_sum}
use Rattle.mcf_places.specs.Throughput.{IsCut, cut, place_span, steps_span, ways_span}
use Rattle.mcf_places.proofs.Throughputs.{places_low, routes_low, steps_low}

-- a term that is added before the cut
pub cut_more : (sum x y : ℤ) → pos 0 ≤ℤ y → cut (cut (sum +ℤ x) +ℤ y) ≡ cut (sum +ℤ (x +ℤ y))
cut_more sum x y h = omega (arith, ints, clamps, h)

pub cut_next : (sum x rest whole next : ℤ) → pos 0 ≤ℤ rest → next ≡ cut (sum +ℤ x) → cut (sum +ℤ (x +ℤ rest)) ≡ whole → cut (next +ℤ rest) ≡ whole
cut_next sum x rest whole next h e before = ap (λ z. cut (z +ℤ rest)) e ∙ cut_more sum x rest h ∙ before

pub cut_done : (sum : ℕ) (whole : ℤ) → IsCut sum → cut (pos sum +ℤ pos 0) ≡ whole → pos sum ≡ whole
cut_done sum whole h e = let same : cut (pos sum +ℤ pos 0) ≡ pos sum = omega (arith, ints, clamps, h) in sym same ∙ e

-- ---- lists

pub step_next : (steps : List Step) (i : ℕ) (d : Step) (sum whole next : ℤ) → i < length steps → next ≡ cut (sum +ℤ size (get_or steps i d).most)
    → cut (sum +ℤ steps_span (drop i steps)) ≡ whole → cut (next +ℤ steps_span (drop (i + 1) steps)) ≡ whole
step_next steps i d sum whole next h e before =
    cut_next sum (size (get_or steps i d).most) (steps_span (drop (i + 1) steps)) whole next (steps_low (drop (i + 1) steps)) e
    (ap (λ z. cut (sum +ℤ z)) (sym (at_drop_more steps_span steps i d h)) ∙ before)

pub route_next_sum : (steps : List Step) (rows : List RouteRow) (i : ℕ) (d : RouteRow) (sum whole next : ℤ) → i < length rows
    → next ≡ cut (sum +ℤ ways_span (route_of steps (get_or rows i d)))
    → cut (sum +ℤ route_sum ways_span (map (route_of steps) (drop i rows))) ≡ whole
    → cut (next +ℤ route_sum ways_span (map (route_of steps) (drop (i + 1) rows))) ≡ whole
route_next_sum steps rows i d sum whole next h e before =
    cut_next sum (ways_span (route_of steps (get_or rows i d))) (route_sum ways_span (map (route_of steps) (drop (i + 1) rows))) whole next
    (routes_low (map (route_of steps) (drop (i + 1) rows))) e
    (ap (λ z. cut (sum +ℤ z)) (sym (at_drop_more (λ rs. route_sum ways_span (map (route_of steps) rs)) rows i d h)) ∙ before)

-- the first number of places is nothing to a sum without numbers
any_start : (t : Place → ℤ) (v w : ℕ) (ps : List Place) → place_sum (λ j p. t p) v ps ≡ place_sum (λ j p. t p) w ps
any_start t v w [] = refl
any_start t v w (p ∷ ps) = ap (λ z. t p +ℤ z) (any_start t (suc v) (suc w) ps)

pub place_next_sum : (ps : List Place) (i : ℕ) (d : Place) (sum whole next : ℤ) → i < length ps → next ≡ cut (sum +ℤ place_span (get_or ps i d))
    → cut (sum +ℤ place_sum (λ v p. place_span p) 1 (drop i ps)) ≡ whole → cut (next +ℤ place_sum (λ v p. place_span p) 1 (drop (i + 1) ps)) ≡ whole
place_next_sum ps i d sum whole next h e before =
    let split = at_drop_more (λ qs. place_sum (λ v p. place_span p) 1 qs) ps i d h
    ∙ ap (λ z. place_span (get_or ps i d) +ℤ z) (any_start place_span 2 1 (drop (i + 1) ps)) in
    cut_next sum (place_span (get_or ps i d)) (place_sum (λ v p. place_span p) 1 (drop (i + 1) ps)) whole next (places_low 1 (drop (i + 1) ps)) e
    (ap (λ z. cut (sum +ℤ z)) (sym split) ∙ before)
