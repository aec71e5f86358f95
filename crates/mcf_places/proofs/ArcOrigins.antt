-- Where the arcs of a model come from.
use Rattle.std.proofs.Common.{◌≡◌, ℕ, zero, suc, refl, ◌+◌, ◌-◌, ◌<◌, ◌≤◌, Bool, true, false, List, [], ◌∷◌, ◌++◌, length, map, drop, get_or, ap, sym, ◌∙◌, arith}
use Rattle.std.specs.Prelude.{Option, replicate}
use Rattle.std.proofs.lemmas.List.{append_assoc, get_or-append_right, get_or-replicate, get_or_append_left, length-replicate}
use Rattle.mcf_places.specs.declared.origins.Origin.{Origin}
use Rattle.mcf_places.specs.declared.origins.Origin.TheVariants.{OfAll, OfRoute}
use Rattle.mcf_places.specs.declared.places.Place.{Place}
use Rattle.mcf_places.specs.Origins.{arc_count, arc_origins, found_in, kind_origin, next_in, one_if, place_origins, route_origins}
use Rattle.mcf_places.specs.declared.origins.Sought.{Sought}
use Rattle.mcf_places.specs.declared.places.Policy.{Policy}
use Rattle.mcf_places.specs.declared.rows.Kind.{Kind}
use Rattle.mcf_places.specs.declared.rows.Kind.TheVariants.{Through, Stay, Missing}
use Rattle.mcf_places.specs.Kinds.{kind_has}
use Rattle.mcf_places.specs.Planners.{Planner}
use Rattle.mcf_model.specs.declared.rows.RouteRow.{RouteRow}
use Rattle.mcf_model.specs.declared.rows.Step.{Step}
use Rattle.mcf_model.specs.Tables.{route_of}
use Rattle.std.proofs.Math.Seq.{drop-cons}
use mir.Val.{bool_byte}

pub next_here : (n left : ℕ) (o : Origin) (others : List Origin) → left < n → get_or (replicate n o ++ others) left OfAll ≡ o
next_here n left o others h =
    get_or_append_left (replicate n o) others OfAll left (omega (arith, h, length-replicate n o)) ∙ get_or-replicate n left o OfAll h

pub next_later : (n left : ℕ) (o : Origin) (others : List Origin) → n ≤ left → get_or (replicate n o ++ others) left OfAll ≡ get_or others (left - n) OfAll
next_later n left o others h = get_or-append_right (replicate n o) others n left OfAll (length-replicate n o) h

-- one more place
pub place_next : (kind : Kind) (policy : Policy) (ps : List Place) (i : ℕ) (d : Place) (others : List Origin) → i < length ps
    → place_origins kind policy (i + 1) (drop i ps) ++ others
    ≡ replicate (one_if (kind_has kind policy (get_or ps i d))) (kind_origin kind (i + 1) (get_or ps i d))
    ++ (place_origins kind policy (i + 1 + 1) (drop (i + 1) ps) ++ others)
place_next kind policy ps i d others h =
    let one : suc i ≡ i + 1 = omega arith in
    let two : suc (i + 1) ≡ i + 1 + 1 = omega arith in
    let first = replicate (one_if (kind_has kind policy (get_or ps i d))) (kind_origin kind (i + 1) (get_or ps i d)) in
    ap (λ qs. place_origins kind policy (i + 1) qs ++ others) (drop-cons ps i d h)
    ∙ append_assoc first (place_origins kind policy (suc (i + 1)) (drop (suc i) ps)) others
    ∙ ap (λ v. first ++ (place_origins kind policy v (drop (suc i) ps) ++ others)) two
    ∙ ap (λ v. first ++ (place_origins kind policy (i + 1 + 1) (drop v ps) ++ others)) one

-- one more route
pub route_next : (steps : List Step) (rows : List RouteRow) (i : ℕ) (d : RouteRow) (others : List Origin) → i < length rows
    → route_origins (i + 1) (map (route_of steps) (drop i rows)) ++ others
    ≡ replicate (arc_count (route_of steps (get_or rows i d))) (OfRoute (i + 1))
    ++ (route_origins (i + 1 + 1) (map (route_of steps) (drop (i + 1) rows)) ++ others)
route_next steps rows i d others h =
    let one : suc i ≡ i + 1 = omega arith in
    let two : suc (i + 1) ≡ i + 1 + 1 = omega arith in
    let n = arc_count (route_of steps (get_or rows i d)) in
    ap (λ qs. route_origins (i + 1) (map (route_of steps) qs) ++ others) (drop-cons rows i d h)
    ∙ append_assoc (replicate n (OfRoute (i + 1))) (route_origins (suc (i + 1)) (map (route_of steps) (drop (suc i) rows))) others
    ∙ ap (λ v. replicate n (OfRoute (i + 1)) ++ (route_origins v (map (route_of steps) (drop (suc i) rows)) ++ others)) two
    ∙ ap (λ v. replicate n (OfRoute (i + 1)) ++ (route_origins (i + 1 + 1) (map (route_of steps) (drop v rows)) ++ others)) one

-- what a step says of the arc that is sought
pub sought_next : (origin : Origin) (others : List Origin) (n left : ℕ) (o p : Option ℕ) → o ≡ p → get_or (replicate n origin ++ others) left OfAll ≡ next_in o origin others
    → next_in p origin others ≡ get_or (replicate n origin ++ others) left OfAll
sought_next origin others n left o p e h = ap (λ q. next_in q origin others) (sym e) ∙ sym h

pub byte_is : (b : Bool) (n : ℕ) → n ≡ bool_byte b → n ≡ one_if b
byte_is true n e = e
byte_is false n e = e

-- beyond the arcs of routes and places there is one that has all that is missing
pub only_all : (k : ℕ) → get_or (OfAll ∷ []) k OfAll ≡ OfAll
only_all zero = refl
only_all (suc k) = refl

pub origin_found : (P Q : Planner) (arc : ℕ) (a b c d : Sought) → Q ≡ P
    → ((others : List Origin) → found_in a others ≡ get_or (route_origins 1 Q.routes ++ others) arc OfAll)
    → ((others : List Origin) → found_in b others ≡ found_in a (place_origins Through Q.policy 1 Q.places ++ others))
    → ((others : List Origin) → found_in c others ≡ found_in b (place_origins Stay Q.policy 1 Q.places ++ others))
    → ((others : List Origin) → found_in d others ≡ found_in c (place_origins Missing Q.policy 1 Q.places ++ others))
    → found_in d (OfAll ∷ []) ≡ get_or (arc_origins P) arc OfAll
origin_found P Q arc a b c d e f g h k =
    let last = place_origins Missing Q.policy 1 Q.places ++ OfAll ∷ [] in
    let later = place_origins Stay Q.policy 1 Q.places ++ last in
    k (OfAll ∷ []) ∙ h last ∙ g later ∙ f (place_origins Through Q.policy 1 Q.places ++ later) ∙ ap (λ R. get_or (arc_origins R) arc OfAll) e
