-- The model of a roster without faults has no fault.
use Rattle.std.proofs.Common.{◌≡◌, ℕ, ◌+◌, ◌≤◌, true, List, [], ◌∷◌, ◌++◌, length, map, refl, ap, sym, ◌∙◌, subst, arith, ℤ, pos, inl}
use Rattle.std.specs.Prelude.{Option, Some, None, Result, Ok, Err, is_ok, replicate}
use Rattle.std.specs.List.{All, range_with_len}
use Rattle.std.proofs.lemmas.List.{map-append}
use Rattle.std.proofs.lemmas.List.Elements.{All-append, All-map}
use Rattle.mcf_flows.specs.Network.{IsNode}
use Rattle.mcf_model.specs.declared.faults.ModelFault.{ModelFault}
use Rattle.mcf_model.specs.declared.rows.RouteRow.{RouteRow}
use Rattle.mcf_model.specs.declared.rows.Step.{Step}
use Rattle.mcf_model.specs.Faults.{AreListed, model_unless}
use Rattle.mcf_model.specs.Laws.{IsProper, StepsTake}
use Rattle.mcf_model.specs.Model.{IsLimited, IsSound as IsSoundModel, IsSoundRoute, Model, Route}
use Rattle.mcf_model.specs.Tables.{model_of as tables_of, route_of}
use Rattle.mcf_model.proofs.FaultTests.{all_of}
use Rattle.mcf_roster.specs.declared.pairs.Pair.{Pair}
use Rattle.mcf_roster.specs.declared.pairs.Range.{Range}
use Rattle.mcf_roster.specs.Models.{hub_of, model_of, one_or_none, pair_route, person_route, plain_route, thing_route}
use Rattle.mcf_roster.specs.RosterFaults.{HasBothEnds, IsSoundRoster}
use Rattle.mcf_roster.specs.Rosters.{Roster, range_at}
use Rattle.mcf_roster.specs.TableRows.{pair_row, person_row, rows_of, thing_row}
use Rattle.mcf_roster.proofs.Balances.{place_of}
use Rattle.mcf_roster.proofs.RangeSums.{all_range}

module _ (R : Roster) (sound : IsSoundRoster R) where
  -- a fact of all routes, from those of each kind
  pub all_routes : (Q : Route → Type 0) → ((p : Pair) → HasBothEnds (length R.takes) (length R.needs) p → Q (pair_route (length R.takes) p))
      → ((v : ℕ) → IsNode (length R.takes) v → Q (person_route R v)) → ((v : ℕ) → IsNode (length R.needs) v → Q (thing_route R v))
      → All Q (model_of R).routes
  all_routes Q pair person thing =
      let H = HasBothEnds (length R.takes) (length R.needs) in
      let n = length R.takes in
      All-append Q (map (pair_route n) R.pairs)
      (map (person_route R) (range_with_len 1 n) ++ map (thing_route R) (range_with_len 1 (length R.needs)))
      (All-map Q (pair_route n) R.pairs (all_of H (λ p. Q (pair_route n p)) R.pairs pair sound.pairs))
      (All-append Q (map (person_route R) (range_with_len 1 n)) (map (thing_route R) (range_with_len 1 (length R.needs)))
      (all_range Q (person_route R) n person) (all_range Q (thing_route R) (length R.needs) thing))

  plain_sound : (tail head : ℕ) (r : Range) (cost : ℤ) → IsNode (hub_of R) tail → IsNode (hub_of R) head
      → IsSoundRoute (length (model_of R).supplies) (plain_route tail head r cost)
  plain_sound tail head r cost a b =
      record { tail_is_place = place_of R tail a; head_is_place = place_of R head b; rises = tt; adds = tt; may_be_both = tt }

  pub sound_model : IsSoundModel (model_of R)
  sound_model =
      all_routes (IsSoundRoute (length (model_of R).supplies))
      (λ p h. plain_sound p.who (length R.takes + p.what) one_or_none p.cost (h.person.0, omega (arith, h.person)) (omega (arith, h.thing), omega (arith, h.thing)))
      (λ v k. plain_sound (hub_of R) v (range_at R.takes v) (pos 0) (omega arith, omega arith) (k.0, omega (arith, k)))
      (λ v k. plain_sound (length R.takes + v) (hub_of R) (range_at R.needs v) (pos 0) (omega (arith, k), omega (arith, k)) (omega arith, omega arith))

  pub proper_model : IsProper (model_of R)
  proper_model =
      record {
        sound = sound_model;
        bounded = inl (all_routes (λ r. IsLimited r.last_most) (λ p h. tt) (λ v k. tt) (λ v k. tt));
        steps_take = all_routes StepsTake (λ p h i d l. absurd (omega arith)) (λ v k i d l. absurd (omega arith)) (λ v k i d l. absurd (omega arith));
      }

-- ---- the model that is made of rows

pub map_map : {X Y Z : Type 0} (f : Y → Z) (g : X → Y) (h : X → Z) → ((x : X) → f (g x) ≡ h x) → (xs : List X) → map f (map g xs) ≡ map h xs
map_map f g h e [] = refl
map_map f g h e (x ∷ xs) = ap (λ y. y ∷ map f (map g xs)) (e x) ∙ ap (λ ys. h x ∷ ys) (map_map f g h e xs)

rows_are : (R : Roster) → map (route_of []) (rows_of R) ≡ (model_of R).routes
rows_are R =
    let n = length R.takes in
    let m = length R.needs in
    let first = map (pair_row n) R.pairs in
    let persons = map (person_row (hub_of R) R.takes) (range_with_len 1 n) in
    let things = map (thing_row n (hub_of R) R.needs) (range_with_len 1 m) in
    map-append (route_of []) first (persons ++ things)
    ∙ ap (λ rs. map (route_of []) first ++ rs) (map-append (route_of []) persons things)
    ∙ ap (λ rs. rs ++ (map (route_of []) persons ++ map (route_of []) things)) (map_map (route_of []) (pair_row n) (pair_route n) (λ p. refl) R.pairs)
    ∙ ap (λ rs. map (pair_route n) R.pairs ++ (rs ++ map (route_of []) things))
    (map_map (route_of []) (person_row (hub_of R) R.takes) (person_route R) (λ v. refl) (range_with_len 1 n))
    ∙ ap (λ rs. map (pair_route n) R.pairs ++ (map (person_route R) (range_with_len 1 n) ++ rs))
    (map_map (route_of []) (thing_row n (hub_of R) R.needs) (thing_route R) (λ v. refl) (range_with_len 1 m))

none_listed : (R : Roster) → AreListed [] (rows_of R)
none_listed R =
    let n = length R.takes in
    let m = length R.needs in
    let Q : RouteRow → Type 0 = λ row. row.first_step + row.step_count ≤ 0 in
    All-append Q (map (pair_row n) R.pairs)
    (map (person_row (hub_of R) R.takes) (range_with_len 1 n) ++ map (thing_row n (hub_of R) R.needs) (range_with_len 1 m))
    (All-map Q (pair_row n) R.pairs (λ i d l. omega arith))
    (All-append Q (map (person_row (hub_of R) R.takes) (range_with_len 1 n)) (map (thing_row n (hub_of R) R.needs) (range_with_len 1 m))
    (all_range Q (person_row (hub_of R) R.takes) n (λ v k. omega arith)) (all_range Q (thing_row n (hub_of R) R.needs) m (λ v k. omega arith)))

module _ (R : Roster) (supplies : List ℤ) (steps : List Step) (rows : List RouteRow) (supplies_are : supplies ≡ replicate (hub_of R) (pos 0))
    (steps_are : steps ≡ []) (rows_is : rows ≡ rows_of R) where
  pub same_model : tables_of supplies steps rows ≡ model_of R
  same_model =
      ap (λ (s : List ℤ). record { supplies = s; routes = map (route_of steps) rows }) supplies_are
      ∙ ap (λ (r : List Route). record { supplies = replicate (hub_of R) (pos 0); routes = r })
      (ap (λ s. map (route_of s) rows) steps_are ∙ ap (map (route_of [])) rows_is ∙ rows_are R)

  pub makes_model : IsSoundRoster R → IsProper (tables_of supplies steps rows) × AreListed steps rows
  makes_model sound = (
    subst IsProper (sym same_model) (proper_model R sound),
    subst (λ s. AreListed s rows) (sym steps_are) (subst (AreListed []) (sym rows_is) (none_listed R)),
  )

pub no_error : {X E : Type 0} (r : Result X E) (fault : E) → r ≡ Err fault → is_ok r ≡ true → ⊥
no_error r fault e h = cc (sym (ap is_ok e) ∙ h)

pub made_model : (o : Option ModelFault) (m x : Model) → model_unless o m ≡ Ok x → x ≡ m
made_model (Some fault) m x e = cc e
made_model None m x e = cc e
