-- The model of a roster with groups has no fault, and its rows say it.
use Rattle.std.proofs.Common.{◌≡◌, ℕ, suc, ◌+◌, ◌-◌, ◌≤◌, Bool, true, false, List, [], ◌∷◌, ◌++◌, length, map, get_or, refl, ap, sym, ◌∙◌, subst, arith, append_assoc, ℤ, pos, inl}
use Rattle.std.specs.Prelude.{None, replicate}
use Rattle.std.specs.List.{All, range_with_len}
use Rattle.std.proofs.lemmas.List.{get_or-replicate, length-replicate, map-append}
use Rattle.std.proofs.lemmas.List.Elements.{All-append, All-map, All-nil}
use Rattle.mcf_flows.specs.Network.{IsNode, at_node}
use Rattle.mcf_model.specs.declared.rows.RouteRow.{RouteRow}
use Rattle.mcf_model.specs.declared.rows.Step.{Step}
use Rattle.mcf_model.specs.Faults.{AreListed}
use Rattle.mcf_model.specs.Laws.{IsProper, StepsTake}
use Rattle.mcf_model.specs.Model.{Adds, IsLimited, MayBeBoth, Rises, Route}
use Rattle.mcf_model.specs.Tables.{model_of as tables_of, route_of}
use Rattle.mcf_roster.specs.declared.pairs.Range.{Range}
use Rattle.mcf_roster.specs.Models.{hub_of, one_or_none, person_route, thing_route}
use Rattle.mcf_roster.specs.RosterFaults.{IsSoundRoster}
use Rattle.mcf_roster.specs.Rosters.{Roster, range_at}
use Rattle.mcf_roster.specs.TableRows.{person_row, plain_row, thing_row}
use Rattle.mcf_roster.proofs.ProperModels.{map_map}
use Rattle.mcf_roster.proofs.RangeSums.{all_range}
use Rattle.mcf_groups.specs.declared.faults.TheConstants.{PLACE_LIMIT}
use Rattle.mcf_groups.specs.declared.groups.Group.{Group}
use Rattle.mcf_groups.specs.GroupFaults.{fault_from}
use Rattle.mcf_groups.specs.GroupModels.{group_model, split_by}
use Rattle.mcf_groups.specs.Groups.{owner_count}
use Rattle.mcf_groups.specs.LinkRows.{all_links, group_links, group_rows, link_row, nested_row, rows_with, side_rows}
use Rattle.mcf_groups.specs.Nests.{IsSoundNest, Nest, after, entry, leaves, nest_of, old_before, start_of}
use Rattle.mcf_groups.specs.Splits.{HasEnds, link}
use Rattle.mcf_groups.proofs.Stages.{append_none, fine_from, first_fine, link_routes, links_end, nested_route, places_with, routes_end, side_routes, split_staged, staged, start_sound, start_staged, with_sound}

-- ---- rows of links

abbrev pub routes_in : List RouteRow → List Route
routes_in rows = map (route_of []) rows

row_is : (leave : Bool) (old new : ℕ) (r : Range) → route_of [] (link_row leave old new r) ≡ link leave old new (pos r.least) (pos r.most)
row_is true old new r = refl
row_is false old new r = refl

group_routes : (R : Roster) (S : Nest) (g : Group) → routes_in (group_links R S g) ≡ link_routes R S g
group_routes R S g =
    map_map (route_of []) (λ v. link_row (leaves g.of) (old_before R S g + v) (S.places + v) g.range)
    (λ v. link (leaves g.of) (old_before R S g + v) (S.places + v) (pos g.range.least) (pos g.range.most))
    (λ v. row_is (leaves g.of) (old_before R S g + v) (S.places + v) g.range) (range_with_len 1 (owner_count R g.of))

links_more : (R : Roster) (S : Nest) (g : Group) (links : List Route) (rest : List RouteRow)
    → (links ++ link_routes R S g) ++ routes_in rest ≡ links ++ routes_in (group_links R S g ++ rest)
links_more R S g links rest =
    append_assoc links (link_routes R S g) (routes_in rest)
    ∙ ap (λ rs. links ++ (rs ++ routes_in rest)) (sym (group_routes R S g))
    ∙ ap (λ rs. links ++ rs) (sym (map-append (route_of []) (group_links R S g) rest))

-- ---- all groups

module _ (R : Roster) (ends : IsSoundRoster R) where
  pub closed : (S : Nest) → IsSoundNest R S → (links : List Route) (gs : List Group)
      → split_by R S gs (staged R S links) ≡ staged R (nest_of R S gs) (links ++ routes_in (all_links R S gs))
  closed S sound links [] = ap (staged R S) (append_none links)
  closed S sound links (g ∷ gs) =
      ap (split_by R (after R S g) gs) (split_staged R S links g ends sound)
      ∙ closed (after R S g) (with_sound R S sound g.of g.members.items) (links ++ link_routes R S g) gs
      ∙ ap (staged R (nest_of R (after R S g) gs)) (links_more R S g links (all_links R (after R S g) gs))

  pub nest_sound : (S : Nest) → IsSoundNest R S → (gs : List Group) → IsSoundNest R (nest_of R S gs)
  nest_sound S sound [] = sound
  nest_sound S sound (g ∷ gs) = nest_sound (after R S g) (with_sound R S sound g.of g.members.items) gs

  pub nest_few : (S : Nest) (number : ℕ) (gs : List Group) → fault_from R S number gs ≡ None → S.places ≤ PLACE_LIMIT
      → (nest_of R S gs).places ≤ PLACE_LIMIT
  nest_few S number [] fine few = few
  nest_few S number (g ∷ gs) fine few =
      let both = first_fine R S number g gs fine in
      let here = (fine_from R S g both.0).few in
      let e : (after R S g).places ≡ S.places + owner_count R g.of = places_with g.of S.places (owner_count R g.of) g.members.items S in
      nest_few (after R S g) (suc number) gs both.1 (omega (arith, e, here))

  pub all_linked : (S : Nest) → IsSoundNest R S → (links : List Route) → All (HasEnds S.places) links → (gs : List Group)
      → All (HasEnds (nest_of R S gs).places) (links ++ routes_in (all_links R S gs))
  all_linked S sound links linked [] = subst (All (HasEnds S.places)) (append_none links) linked
  all_linked S sound links linked (g ∷ gs) =
      subst (All (HasEnds (nest_of R (after R S g) gs).places)) (links_more R S g links (all_links R (after R S g) gs))
      (all_linked (after R S g) (with_sound R S sound g.of g.members.items) (links ++ link_routes R S g) (links_end R S ends sound links linked g) gs)

-- ---- facts of all routes, and of all rows

link_row_plain : (Q : RouteRow → Type 0) → ((tail head : ℕ) (r : Range) (z : ℤ) → Q (plain_row tail head r z)) → (leave : Bool) (old new : ℕ) (r : Range)
    → Q (link_row leave old new r)
link_row_plain Q plain true old new r = plain old new r (pos 0)
link_row_plain Q plain false old new r = plain new old r (pos 0)

module _ (R : Roster) (Q : RouteRow → Type 0) (plain : (tail head : ℕ) (r : Range) (z : ℤ) → Q (plain_row tail head r z)) where
  link_rows_plain : (S : Nest) (gs : List Group) → All Q (all_links R S gs)
  link_rows_plain S [] = All-nil Q
  link_rows_plain S (g ∷ gs) =
      All-append Q (group_links R S g) (all_links R (after R S g) gs)
      (all_range Q (λ v. link_row (leaves g.of) (old_before R S g + v) (S.places + v) g.range) (owner_count R g.of)
      (λ v k. link_row_plain Q plain (leaves g.of) (old_before R S g + v) (S.places + v) g.range)) (link_rows_plain (after R S g) gs)

  pub rows_plain : (S : Nest) (links : List RouteRow) → All Q links → All Q (rows_with R S links)
  rows_plain S links h =
      All-append Q (map (nested_row S) R.pairs) (side_rows R ++ links)
      (All-map Q (nested_row S) R.pairs (λ i d l. let p = get_or R.pairs i d in
      plain (entry S.tails p.what + p.who) (entry S.heads p.who + p.what) one_or_none p.cost))
      (All-append Q (side_rows R) links
      (All-append Q (map (person_row (hub_of R) R.takes) (range_with_len 1 (length R.takes)))
      (map (thing_row (length R.takes) (hub_of R) R.needs) (range_with_len 1 (length R.needs)))
      (all_range Q (person_row (hub_of R) R.takes) (length R.takes) (λ v k. plain (hub_of R) v (range_at R.takes v) (pos 0)))
      (all_range Q (thing_row (length R.takes) (hub_of R) R.needs) (length R.needs) (λ v k. plain (length R.takes + v) (hub_of R) (range_at R.needs v) (pos 0)))) h)

  pub group_rows_plain : (gs : List Group) → All Q (group_rows R gs)
  group_rows_plain gs = rows_plain (nest_of R (start_of R) gs) (all_links R (start_of R) gs) (link_rows_plain (start_of R) gs)

-- ---- the model

module _ (R : Roster) (ends : IsSoundRoster R) (gs : List Group) where
  abbrev T : Nest
  T = nest_of R (start_of R) gs

  abbrev links : List RouteRow
  links = all_links R (start_of R) gs

  pub model_is : group_model R gs ≡ staged R T (routes_in links)
  model_is = ap (split_by R (start_of R) gs) (start_staged R ends) ∙ closed R ends (start_of R) (start_sound R) [] gs

  sides_are : routes_in (side_rows R) ≡ side_routes R
  sides_are =
      map-append (route_of []) (map (person_row (hub_of R) R.takes) (range_with_len 1 (length R.takes)))
      (map (thing_row (length R.takes) (hub_of R) R.needs) (range_with_len 1 (length R.needs)))
      ∙ ap (λ rs. rs ++ routes_in (map (thing_row (length R.takes) (hub_of R) R.needs) (range_with_len 1 (length R.needs))))
      (map_map (route_of []) (person_row (hub_of R) R.takes) (person_route R) (λ v. refl) (range_with_len 1 (length R.takes)))
      ∙ ap (λ rs. map (person_route R) (range_with_len 1 (length R.takes)) ++ rs)
      (map_map (route_of []) (thing_row (length R.takes) (hub_of R) R.needs) (thing_route R) (λ v. refl) (range_with_len 1 (length R.needs)))

  pub rows_are : routes_in (group_rows R gs) ≡ (group_model R gs).routes
  rows_are =
      map-append (route_of []) (map (nested_row T) R.pairs) (side_rows R ++ links)
      ∙ ap (λ rs. rs ++ routes_in (side_rows R ++ links)) (map_map (route_of []) (nested_row T) (nested_route T) (λ p. refl) R.pairs)
      ∙ ap (λ rs. map (nested_route T) R.pairs ++ rs)
      (map-append (route_of []) (side_rows R) links ∙ ap (λ rs. rs ++ routes_in links) sides_are)
      ∙ sym (ap (λ m. m.routes) model_is)

  pub supplies_are : (group_model R gs).supplies ≡ replicate T.places (pos 0)
  supplies_are = ap (λ m. m.supplies) model_is

  pub places_are : length (group_model R gs).supplies ≡ T.places
  places_are = ap length supplies_are ∙ length-replicate T.places (pos 0)

  pub nothing_supplied : (v : ℕ) → IsNode (length (group_model R gs).supplies) v → at_node (group_model R gs).supplies v ≡ pos 0
  nothing_supplied v k =
      ap (λ xs. at_node xs v) supplies_are ∙ get_or-replicate T.places (v - 1) (pos 0) (pos 0) (omega (arith, k, places_are))

  pub routes_ended : All (HasEnds (length (group_model R gs).supplies)) (group_model R gs).routes
  routes_ended =
      let sound = nest_sound R ends (start_of R) (start_sound R) gs in
      let linked = all_linked R ends (start_of R) (start_sound R) [] (All-nil (HasEnds (start_of R).places)) gs in
      subst (λ n. All (HasEnds n) (group_model R gs).routes) (sym places_are)
      (subst (All (HasEnds T.places)) (sym (ap (λ m. m.routes) model_is)) (routes_end R T ends sound (routes_in links) linked))

  by_rows : (Q : Route → Type 0) → ((tail head : ℕ) (r : Range) (z : ℤ) → Q (route_of [] (plain_row tail head r z))) → All Q (group_model R gs).routes
  by_rows Q plain =
      subst (All Q) rows_are (All-map Q (route_of []) (group_rows R gs) (group_rows_plain R (λ row. Q (route_of [] row)) plain gs))

  pub all_limited : All (λ r. IsLimited r.last_most) (group_model R gs).routes
  all_limited = by_rows (λ r. IsLimited r.last_most) (λ tail head r z. tt)

  abbrev IsSimple : Route → Type 0
  IsSimple r = Rises r.steps r.last_cost × Adds r.steps r.last_most × MayBeBoth r.both r.least r.steps r.last_most r.last_cost

  simple : All IsSimple (group_model R gs).routes
  simple = by_rows IsSimple (λ tail head r z. (tt, tt, tt))

  pub proper_group_model : IsProper (group_model R gs)
  proper_group_model =
      record {
        sound = λ k d l.
            let e = routes_ended k d l in
            let s = simple k d l in
            record { tail_is_place = e.tail_is_place; head_is_place = e.head_is_place; rises = s.0; adds = s.1; may_be_both = s.2 };
        bounded = inl all_limited;
        steps_take = by_rows StepsTake (λ tail head r z i d l. absurd (omega arith));
      }

  pub none_listed : AreListed [] (group_rows R gs)
  none_listed = group_rows_plain R (λ row. row.first_step + row.step_count ≤ 0) (λ tail head r z. omega arith) gs

module _ (R : Roster) (ends : IsSoundRoster R) (gs : List Group) (supplies : List ℤ) (steps : List Step) (rows : List RouteRow)
    (supplies_is : supplies ≡ replicate (nest_of R (start_of R) gs).places (pos 0)) (steps_is : steps ≡ []) (rows_is : rows ≡ group_rows R gs) where
  pub same_model : tables_of supplies steps rows ≡ group_model R gs
  same_model =
      ap (λ (s : List ℤ). record { supplies = s; routes = map (route_of steps) rows }) (supplies_is ∙ sym (supplies_are R ends gs))
      ∙ ap (λ (r : List Route). record { supplies = (group_model R gs).supplies; routes = r })
      (ap (λ s. map (route_of s) rows) steps_is ∙ ap (map (route_of [])) rows_is ∙ rows_are R ends gs)

  pub makes_model : IsProper (tables_of supplies steps rows) × AreListed steps rows
  makes_model = (
    subst IsProper (sym same_model) (proper_group_model R ends gs),
    subst (λ s. AreListed s rows) (sym steps_is) (subst (AreListed []) (sym rows_is) (none_listed R ends gs)),
  )
