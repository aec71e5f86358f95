-- What persons, things and groups that compete are told by adds up to more than there is.
use Rattle.std.proofs.Common.{◌≡◌, ℕ, ◌+◌, ◌-◌, ◌≤◌, Bool, true, false, ◌&&◌, List, length, map, take, drop, get_or, refl, ap, sym, ◌∙◌, subst, arith, pos, ◌+ℤ◌}
use Rattle.std.specs.Prelude.{not}
use Rattle.std.proofs.lemmas.Int.{ints}
use Rattle.std.proofs.lemmas.List.{get_or-drop, get_or-take, length-drop, length-take-le}
use Rattle.mcf_flows.specs.declared.problem.Side.{Side}
use Rattle.mcf_flows.specs.declared.problem.Side.TheVariants.{Send, Take}
use Rattle.mcf_flows.specs.Blocking.{in_table, supply_in}
use Rattle.mcf_flows.specs.Network.{IsNode, at_node, node_sum, when}
use Rattle.mcf_flows.proofs.NodeSums.{node_sum-same}
use Rattle.mcf_model.specs.Bottlenecks.{IsBottleneck, into, least_across, most_across, out_of, route_sum}
use Rattle.mcf_roster.specs.Amounts.{asks_persons, bound}
use Rattle.mcf_roster.specs.Models.{hub_of, person_route, thing_route}
use Rattle.mcf_roster.specs.RosterFaults.{IsSoundRoster}
use Rattle.mcf_roster.specs.Rosters.{Roster, range_at}
use Rattle.mcf_roster.specs.ToldSums.{told_count, told_sum}
use Rattle.mcf_roster.specs.declared.told.Competition.{Competition}
use Rattle.mcf_roster.proofs.RangeSums.{none_at}
use Rattle.mcf_roster.proofs.ToldSums.{sum_told}
use Rattle.mcf_groups.specs.declared.bounds.GroupBound.{GroupBound}
use Rattle.mcf_groups.specs.declared.groups.Group.{Group}
use Rattle.mcf_groups.specs.BoundSums.{GroupsAddToMore, IsMoreWith, leasts_told, mosts_told}
use Rattle.mcf_groups.specs.GroupModels.{group_model}
use Rattle.mcf_groups.specs.MarkedPlaces.{counted_bounds, counted_pairs, counts_ends}
use Rattle.mcf_groups.specs.Nests.{start_of}
use Rattle.mcf_groups.proofs.CutSums.{cut_least, cut_most, here, when_none}
use Rattle.mcf_groups.proofs.Models.{nest_sound, nothing_supplied, places_are}
use Rattle.mcf_groups.proofs.Stages.{start_sound}

and_true : (b : Bool) → (b && true) ≡ b
and_true true = refl
and_true false = refl

module _ (R : Roster) (marks : List Bool) (long : hub_of R ≤ length marks) (no_hub : in_table marks (hub_of R) ≡ false) where
  abbrev persons : List Bool
  persons = take (length R.takes) marks

  abbrev things : List Bool
  things = take (length R.needs) (drop (length R.takes) marks)

  persons_long : length persons ≡ length R.takes
  persons_long = length-take-le (length R.takes) marks (omega (arith, long))

  things_long : length things ≡ length R.needs
  things_long =
      length-take-le (length R.needs) (drop (length R.takes) marks) (omega (arith, long, length-drop (length R.takes) marks))

  person_is : (v : ℕ) → IsNode (length R.takes) v → in_table marks v ≡ in_table persons v
  person_is v k = sym (get_or-take (length R.takes) marks (v - 1) false (omega (arith, k)))

  thing_is : (v : ℕ) → IsNode (length R.needs) v → in_table marks (length R.takes + v) ≡ in_table things v
  thing_is v k =
      let near : length R.takes + v - 1 ≡ length R.takes + (v - 1) = omega (arith, k) in
      ap (λ i. get_or marks i false) near
      ∙ sym (get_or-drop (length R.takes) marks (v - 1) false)
      ∙ sym (get_or-take (length R.needs) (drop (length R.takes) marks) (v - 1) false (omega (arith, k)))

  -- a mark counts, where the hub has none
  beside_hub : (b c : Bool) → b ≡ c → (b && not (in_table marks (hub_of R))) ≡ c
  beside_hub b c e = ap (λ h. b && not h) no_hub ∙ and_true b ∙ e

  from_hub : (b : Bool) → (in_table marks (hub_of R) && not b) ≡ false
  from_hub b = ap (λ h. h && not b) no_hub

  -- ---- the sums over persons and things

  most_sent : node_sum (λ v. most_across (counts_ends marks Send) (person_route R v)) (length R.takes)
      +ℤ node_sum (λ v. most_across (counts_ends marks Send) (thing_route R v)) (length R.needs)
      ≡ pos (told_sum things (map (bound false) R.needs))
  most_sent =
      let t = most_across (counts_ends marks Send) in
      omega (
        arith,
        ints,
        none_at (λ v. t (person_route R v)) (length R.takes)
            (λ v k. omega (arith, ints, ap (λ b. when b (pos (range_at R.takes v).most)) (from_hub (in_table marks v)))),
        node_sum-same (λ v. t (thing_route R v)) (λ v. when (in_table things v) (pos (range_at R.needs v).most)) (length R.needs)
            (λ v k. omega (arith, ints, ap (λ b. when b (pos (range_at R.needs v).most)) (beside_hub (in_table marks (length R.takes + v)) (in_table things v) (thing_is v k)))),
        sum_told false things R.needs things_long,
      )

  least_sent : node_sum (λ v. least_across (here marks Send) (person_route R v)) (length R.takes)
      +ℤ node_sum (λ v. least_across (here marks Send) (thing_route R v)) (length R.needs)
      ≡ pos (told_sum persons (map (bound true) R.takes))
  least_sent =
      let t = least_across (here marks Send) in
      omega (
        arith,
        ints,
        none_at (λ v. t (thing_route R v)) (length R.needs)
            (λ v k. ap (λ b. when b (pos (range_at R.needs v).least)) (from_hub (in_table marks (length R.takes + v)))),
        node_sum-same (λ v. t (person_route R v)) (λ v. when (in_table persons v) (pos (range_at R.takes v).least)) (length R.takes)
            (λ v k. ap (λ b. when b (pos (range_at R.takes v).least)) (beside_hub (in_table marks v) (in_table persons v) (person_is v k))),
        sum_told true persons R.takes persons_long,
      )

  most_taken : node_sum (λ v. most_across (counts_ends marks Take) (person_route R v)) (length R.takes)
      +ℤ node_sum (λ v. most_across (counts_ends marks Take) (thing_route R v)) (length R.needs)
      ≡ pos (told_sum persons (map (bound false) R.takes))
  most_taken =
      let t = most_across (counts_ends marks Take) in
      omega (
        arith,
        ints,
        none_at (λ v. t (thing_route R v)) (length R.needs)
            (λ v k. omega (arith, ints, ap (λ b. when b (pos (range_at R.needs v).most)) (from_hub (in_table marks (length R.takes + v))))),
        node_sum-same (λ v. t (person_route R v)) (λ v. when (in_table persons v) (pos (range_at R.takes v).most)) (length R.takes)
            (λ v k. omega (arith, ints, ap (λ b. when b (pos (range_at R.takes v).most)) (beside_hub (in_table marks v) (in_table persons v) (person_is v k)))),
        sum_told false persons R.takes persons_long,
      )

  least_taken : node_sum (λ v. least_across (here marks Take) (person_route R v)) (length R.takes)
      +ℤ node_sum (λ v. least_across (here marks Take) (thing_route R v)) (length R.needs)
      ≡ pos (told_sum things (map (bound true) R.needs))
  least_taken =
      let t = least_across (here marks Take) in
      omega (
        arith,
        ints,
        none_at (λ v. t (person_route R v)) (length R.takes)
            (λ v k. ap (λ b. when b (pos (range_at R.takes v).least)) (from_hub (in_table marks v))),
        node_sum-same (λ v. t (thing_route R v)) (λ v. when (in_table things v) (pos (range_at R.needs v).least)) (length R.needs)
            (λ v k. ap (λ b. when b (pos (range_at R.needs v).least)) (beside_hub (in_table marks (length R.takes + v)) (in_table things v) (thing_is v k))),
        sum_told true things R.needs things_long,
      )

  -- ---- the law

  module _ (gs : List Group) (sound : IsSoundRoster R) where
    no_supply : supply_in (group_model R gs).supplies (in_table marks) ≡ pos 0
    no_supply =
        none_at (λ v. when (in_table marks v) (at_node (group_model R gs).supplies v)) (length (group_model R gs).supplies)
        (λ v k. ap (when (in_table marks v)) (nothing_supplied R sound gs v k) ∙ when_none (in_table marks v))

    module _ (c : Competition) (bounds : List GroupBound) (persons_are : c.persons.items ≡ persons) (things_are : c.things.items ≡ things) where
      sum_persons : (xs : List ℕ) → c.amounts.persons.items ≡ xs → told_sum c.persons.items c.amounts.persons.items ≡ told_sum persons xs
      sum_persons xs e = ap (told_sum c.persons.items) e ∙ ap (λ ms. told_sum ms xs) persons_are

      sum_things : (xs : List ℕ) → c.amounts.things.items ≡ xs → told_sum c.things.items c.amounts.things.items ≡ told_sum things xs
      sum_things xs e = ap (told_sum c.things.items) e ∙ ap (λ ms. told_sum ms xs) things_are

      more_with : (side : Side) → IsBottleneck (group_model R gs) (in_table marks) side
          → c.amounts.persons.items ≡ map (bound (asks_persons side)) R.takes → c.amounts.things.items ≡ map (bound (not (asks_persons side))) R.needs
          → c.amounts.pairs.items ≡ counted_pairs R gs marks side → bounds ≡ counted_bounds R gs marks side → IsMoreWith c bounds side
      more_with Send h of_persons of_things of_pairs of_groups =
          let rs = (group_model R gs).routes in
          let most : route_sum (most_across (out_of (in_table marks))) rs
          ≡ pos (told_count (counted_pairs R gs marks Send))
          +ℤ ((node_sum (λ v. most_across (counts_ends marks Send) (person_route R v)) (length R.takes)
          +ℤ node_sum (λ v. most_across (counts_ends marks Send) (thing_route R v)) (length R.needs))
          +ℤ pos (mosts_told (counted_bounds R gs marks Send))) = cut_most marks Send R gs sound in
          let least : route_sum (least_across (into (in_table marks))) rs
          ≡ (node_sum (λ v. least_across (here marks Send) (person_route R v)) (length R.takes)
          +ℤ node_sum (λ v. least_across (here marks Send) (thing_route R v)) (length R.needs))
          +ℤ pos (leasts_told (counted_bounds R gs marks Send)) = cut_least marks Send R gs sound in
          omega (
            arith,
            ints,
            h.short,
            most,
            least,
            most_sent,
            least_sent,
            no_supply,
            sum_persons (map (bound true) R.takes) of_persons,
            sum_things (map (bound false) R.needs) of_things,
            ap told_count of_pairs,
            ap mosts_told of_groups,
            ap leasts_told of_groups,
          )
      more_with Take h of_persons of_things of_pairs of_groups =
          let rs = (group_model R gs).routes in
          let most : route_sum (most_across (into (in_table marks))) rs
          ≡ pos (told_count (counted_pairs R gs marks Take))
          +ℤ ((node_sum (λ v. most_across (counts_ends marks Take) (person_route R v)) (length R.takes)
          +ℤ node_sum (λ v. most_across (counts_ends marks Take) (thing_route R v)) (length R.needs))
          +ℤ pos (mosts_told (counted_bounds R gs marks Take))) = cut_most marks Take R gs sound in
          let least : route_sum (least_across (out_of (in_table marks))) rs
          ≡ (node_sum (λ v. least_across (here marks Take) (person_route R v)) (length R.takes)
          +ℤ node_sum (λ v. least_across (here marks Take) (thing_route R v)) (length R.needs))
          +ℤ pos (leasts_told (counted_bounds R gs marks Take)) = cut_least marks Take R gs sound in
          omega (
            arith,
            ints,
            h.short,
            most,
            least,
            most_taken,
            least_taken,
            no_supply,
            sum_persons (map (bound false) R.takes) of_persons,
            sum_things (map (bound true) R.needs) of_things,
            ap told_count of_pairs,
            ap mosts_told of_groups,
            ap leasts_told of_groups,
          )

pub add_to_more : GroupsAddToMore
add_to_more R gs found made sound none told =
    let marks = found.places.items in
    let hub = (nest_sound R sound (start_of R) (start_sound R) gs).hub in
    let long : hub_of R ≤ length marks = omega (arith, hub, none.one_by_place, places_are R sound gs) in
    subst (IsMoreWith made.found made.bounds.items) (sym told.side)
    (more_with R marks long none.without_hub gs sound made.found made.bounds.items told.persons told.things found.side none.is_bottleneck
    told.leasts_or_mosts told.mosts_or_leasts told.pairs told.bounds)
