-- The numbers that places that compete are told by are those of the cut.
use Rattle.std.proofs.Common.{◌≡◌, ℕ, zero, suc, ◌+◌, Bool, true, false, ◌&&◌, List, [], ◌∷◌, ◌++◌, length, map, take, drop, refl, ap, sym, ◌∙◌, arith, ℤ, pos, ◌+ℤ◌}
use Rattle.std.specs.Prelude.{if◌then◌else◌, nat_lt, not}
use Rattle.std.specs.List.{range_with_len}
use Rattle.std.proofs.lemmas.Int.{ints}
use Rattle.std.proofs.lemmas.List.{map-append}
use Rattle.std.proofs.lemmas.List.FromFn.{length-map-range_with_len}
use Rattle.std.proofs.Math.Seq.{drop-append_seam, take-append_seam}
use Rattle.mcf_flows.specs.declared.problem.Side.{Side}
use Rattle.mcf_flows.specs.declared.problem.Side.TheVariants.{Send, Take}
use Rattle.mcf_flows.specs.Blocking.{in_table}
use Rattle.mcf_flows.specs.Network.{node_sum, when}
use Rattle.mcf_model.specs.declared.rows.RouteRow.{RouteRow}
use Rattle.mcf_model.specs.Bottlenecks.{least_across, most_across, route_sum}
use Rattle.mcf_model.specs.Model.{Route}
use Rattle.mcf_model.specs.Tables.{route_of}
use Rattle.mcf_roster.specs.declared.pairs.Pair.{Pair}
use Rattle.mcf_roster.specs.declared.pairs.Range.{Range}
use Rattle.mcf_roster.specs.Models.{person_route, thing_route}
use Rattle.mcf_roster.specs.RosterFaults.{IsSoundRoster}
use Rattle.mcf_roster.specs.Rosters.{Roster}
use Rattle.mcf_roster.specs.ToldSums.{told_count}
use Rattle.mcf_roster.proofs.RangeSums.{route_sum-append, route_sum-range}
use Rattle.mcf_groups.specs.declared.bounds.GroupBound.{GroupBound}
use Rattle.mcf_groups.specs.declared.groups.Group.{Group}
use Rattle.mcf_groups.specs.BoundSums.{leasts_told, mosts_told}
use Rattle.mcf_groups.specs.GroupModels.{group_model}
use Rattle.mcf_groups.specs.Groups.{owner_count}
use Rattle.mcf_groups.specs.LinkRows.{all_links, group_links, link_row}
use Rattle.mcf_groups.specs.MarkedPlaces.{bound_if, bound_of, bounds_from, counted_bounds, counted_pairs, counts_ends, counts_pair, link_bounds}
use Rattle.mcf_groups.specs.Nests.{Nest, after, leaves, nest_of, old_before, start_of}
use Rattle.mcf_groups.proofs.Models.{model_is, routes_in}
use Rattle.mcf_groups.proofs.Stages.{nested_route, side_routes}

pub when_none : (b : Bool) → when b (pos 0) ≡ pos 0
when_none true = refl
when_none false = refl

-- ---- lists of bounds

leasts-append : (xs ys : List GroupBound) → leasts_told (xs ++ ys) ≡ leasts_told xs + leasts_told ys
leasts-append [] ys = omega arith
leasts-append (b ∷ xs) ys = omega (arith, leasts-append xs ys)

mosts-append : (xs ys : List GroupBound) → mosts_told (xs ++ ys) ≡ mosts_told xs + mosts_told ys
mosts-append [] ys = omega arith
mosts-append (b ∷ xs) ys = omega (arith, mosts-append xs ys)

-- ---- one link

positive : (n : ℕ) → nat_lt 0 n ≡ false → n ≡ 0
positive zero e = refl
positive (suc n) e = grind arith

module _ (number v : ℕ) (r : Range) where
  most_told : (there back : Bool) → pos (mosts_told (bound_if there back number v r)) ≡ when there (pos r.most)
  most_told true back = omega (arith, ints)
  most_told false false = refl
  most_told false true = go (nat_lt 0 r.least)
    where
      go : (b : Bool) → pos (mosts_told (if b then record { group = number; owner = v; is_least = true; amount = r.least } ∷ [] else [])) ≡ pos 0
      go true = refl
      go false = refl

  least_told : (there back : Bool) → (there && back) ≡ false → pos (leasts_told (bound_if there back number v r)) ≡ when back (pos r.least)
  least_told true false e = refl
  least_told true true e = cc e
  least_told false false e = refl
  least_told false true e = go (nat_lt 0 r.least) refl
    where
      go : (b : Bool) → nat_lt 0 r.least ≡ b
          → pos (leasts_told (if b then record { group = number; owner = v; is_least = true; amount = r.least } ∷ [] else [])) ≡ pos r.least
      go true is = omega (arith, ints)
      go false is = omega (arith, ints, positive r.least is)

either : (a b : Bool) → ((a && not b) && (b && not a)) ≡ false
either true true = refl
either true false = refl
either false true = refl
either false false = refl

module _ (marks : List Bool) (side : Side) where
  -- a route that leads back
  abbrev pub here : ℕ → ℕ → Bool
  here u v = counts_ends marks side v u

  one_way : (u v : ℕ) → (counts_ends marks side u v && counts_ends marks side v u) ≡ false
  one_way u v = go side
    where
      go : (s : Side) → (counts_ends marks s u v && counts_ends marks s v u) ≡ false
      go Send = either (in_table marks u) (in_table marks v)
      go Take = either (in_table marks v) (in_table marks u)

  module _ (number : ℕ) (r : Range) where
    link_most : (leave : Bool) (old new v : ℕ)
        → most_across (counts_ends marks side) (route_of [] (link_row leave old new r)) ≡ pos (mosts_told (bound_of marks side number r v (link_row leave old new r)))
    link_most true old new v =
        omega (arith, ints, most_told number v r (counts_ends marks side old new) (counts_ends marks side new old))
    link_most false old new v =
        omega (arith, ints, most_told number v r (counts_ends marks side new old) (counts_ends marks side old new))

    link_least : (leave : Bool) (old new v : ℕ)
        → least_across here (route_of [] (link_row leave old new r)) ≡ pos (leasts_told (bound_of marks side number r v (link_row leave old new r)))
    link_least true old new v =
        sym (least_told number v r (counts_ends marks side old new) (counts_ends marks side new old) (one_way old new))
    link_least false old new v =
        sym (least_told number v r (counts_ends marks side new old) (counts_ends marks side old new) (one_way new old))

    -- ---- the links of a group

    module _ (leave : Bool) (old new : ℕ) where
      abbrev row : ℕ → RouteRow
      row v = link_row leave (old + v) (new + v) r

      group_most : (a n : ℕ) → route_sum (most_across (counts_ends marks side)) (routes_in (map row (range_with_len a n)))
          ≡ pos (mosts_told (link_bounds marks side number r a (map row (range_with_len a n))))
      group_most a zero = refl
      group_most a (suc n) =
          let rest = map row (range_with_len (a + 1) n) in
          let next : suc a ≡ a + 1 = omega arith in
          omega (
            arith,
            ints,
            link_most leave (old + a) (new + a) a,
            group_most (a + 1) n,
            ap (λ k. mosts_told (link_bounds marks side number r k rest)) next,
            mosts-append (bound_of marks side number r a (row a)) (link_bounds marks side number r (suc a) rest),
          )

      group_least : (a n : ℕ) → route_sum (least_across here) (routes_in (map row (range_with_len a n)))
          ≡ pos (leasts_told (link_bounds marks side number r a (map row (range_with_len a n))))
      group_least a zero = refl
      group_least a (suc n) =
          let rest = map row (range_with_len (a + 1) n) in
          let next : suc a ≡ a + 1 = omega arith in
          omega (
            arith,
            ints,
            link_least leave (old + a) (new + a) a,
            group_least (a + 1) n,
            ap (λ k. leasts_told (link_bounds marks side number r k rest)) next,
            leasts-append (bound_of marks side number r a (row a)) (link_bounds marks side number r (suc a) rest),
          )

  -- ---- the links of all groups

  module _ (R : Roster) where
    first_group : (S : Nest) (number : ℕ) (g : Group) (gs : List Group)
        → bounds_from marks side R number (all_links R S (g ∷ gs)) (g ∷ gs)
        ≡ link_bounds marks side number g.range 1 (group_links R S g) ++ bounds_from marks side R (suc number) (all_links R (after R S g) gs) gs
    first_group S number g gs =
        let here_links = group_links R S g in
        let rest = all_links R (after R S g) gs in
        let long : length here_links ≡ owner_count R g.of =
        length-map-range_with_len (λ v. link_row (leaves g.of) (old_before R S g + v) (S.places + v) g.range) 1 (owner_count R g.of) in
        ap (λ k. link_bounds marks side number g.range 1 (take k (here_links ++ rest)) ++ bounds_from marks side R (suc number) (drop k (here_links ++ rest)) gs)
        (sym long)
        ∙ ap (λ ls. link_bounds marks side number g.range 1 ls ++ bounds_from marks side R (suc number) (drop (length here_links) (here_links ++ rest)) gs)
        (take-append_seam here_links rest)
        ∙ ap (λ ls. link_bounds marks side number g.range 1 here_links ++ bounds_from marks side R (suc number) ls gs) (drop-append_seam here_links rest)

    all_most : (S : Nest) (number : ℕ) (gs : List Group) → route_sum (most_across (counts_ends marks side)) (routes_in (all_links R S gs))
        ≡ pos (mosts_told (bounds_from marks side R number (all_links R S gs) gs))
    all_most S number [] = refl
    all_most S number (g ∷ gs) =
        let t = most_across (counts_ends marks side) in
        let here_links = group_links R S g in
        let rest = all_links R (after R S g) gs in
        omega (
          arith,
          ints,
          ap (route_sum t) (map-append (route_of []) here_links rest),
          route_sum-append t (routes_in here_links) (routes_in rest),
          group_most number g.range (leaves g.of) (old_before R S g) S.places 1 (owner_count R g.of),
          all_most (after R S g) (suc number) gs,
          ap mosts_told (first_group S number g gs),
          mosts-append (link_bounds marks side number g.range 1 here_links) (bounds_from marks side R (suc number) rest gs),
        )

    all_least : (S : Nest) (number : ℕ) (gs : List Group) → route_sum (least_across here) (routes_in (all_links R S gs))
        ≡ pos (leasts_told (bounds_from marks side R number (all_links R S gs) gs))
    all_least S number [] = refl
    all_least S number (g ∷ gs) =
        let t = least_across here in
        let here_links = group_links R S g in
        let rest = all_links R (after R S g) gs in
        omega (
          arith,
          ints,
          ap (route_sum t) (map-append (route_of []) here_links rest),
          route_sum-append t (routes_in here_links) (routes_in rest),
          group_least number g.range (leaves g.of) (old_before R S g) S.places 1 (owner_count R g.of),
          all_least (after R S g) (suc number) gs,
          ap leasts_told (first_group S number g gs),
          leasts-append (link_bounds marks side number g.range 1 here_links) (bounds_from marks side R (suc number) rest gs),
        )

  -- ---- pairs

  count_cons : (b : Bool) (bs : List Bool) → pos (told_count (b ∷ bs)) ≡ when b (pos 1) +ℤ pos (told_count bs)
  count_cons true bs = omega (arith, ints)
  count_cons false bs = omega (arith, ints)

  module _ (S : Nest) where
    pairs_most : (ps : List Pair) → route_sum (most_across (counts_ends marks side)) (map (nested_route S) ps)
        ≡ pos (told_count (map (counts_pair marks side S) ps))
    pairs_most [] = refl
    pairs_most (p ∷ ps) =
        omega (arith, ints, count_cons (counts_pair marks side S p) (map (counts_pair marks side S) ps), pairs_most ps)

    pairs_least : (ps : List Pair) → route_sum (least_across here) (map (nested_route S) ps) ≡ pos 0
    pairs_least [] = refl
    pairs_least (p ∷ ps) =
        omega (arith, ints, when_none (here (nested_route S p).tail (nested_route S p).head), pairs_least ps)

  -- ---- the whole cut

  module _ (R : Roster) (gs : List Group) (sound : IsSoundRoster R) where
    abbrev T : Nest
    T = nest_of R (start_of R) gs

    whole : (t : Route → ℤ) → route_sum t (group_model R gs).routes
        ≡ route_sum t (map (nested_route T) R.pairs)
        +ℤ ((node_sum (λ v. t (person_route R v)) (length R.takes) +ℤ node_sum (λ v. t (thing_route R v)) (length R.needs))
        +ℤ route_sum t (routes_in (all_links R (start_of R) gs)))
    whole t =
        let persons = map (person_route R) (range_with_len 1 (length R.takes)) in
        let things = map (thing_route R) (range_with_len 1 (length R.needs)) in
        let links = routes_in (all_links R (start_of R) gs) in
        omega (
          arith,
          ints,
          ap (λ m. route_sum t m.routes) (model_is R sound gs),
          route_sum-append t (map (nested_route T) R.pairs) (side_routes R ++ links),
          route_sum-append t (side_routes R) links,
          route_sum-append t persons things,
          route_sum-range t (person_route R) (length R.takes),
          route_sum-range t (thing_route R) (length R.needs),
        )

    pub cut_most : route_sum (most_across (counts_ends marks side)) (group_model R gs).routes
        ≡ pos (told_count (counted_pairs R gs marks side))
        +ℤ ((node_sum (λ v. most_across (counts_ends marks side) (person_route R v)) (length R.takes)
        +ℤ node_sum (λ v. most_across (counts_ends marks side) (thing_route R v)) (length R.needs))
        +ℤ pos (mosts_told (counted_bounds R gs marks side)))
    cut_most =
        omega (arith, ints, whole (most_across (counts_ends marks side)), pairs_most T R.pairs, all_most R (start_of R) 1 gs)

    pub cut_least : route_sum (least_across here) (group_model R gs).routes
        ≡ (node_sum (λ v. least_across here (person_route R v)) (length R.takes)
        +ℤ node_sum (λ v. least_across here (thing_route R v)) (length R.needs))
        +ℤ pos (leasts_told (counted_bounds R gs marks side))
    cut_least =
        omega (arith, ints, whole (least_across here), pairs_least T R.pairs, all_least R (start_of R) 1 gs)
