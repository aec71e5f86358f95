-- More room on a full route is as many units from its head to its tail.
use Rattle.std.proofs.Common.{◌≡◌, ℕ, zero, suc, ◌-◌, ◌<◌, eqb, Bool, true, false, List, [], ◌∷◌, length, map, set, get_or, refl, ap, sym, ◌∙◌, subst, arith, ℤ, pos, neg_ℤ, ◌+ℤ◌, ◌-ℤ◌, ◌≤ℤ◌, ◌<ℤ◌, if◌then◌else◌, int_lt}
use Rattle.std.specs.Prelude.{Option, Some, None, ◌&&◌, ◌↔◌, option_map}
use Rattle.std.specs.Int.{int_max, int_min}
use Rattle.std.specs.List.{All, AllZip}
use Rattle.std.specs.Ordering.{int_eq}
use Rattle.std.proofs.Math.IntN.{◌*ℤ◌, *ℤ_comm}
use Rattle.std.proofs.lemmas.Int.{ints, clamps, by_lt_z}
use Rattle.std.proofs.lemmas.List.{length-set}
use Rattle.std.proofs.lemmas.List.Elements.{All-set}
use Rattle.mcf_flows.specs.Network.{IsNode, at_node, when}
use Rattle.mcf_flows.proofs.AllZips.{AllZip-at, AllZip-weaken, length-AllZip}
use Rattle.mcf_flows.proofs.IntLaws.{add-mul, mul-add, mul-neg, mul-sub}
use Rattle.mcf_model.specs.declared.rows.Step.{Step}
use Rattle.mcf_model.specs.Faults.{first_cost}
use Rattle.mcf_model.specs.Model.{Adds, AreRooms, Fits, IsLimited, IsPlan, IsSound, IsSoundRoute, MayBeBoth, MayCarry, Model, Rises, Route, charge, charged, plan_cost, room, route_cost, size}
use Rattle.mcf_model.specs.Prices.{IsBestAt, price_drop}
use Rattle.mcf_model.specs.Scaling.{scaled, scaled_route}
use Rattle.mcf_model.specs.Tables.{IsRouteNumber, no_route, route_at}
use Rattle.mcf_figures.specs.Figures.{gain, saving, saving_if}
use Rattle.mcf_figures.specs.FigureLaws.{IsPriced}
use Rattle.mcf_figures.proofs.PlanSums.{plan_sum-set, plan_sum-set_route}
use Rattle.mcf_unit_ranges.specs.Changes.{wider, with_room, with_units}
use Rattle.mcf_unit_ranges.specs.Spans.{directed, goes_back, room_below, room_up_to, span, span_of, turned}
use Rattle.mcf_unit_ranges.specs.UnitRanges.{HoldsFor, RoomIsUnits, SavingHoldsFor, told_cost}
use Rattle.mcf_unit_ranges.proofs.CheapRooms.{adds_later, rooms_total}
use Rattle.mcf_unit_ranges.proofs.Holding.{IsSpanned, spanned_from, spanned_to}
use Rattle.mcf_unit_ranges.proofs.OneWay.{at_most_last}
use Rattle.mcf_unit_ranges.proofs.Products.{mul-assoc}
use Rattle.mcf_unit_ranges.proofs.SpanLaws.{has_best, not_equal, of_span, span_amount, to_span, twice}
use Rattle.mcf_unit_ranges.proofs.SpanPlans.{amounts, net, net_self, one_net, span_sound}
use Rattle.mcf_unit_ranges.proofs.Supplies.{as_long_both, as_long_finer, finer_at, finer_supply, unit_at, units_at, units_supply}
use Rattle.mcf_unit_ranges.proofs.UnitCosts.{is_below, is_not_below, is_up_to}

-- ---- steps that all cost less than the drop

first_most : (steps : List Step) (c : ℤ) → Rises steps c → first_cost steps c ≤ℤ c
first_most [] c h = omega (arith, ints)
first_most (s ∷ steps) c h = at_most_last s.cost steps c h.0

all_below : (z : ℤ) (steps : List Step) (c m : ℤ) → Rises steps c → c <ℤ z → room_below z steps c (Some m) ≡ room steps m
all_below z [] c m h less = rw (is_below c z less) refl
all_below z (s ∷ steps) c m h less =
    rw (is_below s.cost z (omega (arith, ints, less, at_most_last s.cost steps c h.0))) (ap (λ w. s.most +ℤ w) (all_below z steps c m h.1 less))

all_up : (z : ℤ) (steps : List Step) (c m : ℤ) → Rises steps c → c <ℤ z → room_up_to z steps c (Some m) ≡ Some (room steps m)
all_up z [] c m h less = rw (is_up_to c z (omega (arith, ints, less))) refl
all_up z (s ∷ steps) c m h less =
    rw (is_up_to s.cost z (omega (arith, ints, less, at_most_last s.cost steps c h.0))) (ap (option_map (λ x. s.most +ℤ x)) (all_up z steps c m h.1 less))

-- past all rooms, each unit more is one of the last step
charge_past : (steps : List Step) (c m y : ℤ) → Adds steps (Some m) → pos 0 ≤ℤ y → charge steps c (room steps m +ℤ y) ≡ charge steps c (room steps m) +ℤ c *ℤ y
charge_past [] c m y h y0 = mul-add c m y
charge_past (s ∷ steps) c m y h y0 =
    let rest = room steps m in
    let z = rooms_total steps m h in
    let full : int_min (s.most +ℤ rest +ℤ y) s.most ≡ s.most = omega (arith, ints, clamps, z, y0) in
    let full' : int_min (s.most +ℤ rest) s.most ≡ s.most = omega (arith, ints, clamps, z) in
    let e1 : (s.most +ℤ rest +ℤ y) -ℤ s.most ≡ rest +ℤ y = omega (arith, ints) in
    let e2 : (s.most +ℤ rest) -ℤ s.most ≡ rest = omega (arith, ints) in
    rw (full, full', e1, e2) (omega (arith, ints, charge_past steps c m y (adds_later steps (Some m) h) y0))

pub room_more : (steps : List Step) (m d : ℤ) → room steps (m +ℤ d) ≡ room steps m +ℤ d
room_more [] m d = refl
room_more (s ∷ steps) m d = omega (arith, ints, room_more steps m d)

-- ---- the span of a full route

full_of : (prices : List ℤ) (q : Route) (m : ℤ) → Rises q.steps q.last_cost → q.last_most ≡ Some m → q.least ≤ℤ room q.steps m → q.last_cost <ℤ price_drop prices q
    → (q.both ≡ true → pos 0 ≤ℤ q.last_cost)
    → ((span_of prices q).least ≡ room q.steps m) × ((span_of prices q).last_most ≡ Some (room q.steps m)) × ((span_of prices q).both ≡ false)
full_of prices q m rises e fits less costs =
    let z = price_drop prices q in
    let first : first_cost q.steps q.last_cost <ℤ z = omega (arith, ints, less, first_most q.steps q.last_cost rises) in
    let top : int_max q.least (room q.steps m) ≡ room q.steps m = omega (arith, ints, clamps, fits) in (
      rw (is_below (first_cost q.steps q.last_cost) z first)
          (ap (λ o. int_max q.least (room_below z q.steps q.last_cost o)) e ∙ ap (λ x. int_max q.least x) (all_below z q.steps q.last_cost m rises less) ∙ top),
      rw (is_up_to (first_cost q.steps q.last_cost) z (omega (arith, ints, first)))
          (ap (λ o. option_map (λ x. int_max q.least x) (room_up_to z q.steps q.last_cost o)) e
          ∙ ap (option_map (λ x. int_max q.least x)) (all_up z q.steps q.last_cost m rises less) ∙ ap Some top),
      go q.both costs,
    )
  where
    go : (b : Bool) → (b ≡ true → pos 0 ≤ℤ q.last_cost) → (b && int_eq (price_drop prices q) (pos 0)) ≡ false
    go false c = refl
    go true c = let some = c refl in not_equal (price_drop prices q) (pos 0) (omega (arith, ints, less, some))

-- a route that carries just so much, at no cost
abbrev pinned : Route → ℤ → Route
pinned s most = record s { least = most; last_most = Some most; both = false }

pinned_is : (s : Route) (most : ℤ) → s.least ≡ most → s.last_most ≡ Some most → s.both ≡ false → s ≡ pinned s most
pinned_is s most l o b =
    ap (λ x. record s { least = x }) l ∙ ap (λ x. record s { least = most; last_most = x }) o ∙ ap (λ x. record s { least = most; last_most = Some most; both = x }) b

both_costs : (both : Bool) (least : ℤ) (steps : List Step) (most : Option ℤ) (c : ℤ) → MayBeBoth both least steps most c → both ≡ true → pos 0 ≤ℤ c
both_costs true least steps most c may e = at_most_last (pos 0) steps c may.1
both_costs false least steps most c may e = cc e

both_rooms : (both : Bool) (least : ℤ) (steps : List Step) (most : Option ℤ) (c m : ℤ) → MayBeBoth both least steps most c → most ≡ Some m → both ≡ true → pos 0 ≤ℤ room steps m
both_rooms true least steps most c m may e b = rooms_total steps m (subst (AreRooms steps) e may.2)
both_rooms false least steps most c m may e b = cc b

directed_drop : (prices : List ℤ) (r : Route) (z : ℤ) → z <ℤ charged r.both (price_drop prices r) → z <ℤ price_drop prices (directed prices r)
directed_drop prices r z h = go r.both h
  where
    go : (both : Bool) → z <ℤ charged both (price_drop prices r) → z <ℤ price_drop prices (if (both && int_lt (price_drop prices r) (pos 0)) then turned r else r)
    go false h = h
    go true h =
        by_lt_z (price_drop prices r) (pos 0)
        (λ less. rw (is_below (price_drop prices r) (pos 0) less) (omega (arith, ints, clamps, h, less)))
        (λ more. rw (is_not_below (price_drop prices r) (pos 0) more) (omega (arith, ints, clamps, h, more)))

pub full_span : (places : ℕ) (prices : List ℤ) (r : Route) (m : ℤ) → IsSoundRoute places r → r.last_most ≡ Some m → r.least ≤ℤ room r.steps m
    → r.last_cost <ℤ charged r.both (price_drop prices r) → span prices r ≡ pinned (span prices r) (room r.steps m)
full_span places prices r m sound e fits less = go (goes_back prices r) (directed_drop prices r r.last_cost less)
  where
    costs : r.both ≡ true → pos 0 ≤ℤ r.last_cost
    costs = both_costs r.both r.least r.steps r.last_most r.last_cost sound.may_be_both

    go : (b : Bool) → r.last_cost <ℤ price_drop prices (if b then turned r else r)
        → span_of prices (if b then turned r else r) ≡ pinned (span_of prices (if b then turned r else r)) (room r.steps m)
    go true h = let f = full_of prices (turned r) m sound.rises e fits h costs in pinned_is (span_of prices (turned r)) (room r.steps m) f.0 f.1 f.2
    go false h = let f = full_of prices r m sound.rises e fits h costs in pinned_is (span_of prices r) (room r.steps m) f.0 f.1 f.2

charged_amount : (prices : List ℤ) (r : Route) (z : ℤ) → (r.both ≡ true → pos 0 ≤ℤ z) → charged r.both (span_amount prices r z) ≡ z
charged_amount prices r z h = go r.both h
  where
    turn : (b : Bool) → pos 0 ≤ℤ z → size (if b then neg_ℤ z else z) ≡ z
    turn true h = omega (arith, ints, clamps, h)
    turn false h = omega (arith, ints, clamps, h)

    go : (both : Bool) → (both ≡ true → pos 0 ≤ℤ z) → charged both (if (both && int_lt (price_drop prices r) (pos 0)) then neg_ℤ z else z) ≡ z
    go false h = refl
    go true h = turn (int_lt (price_drop prices r) (pos 0)) (h refl)

-- ---- lists

AllZip-set_both : {X Y : Type 0} (R : X → Y → Type 0) (xs : List X) (ys : List Y) (i : ℕ) (x : X) (y : Y) → AllZip R xs ys → R x y → AllZip R (set xs i x) (set ys i y)
AllZip-set_both R [] [] i x y h here = h
AllZip-set_both R [] (b ∷ ys) i x y h here = absurd h
AllZip-set_both R (a ∷ xs) [] i x y h here = absurd h
AllZip-set_both R (a ∷ xs) (b ∷ ys) zero x y h here = (here, h.1)
AllZip-set_both R (a ∷ xs) (b ∷ ys) (suc i) x y h here = (h.0, AllZip-set_both R xs ys i x y h.1 here)

AllZip-unset : {X Y : Type 0} (R : X → Y → Type 0) (xs : List X) (ys : List Y) (i : ℕ) (x d : X) (y : Y) → AllZip R (set xs i x) ys → R (get_or xs i d) y
    → AllZip R xs (set ys i y)
AllZip-unset R [] [] i x d y h here = h
AllZip-unset R [] (b ∷ ys) i x d y h here = absurd h
AllZip-unset R (a ∷ xs) [] zero x d y h here = absurd h
AllZip-unset R (a ∷ xs) [] (suc i) x d y h here = absurd h
AllZip-unset R (a ∷ xs) (b ∷ ys) zero x d y h here = (here, h.1)
AllZip-unset R (a ∷ xs) (b ∷ ys) (suc i) x d y h here = (h.0, AllZip-unset R xs ys i x d y h.1 here)

set_at : {X : Type 0} (xs : List X) (i : ℕ) (x d : X) → i < length xs → get_or (set xs i x) i d ≡ x
set_at [] i x d h = absurd (omega arith)
set_at (a ∷ xs) zero x d h = refl
set_at (a ∷ xs) (suc i) x d h = set_at xs i x d (omega arith)

-- ---- a model with d units more room on route k

drop_is : (prices : List ℤ) (r : Route) → price_drop prices (directed prices r) ≡ charged r.both (price_drop prices r)
drop_is prices r = go r.both
  where
    go : (both : Bool) → price_drop prices (if (both && int_lt (price_drop prices r) (pos 0)) then turned r else r) ≡ charged both (price_drop prices r)
    go false = refl
    go true =
        by_lt_z (price_drop prices r) (pos 0)
        (λ less. rw (is_below (price_drop prices r) (pos 0) less) (omega (arith, ints, clamps, less)))
        (λ more. rw (is_not_below (price_drop prices r) (pos 0) more) (omega (arith, ints, clamps, more)))

-- what an amount moves, and d units less of it
less_moved : (q full d s a b e f net_a net_b : ℤ) → f ≡ neg_ℤ e → a ≡ (q *ℤ (full +ℤ d)) *ℤ e → b ≡ (q *ℤ full) *ℤ e → net_b +ℤ a ≡ net_a +ℤ b
    → net_a ≡ q *ℤ ((s +ℤ d *ℤ e) +ℤ d *ℤ f) → net_b ≡ q *ℤ (s +ℤ d *ℤ f)
less_moved q full d s a b e f net_a net_b turn a_is b_is moves is =
    let a1 : (q *ℤ (full +ℤ d)) *ℤ e ≡ (q *ℤ full) *ℤ e +ℤ q *ℤ (d *ℤ e) =
    ap (λ z. z *ℤ e) (mul-add q full d) ∙ add-mul (q *ℤ full) (q *ℤ d) e ∙ ap (λ z. (q *ℤ full) *ℤ e +ℤ z) (mul-assoc q d e) in
    omega (
      arith,
      ints,
      a_is,
      b_is,
      a1,
      moves,
      is,
      mul-add q (s +ℤ d *ℤ e) (d *ℤ f),
      mul-add q s (d *ℤ e),
      mul-add q s (d *ℤ f),
    )

more_moved : (q full d s a b e f net_a net_b : ℤ) → f ≡ neg_ℤ e → a ≡ (q *ℤ (full +ℤ d)) *ℤ e → b ≡ (q *ℤ full) *ℤ e → net_a +ℤ b ≡ net_b +ℤ a
    → net_b ≡ q *ℤ (s +ℤ d *ℤ f) → net_a ≡ q *ℤ ((s +ℤ d *ℤ e) +ℤ d *ℤ f)
more_moved q full d s a b e f net_a net_b turn a_is b_is moves is =
    let a1 : (q *ℤ (full +ℤ d)) *ℤ e ≡ (q *ℤ full) *ℤ e +ℤ q *ℤ (d *ℤ e) =
    ap (λ z. z *ℤ e) (mul-add q full d) ∙ add-mul (q *ℤ full) (q *ℤ d) e ∙ ap (λ z. (q *ℤ full) *ℤ e +ℤ z) (mul-assoc q d e) in
    omega (
      arith,
      ints,
      a_is,
      b_is,
      a1,
      moves,
      is,
      mul-add q (s +ℤ d *ℤ e) (d *ℤ f),
      mul-add q s (d *ℤ e),
      mul-add q s (d *ℤ f),
    )

module _ (d : ℤ) (d0 : pos 0 ≤ℤ d) where
  abbrev more : Option ℤ → Option ℤ
  more o = option_map (λ y. y +ℤ d) o

  rooms_wider : (steps : List Step) (o : Option ℤ) → AreRooms steps o → AreRooms steps (more o)
  rooms_wider [] (Some m) h = omega (arith, ints, h, d0)
  rooms_wider [] None h = h
  rooms_wider (s ∷ steps) o h = (h.0, rooms_wider steps o h.1)

  adds_wider : (steps : List Step) (o : Option ℤ) → Adds steps o → Adds steps (more o)
  adds_wider [] o h = tt
  adds_wider (s ∷ steps) o h = rooms_wider steps o h

  both_wider : (both : Bool) (least : ℤ) (steps : List Step) (o : Option ℤ) (c : ℤ) → MayBeBoth both least steps o c → MayBeBoth both least steps (more o) c
  both_wider true least steps o c h = (h.0, h.1, rooms_wider steps o h.2)
  both_wider false least steps o c h = tt

  pub wider_sound : (n : ℕ) (r : Route) → IsSoundRoute n r → IsSoundRoute n (wider d r)
  wider_sound n r h =
      record {
        tail_is_place = h.tail_is_place;
        head_is_place = h.head_is_place;
        rises = h.rises;
        adds = adds_wider r.steps r.last_most h.adds;
        may_be_both = both_wider r.both r.least r.steps r.last_most r.last_cost h.may_be_both;
      }

-- it has the same ends
same_tail : (prices : List ℤ) (d : ℤ) (r : Route) → (span prices (wider d r)).tail ≡ (span prices r).tail
same_tail prices d r = go (goes_back prices r)
  where
    go : (b : Bool) → (if b then turned (wider d r) else wider d r).tail ≡ (if b then turned r else r).tail
    go true = refl
    go false = refl

same_head : (prices : List ℤ) (d : ℤ) (r : Route) → (span prices (wider d r)).head ≡ (span prices r).head
same_head prices d r = go (goes_back prices r)
  where
    go : (b : Bool) → (if b then turned (wider d r) else wider d r).head ≡ (if b then turned r else r).head
    go true = refl
    go false = refl

module _ (m : Model) (prices plan : List ℤ) (k : ℕ) (d top : ℤ) (sound : IsSound m) (priced : IsPriced m prices plan) (hk : IsRouteNumber m k) (d0 : pos 0 ≤ℤ d)
    (e : (route_at m k).last_most ≡ Some top) (less : (route_at m k).last_cost <ℤ charged (route_at m k).both (price_drop prices (route_at m k))) where
  abbrev n : ℕ
  n = length m.supplies

  abbrev i : ℕ
  i = k - 1

  abbrev r : Route
  r = route_at m k

  abbrev r' : Route
  r' = wider d r

  abbrev full : ℤ
  full = room r.steps top

  abbrev from : ℕ
  from = (span prices r).tail

  abbrev to : ℕ
  to = (span prices r).head

  inside : i < length m.routes
  inside = omega (arith, hk.0, hk.1)

  here_sound : IsSoundRoute n r
  here_sound = sound i no_route inside

  abbrev x : ℤ
  x = get_or plan i (pos 0)

  best : IsBestAt prices r x
  best = AllZip-at (IsBestAt prices) m.routes plan i no_route (pos 0) priced.shown inside

  inside_plan : i < length plan
  inside_plan = omega (arith, inside, length-AllZip (IsBestAt prices) m.routes plan priced.shown)

  fits : r.least ≤ℤ full
  fits = subst (λ o. Fits r.steps o r.least) e (has_best n prices r here_sound x best).fits_least

  span_is : span prices r ≡ pinned (span prices r) full
  span_is = full_span n prices r top here_sound e fits less

  wide_is : r'.last_most ≡ Some (top +ℤ d)
  wide_is = ap (option_map (λ y. y +ℤ d)) e

  wide_sound : IsSoundRoute n r'
  wide_sound = wider_sound d d0 n r here_sound

  room_is : room r.steps (top +ℤ d) ≡ full +ℤ d
  room_is = room_more r.steps top d

  wide_fits : r.least ≤ℤ room r.steps (top +ℤ d)
  wide_fits = omega (arith, ints, room_is, fits, d0)

  wide_span_is : span prices r' ≡ pinned (span prices r') (full +ℤ d)
  wide_span_is = full_span n prices r' (top +ℤ d) wide_sound wide_is wide_fits less ∙ ap (pinned (span prices r')) room_is

  abbrev wide : Model
  wide = with_room m k d

  -- as if d units were carried away from its head by the room
  abbrev moved : Model
  moved = with_units wide from to d

  from_node : IsNode n from
  from_node = (span_sound n prices r here_sound).tail_is_place

  to_node : IsNode n to
  to_node = (span_sound n prices r here_sound).head_is_place

  abbrev amount : ℤ
  amount = span_amount prices r (full +ℤ d)

  abbrev raised : List ℤ
  raised = set plan i amount

  x_is : x ≡ span_amount prices r full
  x_is =
      let may : MayCarry (pinned (span prices r) full) (span_amount prices r x) = subst (λ s. MayCarry s (span_amount prices r x)) span_is (to_span n prices r here_sound x best) in
      let low = may.enough in
      let high = may.fits in
      let same : span_amount prices r x ≡ full = omega (arith, ints, low, high) in
      sym (twice prices r x) ∙ ap (span_amount prices r) same

  best_wide : IsBestAt prices r' amount
  best_wide =
      let may : MayCarry (span prices r') (full +ℤ d) = subst (λ s. MayCarry s (full +ℤ d)) (sym wide_span_is) (record { enough = omega (arith, ints); fits = omega (arith, ints) }) in
      of_span n prices r' wide_sound (record {
        limited = λ low. subst IsLimited (sym wide_is) tt;
        fits_least = subst (λ o. Fits r.steps o r.least) (sym wide_is) wide_fits;
      }) (full +ℤ d) may

  shown : AllZip (IsBestAt prices) wide.routes raised
  shown = AllZip-set_both (IsBestAt prices) m.routes plan i r' amount priced.shown best_wide

  as_long : length moved.supplies ≡ n
  as_long = as_long_both wide from to d from_node to_node

  moved_sound : IsSound moved
  moved_sound = subst (λ j. All (IsSoundRoute j) wide.routes) (sym as_long) (All-set (IsSoundRoute n) m.routes i r' wide_sound sound)

  -- ---- what it moves

  abbrev turn : ℕ → Route → ℤ → ℤ
  turn v q y = when (eqb q.tail v) y -ℤ when (eqb q.head v) y

  one_turn : (v : ℕ) (y : ℤ) → turn v r (span_amount prices r y) ≡ y *ℤ unit_at from to v
  one_turn v y = sym (one_net prices r y v) ∙ units_at from to v y

  raised_net : (v : ℕ) → net (λ q. q) wide.routes raised v ≡ net (λ q. q) m.routes plan v +ℤ d *ℤ unit_at from to v
  raised_net v =
      omega (
        arith,
        ints,
        plan_sum-set_route (turn v) m.routes raised i r' (λ y. refl),
        plan_sum-set (turn v) m.routes plan i amount inside inside_plan,
        one_turn v (full +ℤ d),
        ap (turn v r) x_is,
        one_turn v full,
        add-mul full d (unit_at from to v),
      )

  moved_priced : IsPriced moved prices raised
  moved_priced =
      record {
        is_plan = record {
          may_carry = AllZip-weaken (IsBestAt prices) MayCarry (λ q y b. b.may_carry) wide.routes raised shown;
          meets_supplies = λ v h.
              let hv : IsNode n v = (h.0, omega (arith, h.1, as_long)) in
              omega (
                arith,
                ints,
                net_self wide.routes raised v,
                raised_net v,
                net_self m.routes plan v,
                priced.is_plan.meets_supplies v hv,
                units_supply wide from to d from_node to_node v hv,
              );
        };
        shown = shown;
      }

  -- ---- what it costs

  some_room : r.both ≡ true → pos 0 ≤ℤ full
  some_room b = both_rooms r.both r.least r.steps r.last_most r.last_cost top here_sound.may_be_both e b

  raised_cost : plan_cost moved raised ≡ plan_cost m plan +ℤ r.last_cost *ℤ d
  raised_cost =
      let past = charge_past r.steps r.last_cost top d (subst (Adds r.steps) e here_sound.adds) d0 in
      let high = ap (charge r.steps r.last_cost) (charged_amount prices r (full +ℤ d) (λ b. let some = some_room b in omega (arith, ints, some, d0))) in
      let low = ap (route_cost r) x_is ∙ ap (charge r.steps r.last_cost) (charged_amount prices r full some_room) in
      omega (
        arith,
        ints,
        plan_sum-set_route route_cost m.routes raised i r' (λ y. refl),
        plan_sum-set route_cost m.routes plan i amount inside inside_plan,
        past,
        high,
        low,
      )

  saving_is : saving prices r ≡ charged r.both (price_drop prices r) -ℤ r.last_cost
  saving_is = ap (λ o. saving_if o (gain prices r)) e ∙ omega (arith, ints, clamps, less)

  told_is : told_cost moved prices raised to from d ≡ plan_cost m plan -ℤ d *ℤ saving prices r
  told_is =
      let g = charged r.both (price_drop prices r) in
      let down : at_node prices to -ℤ at_node prices from ≡ neg_ℤ g = omega (arith, ints, drop_is prices r) in
      omega (
        arith,
        ints,
        raised_cost,
        ap (λ z. d *ℤ z) down,
        mul-neg d g,
        ap (λ z. d *ℤ z) saving_is,
        mul-sub d g r.last_cost,
        *ℤ_comm d r.last_cost,
      )

  -- ---- the same plans

  to_moved : IsNode (length moved.supplies) to
  to_moved = (to_node.0, omega (arith, to_node.1, as_long))

  from_moved : IsNode (length moved.supplies) from
  from_moved = (from_node.0, omega (arith, from_node.1, as_long))

  abbrev back : Model
  back = with_units moved to from d

  module _ (q : ℤ) where
    same_supply : (v : ℕ) → IsNode n v → at_node (scaled q back).supplies v ≡ at_node (scaled q wide).supplies v
    same_supply v h =
        let there : IsNode (length moved.supplies) v = (h.0, omega (arith, h.1, as_long)) in
        let s = at_node m.supplies v in
        let u = unit_at from to v in
        let none : (s +ℤ d *ℤ u) +ℤ d *ℤ unit_at to from v ≡ s =
        omega (arith, ints, mul-neg d u, ap (λ z. d *ℤ z) (turned_unit v)) in
        finer_supply moved to from d to_moved from_moved q v there
        ∙ ap (λ z. q *ℤ (z +ℤ d *ℤ unit_at to from v)) (units_supply wide from to d from_node to_node v h)
        ∙ ap (λ z. q *ℤ z) none ∙ sym (finer_at moved to from d to_moved from_moved q m.supplies (v - 1))
      where
        turned_unit : (v : ℕ) → unit_at to from v ≡ neg_ℤ (unit_at from to v)
        turned_unit v = omega (arith, ints)

    long_back : length (scaled q back).supplies ≡ n
    long_back = as_long_finer moved to from d to_moved from_moved q ∙ as_long

    long_wide : length (scaled q wide).supplies ≡ n
    long_wide = length-times m.supplies
      where
        length-times : (xs : List ℤ) → length (map (λ z. q *ℤ z) xs) ≡ length xs
        length-times [] = refl
        length-times (x ∷ xs) = ap suc (length-times xs)

    to_back : (ys : List ℤ) → IsPlan (scaled q wide) ys → IsPlan (scaled q back) ys
    to_back ys is =
        record {
          may_carry = is.may_carry;
          meets_supplies = λ v h.
              let hv : IsNode n v = (h.0, omega (arith, h.1, long_back)) in
              is.meets_supplies v (h.0, omega (arith, h.1, long_back, long_wide)) ∙ sym (same_supply v hv);
        }

    to_wide : (ys : List ℤ) → IsPlan (scaled q back) ys → IsPlan (scaled q wide) ys
    to_wide ys is =
        record {
          may_carry = is.may_carry;
          meets_supplies = λ v h.
              let hv : IsNode n v = (h.0, omega (arith, h.1, long_wide)) in
              is.meets_supplies v (h.0, omega (arith, h.1, long_back, long_wide)) ∙ same_supply v hv;
        }

  -- ---- amounts of spans

  abbrev Moves : ℤ → List ℤ → Type 0
  Moves q zs = IsSpanned m prices plan to from sound priced to_node from_node q d zs

  abbrev WideMoves : ℤ → List ℤ → Type 0
  WideMoves q zs = IsSpanned moved prices raised to from moved_sound moved_priced to_moved from_moved q d zs

  abbrev Spans : ℤ → Route → ℤ → Type 0
  Spans q s z = MayCarry (scaled_route q (span prices s)) z

  abbrev span_turn : ℕ → Route → ℤ → ℤ
  span_turn v q y = when (eqb (span prices q).tail v) y -ℤ when (eqb (span prices q).head v) y

  same_turn : (v : ℕ) (y : ℤ) → span_turn v r' y ≡ span_turn v r y
  same_turn v y = ap (λ a. when (eqb a v) y -ℤ when (eqb (span prices r').head v) y) (same_tail prices d r) ∙ ap (λ a. when (eqb from v) y -ℤ when (eqb a v) y) (same_head prices d r)

  module _ (q : ℤ) where
    narrow_may : Spans q r (q *ℤ full)
    narrow_may = subst (λ s. MayCarry (scaled_route q s) (q *ℤ full)) (sym span_is) (record { enough = omega (arith, ints); fits = omega (arith, ints) })

    wide_may : Spans q r' (q *ℤ (full +ℤ d))
    wide_may = subst (λ s. MayCarry (scaled_route q s) (q *ℤ (full +ℤ d))) (sym wide_span_is) (record { enough = omega (arith, ints); fits = omega (arith, ints) })

    narrow_only : (z : ℤ) → Spans q r z → z ≡ q *ℤ full
    narrow_only z may =
        let it : MayCarry (scaled_route q (pinned (span prices r) full)) z = subst (λ s. MayCarry (scaled_route q s) z) span_is may in
        let low = it.enough in
        let high = it.fits in omega (arith, ints, low, high)

    wide_only : (z : ℤ) → Spans q r' z → z ≡ q *ℤ (full +ℤ d)
    wide_only z may =
        let it : MayCarry (scaled_route q (pinned (span prices r') (full +ℤ d))) z = subst (λ s. MayCarry (scaled_route q s) z) wide_span_is may in
        let low = it.enough in
        let high = it.fits in omega (arith, ints, low, high)

    turned_unit : (v : ℕ) → unit_at to from v ≡ neg_ℤ (unit_at from to v)
    turned_unit v = omega (arith, ints)

    to_narrow : (zs : List ℤ) → WideMoves q zs → Moves q (set zs i (q *ℤ full))
    to_narrow zs it =
        let long : i < length zs = omega (arith, inside, length-AllZip (Spans q) wide.routes zs it.may, length-set m.routes i r') in
        let here : Spans q r' (get_or zs i (pos 0)) =
        subst (λ s. Spans q s (get_or zs i (pos 0))) (set_at m.routes i r' no_route inside)
        (AllZip-at (Spans q) wide.routes zs i no_route (pos 0) it.may (omega (arith, inside, length-set m.routes i r'))) in
        let z_is = wide_only (get_or zs i (pos 0)) here in
        record {
          may = AllZip-unset (Spans q) m.routes zs i r' no_route (q *ℤ full) it.may narrow_may;
          meets = λ v h.
              let there : IsNode (length moved.supplies) v = (h.0, omega (arith, h.1, as_long)) in
              let u = unit_at from to v in
              less_moved q full d (at_node m.supplies v) (span_turn v r (get_or zs i (pos 0))) (span_turn v r (q *ℤ full)) u (unit_at to from v)
              (net (span prices) m.routes zs v) (net (span prices) m.routes (set zs i (q *ℤ full)) v) (turned_unit v)
              (ap (span_turn v r) z_is ∙ units_at from to v (q *ℤ (full +ℤ d))) (units_at from to v (q *ℤ full))
              (plan_sum-set (span_turn v) m.routes zs i (q *ℤ full) inside long)
              (sym (plan_sum-set_route (span_turn v) m.routes zs i r' (same_turn v)) ∙ it.meets v there
              ∙ ap (λ z. q *ℤ (z +ℤ d *ℤ unit_at to from v)) (units_supply wide from to d from_node to_node v h));
        }

    to_wider : (zs : List ℤ) → Moves q zs → WideMoves q (set zs i (q *ℤ (full +ℤ d)))
    to_wider zs it =
        let long : i < length zs = omega (arith, inside, length-AllZip (Spans q) m.routes zs it.may) in
        let here : Spans q r (get_or zs i (pos 0)) = AllZip-at (Spans q) m.routes zs i no_route (pos 0) it.may inside in
        let z_is = narrow_only (get_or zs i (pos 0)) here in
        record {
          may = AllZip-set_both (Spans q) m.routes zs i r' (q *ℤ (full +ℤ d)) it.may wide_may;
          meets = λ v h.
              let hv : IsNode n v = (h.0, omega (arith, h.1, as_long)) in
              let u = unit_at from to v in
              let raised_zs = set zs i (q *ℤ (full +ℤ d)) in
              plan_sum-set_route (span_turn v) m.routes raised_zs i r' (same_turn v)
              ∙ more_moved q full d (at_node m.supplies v) (span_turn v r (q *ℤ (full +ℤ d))) (span_turn v r (get_or zs i (pos 0))) u (unit_at to from v)
              (net (span prices) m.routes raised_zs v) (net (span prices) m.routes zs v) (turned_unit v) (units_at from to v (q *ℤ (full +ℤ d)))
              (ap (span_turn v r) z_is ∙ units_at from to v (q *ℤ full)) (plan_sum-set (span_turn v) m.routes zs i (q *ℤ (full +ℤ d)) inside long) (it.meets v hv)
              ∙ ap (λ z. q *ℤ (z +ℤ d *ℤ unit_at to from v)) (sym (units_supply wide from to d from_node to_node v hv));
        }

  -- ---- both ways

  saving_to : SavingHoldsFor m prices plan k d → HoldsFor m prices plan to from d
  saving_to s =
      let q = s.finer in
      let ys = s.reached.plan in
      let it = spanned_to moved prices raised to from moved_sound moved_priced to_moved from_moved q d s.is_finer ys (to_back q ys s.reached.is_plan)
      (s.reached.cost_is ∙ ap (λ z. q *ℤ z) (sym told_is)) in
      let zs = amounts prices wide.routes ys in
      spanned_from m prices plan to from sound priced to_node from_node q d s.is_finer (set zs i (q *ℤ full)) (to_narrow q zs it)

  saving_from : HoldsFor m prices plan to from d → SavingHoldsFor m prices plan k d
  saving_from s =
      let q = s.finer in
      let zs = amounts prices m.routes s.reached.plan in
      let it = spanned_to m prices plan to from sound priced to_node from_node q d s.is_finer s.reached.plan s.reached.is_plan s.reached.cost_is in
      let h = spanned_from moved prices raised to from moved_sound moved_priced to_moved from_moved q d s.is_finer (set zs i (q *ℤ (full +ℤ d))) (to_wider q zs it) in
      record {
        finer = h.finer;
        is_finer = h.is_finer;
        reached = record {
          plan = h.reached.plan;
          is_plan = to_wide h.finer h.reached.plan h.reached.is_plan;
          cost_is = h.reached.cost_is ∙ ap (λ z. h.finer *ℤ z) told_is;
        };
      }

pub room_is_units_lem : RoomIsUnits
room_is_units_lem m prices plan k d sound priced hk saves d0 = go (route_at m k).last_most refl
  where
    go : (o : Option ℤ) → (route_at m k).last_most ≡ o
        → SavingHoldsFor m prices plan k d
        ↔ HoldsFor m prices plan (directed prices (route_at m k)).head (directed prices (route_at m k)).tail d
    go (Some top) e =
        let gains : pos 0 <ℤ int_max (pos 0) (gain prices (route_at m k)) = subst (λ o. pos 0 <ℤ saving_if o (gain prices (route_at m k))) e saves in
        let less : (route_at m k).last_cost <ℤ charged (route_at m k).both (price_drop prices (route_at m k)) = omega (arith, ints, clamps, gains) in
        (saving_to m prices plan k d top sound priced hk d0 e less, saving_from m prices plan k d top sound priced hk d0 e less)
    go None e =
        let none : pos 0 <ℤ pos 0 = subst (λ o. pos 0 <ℤ saving_if o (gain prices (route_at m k))) e saves in absurd (omega (arith, ints, none))
