-- Distances tell from what to what the cost of an arc may change.
use Rattle.std.proofs.Common.{◌≡◌, ◌≢◌, ℕ, suc, ◌-◌, ◌<◌, Bool, true, false, List, [], ◌∷◌, length, get_or, map, refl, ap, sym, ◌∙◌, subst, arith, ℤ, pos, ◌+ℤ◌, ◌-ℤ◌, neg_ℤ, ◌≤ℤ◌, ◌<ℤ◌, Option, Some, None, option_map, IfSome, inl, inr, length-set}
use Rattle.std.specs.List.{All, range_with_len}
use Rattle.std.proofs.lemmas.Bool.{cases_eq}
use Rattle.std.proofs.lemmas.Int.{by_lt_z, ints}
use Rattle.std.proofs.lemmas.List.{get_or_default}
use Rattle.std.proofs.lemmas.List.Elements.{All-cons, All-head, All-tail}
use Rattle.std.proofs.lemmas.List.FromFn.{get_or-map-range_with_len}
use Rattle.std.proofs.lemmas.List.Kept.{AllPairs-cons}
use Rattle.mcf_flows.specs.declared.arc.Arc.{Arc}
use Rattle.mcf_flows.specs.Flow.{CanCarry, IsComplementary, IsFeasible, IsLeast, Shows, reduced_cost}
use Rattle.mcf_flows.specs.Network.{Network, IsArcNumber, IsNode, at_node, node_count}
use Rattle.mcf_flows.specs.WellFormed.{HasEnds}
use Rattle.mcf_flows.proofs.AllZips.{AllZip-at, AllZip_from, length-AllZip}
use Rattle.mcf_flows.proofs.Duality.{shown_flows_are_least_lem}
use Rattle.mcf_network.specs.declared.rid.Rid.{Rid}
use Rattle.mcf_network.specs.Residual.{no_arc, arc_at, head, tail, unit_cost}
use Rattle.mcf_network.specs.TreeSolutions.{at_arc}
use Rattle.mcf_network.specs.Walks.{IsWalk, walk_cost}
use Rattle.mcf_network.proofs.StateLaws.{rid}
use Rattle.mcf_ranges.specs.Ranges.{IsCostRange, IsInRange, IsShownInRange, with_cost}
use Rattle.mcf_ranges.specs.Private.Distances.{IsFall, IsOpen, IsPath, IsRise, length_of, room_in}
use Rattle.mcf_ranges.proofs.Costs.{alike, arc_here, arc_other, ends_still, feasible_still}
use Rattle.mcf_ranges.proofs.Pushes.{CanGo, IsRoomy, no_walk_earns}

-- ---- options

if_some_mapped : (o found : Option ℤ) (m : ℤ → ℤ) (P Q : ℤ → Type 0) → o ≡ option_map m found → ((z : ℤ) → Q z → P (m z)) → IfSome found Q → IfSome o P
if_some_mapped o None m P Q e f h = subst (λ (x : Option ℤ). IfSome x P) (sym e) tt
if_some_mapped o (Some z) m P Q e f h = subst (λ (x : Option ℤ). IfSome x P) (sym e) (f z h)

if_some_back : (o found : Option ℤ) (m : ℤ → ℤ) (P Q : ℤ → Type 0) → o ≡ option_map m found → ((z : ℤ) → P (m z) → Q z) → IfSome o P → IfSome found Q
if_some_back o None m P Q e f h = tt
if_some_back o (Some z) m P Q e f h = f z (subst (λ (x : Option ℤ). IfSome x P) e h)

if_none : (o : Option ℤ) (P : ℤ → Type 0) → o ≡ None → IfSome o P
if_none o P e = subst (λ (x : Option ℤ). IfSome x P) (sym e) tt

-- ---- with another cost, all else stays

module _ (g : Network) (k : ℕ) (c : ℤ) (hk : IsArcNumber g k) where
  number_still : (j : ℕ) → IsArcNumber g j → IsArcNumber (with_cost g k c) j
  number_still j h = (h.0, omega (arith, h, length-set g.arcs (k - 1) (record (arc_at g k) { cost = c })))

  tail_still : (j : ℕ) (b : Bool) → IsArcNumber g j → tail (with_cost g k c) (rid j b) ≡ tail g (rid j b)
  tail_still j true h = (alike g k j c hk h).dst
  tail_still j false h = (alike g k j c hk h).src

  head_still : (j : ℕ) (b : Bool) → IsArcNumber g j → head (with_cost g k c) (rid j b) ≡ head g (rid j b)
  head_still j true h = (alike g k j c hk h).src
  head_still j false h = (alike g k j c hk h).dst

  room_still : (flow : List ℤ) (j : ℕ) (b : Bool) → IsArcNumber g j → room_in (with_cost g k c) flow (rid j b) ≡ room_in g flow (rid j b)
  room_still flow j true h = ap (λ z. at_arc flow j -ℤ z) (alike g k j c hk h).low
  room_still flow j false h = ap (λ z. z -ℤ at_arc flow j) (alike g k j c hk h).cap

  cost_still : (j : ℕ) (b : Bool) → IsArcNumber g j → j ≢ k → unit_cost (with_cost g k c) (rid j b) ≡ unit_cost g (rid j b)
  cost_still j true h n = ap (λ (a : Arc). neg_ℤ a.cost) (arc_other g k j c hk h n)
  cost_still j false h n = ap (λ (a : Arc). a.cost) (arc_other g k j c hk h n)

  walk_still : (flow : List ℤ) (walk : List Rid) (u w : ℕ) → All (IsOpen g flow k) walk → IsWalk g u walk w → IsWalk (with_cost g k c) u walk w
  walk_still flow [] u w open_arcs goes = goes
  walk_still flow (r ∷ rest) u w open_arcs goes =
      let here = All-head (IsOpen g flow k) r rest open_arcs in (
        tail_still r.arc r.back here.arc ∙ goes.0,
        subst (λ v. IsWalk (with_cost g k c) v rest w) (sym (head_still r.arc r.back here.arc))
            (walk_still flow rest (head g r) w (All-tail (IsOpen g flow k) r rest open_arcs) goes.1),
      )

  walk_cost_still : (flow : List ℤ) (walk : List Rid) → All (IsOpen g flow k) walk → walk_cost (with_cost g k c) walk ≡ walk_cost g walk
  walk_cost_still flow [] open_arcs = refl
  walk_cost_still flow (r ∷ rest) open_arcs =
      let here = All-head (IsOpen g flow k) r rest open_arcs in
      ap (λ z. z +ℤ walk_cost (with_cost g k c) rest) (cost_still r.arc r.back here.arc here.other)
      ∙ ap (λ z. unit_cost g r +ℤ z) (walk_cost_still flow rest (All-tail (IsOpen g flow k) r rest open_arcs))

  -- where the flow is least, going round through arc k earns nothing
  round_earns_nothing : (flow prices : List ℤ) (b : Bool) (walk : List Rid) (z : ℤ) → IsLeast (with_cost g k c) flow → pos 0 <ℤ room_in g flow (rid k b)
      → IsPath g flow prices k (head g (rid k b)) (tail g (rid k b)) walk z → pos 0 ≤ℤ (unit_cost (with_cost g k c) (rid k b) +ℤ walk_cost g walk)
  round_earns_nothing flow prices b walk z least room path =
      let roomy : All (IsRoomy (with_cost g k c) flow) walk = λ i d h.
      let o = path.open_arcs i d h in
      let r = get_or walk i d in
      let arc = o.arc in
      let more = o.room in
      record { arc = number_still r.arc arc; room = omega (arith, ints, room_still flow r.arc r.back arc, more) } in
      let can : CanGo (with_cost g k c) flow (rid k b ∷ walk) = record {
        roomy = All-cons (IsRoomy (with_cost g k c) flow) (rid k b) walk
            (record { arc = number_still k hk; room = omega (arith, ints, room_still flow k b hk, room) }) roomy;
        distinct = AllPairs-cons (λ (r q : Rid). r ≢ q) (rid k b) walk
            (λ i d h e. (path.open_arcs i d h).other (sym (ap (λ (r : Rid). r.arc) e)))
            (λ i j d h l e. path.once i j d h l (ap (tail g) e));
      } in
      let closed : IsWalk (with_cost g k c) (tail (with_cost g k c) (rid k b)) (rid k b ∷ walk) (tail (with_cost g k c) (rid k b)) = (
        refl,
        subst (λ v. IsWalk (with_cost g k c) v walk (tail (with_cost g k c) (rid k b))) (sym (head_still k b hk))
            (subst (λ v. IsWalk (with_cost g k c) (head g (rid k b)) walk v) (sym (tail_still k b hk)) (walk_still flow walk (head g (rid k b)) (tail g (rid k b)) path.open_arcs path.goes)),
      ) in
      let le = no_walk_earns (with_cost g k c) flow (rid k b ∷ walk) (tail (with_cost g k c) (rid k b)) least can closed in
      omega (arith, ints, le, walk_cost_still flow walk path.open_arcs)

-- ---- a flow with prices that show it

module _ (g : Network) (flow prices : List ℤ) (k : ℕ) (ends : All (HasEnds (node_count g)) g.arcs) (feasible : IsFeasible g flow)
    (shown : Shows g.arcs prices flow) where
  carried : (j : ℕ) → IsArcNumber g j → CanCarry (arc_at g j) (at_arc flow j)
  carried j h = AllZip-at CanCarry g.arcs flow (j - 1) no_arc (pos 0) feasible.within_bounds (omega arith)

  complementary : (j : ℕ) → IsArcNumber g j → IsComplementary prices (arc_at g j) (at_arc flow j)
  complementary j h = AllZip-at (IsComplementary prices) g.arcs flow (j - 1) no_arc (pos 0) shown (omega arith)

  -- no length is below 0
  length_low : (j : ℕ) (b : Bool) → IsArcNumber g j → pos 0 <ℤ room_in g flow (rid j b) → pos 0 ≤ℤ length_of g prices (rid j b)
  length_low j true h room =
      by_lt_z (pos 0) (reduced_cost prices (arc_at g j)) (λ more. let e = (complementary j h).0 more in absurd (omega (arith, ints, e, room))) (λ done. omega (arith, ints, done))
  length_low j false h room =
      by_lt_z (reduced_cost prices (arc_at g j)) (pos 0) (λ less. let e = (complementary j h).1 less in absurd (omega (arith, ints, e, room))) (λ done. omega (arith, ints, done))

  pub open_length_low : (r : Rid) → IsOpen g flow k r → pos 0 ≤ℤ length_of g prices r
  open_length_low r o = length_low r.arc r.back o.arc o.room

  -- ---- labels make prices

  abbrev lowered : (ℕ → ℤ) → List ℤ
  lowered label = map (λ v. at_node prices v -ℤ label v) (range_with_len 1 (node_count g))

  lowered_at : (label : ℕ → ℤ) (v : ℕ) → IsNode (node_count g) v → at_node (lowered label) v ≡ at_node prices v -ℤ label v
  lowered_at label v h =
      get_or-map-range_with_len (λ w. at_node prices w -ℤ label w) 1 (node_count g) (v - 1) v (pos 0) (omega arith) (omega arith)

  -- labels that rise along no open arc by more than its length
  abbrev Rises : (ℕ → ℤ) → Type 0
  Rises label = (r : Rid) → IsOpen g flow k r → label (head g r) ≤ℤ (label (tail g r) +ℤ length_of g prices r)

  zeros_rise : Rises (λ v. pos 0)
  zeros_rise r o = let low = open_length_low r o in omega (arith, ints, low)

  -- the reduced cost of an arc by the prices that labels make
  lowered_cost : (label : ℕ → ℤ) (a : Arc) → HasEnds (node_count g) a
      → reduced_cost (lowered label) a ≡ a.cost -ℤ (at_node prices a.src -ℤ label a.src) +ℤ (at_node prices a.dst -ℤ label a.dst)
  lowered_cost label a e = omega (arith, ints, lowered_at label a.src e.src_is_node, lowered_at label a.dst e.dst_is_node)

  -- they show the flow at another arc than k
  shown_other : (label : ℕ → ℤ) (j : ℕ) → Rises label → IsArcNumber g j → j ≢ k → IsComplementary (lowered label) (arc_at g j) (at_arc flow j)
  shown_other label j rises h n =
      let a = arc_at g j in
      let f = at_arc flow j in
      let within = carried j h in
      let is = lowered_cost label a (ends (j - 1) no_arc (omega arith)) in (
        (λ more.
            by_lt_z a.low f
            (λ used. let le = rises (rid j true) (record { arc = h; other = n; room = omega (arith, ints, used) }) in absurd (omega (arith, ints, le, is, more)))
            (λ idle. omega (arith, ints, idle, within))),
        (λ less.
            by_lt_z f a.cap
            (λ free. let le = rises (rid j false) (record { arc = h; other = n; room = omega (arith, ints, free) }) in absurd (omega (arith, ints, le, is, less)))
            (λ full. omega (arith, ints, full, within))),
      )

  module _ (hk : IsArcNumber g k) where
    -- what they have to do at arc k
    abbrev ShowsAt : ℤ → (ℕ → ℤ) → Type 0
    ShowsAt c label = IsComplementary (lowered label) (record (arc_at g k) { cost = c }) (at_arc flow k)

    shown_each : (c : ℤ) (label : ℕ → ℤ) (j : ℕ) → Rises label → ShowsAt c label → IsArcNumber g j
        → IsComplementary (lowered label) (arc_at (with_cost g k c) j) (at_arc flow j)
    shown_each c label j rises here h =
        elim (cases_eq j k) [
          | inl e ↦
              subst (λ (a : Arc). IsComplementary (lowered label) a (at_arc flow j)) (sym (arc_here g k j c hk e))
              (subst (λ i. IsComplementary (lowered label) (record (arc_at g k) { cost = c }) (at_arc flow i)) (sym e) here)
          | inr n ↦ subst (λ (a : Arc). IsComplementary (lowered label) a (at_arc flow j)) (sym (arc_other g k j c hk h n)) (shown_other label j rises h n)
        ]

    -- prices that show the flow at that cost
    abbrev IsShownAt : ℤ → Type 0
    IsShownAt c = (prices : List ℤ) × Shows (with_cost g k c).arcs prices flow

    shown_by : (c : ℤ) (label : ℕ → ℤ) → Rises label → ShowsAt c label → IsShownAt c
    shown_by c label rises here =
        let bounds = (feasible_still g flow k c hk feasible).within_bounds in
        let count : length (with_cost g k c).arcs ≡ length flow = length-AllZip CanCarry (with_cost g k c).arcs flow bounds in
        let same = length-set g.arcs (k - 1) (record (arc_at g k) { cost = c }) in (
          lowered label,
          AllZip_from (IsComplementary (lowered label)) (with_cost g k c).arcs flow count (λ i h x y.
              let e : suc i - 1 ≡ i = omega arith in
              let number : IsArcNumber g (suc i) = (omega arith, omega (arith, h, same)) in
              let at : IsComplementary (lowered label) (get_or (with_cost g k c).arcs i no_arc) (get_or flow i (pos 0)) =
              subst (λ m. IsComplementary (lowered label) (get_or (with_cost g k c).arcs m no_arc) (get_or flow m (pos 0))) e (shown_each c label (suc i) rises here number) in
              let long : i < length flow = omega (arith, h, count) in
              subst (λ (a : Arc). IsComplementary (lowered label) a (get_or flow i y)) (get_or_default (with_cost g k c).arcs i no_arc x h)
              (subst (λ z. IsComplementary (lowered label) (get_or (with_cost g k c).arcs i no_arc) z) (get_or_default flow i (pos 0) y long) at)),
        )

    -- so the flow is least with that cost
    least_at : (c : ℤ) → IsShownAt c → IsLeast (with_cost g k c) flow
    least_at c shown =
        shown_flows_are_least_lem (with_cost g k c) shown.0 flow (ends_still g k c hk ends) (feasible_still g flow k c hk feasible) shown.1

    -- ---- the range

    -- the reduced cost of arc k at another cost
    abbrev at_cost : ℤ → ℤ
    at_cost c = c -ℤ at_node prices (arc_at g k).src +ℤ at_node prices (arc_at g k).dst

    shows_at : (c : ℤ) (label : ℕ → ℤ) (e : ℤ) → at_cost c +ℤ label (arc_at g k).src -ℤ label (arc_at g k).dst ≡ e
        → (pos 0 <ℤ e → at_arc flow k ≡ (arc_at g k).low) → (e <ℤ pos 0 → at_arc flow k ≡ (arc_at g k).cap) → ShowsAt c label
    shows_at c label e is above below =
        let ends_here = ends (k - 1) no_arc (omega arith) in
        let a : Arc = record (arc_at g k) { cost = c } in
        let reduced : reduced_cost (lowered label) a ≡ e =
        lowered_cost label a (record { src_is_node = ends_here.src_is_node; dst_is_node = ends_here.dst_is_node }) ∙ omega (arith, ints, is) in (
          (λ more. above (omega (arith, ints, more, reduced))),
          (λ less. below (omega (arith, ints, less, reduced))),
        )

    -- with no labels, where arc k carries what its reduced cost asks for
    shown_as_is : (c : ℤ) → (pos 0 <ℤ at_cost c → at_arc flow k ≡ (arc_at g k).low) → (at_cost c <ℤ pos 0 → at_arc flow k ≡ (arc_at g k).cap)
        → IsShownAt c
    shown_as_is c above below =
        shown_by c (λ v. pos 0) zeros_rise (shows_at c (λ v. pos 0) (at_cost c) (omega (arith, ints)) above below)

    -- with labels that make the reduced cost of arc k 0
    shown_by_zero : (c : ℤ) (label : ℕ → ℤ) → Rises label → at_cost c +ℤ label (arc_at g k).src -ℤ label (arc_at g k).dst ≡ pos 0 → IsShownAt c
    shown_by_zero c label rises zero =
        shown_by c label rises (shows_at c label (pos 0) zero (λ more. absurd (omega (arith, ints, more))) (λ less. absurd (omega (arith, ints, less))))

    module _ (down up : Option ℤ) (rise : IsRise g flow prices k up) (fall : IsFall g flow prices k down) where
      -- a least flow keeps the cost in the range
      not_too_high : (c : ℤ) → IsLeast (with_cost g k c) flow → IfSome up (λ u. c ≤ℤ ((arc_at g k).cost +ℤ u))
      not_too_high c least =
          by_lt_z (arc_at g k).low (at_arc flow k)
          (λ used.
          let (found, distance, is) = rise.used used in
          if_some_mapped up found (λ z. z -ℤ reduced_cost prices (arc_at g k)) (λ u. c ≤ℤ ((arc_at g k).cost +ℤ u))
          (λ z. (walk : List Rid) × IsPath g flow prices k (arc_at g k).src (arc_at g k).dst walk z) is
          (λ z p.
          let path = p.1 in
          let le = round_earns_nothing g k c hk flow prices true p.0 z least (omega (arith, ints, used)) path in
          let long = path.length_is in
          let cost = ap (λ (a : Arc). a.cost) (arc_here g k k c hk refl) in
          omega (arith, ints, le, long, cost))
          distance.path)
          (λ most. let idle : at_arc flow k ≡ (arc_at g k).low = omega (arith, ints, most, carried k hk) in if_none up (λ u. c ≤ℤ ((arc_at g k).cost +ℤ u)) (rise.idle idle))

      not_too_low : (c : ℤ) → IsLeast (with_cost g k c) flow → IfSome down (λ d. ((arc_at g k).cost -ℤ d) ≤ℤ c)
      not_too_low c least =
          by_lt_z (at_arc flow k) (arc_at g k).cap
          (λ free.
          let (found, distance, is) = fall.free free in
          if_some_mapped down found (λ z. z +ℤ reduced_cost prices (arc_at g k)) (λ d. ((arc_at g k).cost -ℤ d) ≤ℤ c)
          (λ z. (walk : List Rid) × IsPath g flow prices k (arc_at g k).dst (arc_at g k).src walk z) is
          (λ z p.
          let path = p.1 in
          let le = round_earns_nothing g k c hk flow prices false p.0 z least (omega (arith, ints, free)) path in
          let long = path.length_is in
          let cost = ap (λ (a : Arc). a.cost) (arc_here g k k c hk refl) in
          omega (arith, ints, le, long, cost))
          distance.path)
          (λ least_cap. let full : at_arc flow k ≡ (arc_at g k).cap = omega (arith, ints, least_cap, carried k hk) in if_none down (λ d. ((arc_at g k).cost -ℤ d) ≤ℤ c) (fall.full full))

      -- at a cost in the range some prices show the flow
      shown_above : (c : ℤ) → IfSome up (λ u. c ≤ℤ ((arc_at g k).cost +ℤ u)) → pos 0 <ℤ at_cost c → IsShownAt c
      shown_above c most more =
          by_lt_z (arc_at g k).low (at_arc flow k)
          (λ used.
          let (found, distance, is) = rise.used used in
          let reach : IfSome found (λ z. at_cost c ≤ℤ z) =
          if_some_back up found (λ z. z -ℤ reduced_cost prices (arc_at g k)) (λ u. c ≤ℤ ((arc_at g k).cost +ℤ u)) (λ z. at_cost c ≤ℤ z) is
          (λ z le. omega (arith, ints, le)) most in
          let labels = distance.potential (at_cost c) (omega (arith, ints, more)) reach in
          let begins = labels.begins in
          let ends_at = labels.ends in
          shown_by_zero c labels.label labels.rises (omega (arith, ints, begins, ends_at)))
          (λ idle. shown_as_is c (λ m. omega (arith, ints, idle, carried k hk)) (λ less. absurd (omega (arith, ints, more, less))))

      shown_below : (c : ℤ) → IfSome down (λ d. ((arc_at g k).cost -ℤ d) ≤ℤ c) → at_cost c <ℤ pos 0 → IsShownAt c
      shown_below c least less =
          by_lt_z (at_arc flow k) (arc_at g k).cap
          (λ free.
          let (found, distance, is) = fall.free free in
          let reach : IfSome found (λ z. neg_ℤ (at_cost c) ≤ℤ z) =
          if_some_back down found (λ z. z +ℤ reduced_cost prices (arc_at g k)) (λ d. ((arc_at g k).cost -ℤ d) ≤ℤ c) (λ z. neg_ℤ (at_cost c) ≤ℤ z) is
          (λ z le. omega (arith, ints, le)) least in
          let labels = distance.potential (neg_ℤ (at_cost c)) (omega (arith, ints, less)) reach in
          let begins = labels.begins in
          let ends_at = labels.ends in
          shown_by_zero c labels.label labels.rises (omega (arith, ints, begins, ends_at)))
          (λ full. shown_as_is c (λ more. absurd (omega (arith, ints, more, less))) (λ m. omega (arith, ints, full, carried k hk)))

      shown_in_range : (c : ℤ) → IsInRange (arc_at g k).cost (record { down = down; up = up }) c → IsShownAt c
      shown_in_range c range =
          by_lt_z (pos 0) (at_cost c) (λ more. shown_above c range.1 more)
          (λ most.
          by_lt_z (at_cost c) (pos 0) (λ less. shown_below c range.0 less)
          (λ least. shown_as_is c (λ more. absurd (omega (arith, ints, most, more))) (λ less. absurd (omega (arith, ints, least, less)))))

      pub is_cost_range : IsCostRange g flow k (record { down = down; up = up })
      is_cost_range c = ((λ range. least_at c (shown_in_range c range)), (λ least. (not_too_low c least, not_too_high c least)))

      pub is_shown_in_range : IsShownInRange g flow k (record { down = down; up = up })
      is_shown_in_range c range = shown_in_range c range
