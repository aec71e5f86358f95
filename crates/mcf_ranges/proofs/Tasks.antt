-- What is known of the task of a search, and of the net that tells its arcs.
use Rattle.std.proofs.Common.{◌≡◌, ℕ, ◌-◌, ◌*◌, ◌<◌, Bool, true, false, IsTrue, ◌↔◌, Option, Some, option_map, Result, Ok, Err, OnErr, ◌≤◌, List, [], ◌∷◌, ◌++◌, ◌+◌, length, get_or, take, ap, sym, ◌∙◌, subst, refl, arith, ℤ, pos, ◌+ℤ◌, ◌-ℤ◌, ◌≤ℤ◌, ◌<ℤ◌, length-set, inl, to_z, of_z}
use Rattle.std.specs.Int.{w128}
use Rattle.std.specs.Prelude.{slice_get}
use Rattle.std.specs.List.{All, AllZip}
use lib.Signed.{lt_z}
use Rattle.std.proofs.lemmas.Int.{ints}
use Rattle.std.proofs.lemmas.List.{get_or-map, take_more}
use Rattle.std.proofs.lemmas.List.Elements.{All-head, All-tail}
use Rattle.std.proofs.lemmas.Option.{get_or_from_slice_get}
use Rattle.mcf_flows.specs.declared.arc.Arc.{Arc}
use Rattle.mcf_flows.specs.Blocking.{in_table}
use Rattle.mcf_flows.specs.Flow.{CanCarry, reduced_cost}
use Rattle.mcf_flows.specs.Limits.{limits}
use Rattle.mcf_flows.specs.Network.{Network, IsArcNumber, at_node, node_count}
use Rattle.mcf_flows.specs.WellFormed.{HasEnds, IsArcWithinLimits, IsUpTo, IsWellFormed}
use Rattle.mcf_flows.proofs.AllZips.{AllZip-at, length-AllZip}
use Rattle.mcf_network.specs.declared.rid.Rid.{Rid}
use Rattle.mcf_network.specs.NodeSets.{member_count, with_node}
use Rattle.mcf_network.specs.Removal.{net_of, without_low}
use Rattle.mcf_network.specs.Residual.{no_arc, arc_at, head, tail}
use Rattle.mcf_network.specs.Stars.{Leaves, ListsLeaving}
use Rattle.mcf_network.specs.TreeSolutions.{at_arc}
use Rattle.mcf_network.proofs.ArcLaws.{arcs_need_nodes}
use Rattle.mcf_network.proofs.Marks.{count_small}
use Rattle.mcf_network.proofs.RemovalLaws.{net_of-node_count}
use Rattle.mcf_network.proofs.RestoringLaws.{net_of-arc_count}
use Rattle.mcf_network.proofs.StateLaws.{rid}
use Rattle.mcf_engine.specs.Heaps.{IsFirst, Keyed, Waits, waiting_with, without}
use Rattle.mcf_engine.specs.SmallPrices.{price_limit}
use Rattle.mcf_ranges.specs.declared.range.CostRange.{CostRange}
use Rattle.mcf_ranges.specs.Private.Distances.{IsDistance, IsFall, IsOpen, IsRise, length_of, room_in}
use Rattle.mcf_ranges.specs.Private.Searches.{IsLast, IsSearch, IsStep, Task, distance_limit, length_limit}
use Rattle.mcf_ranges.specs.Private.Shown.{HasEndNodes, IsShown, ShownFlow, flow_of}
use Rattle.mcf_ranges.proofs.RangeLaws.{open_length_low}
use Rattle.mcf_ranges.proofs.Searching.{HasLeaving, IsTask, lowered_step, one_more, passed, relaxed_settled, relaxed_waiting, settled_last, settled_next}

-- ---- the net has the same arcs, but for their bounds

net_arc : (g : Network) (j : ℕ) → IsArcNumber g j → arc_at (net_of g) j ≡ without_low (arc_at g j)
unfolding net_of
net_arc g j h = get_or-map without_low g.arcs (j - 1) no_arc no_arc (omega arith)

net_tail_of : (g : Network) (j : ℕ) (b : Bool) → IsArcNumber g j → tail (net_of g) (rid j b) ≡ tail g (rid j b)
net_tail_of g j true h = ap (λ (a : Arc). a.dst) (net_arc g j h)
net_tail_of g j false h = ap (λ (a : Arc). a.src) (net_arc g j h)

net_head_of : (g : Network) (j : ℕ) (b : Bool) → IsArcNumber g j → head (net_of g) (rid j b) ≡ head g (rid j b)
net_head_of g j true h = ap (λ (a : Arc). a.src) (net_arc g j h)
net_head_of g j false h = ap (λ (a : Arc). a.dst) (net_arc g j h)

pub net_tail : (g net : Network) (r : Rid) → net ≡ net_of g → IsArcNumber g r.arc → tail net r ≡ tail g r
net_tail g net r e h = ap (λ n. tail n r) e ∙ net_tail_of g r.arc r.back h

pub net_head : (g net : Network) (r : Rid) → net ≡ net_of g → IsArcNumber g r.arc → head net r ≡ head g r
net_head g net r e h = ap (λ n. head n r) e ∙ net_head_of g r.arc r.back h

pub net_number : (g net : Network) (j : ℕ) → net ≡ net_of g → IsArcNumber g j → IsArcNumber net j
net_number g net j e h = (h.0, omega (arith, h, net_of-arc_count g, ap (λ (n : Network). length n.arcs) e))

pub number_of : (g net : Network) (j : ℕ) → net ≡ net_of g → IsArcNumber net j → IsArcNumber g j
number_of g net j e h = (h.0, omega (arith, h, net_of-arc_count g, ap (λ (n : Network). length n.arcs) e))

pub net_nodes : (g net : Network) → net ≡ net_of g → node_count net ≡ node_count g
net_nodes g net e = ap node_count e ∙ net_of-node_count g

-- a list of what leaves a node in the net has the open arcs that leave it
pub leaving_open : (t : Task) (net : Network) (v : ℕ) (rest : List Rid) → net ≡ net_of t.network → ListsLeaving net v rest → HasLeaving t v rest
leaving_open t net v rest e lists = λ r o from.
    lists.every r (record { arc = net_number t.network net r.arc e o.arc; from = net_tail t.network net r e o.arc ∙ from })

-- ---- the task

-- the reduced cost of an arc is small
pub reduced_small : (s : ShownFlow) (j : ℕ) → IsShown s → IsArcNumber s.network j → IsUpTo (3 * price_limit) (reduced_cost s.prices (arc_at s.network j))
reduced_small s j shown h =
    let within : j - 1 < length s.network.arcs = omega arith in
    let ends = shown.well_formed.ends (j - 1) no_arc within in
    let cost = (shown.well_formed.within.arcs (j - 1) no_arc within).cost_small in
    let count = shown.one_per_node in
    let src = ends.src_is_node in
    let dst = ends.dst_is_node in
    let a = shown.small ((arc_at s.network j).src - 1) (pos 0) (omega (arith, src, count)) in
    let b = shown.small ((arc_at s.network j).dst - 1) (pos 0) (omega (arith, dst, count)) in
    (omega (arith, ints, cost, a, b), omega (arith, ints, cost, a, b))

length_small : (s : ShownFlow) (j : ℕ) (b : Bool) → IsShown s → IsArcNumber s.network j → IsUpTo length_limit (length_of s.network s.prices (rid j b))
length_small s j true shown h = let small = reduced_small s j shown h in (omega (arith, ints, small), omega (arith, ints, small))
length_small s j false shown h = let small = reduced_small s j shown h in (omega (arith, ints, small), omega (arith, ints, small))

pub is_task : (t : Task) → IsShown (flow_of t) → HasEndNodes t → IsTask t
is_task t shown ends =
    record {
      ends = shown.well_formed.ends;
      few = shown.well_formed.nodes;
      from_is_node = ends.from_is_node;
      to_is_node = ends.to_is_node;
      low = λ r o. open_length_low t.network t.flow t.prices t.k shown.well_formed.ends shown.feasible shown.shows r o;
      small = λ r o. (length_small (flow_of t) r.arc r.back shown o.arc).1;
    }

-- a flow for each arc
pub flow_count : (s : ShownFlow) → IsShown s → length s.network.arcs ≡ length s.flow
flow_count s shown = length-AllZip CanCarry s.network.arcs s.flow shown.feasible.within_bounds

-- ---- a scan

-- what is known of a scan of the residual arcs that leave a node, of which these are still to come
pub record IsScanning (t : Task) (net : Network) (h : Keyed) (marks : List Bool) (v : ℕ) (base : ℤ) (rest : List Rid) : Type 0 where
  pub leaves : All (Leaves net v) rest
  pub last : IsLast t h marks v
  pub base_is : base ≡ at_node h.keys v
  pub search : IsSearch t h marks rest

pub scanning_starts : (t : Task) (net : Network) (h : Keyed) (marks : List Bool) (v : ℕ) (base : ℤ) (list : List Rid) → ListsLeaving net v list
    → IsLast t h marks v → base ≡ at_node h.keys v → ((rest : List Rid) → ListsLeaving net v rest → IsSearch t h marks rest) → IsScanning t net h marks v base list
scanning_starts t net h marks v base list lists last is search =
    record { leaves = lists.each_leaves; last = last; base_is = is; search = search list lists }

pub scanning_next : (t : Task) (net : Network) (h h' : Keyed) (marks : List Bool) (v : ℕ) (base : ℤ) (r : Rid) (rest : List Rid)
    → IsScanning t net h marks v base (r ∷ rest) → IsStep t h h' marks r → IsScanning t net h' marks v base rest
scanning_next t net h h' marks v base r rest scan step =
    let last = scan.last in
    let kept = step.keeps v last.is_node last.settled in
    record {
      leaves = All-tail (Leaves net v) r rest scan.leaves;
      last = record {
        is_node = last.is_node;
        settled = last.settled;
        last = λ a i e. let le = last.last a i e in let same = step.keeps a i e in omega (arith, ints, le, same, kept);
      };
      base_is = scan.base_is ∙ sym kept;
      search = step.search rest scan.search;
    }

-- the residual arc that comes next
pub record IsNext (t : Task) (h : Keyed) (marks : List Bool) (base : ℤ) (r : Rid) : Type 0 where
  pub arc : IsArcNumber t.network r.arc
  pub last : IsLast t h marks (tail t.network r)
  pub base_is : base ≡ at_node h.keys (tail t.network r)

pub scanned_next : (t : Task) (net : Network) (h : Keyed) (marks : List Bool) (v : ℕ) (base : ℤ) (r : Rid) (rest : List Rid) → net ≡ net_of t.network
    → IsScanning t net h marks v base (r ∷ rest) → IsNext t h marks base r
scanned_next t net h marks v base r rest e scan =
    let here = All-head (Leaves net v) r rest scan.leaves in
    let number = number_of t.network net r.arc e here.arc in
    let from : v ≡ tail t.network r = sym here.from ∙ net_tail t.network net r e number in
    record {
      arc = number;
      last = subst (λ x. IsLast t h marks x) from scan.last;
      base_is = scan.base_is ∙ ap (at_node h.keys) from;
    }

-- ---- an offer

pub offered : (t : Task) (task : IsTask t) (h h' : Keyed) (marks : List Bool) (r : Rid) (x : ℕ) (base length key : ℤ) (taken : Bool)
    → IsLast t h marks (tail t.network r) → base ≡ at_node h.keys (tail t.network r) → x ≡ head t.network r → in_table marks x ≡ false
    → IsOpen t.network t.flow t.k r × (length ≡ length_of t.network t.prices r) → key ≡ base +ℤ length
    → (taken ≡ true → h' ≡ waiting_with h x key) → (taken ≡ true → Waits h x → key <ℤ at_node h.keys x)
    → (taken ≡ false → h' ≡ h) → (taken ≡ false → Waits h x × (at_node h.keys x ≤ℤ key))
    → (rest : List Rid) × IsSearch t h marks (r ∷ rest) → IsStep t h h' marks r
offered t task h h' marks r x base length key true last base_is x_is unsettled opened key_is lowered less same waits some =
    let o = opened.0 in
    let is : key ≡ at_node h.keys (tail t.network r) +ℤ length_of t.network t.prices r = omega (arith, ints, key_is, base_is, opened.1) in
    subst (λ z. IsStep t h z marks r) (sym (lowered refl ∙ ap (λ v. waiting_with h v key) x_is))
    (lowered_step t task h marks r key last o (ap (in_table marks) (sym x_is) ∙ unsettled) is
    (λ w. subst (λ v. key <ℤ at_node h.keys v) x_is (less refl (subst (λ v. Waits h v) (sym x_is) w))) some)
offered t task h h' marks r x base length key false last base_is x_is unsettled opened key_is lowered less same waits some =
    let is : key ≡ at_node h.keys (tail t.network r) +ℤ length_of t.network t.prices r = omega (arith, ints, key_is, base_is, opened.1) in
    let w = waits refl in
    subst (λ z. IsStep t h z marks r) (sym (same refl))
    (passed t task h marks r (λ rest search o.
    relaxed_waiting t task h marks r key is (subst (λ v. Waits h v) x_is w.0) (subst (λ v. at_node h.keys v ≤ℤ key) x_is w.1)))

-- nothing to offer
pub not_offered : (t : Task) (task : IsTask t) (h : Keyed) (marks : List Bool) (r : Rid) → (IsOpen t.network t.flow t.k r → ⊥) → IsStep t h h marks r
not_offered t task h marks r closed = passed t task h marks r (λ rest search o. absurd (closed o))

pub not_needed : (t : Task) (task : IsTask t) (h : Keyed) (marks : List Bool) (r : Rid) (x : ℕ) → IsLast t h marks (tail t.network r)
    → IsArcNumber t.network r.arc → x ≡ head t.network r → in_table marks x ≡ true → IsStep t h h marks r
not_needed t task h marks r x last arc x_is settled =
    passed t task h marks r (λ rest search o. relaxed_settled t task h marks r last arc (ap (in_table marks) (sym x_is) ∙ settled) o)

-- ---- the loop

-- one node more is settled, so that fewer are left
pub fewer_left : (t : Task) (task : IsTask t) (h : Keyed) (marks marks' : List Bool) (v : ℕ) → IsSearch t h marks [] → IsFirst h v → (v ≡ t.w → ⊥)
    → marks' ≡ with_node marks v → length marks' - member_count marks' < length marks - member_count marks
fewer_left t task h marks marks' v search first different e =
    let more = one_more t task h marks v search first different in
    let small = count_small marks' in
    let long = ap length e ∙ length-set marks (v - 1) true in
    omega (arith, more, small, long, ap member_count e)

-- a scan of the node that was settled
pub next_scan : (t : Task) (task : IsTask t) (net : Network) (h h' : Keyed) (marks marks' : List Bool) (v : ℕ) → net ≡ net_of t.network
    → IsSearch t h marks [] → IsFirst h v → (v ≡ t.w → ⊥) → h' ≡ without h v → marks' ≡ with_node marks v
    → (rest : List Rid) → ListsLeaving net v rest → IsSearch t h' marks' rest
next_scan t task net h h' marks marks' v e search first different heap table rest lists =
    subst (λ x. IsSearch t x marks' rest) (sym heap) (subst (λ x. IsSearch t (without h v) x rest) (sym table)
    (settled_next t task h marks v search first different rest (leaving_open t net v rest e lists)))

pub next_last : (t : Task) (task : IsTask t) (h h' : Keyed) (marks marks' : List Bool) (v : ℕ) → IsSearch t h marks [] → IsFirst h v → (v ≡ t.w → ⊥)
    → h' ≡ without h v → marks' ≡ with_node marks v → IsLast t h' marks' v
next_last t task h h' marks marks' v search first different heap table =
    subst (λ x. IsLast t x marks' v) (sym heap) (subst (λ x. IsLast t (without h v) x v) (sym table) (settled_last t task h marks v search first different))

-- ---- what is stored

-- a task as it is seen
pub viewed : (s : ShownFlow) (k u w : ℕ) (t : Task) → record { network = s.network; flow = s.flow; prices = s.prices; k = k; u = u; w = w } ≡ t → IsShown s
    → HasEndNodes (record { network = s.network; flow = s.flow; prices = s.prices; k = k; u = u; w = w }) → IsTask t
viewed s k u w t e shown ends =
    subst IsTask e (is_task (record { network = s.network; flow = s.flow; prices = s.prices; k = k; u = u; w = w }) shown ends)

pub net_viewed : (s : ShownFlow) (k u w : ℕ) (t : Task) (net : Network) → record { network = s.network; flow = s.flow; prices = s.prices; k = k; u = u; w = w } ≡ t
    → net ≡ net_of s.network → net ≡ net_of t.network
net_viewed s k u w t net e is = is ∙ ap (λ (x : Task). net_of x.network) e

-- the key of a settled node is small
pub base_small : (t : Task) → IsTask t → (h : Keyed) (marks : List Bool) (v : ℕ) (base : ℤ) (rest : List Rid) → IsSearch t h marks rest → IsLast t h marks v
    → base ≡ at_node h.keys v → IsUpTo distance_limit base
base_small t task h marks v base rest search last is =
    let low = search.low v last.is_node (inl last.settled) in
    let small = search.small v last.is_node (inl last.settled) in
    let count = count_small marks in
    let few = task.few in
    let all = search.mark_count in
    (omega (arith, ints, low, is), omega (arith, ints, small, count, few, all, is))

-- an arc that was read
pub record IsReadArc (s : ShownFlow) (k : ℕ) (a : Arc) : Type 0 where
  pub is : arc_at s.network k ≡ a
  pub ends : HasEnds (node_count s.network) a
  pub within : IsArcWithinLimits limits a

pub read_arc : (s : ShownFlow) (k : ℕ) (a : Arc) → IsShown s → IsArcNumber s.network k → slice_get s.network.arcs (k - 1) ≡ Some a → IsReadArc s k a
read_arc s k a shown h e =
    let is = get_or_from_slice_get s.network.arcs (k - 1) a no_arc e in
    let inside : k - 1 < length s.network.arcs = omega arith in
    record {
      is = is;
      ends = subst (HasEnds (node_count s.network)) is (shown.well_formed.ends (k - 1) no_arc inside);
      within = subst (IsArcWithinLimits limits) is (shown.well_formed.within.arcs (k - 1) no_arc inside);
    }

-- a test of an order
tests_less : (x y : ℤ) (P : Type 0) → x <ℤ y ↔ P → IsTrue (lt_z x y) ↔ P
tests_less x y P i = ((λ h. i.0 (there x y h)), (λ p. back x y (i.1 p)))
  where
    there : (x y : ℤ) → IsTrue (lt_z x y) → x <ℤ y
    there x y h = omega (arith, ints)

    back : (x y : ℤ) → x <ℤ y → IsTrue (lt_z x y)
    back x y h = sym (omega (arith, ints))

room_back : (g : Network) (flow : List ℤ) (r : Rid) → r.back ≡ true → room_in g flow r ≡ at_arc flow r.arc -ℤ (arc_at g r.arc).low
room_back g flow r e = rw e refl

room_forward : (g : Network) (flow : List ℤ) (r : Rid) → r.back ≡ false → room_in g flow r ≡ (arc_at g r.arc).cap -ℤ at_arc flow r.arc
room_forward g flow r e = rw e refl

-- what an arc carries, as it is read
pub record IsReadFlow (s : ShownFlow) (k : ℕ) (a : Arc) (f : ℤ) : Type 0 where
  pub low_read : to_z w128 (of_z w128 a.low) ≡ a.low
  pub cap_read : to_z w128 (of_z w128 a.cap) ≡ a.cap
  pub flow_read : to_z w128 (of_z w128 f) ≡ f
  pub low_is : (arc_at s.network k).low ≡ a.low
  pub cap_is : (arc_at s.network k).cap ≡ a.cap
  pub flow_is : at_arc s.flow k ≡ f

pub read_flow : (s : ShownFlow) (k : ℕ) (a : Arc) (f : ℤ) → IsShown s → IsArcNumber s.network k → slice_get s.network.arcs (k - 1) ≡ Some a
    → f ≡ at_arc s.flow k → IsReadFlow s k a f
read_flow s k a f shown h e is =
    let read = read_arc s k a shown h e in
    let within = read.within in
    let carried = AllZip-at CanCarry s.network.arcs s.flow (k - 1) no_arc (pos 0) shown.feasible.within_bounds (omega arith) in
    let low = ap (λ (b : Arc). b.low) read.is in
    let cap = ap (λ (b : Arc). b.cap) read.is in
    let low_small = within.low_small in
    let cap_small = within.cap_small in
    record {
      low_read = omega (arith, ints, low_small);
      cap_read = omega (arith, ints, cap_small);
      flow_read = omega (arith, ints, low_small, cap_small, low, cap, carried, is);
      low_is = low;
      cap_is = cap;
      flow_is = sym is;
    }

pub tests_back : (s : ShownFlow) (r : Rid) (a : Arc) (f : ℤ) → IsReadFlow s r.arc a f → r.back ≡ true
    → IsTrue (lt_z (to_z w128 (of_z w128 a.low)) (to_z w128 (of_z w128 f))) ↔ (pos 0 <ℤ room_in s.network s.flow r)
tests_back s r a f read e =
    let room = room_back s.network s.flow r e in
    let x = read.low_read in
    let y = read.flow_read in
    let low = read.low_is in
    let flow = read.flow_is in
    tests_less (to_z w128 (of_z w128 a.low)) (to_z w128 (of_z w128 f)) (pos 0 <ℤ room_in s.network s.flow r)
    ((λ less. omega (arith, ints, less, room, x, y, low, flow)), (λ more. omega (arith, ints, more, room, x, y, low, flow)))

pub tests_forward : (s : ShownFlow) (r : Rid) (a : Arc) (f : ℤ) → IsReadFlow s r.arc a f → r.back ≡ false
    → IsTrue (lt_z (to_z w128 (of_z w128 f)) (to_z w128 (of_z w128 a.cap))) ↔ (pos 0 <ℤ room_in s.network s.flow r)
tests_forward s r a f read e =
    let room = room_forward s.network s.flow r e in
    let x = read.cap_read in
    let y = read.flow_read in
    let cap = read.cap_is in
    let flow = read.flow_is in
    tests_less (to_z w128 (of_z w128 f)) (to_z w128 (of_z w128 a.cap)) (pos 0 <ℤ room_in s.network s.flow r)
    ((λ less. omega (arith, ints, less, room, x, y, cap, flow)), (λ more. omega (arith, ints, more, room, x, y, cap, flow)))

-- the length of a backward arc
pub length_back : (g : Network) (prices : List ℤ) (r : Rid) → r.back ≡ true → length_of g prices r ≡ pos 0 -ℤ reduced_cost prices (arc_at g r.arc)
length_back g prices r e = rw e (omega (arith, ints))

-- ---- ends of a range

pub is_rise : (s : ShownFlow) (k u w : ℕ) (found up : Option ℤ) → pos 0 <ℤ room_in s.network s.flow (rid k true) → u ≡ (arc_at s.network k).src
    → w ≡ (arc_at s.network k).dst → IsDistance s.network s.flow s.prices k u w found
    → up ≡ option_map (λ z. z -ℤ reduced_cost s.prices (arc_at s.network k)) found → IsRise s.network s.flow s.prices k up
is_rise s k u w found up room from to distance is =
    record {
      idle = λ e. absurd (omega (arith, ints, room, e));
      used = λ less. (
        found,
        subst (λ x. IsDistance s.network s.flow s.prices k x (arc_at s.network k).dst found) from
            (subst (λ x. IsDistance s.network s.flow s.prices k u x found) to distance),
        is,
      );
    }

pub is_fall : (s : ShownFlow) (k u w : ℕ) (found down : Option ℤ) → pos 0 <ℤ room_in s.network s.flow (rid k false) → u ≡ (arc_at s.network k).dst
    → w ≡ (arc_at s.network k).src → IsDistance s.network s.flow s.prices k u w found
    → down ≡ option_map (λ z. z +ℤ reduced_cost s.prices (arc_at s.network k)) found → IsFall s.network s.flow s.prices k down
is_fall s k u w found down room from to distance is =
    record {
      full = λ e. absurd (omega (arith, ints, room, e));
      free = λ less. (
        found,
        subst (λ x. IsDistance s.network s.flow s.prices k x (arc_at s.network k).src found) from
            (subst (λ x. IsDistance s.network s.flow s.prices k u x found) to distance),
        is,
      );
    }

-- the two ends of an arc
pub net_src : (g net : Network) (k : ℕ) → net ≡ net_of g → IsArcNumber g k → (arc_at net k).src ≡ (arc_at g k).src
net_src g net k e h = net_tail g net (rid k false) e h

pub net_dst : (g net : Network) (k : ℕ) → net ≡ net_of g → IsArcNumber g k → (arc_at net k).dst ≡ (arc_at g k).dst
net_dst g net k e h = net_head g net (rid k false) e h

-- one more of two lists
AllZip_push : {X Y : Type 0} (R : X → Y → Type 0) (xs : List X) (ys : List Y) (x : X) (y : Y) → AllZip R xs ys → R x y → AllZip R (xs ++ x ∷ []) (ys ++ y ∷ [])
AllZip_push R [] [] x y h here = (here, tt)
AllZip_push R [] (b ∷ ys) x y h here = absurd h
AllZip_push R (a ∷ xs) [] x y h here = absurd h
AllZip_push R (a ∷ xs) (b ∷ ys) x y h here = (h.0, AllZip_push R xs ys x y h.1 here)

pub one_range_more : (R : ℕ → CostRange → Type 0) (arcs : List ℕ) (i k : ℕ) (before after : List CostRange) (range : CostRange) → i < length arcs
    → k ≡ get_or arcs i k → after ≡ before ++ range ∷ [] → R k range → AllZip R (take i arcs) before → AllZip R (take (i + 1) arcs) after
one_range_more R arcs i k before after range h e is here all =
    subst (λ ys. AllZip R (take (i + 1) arcs) ys) (sym is)
    (subst (λ xs. AllZip R xs (before ++ range ∷ [])) (sym (take_more arcs i k h ∙ ap (λ x. take i arcs ++ x ∷ []) (sym e)))
    (AllZip_push R (take i arcs) before k range all here))

-- ---- memory

-- an arc joins nodes
some_nodes : (g : Network) (arcs : List ℕ) → IsWellFormed limits g → All (IsArcNumber g) arcs → 1 ≤ length arcs → 1 ≤ node_count g
some_nodes g arcs well_formed all some =
    let first = all 0 0 (omega (arith, some)) in
    arcs_need_nodes (node_count g) g.arcs well_formed.ends (omega (arith, first))

pub wants_nodes : {T E : Type 0} (made : Result T E) (g : Network) (arcs : List ℕ) → IsWellFormed limits g → All (IsArcNumber g) arcs
    → OnErr made (1 ≤ length arcs) → OnErr made (1 ≤ node_count g)
wants_nodes (Ok x) g arcs well_formed all h = h
wants_nodes (Err e) g arcs well_formed all h = some_nodes g arcs well_formed all h
