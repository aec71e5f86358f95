-- What is known of each arc of a net, and of its amount in a state.
use Rattle.std.proofs.Common.{◌≡◌, ℕ, ◌-◌, ◌<◌, ◌≤◌, Bool, true, false, List, length, get_or, refl, ap, sym, arith, subst, ℤ, pos, ◌-ℤ◌, ◌≤ℤ◌}
use Rattle.std.specs.List.{All}
use Rattle.std.proofs.lemmas.Int.{ints}
use Rattle.mcf_flows.specs.declared.arc.Arc.{Arc}
use Rattle.mcf_flows.specs.declared.arc.Link.{Link}
use Rattle.mcf_flows.specs.Flow.{CanCarry}
use Rattle.mcf_flows.specs.Network.{Network, IsArcNumber, IsNode, at_node, node_count}
use Rattle.mcf_flows.specs.WellFormed.{IsUpTo, HasEnds}
use Rattle.mcf_flows.specs.declared.problem.Problem.{Problem}
use Rattle.mcf_network.specs.declared.rid.Rid.{Rid}
use Rattle.mcf_network.specs.Stored.{stored_arc, stored_net, width_at}
use Rattle.mcf_network.specs.Private.StoredLinks.{no_link}
use Rattle.mcf_network.specs.Nets.{IsNet, IsNetArc, width_limit, supply_limit}
use Rattle.mcf_network.specs.Residual.{no_arc, arc_at, tail, head}
use Rattle.mcf_network.specs.States.{Pseudoflow, IsPseudoflow, amount_at, room_of}
use Rattle.mcf_flows.proofs.AllZips.{AllZip-at, length-AllZip}
use Rattle.mcf_network.proofs.StoredLaws.{get_or-stored_arcs, length-stored_arcs}

pub arcs_need_nodes : (nodes : ℕ) (arcs : List Arc) → All (HasEnds nodes) arcs → 1 ≤ length arcs → 1 ≤ nodes
arcs_need_nodes nodes arcs ends some = let e = ends 0 no_arc (omega (arith, some)) in omega (arith, e)

pub ends_at : (g : Network) (k : ℕ) → IsNet g → IsArcNumber g k → HasEnds (node_count g) (arc_at g k)
ends_at g k ok h = ok.ends (k - 1) no_arc (omega arith)

pub net_arc_at : (g : Network) (k : ℕ) → IsNet g → IsArcNumber g k → IsNetArc (arc_at g k)
net_arc_at g k ok h = ok.each_arc (k - 1) no_arc (omega arith)

pub supply_at : (g : Network) (v : ℕ) → IsNet g → IsNode (node_count g) v → IsUpTo supply_limit (at_node g.supplies v)
supply_at g v ok h = ok.supplies (v - 1) (pos 0) (omega arith)

pub tail_is_node : (g : Network) (k : ℕ) (b : Bool) → IsNet g → IsArcNumber g k → IsNode (node_count g) (tail g (record { arc = k; back = b }))
tail_is_node g k true ok h = (ends_at g k ok h).dst_is_node
tail_is_node g k false ok h = (ends_at g k ok h).src_is_node

pub head_is_node : (g : Network) (k : ℕ) (b : Bool) → IsNet g → IsArcNumber g k → IsNode (node_count g) (head g (record { arc = k; back = b }))
head_is_node g k true ok h = (ends_at g k ok h).src_is_node
head_is_node g k false ok h = (ends_at g k ok h).dst_is_node

pub amount_count : (s : Pseudoflow) → IsPseudoflow s → length s.net.arcs ≡ length s.amounts
amount_count s ok = length-AllZip CanCarry s.net.arcs s.amounts ok.within_bounds

-- the amount of an arc is from 0 to its width
pub record HasAmount (s : Pseudoflow) (k : ℕ) : Type 0 where
  pub in_range : k - 1 < length s.amounts
  pub low : pos 0 ≤ℤ amount_at s k
  pub high : amount_at s k ≤ℤ (arc_at s.net k).cap
  pub width : (arc_at s.net k).cap ≤ℤ pos width_limit

pub amount_of : (s : Pseudoflow) (k : ℕ) → IsPseudoflow s → IsArcNumber s.net k → HasAmount s k
amount_of s k ok h =
    let here : k - 1 < length s.net.arcs = omega arith in
    let arc = net_arc_at s.net k ok.of_net h in
    let carried = AllZip-at CanCarry s.net.arcs s.amounts (k - 1) no_arc (pos 0) ok.within_bounds here in
    record {
      in_range = omega (arith, here, amount_count s ok);
      low = let none = arc.no_low in let l = carried.0 in omega (arith, ints, none, l);
      high = carried.1;
      width = arc.width_high;
    }

-- the room of a residual arc is from 0 to the width
pub record HasSmallRoom (x : ℤ) : Type 0 where
  pub low : pos 0 ≤ℤ x
  pub high : x ≤ℤ pos width_limit

pub room_small : (s : Pseudoflow) (k : ℕ) (b : Bool) → IsPseudoflow s → IsArcNumber s.net k → HasSmallRoom (room_of s (record { arc = k; back = b }))
room_small s k true ok h =
    let a = amount_of s k ok h in
    record { low = a.low; high = let u = a.high in let w = a.width in omega (arith, ints, u, w) }
room_small s k false ok h =
    let a = amount_of s k ok h in
    let l = a.low in
    let u = a.high in
    let w = a.width in
    record { low = omega (arith, ints, u); high = omega (arith, ints, l, w) }

-- the arc that a net stores at a number, whatever its width
pub stored_at : (problem : Problem) (links : List Link) (widths supplies : List ℤ) (k : ℕ) (link : Link)
    → IsArcNumber (stored_net problem links widths supplies) k
    → arc_at (stored_net problem links widths supplies) k ≡ stored_arc (get_or links (k - 1) link) (width_at widths (k - 1))
stored_at problem links widths supplies k link h =
    get_or-stored_arcs links widths (k - 1) link no_arc (omega (arith, h, length-stored_arcs links widths))

pub link_in_range : (g : Network) (problem : Problem) (links : List Link) (widths supplies : List ℤ) (k : ℕ)
    → stored_net problem links widths supplies ≡ g → IsArcNumber g k → k - 1 < length links
link_in_range g problem links widths supplies k view h =
    let here : IsArcNumber (stored_net problem links widths supplies) k = subst (λ n. IsArcNumber n k) (sym view) h in
    omega (arith, here, length-stored_arcs links widths)

-- what is known of it
pub record IsStoredAt (g : Network) (k : ℕ) (a : Arc) : Type 0 where
  pub is : arc_at g k ≡ a
  pub ends : HasEnds (node_count g) a
  pub arc : IsNetArc a

pub stored_arc_at : (g : Network) (problem : Problem) (links : List Link) (widths supplies : List ℤ) (k : ℕ) (link : Link)
    → stored_net problem links widths supplies ≡ g → IsNet (stored_net problem links widths supplies) → IsArcNumber g k
    → IsStoredAt g k (stored_arc (get_or links (k - 1) link) (width_at widths (k - 1)))
stored_arc_at g problem links widths supplies k link view ok h =
    let here : IsArcNumber (stored_net problem links widths supplies) k = subst (λ n. IsArcNumber n k) (sym view) h in
    let is = stored_at problem links widths supplies k link here in
    subst (λ n. IsStoredAt n k (stored_arc (get_or links (k - 1) link) (width_at widths (k - 1)))) view (record {
      is = is;
      ends = subst (λ x. HasEnds (length supplies) x) is (ends_at (stored_net problem links widths supplies) k ok here);
      arc = subst IsNetArc is (net_arc_at (stored_net problem links widths supplies) k ok here);
    })

-- the width of the arc at a number
pub record IsWidthAt (g : Network) (k : ℕ) (width : ℤ) : Type 0 where
  pub is : (arc_at g k).cap ≡ width
  pub low : pos 0 ≤ℤ width
  pub high : width ≤ℤ pos width_limit

pub stored_width_at : (g : Network) (problem : Problem) (links : List Link) (widths supplies : List ℤ) (k : ℕ)
    → stored_net problem links widths supplies ≡ g → IsNet (stored_net problem links widths supplies) → IsArcNumber g k
    → IsWidthAt g k (width_at widths (k - 1))
stored_width_at g problem links widths supplies k view ok h =
    let a = stored_arc_at g problem links widths supplies k no_link view ok h in
    record { is = ap (λ (x : Arc). x.cap) a.is; low = a.arc.width_low; high = a.arc.width_high }

-- an amount of a state, as a read gives it
pub record IsReadAmount (s : Pseudoflow) (g : Network) (k : ℕ) (x : ℤ) : Type 0 where
  pub is : x ≡ amount_at s k
  pub low : pos 0 ≤ℤ x
  pub high : x ≤ℤ (arc_at s.net k).cap
  pub width : (arc_at s.net k).cap ≤ℤ pos width_limit
  pub same_width : (arc_at g k).cap ≡ (arc_at s.net k).cap

pub amount_in_range : (s : Pseudoflow) (g : Network) (amounts : List ℤ) (k : ℕ) → record { net = g; amounts = amounts } ≡ s
    → IsPseudoflow (record { net = g; amounts = amounts }) → IsArcNumber s.net k → k - 1 < length amounts
amount_in_range s g amounts k view ok h =
    (amount_of (record { net = g; amounts = amounts }) k ok (subst (λ (t : Pseudoflow). IsArcNumber t.net k) (sym view) h)).in_range

pub read_amount : (s : Pseudoflow) (g : Network) (amounts : List ℤ) (k : ℕ) (x : ℤ) → record { net = g; amounts = amounts } ≡ s
    → IsPseudoflow (record { net = g; amounts = amounts }) → IsArcNumber s.net k → x ≡ get_or amounts (k - 1) (pos 0) → IsReadAmount s g k x
read_amount s g amounts k x view ok h e =
    let here : IsArcNumber g k = subst (λ (t : Pseudoflow). IsArcNumber t.net k) (sym view) h in
    let a = amount_of (record { net = g; amounts = amounts }) k ok here in
    subst (λ (t : Pseudoflow). IsReadAmount t g k x) view (record {
      is = e;
      low = rw e a.low;
      high = rw e a.high;
      width = a.width;
      same_width = refl;
    })

pub room_back : (s : Pseudoflow) (r : Rid) → r.back ≡ true → room_of s r ≡ amount_at s r.arc
room_back s r e = rw e refl

pub room_forward : (s : Pseudoflow) (r : Rid) → r.back ≡ false → room_of s r ≡ (arc_at s.net r.arc).cap -ℤ amount_at s r.arc
room_forward s r e = rw e refl

pub read_room : (s : Pseudoflow) (g : Network) (amounts : List ℤ) (r : Rid) → record { net = g; amounts = amounts } ≡ s
    → IsPseudoflow (record { net = g; amounts = amounts }) → IsArcNumber s.net r.arc → HasSmallRoom (room_of s r)
read_room s g amounts r view ok h =
    room_small s r.arc r.back (subst IsPseudoflow view ok) h
