-- Prices that show a flow are those that no residual arc with room can lower.
use Rattle.std.proofs.Common.{◌≡◌, ◌≢◌, ℕ, ◌<◌, ◌+◌, ◌-◌, List, length, get_or, Bool, true, false, ℤ, pos, ap, sym, ◌∙◌, arith}
use Rattle.std.proofs.lemmas.Int.{ints, by_lt_z}
use Rattle.std.proofs.lemmas.List.{get_or_default}
use Rattle.mcf_flows.specs.Flow.{IsComplementary, Shows, reduced_cost}
use Rattle.mcf_flows.specs.Network.{Network, IsArcNumber}
use Rattle.mcf_flows.specs.WellFormed.{IsUpTo}
use Rattle.mcf_flows.proofs.AllZips.{AllZip-at, AllZip_from}
use Rattle.mcf_network.specs.declared.rid.Rid.{Rid}
use Rattle.mcf_network.specs.Nets.{IsNet}
use Rattle.mcf_network.specs.Residual.{no_arc, arc_at, tail, head, unit_cost}
use Rattle.mcf_network.specs.States.{Pseudoflow, IsPseudoflow, amount_at, room_of}
use Rattle.mcf_network.specs.Walks.{HasRoom}
use Rattle.mcf_network.proofs.ArcLaws.{amount_count, amount_of, net_arc_at}
use Rattle.mcf_network.proofs.StateLaws.{rid}
use Rattle.mcf_engine.specs.Respecting.{Respects, cost_limit}

pub cost_small : (g : Network) (k : ℕ) (b : Bool) → IsNet g → IsArcNumber g k → IsUpTo cost_limit (unit_cost g (rid k b))
cost_small g k true ok h =
    let small = (net_arc_at g k ok h).cost_small in
    let low = small.0 in
    let high = small.1 in
    (omega (arith, ints, low, high), omega (arith, ints, low, high))
cost_small g k false ok h = (net_arc_at g k ok h).cost_small

-- a residual arc with room is no loop
pub no_loop : (s : Pseudoflow) (k : ℕ) (b : Bool) → IsPseudoflow s → HasRoom s (rid k b) → tail s.net (rid k b) ≢ head s.net (rid k b)
no_loop s k true ok h e =
    let none = (net_arc_at s.net k ok.of_net h.arc).no_loop_width (sym e) in
    let high = (amount_of s k ok h.arc).high in
    let room = h.room in
    omega (arith, ints, none, high, room)
no_loop s k false ok h e =
    let none = (net_arc_at s.net k ok.of_net h.arc).no_loop_width e in
    let low = (amount_of s k ok h.arc).low in
    let room = h.room in
    omega (arith, ints, none, low, room)

pub respects_from_shows : (s : Pseudoflow) (y : List ℤ) (k : ℕ) (b : Bool) → IsPseudoflow s → Shows s.net.arcs y s.amounts → Respects s y (rid k b)
respects_from_shows s y k true ok shows h =
    let here : k - 1 < length s.net.arcs = (let a = h.arc in omega (arith, a)) in
    let complementary = AllZip-at (IsComplementary y) s.net.arcs s.amounts (k - 1) no_arc (pos 0) shows here in
    let low = (net_arc_at s.net k ok.of_net h.arc).no_low in
    let room = h.room in
    by_lt_z (pos 0) (reduced_cost y (arc_at s.net k)) (λ p. let e = complementary.0 p in absurd (omega (arith, ints, e, room, low)))
    (λ p. omega (arith, ints, p))
respects_from_shows s y k false ok shows h =
    let here : k - 1 < length s.net.arcs = (let a = h.arc in omega (arith, a)) in
    let complementary = AllZip-at (IsComplementary y) s.net.arcs s.amounts (k - 1) no_arc (pos 0) shows here in
    let room = h.room in
    by_lt_z (reduced_cost y (arc_at s.net k)) (pos 0) (λ p. let e = complementary.1 p in absurd (omega (arith, ints, e, room))) (λ p. omega (arith, ints, p))

complementary_at : (s : Pseudoflow) (y : List ℤ) (k : ℕ) → IsPseudoflow s → ((r : Rid) → Respects s y r) → IsArcNumber s.net k
    → IsComplementary y (arc_at s.net k) (amount_at s k)
complementary_at s y k ok respects h =
    let amount = amount_of s k ok h in
    let low = amount.low in
    let high = amount.high in
    let none = (net_arc_at s.net k ok.of_net h).no_low in (
      λ p. by_lt_z (pos 0) (amount_at s k) (λ q. let r = respects (rid k true) (record { arc = h; room = q }) in absurd (omega (arith, ints, r, p)))
          (λ q. omega (arith, ints, low, none, q)),
      λ p. by_lt_z (pos 0) (room_of s (rid k false)) (λ q. let r = respects (rid k false) (record { arc = h; room = q }) in absurd (omega (arith, ints, r, p)))
          (λ q. omega (arith, ints, high, q)),
    )

pub shows_from_respects : (s : Pseudoflow) (y : List ℤ) → IsPseudoflow s → ((r : Rid) → Respects s y r) → Shows s.net.arcs y s.amounts
shows_from_respects s y ok respects =
    AllZip_from (IsComplementary y) s.net.arcs s.amounts (amount_count s ok) (λ i h a f.
    let here : IsArcNumber s.net (i + 1) = (omega arith, omega arith) in
    let same : i ≡ i + 1 - 1 = omega arith in
    let inside : i < length s.amounts = omega (arith, h, amount_count s ok) in
    let arc = get_or_default s.net.arcs i a no_arc h ∙ ap (λ j. get_or s.net.arcs j no_arc) same in
    let amount = get_or_default s.amounts i f (pos 0) inside ∙ ap (λ j. get_or s.amounts j (pos 0)) same in
    rw (arc, amount) (complementary_at s y (i + 1) ok respects here))
