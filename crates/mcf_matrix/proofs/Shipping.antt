-- The passes over a transport plan, an entry at a time.
use Rattle.std.proofs.Common.{◌≡◌, ◌≢◌, ℕ, zero, suc, ◌+◌, ◌<◌, eqb, Bool, true, false, List, [], ◌∷◌, length, get_or, take, set, inl, inr, refl, ap, sym, ◌∙◌, arith, ℤ, pos, ◌+ℤ◌, ◌-ℤ◌, ◌≤ℤ◌, ◌<ℤ◌, length-set}
use Rattle.std.proofs.lemmas.Bool.{cases_eq, eq-eqb, ne_eqb}
use Rattle.std.proofs.lemmas.Int.{ints}
use Rattle.std.proofs.lemmas.List.{get_or-set_other, get_or-set_same, take_more}
use Rattle.std.proofs.lemmas.List.Elements.{All-head, All-tail}
use Rattle.mcf_flows.specs.Network.{when}
use Rattle.mcf_matrix.specs.declared.shipment.Shipment.{Shipment}
use Rattle.mcf_matrix.specs.PlaceSums.{at_place}
use Rattle.mcf_matrix.specs.Plans.{plan_sum}
use Rattle.mcf_matrix.specs.Private.Shipping.{AreMet, AreSendable, IsLeft, amount_at}
use Rattle.mcf_matrix.proofs.PlanSums.{plan_sum-append}

abbrev pub no_shipment : Shipment
no_shipment = record { row = 0; column = 0; amount = pos 0 }

-- one entry more
amount_next : (end : Shipment → ℕ) (plan : List Shipment) (k i : ℕ) → k < length plan
    → amount_at end (take (k + 1) plan) i ≡ amount_at end (take k plan) i +ℤ when (eqb (end (get_or plan k no_shipment)) i) (get_or plan k no_shipment).amount
amount_next end plan k i h =
    let t = λ (s : Shipment). when (eqb (end s) i) s.amount in
    let more = ap (plan_sum t) (take_more plan k no_shipment h) ∙ plan_sum-append t (take k plan) (get_or plan k no_shipment ∷ []) in
    omega (arith, ints, more)

-- some entries bring no more than all
term_at_least : (b : Bool) (z : ℤ) → pos 0 ≤ℤ z → pos 0 ≤ℤ when b z
term_at_least true z h = h
term_at_least false z h = omega (arith, ints)

amount_at_least : (end : Shipment → ℕ) (n : ℕ) (plan : List Shipment) (i : ℕ) → AreSendable end n plan → pos 0 ≤ℤ amount_at end plan i
amount_at_least end n [] i a = omega (arith, ints)
amount_at_least end n (s ∷ plan) i a =
    omega (
      arith,
      ints,
      term_at_least (eqb (end s) i) s.amount (All-head (λ s. (end s < n) × (pos 0 ≤ℤ s.amount)) s plan a).1,
      amount_at_least end n plan i (All-tail (λ s. (end s < n) × (pos 0 ≤ℤ s.amount)) s plan a),
    )

amount_grows : (end : Shipment → ℕ) (n : ℕ) (plan : List Shipment) (k i : ℕ) → AreSendable end n plan → amount_at end (take k plan) i ≤ℤ amount_at end plan i
amount_grows end n plan zero i a = amount_at_least end n plan i a
amount_grows end n [] (suc k) i a = omega (arith, ints)
amount_grows end n (s ∷ plan) (suc k) i a =
    omega (arith, ints, amount_grows end n plan k i (All-tail (λ s. (end s < n) × (pos 0 ≤ℤ s.amount)) s plan a))

-- an entry taken off what is left
pub taken_off : (end : Shipment → ℕ) (plan : List Shipment) (masses left : List ℤ) (k : ℕ) → k < length plan
    → end (get_or plan k no_shipment) < length masses → IsLeft end (take k plan) masses left
    → IsLeft end (take (k + 1) plan) masses
    (set left (end (get_or plan k no_shipment)) (at_place left (end (get_or plan k no_shipment)) -ℤ (get_or plan k no_shipment).amount))
taken_off end plan masses left k h inside before =
    record {
      as_long = length-set left (end (get_or plan k no_shipment)) _ ∙ before.as_long;
      each = λ i b. elim (cases_eq i (end (get_or plan k no_shipment))) [
        | inl same ↦ at_end i b same
        | inr other ↦ elsewhere i b other
      ];
    }
  where
    at_end : (i : ℕ) → i < length masses → i ≡ end (get_or plan k no_shipment)
        → at_place (set left (end (get_or plan k no_shipment)) (at_place left (end (get_or plan k no_shipment)) -ℤ (get_or plan k no_shipment).amount)) i
        +ℤ amount_at end (take (k + 1) plan) i ≡ at_place masses i
    at_end i b same =
        let s = get_or plan k no_shipment in
        let next = amount_next end plan k i h in
        let here = ap (λ t. when t s.amount) (eq-eqb (end s) i (sym same)) in
        let old = before.each i b in
        let now = ap (at_place (set left (end s) (at_place left (end s) -ℤ s.amount))) same
        ∙ get_or-set_same left (end s) (at_place left (end s) -ℤ s.amount) (pos 0) (omega (arith, inside, before.as_long)) in
        let place = ap (at_place left) same in
        omega (arith, ints, next, here, old, now, place)

    elsewhere : (i : ℕ) → i < length masses → i ≢ end (get_or plan k no_shipment)
        → at_place (set left (end (get_or plan k no_shipment)) (at_place left (end (get_or plan k no_shipment)) -ℤ (get_or plan k no_shipment).amount)) i
        +ℤ amount_at end (take (k + 1) plan) i ≡ at_place masses i
    elsewhere i b other =
        let s = get_or plan k no_shipment in
        let next = amount_next end plan k i h in
        let apart : end s ≢ i = λ e. other (sym e) in
        let here = ap (λ t. when t s.amount) (ne_eqb (end s) i apart) in
        let old = before.each i b in
        let now = get_or-set_other left (end s) i (at_place left (end s) -ℤ s.amount) (pos 0) other in
        omega (arith, ints, next, here, old, now)

-- an entry of more than what is left: the ends don't get exactly the masses
pub too_much : (end : Shipment → ℕ) (plan : List Shipment) (masses left : List ℤ) (k : ℕ) → k < length plan → AreSendable end (length masses) plan
    → IsLeft end (take k plan) masses left → at_place left (end (get_or plan k no_shipment)) <ℤ (get_or plan k no_shipment).amount
    → AreMet end plan masses → ⊥
too_much end plan masses left k h sendable before more met =
    let s = get_or plan k no_shipment in
    let inside = (sendable k no_shipment h).0 in
    let next = amount_next end plan k (end s) h in
    let here = ap (λ t. when t s.amount) (eq-eqb (end s) (end s) refl) in
    let old = before.each (end s) inside in
    let all = met (end s) inside in
    let grows = amount_grows end (length masses) plan (k + 1) (end s) sendable in
    omega (arith, ints, next, here, old, all, grows, more)
