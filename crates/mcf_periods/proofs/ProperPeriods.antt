-- The ends of routes are places in periods, if the problem without periods has no fault.
use Rattle.std.proofs.Common.{◌≡◌, ℕ, suc, ◌+◌, ◌*◌, ◌≤◌, Bool, true, false, ◌&&◌, List, [], ◌∷◌, ◌++◌, length, map, refl, subst, arith}
use Rattle.std.specs.Prelude.{◌^◌, nat_le, nat_lt, cond}
use Rattle.std.specs.List.{All}
use Rattle.std.proofs.lemmas.Bool.{leb-true}
use Rattle.std.proofs.lemmas.List.Elements.{All-cons, All-head, All-nil, All-tail}
use Rattle.mcf_flows.specs.Network.{IsNode}
use Rattle.mcf_model.specs.Faults.{is_place}
use Rattle.mcf_model.specs.Model.{IsSoundRoute, Route}
use Rattle.mcf_model.proofs.FaultTests.{and_true}
use Rattle.mcf_periods.specs.declared.rows.Store.{Store}
use Rattle.mcf_periods.specs.Flat.{flat, flat_route, flat_routes, number_in, stock_route}
use Rattle.mcf_periods.specs.PeriodLaws.{IsTimed, IsTimely, ProperPeriodsAreTimely}
use Rattle.mcf_periods.specs.Periods.{Departure, Periods, number}
use Rattle.mcf_periods.proofs.FlatPlans.{routes_are}

place_of : (m n v t : ℕ) → IsNode m (number_in n v t) → IsNode n v
place_of m n v t h = go (is_place n v && nat_lt (number n v t) (2 ^ 32)) refl h
  where
    go : (b : Bool) → (is_place n v && nat_lt (number n v t) (2 ^ 32)) ≡ b → IsNode m (cond b (number n v t) 0) → IsNode n v
    go true e k =
        let both = and_true (nat_le 1 v) (nat_le v n) (and_true (is_place n v) (nat_lt (number n v t) (2 ^ 32)) e).0 in
        (leb-true 1 v both.0, leb-true v n both.1)
    go false e k = absurd (omega (arith, k))

abbrev HasEnds : ℕ → Departure → Type 0
HasEnds n d = IsNode n d.route.tail × IsNode n d.route.head

ends_of : (m n : ℕ) (ss : List Store) (ds : List Departure) → All (IsSoundRoute m) (map (stock_route n) ss ++ map (flat_route n) ds)
    → All (λ s. IsNode n s.place) ss × All (HasEnds n) ds
ends_of m n [] [] h = (All-nil (λ s. IsNode n s.place), All-nil (HasEnds n))
ends_of m n [] (d ∷ ds) h =
    let rest = map (flat_route n) ds in
    let here = All-head (IsSoundRoute m) (flat_route n d) rest h in
    let later = ends_of m n [] ds (All-tail (IsSoundRoute m) (flat_route n d) rest h) in (
      later.0,
      All-cons (HasEnds n) d ds
          (place_of m n d.route.tail d.period here.tail_is_place, place_of m n d.route.head (d.period + d.lead) here.head_is_place) later.1,
    )
ends_of m n (s ∷ ss) ds h =
    let rest = map (stock_route n) ss ++ map (flat_route n) ds in
    let here = All-head (IsSoundRoute m) (stock_route n s) rest h in
    let later = ends_of m n ss ds (All-tail (IsSoundRoute m) (stock_route n s) rest h) in
    (All-cons (λ s. IsNode n s.place) s ss (place_of m n s.place s.period here.tail_is_place) later.0, later.1)

pub proper_periods_are_timely_lem : ProperPeriodsAreTimely
proper_periods_are_timely_lem P timed proper =
    let ends = ends_of (length P.places) P.count P.stores P.departures
    (subst (λ (rs : List Route). All (IsSoundRoute (length P.places)) rs) (routes_are P) (proper.sound).routes) in
    record {
      listed = timed.listed;
      few = proper.few;
      departures = λ k d l.
          record { leaves = (ends.1 k d l).0; enters = (ends.1 k d l).1; departs = (timed.departures k d l).0; arrives = (timed.departures k d l).1 };
      stores = λ k d l. record { keeps_at = ends.0 k d l; begins = (timed.stores k d l).0; ends = (timed.stores k d l).1 };
    }
