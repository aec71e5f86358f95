-- The first node without a price, or whose net isn't its supply: as a loop finds it, and what it
-- means that there is none.
use Rattle.std.proofs.Common.{◌≡◌, ℕ, ◌+◌, ◌-◌, ◌≤◌, ◌<◌, max, Bool, true, false, not, ◌&&◌, ◌||◌, ltb, ap, sym, ◌∙◌, arith, inl, inr, List, length, get_or}
use Rattle.std.proofs.Common.{Some, None, ℤ, pos}
use Rattle.std.specs.Ordering.{int_eq}
use Rattle.std.proofs.lemmas.Bool.{and_cases, and_parts, cases_lt, le-ltb, lt-ltb, ltb-false, ltb-true, not-false, not_from_false, not_from_true, or_from}
use Rattle.std.proofs.lemmas.Bool.{or_left, or_parts, or_right, true≢false}
use Rattle.std.proofs.lemmas.Bool.Decides.{Decides-int_eq}
use Rattle.mcf_checker.specs.Judging.{bad_node, least_up_to}
use Rattle.mcf_checker.proofs.LeastNumbers.{least-same, least_none, least_none-each, least_some}
use Rattle.mcf_flows.specs.Flow.{net, AreNets}
use Rattle.mcf_flows.specs.Network.{IsNode, Network, at_node, node_count}

-- v is the number of no node or of no price, or the net there isn't the supply
abbrev pub is_unmet : (ℕ → ℤ) → List ℤ → ℕ → ℕ → Bool
is_unmet nets supplies prices v =
    ltb (length supplies) v || ltb prices v || not (int_eq (nets v) (at_node supplies v))

module _ (nets : ℕ → ℤ) (supplies : List ℤ) (prices : ℕ) where
  beyond_nodes : (v : ℕ) → length supplies < v → is_unmet nets supplies prices v ≡ true
  beyond_nodes v h =
      or_left (ltb (length supplies) v || ltb prices v) (not (int_eq (nets v) (at_node supplies v)))
      (or_left (ltb (length supplies) v) (ltb prices v) (lt-ltb (length supplies) v h))

  beyond_prices : (v : ℕ) → prices < v → is_unmet nets supplies prices v ≡ true
  beyond_prices v h =
      or_left (ltb (length supplies) v || ltb prices v) (not (int_eq (nets v) (at_node supplies v)))
      (or_right (ltb (length supplies) v) (ltb prices v) (lt-ltb prices v h))

  within : (v : ℕ) → v ≤ length supplies → v ≤ prices → int_eq (nets v) (at_node supplies v) ≡ true → is_unmet nets supplies prices v ≡ false
  within v h k e =
      or_from (ltb (length supplies) v || ltb prices v) (not (int_eq (nets v) (at_node supplies v)))
      (or_from (ltb (length supplies) v) (ltb prices v) (le-ltb (length supplies) v h) (le-ltb prices v k))
      (not_from_true (int_eq (nets v) (at_node supplies v)) e)

  differing : (v : ℕ) → int_eq (nets v) (at_node supplies v) ≡ false → is_unmet nets supplies prices v ≡ true
  differing v e =
      or_right (ltb (length supplies) v || ltb prices v) (not (int_eq (nets v) (at_node supplies v)))
      (not_from_false (int_eq (nets v) (at_node supplies v)) e)

-- ---- as a loop finds it

-- the test of the node at a place, from 0, as the loop makes it
place_is : (nets supplies : List ℤ) (i : ℕ) → int_eq (at_node nets (i + 1)) (at_node supplies (i + 1)) ≡ int_eq (get_or nets i (pos 0))
    (get_or supplies i (pos 0))
place_is nets supplies i =
    let back : i + 1 - 1 ≡ i = omega arith in ap (λ j. int_eq (get_or nets j (pos 0)) (get_or supplies j (pos 0))) back

module _ (nets supplies : List ℤ) (prices : ℕ) where
  pub met_here : (i : ℕ) → i < length supplies → (ltb i prices && int_eq (get_or nets i (pos 0)) (get_or supplies i (pos 0))) ≡ true
      → is_unmet (at_node nets) supplies prices (i + 1) ≡ false
  met_here i h e =
      let parts = and_parts (ltb i prices) (int_eq (get_or nets i (pos 0)) (get_or supplies i (pos 0))) e in
      let k : i < prices = ltb-true i prices parts.0 in
      within (at_node nets) supplies prices (i + 1) (omega arith) (omega arith) (place_is nets supplies i ∙ parts.1)

  pub unmet_here : (i : ℕ) → (ltb i prices && int_eq (get_or nets i (pos 0)) (get_or supplies i (pos 0))) ≡ false
      → is_unmet (at_node nets) supplies prices (i + 1) ≡ true
  unmet_here i e =
      elim (and_cases (ltb i prices) (int_eq (get_or nets i (pos 0)) (get_or supplies i (pos 0))) e) [
        | inl past ↦ beyond_prices (at_node nets) supplies prices (i + 1) (omega (arith, ltb-false i prices past))
        | inr other ↦ differing (at_node nets) supplies prices (i + 1) (place_is nets supplies i ∙ other)
      ]

  pub first_unmet-some : (i : ℕ) → i < length supplies → ((j : ℕ) → j < i → is_unmet (at_node nets) supplies prices (j + 1) ≡ false)
      → is_unmet (at_node nets) supplies prices (i + 1) ≡ true → least_up_to (max (length supplies) prices) (is_unmet (at_node nets) supplies prices) ≡ Some
      (i + 1)
  first_unmet-some i h before here =
      least_some (is_unmet (at_node nets) supplies prices) (max (length supplies) prices) i (omega arith) before here

  pub first_unmet_past : length supplies < prices → ((j : ℕ) → j < length supplies → is_unmet (at_node nets) supplies prices (j + 1) ≡ false)
      → least_up_to (max (length supplies) prices) (is_unmet (at_node nets) supplies prices) ≡ Some (length supplies + 1)
  first_unmet_past h before =
      least_some (is_unmet (at_node nets) supplies prices) (max (length supplies) prices) (length supplies) (omega arith) before
      (beyond_nodes (at_node nets) supplies prices (length supplies + 1) (omega arith))

  pub first_unmet_nowhere : prices ≤ length supplies → ((j : ℕ) → j < length supplies → is_unmet (at_node nets) supplies prices (j + 1) ≡ false)
      → least_up_to (max (length supplies) prices) (is_unmet (at_node nets) supplies prices) ≡ None
  first_unmet_nowhere h each =
      least_none (is_unmet (at_node nets) supplies prices) (max (length supplies) prices) (λ j k. each j (omega arith))

-- a table of the nets serves instead of the nets
pub bad_node-table : (g : Network) (prices flow nets : List ℤ) → AreNets (node_count g) g.arcs flow nets
    → least_up_to (max (node_count g) (length prices)) (is_unmet (at_node nets) g.supplies (length prices)) ≡ bad_node g prices flow
bad_node-table g prices flow nets known =
    least-same (is_unmet (at_node nets) g.supplies (length prices)) (is_unmet (net g.arcs flow) g.supplies (length prices))
    (max (node_count g) (length prices))
    (λ v low high. elim (cases_lt (node_count g) v) [
      | inl beyond ↦ beyond_nodes (at_node nets) g.supplies (length prices) v beyond ∙ sym
          (beyond_nodes (net g.arcs flow) g.supplies (length prices) v beyond)
      | inr node ↦ ap (λ z. ltb (length g.supplies) v || ltb (length prices) v || not (int_eq z (at_node g.supplies v))) (known.each v (low, node))
    ])

-- ---- what it means that there is none

-- no node is bad where each has a price, and its net is its supply
pub record AllMet (g : Network) (prices flow : List ℤ) : Type 0 where
  pub one_price_each : length prices ≡ node_count g
  pub meets_supplies : (v : ℕ) → IsNode (node_count g) v → net g.arcs flow v ≡ at_node g.supplies v

module _ (g : Network) (prices flow : List ℤ) where
  each_met : bad_node g prices flow ≡ None → (v : ℕ) → 1 ≤ v → v ≤ max (node_count g) (length prices)
      → is_unmet (net g.arcs flow) g.supplies (length prices) v ≡ false
  each_met e v low high =
      let back : v - 1 + 1 ≡ v = omega arith in
      sym (ap (is_unmet (net g.arcs flow) g.supplies (length prices)) back)
      ∙ least_none-each (is_unmet (net g.arcs flow) g.supplies (length prices)) (max (node_count g) (length prices)) e (v - 1) (omega arith)

  not_more : bad_node g prices flow ≡ None → (m n : ℕ) → m < n → n ≤ max (node_count g) (length prices)
      → ((v : ℕ) → m < v → is_unmet (net g.arcs flow) g.supplies (length prices) v ≡ true) → ⊥
  not_more e m n h k beyond =
      true≢false (sym (beyond (m + 1) (omega arith)) ∙ each_met e (m + 1) (omega arith) (omega arith))

  pub AllMet-from_none : bad_node g prices flow ≡ None → AllMet g prices flow
  AllMet-from_none e =
      let few : length prices ≤ node_count g = elim (cases_lt (node_count g) (length prices)) [
        | inl more ↦ absurd (not_more e (node_count g) (length prices) more (omega arith)
            (beyond_nodes (net g.arcs flow) g.supplies (length prices)))
        | inr few ↦ few
      ] in
      let enough : node_count g ≤ length prices = elim (cases_lt (length prices) (node_count g)) [
        | inl fewer ↦ absurd (not_more e (length prices) (node_count g) fewer (omega arith)
            (beyond_prices (net g.arcs flow) g.supplies (length prices)))
        | inr enough ↦ enough
      ] in
      record {
        one_price_each = omega arith;
        meets_supplies = λ v h. let parts = or_parts (ltb (node_count g) v || ltb (length prices) v)
            (not (int_eq (net g.arcs flow v) (at_node g.supplies v))) (each_met e v h.0 (omega (arith, h.1))) in
            (Decides-int_eq (net g.arcs flow v) (at_node g.supplies v)).0
            (not-false (int_eq (net g.arcs flow v) (at_node g.supplies v)) parts.1);
      }

  pub none-from_AllMet : AllMet g prices flow → bad_node g prices flow ≡ None
  none-from_AllMet h =
      least_none (is_unmet (net g.arcs flow) g.supplies (length prices)) (max (node_count g) (length prices))
      (λ j k. within (net g.arcs flow) g.supplies (length prices) (j + 1) (omega (arith, h.one_price_each)) (omega (arith, h.one_price_each))
      ((Decides-int_eq (net g.arcs flow (j + 1)) (at_node g.supplies (j + 1))).1
      (h.meets_supplies (j + 1) (omega arith, omega (arith, h.one_price_each)))))
