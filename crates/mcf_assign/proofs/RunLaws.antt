-- Runs of searches: which rows they match, and what is left to send or to take when all rows are
-- matched.
use Rattle.std.proofs.Common.{◌<◌, ◌≡◌, ℕ, zero, suc, ◌+◌, ◌-◌, ◌≤◌, Bool, true, false, cond, List, [], ◌∷◌, ◌++◌, length, ℤ, pos, ◌≤ℤ◌, refl, sym, ◌∙◌}
use Rattle.std.proofs.Common.{ap, subst, arith, inl, inr}
use Rattle.std.specs.List.{All, Contains, filter, range_with_len}
use Rattle.std.proofs.lemmas.Bool.{cases_eq}
use Rattle.std.proofs.lemmas.Bool.Decides.{Decides-int_eq}
use Rattle.std.proofs.lemmas.Int.{ints}
use Rattle.std.proofs.lemmas.List.{append-nil, length-append}
use Rattle.std.proofs.lemmas.List.Elements.{All-weaker, Contains-append_cases, Contains-append_left, Contains-push, Contains-push_cases}
use Rattle.std.proofs.lemmas.List.Elements.{filter-append}
use Rattle.mcf_flows.specs.declared.problem.Side.TheVariants.{Send}
use Rattle.mcf_flows.specs.Network.{Network, IsNode, at_node, node_count}
use Rattle.mcf_flows.specs.Blocking.{Blocks, in_table}
use Rattle.mcf_flows.specs.WellFormed.{IsUpTo}
use Rattle.mcf_network.specs.States.{HasNoSurplus, IsFeasibleState, Pseudoflow, surplus_at}
use Rattle.mcf_network.specs.Chosen.{IsChosenBlock, supply_total}
use Rattle.mcf_network.proofs.Wholes.{settled}
use Rattle.mcf_engine.specs.NearPrices.{AreNearPrices, near_limit}
use Rattle.mcf_engine.specs.Outcomes.{AreStatePrices, IsLeastState}
use Rattle.mcf_engine.proofs.StatePrices.{least_from_prices}
use Rattle.mcf_engine.proofs.NearLaws.{shown_near}
use Rattle.mcf_matching.specs.declared.extended.Extended.{Extended}
use Rattle.mcf_matching.specs.declared.extended.Extended.TheVariants.{Matched, Blocked}
use Rattle.mcf_matching.specs.Extending.{Assigned, IsExtension, IsShownMatching}
use Rattle.mcf_matching.specs.Matchings.{IsMatchedRow, IsPartialMatching, IsRow, price_limit}
use Rattle.mcf_assign.specs.Private.Offering.{AreOffered}
use Rattle.mcf_assign.specs.Runs.{IsBlockedAtRow, IsMatchedByRows, Run, more, start, is_source, sources, sources_to}
use Rattle.mcf_matching.proofs.Kept.{no_pair}
use Rattle.mcf_matching.proofs.Surpluses.{column_surplus, matched_row, matching_shown, row_or_column}

-- ---- source nodes, ascending

range_split : (a n m j : ℕ) → j ≡ n + m → range_with_len a j ≡ range_with_len a n ++ range_with_len (a + n) m
range_split a zero m j e =
    let whole : j ≡ m = omega (arith, e) in
    let from : a ≡ a + 0 = omega arith in
    ap (range_with_len a) whole ∙ ap (λ b. range_with_len b m) from
range_split a (suc n) m j e =
    let longer : j ≡ suc (n + m) = omega (arith, e) in
    let from : a + 1 + n ≡ a + suc n = omega arith in
    ap (range_with_len a) longer
    ∙ ap (λ l. a ∷ l) (range_split (a + 1) n m (n + m) refl ∙ ap (λ b. range_with_len (a + 1) n ++ range_with_len b m) from)

-- those up to v, and those after it
sources_split : (g : Network) (n m k j v : ℕ) → j ≡ n + m → m ≡ suc k → v ≡ n + 1
    → sources_to g j ≡ sources_to g n ++ cond (is_source g v) (v ∷ filter (is_source g) (range_with_len (v + 1) k))
    (filter (is_source g) (range_with_len (v + 1) k))
sources_split g n m k j v e longer at =
    let here : 1 + n ≡ v = omega (arith, at) in
    ap (filter (is_source g)) (range_split 1 n m j e)
    ∙ filter-append (is_source g) (range_with_len 1 n) (range_with_len (1 + n) m)
    ∙ ap (λ b. sources_to g n ++ filter (is_source g) (range_with_len b m)) here
    ∙ ap (λ c. sources_to g n ++ filter (is_source g) (range_with_len v c)) longer

sources_more : (g : Network) (n v : ℕ) → v ≡ n + 1 → sources_to g v ≡ sources_to g n ++ cond (is_source g v) (v ∷ []) []
sources_more g n v e = sources_split g n 1 0 v v e refl e

sources_with : (g : Network) (n v : ℕ) → v ≡ n + 1 → is_source g v ≡ true → sources_to g v ≡ sources_to g n ++ v ∷ []
sources_with g n v e source = sources_more g n v e ∙ ap (λ b. sources_to g n ++ cond b (v ∷ []) []) source

or_none : (b : Bool) (x v : ℕ) → Contains (cond b (x ∷ []) []) v → v ≡ x
or_none true x v h =
    elim (Contains-push_cases [] x v h) [
      | inl none ↦ absurd (let l = none.1 in omega (arith, l))
      | inr e ↦ sym e
    ]
or_none false x v h = absurd (let l = h.1 in omega (arith, l))

sources_below : (g : Network) (n v : ℕ) → Contains (sources_to g n) v → v ≤ n
sources_below g zero v h = absurd (let l = h.1 in omega (arith, l))
sources_below g (suc n) v h =
    let last = sources_more g n (suc n) (omega arith) in
    elim (Contains-append_cases (sources_to g n) (cond (is_source g (suc n)) (suc n ∷ []) []) v (subst (λ l. Contains l v) last h)) [
      | inl was ↦ (let below = sources_below g n v was in omega (arith, below))
      | inr now ↦ (let e = or_none (is_source g (suc n)) (suc n) v now in omega (arith, e))
    ]

sources_have : (g : Network) (n v : ℕ) → IsNode n v → is_source g v ≡ true → Contains (sources_to g n) v
sources_have g zero v node source = absurd (omega (arith, node))
sources_have g (suc n) v node source =
    elim (cases_eq v (suc n)) [
      | inl e ↦ subst (λ l. Contains l v) (sym (sources_with g n v (omega (arith, e)) source) ∙ ap (sources_to g) e) (Contains-push (sources_to g n) v)
      | inr m ↦ subst (λ l. Contains l v) (sym (sources_more g n (suc n) (omega arith)))
          (Contains-append_left (sources_to g n) (cond (is_source g (suc n)) (suc n ∷ []) []) v (sources_have g n v (node.0, omega (arith, node, m)) source))
    ]

-- ---- what a run matches

pub run_net : (g : Network) (rows : List ℕ) (m : Assigned) → Run g rows m → m.flow.net ≡ g
run_net g rows m (start first) = ap (λ (s : Pseudoflow). s.net) first.flow
run_net g rows n (more {rows = before} {m = m} run is_row free grown shown) = grown.net ∙ run_net g before m run

run_listed : (g : Network) (rows : List ℕ) (m : Assigned) (v : ℕ) → Run g rows m → IsMatchedRow m.flow v → Contains rows v
run_listed g rows m v (start first) matched =
    let none = subst (λ (s : Pseudoflow). IsMatchedRow s v) first.flow matched in
    absurd (no_pair g none.0 none.1)
run_listed g rows n v (more {rows = before} {row = row} {m = m} run is_row free grown shown) matched =
    elim ((grown.rows v).0 matched) [
      | inl was ↦ Contains-append_left before (row ∷ []) v (run_listed g before m v run was)
      | inr e ↦ subst (λ u. Contains (before ++ row ∷ []) u) (sym e) (Contains-push before row)
    ]

run_matched : (g : Network) (rows : List ℕ) (m : Assigned) (v : ℕ) → Run g rows m → Contains rows v → IsMatchedRow m.flow v
run_matched g rows m v (start first) listed = absurd (let l = listed.1 in omega (arith, l))
run_matched g rows n v (more {rows = before} {row = row} {m = m} run is_row free grown shown) listed =
    elim (Contains-push_cases before row v listed) [
      | inl was ↦ (grown.rows v).1 (inl (run_matched g before m v run was))
      | inr e ↦ (grown.rows v).1 (inr (sym e))
    ]

-- one search for each row
run_searches : (g : Network) (rows : List ℕ) (m : Assigned) → Run g rows m → m.searches ≡ length rows
run_searches g rows m (start first) = first.searches
run_searches g rows n (more {rows = before} {row = row} {m = m} run is_row free grown shown) =
    let counted : n.searches ≡ m.searches + 1 = grown.searches in
    let was = run_searches g before m run in
    let longer = length-append before (row ∷ []) in
    omega (arith, counted, was, longer)

-- ---- one node more

module _ {g : Network} {n v : ℕ} {m : Assigned} (at : v ≡ n + 1) (inside : n < node_count g) (run : Run g (sources_to g n) m) where
  node : IsNode (node_count g) v
  node = (omega (arith, at), omega (arith, at, inside))

  pub offered_none : is_source g v ≡ false → Run g (sources_to g v) m
  offered_none other =
      let same = sources_more g n v at ∙ ap (λ b. sources_to g n ++ cond b (v ∷ []) []) other ∙ append-nil (sources_to g n) in
      subst (λ l. Run g l m) (sym same) run

  pub offered_row : is_source g v ≡ true → IsRow m.flow v
  offered_row source =
      let P : Network → Type 0 = λ (x : Network). IsNode (node_count x) v × (at_node x.supplies v ≡ pos 1) in
      subst P (sym (run_net g (sources_to g n) m run)) (node, (Decides-int_eq (at_node g.supplies v) (pos 1)).0 source)

  pub offered_free : ¬ IsMatchedRow m.flow v
  offered_free matched =
      let below = sources_below g n v (run_listed g (sources_to g n) m v run matched) in
      omega (arith, node, below)

  pub offered_next : (found : Extended) (m' : Assigned) → is_source g v ≡ true → IsExtension m v found m' → IsShownMatching m'
      → AreOffered g v found m'
  offered_next Matched m' source grown shown =
      subst (λ l. Run g l m') (sym (sources_with g n v at source)) (more run (offered_row source) offered_free grown shown)
  offered_next Blocked m' source stopped shown =
      let rest = filter (is_source g) (range_with_len (v + 1) (node_count g - v)) in
      record {
        before = sources_to g n;
        row = v;
        rest = rest;
        in_order = sources_split g n (suc (node_count g - v)) (node_count g - v) (node_count g) v (omega (arith, at, inside)) refl at
            ∙ ap (λ b. sources_to g n ++ cond b (v ∷ rest) rest) source;
        last = m;
        run = run;
        is_row = offered_row source;
        not_matched = offered_free;
        blocked = m';
        stopped = stopped;
        reached = refl;
        counted = refl;
        once = let counted : m'.searches ≡ m.searches + 1 = stopped.searches in
            let was = run_searches g (sources_to g n) m run in omega (arith, counted, was);
      }

-- ---- the end

all_matched : (g : Network) (m : Assigned) → Run g (sources g) m → IsPartialMatching m.flow → supply_total g ≡ pos 0 → HasNoSurplus m.flow
all_matched g m run ok balanced =
    settled m.flow ok.flow (ap supply_total same ∙ balanced) (λ v n. at_most v n)
  where
    same : m.flow.net ≡ g
    same = run_net g (sources g) m run

    at_most : (v : ℕ) → IsNode (node_count m.flow.net) v → surplus_at m.flow v ≤ℤ pos 0
    at_most v n =
        elim (row_or_column m.flow v ok n) [
          | inl row ↦ (
              let P : Network → Type 0 = λ (x : Network). IsNode (node_count x) v × (at_node x.supplies v ≡ pos 1) in
              let here = subst P same row in
              let matched = run_matched g (sources g) m v run (sources_have g (node_count g) v here.0 ((Decides-int_eq (at_node g.supplies v) (pos 1)).1 here.1)) in
              let none = matched_row m.flow v ok row matched in
              omega (arith, ints, none))
          | inr column ↦ (column_surplus m.flow v ok column).1
        ]

module _ (g : Network) (m : Assigned) (s : Pseudoflow) (prices : List ℤ) (run : Run g (sources g) m) (ok : IsPartialMatching m.flow)
    (balanced : supply_total g ≡ pos 0) (same : s ≡ m.flow) (shown : AreStatePrices m.flow.net s prices) where
  pub end_prices : AreStatePrices g s prices
  end_prices = subst (λ n. AreStatePrices n s prices) (run_net g (sources g) m run) shown

  feasible_end : IsFeasibleState g m.flow
  feasible_end =
      record {
        of_net = run_net g (sources g) m run;
        flow = ok.flow;
        no_surplus = all_matched g m run ok balanced;
      }

  pub end_least : IsLeastState g s
  end_least =
      subst (λ (t : Pseudoflow). IsLeastState g t) (sym same)
      (least_from_prices g m.flow prices feasible_end (subst (λ (t : Pseudoflow). AreStatePrices m.flow.net t prices) same shown).greatest)

  pub end_made : (searches : ℕ) → searches ≡ m.searches → IsMatchedByRows g s searches
  end_made searches counted = record {
    last = m;
    run = run;
    ends = sym same;
    counted = sym counted;
    once = counted ∙ run_searches g (sources g) m run;
  }

pub end_blocked : (g : Network) (table : List Bool) (searches : ℕ) → IsBlockedAtRow g table searches → supply_total g ≡ pos 0 → IsChosenBlock g table Send
end_blocked g table searches at balanced =
    let net = run_net g at.before at.last at.run in
    let stopped = at.stopped in
    let one_per_node = stopped.one_per_node in
    let blocks = stopped.blocks in
    record {
      one_per_node = ap length (sym at.reached) ∙ one_per_node ∙ ap node_count net;
      blocks = subst (λ t. Blocks g (in_table t) Send) at.reached (subst (λ n. Blocks n (in_table at.blocked.reached) Send) net blocks);
      chosen = record {
        take = (λ e. cc, λ low. absurd (omega (arith, ints, low, balanced)));
        whole = λ uneven v n. absurd (uneven balanced);
      };
    }

-- ---- prices

-- the prices of a matching show it
pub priced_near : (m : Assigned) (s : Pseudoflow) (y : List ℤ) → IsShownMatching m → s ≡ m.flow → y ≡ m.prices
    → All (IsUpTo price_limit) m.prices → AreNearPrices s 1 0 y
priced_near m s y ok flow prices small =
    let matching = ok.matching in
    let shown = ok.shown in
    let near = shown_near m.flow m.prices matching.flow shown.count (All-weaker (IsUpTo price_limit) (IsUpTo near_limit) wider m.prices small)
    (matching_shown m.flow m.prices matching shown)
    in
    subst (λ z. AreNearPrices s 1 0 z) (sym prices) (subst (λ t. AreNearPrices t 1 0 m.prices) (sym flow) near)
  where
    wider : (z : ℤ) → IsUpTo price_limit z → IsUpTo near_limit z
    wider z (low, high) = (omega (arith, ints, low), omega (arith, ints, high))

pub priced_shown : (m : Assigned) (s : Pseudoflow) (y z : List ℤ) → s ≡ m.flow → z ≡ y → AreStatePrices s.net s y → AreStatePrices m.flow.net s z
priced_shown m s y z flow prices shown =
    subst (λ x. AreStatePrices m.flow.net s x) (sym prices) (subst (λ (t : Pseudoflow). AreStatePrices t.net s y) flow shown)
