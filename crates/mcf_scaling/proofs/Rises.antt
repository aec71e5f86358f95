-- No price rises by more than 3ne in a phase.
use Rattle.std.proofs.Common.{◌≡◌, ℕ, zero, suc, ◌+◌, ◌-◌, ◌*◌, ◌<◌, Bool, true, false, not, ◌&&◌, List, [], ◌∷◌, length, get_or, refl, sym, ap, ◌∙◌, arith}
use Rattle.std.proofs.Common.{subst, ℤ, pos, neg_ℤ, ◌+ℤ◌, ◌-ℤ◌, ◌≤ℤ◌}
use Rattle.std.specs.Prelude.{◌<ℤ◌, int_lt}
use Rattle.std.proofs.Math.IntN.{◌*ℤ◌}
use Rattle.std.proofs.lemmas.Int.{ints, by_lt_z}
use Rattle.std.proofs.lemmas.Bool.{true≢false}
use Rattle.mcf_flows.specs.declared.arc.Arc.{Arc}
use Rattle.mcf_flows.specs.Blocking.{enters, leaves}
use Rattle.mcf_flows.specs.Flow.{net}
use Rattle.mcf_flows.specs.Network.{IsArcNumber, IsNode, at_node, flow_sum, node_count, node_sum, when}
use Rattle.mcf_flows.proofs.Hoffman.{nets_across}
use Rattle.mcf_flows.proofs.IntLaws.{neg-mul}
use Rattle.mcf_flows.proofs.NodeSums.{node_sum-same, node_sum-sub, node_sum_above_zero}
use Rattle.mcf_network.specs.Residual.{no_arc, arc_at}
use Rattle.mcf_network.specs.States.{Pseudoflow, IsPseudoflow, HasNoSurplus, amount_at, surplus_at}
use Rattle.mcf_network.proofs.ArcLaws.{amount_count, amount_of, ends_at}
use Rattle.mcf_network.proofs.StateLaws.{rid, when-sub}
use Rattle.mcf_scaling.specs.Laws.{PricesRiseLittle}
use Rattle.mcf_scaling.specs.Optimality.{IsOptimalWithin}

-- ---- a set is a test

pub int_lt-true : (x y : ℤ) → int_lt x y ≡ true → x <ℤ y
int_lt-true x y h = grind (arith, ints)

pub lt-int_lt : (x y : ℤ) → x <ℤ y → int_lt x y ≡ true
lt-int_lt x y h = grind (arith, ints)

-- a test that passes, or does not
pub by_test : {P : Type 0} (b : Bool) → (b ≡ true → P) → (b ≡ false → P) → P
by_test true f g = f refl
by_test false f g = g refl

-- how many of the first n nodes are in a set
abbrev pub size_of : (ℕ → Bool) → ℕ → ℤ
size_of set n = node_sum (λ v. when (set v) (pos 1)) n

pub size_within : (set : ℕ → Bool) (n : ℕ) → size_of set n ≤ℤ pos n
size_within set zero = omega (arith, ints)
size_within set (suc n) = let here = one_at_most (set (suc n)) in omega (arith, ints, here, size_within set n)
  where
    one_at_most : (b : Bool) → when b (pos 1) ≤ℤ pos 1
    one_at_most true = omega (arith, ints)
    one_at_most false = omega (arith, ints)

when_low : (b : Bool) (x : ℤ) → (b ≡ true → pos 0 ≤ℤ x) → pos 0 ≤ℤ when b x
when_low true x low = low refl
when_low false x low = omega (arith, ints)

when_true : (b : Bool) (x : ℤ) → b ≡ true → when b x ≡ x
when_true true x e = refl
when_true false x e = absurd (true≢false (sym e))

size_some : (set : ℕ → Bool) (n u : ℕ) → IsNode n u → set u ≡ true → pos 0 <ℤ size_of set n
size_some set n u h e =
    let one = when_true (set u) (pos 1) e in
    node_sum_above_zero (λ v. when (set v) (pos 1)) n u h (omega (arith, ints, one)) (λ v q. when_low (set v) (pos 1) (λ w. omega (arith, ints)))

-- a subset that is no smaller is the same set
same_size : (small large : ℕ → Bool) (n u : ℕ) → ((v : ℕ) → IsNode n v → small v ≡ true → large v ≡ true) → size_of large n ≤ℤ size_of small n
    → IsNode n u → large u ≡ true → small u ≡ true
same_size small large n u within le h e =
    by_test (small u) (λ a. a) (λ out. absurd (let more = node_sum_above_zero (λ v. when (large v) (pos 1) -ℤ when (small v) (pos 1)) n u h
    (here (large u) (small u) e out) (λ v q. there (small v) (large v) (within v q)) in omega
    (arith, ints, more, le, node_sum-sub (λ v. when (large v) (pos 1)) (λ v. when (small v) (pos 1)) n)))
  where
    here : (l s : Bool) → l ≡ true → s ≡ false → pos 0 <ℤ (when l (pos 1) -ℤ when s (pos 1))
    here true true e f = absurd (true≢false f)
    here true false e f = omega (arith, ints)
    here false s e f = absurd (true≢false (sym e))

    there : (s l : Bool) → (s ≡ true → l ≡ true) → pos 0 ≤ℤ (when l (pos 1) -ℤ when s (pos 1))
    there true true f = omega (arith, ints)
    there true false f = absurd (true≢false (sym (f refl)))
    there false true f = omega (arith, ints)
    there false false f = omega (arith, ints)

-- ---- the surplus of a set that amounts cannot leave toward those of a state without surplus

-- terms in order at each place, of one list of arcs with two flows
pub flow_sum_two : (t : Arc → ℤ → ℤ) (arcs : List Arc) (xs ys : List ℤ) → length xs ≡ length arcs → length ys ≡ length arcs
    → ((i : ℕ) → i < length arcs → t (get_or arcs i no_arc) (get_or xs i (pos 0)) ≤ℤ t (get_or arcs i no_arc) (get_or ys i (pos 0)))
    → flow_sum t arcs xs ≤ℤ flow_sum t arcs ys
flow_sum_two t [] xs ys n m e = omega (arith, ints)
flow_sum_two t (a ∷ arcs) [] ys n m e = absurd (omega arith)
flow_sum_two t (a ∷ arcs) (x ∷ xs) [] n m e = absurd (omega arith)
flow_sum_two t (a ∷ arcs) (x ∷ xs) (y ∷ ys) n m e =
    let here = e 0 (omega arith) in
    let more = flow_sum_two t arcs xs ys (omega arith) (omega arith) (λ i h. e (suc i) (omega arith)) in
    omega (arith, ints, here, more)

-- no arc that leaves the set carries less than in the other state, and none that enters it more
pub record IsClosedToward (s : Pseudoflow) (first : List ℤ) (set : ℕ → Bool) : Type 0 where
  pub out : (k : ℕ) → IsArcNumber s.net k → set (arc_at s.net k).src ≡ true → set (arc_at s.net k).dst ≡ false
      → amount_at (record s { amounts = first }) k ≤ℤ amount_at s k
  pub into : (k : ℕ) → IsArcNumber s.net k → set (arc_at s.net k).dst ≡ true → set (arc_at s.net k).src ≡ false
      → amount_at s k ≤ℤ amount_at (record s { amounts = first }) k

when_both : (a b : Bool) (x y : ℤ) → (a ≡ true → b ≡ false → x ≤ℤ y) → when (a && not b) x ≤ℤ when (a && not b) y
when_both true true x y h = omega (arith, ints)
when_both true false x y h = h refl refl
when_both false b x y h = omega (arith, ints)

module _ (s : Pseudoflow) (first : List ℤ) (set : ℕ → Bool) (ok : IsPseudoflow s) (was : IsPseudoflow (record s { amounts = first }))
    (none : HasNoSurplus (record s { amounts = first })) (closed : IsClosedToward s first set) where
  abbrev old : Pseudoflow
  old = record s { amounts = first }

  out_at : (i : ℕ) → i < length s.net.arcs
      → when (leaves set (get_or s.net.arcs i no_arc)) (get_or first i (pos 0)) ≤ℤ when (leaves set (get_or s.net.arcs i no_arc)) (get_or s.amounts i (pos 0))
  out_at i h =
      let back : i + 1 - 1 ≡ i = omega arith in
      let at : IsArcNumber s.net (i + 1) = (omega arith, omega arith) in
      subst (λ (j : ℕ). when (leaves set (get_or s.net.arcs j no_arc)) (get_or first j (pos 0)) ≤ℤ when (leaves set (get_or s.net.arcs j no_arc))
      (get_or s.amounts j (pos 0))) back (when_both (set (arc_at s.net (i + 1)).src) (set (arc_at s.net (i + 1)).dst) _ _ (closed.out (i + 1) at))

  into_at : (i : ℕ) → i < length s.net.arcs
      → when (enters set (get_or s.net.arcs i no_arc)) (get_or s.amounts i (pos 0)) ≤ℤ when (enters set (get_or s.net.arcs i no_arc)) (get_or first i (pos 0))
  into_at i h =
      let back : i + 1 - 1 ≡ i = omega arith in
      let at : IsArcNumber s.net (i + 1) = (omega arith, omega arith) in
      subst (λ (j : ℕ). when (enters set (get_or s.net.arcs j no_arc)) (get_or s.amounts j (pos 0)) ≤ℤ when (enters set (get_or s.net.arcs j no_arc))
      (get_or first j (pos 0))) back (when_both (set (arc_at s.net (i + 1)).dst) (set (arc_at s.net (i + 1)).src) _ _ (closed.into (i + 1) at))

  -- the surplus of a node is by how much its net was greater in the state without surplus
  surplus_is : (v : ℕ) → IsNode (node_count s.net) v
      → when (set v) (surplus_at s v) ≡ when (set v) (net s.net.arcs first v) -ℤ when (set v) (net s.net.arcs s.amounts v)
  surplus_is v h =
      let e = none v h in
      ap (when (set v)) (regroup (at_node s.net.supplies v) (net s.net.arcs first v) (net s.net.arcs s.amounts v) e) ∙ when-sub (set v)
      (net s.net.arcs first v) (net s.net.arcs s.amounts v)
    where
      regroup : (b x y : ℤ) → b -ℤ x ≡ pos 0 → b -ℤ y ≡ x -ℤ y
      regroup b x y e = omega (arith, ints, e)

  pub closed_surplus : node_sum (λ v. when (set v) (surplus_at s v)) (node_count s.net) ≤ℤ pos 0
  closed_surplus =
      let n = node_count s.net in
      let split = node_sum-same (λ v. when (set v) (surplus_at s v))
      (λ v. when (set v) (net s.net.arcs first v) -ℤ when (set v) (net s.net.arcs s.amounts v)) n surplus_is in
      let apart = node_sum-sub (λ v. when (set v) (net s.net.arcs first v)) (λ v. when (set v) (net s.net.arcs s.amounts v)) n in
      let then = nets_across n s.net.arcs first set ok.of_net.ends in
      let now = nets_across n s.net.arcs s.amounts set ok.of_net.ends in
      let out = flow_sum_two (λ a f. when (leaves set a) f) s.net.arcs first s.amounts (sym (amount_count old was)) (sym (amount_count s ok)) out_at in
      let into = flow_sum_two (λ a f. when (enters set a) f) s.net.arcs s.amounts first (sym (amount_count s ok)) (sym (amount_count old was)) into_at in
      omega (arith, ints, split, apart, then, now, out, into)

-- so no node of it has a surplus, where none takes
pub closed_none : (s : Pseudoflow) (first : List ℤ) (set : ℕ → Bool) → IsPseudoflow s → IsPseudoflow (record s { amounts = first })
    → HasNoSurplus (record s { amounts = first }) → IsClosedToward s first set
    → ((u : ℕ) → IsNode (node_count s.net) u → set u ≡ true → pos 0 ≤ℤ surplus_at s u) → (v : ℕ) → IsNode (node_count s.net) v → set v ≡ true
    → surplus_at s v ≤ℤ pos 0
closed_none s first set ok was none closed low v h inside =
    by_lt_z (pos 0) (surplus_at s v)
    (λ more. absurd (let here = when_true (set v) (surplus_at s v) inside in
    let some = node_sum_above_zero (λ u. when (set u) (surplus_at s u)) (node_count s.net) v h (omega (arith, ints, here, more))
    (λ u q. when_low (set u) (surplus_at s u) (low u q)) in omega (arith, ints, some, closed_surplus s first set ok was none closed)))
    (λ p. p)

-- ---- prices

-- a residual arc backward costs the opposite
scaled_back : (c : ℤ) (m : ℕ) → neg_ℤ c *ℤ pos m ≡ neg_ℤ (c *ℤ pos m)
scaled_back c m = neg-mul c (pos m)

module _ (s : Pseudoflow) (first : List ℤ) (before prices : List ℤ) (e : ℕ) (ok : IsPseudoflow s) (was : IsPseudoflow (record s { amounts = first }))
    (none : HasNoSurplus (record s { amounts = first })) (loose : IsOptimalWithin (2 * e) (record s { amounts = first }) before)
    (tight : IsOptimalWithin e s prices) (kept : (u : ℕ) → IsNode (node_count s.net) u → surplus_at s u <ℤ pos 0 → at_node prices u ≡ at_node before u) where
  abbrev rise : ℕ → ℤ
  rise u = at_node prices u -ℤ at_node before u

  abbrev n : ℕ
  n = node_count s.net

  -- along an arc that carries less than at the beginning the rise falls by at most 3e, and backward
  -- along one that carries more
  forward : (k : ℕ) → IsArcNumber s.net k → amount_at s k <ℤ amount_at (record s { amounts = first }) k
      → (at_node prices (arc_at s.net k).src -ℤ at_node before (arc_at s.net k).src) ≤ℤ
      ((at_node prices (arc_at s.net k).dst -ℤ at_node before (arc_at s.net k).dst) +ℤ pos (3 * e))
  forward k h less =
      let now = amount_of s k ok h in
      let then = amount_of (record s { amounts = first }) k was h in
      let low = now.low in
      let high = then.high in
      let a = tight (rid k false) (record { arc = h; room = omega (arith, ints, less, high) }) in
      let b = loose (rid k true) (record { arc = h; room = omega (arith, ints, less, low) }) in
      let c = scaled_back (arc_at s.net k).cost (node_count s.net + 1) in
      omega (arith, ints, a, b, c)

  backward : (k : ℕ) → IsArcNumber s.net k → amount_at (record s { amounts = first }) k <ℤ amount_at s k
      → (at_node prices (arc_at s.net k).dst -ℤ at_node before (arc_at s.net k).dst) ≤ℤ
      ((at_node prices (arc_at s.net k).src -ℤ at_node before (arc_at s.net k).src) +ℤ pos (3 * e))
  backward k h less =
      let now = amount_of s k ok h in
      let then = amount_of (record s { amounts = first }) k was h in
      let low = then.low in
      let high = now.high in
      let a = tight (rid k true) (record { arc = h; room = omega (arith, ints, less, low) }) in
      let b = loose (rid k false) (record { arc = h; room = omega (arith, ints, less, high) }) in
      let c = scaled_back (arc_at s.net k).cost (node_count s.net + 1) in
      omega (arith, ints, a, b, c)

  -- the nodes whose price has risen by more than j times 3e
  abbrev above : ℕ → ℕ → Bool
  above j u = int_lt (pos (3 * e * j)) (rise u)

  above_next : (j u : ℕ) → above (suc j) u ≡ true → above j u ≡ true
  above_next j u h =
      let less = int_lt-true (pos (3 * e * suc j)) (rise u) h in
      let more : 3 * e * suc j ≡ 3 * e + 3 * e * j = omega arith in
      lt-int_lt (pos (3 * e * j)) (rise u) (omega (arith, ints, less, more))

  -- a node one step on is among those of the level below
  above_step : (j u w : ℕ) → above (suc j) u ≡ true → rise u ≤ℤ (rise w +ℤ pos (3 * e)) → above j w ≡ true
  above_step j u w h step =
      let less = int_lt-true (pos (3 * e * suc j)) (rise u) h in
      let more : 3 * e * suc j ≡ 3 * e + 3 * e * j = omega arith in
      lt-int_lt (pos (3 * e * j)) (rise w) (omega (arith, ints, less, more, step))

  -- where two levels are the same set, it is closed
  level_closed : (j : ℕ) → ((u : ℕ) → IsNode n u → above j u ≡ true → above (suc j) u ≡ true) → IsClosedToward s first (above (suc j))
  level_closed j same =
      record {
        out = λ k h inside outside. by_lt_z (amount_at s k) (amount_at (record s { amounts = first }) k)
            (λ less. absurd (true≢false (sym (same (arc_at s.net k).dst (ends_at s.net k ok.of_net h).dst_is_node
            (above_step j (arc_at s.net k).src (arc_at s.net k).dst inside (forward k h less))) ∙ outside))) (λ p. p);
        into = λ k h inside outside. by_lt_z (amount_at (record s { amounts = first }) k) (amount_at s k)
            (λ less. absurd (true≢false (sym (same (arc_at s.net k).src (ends_at s.net k ok.of_net h).src_is_node
            (above_step j (arc_at s.net k).dst (arc_at s.net k).src inside (backward k h less))) ∙ outside))) (λ p. p);
      }

  -- no node of a level takes
  level_low : (j u : ℕ) → IsNode n u → above (suc j) u ≡ true → pos 0 ≤ℤ surplus_at s u
  level_low j u h inside =
      by_lt_z (surplus_at s u) (pos 0) (λ less. absurd (let more = int_lt-true (pos (3 * e * suc j)) (rise u) inside in let same = kept u h less in
      omega (arith, ints, more, same))) (λ p. p)

  -- a level that holds an active node is smaller than the one below
  level_falls : (j v : ℕ) → IsNode n v → pos 0 <ℤ surplus_at s v → above (suc j) v ≡ true → size_of (above (suc j)) n <ℤ size_of (above j) n
  level_falls j v h active inside =
      by_lt_z (size_of (above (suc j)) n) (size_of (above j) n) (λ p. p)
      (λ le. absurd (let same = λ (u : ℕ) (q : IsNode n u) (a : above j u ≡ true). same_size (above (suc j)) (above j) n u (λ w r. above_next j w) le
      q a in let stuck = closed_none s first (above (suc j)) ok was none (level_closed j same) (level_low j) v h inside in omega
      (arith, ints, stuck, active)))

  level_small : (j v : ℕ) → IsNode n v → pos 0 <ℤ surplus_at s v → above j v ≡ true → (size_of (above j) n +ℤ pos j) ≤ℤ pos n
  level_small zero v h active inside = let all = size_within (above 0) n in omega (arith, ints, all)
  level_small (suc j) v h active inside =
      let falls = level_falls j v h active inside in
      let before = level_small j v h active (above_next j v inside) in
      omega (arith, ints, falls, before)

  pub rise_small : (v : ℕ) → IsNode n v → pos 0 <ℤ surplus_at s v → rise v ≤ℤ pos (3 * e * n)
  rise_small v h active =
      by_lt_z (pos (3 * e * n)) (rise v)
      (λ more. absurd (let inside = lt-int_lt (pos (3 * e * n)) (rise v) more in let few = level_small n v h active inside in
      let some = size_some (above n) n v h inside in omega (arith, ints, few, some)))
      (λ p. p)

pub prices_rise_little_lem : PricesRiseLittle
prices_rise_little_lem s first before prices e ok was none loose tight kept v h active =
    rise_small s first before prices e ok was none loose tight kept v h active
