-- What runs of steps keep.
use Rattle.std.proofs.Common.{◌≡◌, ◌≢◌, ℕ, zero, suc, ◌+◌, ◌-◌, ◌*◌, ◌^◌, ◌<◌, ◌≤◌, eqb, Bool, true, false, not, List, length, set, get_or, refl, sym, ap, ◌∙◌}
use Rattle.std.proofs.Common.{arith, subst, ℤ, pos, neg_ℤ, ◌+ℤ◌, ◌-ℤ◌, ◌≤ℤ◌, ◌⊎◌, inl, inr, length-set}
use Rattle.std.specs.Prelude.{◌<ℤ◌}
use Rattle.std.specs.Int.{int_min}
use Rattle.std.proofs.Math.Nat.{mul-le-mul_left, one-le-pow, pow-suc}
use Rattle.std.proofs.lemmas.Int.{by_lt_z, clamps, ints}
use Rattle.std.proofs.lemmas.Bool.{eq-eqb, ne_eqb}
use Rattle.mcf_flows.specs.Network.{Network, IsNode, at_node, node_count}
use Rattle.mcf_network.specs.declared.rid.Rid.{Rid}
use Rattle.mcf_network.specs.Residual.{tail}
use Rattle.mcf_network.specs.States.{Pseudoflow, HasNoSurplus, pushed, room_of, surplus_at}
use Rattle.mcf_network.specs.Walks.{HasRoom}
use Rattle.mcf_network.proofs.StateLaws.{pushed_ok}
use Rattle.mcf_scaling.specs.Laws.{RunsKeepBounds}
use Rattle.mcf_scaling.specs.Optimality.{IsAdmissible, IsFilled, ceiling, IsOptimalWithin}
use Rattle.mcf_scaling.specs.Phases.{IsBegun, IsPush, IsRelabel, Run, relabels}
use Rattle.mcf_scaling.specs.Phases.Run.{start, begin, push, relabel}
use Rattle.mcf_scaling.specs.Refinements.{Refinement, StepCounts, IsActive, IsNodeOf, IsRefinement, reduced, within}
use Rattle.mcf_scaling.proofs.Rises.{rise_small}
use Rattle.mcf_scaling.proofs.StepLaws.{filled_optimal, pushed_optimal, pushed_taker, raised_at, raised_optimal, rest_has_none}

-- ---- a phase begins

half : (k : ℕ) → 2 ^ suc k ≡ 2 * 2 ^ k
half k = omega (arith, pow-suc 2 k)

-- no node has a surplus if none is active
pub no_surplus_of_rest : (a : Refinement) → IsRefinement a → ((v : ℕ) → ¬ IsActive a v) → HasNoSurplus a.flow
no_surplus_of_rest a ok rest =
    let (first, origin) = ok.origin in
    rest_has_none a.flow first ok.flow origin.flow origin.no_surplus
    (λ v h. by_lt_z (pos 0) (surplus_at a.flow v) (λ more. absurd (rest v (record { node = h; surplus = more }))) (λ p. p))

begun_risen : (y z : ℤ) (e n : ℕ) → pos 0 ≤ℤ y → y ≤ℤ z → (z -ℤ y) ≤ℤ pos (3 * (2 * e) * n) → (y +ℤ pos (6 * (2 * e) * n)) ≤ℤ pos ceiling
    → (z +ℤ pos (6 * e * n)) ≤ℤ pos ceiling
begun_risen y z e n floor low high top =
    let m = e * n in
    let three : 3 * (2 * e) * n ≡ 6 * m = omega arith in
    let twelve : 6 * (2 * e) * n ≡ 12 * m = omega arith in
    let six : 6 * e * n ≡ 6 * m = omega arith in
    omega (arith, ints, high, top, three, twelve, six)

begun_from : (s : Pseudoflow) (ys prices before : List ℤ) (k : ℕ) (m n : StepCounts)
    → IsRefinement (record { flow = s; prices = prices; before = before; scale = suc k; steps = m })
    → ((v : ℕ) → ¬ IsActive (record { flow = s; prices = prices; before = before; scale = suc k; steps = m }) v) → IsFilled s (record s { amounts = ys }) prices
    → IsRefinement (record { flow = record s { amounts = ys }; prices = prices; before = prices; scale = k; steps = n })
begun_from s ys prices before k m n ok rest filled =
    let a : Refinement = record { flow = s; prices = prices; before = before; scale = suc k; steps = m } in
    let none = no_surplus_of_rest a ok rest in
    let small = ok.small in
    record {
      flow = filled.flow;
      count = ok.count;
      before_count = ok.count;
      small = omega (arith, small);
      optimal = filled_optimal s (record s { amounts = ys }) prices (2 ^ k) filled;
      origin = (
        s.amounts,
        record {
          flow = ok.flow;
          no_surplus = none;
          optimal = subst (λ (e : ℕ). IsOptimalWithin e s prices) (half k) ok.optimal;
        },
      );
      risen = λ u h.
          let was = ok.risen u h in
          let floor = was.floor in
          let low = was.low in
          let high = subst (λ (e : ℕ). (at_node prices u -ℤ at_node before u) ≤ℤ pos (3 * e * node_count s.net)) (half k) was.high in
          let top = subst (λ (e : ℕ). (at_node before u +ℤ pos (6 * e * node_count s.net)) ≤ℤ pos ceiling) (half k) was.top in
          record {
            floor = omega (arith, ints, floor, low);
            low = omega (arith, ints);
            high = omega (arith, ints);
            top = begun_risen (at_node before u) (at_node prices u) (2 ^ k) (node_count s.net) floor low high top;
            taker = λ less. refl;
          };
    }

pub begun_keeps : (a b : Refinement) → IsRefinement a → IsBegun a b → IsRefinement b
begun_keeps a b ok step =
    let scaled : IsRefinement (record a { scale = suc b.scale }) = subst (λ (z : ℕ). IsRefinement (record a { scale = z })) step.scale ok in
    let net = ap (λ (g : Network). record { net = g; amounts = b.flow.amounts }) step.filled.net in
    let filled = subst (λ (t : Pseudoflow). IsFilled a.flow t a.prices) net step.filled in
    let made = begun_from a.flow b.flow.amounts a.prices a.before b.scale a.steps b.steps scaled
    (λ v active. step.rest v (record { node = active.node; surplus = active.surplus })) filled in
    let flow = subst (λ (t : Pseudoflow). IsRefinement (record { flow = t; prices = a.prices; before = a.prices; scale = b.scale; steps = b.steps })) (sym net) made in
    let before = subst (λ (ys : List ℤ). IsRefinement (record { flow = b.flow; prices = a.prices; before = ys; scale = b.scale; steps = b.steps })) (sym step.before) flow in
    subst (λ (ys : List ℤ). IsRefinement (record { flow = b.flow; prices = ys; before = b.before; scale = b.scale; steps = b.steps })) (sym step.prices) before

-- ---- a push

pub record IsShare (x y least : ℤ) : Type 0 where
  pub low : pos 0 ≤ℤ least
  pub first : least ≤ℤ x
  pub second : least ≤ℤ y
  pub some : pos 0 <ℤ least

pub share : (x y : ℤ) → pos 0 <ℤ x → pos 0 <ℤ y → IsShare x y (int_min x y)
share x y px py =
    record {
      low = omega (arith, ints, clamps, px, py);
      first = omega (arith, ints, clamps);
      second = omega (arith, ints, clamps);
      some = omega (arith, ints, clamps, px, py);
    }

pub pushed_keeps : (a : Refinement) (r : Rid) (x : ℤ) (steps : StepCounts) → IsRefinement a → IsAdmissible a.flow a.prices r → pos 0 ≤ℤ x
    → x ≤ℤ surplus_at a.flow (tail a.flow.net r) → x ≤ℤ room_of a.flow r → IsRefinement (record a { flow = pushed a.flow r x; steps = steps })
pushed_keeps a r x steps ok admissible low high room =
    let arc = admissible.room.arc in
    record {
      flow = pushed_ok a.flow r.arc r.back x ok.flow arc low room;
      count = ok.count;
      before_count = ok.before_count;
      small = ok.small;
      optimal = pushed_optimal a.flow a.prices (within a) r.arc r.back x ok.flow arc low admissible.negative ok.optimal;
      origin = (
        ok.origin.0,
        record {
          flow = ok.origin.1.flow;
          no_surplus = ok.origin.1.no_surplus;
          optimal = ok.origin.1.optimal;
        },
      );
      risen = λ u h. let was = ok.risen u h in record {
        floor = was.floor;
        low = was.low;
        high = was.high;
        top = was.top;
        taker = λ less. was.taker (pushed_taker a.flow r.arc r.back x u ok.flow arc low high less);
      };
    }

pub push_keeps : (a b : Refinement) (r : Rid) → IsRefinement a → IsPush a b r → IsRefinement b
push_keeps a b r ok step =
    let part = share (surplus_at a.flow (tail a.flow.net r)) (room_of a.flow r) step.active.surplus step.admissible.room.room in
    subst IsRefinement (sym step.pushes) (pushed_keeps a r _ _ ok step.admissible part.low part.first part.second)

-- ---- a relabel

pub rise_high : (a b : Refinement) (v : ℕ) (rise : ℤ) → IsRelabel a b v rise → pos (within a) ≤ℤ rise
rise_high a b v rise step =
    let (r, room, from, is) = step.reached in
    by_lt_z (reduced a r) (pos 0)
    (λ less. absurd (step.stuck r from (record { room = room; negative = less })))
    (λ p. omega (arith, ints, p, is))

pub raised_keeps : (a : Refinement) (v : ℕ) (rise : ℤ) (steps : StepCounts) → IsRefinement a → IsActive a v → pos 0 ≤ℤ rise
    → ((r : Rid) → HasRoom a.flow r → tail a.flow.net r ≡ v → rise ≤ℤ (reduced a r +ℤ pos (within a)))
    → IsRefinement (record a { prices = set a.prices (v - 1) (at_node a.prices v +ℤ rise); steps = steps })
raised_keeps a v rise steps ok active low least =
    let node = active.node in
    let surplus = active.surplus in
    let inside : IsNode (length a.prices) v = (node.0, omega (arith, node, ok.count)) in
    let tight = raised_optimal a.flow a.prices (within a) v rise ok.flow ok.count node low least ok.optimal in
    let at = λ (u : ℕ) (h : IsNodeOf a u). raised_at a.prices v u rise inside (h.0, omega (arith, h, ok.count)) in
    let kept = λ (u : ℕ) (h : IsNodeOf a u) (less : surplus_at a.flow u <ℤ pos 0). taker u h less (at u h) in
    record {
      flow = ok.flow;
      count = length-set a.prices (v - 1) (at_node a.prices v +ℤ rise) ∙ ok.count;
      before_count = ok.before_count;
      small = ok.small;
      optimal = tight;
      origin = (
        ok.origin.0,
        record {
          flow = ok.origin.1.flow;
          no_surplus = ok.origin.1.no_surplus;
          optimal = ok.origin.1.optimal;
        },
      );
      risen = λ u h. let was = ok.risen u h in record {
        floor = was.floor;
        low = lows u (was.low) (at u h);
        high = highs tight kept u h was.high (at u h);
        top = was.top;
        taker = kept u h;
      };
    }
  where
    taker : (u : ℕ) (h : IsNodeOf a u) → surplus_at a.flow u <ℤ pos 0
        → ((u ≡ v) × (at_node (set a.prices (v - 1) (at_node a.prices v +ℤ rise)) u ≡ at_node a.prices v +ℤ rise)) ⊎
        ((u ≢ v) × (at_node (set a.prices (v - 1) (at_node a.prices v +ℤ rise)) u ≡ at_node a.prices u)) → at_node
        (set a.prices (v - 1) (at_node a.prices v +ℤ rise)) u ≡ at_node a.before u
    taker u h less (inl (e, w)) = let surplus = active.surplus in let same = ap (surplus_at a.flow) e in absurd (omega (arith, ints, surplus, less, same))
    taker u h less (inr (n, w)) = w ∙ (ok.risen u h).taker less

    lows : (u : ℕ) → at_node a.before u ≤ℤ at_node a.prices u
        → ((u ≡ v) × (at_node (set a.prices (v - 1) (at_node a.prices v +ℤ rise)) u ≡ at_node a.prices v +ℤ rise)) ⊎
        ((u ≢ v) × (at_node (set a.prices (v - 1) (at_node a.prices v +ℤ rise)) u ≡ at_node a.prices u)) → at_node a.before u ≤ℤ at_node
        (set a.prices (v - 1) (at_node a.prices v +ℤ rise)) u
    lows u was (inl (e, w)) = let same = ap (at_node a.prices) e in omega (arith, ints, was, w, same, low)
    lows u was (inr (n, w)) = omega (arith, ints, was, w)

    highs : IsOptimalWithin (within a) a.flow (set a.prices (v - 1) (at_node a.prices v +ℤ rise))
        → ((u : ℕ) → IsNodeOf a u → surplus_at a.flow u <ℤ pos 0 → at_node (set a.prices (v - 1) (at_node a.prices v +ℤ rise)) u ≡ at_node a.before u)
        → (u : ℕ) → IsNodeOf a u → (at_node a.prices u -ℤ at_node a.before u) ≤ℤ pos (3 * within a * node_count a.flow.net)
        → ((u ≡ v) × (at_node (set a.prices (v - 1) (at_node a.prices v +ℤ rise)) u ≡ at_node a.prices v +ℤ rise)) ⊎
        ((u ≢ v) × (at_node (set a.prices (v - 1) (at_node a.prices v +ℤ rise)) u ≡ at_node a.prices u)) →
        (at_node (set a.prices (v - 1) (at_node a.prices v +ℤ rise)) u -ℤ at_node a.before u) ≤ℤ pos (3 * within a * node_count a.flow.net)
    highs tight kept u h was (inl (e, w)) =
        rise_small a.flow ok.origin.0 a.before (set a.prices (v - 1) (at_node a.prices v +ℤ rise)) (within a) ok.flow ok.origin.1.flow
        ok.origin.1.no_surplus ok.origin.1.optimal tight kept u h (let surplus = active.surplus in let same = ap (surplus_at a.flow) e in omega
        (arith, ints, surplus, same))
    highs tight kept u h was (inr (n, w)) = omega (arith, ints, was, w)

pub relabel_keeps : (a b : Refinement) (v : ℕ) (rise : ℤ) → IsRefinement a → IsRelabel a b v rise → IsRefinement b
relabel_keeps a b v rise ok step =
    let more = rise_high a b v rise step in
    subst IsRefinement (sym step.raises) (raised_keeps a v rise _ ok step.active (omega (arith, ints, more)) step.least)

-- ---- runs

-- a node was relabelled at most as often as its price has risen by e
abbrev Counted : Refinement → (ℕ → ℕ) → Type 0
Counted b counts =
    (v : ℕ) → IsNodeOf b v → pos (within b * counts v) ≤ℤ (at_node b.prices v -ℤ at_node b.before v)

counted_none : (b : Refinement) → IsRefinement b → Counted b (λ v. 0)
counted_none b ok v h =
    let low = (ok.risen v h).low in
    let none : within b * 0 ≡ 0 = omega arith in
    omega (arith, ints, low, none)

counted_raised : (b c : Refinement) (v : ℕ) (rise : ℤ) (counts : ℕ → ℕ) → IsRefinement b → IsRelabel b c v rise → Counted b counts
    → Counted (record b { prices = set b.prices (v - 1) (at_node b.prices v +ℤ rise) })
    (λ u. Rattle.std.proofs.Common.cond (eqb v u) (suc (counts u)) (counts u))
counted_raised b c v rise counts ok step counted u h =
    let node = step.active.node in
    let inside : IsNode (length b.prices) v = (node.0, omega (arith, node, ok.count)) in
    let most = rise_high b c v rise step in
    let was = counted u h in
    elim (raised_at b.prices v u rise inside (h.0, omega (arith, h, ok.count))) [
      | inl (e, w) ↦ (let same = ap (at_node b.prices) e in let one : within b * suc (counts u) ≡ within b + within b * counts u = omega arith in rw
          (eq-eqb v u (sym e)) (omega (arith, ints, w, was, same, most, one)))
      | inr (n, w) ↦ rw (ne_eqb v u (λ e. n (sym e))) (omega (arith, ints, w, was))
    ]

pub record IsReached (a b : Refinement) (k : ℕ) (counts : ℕ → ℕ) : Type 0 where
  pub refinement : IsRefinement b
  pub counted : Counted b counts
  pub phases : a.scale ≡ b.scale + k

pub run_reaches : (a b : Refinement) (k : ℕ) (run : Run a b k) → IsRefinement a → IsReached a b k (relabels run)
run_reaches a b k start ok =
    record { refinement = ok; counted = counted_none a ok; phases = omega arith }
run_reaches a c k (begin {b = b} {k = j} run step) ok =
    let was = run_reaches a b j run ok in
    let now = begun_keeps b c was.refinement step in
    let phases = was.phases in
    let scale = step.scale in
    record { refinement = now; counted = counted_none c now; phases = omega (arith, phases, scale) }
run_reaches a c k (push {b = b} {r = r} run step) ok =
    let was = run_reaches a b k run ok in
    let now = push_keeps b c r was.refinement step in
    let same = sym step.pushes in
    record {
      refinement = now;
      counted = subst (λ (z : Refinement). Counted z (relabels run)) same was.counted;
      phases = subst (λ (z : Refinement). a.scale ≡ z.scale + k) same was.phases;
    }
run_reaches a c k (relabel {b = b} {v = v} {rise = rise} run step) ok =
    let was = run_reaches a b k run ok in
    let now = relabel_keeps b c v rise was.refinement step in
    let same = sym step.raises in
    record {
      refinement = now;
      counted = subst (λ (z : Refinement). Counted z (λ u. Rattle.std.proofs.Common.cond (eqb v u) (suc (relabels run u)) (relabels run u))) same
          (counted_raised b c v rise (relabels run) was.refinement step was.counted);
      phases = subst (λ (z : Refinement). a.scale ≡ z.scale + k) same was.phases;
    }

-- e is at least 1
pub within_some : (b : Refinement) → 1 ≤ within b
within_some b = one-le-pow b.scale 2 (omega arith)

few : (e c n : ℕ) → 1 ≤ e → e * c ≤ 3 * e * n → c ≤ 3 * n
few e c n some h =
    by_lt_z (pos (3 * n)) (pos c)
    (λ more. absurd (let le : suc (3 * n) ≤ c = omega (arith, ints, more) in let product = mul-le-mul_left e le in
    let split : e * suc (3 * n) ≡ e + 3 * e * n = omega arith in omega (arith, product, split, some, h)))
    (λ p. omega (arith, ints, p))

pub runs_keep_bounds_lem : RunsKeepBounds
runs_keep_bounds_lem a b k run ok =
    let at = run_reaches a b k run ok in (
      at.refinement,
      λ v h. few (within b) (relabels run v) (node_count b.flow.net) (within_some b)
          (let low = at.counted v h in let high = (at.refinement.risen v h).high in omega (arith, ints, low, high)),
      at.phases,
    )
