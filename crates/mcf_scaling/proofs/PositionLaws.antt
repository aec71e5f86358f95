-- Each residual arc stands at one position of a star.
use Rattle.std.proofs.Common.{◌≡◌, ◌≢◌, ℕ, ◌+◌, ◌-◌, ◌*◌, ◌/◌, ◌%◌, ◌^◌, ◌<◌, ◌≤◌, true, eqb, List, [], length, map, take, drop, set, get_or}
use Rattle.std.proofs.Common.{refl, sym, ap, ◌∙◌, arith, subst, inl, inr}
use Rattle.std.proofs.lemmas.Bool.{cases_eq, cases_order, eq-eqb, true≢false}
use Rattle.std.proofs.lemmas.Bool.Decides.{Decides-eqb, eqb_tells}
use Rattle.std.proofs.lemmas.List.{get_or-drop, get_or-map, get_or-set_other, get_or-set_same, get_or-take, length-drop, length-map, length-take-le}
use Rattle.std.proofs.lemmas.Map.Made.{IsDistinct-from_AllPairs}
use Rattle.std.proofs.lemmas.Map.Steps.{length-le_from_distinct_below}
use Rattle.std.proofs.lemmas.Map.Views.{Contains-from_any}
use Rattle.mcf_flows.specs.Network.{Network, IsNode, node_count}
use Rattle.mcf_network.specs.declared.rid.Rid.{Rid}
use Rattle.mcf_network.specs.Nets.{IsNet}
use Rattle.mcf_network.specs.Residual.{tail}
use Rattle.mcf_network.specs.Stars.{Leaves}
use Rattle.mcf_network.proofs.ArcLaws.{tail_is_node}
use Rattle.mcf_network.proofs.StateLaws.{rid}
use Rattle.mcf_scaling.specs.declared.star.ResidualArc.{ResidualArc}
use Rattle.mcf_scaling.specs.declared.star.Span.{Span}
use Rattle.mcf_scaling.specs.Private.Stars.{Star, ArePositions, ArePositionsUpTo, IsStarOf, IsStarUpTo, no_out}
use Rattle.mcf_scaling.specs.Private.Stars.{out_at, residual_at, residual_of, residuals, position_of, span_of, standing}
use Rattle.mcf_scaling.proofs.StarLaws.{link_arc, out_of_net, star_with}

-- ---- numbers

eqb_true : (a b : ℕ) → eqb a b ≡ true → a ≡ b
eqb_true a b e =
    elim (eqb_tells a b) [
      | inl (t, same) ↦ same
      | inr (f, other) ↦ absurd (true≢false (sym e ∙ f))
    ]

-- two numbers are those of two residual arcs
pub same_link : (a b : ℕ) → residual_of a ≡ residual_of b → a ≡ b
same_link a b e =
    let arc : a / 2 + 1 ≡ b / 2 + 1 = ap (λ (r : Rid). r.arc) e in
    let back : eqb (a % 2) 1 ≡ eqb (b % 2) 1 = ap (λ (r : Rid). r.back) e in
    elim (cases_eq (a % 2) 1) [
      | inl odd ↦ (let other = eqb_true (b % 2) 1 (sym back ∙ eq-eqb (a % 2) 1 odd) in omega (arith, arc, odd, other))
      | inr even ↦ elim (cases_eq (b % 2) 1) [
        | inl odd ↦ absurd (even (eqb_true (a % 2) 1 (back ∙ eq-eqb (b % 2) 1 odd)))
        | inr other ↦ omega (arith, arc, even, other)
      ]
    ]

-- ---- the positions of a node

module _ (g : Network) (star : Star) (ok : IsStarOf g star) (v : ℕ) (node : IsNode (node_count g) v) where
  listed : List Rid
  listed = residuals star.outs (span_of star v).first (span_of star v).end

  listed_length : length (residuals star.outs (span_of star v).first (span_of star v).end) ≡ (span_of star v).end - (span_of star v).first
  listed_length =
      length-map (drop (span_of star v).first (take (span_of star v).end star.outs)) residual_at
      ∙ length-drop (span_of star v).first (take (span_of star v).end star.outs)
      ∙ ap (λ (n : ℕ). n - (span_of star v).first) (length-take-le (span_of star v).end star.outs (ok.within v node))

  listed_at : (j : ℕ) (d : Rid) → (span_of star v).first + j < (span_of star v).end
      → get_or (residuals star.outs (span_of star v).first (span_of star v).end) j d ≡ standing star ((span_of star v).first + j)
  listed_at j d below =
      let long = listed_length in
      let all = length-map (drop (span_of star v).first (take (span_of star v).end star.outs)) residual_at in
      get_or-map residual_at (drop (span_of star v).first (take (span_of star v).end star.outs)) j no_out d (omega (arith, long, all, below))
      ∙ ap residual_at (get_or-drop (span_of star v).first (take (span_of star v).end star.outs) j no_out
      ∙ get_or-take (span_of star v).end star.outs ((span_of star v).first + j) no_out below)

  -- at a position of the node
  here_at : (i : ℕ) (d : Rid) → (span_of star v).first ≤ i → i < (span_of star v).end
      → get_or (residuals star.outs (span_of star v).first (span_of star v).end) (i - (span_of star v).first) d ≡ standing star i
  here_at i d low high =
      let back : (span_of star v).first + (i - (span_of star v).first) ≡ i = omega (arith, low) in
      listed_at (i - (span_of star v).first) d (omega (arith, low, high)) ∙ ap (standing star) back

  pub leaves_at : (i : ℕ) → (span_of star v).first ≤ i → i < (span_of star v).end → Leaves g v (standing star i)
  leaves_at i low high =
      let long = listed_length in
      subst (Leaves g v) (here_at i (rid 0 true) low high)
      ((ok.lists v node).each_leaves (i - (span_of star v).first) (rid 0 true) (omega (arith, long, low, high)))

  pub apart_at : (i j : ℕ) → (span_of star v).first ≤ i → i < j → j < (span_of star v).end → standing star i ≢ standing star j
  apart_at i j low less high same =
      let long = listed_length in
      (ok.lists v node).once (i - (span_of star v).first) (j - (span_of star v).first) (rid 0 true) (omega (arith, low, less))
      (omega (arith, long, low, less, high))
      (here_at i (rid 0 true) low (omega (arith, less, high)) ∙ same ∙ sym (here_at j (rid 0 true) (omega (arith, low, less)) high))

  -- a residual arc that leaves the node has a position
  pub position_for : (r : Rid) → Leaves g v r → (i : ℕ) × (i < length star.outs) × (standing star i ≡ r)
  position_for r leaves =
      let long = listed_length in
      let (k, below, is) = (ok.lists v node).every r leaves in
      let high : (span_of star v).first + k < (span_of star v).end = omega (arith, long, below) in
      let within = ok.within v node in
      ((span_of star v).first + k, omega (arith, high, within), sym (listed_at k r high) ∙ is)

-- ---- the positions of a net

-- no residual arc has two positions
pub one_position : (g : Network) (star : Star) (i j : ℕ) → IsStarOf g star → i < length star.outs → j < length star.outs
    → (out_at star i).link ≡ (out_at star j).link → i ≡ j
one_position g star i j ok h k same =
    let (v, node, low, high) = ok.covers i h in
    let (w, node', low', high') = ok.covers j k in
    let is : standing star i ≡ standing star j = ap residual_of same in
    let one : v ≡ w = sym (leaves_at g star ok v node i low high).from ∙ ap (tail g) is ∙ (leaves_at g star ok w node' j low' high').from in
    let below : j < (span_of star v).end = subst (λ (u : ℕ). j < (span_of star u).end) (sym one) high' in
    let above : (span_of star v).first ≤ j = subst (λ (u : ℕ). (span_of star u).first ≤ j) (sym one) low' in
    elim (cases_order i j) [
      | inl e ↦ e
      | inr (inl less) ↦ absurd (apart_at g star ok v node i j low less below is)
      | inr (inr more) ↦ absurd (apart_at g star ok v node j i above more high (sym is))
    ]

-- and each has one
pub some_position : (g : Network) (star : Star) (link : ℕ) → IsNet g → IsStarOf g star → link < 2 * length g.arcs
    → (i : ℕ) × (i < length star.outs) × ((out_at star i).link ≡ link)
some_position g star link net ok below =
    let r = residual_of link in
    let arc = link_arc g link below in
    let (i, h, is) = position_for g star ok (tail g r) (tail_is_node g r.arc r.back net arc) r (record { arc = arc; from = refl }) in
    (i, h, same_link (out_at star i).link link is)

-- so there are no more positions than residual arcs
pub few_outs : (g : Network) (star : Star) → IsStarOf g star → length star.outs ≤ 2 * length g.arcs
few_outs g star ok =
    let long = length-map star.outs (λ (p : ResidualArc). p.link) in
    let at = λ (i : ℕ) (d : ℕ) (h : i < length star.outs). get_or-map (λ (p : ResidualArc). p.link) star.outs i no_out d h in
    let few = length-le_from_distinct_below (map (λ (p : ResidualArc). p.link) star.outs) (2 * length g.arcs)
    (IsDistinct-from_AllPairs Decides-eqb (map (λ (p : ResidualArc). p.link) star.outs) (λ i j d less below same.
    let high : j < length star.outs = omega (arith, below, long) in
    let e = one_position g star i j ok (omega (arith, less, high)) high (sym (at i d (omega (arith, less, high))) ∙ same ∙ at j d high) in
    omega (arith, e, less)))
    (λ q found. let (k, below, is) = Contains-from_any eqb_true q (map (λ (p : ResidualArc). p.link) star.outs) found in
    let inside : k < length star.outs = omega (arith, below, long) in
    let link = (out_of_net g star k ok inside).link in
    let e = sym (at k q inside) ∙ is in
    omega (arith, link, e)) in
    omega (arith, few, long)

-- ---- the table of them

pub positions_start : (star : Star) → ArePositionsUpTo star 0
positions_start star = record { within = λ i below. absurd (omega (arith, below)); same = λ i below. absurd (omega (arith, below)) }

-- one position more
module _ (outs : List ResidualArc) (positions after : List ℕ) (n : ℕ) (link : ℕ) (so : ArePositionsUpTo (record { spans = []; outs = outs; positions = positions }) n)
    (is : link ≡ (get_or outs n no_out).link) (inside : link < length positions) (e : after ≡ set positions link n) where
  positions_here : (l : ℕ) → l ≡ link → position_of after l ≡ n
  positions_here l same = ap (λ (xs : List ℕ). position_of xs l) e ∙ ap (position_of (set positions link n)) same ∙ get_or-set_same positions link n 0 inside

  positions_there : (l : ℕ) → l ≢ link → position_of after l ≡ position_of positions l
  positions_there l other = ap (λ (xs : List ℕ). position_of xs l) e ∙ get_or-set_other positions link l n 0 other

  earlier : (i : ℕ) → i < n + 1 → (get_or outs i no_out).link ≢ link → i < n
  earlier i below other =
      elim (cases_eq i n) [
        | inl last ↦ absurd (other (ap (λ (j : ℕ). (get_or outs j no_out).link) last ∙ sym is))
        | inr before ↦ omega (arith, below, before)
      ]

  pub positions_next : ArePositionsUpTo (record { spans = []; outs = outs; positions = after }) (n + 1)
  positions_next =
      record {
        within = λ i below. elim (cases_eq (get_or outs i no_out).link link) [
          | inl one ↦ (let here = positions_here (get_or outs i no_out).link one in omega (arith, here))
          | inr other ↦ (let still = positions_there (get_or outs i no_out).link other in
              let within = so.within i (earlier i below other) in
              omega (arith, still, within))
        ];
        same = λ i below. elim (cases_eq (get_or outs i no_out).link link) [
          | inl one ↦ ap (λ (j : ℕ). (get_or outs j no_out).link) (positions_here (get_or outs i no_out).link one) ∙ sym is ∙ sym one
          | inr other ↦ ap (λ (j : ℕ). (get_or outs j no_out).link) (positions_there (get_or outs i no_out).link other)
              ∙ so.same i (earlier i below other)
        ];
      }

-- the whole table
pub all_positions : (g : Network) (star : Star) → IsNet g → IsStarOf g star → length star.positions ≡ 2 * length g.arcs → ArePositionsUpTo star (length star.outs)
    → ArePositions g star
all_positions g star net ok count so =
    record {
      count = count;
      within = λ link below. let (i, h, is) = some_position g star link net ok (omega (arith, below, count)) in
          subst (λ (l : ℕ). position_of star.positions l < length star.outs) is (so.within i h);
      there = λ link below. let (i, h, is) = some_position g star link net ok (omega (arith, below, count)) in
          subst (λ (l : ℕ). (out_at star (position_of star.positions l)).link ≡ l) is (so.same i h);
      only = λ i h. one_position g star (position_of star.positions (out_at star i).link) i ok (so.within i h) h (so.same i h);
    }

-- the star that was laid out, with its table
module _ (g : Network) (spans : List Span) (outs view : List ResidualArc) (n : ℕ) (ok : IsStarUpTo g (record { spans = spans; outs = outs; positions = [] }) n)
    (done : n ≡ node_count g) (net : IsNet g) (is : view ≡ outs) where
  pub whole_star : (positions : List ℕ) → IsStarOf g (record { spans = spans; outs = outs; positions = positions })
  whole_star positions =
      subst (λ (m : ℕ). IsStarUpTo g (record { spans = spans; outs = outs; positions = positions }) m) done (star_with g spans outs [] positions n ok)

  pub whole_few : length view ≤ 2 ^ 32
  whole_few =
      let few = few_outs g (record { spans = spans; outs = outs; positions = [] }) (whole_star []) in
      let arcs = net.arcs in
      let same = ap (λ (xs : List ResidualArc). length xs) is in
      omega (arith, few, arcs, same)

  pub whole_positions : (positions : List ℕ) → length positions ≡ 2 * length g.arcs
      → ArePositionsUpTo (record { spans = []; outs = view; positions = positions }) (length view)
      → ArePositions g (record { spans = spans; outs = outs; positions = positions })
  whole_positions positions count so =
      let here = subst (λ (xs : List ResidualArc). ArePositionsUpTo (record { spans = []; outs = xs; positions = positions }) (length xs)) is so in
      all_positions g (record { spans = spans; outs = outs; positions = positions }) net (whole_star positions) count
      (record { within = here.within; same = here.same })
