-- The residual arcs of a star.
use Rattle.std.proofs.Common.{◌≡◌, ◌≢◌, ℕ, suc, ◌+◌, ◌-◌, ◌*◌, ◌/◌, ◌%◌, ◌<◌, ◌≤◌, true, false, eqb, List, [], ◌∷◌, ◌++◌, length, map, take, drop, get_or}
use Rattle.std.proofs.Common.{refl, sym, ap, ◌∙◌, arith, subst, ◌⊎◌, inl, inr}
use Rattle.std.specs.List.{All}
use Rattle.std.specs.Prelude.{Result, Ok, Err, OnErr}
use Rattle.std.proofs.Math.Seq.{drop-append_seam, slice, slice-cons, take-append_seam, take-length}
use Rattle.std.proofs.lemmas.Bool.{cases_eq, cases_lt, eq-eqb, ne_eqb}
use Rattle.std.proofs.lemmas.List.{append-nil, append_assoc, drop_all, get_or_append_left, get_or_push, length-take, length-take-le, length_push, map_push}
use Rattle.std.proofs.lemmas.List.{take-take}
use Rattle.std.proofs.lemmas.List.Elements.{All-append, All-cons, All-get_or, All-head, All-nil, All-tail}
use Rattle.mcf_flows.specs.Network.{Network, IsArcNumber, IsNode, node_count}
use Rattle.mcf_network.specs.declared.rid.Rid.{Rid}
use Rattle.mcf_network.specs.Nets.{IsNet}
use Rattle.mcf_network.specs.Stars.{Leaves, ListsLeaving}
use Rattle.mcf_network.proofs.ArcLaws.{arcs_need_nodes}
use Rattle.mcf_network.proofs.StateLaws.{rid}
use Rattle.mcf_scaling.specs.declared.star.ResidualArc.{ResidualArc}
use Rattle.mcf_scaling.specs.declared.star.Span.{Span}
use Rattle.mcf_scaling.specs.Private.CurrentArcs.{rest_from}
use Rattle.mcf_scaling.specs.Private.Stars.{Star, IsResidualArc, IsStarOf, IsStarUpTo, no_out, no_span, out_at, residual_at, residual_of, residuals, span_of}

pub on_err : {T E : Type 0} (r : Result T E) (P : Type 0) → P → OnErr r P
on_err (Ok x) P h = tt
on_err (Err e) P h = h

-- a net with arcs has nodes
pub arcs_want : (g : Network) (capacity : ℕ) → IsNet g → capacity ≡ 2 * length g.arcs → (capacity ≡ 0 → ⊥) → 1 ≤ node_count g
arcs_want g capacity ok e some =
    arcs_need_nodes (node_count g) g.arcs ok.ends
    (elim (cases_eq (length g.arcs) 0) [
      | inl none ↦ absurd (some (omega (arith, e, none)))
      | inr more ↦ omega (arith, more)
    ])

-- a star with residual arcs has nodes
pub outs_want : (g : Network) (star : Star) (count : ℕ) → IsStarOf g star → count ≡ length star.outs → 1 ≤ count → 1 ≤ node_count g
outs_want g star count ok e some =
    let (v, node, low, high) = ok.covers 0 (omega (arith, e, some)) in
    omega (arith, node)

-- ---- numbers of residual arcs

-- a residual arc of the net
pub link_arc : (g : Network) (link : ℕ) → link < 2 * length g.arcs → IsArcNumber g (residual_of link).arc
link_arc g link h = (omega arith, omega (arith, h))

pub link_forward : (k link : ℕ) → 1 ≤ k → link ≡ 2 * (k - 1) → residual_of link ≡ rid k false
link_forward k link some e =
    let arc : link / 2 + 1 ≡ k = omega (arith, e, some) in
    let back = ne_eqb (link % 2) 1 (let even : link % 2 ≢ 1 = omega (arith, e) in even) in
    ap (λ (j : ℕ). rid j (eqb (link % 2) 1)) arc ∙ ap (rid k) back

pub link_back : (k link : ℕ) → 1 ≤ k → link ≡ 2 * (k - 1) + 1 → residual_of link ≡ rid k true
link_back k link some e =
    let arc : link / 2 + 1 ≡ k = omega (arith, e, some) in
    let back = eq-eqb (link % 2) 1 (let odd : link % 2 ≡ 1 = omega (arith, e) in odd) in
    ap (λ (j : ℕ). rid j (eqb (link % 2) 1)) arc ∙ ap (rid k) back

-- the numbers of an arc
pub links_of : (k link : ℕ) → (residual_of link).arc ≡ k → (link ≡ 2 * (k - 1)) ⊎ (link ≡ 2 * (k - 1) + 1)
links_of k link e =
    elim (cases_eq (link % 2) 1) [
      | inl odd ↦ inr (omega (arith, e, odd))
      | inr even ↦ inl (omega (arith, e, even))
    ]

-- ---- reads

-- the residual arcs from a position on
pub rest_step : (star : Star) (v i : ℕ) → i < (span_of star v).end → (span_of star v).end ≤ length star.outs
    → rest_from star v i ≡ residual_at (out_at star i) ∷ rest_from star v (i + 1)
rest_step star v i below within =
    let on : suc i ≡ i + 1 = omega arith in
    ap (λ (xs : List ResidualArc). map residual_at xs) (slice-cons i (span_of star v).end star.outs no_out below within)
    ∙ ap (λ (j : ℕ). residual_at (out_at star i) ∷ residuals star.outs j (span_of star v).end) on

pub rest_end : (star : Star) (v i : ℕ) → (span_of star v).end ≤ i → (span_of star v).end ≤ length star.outs → rest_from star v i ≡ []
rest_end star v i past within =
    ap (λ (xs : List ResidualArc). map residual_at xs)
    (drop_all i (take (span_of star v).end star.outs) (let long = length-take-le (span_of star v).end star.outs within in omega (arith, long, past)))

-- the residual arc at a position
pub out_of_net : (g : Network) (star : Star) (i : ℕ) → IsStarOf g star → i < length star.outs → IsResidualArc g (out_at star i)
out_of_net g star i ok below = All-get_or (IsResidualArc g) star.outs i no_out below ok.each

-- ---- the residual arcs of a node, put behind the others

pub record IsListing (g : Network) (v : ℕ) (old now : List ResidualArc) (rest : List Rid) : Type 0 where
  pub more : List ResidualArc
  pub shape : now ≡ old ++ more
  pub each : All (IsResidualArc g) now
  pub leaves : All (Leaves g v) rest
  pub lists : ListsLeaving g v (map residual_at more ++ rest)

pub listing_start : (g : Network) (v : ℕ) (old : List ResidualArc) (list : List Rid) → All (IsResidualArc g) old → ListsLeaving g v list → IsListing g v old old list
listing_start g v old list each lists =
    record { more = []; shape = sym (append-nil old); each = each; leaves = lists.each_leaves; lists = lists }

pub listing_next : (g : Network) (v : ℕ) (old now after : List ResidualArc) (r : Rid) (rest : List Rid) (p : ResidualArc) → IsListing g v old now (r ∷ rest)
    → after ≡ now ++ p ∷ [] → IsResidualArc g p → residual_at p ≡ r → IsListing g v old after rest
listing_next g v old now after r rest p so e residual is =
    record {
      more = so.more ++ p ∷ [];
      shape = e ∙ ap (λ (xs : List ResidualArc). xs ++ p ∷ []) so.shape ∙ append_assoc old so.more (p ∷ []);
      each = subst (All (IsResidualArc g)) (sym e) (All-append (IsResidualArc g) now (p ∷ []) so.each (All-cons (IsResidualArc g) p [] residual (All-nil (IsResidualArc g))));
      leaves = All-tail (Leaves g v) r rest so.leaves;
      lists = subst (ListsLeaving g v) (sym (ap (λ (xs : List Rid). xs ++ rest) (map_push residual_at so.more p)
          ∙ ap (λ (q : Rid). map residual_at so.more ++ q ∷ [] ++ rest) is
          ∙ append_assoc (map residual_at so.more) (r ∷ []) rest)) so.lists;
    }

pub listing_before : (g : Network) (v : ℕ) (old now : List ResidualArc) (rest : List Rid) → IsListing g v old now rest → take (length old) now ≡ old
listing_before g v old now rest so = ap (take (length old)) so.shape ∙ take-append_seam old so.more

pub listing_end : (g : Network) (v : ℕ) (old now : List ResidualArc) (first end : ℕ) → IsListing g v old now [] → first ≡ length old → end ≡ length now
    → ListsLeaving g v (residuals now first end)
listing_end g v old now first end so low high =
    let whole : slice first end now ≡ so.more = ap (λ (i : ℕ). slice i end now) low ∙ ap (λ (j : ℕ). slice (length old) j now) high
    ∙ ap (drop (length old)) (take-length now) ∙ ap (drop (length old)) so.shape ∙ drop-append_seam old so.more in
    subst (ListsLeaving g v) (sym (ap (λ (xs : List ResidualArc). map residual_at xs) whole))
    (subst (ListsLeaving g v) (append-nil (map residual_at so.more)) so.lists)

-- ---- node by node

pub star_start : (g : Network) → IsStarUpTo g (record { spans = []; outs = []; positions = [] }) 0
star_start g =
    record {
      count = refl;
      each = All-nil (IsResidualArc g);
      rises = λ v h. absurd (omega (arith, h));
      within = λ v h. absurd (omega (arith, h));
      lists = λ v h. absurd (omega (arith, h));
      covers = λ i h. absurd (omega (arith, h));
    }

-- residual arcs that come behind change none before
residuals_kept : (old new : List ResidualArc) (i end : ℕ) → take (length old) new ≡ old → end ≤ length old → residuals old i end ≡ residuals new i end
residuals_kept old new i end before within =
    ap (λ (xs : List ResidualArc). map residual_at (drop i xs)) (ap (take end) (sym before) ∙ take-take end (length old) new within)

longer : (old new : List ResidualArc) → take (length old) new ≡ old → length old ≤ length new
longer old new before = let short = length-take (length old) new in let same = ap (λ (xs : List ResidualArc). length xs) before in omega (arith, short, same)

module _ (g : Network) (spans after : List Span) (old new : List ResidualArc) (n v : ℕ) (span : Span)
    (ok : IsStarUpTo g (record { spans = spans; outs = old; positions = [] }) n) (e : after ≡ spans ++ span ∷ []) (is : v ≡ n + 1)
    (before : take (length old) new ≡ old) (each : All (IsResidualArc g) new) (first : span.first ≡ length old) (end : span.end ≡ length new)
    (lists : ListsLeaving g v (residuals new span.first span.end)) where
  span_here : (u : ℕ) → u ≡ v → span ≡ span_of (record { spans = after; outs = new; positions = [] }) u
  span_here u same =
      sym (ap (λ (xs : List Span). get_or xs (u - 1) no_span) e ∙ get_or_push spans span no_span (u - 1) (omega (arith, same, is, ok.count)))

  span_there : (u : ℕ) → IsNode n u
      → span_of (record { spans = spans; outs = old; positions = [] }) u ≡ span_of (record { spans = after; outs = new; positions = [] }) u
  span_there u h =
      sym (ap (λ (xs : List Span). get_or xs (u - 1) no_span) e ∙ get_or_append_left spans (span ∷ []) no_span (u - 1) (omega (arith, h, ok.count)))

  pub star_next : IsStarUpTo g (record { spans = after; outs = new; positions = [] }) (n + 1)
  star_next =
      let long = longer old new before in
      record {
        count = ap (λ (xs : List Span). length xs) e ∙ omega (arith, length_push spans span, ok.count);
        each = each;
        rises = λ u h. elim (cases_eq u v) [
          | inl same ↦ subst (λ (s : Span). s.first ≤ s.end) (span_here u same) (omega (arith, first, end, long))
          | inr other ↦ subst (λ (s : Span). s.first ≤ s.end) (span_there u (h.0, omega (arith, h, other, is))) (ok.rises u (h.0, omega (arith, h, other, is)))
        ];
        within = λ u h. elim (cases_eq u v) [
          | inl same ↦ subst (λ (s : Span). s.end ≤ length new) (span_here u same) (omega (arith, end))
          | inr other ↦ subst (λ (s : Span). s.end ≤ length new) (span_there u (h.0, omega (arith, h, other, is)))
              (let within = ok.within u (h.0, omega (arith, h, other, is)) in omega (arith, within, long))
        ];
        lists = λ u h. elim (cases_eq u v) [
          | inl same ↦ subst (λ (s : Span). ListsLeaving g u (residuals new s.first s.end)) (span_here u same)
              (subst (λ (w : ℕ). ListsLeaving g w (residuals new span.first span.end)) (sym same) lists)
          | inr other ↦ (let inside : IsNode n u = (h.0, omega (arith, h, other, is)) in
              let s = span_of (record { spans = spans; outs = old; positions = [] }) u in
              subst (λ (s : Span). ListsLeaving g u (residuals new s.first s.end)) (span_there u inside)
              (subst (ListsLeaving g u) (residuals_kept old new s.first s.end before (ok.within u inside)) (ok.lists u inside)))
        ];
        covers = λ i below. elim (cases_lt i (length old)) [
          | inl earlier ↦ (let (u, node, low, high) = ok.covers i earlier in (
            u,
            (node.0, omega (arith, node)),
            subst (λ (s : Span). s.first ≤ i) (span_there u node) low,
            subst (λ (s : Span). i < s.end) (span_there u node) high,
          ))
          | inr now ↦ (
            v,
            (omega (arith, is), omega (arith, is)),
            subst (λ (s : Span). s.first ≤ i) (span_here v refl) (omega (arith, first, now)),
            subst (λ (s : Span). i < s.end) (span_here v refl) (omega (arith, end, below)),
          )
        ];
      }

-- a star without its table of positions is one with any
pub star_with : (g : Network) (spans : List Span) (outs : List ResidualArc) (some other : List ℕ) (n : ℕ)
    → IsStarUpTo g (record { spans = spans; outs = outs; positions = some }) n → IsStarUpTo g (record { spans = spans; outs = outs; positions = other }) n
star_with g spans outs some other n ok =
    record {
      count = ok.count;
      each = ok.each;
      rises = ok.rises;
      within = ok.within;
      lists = ok.lists;
      covers = ok.covers;
    }

-- ---- a scan of the residual arcs of a node, at position i

module _ (g : Network) (star : Star) (v i : ℕ) (span : Span) (ok : IsStarOf g star) (node : IsNode (node_count g) v) (is : span ≡ span_of star v)
    (below : i < span.end) where
  before_end : i < (span_of star v).end
  before_end = subst (λ (s : Span). i < s.end) is below

  pub scan_inside : i < length star.outs
  scan_inside = let within = ok.within v node in let here = before_end in omega (arith, within, here)

  pub scan_residual : (p : ResidualArc) → p ≡ out_at star i → IsResidualArc g p
  scan_residual p e = subst (IsResidualArc g) (sym e) (out_of_net g star i ok scan_inside)

  pub scan_step : (p : ResidualArc) → p ≡ out_at star i → rest_from star v i ≡ residual_at p ∷ rest_from star v (i + 1)
  scan_step p e =
      subst (λ (q : ResidualArc). rest_from star v i ≡ residual_at q ∷ rest_from star v (i + 1)) (sym e) (rest_step star v i before_end (ok.within v node))

  pub scan_leaves : (p : ResidualArc) → p ≡ out_at star i → All (Leaves g v) (rest_from star v i) → Leaves g v (residual_at p)
  scan_leaves p e all =
      All-head (Leaves g v) (residual_at p) (rest_from star v (i + 1)) (subst (All (Leaves g v)) (scan_step p e) all)

  pub scan_rest : (p : ResidualArc) → p ≡ out_at star i → All (Leaves g v) (rest_from star v i) → All (Leaves g v) (rest_from star v (i + 1))
  scan_rest p e all = All-tail (Leaves g v) (residual_at p) (rest_from star v (i + 1)) (subst (All (Leaves g v)) (scan_step p e) all)
