-- The offer of an arc says whether it can enter.
use Rattle.std.proofs.Common.{◌≡◌, ◌≢◌, ℕ, ◌-◌, ◌<◌, ◌≤◌, inl, inr, length, get_or, ap, sym, ◌∙◌, arith, subst, ℤ, pos, neg_ℤ, ◌+ℤ◌, ◌-ℤ◌, ◌<ℤ◌}
use Rattle.std.specs.Prelude.{◌↔◌, unsigned_abs}
use Rattle.std.proofs.lemmas.Int.{ints}
use Rattle.std.proofs.lemmas.Bool.{cond-true, cond-false, ne_eqb, eq-eqb}
use Rattle.std.proofs.lemmas.List.{get_or_read}
use Rattle.mcf_flows.specs.Limits.{limits}
use Rattle.mcf_flows.specs.Network.{IsArcNumber, node_count}
use Rattle.mcf_flows.specs.WellFormed.{IsUpTo, HasEnds}
use Rattle.mcf_network.specs.Nets.{IsNetArc}
use Rattle.mcf_network.specs.Residual.{arc_at}
use Rattle.mcf_network.proofs.ArcLaws.{ends_at, net_arc_at}
use Rattle.mcf_basis.specs.declared.offer.ArcOffer.{ArcOffer}
use Rattle.mcf_basis.specs.Bases.{IsBasis}
use Rattle.mcf_basis.specs.Private.Layouts.{Layout, IsLaidOut, basis_in, forward_offer, no_offer, offer_at, turned_offer}
use Rattle.mcf_basis.specs.Private.Offered.{CanReduce, HasOwnEnds, reduced_by}
use Rattle.mcf_basis.specs.Private.Offered.HasOwnEnds.{nodes, nothing}
use Rattle.mcf_basis.specs.Private.Layouts.IsOffer.{closed, forward, turned}
use Rattle.mcf_basis.specs.Pivots.{IsEligible}
use Rattle.mcf_basis.specs.Structures.{TreeStructure, IsInTree, carried, price_at, reduced_at}
use Rattle.mcf_basis.specs.Violations.{violation}
use Rattle.mcf_basis.proofs.Labels.{own_arc}
use Rattle.mcf_basis.proofs.TreePrices.{price_small}
use Rattle.mcf_basis.proofs.Views.{carried_outside}

-- the reduced cost of an arc of the net, by the arc itself
pub own_reduced : (b : TreeStructure) (k : ℕ) → IsArcNumber b.net k
    → reduced_at b k ≡ (arc_at b.net k).cost -ℤ price_at b (arc_at b.net k).src +ℤ price_at b (arc_at b.net k).dst
own_reduced b k h = ap (λ a. a.cost -ℤ price_at b a.src +ℤ price_at b a.dst) (own_arc b.net k h)

-- the reduced cost of a residual arc that is offered
abbrev pub offered : TreeStructure → ArcOffer → ℤ
offered b o = o.cost -ℤ price_at b o.from +ℤ price_at b o.to

-- an arc of reduced cost other than 0 is outside the tree
pub not_in_tree : (b : TreeStructure) (k : ℕ) → IsBasis b → reduced_at b k ≢ pos 0 → ¬ IsInTree b k
not_in_tree b k ok ne t = ne (ap (reduced_at b) (sym t.labelled) ∙ ok.prices.balanced t.node t.is_node)

pub record IsReadOffer (b : TreeStructure) (k : ℕ) (o : ArcOffer) : Type 0 where
  pub from : o.from ≤ node_count b.net
  pub to : o.to ≤ node_count b.net
  pub cost : IsUpTo limits.cost o.cost
  pub eligible : offered b o <ℤ pos 0 → IsEligible b k
  pub only : IsEligible b k → offered b o <ℤ pos 0
  pub size : offered b o <ℤ pos 0 → offered b o ≡ neg_ℤ (pos (violation b k))

below_size : (z : ℤ) → z <ℤ pos 0 → z ≡ neg_ℤ (pos (unsigned_abs z))
below_size z h = grind (arith, ints)

above_size : (z y : ℤ) → pos 0 <ℤ z → y ≡ neg_ℤ z → y ≡ neg_ℤ (pos (unsigned_abs z))
above_size z y h e = grind (arith, ints)

module _ (l : Layout) (k : ℕ) (ok : IsLaidOut l) (h : IsArcNumber l.net k) where
  arc_ok : IsNetArc (arc_at l.net k)
  arc_ok = net_arc_at l.net k ok.basis.of_net h

  ends_ok : HasEnds (node_count l.net) (arc_at l.net k)
  ends_ok = ends_at l.net k ok.basis.of_net h

  reduced_is : reduced_at (basis_in l) k ≡ (arc_at l.net k).cost -ℤ price_at (basis_in l) (arc_at l.net k).src +ℤ price_at (basis_in l) (arc_at l.net k).dst
  reduced_is = own_reduced (basis_in l) k h

  -- an arc outside the tree carries nothing if its offer goes forward
  pub empty : offer_at l k ≡ forward_offer l.net k → ¬ IsInTree (basis_in l) k → carried (basis_in l) k ≡ pos 0
  empty e out = carried_outside l k h out ∙ cond-true _ _ _ (eq-eqb _ _ (ap (λ o. o.from) e))

  -- and all that it can where it is turned
  pub full : offer_at l k ≡ turned_offer l.net k → pos 0 <ℤ (arc_at l.net k).cap → ¬ IsInTree (basis_in l) k → carried (basis_in l) k ≡ (arc_at l.net k).cap
  full e wide out =
      carried_outside l k h out ∙ cond-false _ _ _ (ne_eqb _ _ (λ q. (let z = arc_ok.no_loop_width (sym q ∙ ap (λ o. o.from) e) in omega (arith, ints, z, wide))))

  read_closed : (arc_at l.net k).cap ≡ pos 0 → offer_at l k ≡ no_offer → IsReadOffer (basis_in l) k (offer_at l k)
  read_closed cap e = rw e (record {
    from = omega arith;
    to = omega arith;
    cost = (omega (arith, ints), omega (arith, ints));
    eligible = λ neg. absurd (omega (arith, ints));
    only = λ el. absurd (omega (arith, ints, cap, el.wide));
    size = λ neg. absurd (omega (arith, ints));
  })

  read_forward : pos 0 <ℤ (arc_at l.net k).cap → offer_at l k ≡ forward_offer l.net k → IsReadOffer (basis_in l) k (offer_at l k)
  read_forward wide e =
      rw e (record {
        from = ends_ok.src_is_node.1;
        to = ends_ok.dst_is_node.1;
        cost = arc_ok.cost_small;
        eligible = λ neg. (let low : reduced_at (basis_in l) k <ℤ pos 0 = rw reduced_is neg in
            let out : ¬ IsInTree (basis_in l) k = not_in_tree (basis_in l) k ok.basis (λ z. omega (arith, ints)) in
            record { arc = h; outside = out; wide = wide; gains = inl (empty e out, low) });
        only = λ el. elim el.gains [
          | inl g ↦ (rw reduced_is at g.1)
          | inr g ↦ absurd (let z = empty e el.outside in omega (arith, ints, z, g.0, wide))
        ];
        size = λ neg. (let low : reduced_at (basis_in l) k <ℤ pos 0 = rw reduced_is neg in sym reduced_is ∙ below_size (reduced_at (basis_in l) k) low);
      })

  read_turned : pos 0 <ℤ (arc_at l.net k).cap → offer_at l k ≡ turned_offer l.net k → IsReadOffer (basis_in l) k (offer_at l k)
  read_turned wide e =
      let r = reduced_is in
      rw e (record {
        from = ends_ok.dst_is_node.1;
        to = ends_ok.src_is_node.1;
        cost = (let c = arc_ok.cost_small in (omega (arith, ints, c), omega (arith, ints, c)));
        eligible = λ neg. (let high : pos 0 <ℤ reduced_at (basis_in l) k = omega (arith, ints, r, neg) in
            let out : ¬ IsInTree (basis_in l) k = not_in_tree (basis_in l) k ok.basis (λ z. omega (arith, ints)) in
            record { arc = h; outside = out; wide = wide; gains = inr (full e wide out, high) });
        only = λ el. elim el.gains [
          | inl g ↦ absurd (let f = full e wide el.outside in omega (arith, ints, g.0, f, wide))
          | inr g ↦ omega (arith, ints, r, g.1)
        ];
        size = λ neg. above_size (reduced_at (basis_in l) k) _ (omega (arith, ints, r, neg)) (omega (arith, ints, r));
      })

  pub read_offer : IsReadOffer (basis_in l) k (offer_at l k)
  read_offer = elim (ok.offers k h) [
    | closed cap e ↦ read_closed cap e
    | forward wide e ↦ read_forward wide e
    | turned wide e ↦ read_turned wide e
  ]

  -- its ends are nodes of the net, unless the arc can carry nothing
  pub own_nodes_of : HasOwnEnds (offer_at l k)
  own_nodes_of =
      elim (ok.offers k h) [
        | closed cap e ↦ nothing e
        | forward wide e ↦ rw e (nodes ends_ok.src_is_node.0 ends_ok.dst_is_node.0)
        | turned wide e ↦ rw e (nodes ends_ok.dst_is_node.0 ends_ok.src_is_node.0)
      ]

  -- and its reduced cost can be computed
  pub can_reduce : CanReduce l.table.prices (offer_at l k)
  can_reduce =
      let count = ok.basis.prices.one_per_node in
      let r = read_offer in
      record {
        ends = record { from = omega (arith, count, r.from); to = omega (arith, count, r.to); cost = r.cost };
        from_small = price_small (basis_in l) ok.basis (offer_at l k).from r.from;
        to_small = price_small (basis_in l) ok.basis (offer_at l k).to r.to;
      }

-- the offer that the code reads, and its reduced cost
pub record IsOfferRead (l : Layout) (b : TreeStructure) (k : ℕ) (o : ArcOffer) : Type 0 where
  pub can : CanReduce l.table.prices o
  pub eligible : (reduced_by l.table.prices o <ℤ pos 0) ↔ IsEligible b k
  pub size : reduced_by l.table.prices o <ℤ pos 0 → reduced_by l.table.prices o ≡ neg_ℤ (pos (violation b k))

pub offer_read : (l : Layout) (b : TreeStructure) (k i : ℕ) (o : ArcOffer) → basis_in l ≡ b → IsLaidOut l → IsArcNumber b.net k → i ≡ k - 1
    → o ≡ get_or l.offers i o → IsOfferRead l b k o
offer_read l b k i o e ok h same read =
    let here : IsArcNumber l.net k = subst (λ x. IsArcNumber x.net k) (sym e) h in
    let is : o ≡ offer_at l k = get_or_read l.offers i o (omega (arith, ok.offers_size, here, same)) read no_offer
    ∙ ap (λ j. get_or l.offers j no_offer) same in
    let r = read_offer l k ok here in
    rw is (subst (λ x. IsOfferRead l x k (offer_at l k)) e (record { can = can_reduce l k ok here; eligible = (r.eligible, r.only); size = r.size }))

pub offer_in_range : (l : Layout) (b : TreeStructure) (k i : ℕ) → basis_in l ≡ b → IsLaidOut l → IsArcNumber b.net k → i ≡ k - 1 → i < length l.offers
offer_in_range l b k i e ok h same = omega (arith, subst (λ x. IsArcNumber x.net k) (sym e) h, ok.offers_size, same)

-- an arc as the code reads it, and its reduced cost
pub record IsReadReduced (b : TreeStructure) (k src dst : ℕ) (c : ℤ) : Type 0 where
  pub cost : IsUpTo limits.cost c
  pub value : reduced_at b k ≡ c -ℤ price_at b src +ℤ price_at b dst

pub reduced_read : (l : Layout) (b : TreeStructure) (k src dst : ℕ) (c : ℤ) → basis_in l ≡ b → IsLaidOut l → IsArcNumber b.net k
    → src ≡ (arc_at l.net k).src → dst ≡ (arc_at l.net k).dst → c ≡ (arc_at l.net k).cost → IsReadReduced b k src dst c
reduced_read l b k src dst c view ok h is_src is_dst is_cost =
    let here : IsArcNumber l.net k = subst (λ x. IsArcNumber x.net k) (sym view) h in
    let a : IsNetArc (arc_at l.net k) = net_arc_at l.net k ok.basis.of_net here in
    subst (λ x. IsReadReduced x k src dst c) view
    (rw (is_src, is_dst, is_cost) (record { cost = a.cost_small; value = own_reduced (basis_in l) k here }))
