-- One pivot, from what its parts leave.
use Rattle.std.proofs.Common.{◌≡◌, ◌≢◌, ℕ, ◌+◌, ◌-◌, get_or, ◌<◌, ◌≤◌, List, length, refl, sym, ap, ◌∙◌, arith, subst, ℤ, pos, ◌+ℤ◌}
use Rattle.std.specs.Prelude.{unsigned_abs}
use Rattle.std.proofs.lemmas.Int.{ints}
use Rattle.std.proofs.lemmas.List.{get_or_default}
use Rattle.mcf_flows.specs.Limits.{limits}
use Rattle.mcf_flows.specs.WellFormed.{IsUpTo}
use Rattle.mcf_flows.specs.Network.{IsArcNumber, node_count}
use Rattle.mcf_network.specs.declared.rid.Rid.{Rid}
use Rattle.mcf_network.specs.Residual.{arc_at}
use Rattle.mcf_tree.specs.Apex.{IsApex}
use Rattle.mcf_tree.specs.SpanningTree.{SpanningTree, depth_of, size_of}
use Rattle.mcf_basis.specs.declared.climb.Climb.{Climb}
use Rattle.mcf_basis.specs.declared.cycle.Cycle.{Cycle}
use Rattle.mcf_basis.specs.declared.cycle.Leaving.TheVariants.{Entering}
use Rattle.mcf_basis.specs.declared.offer.ArcOffer.{ArcOffer}
use Rattle.mcf_basis.specs.declared.residuals.Residuals.{Residuals}
use Rattle.mcf_basis.specs.Bases.{IsBasis}
use Rattle.mcf_basis.specs.Pivots.{IsEligible, IsPivot, PairFalls, entering}
use Rattle.mcf_basis.specs.Private.Climbs.{CanReplace, IsChosen, IsClimb, IsReplaced, laid}
use Rattle.mcf_basis.specs.Private.Climbs.IsReplaced.{at_once, exchanged}
use Rattle.mcf_basis.specs.Private.Layouts.{Layout, IsLaidOut, Prices, basis_in, no_offer, offer_at}
use Rattle.mcf_basis.specs.Private.Offered.{CanReduce, reduced_by}
use Rattle.mcf_basis.specs.Private.Turned.{CanPush, IsPushedRound, is_left, offers_kept}
use Rattle.mcf_basis.specs.Structures.{TreeStructure, CanTake}
use Rattle.mcf_basis.proofs.Around.{CanGoRound, IsAround, IsLeaving, WentRound, from_of, to_of, around}
use Rattle.mcf_basis.proofs.Around.IsLeaving.{right as leaves_right, enter as leaves_at_once, left as leaves_left}
use Rattle.mcf_basis.proofs.Climbed.{IsOut, IsTaken, chosen_round, chosen_taken, leaves_by}
use Rattle.mcf_basis.proofs.CyclePlaces.{last_of_leaving}
use Rattle.mcf_basis.proofs.Offers.{IsReadOffer, can_reduce, offered, read_offer}
use Rattle.mcf_basis.proofs.PivotKeeps.{pivots_lower_the_pair_lem, pivots_keep_bases_lem}
use Rattle.mcf_basis.proofs.Pushed.{went_round}
use Rattle.mcf_basis.proofs.TurnedLayout.{IsPivotedLayout, can_exchange, exchanged_pivot, kept_pivot, next_layout}
use Rattle.mcf_basis.proofs.TurnedStart.{can_push, entering_blocks, offer_ends, width_is}

-- what was found goes round the cycle of arc k
pub record IsRoundOf (l : Layout) (k : ℕ) (f : Cycle) : Type 0 where
  pub same_arc : f.arc ≡ k
  pub same_from : f.from ≡ from_of (basis_in l) k
  pub same_to : f.to ≡ to_of (basis_in l) k
  pub is_around : IsAround (basis_in l) k f.apex
  pub can : CanGoRound (basis_in l) k f.apex (pos f.amount)
  pub leaves : IsLeaving (basis_in l) k f.apex (pos f.amount) (leaves_by (basis_in l) k f.leaving f.out)
  pub is_out : f.leaving ≢ Entering → IsOut (basis_in l) k f.apex (pos f.amount) (leaves_by (basis_in l) k f.leaving f.out) f.out (is_left f.leaving)

leaving_blocks : (b : TreeStructure) (k apex : ℕ) (x : ℤ) (r : Rid) → IsLeaving b k apex x r → ¬ CanTake b r (x +ℤ pos 1)
leaving_blocks b k apex x r (leaves_right m short is full rest) = full
leaving_blocks b k apex x r (leaves_at_once is full rest) = full
leaving_blocks b k apex x r (leaves_left m short is full rest more side) = full

-- a pivot of a basis, and the layout that it led to
pub record IsTurnedTo (b : TreeStructure) (l' : Layout) (k : ℕ) (x : ℤ) : Type 0 where
  pub pivot : IsPivot b k x (basis_in l')
  pub laid_out : IsLaidOut l'
  pub falls : PairFalls b (basis_in l')

module _ (l : Layout) (b : TreeStructure) (k : ℕ) (ok : IsLaidOut l) (view : basis_in l ≡ b) (eligible : IsEligible b k) where
  el : IsEligible (basis_in l) k
  el = subst (λ x. IsEligible x k) (sym view) eligible

  pub number : IsArcNumber l.net k
  number = el.arc

  pub nodes : size_of l.tree ≡ node_count l.net + 1
  nodes = ok.basis.size

  pub read : IsReadOffer (basis_in l) k (offer_at l k)
  read = read_offer l k ok number

  keep_premises : (1 ≤ k) × (k ≤ length l.offers) × IsUpTo limits.cost (offer_at l k).cost
  keep_premises = (el.arc.0, omega (arith, el.arc, ok.offers_size), read.cost)

  pub residuals_sized : length l.residuals ≡ size_of l.tree
  residuals_sized = ok.residuals_size ∙ sym ok.basis.size

  -- the offer, as it is read
  module _ (o : ArcOffer) (i : ℕ) (at : i ≡ k - 1) (read_there : o ≡ get_or l.offers i o) where
    is : o ≡ offer_at l k
    is =
        read_there ∙ (get_or_default l.offers i o no_offer (omega (arith, at, el.arc, ok.offers_size)) ∙ ap (λ j. get_or l.offers j no_offer) at)

    pub from_in_tree : o.from < size_of l.tree
    from_in_tree = (let h : (offer_at l k).from ≤ node_count l.net = read.from in rw is (omega (arith, nodes, h)))

    pub to_in_tree : o.to < size_of l.tree
    to_in_tree = (let h : (offer_at l k).to ≤ node_count l.net = read.to in rw is (omega (arith, nodes, h)))

    pub reduced_ready : CanReduce l.table.prices o
    reduced_ready = rw is (can_reduce l k ok number)

    pub reduced_is : reduced_by l.table.prices o ≡ offered (basis_in l) (offer_at l k)
    reduced_is = rw is refl

    -- the cycle of a climb from the ends of the offer
    pub cycle_found : (f : Cycle) (c : Climb) (residuals : List Residuals) (width : ℕ) → residuals ≡ l.residuals →
        width ≡ unsigned_abs (arc_at l.net k).cap → IsClimb l.tree residuals o.from o.to c → f.arc ≡ k → f.from ≡ o.from → f.to ≡ o.to → f.apex ≡ c.apex →
        IsChosen c width f.amount f.leaving f.out → IsRoundOf l k f
    cycle_found f c residuals width same_residuals same_width climb arc from to apex chosen =
        let ends = offer_ends l k ok el in
        let climbed : IsClimb l.tree l.residuals (from_of (basis_in l) k) (to_of (basis_in l) k) c = rw (same_residuals, is, ends.0, ends.1) at climb in
        let w = unsigned_abs (arc_at l.net k).cap in
        let turned : c.apex ≡ f.apex = sym apex in
        let h : IsChosen c w f.amount f.leaving f.out = rw same_width at chosen in
        let wide = width_is l k ok el in
        let taken = subst (λ a. IsTaken (basis_in l) k a (pos f.amount) f.leaving f.out) turned (chosen_taken l k w c ok el wide climbed f.amount f.leaving f.out h) in
        let is_apex : IsApex l.tree.parents (depth_of l.tree) (from_of (basis_in l) k) (to_of (basis_in l) k) f.apex =
        subst (λ a. IsApex l.tree.parents (depth_of l.tree) (from_of (basis_in l) k) (to_of (basis_in l) k) a) turned climbed.apex in
        record {
          same_arc = arc;
          same_from = from ∙ (ap (λ x. x.from) is ∙ ends.0);
          same_to = to ∙ (ap (λ x. x.to) is ∙ ends.1);
          is_around = around (basis_in l) k f.apex ok.basis el is_apex;
          can = subst (λ a. CanGoRound (basis_in l) k a (pos f.amount)) turned (chosen_round l k w c ok el wide climbed f.amount f.leaving f.out h);
          leaves = taken.leaves;
          is_out = taken.is_out;
        }

  module _ (f : Cycle) (round : IsRoundOf l k f) where
    -- the arc that leaves
    abbrev leaves : Rid
    leaves = leaves_by (basis_in l) k f.leaving f.out

    -- what push asks for
    pub push_ready : CanPush l.net l.tree l.residuals l.artificial f.from f.to f.apex f.amount
    push_ready = rw (round.same_from, round.same_to) (can_push l k f.apex f.amount ok el round.is_around round.can)

    -- what the exchange asks for
    pub replace_ready : (residuals : List Residuals) → length residuals ≡ length l.residuals → f.reduced ≡ offered (basis_in l) (offer_at l k) →
        CanReplace l.net l.tree l.offers residuals l.table f
    replace_ready residuals size is = record {
      at_once = λ e. rw round.same_arc keep_premises;
      exchanged = λ other. rw (round.same_arc, round.same_from, round.same_to, is)
          (can_exchange l k f.apex f.amount f.out (is_left f.leaving) leaves residuals ok el round.is_around round.can
          (round.is_out other) size);
    }

    went : WentRound (basis_in l) k f.apex (pos f.amount)
    went = went_round round.is_around (pos f.amount) (omega (arith, ints))

    -- what the parts leave
    replaced : (t' : SpanningTree) (offers : List ArcOffer) (residuals residuals' : List Residuals) (artificial : List ℤ) (table' : Prices) →
        f.reduced ≡ offered (basis_in l) (offer_at l k) →
        IsPushedRound l.net l.tree l.residuals residuals l.artificial artificial f.from f.to f.apex f.amount →
        IsReplaced l.net l.tree t' l.offers offers residuals residuals' l.table table' f →
        IsPivotedLayout l (next_layout l t' offers residuals' artificial table') k f.apex (pos f.amount) leaves
    replaced t' offers residuals residuals' artificial table' is pushed (at_once e tree turned same prices) =
        let full : ¬ CanTake (basis_in l) (entering (basis_in l) k) (pos f.amount +ℤ pos 1) =
        leaving_blocks (basis_in l) k f.apex (pos f.amount) (entering (basis_in l) k)
        (subst (λ w. IsLeaving (basis_in l) k f.apex (pos f.amount) (leaves_by (basis_in l) k w f.out)) e round.leaves) in
        rw (e, tree, same, prices)
        (kept_pivot l k f.apex f.amount ok el round.is_around round.can went residuals artificial
        (rw (round.same_from, round.same_to) at pushed) offers
        (entering_blocks l k ok el f.amount round.can.entering full) (turned ∙ ap (λ a. offers_kept a l.offers) round.same_arc))
    replaced t' offers residuals residuals' artificial table' is pushed (exchanged other h) =
        exchanged_pivot l k f.apex f.amount ok el round.is_around round.can went residuals artificial
        (rw (round.same_from, round.same_to) at pushed) f.out (is_left f.leaving)
        leaves (round.is_out other) t' offers residuals' table'
        (rw (round.same_arc, round.same_from, round.same_to, is) at h)

    pub pivoted : (l' : Layout) → IsPivotedLayout l l' k f.apex (pos f.amount) leaves → IsTurnedTo (basis_in l) l' k (pos f.amount)
    pivoted l' h =
        let pivot : IsPivot (basis_in l) k (pos f.amount) (basis_in l') = record {
          eligible = el;
          apex = f.apex;
          is_apex = round.is_around.is_apex;
          leaves = leaves;
          last_blocking = last_of_leaving (basis_in l) k f.apex (pos f.amount) leaves round.can round.leaves;
          net = h.net;
          amounts = h.amounts;
          mended = h.mended;
          pivots = h.pivots;
        } in
        let basis : IsBasis (basis_in l') = pivots_keep_bases_lem (basis_in l) (basis_in l') k (pos f.amount) ok.basis pivot in
        record {
          pivot = pivot;
          laid_out = h.laid_out basis;
          falls = pivots_lower_the_pair_lem (basis_in l) (basis_in l') k (pos f.amount) ok.basis pivot;
        }

    pub turned : (t' : SpanningTree) (offers : List ArcOffer) (residuals residuals' : List Residuals) (artificial : List ℤ) (table' : Prices) (pivots : ℕ) →
        pivots ≡ l.pivots + 1 → f.reduced ≡ offered (basis_in l) (offer_at l k) →
        IsPushedRound l.net l.tree l.residuals residuals l.artificial artificial f.from f.to f.apex f.amount →
        IsReplaced l.net l.tree t' l.offers offers residuals residuals' l.table table' f →
        IsTurnedTo b (laid l.net t' offers residuals' artificial table' pivots) k (pos f.amount)
    turned t' offers residuals residuals' artificial table' pivots one_more is pushed done =
        rw (one_more, ← view) (pivoted _ (replaced t' offers residuals residuals' artificial table' is pushed done))
