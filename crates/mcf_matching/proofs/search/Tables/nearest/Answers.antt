use Rattle.std.proofs.Common.{◌-◌, ◌∙◌, ◌≤ℤ◌, ℤ, List, None, inl, ap, sym, subst, arith, length}
use Rattle.std.proofs.lemmas.Bool.{true≢false}
use Rattle.std.proofs.lemmas.List.Sorted.{length_permutation}
use Rattle.mcf_offers.specs.Offers.{Offer}
use Rattle.mcf_matching.specs.Private.Searches.{IsBestUpTo, IsNearest, queued, search_of}
use Rattle.mcf_matching.proofs.Nearest.{nearest_due, nearest_none, nearest_over, passed, waited_column}
use Rattle.mcf_matching.proofs.Relaxing.{read_mark}
use Rattle.mcf_matching.proofs.Rooms.{kept_same, kept_taken}
use Rattle.mcf_matching.proofs.search.Tables.nearest.Goals as goal

pub offers-init : goal.offers-init
offers-init g c = record { search = λ s y source ok searched. searched; kept = kept_same c.args.self.now }

pub returns-in_err-offer-clause-found : goal.returns-in_err-offer-clause-found
returns-in_err-offer-clause-found g c s y source ok searched =
    let p = search_of c.offers.self in
    let e = c.in_err-offer.ensures in
    subst (λ r. IsNearest s y source (queued p c.take.new.self.items) r) (sym c.from_residual.ensures)
    (subst (λ (l : List Offer). IsNearest s y source (queued p l) None) (e.same ∙ sym e.none)
    (nearest_none s y p source e.same (c.offers.invariant.search s y source ok searched)))

pub returns-in_err-offer-clause-kept : goal.returns-in_err-offer-clause-kept
returns-in_err-offer-clause-kept g c =
    let none = ap (λ (l : List Offer). length l) c.in_err-offer.ensures.none in
    kept_taken c.args.self.now c.offers.self c.take.new.self c.offers.invariant.kept c.take.ensures.room (omega (arith, none))

pub returns-then-not-is_better-clause-found : goal.returns-then-not-is_better-clause-found
returns-then-not-is_better-clause-found g c s y source ok searched =
    let o = c.in_ok-offer.offer in
    let p = search_of c.offers.self in
    nearest_over s y p source o c.take.new.self.items c.in_ok-offer.ensures.items ok (c.offers.invariant.search s y source ok searched)
    c.in_ok-offer.ensures.least (subst (λ (o : Offer). IsBestUpTo p.best o.dist) c.offer.view_is c.if-not-is_better.ensures)

pub returns-then-not-is_better-clause-kept : goal.returns-then-not-is_better-clause-kept
returns-then-not-is_better-clause-kept g c =
    let shorter = length_permutation _ _ c.in_ok-offer.ensures.items in
    kept_taken c.args.self.now c.offers.self c.take.new.self c.offers.invariant.kept c.take.ensures.room (omega (arith, shorter))

pub overflow_sub-offer-inside : goal.overflow_sub-offer-inside
overflow_sub-offer-inside g c =
    let (s, y, source, ok, searched) = c.requires.search in
    let column = ap (λ (o : Offer). o.column) c.offer.view_is in
    let low = (waited_column s y (search_of c.offers.self) source c.in_ok-offer.offer c.take.new.self.items c.in_ok-offer.ensures.items ok
    (c.offers.invariant.search s y source ok searched)).0 in
    omega (arith, column, low)

pub index-requires : goal.index-requires
index-requires g c =
    let (s, y, source, ok, searched) = c.requires.search in
    let now = c.offers.invariant.search s y source ok searched in
    let node = waited_column s y (search_of c.offers.self) source c.in_ok-offer.offer c.take.new.self.items c.in_ok-offer.ensures.items ok now in
    let count = now.entries.settled_count in
    let len = c.offers.self.marks.ok.0 in
    let column = ap (λ (o : Offer). o.column) c.offer.view_is in
    omega (arith, node, count, len, column)

pub returns-then-not-index-clause-found : goal.returns-then-not-index-clause-found
returns-then-not-index-clause-found g c s y source ok searched =
    let o = c.in_ok-offer.offer in
    let p = search_of c.offers.self in
    let now = c.offers.invariant.search s y source ok searched in
    let node = waited_column s y p source o c.take.new.self.items c.in_ok-offer.ensures.items ok now in
    let count = now.entries.settled_count in
    let mark = read_mark c.offers.self.marks.items (c.offer.inside.column - 1) o.column c.index.result.now c.index.ensures (ap (λ (o : Offer). o.column - 1) c.offer.view_is)
    (let column = ap (λ (o : Offer). o.column) c.offer.view_is in omega (arith, node, count, column)) in
    nearest_due s y p source o c.take.new.self.items c.in_ok-offer.ensures.items ok now c.in_ok-offer.ensures.least
    (λ settled. true≢false (sym settled ∙ mark ∙ c.if-not-index.true))
    (subst (λ (o : Offer). (x : ℤ) → IsBestUpTo p.best x → o.dist ≤ℤ x) c.offer.view_is c.if-not-is_better.ensures)

pub returns-then-not-index-clause-kept : goal.returns-then-not-index-clause-kept
returns-then-not-index-clause-kept g c =
    let shorter = length_permutation _ _ c.in_ok-offer.ensures.items in
    kept_taken c.args.self.now c.offers.self c.take.new.self c.offers.invariant.kept c.take.ensures.room (omega (arith, shorter))

pub offers-smaller : goal.offers-smaller
offers-smaller g c =
    let shorter = length_permutation _ _ c.in_ok-offer.ensures.items in
    omega (arith, shorter)

pub offers-preserved : goal.offers-preserved
offers-preserved g c =
    let o = c.in_ok-offer.offer in
    let p = search_of c.offers.self in
    let inv = c.offers.invariant in
    let shorter = length_permutation _ _ c.in_ok-offer.ensures.items in
    record {
      search = λ s y source ok searched.
          let now = inv.search s y source ok searched in
          let node = waited_column s y p source o c.take.new.self.items c.in_ok-offer.ensures.items ok now in
          let count = now.entries.settled_count in
          let mark = read_mark c.offers.self.marks.items (c.offer.inside.column - 1) o.column c.index.result.now c.index.ensures (ap (λ (o : Offer). o.column - 1) c.offer.view_is)
          (let column = ap (λ (o : Offer). o.column) c.offer.view_is in omega (arith, node, count, column)) in
          passed s y p source o c.take.new.self.items c.in_ok-offer.ensures.items ok now (inl (mark ∙ c.if-not-index.false));
      kept = kept_taken c.args.self.now c.offers.self c.take.new.self inv.kept c.take.ensures.room (omega (arith, shorter));
    }
