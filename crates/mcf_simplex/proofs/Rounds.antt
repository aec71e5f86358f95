-- The round of the arcs, block by block.
use Rattle.std.proofs.Common.{◌≡◌, ℕ, ◌+◌, ◌-◌, ◌*◌, ◌<◌, ◌≤◌, min, inl, inr, length, Option, Some, None, sym, ap, ◌∙◌, arith, subst}
use Rattle.std.proofs.lemmas.Bool.{cases_lt, cond-true, cond-false, le-leb, lt-leb}
use Rattle.mcf_flows.specs.Network.{IsArcNumber}
use Rattle.mcf_basis.specs.Pivots.{IsEligible}
use Rattle.mcf_basis.specs.Structures.{TreeStructure}
use Rattle.mcf_basis.specs.Violations.{HasNoEligible, HasNoneOf, IsFrom, IsMostViolated, IsPickOf, violation}
use Rattle.mcf_simplex.specs.Blocks.{BlockRule, HasNoneInRound, IsBlockPick, IsFound, IsInBlock, IsMoreViolated, IsNothing, IsRoundPick, arc_in_round}
use Rattle.mcf_simplex.specs.Blocks.{block_end, round_arc, start_arc}

pub round_low : (arcs start p : ℕ) → start + p ≤ arcs → arc_in_round arcs start p ≡ start + p
round_low arcs start p h = cond-true _ _ _ (le-leb (start + p) arcs h)

pub round_high : (arcs start p : ℕ) → arcs < start + p → arc_in_round arcs start p ≡ start + p - arcs
round_high arcs start p h = cond-false _ _ _ (lt-leb (start + p) arcs h)

-- a block of arcs that stand side by side, from this arc on
module _ (b : TreeStructure) (start begin end first last : ℕ) (same : last + begin ≡ first + end)
    (at : (p : ℕ) → begin ≤ p → p < end → round_arc b start p + begin ≡ first + p) where
  none_shifted : HasNoneOf b (IsFrom first last) → HasNoneInRound b start begin end
  none_shifted none = λ p low high el. (let e : round_arc b start p + begin ≡ first + p = at p low high in
      none (round_arc b start p) (omega arith, omega arith) el)

  place_of : (k : ℕ) → IsMostViolated b (IsFrom first last) k → IsInBlock b start begin end k
  place_of k best =
      let low : first ≤ k = best.one_of.0 in
      let high : k < last = best.one_of.1 in
      let here : round_arc b start (k + begin - first) + begin ≡ first + (k + begin - first) = at (k + begin - first) (omega arith) (omega arith) in
      record {
        place = k + begin - first;
        low = omega arith;
        high = omega arith;
        is = omega arith;
        eligible = best.eligible;
        greatest = λ p l h el. (let e : round_arc b start p + begin ≡ first + p = at p l h in
            best.greatest (round_arc b start p) (omega arith, omega arith) el);
        first_one = λ p l h el. (let e : round_arc b start p + begin ≡ first + p = at p l (omega arith) in
            best.first_one (round_arc b start p) (omega arith, omega arith) (omega arith) el);
      }

  pub shifted : (answer : Option ℕ) → IsPickOf b (IsFrom first last) answer → IsRoundPick b start begin end answer
  shifted None none = none_shifted none
  shifted (Some k) best = place_of k best

-- before the last arc, and after it
pub pick_low : (b : TreeStructure) (start begin end first last : ℕ) (answer : Option ℕ) → first ≡ start + begin → last ≡ start + end →
    last ≤ length b.net.arcs + 1 → IsPickOf b (IsFrom first last) answer → IsRoundPick b start begin end answer
pick_low b start begin end first last answer is_first is_last h best =
    shifted b start begin end first last (omega arith)
    (λ p low high. (let e : round_arc b start p ≡ start + p = round_low (length b.net.arcs) start p (omega arith) in omega arith)) answer best

pub pick_high : (b : TreeStructure) (start begin end first last : ℕ) (answer : Option ℕ) → length b.net.arcs < start + begin → begin ≤ end →
    first ≡ start + begin - length b.net.arcs → last ≡ start + end - length b.net.arcs → IsPickOf b (IsFrom first last) answer →
    IsRoundPick b start begin end answer
pick_high b start begin end first last answer h order is_first is_last best =
    shifted b start begin end first last (omega arith)
    (λ p low high. (let e : round_arc b start p ≡ start + p - length b.net.arcs = round_high (length b.net.arcs) start p (omega arith) in omega arith))
    answer best

-- two blocks, one after the other
module _ (b : TreeStructure) (start begin mid end : ℕ) (left : begin ≤ mid) (right : mid ≤ end) where
  none_joined : HasNoneInRound b start begin mid → HasNoneInRound b start mid end → HasNoneInRound b start begin end
  none_joined early late = λ p low high. elim (cases_lt p mid) [ inl h ↦ early p low h | inr h ↦ late p h high ]

  late_alone : (k : ℕ) → HasNoneInRound b start begin mid → IsInBlock b start mid end k → IsInBlock b start begin end k
  late_alone k early l =
      let low : mid ≤ l.place = l.low in
      record {
        place = l.place;
        low = omega arith;
        high = l.high;
        is = l.is;
        eligible = l.eligible;
        greatest = λ p pl ph el. elim (cases_lt p mid) [ inl h ↦ absurd (early p pl h el) | inr h ↦ l.greatest p h ph el ];
        first_one = λ p pl ph el. elim (cases_lt p mid) [ inl h ↦ absurd (early p pl h el) | inr h ↦ l.first_one p h ph el ];
      }

  early_wins : (k j : ℕ) → IsInBlock b start begin mid k → IsRoundPick b start mid end (Some j) → violation b j ≤ violation b k → IsInBlock b start begin end k
  early_wins k j e l le =
      let high : e.place < mid = e.high in
      record {
        place = e.place;
        low = e.low;
        high = omega arith;
        is = e.is;
        eligible = e.eligible;
        greatest = λ p pl ph el. elim (cases_lt p mid) [
          | inl h ↦ e.greatest p pl h el
          | inr h ↦ (let q : violation b (round_arc b start p) ≤ violation b j = l.greatest p h ph el in omega (arith, q, le))
        ];
        first_one = e.first_one;
      }

  early_alone : (k : ℕ) → IsInBlock b start begin mid k → HasNoneInRound b start mid end → IsInBlock b start begin end k
  early_alone k e late =
      let high : e.place < mid = e.high in
      record {
        place = e.place;
        low = e.low;
        high = omega arith;
        is = e.is;
        eligible = e.eligible;
        greatest = λ p pl ph el. elim (cases_lt p mid) [ inl h ↦ e.greatest p pl h el | inr h ↦ absurd (late p h ph el) ];
        first_one = e.first_one;
      }

  late_wins : (k j : ℕ) → IsInBlock b start begin mid k → IsInBlock b start mid end j → violation b k < violation b j → IsInBlock b start begin end j
  late_wins k j e l lt =
      let low : mid ≤ l.place = l.low in
      record {
        place = l.place;
        low = omega arith;
        high = l.high;
        is = l.is;
        eligible = l.eligible;
        greatest = λ p pl ph el. elim (cases_lt p mid) [
          | inl h ↦ (let q : violation b (round_arc b start p) ≤ violation b k = e.greatest p pl h el in omega (arith, q, lt))
          | inr h ↦ l.greatest p h ph el
        ];
        first_one = λ p pl ph el. elim (cases_lt p mid) [
          | inl h ↦ (let q : violation b (round_arc b start p) ≤ violation b k = e.greatest p pl h el in omega (arith, q, lt))
          | inr h ↦ l.first_one p h ph el
        ];
      }

  pub joined : (early late answer : Option ℕ) → IsRoundPick b start begin mid early → IsRoundPick b start mid end late → IsMoreViolated b early late answer →
      IsRoundPick b start begin end answer
  joined None None answer e l same = subst (IsRoundPick b start begin end) (sym same) (none_joined e l)
  joined None (Some j) answer e l same = subst (IsRoundPick b start begin end) (sym same) (late_alone j e l)
  joined (Some k) None answer e l same = subst (IsRoundPick b start begin end) (sym same) (early_alone k e l)
  joined (Some k) (Some j) answer e l (inl same) = subst (IsRoundPick b start begin end) (sym same.0) (early_wins k j e l same.1)
  joined (Some k) (Some j) answer e l (inr same) = subst (IsRoundPick b start begin end) (sym same.0) (late_wins k j e l same.1)

-- the block that goes past the last arc
pub pick_both : (b : TreeStructure) (start begin end first last : ℕ) (early late answer : Option ℕ) → first ≡ start + begin →
    start + begin ≤ length b.net.arcs → length b.net.arcs + 1 < start + end → start ≤ length b.net.arcs →
    last ≡ start + end - length b.net.arcs → IsPickOf b (IsFrom first (length b.net.arcs + 1)) early → IsPickOf b (IsFrom 1 last) late →
    IsMoreViolated b early late answer → IsRoundPick b start begin end answer
pick_both b start begin end first last early late answer is_first low high begins is_last e l more =
    joined b start begin (length b.net.arcs + 1 - start) end (omega arith) (omega arith) early late answer
    (pick_low b start begin (length b.net.arcs + 1 - start) first (length b.net.arcs + 1) early is_first (omega arith) (omega arith) e)
    (pick_high b start (length b.net.arcs + 1 - start) end 1 last late (omega arith) (omega arith) (omega arith) is_last l) more

-- each arc has its place in the round
none_of_round : (b : TreeStructure) (start : ℕ) → 1 ≤ start → start ≤ length b.net.arcs → HasNoneInRound b start 0 (length b.net.arcs) → HasNoEligible b
none_of_round b start low high none k el =
    let arc : IsArcNumber b.net k = el.arc in
    elim (cases_lt k start) [
      | inl before ↦ (let e : round_arc b start (k + length b.net.arcs - start) ≡ start + (k + length b.net.arcs - start) - length b.net.arcs =
          round_high (length b.net.arcs) start (k + length b.net.arcs - start) (omega arith) in
          let same : round_arc b start (k + length b.net.arcs - start) ≡ k = omega arith in
          none (k + length b.net.arcs - start) (omega arith) (omega arith) (subst (IsEligible b) (sym same) el))
      | inr from ↦ (let e : round_arc b start (k - start) ≡ start + (k - start) = round_low (length b.net.arcs) start (k - start) (omega arith) in
          let same : round_arc b start (k - start) ≡ k = omega arith in
          none (k - start) (omega arith) (omega arith) (subst (IsEligible b) (sym same) el))
    ]

-- this many arcs of the round were passed, in whole blocks, and none of them is eligible
pub record IsPassed (b : TreeStructure) (size start passed : ℕ) : Type 0 where
  pub blocks : ℕ
  pub whole : passed ≡ min (blocks * size) (length b.net.arcs)
  pub none : HasNoneInRound b start 0 passed

pub passed_more : (b : TreeStructure) (size start passed end : ℕ) → IsPassed b size start passed → passed < length b.net.arcs →
    end ≡ block_end (length b.net.arcs) size passed → HasNoneInRound b start passed end → IsPassed b size start end
passed_more b size start passed end p more is_end none =
    let whole : passed ≡ min (p.blocks * size) (length b.net.arcs) = p.whole in
    let product : (p.blocks + 1) * size ≡ p.blocks * size + size = omega arith in
    record {
      blocks = p.blocks + 1;
      whole = omega arith;
      none = none_joined b start 0 passed end (omega arith) (omega arith) p.none none;
    }

pub passed_found : (b : TreeStructure) (old new : BlockRule) (start passed end k : ℕ) → start ≡ start_arc (length b.net.arcs) old.next →
    IsPassed b old.size start passed → passed < length b.net.arcs → end ≡ block_end (length b.net.arcs) old.size passed →
    IsInBlock b start passed end k → new.size ≡ old.size → new.next ≡ round_arc b start end → IsBlockPick old b (Some k) new
passed_found b old new start passed end k is_start p more is_end found size next =
    let whole : passed ≡ min (p.blocks * old.size) (length b.net.arcs) = p.whole in
    let exact : p.blocks * old.size ≡ passed = omega arith in
    let ends : end ≡ block_end (length b.net.arcs) old.size (p.blocks * old.size) = is_end ∙ ap (block_end (length b.net.arcs) old.size) (sym exact) in
    subst (λ s. IsFound b old s k new) is_start
    (record {
      blocks = p.blocks;
      passed = subst (HasNoneInRound b start 0) (sym exact) p.none;
      found = subst (λ e. IsInBlock b start (p.blocks * old.size) e k) ends (subst (λ n. IsInBlock b start n end k) (sym exact) found);
      size = size;
      next = next ∙ ap (round_arc b start) ends;
    })

-- all were passed
pub none_left : (b : TreeStructure) (size start passed : ℕ) → 1 ≤ start → (1 ≤ length b.net.arcs → start ≤ length b.net.arcs) → IsPassed b size start passed →
    length b.net.arcs ≤ passed → HasNoEligible b
none_left b size start passed low high p all k el =
    let whole : passed ≡ min (p.blocks * size) (length b.net.arcs) = p.whole in
    let arc = el.arc in
    none_of_round b start low (high (omega (arith, arc))) (λ q l h. p.none q l (omega arith)) k el

pub passed_nothing : (b : TreeStructure) (old new : BlockRule) (start passed : ℕ) → start ≡ start_arc (length b.net.arcs) old.next → 1 ≤ start →
    (1 ≤ length b.net.arcs → start ≤ length b.net.arcs) → IsPassed b old.size start passed →
    length b.net.arcs ≤ passed → new.size ≡ old.size → new.next ≡ start → IsBlockPick old b None new
passed_nothing b old new start passed is_start low high p all size next =
    subst (λ s. IsNothing b old s new) is_start (record { none = none_left b old.size start passed low high p all; size = size; next = next })
