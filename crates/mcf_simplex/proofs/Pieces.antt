-- Blocks of pieces, stretch by stretch, and one after another.
use Rattle.std.proofs.Common.{◌≡◌, ℕ, ◌+◌, ◌-◌, ◌*◌, ◌%◌, ◌<◌, ◌≤◌, ◌⊎◌, min, inl, inr, length, Option, Some, None, sym, ap, ◌∙◌, arith, subst}
use Rattle.std.specs.Prelude.{false, IfNone}
use Rattle.std.specs.Option.{is_some}
use Rattle.std.specs.Int.{div_ceil}
use Rattle.std.proofs.lemmas.Bool.{cases_lt}
use Rattle.std.proofs.lemmas.Grind.{div_ceil_times}
use Rattle.std.proofs.lemmas.Nat.{mod-mul-add, mod_below, mul-le}
use Rattle.mcf_basis.specs.Pivots.{IsEligible}
use Rattle.mcf_basis.specs.Structures.{TreeStructure}
use Rattle.mcf_basis.specs.Violations.{HasNoEligible, HasNoneOf, IsFrom, IsMostViolated, IsPickOf, violation}
use Rattle.mcf_simplex.specs.Blocks.{IsMoreViolated, block_end}
use Rattle.mcf_simplex.specs.Following.{IsFirstBlock, IsFoundOrNone, IsInBlockOf, place_of, start_place}
use Rattle.mcf_simplex.specs.Private.Pieces.{IsFirstBlockOrNone}

-- two parts, one before the other, that have all eligible ones of some arcs
module _ (b : TreeStructure) (One Two Whole : ℕ → Type 0) (one_in : (k : ℕ) → One k → Whole k) (two_in : (k : ℕ) → Two k → Whole k)
    (split : (k : ℕ) → Whole k → IsEligible b k → One k ⊎ Two k) (order : (j k : ℕ) → One j → Two k → j < k) where
  none_of_both : HasNoneOf b One → HasNoneOf b Two → HasNoneOf b Whole
  none_of_both e l = λ k all el. elim (split k all el) [ inl o ↦ e k o el | inr t ↦ l k t el ]

  late_alone : (j : ℕ) → HasNoneOf b One → IsMostViolated b Two j → IsMostViolated b Whole j
  late_alone j e l =
      record {
        one_of = two_in j l.one_of;
        eligible = l.eligible;
        greatest = λ i all el. elim (split i all el) [ inl o ↦ absurd (e i o el) | inr t ↦ l.greatest i t el ];
        first_one = λ i all lt el. elim (split i all el) [ inl o ↦ absurd (e i o el) | inr t ↦ l.first_one i t lt el ];
      }

  early_alone : (k : ℕ) → IsMostViolated b One k → HasNoneOf b Two → IsMostViolated b Whole k
  early_alone k e l =
      record {
        one_of = one_in k e.one_of;
        eligible = e.eligible;
        greatest = λ i all el. elim (split i all el) [ inl o ↦ e.greatest i o el | inr t ↦ absurd (l i t el) ];
        first_one = λ i all lt el. elim (split i all el) [ inl o ↦ e.first_one i o lt el | inr t ↦ absurd (l i t el) ];
      }

  early_wins : (k j : ℕ) → IsMostViolated b One k → IsMostViolated b Two j → violation b j ≤ violation b k → IsMostViolated b Whole k
  early_wins k j e l le =
      record {
        one_of = one_in k e.one_of;
        eligible = e.eligible;
        greatest = λ i all el. elim (split i all el) [
          | inl o ↦ e.greatest i o el
          | inr t ↦ (let q : violation b i ≤ violation b j = l.greatest i t el in omega (arith, q, le))
        ];
        first_one = λ i all lt el. elim (split i all el) [
          | inl o ↦ e.first_one i o lt el
          | inr t ↦ (let q : k < i = order k i e.one_of t in absurd (omega (arith, q, lt)))
        ];
      }

  late_wins : (k j : ℕ) → IsMostViolated b One k → IsMostViolated b Two j → violation b k < violation b j → IsMostViolated b Whole j
  late_wins k j e l more =
      record {
        one_of = two_in j l.one_of;
        eligible = l.eligible;
        greatest = λ i all el. elim (split i all el) [
          | inl o ↦ (let q : violation b i ≤ violation b k = e.greatest i o el in omega (arith, q, more))
          | inr t ↦ l.greatest i t el
        ];
        first_one = λ i all lt el. elim (split i all el) [
          | inl o ↦ (let q : violation b i ≤ violation b k = e.greatest i o el in omega (arith, q, more))
          | inr t ↦ l.first_one i t lt el
        ];
      }

  picked_of_both : (early late answer : Option ℕ) → IsPickOf b One early → IsPickOf b Two late → IsMoreViolated b early late answer → IsPickOf b Whole answer
  picked_of_both None None answer e l same = subst (IsPickOf b Whole) (sym same) (none_of_both e l)
  picked_of_both None (Some j) answer e l same = subst (IsPickOf b Whole) (sym same) (late_alone j e l)
  picked_of_both (Some k) None answer e l same = subst (IsPickOf b Whole) (sym same) (early_alone k e l)
  picked_of_both (Some k) (Some j) answer e l (inl same) = subst (IsPickOf b Whole) (sym same.0) (early_wins k j e l same.1)
  picked_of_both (Some k) (Some j) answer e l (inr same) = subst (IsPickOf b Whole) (sym same.0) (late_wins k j e l same.1)

-- arcs that have the same eligible ones give the same
picked_alike : (b : TreeStructure) (P Q : ℕ → Type 0) → ((k : ℕ) → P k → Q k) → ((k : ℕ) → Q k → IsEligible b k → P k) → (answer : Option ℕ) →
    IsPickOf b P answer → IsPickOf b Q answer
picked_alike b P Q wide narrow (Some k) m =
    record {
      one_of = wide k m.one_of;
      eligible = m.eligible;
      greatest = λ i q el. m.greatest i (narrow i q el) el;
      first_one = λ i q lt el. m.first_one i (narrow i q el) lt el;
    }
picked_alike b P Q wide narrow None none = λ k q el. none k (narrow k q el) el

-- ---- stretch by stretch

-- in the block, and not behind a place
abbrev IsBefore : ℕ → ℕ → ℕ → ℕ → ℕ → Type 0
IsBefore stretch begin end behind k = IsInBlockOf stretch begin end k × (k ≤ behind)

-- what the block gives up to the end of a stretch
pub record IsPickedBefore (b : TreeStructure) (stretch begin end behind : ℕ) (best : Option ℕ) : Type 0 where
  pub turns : ℕ
  pub whole : behind ≡ turns * stretch
  pub picked : IsPickOf b (IsBefore stretch begin end behind) best

pub before_start : (b : TreeStructure) (stretch begin end : ℕ) → IsPickedBefore b stretch begin end 0 None
before_start b stretch begin end =
    record { turns = 0; whole = omega arith; picked = λ k q el. (let arc = el.arc in absurd (omega (arith, arc, q.1))) }

-- the place of an arc of the stretch that begins behind others
place_in : (stretch turns behind k r : ℕ) → behind ≡ turns * stretch → k - 1 ≡ behind + r → r < stretch → place_of stretch k ≡ r
place_in stretch turns behind k r whole at low =
    let same : k - 1 ≡ turns * stretch + r = omega (arith, whole, at) in
    ap (λ n. n % stretch) same ∙ mod-mul-add turns stretch r low

module _ (b : TreeStructure) (stretch begin end behind turns first last : ℕ) (whole : behind ≡ turns * stretch) (high : end ≤ stretch)
    (is_first : first ≡ min (behind + begin) (length b.net.arcs) + 1) (is_last : last ≡ min (behind + end) (length b.net.arcs) + 1) where
  next_in : (k : ℕ) → IsFrom first last k → IsBefore stretch begin end (behind + stretch) k
  next_in k q =
      let place = place_in stretch turns behind k (k - 1 - behind) whole (omega (arith, q.0, q.1, is_first, is_last)) (omega (arith, q.0, q.1, is_first, is_last, high)) in (
        (omega (arith, place, q.0, q.1, is_first, is_last), omega (arith, place, q.0, q.1, is_first, is_last, high)),
        omega (arith, q.0, q.1, is_first, is_last, high),
      )

  next_split : (k : ℕ) → IsBefore stretch begin end (behind + stretch) k → IsEligible b k → IsBefore stretch begin end behind k ⊎ IsFrom first last k
  next_split k q el =
      elim (cases_lt behind k) [
        | inl past ↦ (let place = place_in stretch turns behind k (k - 1 - behind) whole (omega (arith, past)) (omega (arith, past, q.1)) in
            let arc = el.arc in
            let low = q.0.0 in
            let below = q.0.1 in
            inr (omega (arith, place, low, arc, past, is_first), omega (arith, place, below, arc, past, is_last)))
        | inr before ↦ inl (q.0, before)
      ]

  pub before_next : (best found answer : Option ℕ) → IsPickOf b (IsBefore stretch begin end behind) best → IsPickOf b (IsFrom first last) found →
      IsMoreViolated b best found answer → IsPickedBefore b stretch begin end (behind + stretch) answer
  before_next best found answer so here more =
      record {
        turns = turns + 1;
        whole = omega (arith, whole);
        picked = picked_of_both b (IsBefore stretch begin end behind) (IsFrom first last) (IsBefore stretch begin end (behind + stretch))
            (λ k q. (q.0, omega (arith, q.1))) next_in next_split (λ j k q r. omega (arith, q.1, r.0, r.1, is_first, is_last)) best found answer so
            here more;
      }

pub before_end : (b : TreeStructure) (stretch begin end behind : ℕ) (best : Option ℕ) → length b.net.arcs ≤ behind →
    IsPickedBefore b stretch begin end behind best → IsPickOf b (IsInBlockOf stretch begin end) best
before_end b stretch begin end behind best all so =
    picked_alike b (IsBefore stretch begin end behind) (IsInBlockOf stretch begin end) (λ k q. q.0)
    (λ k q el. (q, let arc = el.arc in omega (arith, arc, all))) best so.picked

-- ---- block by block

none_joined : (b : TreeStructure) (stretch from mid end : ℕ) → HasNoneOf b (IsInBlockOf stretch from mid) → HasNoneOf b (IsInBlockOf stretch mid end) →
    HasNoneOf b (IsInBlockOf stretch from end)
none_joined b stretch from mid end early late =
    λ k q el. elim (cases_lt (place_of stretch k) mid) [ inl h ↦ early k (q.0, h) el | inr h ↦ late k (h, q.1) el ]

-- some blocks were passed, and none of their arcs is eligible
pub record IsPassedTo (b : TreeStructure) (stretch piece from until begin : ℕ) : Type 0 where
  pub blocks : ℕ
  pub at : begin ≡ min (from + blocks * piece) until
  pub none : HasNoneOf b (IsInBlockOf stretch from begin)

pub passed_none : (b : TreeStructure) (stretch piece from until : ℕ) → from ≤ until → IsPassedTo b stretch piece from until from
passed_none b stretch piece from until order =
    record { blocks = 0; at = omega (arith, order); none = λ k q el. absurd (omega (arith, q.0, q.1)) }

pub passed_one : (b : TreeStructure) (stretch piece from until begin end : ℕ) → IsPassedTo b stretch piece from until begin → begin < until →
    end ≡ block_end until piece begin → HasNoneOf b (IsInBlockOf stretch begin end) → IsPassedTo b stretch piece from until end
passed_one b stretch piece from until begin end p more is_end none =
    let at : begin ≡ min (from + p.blocks * piece) until = p.at in
    let product : (p.blocks + 1) * piece ≡ p.blocks * piece + piece = omega arith in
    record {
      blocks = p.blocks + 1;
      at = omega (arith, at, product, more, is_end);
      none = none_joined b stretch from begin end p.none none;
    }

pub passed_found : (b : TreeStructure) (stretch piece from until begin end k : ℕ) → IsPassedTo b stretch piece from until begin → begin < until →
    end ≡ block_end until piece begin → IsMostViolated b (IsInBlockOf stretch begin end) k → IsFirstBlock b stretch piece from until k end
passed_found b stretch piece from until begin end k p more is_end found =
    let at : begin ≡ min (from + p.blocks * piece) until = p.at in
    let exact : begin ≡ from + p.blocks * piece = omega (arith, at, more) in
    record {
      blocks = p.blocks;
      passed = subst (λ n. HasNoneOf b (IsInBlockOf stretch from n)) exact p.none;
      ends = subst (λ n. end ≡ min (n + piece) until) exact is_end;
      found = subst (λ n. IsMostViolated b (IsInBlockOf stretch n end) k) exact found;
    }

pub passed_all : (b : TreeStructure) (stretch piece from until begin : ℕ) → IsPassedTo b stretch piece from until begin → until ≤ begin →
    HasNoneOf b (IsInBlockOf stretch from until)
passed_all b stretch piece from until begin p all =
    let at : begin ≡ min (from + p.blocks * piece) until = p.at in
    let exact : begin ≡ until = omega (arith, at, all) in
    subst (λ n. HasNoneOf b (IsInBlockOf stretch from n)) exact p.none

-- a stretch is no longer than all arcs, and has one where there is one
pub stretch_high : (arcs stretches : ℕ) → 1 ≤ stretches → div_ceil arcs stretches ≤ arcs
stretch_high arcs stretches some =
    elim (cases_lt arcs (div_ceil arcs stretches)) [
      | inl more ↦ (let whole = div_ceil_times arcs stretches some in
          let long : (arcs + 1) * stretches ≤ div_ceil arcs stretches * stretches = mul-le (arcs + 1) stretches (div_ceil arcs stretches) stretches (omega (arith, more)) (omega arith) in
          let product : (arcs + 1) * stretches ≡ arcs * stretches + stretches = omega arith in
          let once : arcs * 1 ≤ arcs * stretches = mul-le arcs 1 arcs stretches (omega arith) some in
          absurd (omega (arith, whole.1, long, product, once)))
      | inr h ↦ h
    ]

stretch_low : (arcs stretches : ℕ) → 1 ≤ stretches → 1 ≤ arcs → 0 < div_ceil arcs stretches
stretch_low arcs stretches some arc =
    elim (cases_lt 0 (div_ceil arcs stretches)) [
      | inl h ↦ h
      | inr none ↦ (let whole = div_ceil_times arcs stretches some in
          let zero : div_ceil arcs stretches ≡ 0 = omega (arith, none) in
          let product : div_ceil arcs stretches * stretches ≡ 0 * stretches = ap (λ n. n * stretches) zero in
          absurd (omega (arith, whole.0, product, arc)))
    ]

pub none_around : (b : TreeStructure) (stretches stretch start : ℕ) → 1 ≤ stretches → stretch ≡ div_ceil (length b.net.arcs) stretches →
    HasNoneOf b (IsInBlockOf stretch start stretch) → HasNoneOf b (IsInBlockOf stretch 0 start) → HasNoEligible b
none_around b stretches stretch start some is late early k el =
    let arc = el.arc in
    let low : 0 < div_ceil (length b.net.arcs) stretches = stretch_low (length b.net.arcs) stretches some (omega (arith, arc)) in
    let below : place_of stretch k < stretch = mod_below (k - 1) stretch (omega (arith, low, is)) in
    elim (cases_lt (place_of stretch k) start) [ inl h ↦ early k (omega arith, h) el | inr h ↦ late k (h, below) el ]

-- what a pick finds that goes from its start to the end of the stretches, and then from their
-- beginning
pub none_found : (b : TreeStructure) (stretches stretch piece start late_next next : ℕ) (late early : Option ℕ) → 1 ≤ stretches →
    stretch ≡ div_ceil (length b.net.arcs) stretches → is_some late ≡ false → IsFirstBlockOrNone b stretch piece start stretch late late_next →
    IsFirstBlockOrNone b stretch piece 0 start early next → IfNone early (HasNoEligible b)
none_found b stretches stretch piece start late_next next None None some is missed late early = none_around b stretches stretch start some is late.0 early.0
none_found b stretches stretch piece start late_next next None (Some k) some is missed late early = tt
none_found b stretches stretch piece start late_next next (Some j) early some is missed late _ = cc

pub found_early : (b : TreeStructure) (stretches stretch piece start late_next next : ℕ) (late early : Option ℕ) → 1 ≤ stretches →
    stretch ≡ div_ceil (length b.net.arcs) stretches → is_some late ≡ false → IsFirstBlockOrNone b stretch piece start stretch late late_next →
    IsFirstBlockOrNone b stretch piece 0 start early next → IsFoundOrNone b stretch piece start early next
found_early b stretches stretch piece start late_next next None None some is missed late early =
    (none_around b stretches stretch start some is late.0 early.0, early.1)
found_early b stretches stretch piece start late_next next None (Some k) some is missed late early = inr (late.0, early)
found_early b stretches stretch piece start late_next next (Some j) early some is missed late _ = cc

-- the same by what the stretches and the start are
pub found_by : (b : TreeStructure) (stretches stretch piece start place next : ℕ) (answer : Option ℕ) → stretch ≡ div_ceil (length b.net.arcs) stretches →
    start ≡ start_place stretch place → IsFoundOrNone b stretch piece start answer next →
    IsFoundOrNone b (div_ceil (length b.net.arcs) stretches) piece (start_place (div_ceil (length b.net.arcs) stretches) place) answer next
found_by b stretches stretch piece start place next answer is is_start h =
    subst (λ n. IsFoundOrNone b n piece (start_place n place) answer next) is
    (subst (λ s. IsFoundOrNone b stretch piece s answer next) is_start h)
