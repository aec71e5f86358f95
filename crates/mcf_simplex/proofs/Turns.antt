-- Turns round the stretches of the arcs.
use Rattle.std.proofs.Common.{◌≡◌, ℕ, ◌+◌, ◌-◌, ◌*◌, ◌/◌, ◌%◌, ◌<◌, ◌≤◌, min, inl, inr, length, Option, Some, None, ap, ◌∙◌, arith, subst}
use Rattle.std.specs.Int.{div_ceil}
use Rattle.std.proofs.lemmas.Bool.{cases_lt, cond-true, cond-false, le-leb, lt-leb}
use Rattle.std.proofs.lemmas.Grind.{div_ceil_times}
use Rattle.std.proofs.lemmas.Nat.{div-add-mod', div-mul-add, div_below, mod-mul-add, mod_below, mul-le}
use Rattle.mcf_flows.specs.Network.{IsArcNumber}
use Rattle.mcf_basis.specs.Structures.{TreeStructure}
use Rattle.mcf_basis.specs.Violations.{HasNoEligible, IsFrom, IsMostViolated, IsPickOf}
use Rattle.mcf_simplex.specs.Stretches.{HasNoneAt, IsFoundAt, IsNoneFound, IsWidePick, WideRule, start_turn, stretch_length, turn_after, turn_begin, turn_count, turn_end}

-- a turn at which an arc is looked at
record TurnOf (arcs size k : ℕ) : Type 0 where
  turn : ℕ
  in_round : turn < turn_count arcs size
  low : turn_begin arcs size turn ≤ k
  high : k < turn_end arcs size turn

-- the turn of the block q of the stretch j, in which the arc has place r
turn_at : (arcs size j q r s : ℕ) → j < 4 → j * stretch_length arcs + r < arcs → r < stretch_length arcs → q * size + s ≡ r → s < size →
    q < div_ceil (stretch_length arcs) size → TurnOf arcs size (j * stretch_length arcs + r + 1)
turn_at arcs size j q r s few inside in_stretch split rest before =
    let same_stretch : (q * 4 + j) % 4 ≡ j = mod-mul-add q 4 j few in
    let same_block : (q * 4 + j) / 4 ≡ q = div-mul-add q 4 j few in
    let stretch : (q * 4 + j) % 4 * stretch_length arcs ≡ j * stretch_length arcs = ap (λ n. n * stretch_length arcs) same_stretch in
    let block : (q * 4 + j) / 4 * size ≡ q * size = ap (λ n. n * size) same_block in
    record {
      turn = q * 4 + j;
      in_round = omega (arith, few, before);
      low = omega (arith, stretch, block, split);
      high = omega (arith, stretch, block, split, inside, in_stretch, rest);
    }

turn_of : (arcs size k : ℕ) → 1 ≤ size → 1 ≤ k → k ≤ arcs → TurnOf arcs size k
turn_of arcs size k some low high =
    let l : ℕ = stretch_length arcs in
    let whole = div_ceil_times arcs 4 (omega arith) in
    let long : 0 < l = omega (arith, whole.0, low, high) in
    let few : (k - 1) / l < 4 = div_below (k - 1) l 4 long (omega (arith, whole.0, low, high)) in
    let apart : (k - 1) / l * l + (k - 1) % l ≡ k - 1 = div-add-mod' (k - 1) l in
    let in_stretch : (k - 1) % l < l = mod_below (k - 1) l long in
    let blocks = div_ceil_times l size some in
    let before : (k - 1) % l / size < div_ceil l size = div_below ((k - 1) % l) size (div_ceil l size) some (omega (arith, blocks.0, in_stretch)) in
    let split : (k - 1) % l / size * size + (k - 1) % l % size ≡ (k - 1) % l = div-add-mod' ((k - 1) % l) size in
    let same : (k - 1) / l * l + (k - 1) % l + 1 ≡ k = omega (arith, apart, low) in
    subst (TurnOf arcs size) same
    (turn_at arcs size ((k - 1) / l) ((k - 1) % l / size) ((k - 1) % l) ((k - 1) % l % size) few (omega (arith, apart, low, high)) in_stretch split
    (mod_below ((k - 1) % l) size some) before)

after_low : (turns start p : ℕ) → start + p < turns → turn_after turns start p ≡ start + p
after_low turns start p h = cond-true _ _ _ (le-leb (start + p + 1) turns (omega (arith, h)))

after_high : (turns start p : ℕ) → turns ≤ start + p → turn_after turns start p ≡ start + p - turns
after_high turns start p h = cond-false _ _ _ (lt-leb (start + p + 1) turns (omega (arith, h)))

-- none of the arcs is eligible that are looked at at the first so many turns of a round
abbrev pub HasNoneBefore : TreeStructure → ℕ → ℕ → ℕ → ℕ → Type 0
HasNoneBefore b size turns start passed = (p : ℕ) → p < passed → HasNoneAt b size (turn_after turns start p)

-- each turn has its place in the round
none_at : (b : TreeStructure) (size turns start turn : ℕ) → start < turns → turn < turns → HasNoneBefore b size turns start turns → HasNoneAt b size turn
none_at b size turns start turn low high none = elim (cases_lt turn start) [
  | inl before ↦ subst (HasNoneAt b size)
      ((after_high turns start (turn + turns - start) (omega arith)) ∙ omega arith) (none (turn + turns - start) (omega arith))
  | inr from ↦ subst (HasNoneAt b size) ((after_low turns start (turn - start) (omega arith)) ∙ omega arith) (none (turn - start) (omega arith))
]

pub none_left : (b : TreeStructure) (size turns start : ℕ) → 1 ≤ size → turns ≡ turn_count (length b.net.arcs) size → (1 ≤ turns → start < turns) →
    HasNoneBefore b size turns start turns → HasNoEligible b
none_left b size turns start some is_turns high none k el =
    let arc : IsArcNumber b.net k = el.arc in
    let t = turn_of (length b.net.arcs) size k some (omega (arith, arc)) (omega (arith, arc)) in
    let in_round : t.turn < turns = omega (arith, t.in_round, is_turns) in
    none_at b size turns start t.turn (high (omega (arith, in_round))) in_round none k (t.low, t.high) el

-- the block of a turn ends within its stretch
block_within : (l size turn : ℕ) → 1 ≤ size → turn < 4 * div_ceil l size → turn / 4 * size ≤ l
block_within l size turn some high =
    let blocks = div_ceil_times l size some in
    let next : (turn / 4 + 1) * size ≤ div_ceil l size * size = mul-le (turn / 4 + 1) size (div_ceil l size) size (omega (arith, high)) (omega arith) in
    let product : (turn / 4 + 1) * size ≡ turn / 4 * size + size = omega arith in
    omega (arith, blocks.1, next, product)

-- what is looked at at a turn, by the numbers of the code
pub at_turn : (b : TreeStructure) (arcs size turn count l part first last : ℕ) (answer : Option ℕ) → 1 ≤ size → count ≡ arcs → l ≡ stretch_length arcs →
    turn < turn_count arcs size → part ≡ min size (l - turn / 4 * size) → first ≡ min (turn % 4 * l + turn / 4 * size) count →
    last ≡ min (turn % 4 * l + (part + turn / 4 * size)) count → IsPickOf b (IsFrom (first + 1) (last + 1)) answer →
    IsPickOf b (IsFrom (turn_begin arcs size turn) (turn_end arcs size turn)) answer
at_turn b arcs size turn count l part first last answer some is_count is_l high is_part is_first is_last best =
    let product : turn % 4 * l ≡ turn % 4 * stretch_length arcs = ap (λ n. turn % 4 * n) is_l in
    let within : turn / 4 * size ≤ stretch_length arcs = block_within (stretch_length arcs) size turn some high in
    let begins : first + 1 ≡ turn_begin arcs size turn = omega (arith, is_count, product, is_first) in
    let ends : last + 1 ≡ turn_end arcs size turn = omega (arith, is_count, is_l, product, within, is_part, is_last) in
    subst (λ n. IsPickOf b (IsFrom (turn_begin arcs size turn) n) answer) ends
    (subst (λ n. IsPickOf b (IsFrom n (last + 1)) answer) begins best)

-- one turn more without an eligible arc
pub none_more : (b : TreeStructure) (size turns start passed turn : ℕ) → HasNoneBefore b size turns start passed →
    turn ≡ turn_after turns start passed → HasNoneAt b size turn → HasNoneBefore b size turns start (passed + 1)
none_more b size turns start passed turn before is_turn none p low = elim (cases_lt p passed) [
  | inl h ↦ before p h
  | inr h ↦ subst (λ q. HasNoneAt b size (turn_after turns start q)) (omega (arith, h, low)) (subst (HasNoneAt b size) is_turn none)
]

-- what a pick gives
pub found_at : (b : TreeStructure) (old new : WideRule) (turns start passed turn k : ℕ) → turns ≡ turn_count (length b.net.arcs) old.size →
    start ≡ start_turn turns old.next → passed < turns → HasNoneBefore b old.size turns start passed → turn ≡ turn_after turns start passed →
    IsPickOf b (IsFrom (turn_begin (length b.net.arcs) old.size turn) (turn_end (length b.net.arcs) old.size turn)) (Some k) → new.size ≡ old.size →
    new.next ≡ turn_after turns start (passed + 1) → IsWidePick old b (Some k) new
found_at b old new turns start passed turn k is_turns is_start more none is_turn best size next =
    subst (λ n. IsFoundAt b old n (start_turn n old.next) k new) is_turns
    (subst (λ s. IsFoundAt b old turns s k new) is_start
    (record {
      passed = passed;
      in_round = more;
      none = none;
      found = subst (λ t. IsMostViolated b (IsFrom (turn_begin (length b.net.arcs) old.size t) (turn_end (length b.net.arcs) old.size t)) k) is_turn best;
      size = size;
      next = next;
    }))

pub nothing_found : (b : TreeStructure) (old new : WideRule) (turns start : ℕ) → 1 ≤ old.size → turns ≡ turn_count (length b.net.arcs) old.size →
    start ≡ start_turn turns old.next → (1 ≤ turns → start < turns) → HasNoneBefore b old.size turns start turns → new.size ≡ old.size → new.next ≡ start →
    IsWidePick old b None new
nothing_found b old new turns start some is_turns is_start high none size next =
    subst (λ n. IsNoneFound b old (start_turn n old.next) new) is_turns
    (subst (λ s. IsNoneFound b old s new) is_start
    (record {
      none = none_left b old.size turns start some is_turns high none;
      size = size;
      next = next;
    }))
