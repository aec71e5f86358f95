-- How a byte splits the line of the heads.
use Rattle.std.proofs.Common.{◌≡◌, ℕ, suc, ◌+◌, ◌<◌, Bool, true, false, List, [], ◌∷◌, length, map, take, drop, get_or, All, Option, Some, None, IfSome, IfNone, ◌≢◌, refl, sym, ap, subst, ◌∙◌, arith, inl, inr}
use Rattle.std.specs.Prelude.{◌==◌, ◌||◌, cond, position, count_by, filter, nat_lt, if◌then◌else◌}
use Rattle.std.specs.List.{list_any, slice_split}
use Rattle.std.proofs.lemmas.Bool.{eq-eqb, or_parts, cases_lt}
use Rattle.std.proofs.lemmas.List.Elements.{All-cons, All-nil}
use Rattle.std.proofs.lemmas.List.Quantifiers.{position-Some}
use Rattle.std.proofs.lemmas.List.Sums.{sum_by-cons}
use Rattle.std.proofs.lemmas.List.Splits.{length-slice_split, slice_split_at, slice_split_none}
use Rattle.std.specs.Borrow.{Bor}
use Rattle.mcf_table.specs.Blanks.{back_trimmed, front_trimmed, trimmed}
use Rattle.mcf_table.specs.LineEnds.{unmarked}
use Rattle.mcf_table.specs.Separators.{AreBetter, SplitsBest, ends_line, front_lines, head_line, head_parts, is_head, is_written, parts_of, wanted_count, written_lines}
use Rattle.mcf_table.specs.Private.Found.{IsAbove, IsFirstAt, IsRank, with_more}
use Rattle.mcf_table.specs.declared.separators.Rank.{Rank}
use Rattle.mcf_table.proofs.CutLemmas.{cut_at, none_before}

none_all : (test : ℕ → Bool) (text : List ℕ) → list_any test text ≡ false → All (λ b. test b ≡ false) text
none_all test [] none = All-nil (λ b. test b ≡ false)
none_all test (b ∷ bs) none = let parts = or_parts (test b) (list_any test bs) none in
    All-cons (λ b. test b ≡ false) b bs parts.0 (none_all test bs parts.1)

pub split_found : (test : ℕ → Bool) (text : List ℕ) (place : ℕ) → place < length text → test (get_or text place 0) ≡ true
    → list_any test (take place text) ≡ false → slice_split test text ≡ take place text ∷ slice_split test (drop (place + 1) text)
split_found test text place inside is none =
    ap (slice_split test) (cut_at text place inside)
    ∙ slice_split_at test (take place text) (get_or text place 0) (drop (place + 1) text) (none_all test (take place text) none) is

pub split_last : (test : ℕ → Bool) (text : List ℕ) → list_any test text ≡ false → slice_split test text ≡ text ∷ []
split_last test text none = slice_split_none test text (none_all test text none)

pub written_next : (text line : List ℕ) (lines : List (List ℕ)) → slice_split ends_line text ≡ line ∷ lines → is_written line ≡ true
    → written_lines text ≡ line ∷ filter is_written lines
written_next text line lines are is = ap (filter is_written) are ∙ rw is refl

pub written_last : (text : List ℕ) → slice_split ends_line text ≡ text ∷ [] → is_written text ≡ true
    → written_lines text ≡ text ∷ written_lines []
unfolding trimmed back_trimmed front_trimmed
written_last text alone is = written_next text text [] alone is

pub blank_next : (text line : List ℕ) (lines : List (List ℕ)) → slice_split ends_line text ≡ line ∷ lines → is_written line ≡ false
    → written_lines text ≡ filter is_written lines
blank_next text line lines are other = ap (filter is_written) are ∙ rw other refl

pub any_first : (head part : List ℕ) (parts : List (List ℕ)) → is_head head part ≡ true → list_any (is_head head) (part ∷ parts) ≡ true
any_first head part parts is = rw is refl

pub any_next : (head part : List ℕ) (parts : List (List ℕ)) → is_head head part ≡ false
    → list_any (is_head head) (part ∷ parts) ≡ list_any (is_head head) parts
any_next head part parts other = rw other refl

pub above_twice : (one two three : Rank) → IsAbove three two → IsAbove two one → IsAbove three one
above_twice one two three (inl a) (inl b) = inl (omega (arith, a, b))
above_twice one two three (inl a) (inr (same, b)) = inl (omega (arith, a, same))
above_twice one two three (inr (same, a)) (inl b) = inl (omega (arith, same, b))
above_twice one two three (inr (same, a)) (inr (same2, b)) = inr (omega (arith, same, same2), omega (arith, a, b))

pub above_least : (one two three : Rank) → IsAbove three one → ¬ IsAbove two one → IsAbove three two
above_least one two three (inl a) none =
    elim (cases_lt two.wanted three.wanted) [
      | inl lt ↦ inl lt
      | inr past ↦ absurd (none (inl (omega (arith, a, past))))
    ]
above_least one two three (inr (same, a)) none =
    elim (cases_lt two.wanted three.wanted) [
      | inl lt ↦ inl lt
      | inr past ↦
          elim (cases_lt one.wanted two.wanted) [
            | inl more ↦ absurd (none (inl more))
            | inr few ↦
                let level : two.wanted ≡ three.wanted = omega (arith, same, past, few) in
                elim (cases_lt two.count three.count) [
                  | inl lt ↦ inr (level, lt)
                  | inr high ↦ absurd (none (inr (omega (arith, same, level), omega (arith, a, high))))
                ]
          ]
    ]

pub head_met : (byte : ℕ) (head rest : List ℕ) (place : ℕ) → IsFirstAt byte rest place
    → parts_of byte rest ≡ take place rest ∷ parts_of byte (drop (place + 1) rest)
head_met byte head rest place first = split_found (λ b. b == byte) rest place first.inside (eq-eqb _ _ first.here) first.none

pub line_met : (rest : List ℕ) (place : ℕ) → position ends_line rest ≡ Some place
    → (place < length rest) × (slice_split ends_line rest ≡ take place rest ∷ slice_split ends_line (drop (place + 1) rest))
line_met rest place is =
    let found = position-Some ends_line rest place 0 is in
    (found.0, split_found ends_line rest place found.0 found.1 (none_before ends_line rest place (omega (arith, found.0)) (found.2)))

count_map : {X Y : Type 0} (test : Y → Bool) (f : X → Y) (xs : List X) → count_by test (map f xs) ≡ count_by (λ x. test (f x)) xs
count_map test f [] = refl
count_map test f (x ∷ xs) =
    let one : Bool → ℕ = λ b. cond b 1 0 in
    sum_by-cons (λ y. one (test y)) (f x) (map f xs) ∙ ap (λ (n : ℕ). one (test (f x)) + n) (count_map test f xs)
    ∙ sym (sum_by-cons (λ y. one (test (f y))) x xs)

pub rank_is : (wanted : List (Bor (List ℕ))) (line : List ℕ) (byte : ℕ) (rank : Rank)
    → rank.wanted ≡ count_by (λ head. list_any (is_head head.now) (parts_of byte line)) wanted
    → rank.count ≡ count_by (λ b. b == byte) line → IsRank line (map (λ head. head.now) wanted) byte rank
rank_is wanted line byte rank heads count =
    record {
      wanted = heads ∙ sym (count_map (λ head. list_any (is_head head) (parts_of byte line)) (λ (head : Bor (List ℕ)). head.now) wanted);
      count = ap (λ (n : ℕ). n + 1) count ∙ sym (length-slice_split (λ b. b == byte) line);
    }

abbrev Ranks : List (List ℕ) → List (List ℕ) → ℕ → Rank → Type 0
Ranks lines wanted byte rank = IsRank (head_line wanted byte lines) wanted byte rank

-- ---- the line that may have the heads

pub rank_first : (line : List ℕ) (lines wanted : List (List ℕ)) (byte : ℕ) (rank : Rank) → lines ≡ [] → IsRank line wanted byte rank
    → Ranks (line ∷ lines) wanted byte rank
rank_first line lines wanted byte rank none is = rw none is

rank_picked : (test : Bool) (line best : List ℕ) (wanted : List (List ℕ)) (byte : ℕ) (here later : Rank) → IsRank line wanted byte here
    → IsRank best wanted byte later → IsRank (if test then best else line) wanted byte (if test then later else here)
rank_picked true line best wanted byte here later is also = also
rank_picked false line best wanted byte here later is also = is

pub rank_with_more : (line other : List ℕ) (lines wanted : List (List ℕ)) (byte : ℕ) (here later : Rank) → IsRank line wanted byte here
    → Ranks (other ∷ lines) wanted byte later → Ranks (line ∷ other ∷ lines) wanted byte (with_more here (Some later))
rank_with_more line other lines wanted byte here later is also =
    let best = head_line wanted byte (other ∷ lines) in
    let same = ap (λ (n : ℕ). nat_lt n later.wanted) is.wanted ∙ ap (nat_lt (wanted_count wanted (parts_of byte line))) also.wanted in
    subst (λ (test : Bool). IsRank (if test then best else line) wanted byte (with_more here (Some later))) same
    (rank_picked (nat_lt here.wanted later.wanted) line best wanted byte here later is also)

rank_by_two : (line : List ℕ) (later_lines wanted : List (List ℕ)) (byte : ℕ) (here later : Rank) → IsRank line wanted byte here
    → later_lines ≢ [] → Ranks later_lines wanted byte later → Ranks (line ∷ later_lines) wanted byte (with_more here (Some later))
rank_by_two line [] wanted byte here later is some also = absurd (some refl)
rank_by_two line (other ∷ lines) wanted byte here later is some also = rank_with_more line other lines wanted byte here later is also

-- the rank of the first of these lines, and that of the later ones
pub rank_joined : (count fewer : ℕ) (line : List ℕ) (all rest wanted : List (List ℕ)) (byte : ℕ) (here : Rank) (later : Option Rank)
    → count ≡ suc fewer → all ≡ line ∷ rest → IsRank line wanted byte here
    → IfSome later (λ rank. take fewer rest ≢ []) → IfSome later (λ rank. Ranks (take fewer rest) wanted byte rank)
    → IfNone later (take fewer rest ≡ []) → Ranks (take count all) wanted byte (with_more here later)
rank_joined count fewer line all rest wanted byte here None next are is some ranked none =
    rw next (rw are (rank_first line (take fewer rest) wanted byte here none is))
rank_joined count fewer line all rest wanted byte here (Some later) next are is some ranked none =
    rw next (rw are (rank_by_two line (take fewer rest) wanted byte here later is some ranked))

abbrev Better : List (List ℕ) → List (List ℕ) → ℕ → ℕ → Type 0
Better lines wanted byte other = AreBetter wanted (head_parts lines wanted byte) (head_parts lines wanted other)

abbrev Worse : List (List ℕ) → List (List ℕ) → ℕ → ℕ → Type 0
Worse lines wanted byte other = ¬ AreBetter wanted (head_parts lines wanted other) (head_parts lines wanted byte)

better : (lines wanted : List (List ℕ)) (byte other : ℕ) (r s : Rank) → Ranks lines wanted byte r → Ranks lines wanted other s
    → IsAbove r s → Better lines wanted byte other
better lines wanted byte other r s is also (inl a) = inl (omega (arith, a, is.wanted, also.wanted))
better lines wanted byte other r s is also (inr (same, a)) =
    inr (omega (arith, same, is.wanted, also.wanted), omega (arith, a, is.count, also.count))

above : (lines wanted : List (List ℕ)) (byte other : ℕ) (r s : Rank) → Ranks lines wanted byte r → Ranks lines wanted other s
    → Better lines wanted byte other → IsAbove r s
above lines wanted byte other r s is also (inl a) = inl (omega (arith, a, is.wanted, also.wanted))
above lines wanted byte other r s is also (inr (same, a)) =
    inr (omega (arith, same, is.wanted, also.wanted), omega (arith, a, is.count, also.count))

worse : (lines wanted : List (List ℕ)) (byte other : ℕ) (r s : Rank) → Ranks lines wanted byte r → Ranks lines wanted other s
    → ¬ IsAbove s r → Worse lines wanted byte other
worse lines wanted byte other r s is also none = λ more. none (above lines wanted other byte s r also is more)

pub best_comma : (lines wanted : List (List ℕ)) (r s t : Rank) → Ranks lines wanted 44 r → Ranks lines wanted 59 s
    → Ranks lines wanted 9 t → ¬ IsAbove s r → ¬ IsAbove t r → SplitsBest lines wanted 44
best_comma lines wanted r s t ri si ti no_s no_t = record {
  front = [];
  back = 59 ∷ 9 ∷ [];
  among = refl;
  better = All-nil (Better lines wanted 44);
  no_worse = All-cons (Worse lines wanted 44) 59 (9 ∷ []) (worse lines wanted 44 59 r s ri si no_s)
      (All-cons (Worse lines wanted 44) 9 [] (worse lines wanted 44 9 r t ri ti no_t) (All-nil (Worse lines wanted 44)));
}

pub best_semicolon : (lines wanted : List (List ℕ)) (r s t : Rank) → Ranks lines wanted 44 r → Ranks lines wanted 59 s
    → Ranks lines wanted 9 t → IsAbove s r → ¬ IsAbove t s → SplitsBest lines wanted 59
best_semicolon lines wanted r s t ri si ti more no_t = record {
  front = 44 ∷ [];
  back = 9 ∷ [];
  among = refl;
  better = All-cons (Better lines wanted 59) 44 [] (better lines wanted 59 44 s r si ri more) (All-nil (Better lines wanted 59));
  no_worse = All-cons (Worse lines wanted 59) 9 [] (worse lines wanted 59 9 s t si ti no_t) (All-nil (Worse lines wanted 59));
}

pub best_tab : (lines wanted : List (List ℕ)) (r s t : Rank) → Ranks lines wanted 44 r → Ranks lines wanted 59 s
    → Ranks lines wanted 9 t → IsAbove t r → IsAbove t s → SplitsBest lines wanted 9
best_tab lines wanted r s t ri si ti over_r over_s = record {
  front = 44 ∷ 59 ∷ [];
  back = [];
  among = refl;
  better = All-cons (Better lines wanted 9) 44 (59 ∷ []) (better lines wanted 9 44 t r ti ri over_r)
      (All-cons (Better lines wanted 9) 59 [] (better lines wanted 9 59 t s ti si over_s) (All-nil (Better lines wanted 9)));
  no_worse = All-nil (Worse lines wanted 9);
}

pub at_front : (text plain : List ℕ) (wanted : List (List ℕ)) (byte : ℕ) → plain ≡ unmarked text
    → SplitsBest (take 10 (written_lines plain)) wanted byte → SplitsBest (front_lines text) wanted byte
at_front text plain wanted byte is best = subst (λ (xs : List ℕ). SplitsBest (take 10 (written_lines xs)) wanted byte) is best

or_false : (b : Bool) → (b || false) ≡ b
or_false true = refl
or_false false = refl

pub only : (head part : List ℕ) → list_any (is_head head) (part ∷ []) ≡ is_head head part
only head part = or_false (is_head head part)
