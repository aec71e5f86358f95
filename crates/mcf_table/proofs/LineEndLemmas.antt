-- Line ends as line feeds.
use Rattle.std.proofs.Common.{◌≡◌, ℕ, ◌+◌, false, List, [], ◌∷◌, ◌++◌, take, drop, refl, sym, ap, subst, ◌∙◌, inl, inr, append-nil, append_assoc}
use Rattle.std.specs.Prelude.{◌==◌, ◌&&◌}
use Rattle.std.specs.List.{list_any}
use Rattle.std.proofs.lemmas.Bool.{and_right, cases_Bool, eqb-true, eqb-false, ne_eqb, or_parts}
use Rattle.memchr.specs.Find.{is_byte}
use Rattle.mcf_text.specs.Lines.{line_feed}
use Rattle.mcf_table.specs.LineEnds.{carriage_return, unified, unified_after}
use Rattle.mcf_table.specs.Private.Found.{IsFirstAt, without_feed}

other_before : (before : ℕ) (bytes : List ℕ) → (before == carriage_return) ≡ false → unified_after before bytes ≡ unified bytes
other_before before [] other = refl
other_before before (b ∷ bs) other =
    let one : (b == line_feed && before == carriage_return) ≡ false = and_right (b == line_feed) (before == carriage_return) other in
    let two : (b == line_feed && line_feed == carriage_return) ≡ false = and_right (b == line_feed) (line_feed == carriage_return) refl in
    rw (one, two)

pub unified_plain : (before : ℕ) (bytes rest : List ℕ) → (before == carriage_return) ≡ false → list_any (is_byte carriage_return) bytes ≡ false
    → unified_after before (bytes ++ rest) ≡ bytes ++ unified rest
unified_plain before [] rest other none = other_before before rest other
unified_plain before (b ∷ bs) rest other none =
    let parts = or_parts (is_byte carriage_return b) (list_any (is_byte carriage_return) bs) none in
    let one : (b == line_feed && before == carriage_return) ≡ false = and_right (b == line_feed) (before == carriage_return) other in
    rw (one, parts.0) (ap (λ (xs : List ℕ). b ∷ xs) (unified_plain b bs rest parts.0 parts.1))

pub unified_all : (bytes : List ℕ) → list_any (is_byte carriage_return) bytes ≡ false → unified bytes ≡ bytes
unified_all bytes none = ap unified (sym (append-nil bytes)) ∙ unified_plain line_feed bytes [] refl none ∙ append-nil bytes

after_return : (bytes : List ℕ) → unified_after carriage_return bytes ≡ unified (without_feed bytes)
unfolding without_feed
after_return [] = refl
after_return (b ∷ bs) =
    elim (cases_Bool (b == line_feed)) [
      | inl is ↦ subst (λ (x : ℕ). unified_after carriage_return (x ∷ bs) ≡ unified (without_feed (x ∷ bs))) (sym (eqb-true b line_feed is)) refl
      | inr other ↦
          let back : (line_feed == b) ≡ false = ne_eqb line_feed b (λ e. eqb-false b line_feed other (sym e)) in
          rw (other, back) (rw other refl)
    ]

pub unified_step : (rest : List ℕ) (place : ℕ) → IsFirstAt carriage_return rest place
    → unified rest ≡ take place rest ++ line_feed ∷ unified (without_feed (drop (place + 1) rest))
unified_step rest place first =
    ap unified first.spelled
    ∙ unified_plain line_feed (take place rest) (carriage_return ∷ drop (place + 1) rest) refl first.none
    ∙ ap (λ (xs : List ℕ). take place rest ++ line_feed ∷ xs) (after_return (drop (place + 1) rest))

pub unified_joined : (text rest made made2 made3 next : List ℕ) (place : ℕ) → unified text ≡ made ++ unified rest → IsFirstAt carriage_return rest place
    → made2 ≡ made ++ take place rest → made3 ≡ made2 ++ line_feed ∷ [] → next ≡ without_feed (drop (place + 1) rest)
    → unified text ≡ made3 ++ unified next
unified_joined text rest made made2 made3 next place before first one two three =
    let more : List ℕ = unified (without_feed (drop (place + 1) rest)) in
    before ∙ ap (λ (xs : List ℕ). made ++ xs) (unified_step rest place first)
    ∙ sym (append_assoc made (take place rest) (line_feed ∷ more))
    ∙ ap (λ (xs : List ℕ). xs ++ line_feed ∷ more) (sym one)
    ∙ sym (append_assoc made2 (line_feed ∷ []) more)
    ∙ ap (λ (xs : List ℕ). xs ++ more) (sym two)
    ∙ ap (λ (xs : List ℕ). made3 ++ unified xs) (sym three)

pub unified_last : (text rest made made2 : List ℕ) → unified text ≡ made ++ unified rest → list_any (is_byte carriage_return) rest ≡ false
    → made2 ≡ made ++ rest → made2 ≡ unified text
unified_last text rest made made2 before none is =
    is ∙ ap (λ (xs : List ℕ). made ++ xs) (sym (unified_all rest none)) ∙ sym before
