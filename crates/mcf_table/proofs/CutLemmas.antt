-- The first place of a byte.
use Rattle.std.proofs.Common.{◌≡◌, ℕ, ◌+◌, ◌<◌, ◌≤◌, Bool, true, false, List, ◌∷◌, ◌++◌, length, take, drop, get_or, Some, None, sym, ap, ◌∙◌, arith, length-take, add-one, inl, inr}
use Rattle.std.specs.Prelude.{position, Option, MatchOption}
use Rattle.std.specs.List.{list_any, position_or_len}
use Rattle.std.proofs.lemmas.Bool.{cases_Bool, cases_lt, eqb-true, lt-ltb}
use Rattle.std.proofs.lemmas.List.{take-append-drop, get_or-take}
use Rattle.std.proofs.lemmas.List.Elements.{All-from_get_or}
use Rattle.std.proofs.lemmas.List.Folds.{list_any_none}
use Rattle.std.proofs.lemmas.List.Quantifiers.{position-Some}
use Rattle.std.proofs.lemmas.List.Sums.{fails_before_first}
use Rattle.std.proofs.Math.Seq.{drop-cons}
use Rattle.memchr.specs.Find.{IsFirstByte, is_byte}
use Rattle.mcf_table.specs.Rows.{ends_field}
use Rattle.mcf_table.specs.Private.Found.{EndsAt, IsFirstAt}

not_true : (b : Bool) → ¬ (b ≡ true) → b ≡ false
not_true b fails =
    elim (cases_Bool b) [
      | inl is ↦ absurd (fails is)
      | inr other ↦ other
    ]

none_in : (test : ℕ → Bool) (text : List ℕ) → ((k : ℕ) → k < length text → test (get_or text k 0) ≡ false) → list_any test text ≡ false
none_in test text none = list_any_none test text (All-from_get_or (λ (b : ℕ). test b ≡ false) text 0 none)

pub none_before : (test : ℕ → Bool) (text : List ℕ) (place : ℕ) → place ≤ length text
    → ((k : ℕ) → k < place → test (get_or text k 0) ≡ false) → list_any test (take place text) ≡ false
none_before test text place inside none =
    none_in test (take place text)
    (λ k below. let lt : k < place = omega (arith, below, length-take place text) in
    ap test (get_or-take place text k 0 lt) ∙ none k lt)

pub cut_at : (text : List ℕ) (place : ℕ) → place < length text → text ≡ take place text ++ get_or text place 0 ∷ drop (place + 1) text
cut_at text place inside =
    rw add-one (sym (take-append-drop place text) ∙ ap (λ (xs : List ℕ). take place text ++ xs) (drop-cons text place 0 inside))

pub first_at : (byte : ℕ) (text : List ℕ) (place : ℕ) → IsFirstByte (is_byte byte) text (Some place) → IsFirstAt byte text place
first_at byte text place first =
    let inside : place < length text = first.0.high in
    let here : get_or text place 0 ≡ byte = eqb-true _ _ first.1 in
    record {
      inside = inside;
      here = here;
      none = none_before (is_byte byte) text place (omega (arith, inside))
          (λ k below. not_true (is_byte byte (get_or text k 0)) (first.0.before k (omega arith) below));
      spelled = cut_at text place inside ∙ ap (λ (b : ℕ). take place text ++ b ∷ drop (place + 1) text) here;
    }

pub first_none : (byte : ℕ) (text : List ℕ) → IsFirstByte (is_byte byte) text None → list_any (is_byte byte) text ≡ false
first_none byte text none = none_in (is_byte byte) text (λ k below. not_true (is_byte byte (get_or text k 0)) (none k (omega arith) below))

pub position_nowhere : (test : ℕ → Bool) (text : List ℕ) → position test text ≡ None → list_any test text ≡ false
position_nowhere test text none =
    elim (cases_lt (position_or_len test text) (length text)) [
      | inl lt ↦ (let found : position test text ≡ Some (position_or_len test text) = rw (lt-ltb _ _ lt) in cc)
      | inr past ↦ none_in test text (λ k below. fails_before_first test text k 0 (omega (arith, past, below)))
    ]

pub ends_at : (separator : ℕ) (text : List ℕ) (place : ℕ) → position (ends_field separator) text ≡ Some place → EndsAt separator text place
ends_at separator text place is =
    let found = position-Some (ends_field separator) text place 0 is in
    record {
      inside = found.0;
      none = none_before (ends_field separator) text place (omega (arith, found.0)) (found.2);
      ends = found.1;
    }

pub ends_nowhere : (separator : ℕ) (text : List ℕ) → position (ends_field separator) text ≡ None → list_any (ends_field separator) text ≡ false
ends_nowhere separator text is = position_nowhere (ends_field separator) text is

pub first_answer : (byte : ℕ) (text : List ℕ) (found : Option ℕ) → IsFirstByte (is_byte byte) text found
    → MatchOption found (list_any (is_byte byte) text ≡ false) (λ place. IsFirstAt byte text place)
first_answer byte text None none = first_none byte text none
first_answer byte text (Some place) first = first_at byte text place first

pub end_answer : (separator : ℕ) (text : List ℕ) (found : Option ℕ) → found ≡ position (ends_field separator) text
    → MatchOption found (list_any (ends_field separator) text ≡ false) (λ place. EndsAt separator text place)
end_answer separator text None is = ends_nowhere separator text (sym is)
end_answer separator text (Some place) is = ends_at separator text place (sym is)
