-- The field with which a text begins.
use Rattle.std.proofs.Common.{◌≡◌, ◌≢◌, ℕ, zero, suc, ◌+◌, ◌-◌, ◌<◌, ◌≤◌, true, false, not, List, [], ◌∷◌, ◌++◌, length, take, drop, get_or, Some, None, refl, sym, ap, ap₂, subst, ◌∙◌, arith, append_assoc, length-append, length-drop, take-add, get_or-drop, add-zero, inl, inr}
use Rattle.std.specs.Prelude.{◌==◌, ◌&&◌, replicate, position}
use Rattle.std.specs.List.{list_any}
use Rattle.std.proofs.lemmas.Bool.{cases_Bool, eqb-true, eqb-false, ne_eqb, not-true, not-false, or_parts}
use Rattle.std.proofs.lemmas.List.{take_more, take-append-drop}
use Rattle.std.proofs.lemmas.List.Quantifiers.{position-Some}
use Rattle.std.proofs.Math.Seq.{drop-append_seam, take-append_seam}
use Rattle.memchr.specs.Find.{is_byte}
use Rattle.mcf_table.specs.Rows.{Breaks, begins_quoted, doubled, ends_field, quote, quoted, space}
use Rattle.mcf_table.specs.Private.Found.{ClosesAt, EndsField, IsFirstAt, IsFirstField, IsOpen, IsPlainLen, NoQuote, OpensAt}
use Rattle.mcf_table.specs.declared.fault.FieldFault.TheVariants.{Unclosed, AfterQuote}
use Rattle.mcf_table.proofs.CutLemmas.{cut_at, position_nowhere}
use Rattle.mcf_table.proofs.Answered.{quoted_tail}

all_spaces : (n : ℕ) (text : List ℕ) → n ≤ length text → ((k : ℕ) → k < n → get_or text k 0 ≡ space) → take n text ≡ replicate n space
all_spaces zero text inside each = refl
all_spaces (suc n) [] inside each = absurd (omega (arith, inside))
all_spaces (suc n) (b ∷ bs) inside each =
    let here : b ≡ space = each 0 (omega arith) in
    let more = all_spaces n bs (omega (arith, inside)) (λ k below. each (suc k) (omega (arith, below))) in
    ap₂ (λ (x : ℕ) (xs : List ℕ). x ∷ xs) here more

is_space : (b : ℕ) → not (b == space) ≡ false → b ≡ space
is_space b is = eqb-true b space (not-false (b == space) is)

pub opens_at : (text : List ℕ) (place : ℕ) → position (λ b. not (b == space)) text ≡ Some place → get_or text place 0 ≡ quote → OpensAt text place
opens_at text place is here =
    let found = position-Some (λ b. not (b == space)) text place 0 is in
    let spaces = all_spaces place text (omega (arith, found.0)) (λ k below. is_space (get_or text k 0) (found.2 k below)) in
    record {
      inside = found.0;
      spelled = cut_at text place found.0 ∙ ap₂ (λ (xs : List ℕ) (b : ℕ). xs ++ b ∷ drop (place + 1) text) spaces here;
    }

spaces_then : (n : ℕ) (text : List ℕ) → n < length text → ((k : ℕ) → k < n → get_or text k 0 ≡ space)
    → (get_or text n 0 == quote) ≡ false → (get_or text n 0 == space) ≡ false → begins_quoted text ≡ false
spaces_then n [] inside each no_quote no_space = absurd (omega (arith, inside))
spaces_then zero (b ∷ bs) inside each no_quote no_space = rw (no_quote, no_space)
spaces_then (suc n) (b ∷ bs) inside each no_quote no_space =
    let here : b ≡ space = each 0 (omega arith) in
    let more = spaces_then n bs (omega (arith, inside)) (λ k below. each (suc k) (omega (arith, below))) no_quote no_space in
    ap (λ (x : ℕ). begins_quoted (x ∷ bs)) here ∙ more

pub no_opening : (text : List ℕ) (place : ℕ) → position (λ b. not (b == space)) text ≡ Some place → get_or text place 0 ≢ quote
    → begins_quoted text ≡ false
no_opening text place is other =
    let found = position-Some (λ b. not (b == space)) text place 0 is in
    spaces_then place text found.0 (λ k below. is_space (get_or text k 0) (found.2 k below))
    (ne_eqb (get_or text place 0) quote other) (not-true (get_or text place 0 == space) found.1)

only_spaces : (text : List ℕ) → list_any (λ b. not (b == space)) text ≡ false → begins_quoted text ≡ false
only_spaces [] none = refl
only_spaces (b ∷ bs) none =
    let parts = or_parts (not (b == space)) (list_any (λ b. not (b == space)) bs) none in
    ap (λ (x : ℕ). begins_quoted (x ∷ bs)) (is_space b parts.0) ∙ only_spaces bs parts.1

pub no_place : (text : List ℕ) → position (λ b. not (b == space)) text ≡ None → begins_quoted text ≡ false
no_place text is = only_spaces text (position_nowhere (λ b. not (b == space)) text is)

unquoted_take : (n : ℕ) (text : List ℕ) → begins_quoted text ≡ false → begins_quoted (take n text) ≡ false
unquoted_take zero text is = refl
unquoted_take (suc n) [] is = refl
unquoted_take (suc n) (b ∷ bs) is =
    let parts = or_parts (b == quote) (b == space && begins_quoted bs) is in
    elim (cases_Bool (b == space)) [
      | inl here ↦ let more : begins_quoted bs ≡ false = rw here at (parts.1) in rw (parts.0, here) (unquoted_take n bs more)
      | inr other ↦ rw (parts.0, other)
    ]

pub plain_first : (separator : ℕ) (text : List ℕ) (len : ℕ) → begins_quoted text ≡ false → IsPlainLen separator text len
    → IsFirstField separator text (take len text) false len
plain_first separator text len un plain = record {
  inside = plain.inside;
  ends = plain.ends;
  content_of = take len text;
  content_is = refl;
  said = inl (record { inside = plain.none; unquoted = unquoted_take len text un }, refl);
}

doubled-append : (xs ys : List ℕ) → doubled (xs ++ ys) ≡ doubled xs ++ doubled ys
doubled-append [] ys = refl
doubled-append (x ∷ xs) ys =
    elim (cases_Bool (x == quote)) [
      | inl is ↦ rw is (ap (λ (zs : List ℕ). quote ∷ quote ∷ zs) (doubled-append xs ys))
      | inr other ↦ rw other (ap (λ (zs : List ℕ). x ∷ zs) (doubled-append xs ys))
    ]

doubled_plain : (xs : List ℕ) → list_any (is_byte quote) xs ≡ false → doubled xs ≡ xs
doubled_plain [] none = refl
doubled_plain (x ∷ xs) none =
    let parts = or_parts (is_byte quote x) (list_any (is_byte quote) xs) none in
    rw (parts.0) (ap (λ (zs : List ℕ). x ∷ zs) (doubled_plain xs parts.1))

open_more : (text more : List ℕ) → IsOpen text → list_any (is_byte quote) more ≡ false → IsOpen (text ++ more)
open_more text more is none =
    (is.0 ++ more, ap₂ (λ (xs ys : List ℕ). xs ++ ys) is.1 (sym (doubled_plain more none)) ∙ sym (doubled-append is.0 more))

open_to : (text : List ℕ) (at place : ℕ) → IsOpen (take at text) → list_any (is_byte quote) (take place (drop at text)) ≡ false
    → IsOpen (take (at + place) text)
open_to text at place is none = subst IsOpen (sym (take-add at place text)) (open_more (take at text) (take place (drop at text)) is none)

quote_here : (text : List ℕ) (at place : ℕ) → IsFirstAt quote (drop at text) place → get_or text (at + place) 0 ≡ quote
quote_here text at place first = sym (get_or-drop at text place 0) ∙ first.here

pub closes : (text : List ℕ) (at place : ℕ) → at ≤ length text → IsOpen (take at text) → IsFirstAt quote (drop at text) place
    → NoQuote (drop (at + place + 1) text) → ClosesAt text (at + place)
closes text at place inside is first next =
    let said = open_to text at place is first.none in
    record {
      inside = omega (arith, first.inside, length-drop at text);
      here = quote_here text at place first;
      said = said;
      next = next;
    }

pub goes_on : (text : List ℕ) (at place : ℕ) → at ≤ length text → IsOpen (take at text) → IsFirstAt quote (drop at text) place
    → 0 < length (drop (at + place + 1) text) → get_or (drop (at + place + 1) text) 0 0 ≡ quote
    → (at + place + 2 ≤ length text) × IsOpen (take (at + place + 2) text)
goes_on text at place inside is first some next =
    let close : ℕ = at + place in
    let said = open_to text at place is first.none in
    let long : close + 1 < length text = omega (arith, some, length-drop (close + 1) text) in
    let here : get_or text close 0 ≡ quote = quote_here text at place first in
    let there : get_or text (close + 1) 0 ≡ quote =
    ap (λ (n : ℕ). get_or text n 0) (sym (add-zero (close + 1))) ∙ sym (get_or-drop (close + 1) text 0 0) ∙ next in
    let one : take (close + 1) text ≡ take close text ++ quote ∷ [] =
    take_more text close 0 (omega (arith, long)) ∙ ap (λ (b : ℕ). take close text ++ b ∷ []) here in
    let two : take (close + 1 + 1) text ≡ take (close + 1) text ++ quote ∷ [] =
    take_more text (close + 1) 0 long ∙ ap (λ (b : ℕ). take (close + 1) text ++ b ∷ []) there in
    let both : take (close + 2) text ≡ doubled (said.0 ++ quote ∷ []) =
    ap (λ (n : ℕ). take n text) (omega arith) ∙ two ∙ ap (λ (xs : List ℕ). xs ++ quote ∷ []) one
    ∙ append_assoc (take close text) (quote ∷ []) (quote ∷ [])
    ∙ ap (λ (xs : List ℕ). xs ++ quote ∷ quote ∷ []) said.1
    ∙ sym (doubled-append said.0 (quote ∷ [])) in
    (omega (arith, long), (said.0 ++ quote ∷ [], both))

pub ends_open : (text : List ℕ) (at : ℕ) → IsOpen (take at text) → list_any (is_byte quote) (drop at text) ≡ false → IsOpen text
ends_open text at is none = subst IsOpen (take-append-drop at text) (open_more (take at text) (drop at text) is none)

-- what a quote opens
pub unclosed : (separator : ℕ) (text : List ℕ) (start : ℕ) → OpensAt text start → IsOpen (drop (start + 1) text) → Breaks separator text Unclosed
unclosed separator text start opens is =
    (start, is.0, opens.spelled ∙ ap (λ (xs : List ℕ). replicate start space ++ quote ∷ xs) is.1)

-- the text with the field that is closed, and what follows it
closed_text : (text : List ℕ) (start close : ℕ) (opens : OpensAt text start) (closes : ClosesAt (drop (start + 1) text) close)
    → text ≡ quoted start closes.said.0 ++ drop (close + 1) (drop (start + 1) text)
closed_text text start close opens closes =
    let inside : List ℕ = drop (start + 1) text in
    let rest : List ℕ = drop (close + 1) inside in
    let cut : inside ≡ doubled closes.said.0 ++ quote ∷ rest =
    cut_at inside close closes.inside ∙ ap₂ (λ (xs : List ℕ) (b : ℕ). xs ++ b ∷ rest) closes.said.1 closes.here in
    opens.spelled ∙ ap (λ (xs : List ℕ). replicate start space ++ quote ∷ xs) cut ∙ sym (quoted_tail start closes.said.0 rest)

first_no_quote : (rest : List ℕ) → 0 < length rest → NoQuote rest → get_or rest 0 0 ≢ quote
first_no_quote [] some next = absurd (omega (arith, some))
first_no_quote (b ∷ bs) some next = eqb-false b quote next

first_and_rest : (rest : List ℕ) → 0 < length rest → rest ≡ get_or rest 0 0 ∷ drop 1 rest
first_and_rest [] some = absurd (omega (arith, some))
first_and_rest (b ∷ bs) some = refl

pub after_quote : (separator : ℕ) (text : List ℕ) (start close : ℕ) → OpensAt text start → ClosesAt (drop (start + 1) text) close
    → 0 < length (drop (close + 1) (drop (start + 1) text)) → ends_field separator (get_or (drop (close + 1) (drop (start + 1) text)) 0 0) ≡ false
    → Breaks separator text AfterQuote
after_quote separator text start close opens closes some other =
    let rest : List ℕ = drop (close + 1) (drop (start + 1) text) in (
      start,
      closes.said.0,
      get_or rest 0 0,
      drop 1 rest,
      closed_text text start close opens closes ∙ ap (λ (xs : List ℕ). quoted start closes.said.0 ++ xs) (first_and_rest rest some),
      first_no_quote rest some closes.next,
      other,
    )

pub quoted_first : (separator : ℕ) (text : List ℕ) (start close : ℕ) → OpensAt text start → ClosesAt (drop (start + 1) text) close
    → EndsField separator (drop (close + 1) (drop (start + 1) text))
    → IsFirstField separator text (take close (drop (start + 1) text)) true (length text - length (drop (close + 1) (drop (start + 1) text)))
quoted_first separator text start close opens closes ends =
    let rest : List ℕ = drop (close + 1) (drop (start + 1) text) in
    let field : List ℕ = quoted start closes.said.0 in
    let whole : text ≡ field ++ rest = closed_text text start close opens closes in
    let len : length text - length rest ≡ length field = omega (arith, ap length whole, length-append field rest) in
    let after : drop (length text - length rest) text ≡ rest =
    ap₂ (λ (n : ℕ) (xs : List ℕ). drop n xs) len whole ∙ drop-append_seam field rest in
    let before : take (length text - length rest) text ≡ field =
    ap₂ (λ (n : ℕ) (xs : List ℕ). take n xs) len whole ∙ take-append_seam field rest in
    record {
      inside = omega arith;
      ends = subst (EndsField separator) (sym after) ends;
      content_of = closes.said.0;
      content_is = closes.said.1;
      said = inr (start, closes.said.0, before, refl);
    }
