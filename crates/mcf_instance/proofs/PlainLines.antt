-- Arc lines of the plain form at the front of a text.
use Rattle.std.proofs.Common.{◌≡◌, ◌≢◌, ℕ, zero, suc, ◌+◌, ◌-◌, ◌^◌, ◌<◌, ◌≤◌, min, true, false, inl, inr, List, [], ◌∷◌, ◌++◌, length, get_or, take, drop, Ok, Some}
use Rattle.std.proofs.Common.{refl, sym, ap, subst, ◌∙◌, add-one, arith}
use Rattle.std.specs.Prelude.{codes, ℤ, pos, neg_ℤ, ◌-ℤ◌, ◌≤ℤ◌, slice_index_or}
use Rattle.std.proofs.lemmas.Int.{ints, to_z-of_z, to_z_pos}
use mir.Syntax.{w64}
use mir.Val.{SFits, of_z, to_z}
use Rattle.std.specs.Int.{IsInRange}
use Rattle.std.proofs.lemmas.Bool.{and_from}
use Rattle.std.proofs.lemmas.Bool.Decides.{leb_tells}
use Rattle.std.specs.Char.{is_ascii_digit}
use Rattle.std.specs.List.{list_all}
use Rattle.std.proofs.Math.Seq.{drop-cons}
use Rattle.std.proofs.lemmas.List.{drop-append-le, drop-drop, drop-take, drop_all, get_or_append_left, get_or-drop, get_or-take, length-append, length-drop, length-take, length-take-le, take-append-le}
use Rattle.std.proofs.lemmas.List.Elements.{All-cons, All-nil}
use Rattle.std.proofs.lemmas.Str.Parse.{digit_at}
use Rattle.mcf_text.specs.Fields.{EndsRun, begins_kept, fields_of, is_blank, is_kept}
use Rattle.mcf_text.specs.Lines.{line_feed, lines_of}
use Rattle.mcf_text.specs.Whole.{digits_sum}
use Rattle.mcf_text.proofs.FieldsLemmas.{fields_of-blank, fields_of-run, is_kept-fields_of}
use Rattle.mcf_text.proofs.LinesLemmas.{lines_of-at}
use Rattle.mcf_text.proofs.LeadingLemmas.{begins_with_digits, begins_with_minus, ends_at_blank, ends_at_end}
use Rattle.mcf_text.proofs.WholeLemmas.{model}
use Rattle.mcf_flows.specs.declared.problem.Problem.TheVariants.{Min, Asn}
use Rattle.mcf_flows.specs.Limits.{limits}
use Rattle.mcf_instance.specs.Private.LineReader.{arc_line, arc_numbers, clamped, kept_size, number_at}
use Rattle.mcf_instance.specs.Private.PlainLines.{BeginsArc, BlankAt, EndsField, EndsLine, HasDigits, HasField, HasLastField, HasLine, HasNumber, IsClear, SaysArc}
use Rattle.mcf_instance.proofs.LineSteps.{arc_line_at}
use Rattle.mcf_instance.proofs.Ranges.{clamped_up_to}
use Rattle.mcf_flows.proofs.IntLaws.{at_most_passes}

-- ---- one number

kept_within : (z : ℤ) → neg_ℤ (pos kept_size) ≤ℤ z → z ≤ℤ pos kept_size → clamped z ≡ z
kept_within z low high = clamped_up_to kept_size z (omega arith) (and_from _ _ (at_most_passes _ _ low) (at_most_passes _ _ high))

clamped_pos : (n : ℕ) → n < 10 ^ 18 → clamped (pos n) ≡ pos n
clamped_pos n small = kept_within (pos n) (omega (arith, ints, small)) (omega (arith, ints, small))

clamped_neg : (n : ℕ) → n < 10 ^ 18 → clamped (neg_ℤ (pos n)) ≡ neg_ℤ (pos n)
clamped_neg n small = kept_within (neg_ℤ (pos n)) (omega (arith, ints, small)) (omega (arith, ints, small))

field_at_end : (line : List ℕ) (end : ℕ) → end ≡ length line → EndsField line end end
field_at_end line end e = record { run = ends_at_end line end e; fields = refl }

field_at_blank : (line : List ℕ) (end : ℕ) → end < length line → is_blank (get_or line end 0) ≡ true → EndsField line end (end + 1)
field_at_blank line end inside blank = let e = ends_at_blank line end inside blank in record { run = e.0; fields = e.1 }

-- the digits from a place on, up to the end of the field
number_of_digits : (line : List ℕ) (start count next value : ℕ) → start ≤ length line → 0 < count → count ≤ length line - start
    → list_all is_ascii_digit (take count (drop start line)) ≡ true → value ≡ digits_sum (take count (drop start line)) → value < 10 ^ 18
    → EndsField line (start + count) next → HasNumber line start next (pos value)
number_of_digits line start count next value begins some inside all is small ends =
    let same : drop count (drop start line) ≡ drop (start + count) line = drop-drop count start line in
    let number = begins_with_digits (drop start line) count some (omega (arith, length-drop start line)) all (subst EndsRun (sym same) ends.run) in
    record {
      first = number.first;
      fields = number.fields ∙ ap (λ more. number.first ∷ more) (ap fields_of same ∙ ends.fields);
      whole = number.whole;
      value_is = ap clamped (number.value_is ∙ ap pos (sym is)) ∙ clamped_pos value small;
    }

number_of_minus : (line : List ℕ) (start count next value : ℕ) → start < length line → get_or line start 0 ≡ 45 → 0 < count
    → count ≤ length line - (start + 1)
    → list_all is_ascii_digit (take count (drop (start + 1) line)) ≡ true → value ≡ digits_sum (take count (drop (start + 1) line)) → value < 10 ^ 18
    → EndsField line (start + 1 + count) next → HasNumber line start next (neg_ℤ (pos value))
number_of_minus line start count next value begins minus some inside all is small ends =
    let same : drop count (drop (start + 1) line) ≡ drop (start + 1 + count) line = drop-drop count (start + 1) line in
    let number = begins_with_minus (drop (start + 1) line) count some (omega (arith, length-drop (start + 1) line)) all (subst EndsRun (sym same) ends.run) in
    let front : drop start line ≡ 45 ∷ drop (start + 1) line =
    drop-cons line start 0 begins ∙ ap (λ b. b ∷ drop (suc start) line) minus ∙ ap (λ k. 45 ∷ drop k line) (sym (add-one start)) in
    record {
      first = number.first;
      fields = ap fields_of front ∙ number.fields ∙ ap (λ more. number.first ∷ more) (ap fields_of same ∙ ends.fields);
      whole = number.whole;
      value_is = ap clamped (number.value_is ∙ ap (λ n. neg_ℤ (pos n)) (sym is)) ∙ clamped_neg value small;
    }

-- how the code has the two numbers
pub plain_value : (n : ℕ) → n < 10 ^ 18 → to_z w64 n ≡ pos n
plain_value n small = to_z_pos w64 n (omega (arith, small))

pub minus_value : (n : ℕ) → n < 10 ^ 18 → to_z w64 (of_z w64 (pos 0 -ℤ to_z w64 n)) ≡ neg_ℤ (pos n)
minus_value n small =
    let fits : SFits w64 (pos 0 -ℤ pos n) = omega (arith, ints, small) in
    ap (λ z. to_z w64 (of_z w64 (pos 0 -ℤ z))) (plain_value n small) ∙ to_z-of_z w64 (pos 0 -ℤ pos n) fits ∙ omega (arith, ints)

-- ---- the part of a text up to a place

take_short : (c m : ℕ) (xs : List ℕ) → c ≤ m → take c (take m xs) ≡ take c xs
take_short zero m xs few = refl
take_short (suc c) zero xs few = absurd (omega arith)
take_short (suc c) (suc m) [] few = refl
take_short (suc c) (suc m) (x ∷ xs) few = ap (λ ys. x ∷ ys) (take_short c m xs (omega arith))

-- what stands before the place
cut : (text : List ℕ) (start count end : ℕ) → start + count ≤ end → take count (drop start (take end text)) ≡ take count (drop start text)
cut text start count end below =
    let e : start + (end - start) ≡ end = omega arith in
    ap (λ n. take count (drop start (take n text))) (sym e) ∙ ap (take count) (drop-take start (end - start) text)
    ∙ take_short count (end - start) (drop start text) (omega arith)

byte_before : (text : List ℕ) (i end : ℕ) (b : ℕ) → i < end → get_or text i 0 ≡ b → get_or (take end text) i 0 ≡ b
byte_before text i end b below is = get_or-take end text i 0 below ∙ is

-- no byte of a part ends a line
clear_join : (text : List ℕ) (a b c : ℕ) → IsClear text a b → IsClear text b c → IsClear text a c
clear_join text a b c first second i low high =
    elim (leb_tells b i) [
      | inl past ↦ second i past.1 high
      | inr before ↦ first i low before.1
    ]

clear_digits : (text : List ℕ) (start count : ℕ) → start + count ≤ length text → list_all is_ascii_digit (take count (drop start text)) ≡ true
    → IsClear text start (start + count)
clear_digits text start count inside all i low high is =
    let ds = take count (drop start text) in
    let long : length ds ≡ min count (length (drop start text)) = length-take count (drop start text) in
    let rest = length-drop start text in
    let place : start + (i - start) ≡ i = omega arith in
    let read : get_or ds (i - start) 0 ≡ get_or text i 0 =
    get_or-take count (drop start text) (i - start) 0 (omega arith) ∙ get_or-drop start text (i - start) 0 ∙ ap (λ k. get_or text k 0) place in
    let digit = digit_at ds (i - start) (model.to ds all) (omega (arith, long, rest)) in
    let range = subst (IsInRange 48 57) (read ∙ is) digit in
    omega (arith, range.0, range.1)

clear_one : (text : List ℕ) (place byte : ℕ) → get_or text place 0 ≡ byte → byte ≢ line_feed → IsClear text place (place + 1)
clear_one text place byte is other i low high e =
    let here : i ≡ place = omega arith in
    other (sym is ∙ ap (λ k. get_or text k 0) (sym here) ∙ e)

blank_other : (b : ℕ) → is_blank b ≡ true → b ≢ line_feed
blank_other b blank e = let no : is_blank line_feed ≡ true = ap is_blank (sym e) ∙ blank in cc no

clear_blank : (text : List ℕ) (place : ℕ) → is_blank (get_or text place 0) ≡ true → IsClear text place (place + 1)
clear_blank text place blank = clear_one text place (get_or text place 0) refl (blank_other (get_or text place 0) blank)

-- ---- a field of any line of the text that ends later

pub digits_from : (text : List ℕ) (start count value : ℕ) → start ≤ length text → 0 < count → count ≤ length text - start
    → list_all is_ascii_digit (take count (drop start text)) ≡ true → value ≡ digits_sum (take count (drop start text)) → value < 10 ^ 18
    → HasDigits text start (start + count) (pos value)
digits_from text start count value begins some inside all is small = record {
  moves = omega arith;
  inside = omega arith;
  clear = clear_digits text start count (omega arith) all;
  number = λ end next past within ends.
      let long = length-take-le end text within in
      let same = cut text start count end past in
      number_of_digits (take end text) start count next value (omega (arith, long)) some (omega (arith, long)) (ap (list_all is_ascii_digit) same ∙ all)
      (is ∙ ap digits_sum (sym same)) small ends;
}

pub minus_from : (text : List ℕ) (start count value : ℕ) → start < length text → get_or text start 0 ≡ 45 → 0 < count → count ≤ length text - (start + 1)
    → list_all is_ascii_digit (take count (drop (start + 1) text)) ≡ true → value ≡ digits_sum (take count (drop (start + 1) text)) → value < 10 ^ 18
    → HasDigits text start (start + 1 + count) (neg_ℤ (pos value))
minus_from text start count value begins minus some inside all is small = record {
  moves = omega arith;
  inside = omega arith;
  clear = clear_join text start (start + 1) (start + 1 + count) (clear_one text start 45 minus (λ e. omega arith))
      (clear_digits text (start + 1) count (omega arith) all);
  number = λ end next past within ends.
      let long = length-take-le end text within in
      let same = cut text (start + 1) count end past in
      number_of_minus (take end text) start count next value (omega (arith, long)) (byte_before text start end 45 (omega arith) minus) some
      (omega (arith, long)) (ap (list_all is_ascii_digit) same ∙ all) (is ∙ ap digits_sum (sym same)) small ends;
}

pub field_from : (text : List ℕ) (start stop next : ℕ) (value : ℤ) → HasDigits text start stop value → BlankAt text stop next → HasField text start next value
field_from text start stop next value digits at = record {
  moves = omega (arith, digits.moves, at.next_is);
  inside = omega (arith, at.next_is, at.inside);
  clear = subst (IsClear text start) (sym at.next_is) (clear_join text start stop (stop + 1) digits.clear (clear_blank text stop at.blank));
  number = λ end past within.
      let long = length-take-le end text within in
      let ends = field_at_blank (take end text) stop (omega (arith, at.next_is, long))
      (ap is_blank (get_or-take end text stop 0 (omega (arith, at.next_is))) ∙ at.blank) in
      digits.number end next (omega (arith, at.next_is)) within (subst (EndsField (take end text) stop) (sym at.next_is) ends);
}

pub line_ends_here : (text : List ℕ) (stop : ℕ) → stop < length text → get_or text stop 0 ≡ line_feed → EndsLine text stop stop
line_ends_here text stop inside is = record {
  inside = inside;
  moves = omega arith;
  feed = is;
  clear = λ i low high. absurd (omega arith);
  field = field_at_end (take stop text) stop (sym (length-take-le stop text (omega arith)));
}

pub line_ends_next : (text : List ℕ) (stop next : ℕ) → BlankAt text stop next → next < length text → get_or text next 0 ≡ line_feed → EndsLine text stop next
line_ends_next text stop next at inside is =
    let long = length-take-le next text (omega arith) in
    record {
      inside = inside;
      moves = omega (arith, at.next_is);
      feed = is;
      clear = subst (IsClear text stop) (sym at.next_is) (clear_blank text stop at.blank);
      field = subst (EndsField (take next text) stop) (sym at.next_is)
          (field_at_blank (take next text) stop (omega (arith, at.next_is, long))
          (ap is_blank (get_or-take next text stop 0 (omega (arith, at.next_is))) ∙ at.blank));
    }

pub last_field_from : (text : List ℕ) (start stop end : ℕ) (value : ℤ) → HasDigits text start stop value → EndsLine text stop end
    → HasLastField text start end value
last_field_from text start stop end value digits ends = record {
  moves = omega (arith, digits.moves, ends.moves);
  inside = ends.inside;
  feed = ends.feed;
  clear = clear_join text start stop end digits.clear ends.clear;
  number = digits.number end end ends.moves (omega (arith, ends.inside)) ends.field;
}

-- ---- the line

-- the fields of a line that begins with `a` and a blank
begins_with_a : (line : List ℕ) → 2 ≤ length line → get_or line 0 0 ≡ 97 → is_blank (get_or line 1 0) ≡ true
    → fields_of line ≡ codes "a" ∷ fields_of (drop 2 line)
begins_with_a [] long a blank = absurd (omega arith)
begins_with_a (b ∷ []) long a blank = absurd (omega arith)
begins_with_a (b ∷ c ∷ more) long a blank =
    ap (λ x. fields_of (x ∷ c ∷ more)) a
    ∙ fields_of-run (97 ∷ []) (c ∷ more)
    (record { nonempty = omega arith; no_blank = All-cons (λ x. is_blank x ≡ false) 97 [] refl (All-nil (λ x. is_blank x ≡ false)) }) blank
    ∙ ap (λ fs. (97 ∷ []) ∷ fs) (fields_of-blank c more blank)

first_fields : (text : List ℕ) (end : ℕ) → BeginsArc text → 2 ≤ end → end ≤ length text
    → fields_of (take end text) ≡ codes "a" ∷ fields_of (drop 2 (take end text))
first_fields text end begins past within =
    begins_with_a (take end text) (omega (arith, length-take-le end text within)) (byte_before text 0 end 97 (omega arith) begins.letter)
    (ap is_blank (get_or-take end text 1 0 (omega arith)) ∙ begins.blank)

clear_front : (text : List ℕ) → BeginsArc text → IsClear text 0 2
clear_front text begins = clear_join text 0 1 2 (clear_one text 0 97 begins.letter (λ e. omega arith)) (clear_blank text 1 begins.blank)

-- the first line of a text by the place of the first line feed
line_to : (text : List ℕ) (end : ℕ) → end < length text → get_or text end 0 ≡ line_feed → IsClear text 0 end → HasLine text end
line_to text end inside feed clear = record {
  inside = inside;
  joined = λ more.
      let one = lines_of-at (text ++ more) end (omega (arith, length-append text more))
      (λ j below is. clear j (omega arith) below (sym (get_or_append_left text more 0 j (omega arith)) ∙ is))
      (get_or_append_left text more 0 end inside ∙ feed) in
      one ∙ ap (λ line. line ∷ lines_of (drop (suc end) (text ++ more))) (take-append-le end text more (omega arith))
      ∙ ap (λ k. take end text ∷ lines_of (drop k (text ++ more))) (sym (add-one end))
      ∙ ap (λ rest. take end text ∷ lines_of rest) (drop-append-le (end + 1) text more (omega arith));
}

-- no field follows
past_all : (text : List ℕ) (end : ℕ) → end ≤ length text → fields_of (drop end (take end text)) ≡ []
past_all text end within = ap fields_of (drop_all end (take end text) (omega (arith, length-take-le end text within)))

kept_arc : (line : List ℕ) (rest : List (List ℕ)) → fields_of line ≡ codes "a" ∷ rest → is_kept line ≡ true
kept_arc line rest is = is_kept-fields_of line ∙ ap begins_kept is

-- a line with these numbers
pub pair_said : (text : List ℕ) (n m k : ℕ) (u v w : ℤ) → BeginsArc text → HasField text 2 n u → HasField text n m v → HasLastField text m k w
    → SaysArc Asn text (record { src = u; dst = v; low = pos 0; cap = pos 1; cost = w }) k
unfolding number_at
pair_said text n m k u v w a src dst cost =
    let line = take k text in
    let within : k ≤ length text = omega (arith, cost.inside) in
    let one = src.number k (omega (arith, dst.moves, cost.moves)) within in
    let two = dst.number k cost.moves within in
    let three = cost.number in
    let a3 = three.fields ∙ ap (λ fs. three.first ∷ fs) (past_all text k within) in
    let fields : fields_of line ≡ codes "a" ∷ one.first ∷ two.first ∷ three.first ∷ [] =
    first_fields text k a (omega (arith, src.moves, dst.moves, cost.moves)) within ∙ ap (λ fs. codes "a" ∷ fs) (one.fields ∙ ap (λ fs. one.first ∷ fs) (two.fields
    ∙ ap (λ fs. two.first ∷ fs) a3)) in
    let numbers : arc_numbers (codes "a" ∷ one.first ∷ two.first ∷ three.first ∷ []) ≡ Ok (record { src = u; dst = v; low = pos 0; cap = pos 1; cost = w }) =
    rw (one.whole, two.whole, three.whole, one.value_is, two.value_is, three.value_is) refl in
    let clear : IsClear text 0 k =
    clear_join text 0 2 k (clear_front text a) (clear_join text 2 n k src.clear (clear_join text n m k dst.clear cost.clear)) in
    record {
      line = line_to text k cost.inside cost.feed clear;
      word = ap (λ fs. slice_index_or fs 0 []) fields;
      kept = kept_arc line _ fields;
      says = λ h arcs total listed asn. ap (λ fs. arc_line limits (Some h) arcs total listed fs) fields
          ∙ arc_line_at (Some h) h arcs total listed (codes "a" ∷ one.first ∷ two.first ∷ three.first ∷ []) (record { src = u; dst = v; low = pos 0; cap = pos 1; cost = w }) refl (rw asn refl) numbers;
    }

pub link_said : (text : List ℕ) (n m i j k : ℕ) (u v x y w : ℤ) → BeginsArc text → HasField text 2 n u → HasField text n m v → HasField text m i x
    → HasField text i j y → HasLastField text j k w → SaysArc Min text (record { src = u; dst = v; low = x; cap = y; cost = w }) k
unfolding number_at
link_said text n m i j k u v x y w a src dst low cap cost =
    let line = take k text in
    let within : k ≤ length text = omega (arith, cost.inside) in
    let one = src.number k (omega (arith, dst.moves, low.moves, cap.moves, cost.moves)) within in
    let two = dst.number k (omega (arith, low.moves, cap.moves, cost.moves)) within in
    let three = low.number k (omega (arith, cap.moves, cost.moves)) within in
    let four = cap.number k cost.moves within in
    let five = cost.number in
    let a5 = five.fields ∙ ap (λ fs. five.first ∷ fs) (past_all text k within) in
    let a4 = four.fields ∙ ap (λ fs. four.first ∷ fs) a5 in
    let a3 = three.fields ∙ ap (λ fs. three.first ∷ fs) a4 in
    let fields : fields_of line ≡ codes "a" ∷ one.first ∷ two.first ∷ three.first ∷ four.first ∷ five.first ∷ [] =
    first_fields text k a (omega (arith, src.moves, dst.moves, low.moves, cap.moves, cost.moves)) within ∙ ap (λ fs. codes "a" ∷ fs) (one.fields ∙ ap (λ fs. one.first ∷ fs) (two.fields
    ∙ ap (λ fs. two.first ∷ fs) a3)) in
    let numbers : arc_numbers (codes "a" ∷ one.first ∷ two.first ∷ three.first ∷ four.first ∷ five.first ∷ [])
    ≡ Ok (record { src = u; dst = v; low = x; cap = y; cost = w }) =
    rw (one.whole, two.whole, three.whole, four.whole, five.whole, one.value_is, two.value_is, three.value_is, four.value_is, five.value_is) refl in
    let clear : IsClear text 0 k =
    clear_join text 0 2 k (clear_front text a) (clear_join text 2 n k src.clear (clear_join text n m k dst.clear
    (clear_join text m i k low.clear (clear_join text i j k cap.clear cost.clear)))) in
    record {
      line = line_to text k cost.inside cost.feed clear;
      word = ap (λ fs. slice_index_or fs 0 []) fields;
      kept = kept_arc line _ fields;
      says = λ h arcs total listed min. ap (λ fs. arc_line limits (Some h) arcs total listed fs) fields
          ∙ arc_line_at (Some h) h arcs total listed (codes "a" ∷ one.first ∷ two.first ∷ three.first ∷ four.first ∷ five.first ∷ []) (record { src = u; dst = v; low = x; cap = y; cost = w }) refl (rw min refl) numbers;
    }
