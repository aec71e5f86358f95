-- A text without a fault under `former_limits` has none under `limits`.
use Rattle.std.proofs.Common.{◌≡◌, ℕ, ◌+◌, ◌*◌, ◌≤◌, max, Bool, true, false, not, cond, ◌&&◌, List, [], ◌∷◌, ◌++◌, length, refl, sym, ◌∙◌, ap, Some}
use Rattle.std.proofs.Common.{None}
use Rattle.std.proofs.Common.{arith}
use Rattle.std.specs.Prelude.{Option, Ok, ℤ, pos, neg_ℤ, filter, find, nat_le, option_map, slice_get, unsigned_abs}
use Rattle.std.specs.Option.{option_or, option_map_or}
use Rattle.std.proofs.Math.Nat.{mul-le-mul}
use Rattle.std.proofs.lemmas.Bool.{and_from, and_parts, false_from_ne_true, leb-false, ltb-true, not-false}
use Rattle.std.proofs.lemmas.Int.{ints}
use Rattle.std.proofs.lemmas.List.{append-nil, append_assoc, length_push}
use Rattle.std.proofs.lemmas.List.Elements.{filter-append}
use Rattle.mcf_flows.specs.declared.code.Code.{Code}
use Rattle.mcf_flows.specs.declared.code.Code.TheVariants.{Kind, Fields, Problem, Number, SecondP, BeforeP, Size, Node, LateN, Twice, Supply, Bound, Order}
use Rattle.mcf_flows.specs.declared.code.Code.TheVariants.{Cost, Extra, Side, Total, NoP, Missing}
use Rattle.mcf_instance.specs.Fault.{applies, arc_lines, as_fault, cost_place, fault_at_end, fault_of_line, faults, first_fault, first_fault_of_lines}
use Rattle.mcf_flows.specs.Codes.{Fault}
use Rattle.mcf_instance.specs.Fault.{has_field_count, has_numbers, has_p, header, header_of, is_a, is_counted, is_good_header, is_n, is_p, is_up_to}
use Rattle.mcf_instance.specs.Fault.{line_weight}
use Rattle.mcf_instance.specs.Fault.{no_header, of_min, passes, size_fits, total_of}
use Rattle.mcf_flows.specs.Codes.{table}
use Rattle.mcf_instance.specs.Laws.{FormerInstancesStay}
use Rattle.mcf_flows.specs.Limits.{arc_limit, former_limits, limits, node_limit}
use Rattle.mcf_instance.specs.Reading.{reading}
use Rattle.mcf_text.specs.Row.{Row, number, rows}
use Rattle.mcf_text.specs.Whole.{is_within}
use Rattle.mcf_instance.proofs.After.{applies_not}
use Rattle.mcf_flows.proofs.Bounds.{size_up_to}
use Rattle.mcf_instance.proofs.Ranges.{natural_most, up_to_is}
use Rattle.mcf_flows.proofs.IntLaws.{at_most_passes}
use Rattle.mcf_instance.proofs.Simulation.{first_fault_more}
use Rattle.mcf_instance.proofs.Totals.{total-append_counted, total-append_other}
use Rattle.mcf_instance.proofs.WholeTexts.{first_fault_stays}

-- the most that a line adds to the total under the former limits
abbrev most : ℕ
most = former_limits.cost * former_limits.bound

-- the total of some lines is small, by the number of their arc lines
abbrev IsSmall : List Row → Type 0
IsSmall lines = total_of lines ≤ length (arc_lines lines) * most

-- ---- one line

up_to_wider : (b c : ℕ) (z : ℤ) → b ≤ c → is_up_to b z ≡ true → is_up_to c z ≡ true
up_to_wider b c z h e =
    let u = up_to_is b z e in
    and_from _ _ (at_most_passes (neg_ℤ (pos c)) z (omega (arith, ints, u.0))) (at_most_passes z (pos c) (omega (arith, ints, u.1)))

good_header_arcs : (row : Row) (b : Bool) → is_good_header row ≡ b → (header_of row).arcs ≤ arc_limit
good_header_arcs row false e = rw e (omega arith)
good_header_arcs row true e = rw e (natural_most arc_limit (number row 3) (and_parts (is_within (pos 0) (pos node_limit) (number row 2)) _
    (and_parts _ (size_fits row) e).1).1)

found_header_arcs : (o : Option Row) → (option_map_or header_of o no_header).arcs ≤ arc_limit
found_header_arcs None = omega arith
found_header_arcs (Some row) = good_header_arcs row (is_good_header row) refl

header_arcs : (lines : List Row) → (header lines).arcs ≤ arc_limit
header_arcs lines = found_header_arcs (find is_p lines)

-- a line without a fault under the former limits
module _ (lines : List Row) (row : Row) (good : fault_of_line former_limits lines row ≡ None) where
  not_bound : is_a row ≡ true → of_min lines ≡ true → (is_up_to former_limits.bound (number row 3) && is_up_to former_limits.bound (number row 4)) ≡ true
  not_bound a min =
      let B = is_up_to former_limits.bound (number row 3) && is_up_to former_limits.bound (number row 4) in
      not-false B (sym (ap (λ b. b && of_min lines && not B) a ∙ ap (λ b. b && not B) min) ∙ applies_not former_limits lines row 11 Bound _ refl good)

  not_cost : is_a row ≡ true → of_min lines ≡ true → is_up_to former_limits.cost (number row 5) ≡ true
  not_cost a min =
      not-false (is_up_to former_limits.cost (number row 5)) (sym (ap (λ b. b && not (is_up_to former_limits.cost (number row (cost_place lines)))) a
      ∙ ap (λ b. not (is_up_to former_limits.cost (number row (cond b 5 3)))) min) ∙ applies_not former_limits lines row 13 Cost _ refl good)

  not_extra : is_a row ≡ true → length (arc_lines lines) + 1 ≤ arc_limit
  not_extra a =
      let room = leb-false (header lines).arcs (length (arc_lines lines)) (sym (ap (λ b. b && nat_le (header lines).arcs (length (arc_lines lines))) a)
      ∙ applies_not former_limits lines row 14 Extra _ refl good) in
      omega (arith, room, header_arcs lines)

  weight_small : is_a row ≡ true → of_min lines ≡ true → line_weight row ≤ most
  weight_small a min =
      let bounds = and_parts _ _ (not_bound a min) in
      let cost = size_up_to former_limits.cost (number row 5) (up_to_is former_limits.cost (number row 5) (not_cost a min)) in
      let low = size_up_to former_limits.bound (number row 3) (up_to_is former_limits.bound (number row 3) bounds.0) in
      let cap = size_up_to former_limits.bound (number row 4) (up_to_is former_limits.bound (number row 4) bounds.1) in
      let both : max (unsigned_abs (number row 3)) (unsigned_abs (number row 4)) ≤ former_limits.bound = omega (arith, low, cap) in
      mul-le-mul cost both

  -- the arc lines with one more
  arc_lines_more : (b : Bool) → is_a row ≡ b → length (arc_lines (lines ++ row ∷ [])) ≡ length (arc_lines lines) + cond b 1 0
  arc_lines_more true e =
      ap length (filter-append is_a lines (row ∷ []) ∙ ap (λ b. filter is_a lines ++ cond b (row ∷ []) []) e) ∙ length_push (filter is_a lines) row
  arc_lines_more false e =
      ap length (filter-append is_a lines (row ∷ []) ∙ ap (λ b. filter is_a lines ++ cond b (row ∷ []) []) e ∙ append-nil (filter is_a lines))
      ∙ none (length (filter is_a lines))
    where
      none : (n : ℕ) → n ≡ n + 0
      none n = omega arith

  small_after : IsSmall lines → IsSmall (lines ++ row ∷ [])
  small_after small = go (is_counted lines row) (is_a row) refl refl
    where
      go : (c b : Bool) → is_counted lines row ≡ c → is_a row ≡ b → IsSmall (lines ++ row ∷ [])
      go false b e f = rw (total-append_other lines row e, arc_lines_more b f) (omega (arith, small))
      go true b e f =
          let first = and_parts _ (has_p lines) (and_parts _ (has_field_count lines row) (and_parts _ (has_numbers row) e).0).0 in
          let kind = and_parts (is_a row) (of_min lines) first.0 in
          let one = weight_small kind.0 kind.1 in
          rw (total-append_counted lines row e, arc_lines_more true kind.0) (omega (arith, small, one))

  total_small : IsSmall lines → applies limits Total lines row ≡ false
  total_small small = go (is_a row) (of_min lines) refl refl
    where
      go : (a m : Bool) → is_a row ≡ a → of_min lines ≡ m → applies limits Total lines row ≡ false
      go false m e f = ap (λ b. b && of_min lines && passes limits.total (total_of (lines ++ row ∷ []))) e
      go true false e f = ap (λ b. b && of_min lines && passes limits.total (total_of (lines ++ row ∷ []))) e
          ∙ ap (λ b. b && passes limits.total (total_of (lines ++ row ∷ []))) f
      go true true e f =
          let more = arc_lines_more true e in
          let total : total_of (lines ++ row ∷ []) ≤ length (arc_lines (lines ++ row ∷ [])) * most = small_after small in
          let few = not_extra e in
          ap (λ b. b && of_min lines && passes limits.total (total_of (lines ++ row ∷ []))) e
          ∙ ap (λ b. b && passes limits.total (total_of (lines ++ row ∷ []))) f
          ∙ false_from_ne_true _ (λ t. let above = ltb-true _ _ t in omega (arith, above, total, more, few))

-- a test that more numbers pass is failed by fewer lines
test_wider : (b x y : Bool) → (x ≡ true → y ≡ true) → (b && not x) ≡ false → (b && not y) ≡ false
test_wider false x y f h = refl
test_wider true true y f h = ap not (f refl)
test_wider true false y f h = cc

applies_wider : (lines : List Row) (row : Row) → applies limits Total lines row ≡ false → (code : Code) → applies former_limits code lines row ≡ false
    → applies limits code lines row ≡ false
applies_wider lines row total Kind h = h
applies_wider lines row total Fields h = h
applies_wider lines row total Problem h = h
applies_wider lines row total Number h = h
applies_wider lines row total SecondP h = h
applies_wider lines row total BeforeP h = h
applies_wider lines row total Size h = h
applies_wider lines row total Node h = h
applies_wider lines row total LateN h = h
applies_wider lines row total Twice h = h
applies_wider lines row total Supply h =
    test_wider (is_n row && of_min lines) _ _ (up_to_wider former_limits.supply limits.supply (number row 2) (omega arith)) h
applies_wider lines row total Bound h = test_wider (is_a row && of_min lines) _ _ (λ e.
    let parts = and_parts (is_up_to former_limits.bound (number row 3)) (is_up_to former_limits.bound (number row 4)) e in
    and_from _ _ (up_to_wider former_limits.bound limits.bound (number row 3) (omega arith) parts.0)
    (up_to_wider former_limits.bound limits.bound (number row 4) (omega arith) parts.1)) h
applies_wider lines row total Order h = h
applies_wider lines row total Cost h =
    test_wider (is_a row) _ _ (up_to_wider former_limits.cost limits.cost (number row (cost_place lines)) (omega arith)) h
applies_wider lines row total Extra h = h
applies_wider lines row total Side h = h
applies_wider lines row total Total h = total
applies_wider lines row total NoP h = h
applies_wider lines row total Missing h = h

find_none : {X : Type 0} (p q : X → Bool) (xs : List X) → ((x : X) → p x ≡ false → q x ≡ false) → find p xs ≡ None → find q xs ≡ None
find_none p q [] f e = refl
find_none p q (x ∷ xs) f e = go (p x) refl (find_none p q xs f)
  where
    go : (b : Bool) → p x ≡ b → (find p xs ≡ None → find q xs ≡ None) → find q (x ∷ xs) ≡ None
    go true h rest = cc (sym (ap (λ b. cond b (Some x) (find p xs)) h) ∙ e)
    go false h rest = ap (λ b. cond b (Some x) (find q xs)) (f x h) ∙ rest (sym (ap (λ b. cond b (Some x) (find p xs)) h) ∙ e)

line_stays : (lines : List Row) (row : Row) → IsSmall lines → fault_of_line former_limits lines row ≡ None → fault_of_line limits lines row ≡ None
unfolding fault_of_line
line_stays lines row small good =
    find_none (λ code. applies former_limits code lines row) (λ code. applies limits code lines row) table
    (applies_wider lines row (total_small lines row good small)) good

-- ---- lines after lines

lines_stay : (before after : List Row) → IsSmall before → slice_get (faults former_limits before) 0 ≡ None → slice_get (faults limits before) 0 ≡ None
    → slice_get (faults former_limits (before ++ after)) 0 ≡ None → slice_get (faults limits (before ++ after)) 0 ≡ None
lines_stay before [] small former now all = ap (λ rs. slice_get (faults limits rs) 0) (append-nil before) ∙ now
lines_stay before (row ∷ after) small former now all =
    go (fault_of_line former_limits before row) refl (lines_stay (before ++ row ∷ []) after)
  where
    joined : slice_get (faults former_limits ((before ++ row ∷ []) ++ after)) 0 ≡ None
    joined = ap (λ rs. slice_get (faults former_limits rs) 0) (append_assoc before (row ∷ []) after) ∙ all

    go : (o : Option Code) → fault_of_line former_limits before row ≡ o
        → (IsSmall (before ++ row ∷ []) → slice_get (faults former_limits (before ++ row ∷ [])) 0 ≡ None
        → slice_get (faults limits (before ++ row ∷ [])) 0 ≡ None
        → slice_get (faults former_limits ((before ++ row ∷ []) ++ after)) 0 ≡ None → slice_get (faults limits ((before ++ row ∷ []) ++ after)) 0 ≡ None)
        → slice_get (faults limits (before ++ row ∷ after)) 0 ≡ None
    go (Some code) is rest =
        let fault : Fault = record { line = row.number; code = code } in
        let here : slice_get (faults former_limits (before ++ row ∷ [])) 0 ≡ Some fault = first_fault_more former_limits before row
        ∙ ap (λ o. option_or o (as_fault former_limits (before, row))) former ∙ ap (option_map (λ c. record { line = row.number; code = c })) is in
        cc (sym (first_fault_stays former_limits (before ++ row ∷ []) after fault here) ∙ joined)
    go None is rest =
        let stays : fault_of_line limits before row ≡ None = line_stays before row small is in
        let former_here : slice_get (faults former_limits (before ++ row ∷ [])) 0 ≡ None = first_fault_more former_limits before row
        ∙ ap (λ o. option_or o (as_fault former_limits (before, row))) former ∙ ap (option_map (λ c. record { line = row.number; code = c })) is in
        let here : slice_get (faults limits (before ++ row ∷ [])) 0 ≡ None = first_fault_more limits before row
        ∙ ap (λ o. option_or o (as_fault limits (before, row))) now ∙ ap (option_map (λ c. record { line = row.number; code = c })) stays in
        ap (λ rs. slice_get (faults limits rs) 0) (sym (append_assoc before (row ∷ []) after))
        ∙ rest (small_after before row is small) former_here here joined

no_lines_small : IsSmall []
unfolding total_of
no_lines_small = omega arith

no_faults : slice_get (faults former_limits []) 0 ≡ None
unfolding faults
no_faults = refl

no_faults_now : slice_get (faults limits []) 0 ≡ None
unfolding faults
no_faults_now = refl

pub former_instances_stay_lem : FormerInstancesStay
unfolding reading first_fault first_fault_of_lines
former_instances_stay_lem text g e = go (slice_get (faults former_limits (rows text)) 0) (fault_at_end (rows text)) refl refl
  where
    go : (o : Option Fault) (end : Option Code) → slice_get (faults former_limits (rows text)) 0 ≡ o → fault_at_end (rows text) ≡ end
        → reading limits text ≡ Ok g
    go (Some fault) end a b = let bad = rw a at e in cc
    go None (Some _) a b = let bad = rw (a, b) at e in cc
    go None None a b =
        let good = rw (a, b) at e in
        rw (lines_stay [] (rows text) no_lines_small no_faults no_faults_now a, b) good
