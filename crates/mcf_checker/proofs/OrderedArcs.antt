-- The arcs of what a text stands for have their bounds in order.
use Rattle.std.proofs.Common.{◌≡◌, ℕ, Bool, true, false, not, ◌&&◌, ◌||◌, cond, refl, sym, ap, subst, ◌∙◌, arith, List, [], ◌∷◌}
use Rattle.std.proofs.Common.{◌++◌, map, Option, Some, None, ℤ, ◌≤ℤ◌}
use Rattle.std.specs.List.{All, filter, find, list_any, slice_get}
use Rattle.std.specs.Option.{option_map, option_map_or, option_or}
use Rattle.std.specs.Prelude.{Ok, int_lt}
use Rattle.std.proofs.lemmas.Bool.{false≢true, not-false}
use Rattle.std.proofs.lemmas.Int.{ints}
use Rattle.std.proofs.lemmas.List.{append_assoc}
use Rattle.std.proofs.lemmas.List.Elements.{All-cons}
use Rattle.std.proofs.lemmas.List.Folds.{find-append}
use Rattle.std.proofs.lemmas.Option.{none-some}
use Rattle.mcf_flows.specs.declared.arc.Arc.{Arc}
use Rattle.mcf_flows.specs.declared.code.Code.{Code}
use Rattle.mcf_flows.specs.declared.code.Code.TheVariants.{BeforeP, Order}
use Rattle.mcf_flows.specs.declared.problem.Problem.{Problem}
use Rattle.mcf_flows.specs.declared.problem.Problem.TheVariants.{Min, Asn}
use Rattle.mcf_instance.specs.Fault.{as_fault, fault_at_end, fault_of_line, faults, first_fault, first_fault_of_lines, has_p, header}
use Rattle.mcf_flows.specs.Codes.{Fault}
use Rattle.mcf_instance.specs.Fault.{header_of, is_a, is_min}
use Rattle.mcf_instance.specs.Fault.{is_p, no_header, of_min}
use Rattle.mcf_flows.specs.Limits.{limits}
use Rattle.mcf_flows.specs.Network.{Network}
use Rattle.mcf_instance.specs.Reading.{arc_of, instance_of_lines, reading, reading_of}
use Rattle.mcf_instance.proofs.After.{applies_not}
use Rattle.mcf_instance.proofs.Simulation.{first_fault_more}
use Rattle.mcf_instance.proofs.WholeTexts.{first_fault_stays}
use Rattle.mcf_text.specs.Row.{Row, field, line_after, number, rows}
use Rattle.std.specs.Prelude.{codes}
use Rattle.std.proofs.lemmas.Slice.Eq.{bytes_eq-Decides}

abbrev pub HasOrder : Arc → Type 0
HasOrder a = a.low ≤ℤ a.cap

-- ---- lines without fault

faultless_part : (xs ys : List Row) → slice_get (faults limits (xs ++ ys)) 0 ≡ None → slice_get (faults limits xs) 0 ≡ None
faultless_part xs ys e = go (slice_get (faults limits xs) 0) refl
  where
    go : (o : Option Fault) → slice_get (faults limits xs) 0 ≡ o → o ≡ None
    go None is = refl
    go (Some f) is = absurd (none-some f (sym e ∙ first_fault_stays limits xs ys f is))

no_code : (o : Option Code) (f : Code → Fault) → option_map f o ≡ None → o ≡ None
no_code None f e = refl
no_code (Some x) f e = absurd (none-some (f x) (sym e))

line_good : (xs : List Row) (row : Row) → slice_get (faults limits (xs ++ row ∷ [])) 0 ≡ None → fault_of_line limits xs row ≡ None
line_good xs row e =
    let before = faultless_part xs (row ∷ []) e in
    let here : option_or (slice_get (faults limits xs) 0) (as_fault limits (xs, row)) ≡ None = sym (first_fault_more limits xs row) ∙ e in
    let fault : as_fault limits (xs, row) ≡ None = sym (ap (λ (o : Option Fault). option_or o (as_fault limits (xs, row))) before) ∙ here in
    no_code (fault_of_line limits xs row) (λ code. record { line = row.number; code = code }) fault

-- ---- the problem of the lines

found_step : (b : Bool) (x : Row) (rest o : Option Row) → (b ≡ false → option_or rest o ≡ rest) → option_or (cond b (Some x) rest) o ≡ cond b (Some x) rest
found_step true x rest o h = refl
found_step false x rest o h = h refl

found_first : (xs : List Row) (o : Option Row) → has_p xs ≡ true → option_or (find is_p xs) o ≡ find is_p xs
found_first [] o e = absurd (false≢true e)
found_first (x ∷ xs) o e =
    found_step (is_p x) x (find is_p xs) o (λ is. found_first xs o (sym (ap (λ b. b || list_any is_p xs) is) ∙ e))

header_stays : (xs ys : List Row) → has_p xs ≡ true → header (xs ++ ys) ≡ header xs
header_stays xs ys e =
    ap (λ (o : Option Row). option_map_or header_of o no_header) (find-append is_p xs ys ∙ found_first xs (find is_p ys) e)

a_not_p : (row : Row) → is_a row ≡ true → is_p row ≡ false
a_not_p row e = rw ((bytes_eq-Decides (field row 0) (codes "a")).0 e) refl

has_header : (lines : List Row) (row : Row) → fault_of_line limits lines row ≡ None → is_p row ≡ false → has_p lines ≡ true
has_header lines row good p =
    let early : (not (is_p row) && not (has_p lines)) ≡ false = applies_not limits lines row 5 BeforeP _ refl good in
    not-false (has_p lines) (sym (ap (λ b. not b && not (has_p lines)) p) ∙ early)

-- ---- the arcs

not_below : (x y : ℤ) → int_lt x y ≡ false → y ≤ℤ x
not_below x y e = grind (arith, ints)

line_ordered : (q : Problem) (xs : List Row) (row : Row) → q ≡ (header xs).problem → fault_of_line limits xs row ≡ None → is_a row ≡ true
    → HasOrder (arc_of q row)
line_ordered Min xs row same good a =
    let test : (is_a row && of_min xs && int_lt (number row 4) (number row 3)) ≡ false = applies_not limits xs row 12 Order _ refl good in
    let min : of_min xs ≡ true = ap is_min (sym same) in
    not_below (number row 4) (number row 3)
    (sym (ap (λ b. b && of_min xs && int_lt (number row 4) (number row 3)) a ∙ ap (λ b. b && int_lt (number row 4) (number row 3)) min) ∙ test)
line_ordered Asn xs row same good a = omega (arith, ints)

ordered_more : (b : Bool) (q : Problem) (row : Row) (lines : List Row) → (b ≡ true → HasOrder (arc_of q row)) → All HasOrder (map (arc_of q) lines)
    → All HasOrder (map (arc_of q) (cond b (row ∷ lines) lines))
ordered_more true q row lines here later = All-cons HasOrder (arc_of q row) (map (arc_of q) lines) (here refl) later
ordered_more false q row lines here later = later

all_ordered : (before rest : List Row) (q : Problem) → q ≡ (header (before ++ rest)).problem → slice_get (faults limits (before ++ rest)) 0 ≡ None
    → All HasOrder (map (arc_of q) (filter is_a rest))
all_ordered before [] q same good = λ k d h. absurd (omega arith)
all_ordered before (row ∷ rest) q same good =
    let joined : (before ++ row ∷ []) ++ rest ≡ before ++ row ∷ rest = append_assoc before (row ∷ []) rest in
    let faultless = ap (λ (ls : List Row). slice_get (faults limits ls) 0) joined ∙ good in
    let line = line_good before row (faultless_part (before ++ row ∷ []) rest faultless) in
    let later = all_ordered (before ++ row ∷ []) rest q (same ∙ ap (λ (ls : List Row). (header ls).problem) (sym joined)) faultless in
    ordered_more (is_a row) q row (filter is_a rest)
    (λ a. line_ordered q before row
    (same ∙ ap (λ h. h.problem) (header_stays before (row ∷ rest) (has_header before row line (a_not_p row a)))) line a) later

-- ---- texts

read_instance : (fault : Option Fault) (h g : Network) → reading_of fault h ≡ Ok g → (fault ≡ None) × (h ≡ g)
read_instance None h g e = (refl, cc)
read_instance (Some f) h g e = absurd (cc)

no_first : {X : Type 0} (o p : Option X) → option_or o p ≡ None → o ≡ None
no_first None p e = refl
no_first (Some x) p e = absurd (none-some x (sym e))

pub read_ordered : (input : List ℕ) (g : Network) → reading limits input ≡ Ok g → All HasOrder g.arcs
unfolding reading first_fault first_fault_of_lines instance_of_lines
read_ordered input g e =
    let parts = read_instance (first_fault limits input) (instance_of_lines (rows input)) g e in
    let good = no_first (slice_get (faults limits (rows input)) 0) (option_map (λ code. record { line = line_after input; code = code })
    (fault_at_end (rows input))) parts.0 in
    subst (λ (h : Network). All HasOrder h.arcs) parts.1 (all_ordered [] (rows input) (header (rows input)).problem refl good)
