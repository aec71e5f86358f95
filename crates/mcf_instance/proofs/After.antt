-- The state after a good line.
use Rattle.std.proofs.Common.{◌≡◌, ℕ, zero, suc, Bool, true, false, not, cond, ◌&&◌, ◌||◌, List, [], ◌∷◌, ◌++◌, drop, refl, sym, ◌∙◌, ap, subst, Some, None, Ok}
use Rattle.std.specs.Prelude.{Option, find, codes, ◌≢◌}
use Rattle.std.specs.List.{list_all}
use Rattle.std.proofs.lemmas.Slice.Eq.{bytes_eq-Decides}
use Rattle.mcf_flows.specs.declared.code.Code.{Code}
use Rattle.mcf_flows.specs.declared.code.Code.TheVariants.{Kind, Fields, Number, SecondP, BeforeP, Node, Twice}
use Rattle.mcf_text.specs.Row.{Row, node, number, field}
use Rattle.mcf_instance.specs.Fault.{is_p, is_n, is_a, has_p, header, header_of, is_listed, is_node_number, node_places, fault_of_line, applies}
use Rattle.mcf_flows.specs.Codes.{table}
use Rattle.mcf_instance.specs.Fault.{has_field_count, has_numbers, is_counted, of_min}
use Rattle.mcf_flows.specs.Limits.{Limits, limits}
use Rattle.mcf_instance.specs.Reading.{arc_of}
use Rattle.mcf_instance.specs.ReadOn.{Holds, StateData}
use Rattle.mcf_instance.specs.declared.reader.line.Item.{Item}
use Rattle.mcf_instance.specs.declared.reader.line.Item.TheVariants.{Problem, Supply, Link}
use Rattle.mcf_instance.specs.Private.ReaderState.{item_of, with_item}
use Rattle.mcf_instance.proofs.NodeLines.{ok_unless}
use Rattle.mcf_instance.proofs.Ranges.{natural_low}
use Rattle.std.proofs.lemmas.Bool.{and_from, and_parts, not-false}
use Rattle.mcf_instance.proofs.ArcLines.{packed}
use Rattle.mcf_instance.proofs.Items.{item_said, item_reads}
use Rattle.mcf_instance.proofs.Taken.{holds_problem, holds_supply, holds_link, supply_said}

none_from : {X : Type 0} (p : X → Bool) (xs : List X) (k : ℕ) → find p xs ≡ None → find p (drop k xs) ≡ None
none_from p xs zero e = e
none_from p [] (suc k) e = refl
none_from p (x ∷ xs) (suc k) e = go (p x) refl (none_from p xs k)
  where
    go : (b : Bool) → p x ≡ b → (find p xs ≡ None → find p (drop k xs) ≡ None) → find p (drop k xs) ≡ None
    go true f next = cc (sym (ap (λ b. cond b (Some x) (find p xs)) f) ∙ e)
    go false f next = next (sym (ap (λ b. cond b (Some x) (find p xs)) f) ∙ e)

none_at : {X : Type 0} (p : X → Bool) (x : X) (xs : List X) → find p (x ∷ xs) ≡ None → p x ≡ false
none_at p x xs e = go (p x) refl
  where
    go : (b : Bool) → p x ≡ b → p x ≡ false
    go true f = cc (sym (ap (λ b. cond b (Some x) (find p xs)) f) ∙ e)
    go false f = f

-- a fault of the table doesn't apply to a good line
pub applies_not : (allowed : Limits) (lines : List Row) (row : Row) (k : ℕ) (code : Code) (rest : List Code) → drop k table ≡ code ∷ rest
    → fault_of_line allowed lines row ≡ None → applies allowed code lines row ≡ false
unfolding fault_of_line
applies_not allowed lines row k code rest at none =
    none_at (λ c. applies allowed c lines row) code rest (ap (find (λ c. applies allowed c lines row)) (sym at)
    ∙ none_from (λ c. applies allowed c lines row) table k none)

-- the words of the kinds differ
not_n : (row : Row) → is_p row ≡ true → is_n row ≡ false
not_n row e = rw ((bytes_eq-Decides (field row 0) (codes "p")).0 e) refl

not_a : (row : Row) → is_p row ≡ true → is_a row ≡ false
not_a row e = rw ((bytes_eq-Decides (field row 0) (codes "p")).0 e) refl

n_not_a : (row : Row) → is_n row ≡ true → is_a row ≡ false
n_not_a row e = rw ((bytes_eq-Decides (field row 0) (codes "n")).0 e) refl

-- a header is there exactly after a problem line
no_header : (s : StateData) (lines : List Row) → Holds s lines → has_p lines ≡ false → s.header ≡ None
no_header s lines h e = h.header_is ∙ ap (λ b. cond b (Some (header lines)) None) e

some_header : (s : StateData) (lines : List Row) → Holds s lines → has_p lines ≡ true → s.header ≢ None
some_header s lines h e none = absurd (cc (sym none ∙ (h.header_is ∙ ap (λ b. cond b (Some (header lines)) None) e)))

-- past the kinds of lines
after_problem : (s : StateData) (lines : List Row) (row : Row) → Holds s lines → fault_of_line limits lines row ≡ None → is_p row ≡ true
    → Holds (with_item s (Problem (header_of row))) (lines ++ row ∷ [])
after_problem s lines row h good p =
    let second : (is_p row && has_p lines) ≡ false = applies_not limits lines row 4 SecondP _ refl good in
    let seen : has_p lines ≡ false = sym (ap (λ b. b && has_p lines) p) ∙ second in
    holds_problem s lines row h (no_header s lines h seen) p (not_n row p) (not_a row p)

has_header : (lines : List Row) (row : Row) → fault_of_line limits lines row ≡ None → is_p row ≡ false → has_p lines ≡ true
has_header lines row good p =
    let early : (not (is_p row) && not (has_p lines)) ≡ false = applies_not limits lines row 5 BeforeP _ refl good in
    not-false (has_p lines) (sym (ap (λ b. not b && not (has_p lines)) p) ∙ early)

after_node : (s : StateData) (lines : List Row) (row : Row) → Holds s lines → fault_of_line limits lines row ≡ None → is_p row ≡ false → is_n row ≡ true
    → Holds (with_item s (Supply (node row 1) (supply_said (header lines).problem row))) (lines ++ row ∷ [])
after_node s lines row h good p n =
    let twice : (is_n row && is_listed lines (node row 1)) ≡ false = applies_not limits lines row 9 Twice _ refl good in
    let fresh : is_listed lines (node row 1) ≡ false = sym (ap (λ b. b && is_listed lines (node row 1)) n) ∙ twice in
    let range : (not (is_p row) && not (list_all (λ k. is_node_number lines (number row k)) (node_places row))) ≡ false =
    applies_not limits lines row 7 Node _ refl good in
    let inside : (is_node_number lines (number row 1) && true) ≡ true =
    not-false _ (sym (ap (λ b. not b && not (list_all (λ k. is_node_number lines (number row k)) (node_places row))) p
    ∙ ap (λ b. not (list_all (λ k. is_node_number lines (number row k)) (cond b (1 ∷ []) (1 ∷ 2 ∷ [])))) n) ∙ range) in
    holds_supply s lines row h (some_header s lines h (has_header lines row good p)) p n (n_not_a row n)
    (natural_low _ (number row 1) (and_parts (is_node_number lines (number row 1)) true inside).0) fresh

-- a good arc line of `min` is counted
counted_line : (lines : List Row) (row : Row) → fault_of_line limits lines row ≡ None → is_a row ≡ true → of_min lines ≡ true → has_p lines ≡ true
    → is_counted lines row ≡ true
counted_line lines row good a min seen =
    let fields : has_field_count lines row ≡ true = not-false _ (applies_not limits lines row 1 Fields _ refl good) in
    let numbers : has_numbers row ≡ true = not-false _ (applies_not limits lines row 3 Number _ refl good) in
    and_from _ (has_numbers row)
    (and_from _ (has_field_count lines row) (and_from _ (has_p lines) (and_from (is_a row) (of_min lines) a min) seen) fields) numbers

after_arc : (s : StateData) (lines : List Row) (row : Row) → Holds s lines → fault_of_line limits lines row ≡ None → is_p row ≡ false → is_n row ≡ false
    → Holds (with_item s (Link (packed (arc_of (header lines).problem row)))) (lines ++ row ∷ [])
after_arc s lines row h good p n =
    let kind : not (is_p row || is_n row || is_a row) ≡ false = applies_not limits lines row 0 Kind _ refl good in
    let a : is_a row ≡ true = not-false (is_a row) (sym (ap (λ b. not (b || is_n row || is_a row)) p ∙ ap (λ b. not (b || is_a row)) n) ∙ kind) in
    holds_link s lines row h (some_header s lines h (has_header lines row good p)) p n a
    (λ min. counted_line lines row good a min (has_header lines row good p))

after_said : (s : StateData) (lines : List Row) (row : Row) → Holds s lines → fault_of_line limits lines row ≡ None
    → Holds (with_item s (item_said lines row)) (lines ++ row ∷ [])
after_said s lines row h good = go (is_p row) (is_n row) refl refl
  where
    go : (p n : Bool) → is_p row ≡ p → is_n row ≡ n → Holds (with_item s (item_said lines row)) (lines ++ row ∷ [])
    go true n e f = subst (λ b. Holds (with_item s (cond b (Problem (header_of row))
        (cond (is_n row) (Supply (node row 1) (supply_said (header lines).problem row)) (Link (packed (arc_of (header lines).problem row))))))
        (lines ++ row ∷ [])) (sym e) (after_problem s lines row h good e)
    go false true e f = subst (λ b. Holds (with_item s (cond b (Problem (header_of row))
        (cond (is_n row) (Supply (node row 1) (supply_said (header lines).problem row)) (Link (packed (arc_of (header lines).problem row))))))
        (lines ++ row ∷ [])) (sym e)
        (subst (λ b. Holds (with_item s (cond b (Supply (node row 1) (supply_said (header lines).problem row))
        (Link (packed (arc_of (header lines).problem row))))) (lines ++ row ∷ [])) (sym f) (after_node s lines row h good e f))
    go false false e f = subst (λ b. Holds (with_item s (cond b (Problem (header_of row))
        (cond (is_n row) (Supply (node row 1) (supply_said (header lines).problem row)) (Link (packed (arc_of (header lines).problem row))))))
        (lines ++ row ∷ [])) (sym e)
        (subst (λ b. Holds (with_item s (cond b (Supply (node row 1) (supply_said (header lines).problem row))
        (Link (packed (arc_of (header lines).problem row))))) (lines ++ row ∷ [])) (sym f) (after_arc s lines row h good e f))

-- a good line taken in
pub after_item : (s : StateData) (lines : List Row) (row : Row) (item : Item) → Holds s lines → item_of limits s row.fields ≡ Ok item
    → Holds (with_item s item) (lines ++ row ∷ [])
after_item s lines row item h e = go (fault_of_line limits lines row) refl
  where
    go : (o : Option Code) → fault_of_line limits lines row ≡ o → Holds (with_item s item) (lines ++ row ∷ [])
    go (Some fault) f = cc (sym (item_reads s lines row h ∙ ap (λ o. ok_unless o (item_said lines row)) f) ∙ e)
    go None f =
        let is : ok_unless None (item_said lines row) ≡ Ok item = sym (item_reads s lines row h ∙ ap (λ o. ok_unless o (item_said lines row)) f) ∙ e in
        let same : item_said lines row ≡ item = cc in
        subst (λ i. Holds (with_item s i) (lines ++ row ∷ [])) same (after_said s lines row h f)
