-- The state after the lines so far stands for them.
use Rattle.std.proofs.Common.{◌≡◌, ℕ, Bool, true, false, cond, List, [], ◌∷◌, ◌++◌, length, refl, sym, ◌∙◌, ap, subst, Some, None, Ok, Err}
use Rattle.std.specs.Prelude.{Option, Result, option_map, slice_get, is_some}
use Rattle.std.specs.List.{cons_option}
use Rattle.std.specs.Option.{option_or}
use Rattle.std.proofs.lemmas.List.Elements.{filter_map-append}
use Rattle.mcf_flows.specs.declared.code.Code.{Code}
use Rattle.mcf_text.specs.Row.{Row}
use Rattle.mcf_instance.specs.Fault.{as_fault, fault_at_end, fault_of_line, faults, first_fault_of_lines, has_p, header, arc_lines, total_of}
use Rattle.mcf_flows.specs.Codes.{Fault}
use Rattle.mcf_flows.specs.Limits.{Limits, limits}
use Rattle.mcf_instance.specs.Reading.{instance_of_lines, reading_of}
use Rattle.mcf_instance.specs.ReadOn.{header_seen, Holds, Stands, StateData}
use Rattle.mcf_instance.specs.declared.reader.line.Item.{Item}
use Rattle.mcf_instance.specs.Private.ReaderState.{empty, item_of, with_item, with_outcome, after_row, refusal_after, end_fault, network_of}
use Rattle.mcf_instance.specs.Private.ReaderState.{finished}
use Rattle.mcf_instance.proofs.Faults.{fault_of}
use Rattle.mcf_instance.proofs.NodeLines.{ok_unless}
use Rattle.mcf_instance.proofs.Items.{arcs_of, item_said, item_reads}
use Rattle.mcf_instance.proofs.After.{after_item}
use Rattle.mcf_instance.proofs.Totals.{with_earlier-append_one}

-- ---- one more line

faults-append_one : (allowed : Limits) (lines : List Row) (row : Row)
    → faults allowed (lines ++ row ∷ []) ≡ faults allowed lines ++ cons_option (as_fault allowed (lines, row)) []
unfolding faults
faults-append_one allowed lines row = rw (with_earlier-append_one, filter_map-append) refl

first-append : {X : Type 0} (xs ys : List X) → slice_get (xs ++ ys) 0 ≡ option_or (slice_get xs 0) (slice_get ys 0)
first-append [] ys = refl
first-append (x ∷ xs) ys = refl

first_of_option : {X : Type 0} (o : Option X) → slice_get (cons_option o []) 0 ≡ o
first_of_option None = refl
first_of_option (Some x) = refl

pub first_fault_more : (allowed : Limits) (lines : List Row) (row : Row)
    → slice_get (faults allowed (lines ++ row ∷ [])) 0 ≡ option_or (slice_get (faults allowed lines) 0) (as_fault allowed (lines, row))
first_fault_more allowed lines row =
    ap (λ rs. slice_get rs 0) (faults-append_one allowed lines row)
    ∙ first-append (faults allowed lines) (cons_option (as_fault allowed (lines, row)) [])
    ∙ ap (option_or (slice_get (faults allowed lines) 0)) (first_of_option (as_fault allowed (lines, row)))

-- ---- the two facts about a state without refusal

-- the fault that the state finds is that of the table
pub same_fault : (s : StateData) (lines : List Row) (row : Row) → Holds s lines → fault_of (item_of limits s row.fields) ≡ fault_of_line limits lines row
same_fault s lines row h = ap fault_of (item_reads s lines row h) ∙ go (fault_of_line limits lines row)
  where
    go : (o : Option Code) → fault_of (ok_unless o (item_said lines row)) ≡ o
    go None = refl
    go (Some fault) = refl

-- ---- the end

pub refusal_at_end : (s : StateData) (lines : List Row) (line : ℕ) → Stands limits s lines
    → refusal_after s line ≡ option_or (slice_get (faults limits lines) 0) (option_map (λ code. record { line = line; code = code }) (fault_at_end lines))
unfolding fault_at_end
refusal_at_end s lines line h = go s.refusal refl
  where
    go : (o : Option Fault) → s.refusal ≡ o → refusal_after s line ≡ option_or (slice_get (faults limits lines) 0)
        (option_map (λ code. record { line = line; code = code }) (fault_at_end lines))
    go (Some r) e = rw (sym h.refusal_is, e) refl
    go None e =
        let held = h.holds e in
        rw (sym h.refusal_is, e, held.header_is, arcs_of s lines held) (seen (has_p lines) refl)
      where
        seen : (b : Bool) → has_p lines ≡ b → option_map {U = Fault} (λ code. record { line = line; code = code })
            (end_fault (header_seen lines) (length (arc_lines lines))) ≡ option_map {U = Fault} (λ code. record { line = line; code = code })
            (fault_at_end lines)
        seen true f = rw f refl
        seen false f = rw f refl

held_data : (s : StateData) (lines : List Row) → Holds s lines → has_p lines ≡ true → network_of s ≡ instance_of_lines lines
unfolding instance_of_lines
held_data s lines h seen =
    let some : s.header ≡ Some (header lines) = h.header_is ∙ ap (λ b. cond b (Some (header lines)) None) seen in
    rw (some, h.arcs_are, h.supplies_are) refl

pub finished_reads : (s : StateData) (lines : List Row) (line : ℕ) → Stands limits s lines
    → finished s line ≡ reading_of (first_fault_of_lines limits line lines) (instance_of_lines lines)
unfolding fault_at_end first_fault_of_lines
finished_reads s lines line h = ap (λ o. reading_of o (network_of s)) (refusal_at_end s lines line h)
    ∙ go (slice_get (faults limits lines) 0) (has_p lines) refl refl
  where
    go : (o : Option Fault) (b : Bool) → slice_get (faults limits lines) 0 ≡ o → has_p lines ≡ b
        → reading_of (option_or (slice_get (faults limits lines) 0) (option_map (λ code. record { line = line; code = code }) (fault_at_end lines)))
        (network_of s) ≡ reading_of (first_fault_of_lines limits line lines) (instance_of_lines lines)
    go (Some r) b e f = rw e refl
    go None false e f = rw (e, f) refl
    go None true e f = ap (reading_of (option_or (slice_get (faults limits lines) 0)
        (option_map (λ code. record { line = line; code = code }) (fault_at_end lines)))) (held_data s lines (h.holds (h.refusal_is ∙ e)) f)

-- ---- the step

refusal_at : (lines : List Row) (row : Row) (o : Option Code) → fault_of_line limits lines row ≡ o
    → as_fault limits (lines, row) ≡ option_map (λ code. record { line = row.number; code = code }) o
refusal_at lines row o e = rw e refl

keeps_refusal : (s : StateData) (item : Item) → (with_item s item).refusal ≡ s.refusal
keeps_refusal s item = elim item as (λ i. (with_item s i).refusal ≡ s.refusal) [ Item.Problem h ↦ refl | Item.Supply v z ↦ refl | Item.Link a ↦ refl ]

pub stands_empty : Stands limits empty []
unfolding faults total_of
stands_empty = record {
  refusal_is = refl;
  holds = λ e. record {
    first_is_header = λ _. refl;
    header_is = refl;
    listed_is = refl;
    supplies_are = refl;
    arcs_are = refl;
    total_is = λ _. refl;
  };
}

after_refused : (s : StateData) (row : Row) (refusal : Fault) → s.refusal ≡ Some refusal → after_row limits s row ≡ s
unfolding after_row
after_refused s row refusal e = ap (λ o. cond (is_some o) s (with_outcome s row.number (item_of limits s row.fields))) e

pub after_judged : (s : StateData) (row : Row) (r : Result Item Code) → s.refusal ≡ None → item_of limits s row.fields ≡ r
    → after_row limits s row ≡ with_outcome s row.number r
unfolding after_row
after_judged s row r e f = ap (λ o. cond (is_some o) s (with_outcome s row.number (item_of limits s row.fields))) e ∙ ap (with_outcome s row.number) f

pub stands_after : (s : StateData) (lines : List Row) (row : Row) → Stands limits s lines → Stands limits (after_row limits s row) (lines ++ row ∷ [])
stands_after s lines row h = go s.refusal (item_of limits s row.fields) refl refl
  where
    go : (o : Option Fault) (r : Result Item Code) → s.refusal ≡ o → item_of limits s row.fields ≡ r
        → Stands limits (after_row limits s row) (lines ++ row ∷ [])
    go (Some refusal) r e f =
        let first : slice_get (faults limits lines) 0 ≡ Some refusal = sym h.refusal_is ∙ e in
        subst (λ t. Stands limits t (lines ++ row ∷ [])) (sym (after_refused s row refusal e)) record {
          refusal_is = e ∙ sym (first_fault_more limits lines row ∙ ap (λ o. option_or o (as_fault limits (lines, row))) first);
          holds = λ none. cc;
        }
    go None (Err code) e f =
        let first : slice_get (faults limits lines) 0 ≡ None = sym h.refusal_is ∙ e in
        let fault : fault_of_line limits lines row ≡ Some code = sym (same_fault s lines row (h.holds e)) ∙ ap fault_of f in
        subst (λ t. Stands limits t (lines ++ row ∷ [])) (sym (after_judged s row (Err code) e f)) record {
          refusal_is = sym (first_fault_more limits lines row ∙ ap (λ o. option_or o (as_fault limits (lines, row))) first
              ∙ refusal_at lines row (Some code) fault);
          holds = λ none. cc;
        }
    go None (Ok item) e f =
        let first : slice_get (faults limits lines) 0 ≡ None = sym h.refusal_is ∙ e in
        let fault : fault_of_line limits lines row ≡ None = sym (same_fault s lines row (h.holds e)) ∙ ap fault_of f in
        subst (λ t. Stands limits t (lines ++ row ∷ [])) (sym (after_judged s row (Ok item) e f)) record {
          refusal_is = keeps_refusal s item ∙ e ∙ sym (first_fault_more limits lines row ∙ ap (λ o. option_or o (as_fault limits (lines, row))) first
              ∙ refusal_at lines row None fault);
          holds = λ none. after_item s lines row item (h.holds e) f;
        }
