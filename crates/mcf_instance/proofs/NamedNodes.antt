-- Memory is wanted only where the problem line names nodes.
use Rattle.std.proofs.Common.{◌≡◌, ℕ, ◌+◌, ◌≤◌, ◌<◌, Bool, true, false, cond, List, [], ◌∷◌, ◌++◌, length, refl, sym, ◌∙◌, ap, subst, Some, None, Ok, Err}
use Rattle.std.proofs.Common.{arith, length-append}
use Rattle.std.specs.Prelude.{Option, Result, find, option_map, slice_get}
use Rattle.std.specs.Option.{option_or, option_map_or}
use Rattle.std.proofs.lemmas.Bool.{ltb-true}
use Rattle.std.proofs.lemmas.List.{append_assoc}
use Rattle.std.proofs.lemmas.List.Elements.{All-weaker}
use Rattle.std.proofs.lemmas.List.Folds.{find-append}
use Rattle.std.proofs.lemmas.List.FromFn.{length-enumerate_from}
use Rattle.mcf_flows.specs.declared.code.Code.{Code}
use Rattle.mcf_instance.specs.declared.reader.line.Item.{Item}
use Rattle.mcf_instance.specs.declared.reader.line.Item.TheVariants.{Problem, Supply, Link}
use Rattle.mcf_instance.specs.Fault.{as_fault, fault_of_line, faults, first_fault, has_p, header, header_of, is_p, no_header}
use Rattle.mcf_flows.specs.Limits.{limits}
use Rattle.mcf_instance.specs.Memory.{NamesNodes}
use Rattle.mcf_instance.specs.Private.ReaderSound.{LinkFits, header_nodes}
use Rattle.mcf_instance.specs.ReadOn.{StateData, Holds, Stands, header_seen, kept_rows, HasRead}
use Rattle.mcf_instance.specs.Private.ReaderState.{item_of, outcome_grows}
use Rattle.mcf_text.specs.Fields.{is_kept}
use Rattle.mcf_text.specs.Lines.{lines_of, numbered_lines}
use Rattle.mcf_text.specs.Row.{Row, row_of, rows}
use Rattle.mcf_instance.proofs.After.{after_item}
use Rattle.mcf_instance.proofs.Faults.{fault_of}
use Rattle.mcf_instance.proofs.FirstFaults.{holds_of_found, kept_numbers, numbers_after, numbers_before, text_fault_after}
use Rattle.mcf_instance.proofs.FittingItems.{item_fits}
use Rattle.mcf_instance.proofs.Simulation.{first_fault_more, same_fault}
use Rattle.mcf_instance.proofs.WholeTexts.{kept_one, kept_rows-append, rows_joined}

seen_nodes : (lines : List Row) → 1 ≤ header_nodes (header_seen lines) → 1 ≤ (header lines).nodes
seen_nodes lines h = go (has_p lines) h
  where
    go : (b : Bool) → 1 ≤ header_nodes (cond b (Some (header lines)) None) → 1 ≤ (header lines).nodes
    go true some = some
    go false some = absurd (omega arith)

-- the problem line that names nodes stays the first when lines follow
more_lines : (xs ys : List Row) → 1 ≤ (header xs).nodes → 1 ≤ (header (xs ++ ys)).nodes
more_lines xs ys some = subst (λ o. 1 ≤ (option_map_or header_of o no_header).nodes) (sym (find-append is_p xs ys)) (go (find is_p xs) some)
  where
    go : (o : Option Row) → 1 ≤ (option_map_or header_of o no_header).nodes → 1 ≤ (option_map_or header_of (option_or o (find is_p ys)) no_header).nodes
    go None none = absurd (omega arith)
    go (Some row) here = here

-- the first problem line stays the first, where it names nodes
found_before : (xs ys : List Row) (row : Row) → 1 ≤ (header xs).nodes → find is_p (xs ++ ys) ≡ Some row → find is_p xs ≡ Some row
found_before xs ys row some e = go (find is_p xs) refl some (sym (find-append is_p xs ys) ∙ e)
  where
    go : (o : Option Row) → find is_p xs ≡ o → 1 ≤ (option_map_or header_of o no_header).nodes → option_or o (find is_p ys) ≡ Some row → find is_p xs ≡ Some row
    go None is none k = absurd (omega arith)
    go (Some r) is here k = is ∙ k

-- a line by which the state grows is a problem line that names nodes, or stands after one, as it
-- names nodes of its own
pub step_names_nodes : (s : StateData) (lines : List Row) (row : Row) → Stands limits s lines → s.refusal ≡ None
    → outcome_grows (item_of limits s row.fields) ≡ true
    → (1 ≤ (header (lines ++ row ∷ [])).nodes) × (slice_get (faults limits (lines ++ row ∷ [])) 0 ≡ None)
step_names_nodes s lines row stands none grows = go (item_of limits s row.fields) refl grows
  where
    held : Holds s lines
    held = stands.holds none

    faultless : (item : Item) → item_of limits s row.fields ≡ Ok item → slice_get (faults limits (lines ++ row ∷ [])) 0 ≡ None
    faultless item is =
        let line : fault_of_line limits lines row ≡ None = sym (same_fault s lines row held) ∙ ap fault_of is in
        let before : slice_get (faults limits lines) 0 ≡ None = sym stands.refusal_is ∙ none in
        first_fault_more limits lines row ∙ ap (λ o. option_or o (as_fault limits (lines, row))) before ∙ ap
        (option_map (λ code. record { line = row.number; code = code })) line

    go : (r : Result Item Code) → item_of limits s row.fields ≡ r → outcome_grows r ≡ true → (1 ≤ (header (lines ++ row ∷ [])).nodes)
        × (slice_get (faults limits (lines ++ row ∷ [])) 0 ≡ None)
    go (Err e) is g = cc
    go (Ok (Supply v z)) is g = cc
    go (Ok (Problem h)) is g =
        let after = after_item s lines row (Problem h) held is in
        (seen_nodes (lines ++ row ∷ []) (subst (λ o. 1 ≤ header_nodes o) after.header_is (ltb-true 0 h.nodes g)), faultless (Problem h) is)
    go (Ok (Link a)) is g =
        let after = after_item s lines row (Link a) held is in
        let fits : LinkFits limits s.header s.listed s.arcs s.total a = item_fits s row.fields (Link a) is in
        let some : 1 ≤ header_nodes s.header = omega (arith, fits.ends.src_is_node.0, fits.ends.src_is_node.1) in
        (seen_nodes (lines ++ row ∷ []) (subst (λ o. 1 ≤ header_nodes o) after.header_is some), faultless (Link a) is)

-- the lines up to one by which the state grows have no fault, and their first problem line is that
-- of the text
pub text_names_nodes : (text : List ℕ) (s : StateData) (next : ℕ) (x : ℕ × List ℕ) (rest : List (ℕ × List ℕ)) → HasRead limits text s next (x ∷ rest)
    → ((lines : List Row) → Stands limits s lines → (1 ≤ (header (lines ++ row_of x ∷ [])).nodes)
    × (slice_get (faults limits (lines ++ row_of x ∷ [])) 0 ≡ None))
    → is_kept x.1 ≡ true → NamesNodes limits text
text_names_nodes text s next x rest h wants kept =
    let seen = kept_rows (h.before ++ x ∷ []) in
    let last : kept_rows h.before ++ row_of x ∷ [] ≡ seen = sym (kept_rows-append h.before (x ∷ []) ∙ ap (λ rs. kept_rows h.before ++ rs) (kept_one x kept)) in
    let joined : numbered_lines 1 text ≡ (h.before ++ x ∷ []) ++ rest = h.joined ∙ sym (append_assoc h.before (x ∷ []) rest) in
    let all : rows text ≡ seen ++ kept_rows rest = rows_joined text (h.before ++ x ∷ []) rest joined in
    let some : 1 ≤ (header seen).nodes = subst (λ rs. 1 ≤ (header rs).nodes) last (wants (kept_rows h.before) h.stands).0 in
    let faultless : slice_get (faults limits seen) 0 ≡ None = subst (λ rs. slice_get (faults limits rs) 0 ≡ None) last
    (wants (kept_rows h.before) h.stands).1 in
    let early = kept_numbers (λ n. n < 1 + length (h.before ++ x ∷ [])) (h.before ++ x ∷ [])
    (numbers_before 1 (lines_of text) (h.before ++ x ∷ []) rest joined) in
    let late = kept_numbers (λ n. 1 + length (h.before ++ x ∷ []) ≤ n) rest (numbers_after 1 (lines_of text) (h.before ++ x ∷ []) rest joined) in
    let many = length-enumerate_from 1 (lines_of text) in
    let parts = ap length joined ∙ length-append (h.before ++ x ∷ []) rest in
    record {
      nodes = subst (λ rs. 1 ≤ (header rs).nodes) (sym all) (more_lines seen (kept_rows rest) some);
      before_fault = λ row fault found at.
          let in_seen = found_before seen (kept_rows rest) row some (ap (find is_p) (sym all) ∙ found) in
          let low : row.number < 1 + length (h.before ++ x ∷ []) = holds_of_found (λ (r : Row). r.number < 1 + length (h.before ++ x ∷ [])) is_p seen row early
          in_seen in
          let later = All-weaker (λ (r : Row). 1 + length (h.before ++ x ∷ []) ≤ r.number) (λ (r : Row). length (h.before ++ x ∷ []) < r.number)
          (λ r l. omega (arith, l)) (kept_rows rest) late in
          let high : length (h.before ++ x ∷ []) < fault.line = text_fault_after text (length (h.before ++ x ∷ [])) seen
          (kept_rows rest) fault all faultless later (omega (arith, many, parts)) at in
          omega (arith, low, high);
    }

-- a text without a fault names nodes where its first problem line does
pub names_nodes_without_fault : (text : List ℕ) → first_fault limits text ≡ None → 1 ≤ (header (rows text)).nodes → NamesNodes limits text
names_nodes_without_fault text none some =
    record { nodes = some; before_fault = λ row fault found at. let empty : None ≡ Some fault = sym none ∙ at in cc }
