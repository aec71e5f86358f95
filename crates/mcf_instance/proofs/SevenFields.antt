-- Seven fields tell all: what a line says is told by the first seven of its fields.
use Rattle.std.proofs.Common.{◌≡◌, ℕ, ◌<◌, ◌≤◌, Bool, true, false, cond, List, [], ◌∷◌, length, map, take, refl, sym, ◌∙◌, ap, Some, None, arith}
use Rattle.std.specs.Prelude.{Option, slice_index_or, ◌==◌, IsTrue}
use Rattle.std.proofs.lemmas.List.{length-map}
use Rattle.mcf_instance.specs.declared.reader.line.Header.{Header}
use Rattle.mcf_instance.specs.Fault.{is_min}
use Rattle.mcf_flows.specs.Limits.{limits}
use Rattle.mcf_instance.specs.Private.LineReader.{problem_line, node_line, arc_line, node_count_fits, arc_count_fits}
use Rattle.std.specs.Borrow.{Bor}
use Rattle.mcf_instance.specs.ReadOn.{StateData}
use Rattle.mcf_instance.specs.Private.ReaderState.{after_row, item_of}
use Rattle.mcf_text.specs.Fields.{begins_kept, fields_of, is_kept}
use Rattle.mcf_text.proofs.FieldsLemmas.{is_kept-fields_of}

no_count : (n k : ℕ) → 7 ≤ n → k < 7 → (n == k) ≡ false
no_count n k h l = grind arith

node_count_long : (o : Option Header) (n : ℕ) → 7 ≤ n → node_count_fits o n ≡ false
node_count_long None n h = rw (no_count n 3 h (omega arith), no_count n 2 h (omega arith)) refl
node_count_long (Some header) n h = rw (no_count n 3 h (omega arith), no_count n 2 h (omega arith)) (go (is_min header.problem))
  where
    go : (b : Bool) → cond b false false ≡ false
    go true = refl
    go false = refl

arc_count_long : (o : Option Header) (n : ℕ) → 7 ≤ n → arc_count_fits o n ≡ false
arc_count_long None n h = rw (no_count n 6 h (omega arith), no_count n 4 h (omega arith)) refl
arc_count_long (Some header) n h = rw (no_count n 6 h (omega arith), no_count n 4 h (omega arith)) (go (is_min header.problem))
  where
    go : (b : Bool) → cond b false false ≡ false
    go true = refl
    go false = refl

-- lines of seven fields or more that begin alike
item_long : (s : StateData) (fs gs : List (List ℕ)) → slice_index_or fs 0 [] ≡ slice_index_or gs 0 [] → 7 ≤ length fs → 7 ≤ length gs
    → item_of limits s fs ≡ item_of limits s gs
unfolding item_of problem_line node_line arc_line
item_long s fs gs e h l =
    rw (
      e,
      no_count (length fs) 4 h (omega arith),
      no_count (length gs) 4 l (omega arith),
      node_count_long s.header (length fs) h,
      node_count_long s.header
          (length gs) l,
      arc_count_long s.header (length fs) h,
      arc_count_long s.header (length gs) l,
    ) refl

pub item_of-take : (s : StateData) (fields : List (List ℕ)) → item_of limits s (take 7 fields) ≡ item_of limits s fields
item_of-take s [] = refl
item_of-take s (a ∷ []) = refl
item_of-take s (a ∷ b ∷ []) = refl
item_of-take s (a ∷ b ∷ c ∷ []) = refl
item_of-take s (a ∷ b ∷ c ∷ d ∷ []) = refl
item_of-take s (a ∷ b ∷ c ∷ d ∷ e ∷ []) = refl
item_of-take s (a ∷ b ∷ c ∷ d ∷ e ∷ f ∷ []) = refl
item_of-take s (a ∷ b ∷ c ∷ d ∷ e ∷ f ∷ g ∷ fields) =
    item_long s (a ∷ b ∷ c ∷ d ∷ e ∷ f ∷ g ∷ []) (a ∷ b ∷ c ∷ d ∷ e ∷ f ∷ g ∷ fields) refl (omega arith) (omega arith)

pub after_row-take : (s : StateData) (number : ℕ) (first fields : List (List ℕ)) → first ≡ take 7 fields
    → after_row limits s (record { number = number; fields = first }) ≡ after_row limits s (record { number = number; fields = fields })
unfolding after_row
after_row-take s number first fields e = rw (e, item_of-take s fields) refl

-- a kept line has a field
kept_field : (fields : List (List ℕ)) → begins_kept fields ≡ true → 1 ≤ length (take 7 fields)
kept_field [] e = cc
kept_field (f ∷ fields) e = omega arith

pub some_field : (line : List ℕ) (first : List (Bor (List ℕ))) → map (λ f. f.now) first ≡ take 7 (fields_of line) → IsTrue (is_kept line) → 1 ≤ length first
some_field line first e kept =
    let long = kept_field (fields_of line) (sym (is_kept-fields_of line) ∙ kept) in
    let same : length first ≡ length (take 7 (fields_of line)) = sym (length-map first (λ f. f.now)) ∙ ap length e in
    omega arith
