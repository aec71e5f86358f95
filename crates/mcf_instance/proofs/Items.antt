-- What a line says, by the table, is what the state reads.
use Rattle.std.proofs.Common.{◌≡◌, ℕ, ◌-◌, ◌≤◌, Bool, true, false, cond, List, length, refl, sym, ◌∙◌, ap, Some, None, Ok, arith, get_or}
use Rattle.std.specs.Prelude.{Option, codes, is_some}
use Rattle.std.proofs.lemmas.Slice.Eq.{bytes_eq-Decides}
use Rattle.std.proofs.lemmas.List.{length-map}
use Rattle.std.proofs.lemmas.List.FromFn.{get_or-map-range_with_len}
use Rattle.mcf_flows.specs.declared.code.Code.{Code}
use Rattle.mcf_flows.specs.declared.problem.Problem.{Problem as Format}
use Rattle.mcf_flows.specs.declared.problem.Problem.TheVariants.{Min, Asn}
use Rattle.mcf_text.specs.Row.{Row, node, field}
use Rattle.mcf_flows.specs.Blocking.{in_table}
use Rattle.mcf_instance.specs.Fault.{is_p, is_n, is_a, has_p, header, header_of, arc_lines, is_listed, is_min, fault_of_line}
use Rattle.mcf_flows.specs.Limits.{limits}
use Rattle.mcf_flows.specs.Packed.{unpacked}
use Rattle.mcf_instance.specs.Reading.{arc_of}
use Rattle.mcf_instance.specs.ReadOn.{header_seen, Holds, StateData}
use Rattle.mcf_instance.specs.declared.reader.line.Item.{Item}
use Rattle.mcf_instance.specs.declared.reader.line.Item.TheVariants.{Problem, Supply, Link}
use Rattle.mcf_instance.specs.Private.LineReader.{◌>>=◌, node_line, arc_line}
use Rattle.mcf_instance.specs.Private.ReaderState.{item_of}
use Rattle.mcf_instance.proofs.NodeLines.{ok_unless, node_line_reads, node_row_reads, node_line_early}
use Rattle.mcf_instance.proofs.ArcLines.{packed, arc_line_reads, arc_pair_reads, arc_line_early}
use Rattle.mcf_instance.proofs.Faults.{problem_line_reads}
use Rattle.mcf_instance.proofs.Taken.{supply_said}

-- ---- the tables of the state

pub flags_of : (s : StateData) (lines : List Row) → Holds s lines → (v : ℕ) → 1 ≤ v → v ≤ (header lines).nodes → in_table s.listed v ≡ is_listed lines v
flags_of s lines h v low high = ap (λ xs. get_or xs (v - 1) false) h.listed_is ∙ get_or-map-range_with_len (is_listed lines) 1 (header lines).nodes
    (v - 1) v false (omega arith) (omega arith)

-- as many arcs as arc lines
pub arcs_of : (s : StateData) (lines : List Row) → Holds s lines → length s.arcs ≡ length (arc_lines lines)
arcs_of s lines h = sym (length-map s.arcs unpacked) ∙ ap length h.arcs_are ∙ length-map (arc_lines lines) (arc_of (header lines).problem)

seen_of : (s : StateData) (lines : List Row) → Holds s lines → is_some s.header ≡ has_p lines
seen_of s lines h = ap is_some h.header_is ∙ go (has_p lines)
  where
    go : (b : Bool) → is_some (cond b (Some (header lines)) None) ≡ b
    go true = refl
    go false = refl

-- ---- what a good line says

abbrev pub item_said : List Row → Row → Item
item_said lines row = cond (is_p row) (Problem (header_of row)) (cond (is_n row) (Supply (node row 1) (supply_said (header lines).problem row))
    (Link (packed (arc_of (header lines).problem row))))

bind_ok : {A B : Type 0} (o : Option Code) (x : A) (f : A → B) → (ok_unless o x >>= λ y. Ok (f y)) ≡ ok_unless o (f x)
bind_ok None x f = refl
bind_ok (Some e) x f = refl

abbrev ReadsItem : StateData → List Row → Row → Type 0
ReadsItem s lines row = item_of limits s row.fields ≡ ok_unless (fault_of_line limits lines row) (item_said lines row)

problem_item : (s : StateData) (lines : List Row) (row : Row) → Holds s lines → field row 0 ≡ codes "p" → ReadsItem s lines row
unfolding item_of
problem_item s lines row h kind =
    let read = problem_line_reads lines row.number row.fields kind in
    rw (kind, seen_of s lines h, read) (bind_ok (fault_of_line limits lines row) (header_of row) Problem)

node_read : (s : StateData) (lines : List Row) (row : Row) → Holds s lines → field row 0 ≡ codes "n"
    → node_line limits s.header (length s.arcs) s.listed row.fields ≡ ok_unless (fault_of_line limits lines row)
    (node row 1, supply_said (header lines).problem row)
node_read s lines row h kind = rw (h.header_is, arcs_of s lines h) (go (has_p lines) (header lines).problem refl refl)
  where
    go : (b : Bool) (f : Format) → has_p lines ≡ b → (header lines).problem ≡ f → node_line limits (header_seen lines)
        (length (arc_lines lines)) s.listed row.fields ≡ ok_unless (fault_of_line limits lines row) (node row 1, supply_said (header lines).problem row)
    go false f e g = rw e (node_line_early lines row.number row.fields s.listed _ e kind)
    go true Min e g = node_line_reads lines row.number row.fields s.listed e kind (flags_of s lines h) g
        ∙ ap (λ p. ok_unless (fault_of_line limits lines row) (node row 1, supply_said p row)) (sym g)
    go true Asn e g = node_row_reads lines row.number row.fields s.listed e kind (flags_of s lines h) g
        ∙ ap (λ p. ok_unless (fault_of_line limits lines row) (node row 1, supply_said p row)) (sym g)

node_item : (s : StateData) (lines : List Row) (row : Row) → Holds s lines → field row 0 ≡ codes "n" → ReadsItem s lines row
unfolding item_of
node_item s lines row h kind = rw (node_read s lines row h kind, kind) (bind_ok (fault_of_line limits lines row)
    (node row 1, supply_said (header lines).problem row) (λ n. Supply n.0 n.1))

arc_read : (s : StateData) (lines : List Row) (row : Row) → Holds s lines → field row 0 ≡ codes "a"
    → arc_line limits s.header (length s.arcs) s.total s.listed row.fields
    ≡ ok_unless (fault_of_line limits lines row) (packed (arc_of (header lines).problem row))
arc_read s lines row h kind = rw (h.header_is, arcs_of s lines h) (go (has_p lines) (header lines).problem refl refl)
  where
    go : (b : Bool) (f : Format) → has_p lines ≡ b → (header lines).problem ≡ f → arc_line limits (header_seen lines)
        (length (arc_lines lines)) s.total s.listed row.fields ≡ ok_unless (fault_of_line limits lines row) (packed (arc_of (header lines).problem row))
    go false f e g = rw e (arc_line_early lines row.number s.total row.fields s.listed (λ row. packed (arc_of (header lines).problem row)) e kind)
    go true Min e g =
        ap (λ t. arc_line limits (header_seen lines) (length (arc_lines lines)) t s.listed row.fields) (h.total_is (ap is_min g))
        ∙ arc_line_reads lines row.number row.fields s.listed e kind g
        ∙ ap (λ p. ok_unless (fault_of_line limits lines row) (packed (arc_of p row))) (sym g)
    go true Asn e g = arc_pair_reads lines row.number s.total row.fields s.listed e kind (flags_of s lines h) g
        ∙ ap (λ p. ok_unless (fault_of_line limits lines row) (packed (arc_of p row))) (sym g)

arc_item : (s : StateData) (lines : List Row) (row : Row) → Holds s lines → field row 0 ≡ codes "a" → ReadsItem s lines row
unfolding item_of
arc_item s lines row h kind = rw (arc_read s lines row h kind, kind) (bind_ok (fault_of_line limits lines row)
    (packed (arc_of (header lines).problem row)) Link)

pub item_reads : (s : StateData) (lines : List Row) (row : Row) → Holds s lines → ReadsItem s lines row
unfolding item_of fault_of_line
item_reads s lines row h = go (is_p row) (is_n row) (is_a row) refl refl refl
  where
    go : (p n a : Bool) → is_p row ≡ p → is_n row ≡ n → is_a row ≡ a → ReadsItem s lines row
    go true n a e f g = problem_item s lines row h ((bytes_eq-Decides (field row 0) (codes "p")).0 e)
    go false true a e f g = node_item s lines row h ((bytes_eq-Decides (field row 0) (codes "n")).0 f)
    go false false true e f g = arc_item s lines row h ((bytes_eq-Decides (field row 0) (codes "a")).0 g)
    go false false false e f g = rw (e, f, g) refl
