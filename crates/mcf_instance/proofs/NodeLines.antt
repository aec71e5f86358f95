-- What the reader of node lines answers is the table's fault, or the node with its supply.
use Rattle.std.proofs.Common.{◌≡◌, ℕ, ◌≤◌, Bool, true, false, not, cond, ◌&&◌, List, [], ◌∷◌, length, refl, sym, ◌∙◌, ap, subst, Some, None, Ok, Err, arith}
use Rattle.std.proofs.Common.{nat_lt}
use Rattle.std.specs.Prelude.{Option, Result, ℤ, pos, slice_index_or, find, ◌==◌}
use Rattle.mcf_flows.specs.declared.code.Code.{Code}
use Rattle.mcf_flows.specs.declared.code.Code.TheVariants.{Node, LateN, Twice, Supply}
use Rattle.mcf_flows.specs.declared.problem.Problem.TheVariants.{Min, Asn}
use Rattle.mcf_instance.specs.declared.reader.line.Header.{Header}
use Rattle.mcf_text.specs.Row.{Row, node, number, natural}
use Rattle.mcf_text.specs.Whole.{is_whole, is_within, whole_value}
use Rattle.mcf_flows.specs.Blocking.{in_table}
use Rattle.mcf_instance.specs.Fault.{fault_of_line, has_p, header, header_of, no_header, is_good_header, size_fits, is_p, is_up_to, arc_lines, is_listed}
use Rattle.mcf_flows.specs.Limits.{limits, node_limit}
use Rattle.mcf_instance.specs.Private.LineReader.{clamped, node_line, node_tests, number_at}
use Rattle.std.specs.Option.{option_map_or}
use Rattle.mcf_instance.specs.ReadOn.{header_seen}
use Rattle.std.proofs.lemmas.Bool.{and_parts, not-false}
use Rattle.mcf_instance.proofs.Ranges.{clamped_count, clamped_up_to, is_up_to-clamped, is_within_count-clamped, natural_low, natural_high, natural_most}

-- the value, unless there is a fault
abbrev pub ok_unless : {X : Type 0} → Option Code → X → Result X Code
ok_unless None x = Ok x
ok_unless (Some e) x = Err e

pub ok_unless_test : {X : Type 0} (b : Bool) (e : Code) (r : Result X Code) (o : Option Code) (x : X) → (b ≡ false → r ≡ ok_unless o x)
    → cond b (Err e) r ≡ ok_unless (cond b (Some e) o) x
ok_unless_test true e r o x h = refl
ok_unless_test false e r o x h = h refl

pub two : {X : Type 0} (xs : List X) → (length xs == 2) ≡ true → (a b : X) × (xs ≡ a ∷ b ∷ [])
two [] h = cc
two (a ∷ []) h = cc
two (a ∷ b ∷ []) h = (a, b, refl)
two (a ∷ b ∷ c ∷ xs) h = absurd (grind arith)

pub three : {X : Type 0} (xs : List X) → (length xs == 3) ≡ true → (a b c : X) × (xs ≡ a ∷ b ∷ c ∷ [])
three [] h = cc
three (a ∷ []) h = cc
three (a ∷ b ∷ []) h = cc
three (a ∷ b ∷ c ∷ []) h = (a, b, c, refl)
three (a ∷ b ∷ c ∷ d ∷ xs) h = absurd (grind arith)

-- the tests of a node line by a header
pub node_tests_read : (h : Header) (arcs : ℕ) (listed : List Bool) (known : ℕ → Bool) (u w : ℤ) → h.nodes ≤ node_limit
    → ((v : ℕ) → 1 ≤ v → v ≤ h.nodes → in_table listed v ≡ known v)
    → node_tests limits h arcs listed (clamped u) (clamped w)
    ≡ ok_unless (cond (not (is_within (pos 1) (pos h.nodes) u && true)) (Some Node)
    (cond (nat_lt 0 arcs) (Some LateN) (cond (known (natural u)) (Some Twice) (cond (not (is_up_to limits.supply w)) (Some Supply) None)))) (natural u, w)
unfolding node_tests
node_tests_read h arcs listed known u w small flags = go (is_within (pos 1) (pos h.nodes) u) refl
  where
    go : (b : Bool) → is_within (pos 1) (pos h.nodes) u ≡ b
        → node_tests limits h arcs listed (clamped u) (clamped w)
        ≡ ok_unless (cond (not (is_within (pos 1) (pos h.nodes) u && true)) (Some Node)
        (cond (nat_lt 0 arcs) (Some LateN) (cond (known (natural u)) (Some Twice) (cond (not (is_up_to limits.supply w)) (Some Supply) None))))
        (natural u, w)
    go false e = rw (is_within_count-clamped 1 h.nodes u (omega arith), e) refl
    go true e =
        rw (
          clamped_count 1 h.nodes u (omega arith) e,
          e,
          flags (natural u) (natural_low h.nodes u e)
              (natural_high h.nodes u e),
          is_up_to-clamped limits.supply w (omega arith),
        )
        (ok_unless_test (nat_lt 0 arcs) LateN _ _ _ (λ _.
        ok_unless_test (known (natural u)) Twice _ _ _ (λ _.
        ok_unless_test (not (is_up_to limits.supply w)) Supply _ _ _ (λ f.
        ap (λ x. Ok (natural u, x)) (clamped_up_to limits.supply w (omega arith) (not-false _ f))))))

-- a good problem line is of small sizes
good_header_small : (row : Row) (b : Bool) → is_good_header row ≡ b → (header_of row).nodes ≤ node_limit
good_header_small row false e = rw e (omega arith)
good_header_small row true e = rw e (natural_most node_limit (number row 2) (and_parts (is_within (pos 0) (pos node_limit) (number row 2)) _
    (and_parts _ (size_fits row) e).1).0)

found_header_small : (o : Option Row) → (option_map_or header_of o no_header).nodes ≤ node_limit
found_header_small None = omega arith
found_header_small (Some row) = good_header_small row (is_good_header row) refl

pub header_small : (lines : List Row) → (header lines).nodes ≤ node_limit
header_small lines = found_header_small (find is_p lines)

abbrev pub Reads : (lines : List Row) (n : ℕ) (listed : List Bool) → List (List ℕ) → Type 0
Reads lines n listed fields =
    node_line limits (header_seen lines) (length (arc_lines lines)) listed fields
    ≡ ok_unless (fault_of_line limits lines (record { number = n; fields = fields }))
    (node (record { number = n; fields = fields }) 1, number (record { number = n; fields = fields }) 2)

-- a node line of `min`, where a problem line stands before
pub node_line_reads : (lines : List Row) (n : ℕ) (fields : List (List ℕ)) (listed : List Bool) → has_p lines ≡ true → slice_index_or fields 0 [] ≡ 110 ∷ []
    → ((v : ℕ) → 1 ≤ v → v ≤ (header lines).nodes → in_table listed v ≡ is_listed lines v)
    → (header lines).problem ≡ Min
    → Reads lines n listed fields
unfolding node_line fault_of_line node_tests number_at
node_line_reads lines n fields listed seen kind flags min = go (length fields == 3) refl
  where
    numbers : (b c : List ℕ) (x y : Bool) → is_whole b ≡ x → is_whole c ≡ y → Reads lines n listed ((110 ∷ []) ∷ b ∷ c ∷ [])
    numbers b c false y e f = rw (seen, min, e) refl
    numbers b c true false e f = rw (seen, min, e, f) refl
    numbers b c true true e f = rw (seen, min, e, f) (node_tests_read (record { problem = Min; nodes = (header lines).nodes; arcs = (header lines).arcs })
        (length (arc_lines lines)) listed (is_listed lines) (whole_value b) (whole_value c) (header_small lines) flags)

    good : (a b c : List ℕ) → a ≡ 110 ∷ [] → Reads lines n listed (a ∷ b ∷ c ∷ [])
    good a b c e = subst (λ x. Reads lines n listed (x ∷ b ∷ c ∷ [])) (sym e) (numbers b c (is_whole b) (is_whole c) refl refl)

    go : (b : Bool) → (length fields == 3) ≡ b → Reads lines n listed fields
    go false e = rw (seen, kind, min, e) refl
    go true e =
        let t = three fields e in
        subst (Reads lines n listed) (sym t.3) (good t.0 t.1 t.2 (sym (ap (λ fs. slice_index_or fs 0 []) t.3) ∙ kind))

-- one of `asn`
abbrev pub ReadsRow : (lines : List Row) (n : ℕ) (listed : List Bool) → List (List ℕ) → Type 0
ReadsRow lines n listed fields =
    node_line limits (header_seen lines) (length (arc_lines lines)) listed fields
    ≡ ok_unless (fault_of_line limits lines (record { number = n; fields = fields })) (node (record { number = n; fields = fields }) 1, pos 1)

pub node_row_reads : (lines : List Row) (n : ℕ) (fields : List (List ℕ)) (listed : List Bool) → has_p lines ≡ true → slice_index_or fields 0 [] ≡ 110 ∷ []
    → ((v : ℕ) → 1 ≤ v → v ≤ (header lines).nodes → in_table listed v ≡ is_listed lines v)
    → (header lines).problem ≡ Asn
    → ReadsRow lines n listed fields
unfolding node_line fault_of_line node_tests number_at
node_row_reads lines n fields listed seen kind flags asn = go (length fields == 2) refl
  where
    numbers : (b : List ℕ) (x : Bool) → is_whole b ≡ x → ReadsRow lines n listed ((110 ∷ []) ∷ b ∷ [])
    numbers b false e = rw (seen, asn, e) refl
    numbers b true e = rw (seen, asn, e) (node_tests_read (record { problem = Asn; nodes = (header lines).nodes; arcs = (header lines).arcs })
        (length (arc_lines lines)) listed (is_listed lines) (whole_value b) (pos 1) (header_small lines) flags)

    good : (a b : List ℕ) → a ≡ 110 ∷ [] → ReadsRow lines n listed (a ∷ b ∷ [])
    good a b e = subst (λ x. ReadsRow lines n listed (x ∷ b ∷ [])) (sym e) (numbers b (is_whole b) refl)

    go : (b : Bool) → (length fields == 2) ≡ b → ReadsRow lines n listed fields
    go false e = rw (seen, kind, asn, e) refl
    go true e =
        let t = two fields e in
        subst (ReadsRow lines n listed) (sym t.2) (good t.0 t.1 (sym (ap (λ fs. slice_index_or fs 0 []) t.2) ∙ kind))

-- one before any problem line
abbrev pub ReadsEarly : (lines : List Row) (n : ℕ) (listed : List Bool) → ℕ × ℤ → List (List ℕ) → Type 0
ReadsEarly lines n listed x fields = node_line limits None (length (arc_lines lines)) listed fields ≡ ok_unless
    (fault_of_line limits lines (record { number = n; fields = fields })) x

pub node_line_early : (lines : List Row) (n : ℕ) (fields : List (List ℕ)) (listed : List Bool) (x : ℕ × ℤ) → has_p lines ≡ false
    → slice_index_or fields 0 [] ≡ 110 ∷ []
    → node_line limits None (length (arc_lines lines)) listed fields ≡ ok_unless (fault_of_line limits lines (record { number = n; fields = fields })) x
unfolding node_line fault_of_line number_at
node_line_early lines n fields listed x seen kind = go (length fields == 3) (length fields == 2) refl refl
  where
    numbers_three : (b c : List ℕ) (y z : Bool) → is_whole b ≡ y → is_whole c ≡ z → ReadsEarly lines n listed x ((110 ∷ []) ∷ b ∷ c ∷ [])
    numbers_three b c false z e f = rw (seen, e) refl
    numbers_three b c true false e f = rw (seen, e, f) refl
    numbers_three b c true true e f = rw (seen, e, f) refl

    numbers_two : (b : List ℕ) (y : Bool) → is_whole b ≡ y → ReadsEarly lines n listed x ((110 ∷ []) ∷ b ∷ [])
    numbers_two b false e = rw (seen, e) refl
    numbers_two b true e = rw (seen, e) refl

    go : (b c : Bool) → (length fields == 3) ≡ b → (length fields == 2) ≡ c → ReadsEarly lines n listed x fields
    go false false e f = rw (seen, kind, e, f) refl
    go true c e f =
        let t = three fields e in
        let first : t.0 ≡ 110 ∷ [] = sym (ap (λ fs. slice_index_or fs 0 []) t.3) ∙ kind in
        subst (ReadsEarly lines n listed x) (sym t.3) (subst (λ a. ReadsEarly lines n listed x (a ∷ t.1 ∷ t.2 ∷ [])) (sym first)
        (numbers_three t.1 t.2 (is_whole t.1) (is_whole t.2) refl refl))
    go false true e f =
        let t = two fields f in
        let first : t.0 ≡ 110 ∷ [] = sym (ap (λ fs. slice_index_or fs 0 []) t.2) ∙ kind in
        subst (ReadsEarly lines n listed x) (sym t.2) (subst (λ a. ReadsEarly lines n listed x (a ∷ t.1 ∷ [])) (sym first)
        (numbers_two t.1 (is_whole t.1) refl))
