-- What the line readers answer is the table's fault.
use Rattle.std.proofs.Common.{◌≡◌, ℕ, Bool, true, false, not, cond, ◌&&◌, List, [], ◌∷◌, length, refl, sym, ◌∙◌, ap, subst, Some, None, Ok, Err, arith}
use Rattle.std.specs.Prelude.{Option, Result, ℤ, pos, bytes_eq, codes, slice_index_or, ◌==◌}
use Rattle.std.proofs.lemmas.Slice.Eq.{bytes_eq-Decides}
use Rattle.mcf_flows.specs.declared.code.Code.{Code}
use Rattle.mcf_flows.specs.declared.code.Code.TheVariants.{Size}
use Rattle.mcf_flows.specs.declared.problem.Problem.TheVariants.{Min, Asn}
use Rattle.mcf_instance.specs.declared.reader.line.Header.{Header}
use Rattle.mcf_text.specs.Row.{Row, natural}
use Rattle.mcf_text.specs.Whole.{is_whole, is_within, whole_value}
use Rattle.mcf_instance.specs.Fault.{fault_of_line, has_p, header_of}
use Rattle.mcf_flows.specs.Limits.{limits, node_limit, arc_limit}
use Rattle.mcf_flows.specs.declared.problem.Problem.{Problem as Format}
use Rattle.mcf_instance.proofs.NodeLines.{ok_unless}
use Rattle.mcf_instance.proofs.ArcLines.{four}
use Rattle.mcf_instance.proofs.Ranges.{clamped_count, is_within_count-clamped}
use Rattle.std.proofs.lemmas.Bool.{and_parts}
use Rattle.mcf_instance.specs.Private.LineReader.{clamped, problem_line, number_at, problem_at}

-- the fault that a reader answers
abbrev pub fault_of : {X : Type 0} → Result X Code → Option Code
fault_of (Ok x) = None
fault_of (Err e) = Some e

-- a problem line with these fields is read as the table says
abbrev pub ReadsProblem : (lines : List Row) (n : ℕ) → List (List ℕ) → Type 0
ReadsProblem lines n fields = problem_line (has_p lines) fields ≡ ok_unless (fault_of_line limits lines (record { number = n; fields = fields }))
    (header_of (record { number = n; fields = fields }))

-- past all tests but that of the sizes
sizes : (format : Format) (u v : ℤ) (b : Bool) → (is_within (pos 0) (pos node_limit) u && is_within (pos 0) (pos arc_limit) v) ≡ b
    → cond {A = Result Header Code} (not (is_within (pos 0) (pos node_limit) (clamped u) && is_within (pos 0) (pos arc_limit) (clamped v))) (Err Size)
    (Ok (record { problem = format; nodes = natural (clamped u); arcs = natural (clamped v) }))
    ≡ ok_unless (cond (not (is_within (pos 0) (pos node_limit) u && is_within (pos 0) (pos arc_limit) v)) (Some Size) None)
    (cond (is_within (pos 0) (pos node_limit) u && is_within (pos 0) (pos arc_limit) v)
    (record { problem = format; nodes = natural u; arcs = natural v }) (record { problem = Min; nodes = 0; arcs = 0 }))
sizes format u v false e = rw (is_within_count-clamped 0 node_limit u (omega arith), is_within_count-clamped 0 arc_limit v (omega arith), e) refl
sizes format u v true e =
    let both = and_parts (is_within (pos 0) (pos node_limit) u) (is_within (pos 0) (pos arc_limit) v) e in
    let nodes : clamped u ≡ u = clamped_count 0 node_limit u (omega arith) both.0 in
    let arcs : clamped v ≡ v = clamped_count 0 arc_limit v (omega arith) both.1 in
    rw (nodes, arcs, e) refl

both_formats : (b : List ℕ) → bytes_eq b (codes "min") ≡ true → bytes_eq b (codes "asn") ≡ false
both_formats b e = rw ((bytes_eq-Decides b (codes "min")).0 e) refl

problem_four : (lines : List Row) (n : ℕ) (b c d : List ℕ) → ReadsProblem lines n ((112 ∷ []) ∷ b ∷ c ∷ d ∷ [])
unfolding fault_of_line problem_line number_at problem_at
problem_four lines n b c d = go (bytes_eq b (codes "min")) (bytes_eq b (codes "asn")) (is_whole c) (is_whole d) (has_p lines) refl refl refl refl refl
  where
    go : (m s : Bool) (x y : Bool) (p : Bool) → bytes_eq b (codes "min") ≡ m → bytes_eq b (codes "asn") ≡ s → is_whole c ≡ x → is_whole d ≡ y → has_p lines ≡ p
        → ReadsProblem lines n ((112 ∷ []) ∷ b ∷ c ∷ d ∷ [])
    go false false x y p e1 e2 e3 e4 e5 = rw (e1, e2) refl
    go true s false y p e1 e2 e3 e4 e5 = rw (e1, e3) refl
    go true s true false p e1 e2 e3 e4 e5 = rw (e1, e3, e4) refl
    go true s true true true e1 e2 e3 e4 e5 = rw (e1, e3, e4, e5) refl
    go true s true true false e1 e2 e3 e4 e5 = rw (e1, both_formats b e1, e3, e4, e5) (sizes Min (whole_value c) (whole_value d) _ refl)
    go false true false y p e1 e2 e3 e4 e5 = rw (e1, e2, e3) refl
    go false true true false p e1 e2 e3 e4 e5 = rw (e1, e2, e3, e4) refl
    go false true true true true e1 e2 e3 e4 e5 = rw (e1, e2, e3, e4, e5) refl
    go false true true true false e1 e2 e3 e4 e5 = rw (e1, e2, e3, e4, e5) (sizes Asn (whole_value c) (whole_value d) _ refl)

pub problem_line_reads : (lines : List Row) (n : ℕ) (fields : List (List ℕ)) → slice_index_or fields 0 [] ≡ 112 ∷ [] → ReadsProblem lines n fields
unfolding fault_of_line problem_line number_at problem_at
problem_line_reads lines n fields kind = go (length fields == 4) refl
  where
    go : (b : Bool) → (length fields == 4) ≡ b → ReadsProblem lines n fields
    go false e = rw (kind, e) refl
    go true e =
        let t = four fields e in
        let first : t.0 ≡ 112 ∷ [] = sym (ap (λ fs. slice_index_or fs 0 []) t.4) ∙ kind in
        subst (ReadsProblem lines n) (sym t.4) (subst (λ a. ReadsProblem lines n (a ∷ t.1 ∷ t.2 ∷ t.3 ∷ [])) (sym first) (problem_four lines n t.1 t.2 t.3))
