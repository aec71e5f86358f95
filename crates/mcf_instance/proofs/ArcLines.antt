-- What the reader of arc lines answers is the table's fault, or the arc.
use Rattle.std.proofs.Common.{◌≡◌, ℕ, ◌+◌, ◌*◌, ◌≤◌, max, Bool, true, false, not, cond, ◌&&◌, ◌||◌, List, [], ◌∷◌, length, refl, sym, ◌∙◌, ap, subst, Some}
use Rattle.std.proofs.Common.{None, arith}
use Rattle.std.specs.Prelude.{Option, ℤ, pos, slice_index_or, ◌==◌, int_lt, nat_le, unsigned_abs}
use Rattle.mcf_flows.specs.declared.code.Code.{Code}
use Rattle.mcf_flows.specs.declared.code.Code.TheVariants.{Node, Bound, Order, Cost, Extra, Side, Total}
use Rattle.mcf_flows.specs.declared.problem.Problem.TheVariants.{Min, Asn}
use Rattle.mcf_instance.specs.declared.reader.line.Header.{Header}
use Rattle.mcf_flows.specs.declared.arc.PackedArc.{PackedArc}
use Rattle.mcf_text.specs.Row.{Row, natural}
use Rattle.mcf_text.specs.Whole.{is_whole, is_within, whole_value}
use Rattle.mcf_flows.specs.declared.arc.Arc.{Arc}
use Rattle.mcf_flows.specs.Blocking.{in_table}
use Rattle.mcf_instance.specs.Fault.{fault_of_line, has_p, header, is_up_to, arc_lines, is_listed, is_counted, passes, total_of}
use Rattle.mcf_flows.specs.Limits.{limits, node_limit}
use Rattle.mcf_instance.specs.Reading.{arc_of}
use Rattle.mcf_instance.specs.Private.LineReader.{clamped, arc_line, arc_tests, number_at}
use Rattle.mcf_instance.specs.ReadOn.{header_seen}
use Rattle.mcf_instance.proofs.NodeLines.{ok_unless, ok_unless_test, header_small}
use Rattle.mcf_instance.proofs.Ranges.{clamped_count, clamped_up_to, is_up_to-clamped, is_within_count-clamped, natural_low, natural_high}
use Rattle.std.proofs.lemmas.Bool.{and_parts, not-false}
use Rattle.mcf_instance.proofs.LineSteps.{unless_fault-amount_fault}
use Rattle.mcf_instance.proofs.Totals.{total-append_counted}

-- an arc, as it is stored
abbrev pub packed : Arc → PackedArc
packed a = record { src = a.src; dst = a.dst; low = a.low; cap = a.cap; cost = a.cost }

-- the faults of an arc line of `min` past its numbers
abbrev min_faults : Header → ℕ → ℕ → ℤ → ℤ → ℤ → ℤ → ℤ → Option Code
min_faults h arcs total u v l c k =
    cond (not (is_within (pos 1) (pos h.nodes) u && (is_within (pos 1) (pos h.nodes) v && true))) (Some Node)
    (cond (not (is_up_to limits.bound l && is_up_to limits.bound c)) (Some Bound)
    (cond (int_lt c l) (Some Order)
    (cond (not (is_up_to limits.cost k)) (Some Cost)
    (cond (nat_le h.arcs arcs) (Some Extra)
    (cond (passes limits.total total) (Some Total) None)))))

abbrev MinReads : Header → ℕ → ℕ → List Bool → ℤ → ℤ → ℤ → ℤ → ℤ → Type 0
MinReads h arcs total listed u v l c k =
    arc_tests limits h arcs total listed (record { src = clamped u; dst = clamped v; low = clamped l; cap = clamped c; cost = clamped k })
    ≡ ok_unless (min_faults h arcs (total + unsigned_abs k * max (unsigned_abs l) (unsigned_abs c)) u v l c k)
    (record { src = natural u; dst = natural v; low = l; cap = c; cost = k })

min_tests_read : (h : Header) (arcs total : ℕ) (listed : List Bool) (u v l c k : ℤ) → h.nodes ≤ node_limit → h.problem ≡ Min
    → MinReads h arcs total listed u v l c k
unfolding arc_tests
min_tests_read h arcs total listed u v l c k small min = go (is_within (pos 1) (pos h.nodes) u) (is_within (pos 1) (pos h.nodes) v) refl refl
  where
    go : (x y : Bool) → is_within (pos 1) (pos h.nodes) u ≡ x → is_within (pos 1) (pos h.nodes) v ≡ y → MinReads h arcs total listed u v l c k
    go false y e f = rw (is_within_count-clamped 1 h.nodes u (omega arith), e) refl
    go true false e f = rw (is_within_count-clamped 1 h.nodes u (omega arith), is_within_count-clamped 1 h.nodes v (omega arith), e, f) refl
    go true true e f =
        rw (
          clamped_count 1 h.nodes u (omega arith) e,
          clamped_count 1 h.nodes v (omega arith) f,
          e,
          f,
          unless_fault-amount_fault,
          is_up_to-clamped limits.bound l (omega arith),
          is_up_to-clamped limits.bound c (omega arith),
          is_up_to-clamped limits.cost k (omega arith),
          min,
        )
        (ok_unless_test (not (is_up_to limits.bound l && is_up_to limits.bound c)) Bound _ _ _ (λ g.
        let both = and_parts (is_up_to limits.bound l) (is_up_to limits.bound c) (not-false _ g) in
        let low : clamped l ≡ l = clamped_up_to limits.bound l (omega arith) both.0 in
        let cap : clamped c ≡ c = clamped_up_to limits.bound c (omega arith) both.1 in
        rw (low, cap)
        (ok_unless_test (int_lt c l) Order _ _ _ (λ _.
        ok_unless_test (not (is_up_to limits.cost k)) Cost _ _ _ (λ i.
        let cost : clamped k ≡ k = clamped_up_to limits.cost k (omega arith) (not-false _ i) in
        rw cost
        (ok_unless_test (nat_le h.arcs arcs) Extra _ _ _ (λ _.
        ok_unless_test (passes limits.total (total + unsigned_abs k * max (unsigned_abs l) (unsigned_abs c))) Total _ _ _ (λ _. refl))))))))

-- the faults of an arc line of `asn` past its numbers
abbrev asn_faults : Header → ℕ → (ℕ → Bool) → ℤ → ℤ → ℤ → Option Code
asn_faults h arcs known u v k =
    cond (not (is_within (pos 1) (pos h.nodes) u && (is_within (pos 1) (pos h.nodes) v && true))) (Some Node)
    (cond (not (is_up_to limits.cost k)) (Some Cost)
    (cond (nat_le h.arcs arcs) (Some Extra)
    (cond (not (known (natural u)) || known (natural v)) (Some Side) None)))

abbrev AsnReads : Header → ℕ → ℕ → List Bool → (ℕ → Bool) → ℤ → ℤ → ℤ → Type 0
AsnReads h arcs total listed known u v k =
    arc_tests limits h arcs total listed (record { src = clamped u; dst = clamped v; low = pos 0; cap = pos 1; cost = clamped k })
    ≡ ok_unless (asn_faults h arcs known u v k) (record { src = natural u; dst = natural v; low = pos 0; cap = pos 1; cost = k })

asn_tests_read : (h : Header) (arcs total : ℕ) (listed : List Bool) (known : ℕ → Bool) (u v k : ℤ) → h.nodes ≤ node_limit → h.problem ≡ Asn
    → ((v : ℕ) → 1 ≤ v → v ≤ h.nodes → in_table listed v ≡ known v) → AsnReads h arcs total listed known u v k
unfolding arc_tests
asn_tests_read h arcs total listed known u v k small asn flags = go (is_within (pos 1) (pos h.nodes) u) (is_within (pos 1) (pos h.nodes) v) refl refl
  where
    go : (x y : Bool) → is_within (pos 1) (pos h.nodes) u ≡ x → is_within (pos 1) (pos h.nodes) v ≡ y → AsnReads h arcs total listed known u v k
    go false y e f = rw (is_within_count-clamped 1 h.nodes u (omega arith), e) refl
    go true false e f = rw (is_within_count-clamped 1 h.nodes u (omega arith), is_within_count-clamped 1 h.nodes v (omega arith), e, f) refl
    go true true e f =
        rw (
          clamped_count 1 h.nodes u (omega arith) e,
          clamped_count 1 h.nodes v (omega arith) f,
          e,
          f,
          unless_fault-amount_fault,
          is_up_to-clamped limits.cost k (omega arith),
          asn,
          flags (natural u) (natural_low h.nodes u e) (natural_high h.nodes u e),
          flags (natural v)
              (natural_low h.nodes v f) (natural_high h.nodes v f),
        )
        (ok_unless_test (not (is_up_to limits.cost k)) Cost _ _ _ (λ i.
        let cost : clamped k ≡ k = clamped_up_to limits.cost k (omega arith) (not-false _ i) in
        rw cost
        (ok_unless_test (nat_le h.arcs arcs) Extra _ _ _ (λ _.
        ok_unless_test (not (known (natural u)) || known (natural v)) Side _ _ _ (λ _. refl)))))

-- ---- whole lines

six : {X : Type 0} (xs : List X) → (length xs == 6) ≡ true → (a b c d e f : X) × (xs ≡ a ∷ b ∷ c ∷ d ∷ e ∷ f ∷ [])
six [] h = cc
six (a ∷ []) h = cc
six (a ∷ b ∷ []) h = cc
six (a ∷ b ∷ c ∷ []) h = cc
six (a ∷ b ∷ c ∷ d ∷ []) h = cc
six (a ∷ b ∷ c ∷ d ∷ e ∷ []) h = cc
six (a ∷ b ∷ c ∷ d ∷ e ∷ f ∷ []) h = (a, b, c, d, e, f, refl)
six (a ∷ b ∷ c ∷ d ∷ e ∷ f ∷ g ∷ xs) h = absurd (grind arith)

pub four : {X : Type 0} (xs : List X) → (length xs == 4) ≡ true → (a b c d : X) × (xs ≡ a ∷ b ∷ c ∷ d ∷ [])
four [] h = cc
four (a ∷ []) h = cc
four (a ∷ b ∷ []) h = cc
four (a ∷ b ∷ c ∷ []) h = cc
four (a ∷ b ∷ c ∷ d ∷ []) h = (a, b, c, d, refl)
four (a ∷ b ∷ c ∷ d ∷ e ∷ xs) h = absurd (grind arith)

-- a line with these fields is read as the table says
abbrev pub ReadsArc : (lines : List Row) (o : Option Header) (n total : ℕ) (listed : List Bool) → (Row → PackedArc) → List (List ℕ) → Type 0
ReadsArc lines o n total listed said fields =
    arc_line limits o (length (arc_lines lines)) total listed fields
    ≡ ok_unless (fault_of_line limits lines (record { number = n; fields = fields })) (said (record { number = n; fields = fields }))

pub arc_line_reads : (lines : List Row) (n : ℕ) (fields : List (List ℕ)) (listed : List Bool) → has_p lines ≡ true → slice_index_or fields 0 [] ≡ 97 ∷ []
    → (header lines).problem ≡ Min → ReadsArc lines (header_seen lines) n (total_of lines) listed (λ row. packed (arc_of Min row)) fields
unfolding arc_line arc_tests fault_of_line number_at
arc_line_reads lines n fields listed seen kind min = go (length fields == 6) refl
  where
    numbers : (a b c d e : List ℕ) (v w x y z : Bool) → is_whole a ≡ v → is_whole b ≡ w → is_whole c ≡ x → is_whole d ≡ y → is_whole e ≡ z
        → ReadsArc lines (header_seen lines) n (total_of lines) listed (λ row. packed (arc_of Min row)) ((97 ∷ []) ∷ a ∷ b ∷ c ∷ d ∷ e ∷ [])
    numbers a b c d e false w x y z f g h i j = rw (seen, min, f) refl
    numbers a b c d e true false x y z f g h i j = rw (seen, min, f, g) refl
    numbers a b c d e true true false y z f g h i j = rw (seen, min, f, g, h) refl
    numbers a b c d e true true true false z f g h i j = rw (seen, min, f, g, h, i) refl
    numbers a b c d e true true true true false f g h i j = rw (seen, min, f, g, h, i, j) refl
    numbers a b c d e true true true true true f g h i j =
        let row : Row = record { number = n; fields = (97 ∷ []) ∷ a ∷ b ∷ c ∷ d ∷ e ∷ [] } in
        let counted : is_counted lines row ≡ true = rw (seen, min, f, g, h, i, j) refl in
        rw (total-append_counted lines row counted, seen, min, f, g, h, i, j)
        (min_tests_read (record { problem = Min; nodes = (header lines).nodes; arcs = (header lines).arcs }) (length (arc_lines lines)) (total_of lines)
        listed (whole_value a) (whole_value b) (whole_value c) (whole_value d) (whole_value e) (header_small lines) refl)

    go : (b : Bool) → (length fields == 6) ≡ b → ReadsArc lines (header_seen lines) n (total_of lines) listed (λ row. packed (arc_of Min row)) fields
    go false e = rw (seen, kind, min, e) refl
    go true e =
        let t = six fields e in
        let first : t.0 ≡ 97 ∷ [] = sym (ap (λ fs. slice_index_or fs 0 []) t.6) ∙ kind in
        subst (ReadsArc lines (header_seen lines) n (total_of lines) listed (λ row. packed (arc_of Min row))) (sym t.6)
        (subst (λ a. ReadsArc lines (header_seen lines) n (total_of lines) listed (λ row. packed (arc_of Min row)) (a ∷ t.1 ∷ t.2 ∷ t.3 ∷ t.4 ∷ t.5 ∷ []))
        (sym first)
        (numbers t.1 t.2 t.3 t.4 t.5 (is_whole t.1) (is_whole t.2) (is_whole t.3) (is_whole t.4) (is_whole t.5) refl refl refl refl refl))

pub arc_pair_reads : (lines : List Row) (n total : ℕ) (fields : List (List ℕ)) (listed : List Bool) → has_p lines ≡ true → slice_index_or fields 0 [] ≡ 97 ∷ []
    → ((v : ℕ) → 1 ≤ v → v ≤ (header lines).nodes → in_table listed v ≡ is_listed lines v)
    → (header lines).problem ≡ Asn → ReadsArc lines (header_seen lines) n total listed (λ row. packed (arc_of Asn row)) fields
unfolding arc_line arc_tests fault_of_line number_at
arc_pair_reads lines n total fields listed seen kind flags asn = go (length fields == 4) refl
  where
    numbers : (a b c : List ℕ) (v w x : Bool) → is_whole a ≡ v → is_whole b ≡ w → is_whole c ≡ x
        → ReadsArc lines (header_seen lines) n total listed (λ row. packed (arc_of Asn row)) ((97 ∷ []) ∷ a ∷ b ∷ c ∷ [])
    numbers a b c false w x f g h = rw (seen, asn, f) refl
    numbers a b c true false x f g h = rw (seen, asn, f, g) refl
    numbers a b c true true false f g h = rw (seen, asn, f, g, h) refl
    numbers a b c true true true f g h = rw (seen, asn, f, g, h)
        (asn_tests_read (record { problem = Asn; nodes = (header lines).nodes; arcs = (header lines).arcs }) (length (arc_lines lines)) total listed
        (is_listed lines) (whole_value a) (whole_value b) (whole_value c) (header_small lines) refl flags)

    go : (b : Bool) → (length fields == 4) ≡ b → ReadsArc lines (header_seen lines) n total listed (λ row. packed (arc_of Asn row)) fields
    go false e = rw (seen, kind, asn, e) refl
    go true e =
        let t = four fields e in
        let first : t.0 ≡ 97 ∷ [] = sym (ap (λ fs. slice_index_or fs 0 []) t.4) ∙ kind in
        subst (ReadsArc lines (header_seen lines) n total listed (λ row. packed (arc_of Asn row))) (sym t.4)
        (subst (λ a. ReadsArc lines (header_seen lines) n total listed (λ row. packed (arc_of Asn row)) (a ∷ t.1 ∷ t.2 ∷ t.3 ∷ [])) (sym first)
        (numbers t.1 t.2 t.3 (is_whole t.1) (is_whole t.2) (is_whole t.3) refl refl refl))

pub arc_line_early : (lines : List Row) (n total : ℕ) (fields : List (List ℕ)) (listed : List Bool) (said : Row → PackedArc) → has_p lines ≡ false
    → slice_index_or fields 0 [] ≡ 97 ∷ []
    → ReadsArc lines None n total listed said fields
unfolding arc_line fault_of_line number_at
arc_line_early lines n total fields listed said seen kind = go (length fields == 6) (length fields == 4) refl refl
  where
    numbers_six : (a b c d e : List ℕ) (v w x y z : Bool) → is_whole a ≡ v → is_whole b ≡ w → is_whole c ≡ x → is_whole d ≡ y → is_whole e ≡ z
        → ReadsArc lines None n total listed said ((97 ∷ []) ∷ a ∷ b ∷ c ∷ d ∷ e ∷ [])
    numbers_six a b c d e false w x y z f g h i j = rw (seen, f) refl
    numbers_six a b c d e true false x y z f g h i j = rw (seen, f, g) refl
    numbers_six a b c d e true true false y z f g h i j = rw (seen, f, g, h) refl
    numbers_six a b c d e true true true false z f g h i j = rw (seen, f, g, h, i) refl
    numbers_six a b c d e true true true true false f g h i j = rw (seen, f, g, h, i, j) refl
    numbers_six a b c d e true true true true true f g h i j = rw (seen, f, g, h, i, j) refl

    numbers_four : (a b c : List ℕ) (v w x : Bool) → is_whole a ≡ v → is_whole b ≡ w → is_whole c ≡ x
        → ReadsArc lines None n total listed said ((97 ∷ []) ∷ a ∷ b ∷ c ∷ [])
    numbers_four a b c false w x f g h = rw (seen, f) refl
    numbers_four a b c true false x f g h = rw (seen, f, g) refl
    numbers_four a b c true true false f g h = rw (seen, f, g, h) refl
    numbers_four a b c true true true f g h = rw (seen, f, g, h) refl

    go : (b c : Bool) → (length fields == 6) ≡ b → (length fields == 4) ≡ c → ReadsArc lines None n total listed said fields
    go false false e f = rw (seen, kind, e, f) refl
    go true c e f =
        let t = six fields e in
        let first : t.0 ≡ 97 ∷ [] = sym (ap (λ fs. slice_index_or fs 0 []) t.6) ∙ kind in
        subst (ReadsArc lines None n total listed said) (sym t.6)
        (subst (λ a. ReadsArc lines None n total listed said (a ∷ t.1 ∷ t.2 ∷ t.3 ∷ t.4 ∷ t.5 ∷ [])) (sym first)
        (numbers_six t.1 t.2 t.3 t.4 t.5 (is_whole t.1) (is_whole t.2) (is_whole t.3) (is_whole t.4) (is_whole t.5) refl refl refl refl refl))
    go false true e f =
        let t = four fields f in
        let first : t.0 ≡ 97 ∷ [] = sym (ap (λ fs. slice_index_or fs 0 []) t.4) ∙ kind in
        subst (ReadsArc lines None n total listed said) (sym t.4)
        (subst (λ a. ReadsArc lines None n total listed said (a ∷ t.1 ∷ t.2 ∷ t.3 ∷ [])) (sym first)
        (numbers_four t.1 t.2 t.3 (is_whole t.1) (is_whole t.2) (is_whole t.3) refl refl refl))
