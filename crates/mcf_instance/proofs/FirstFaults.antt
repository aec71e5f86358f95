-- Where the first fault stands: after the lines that have none.
use Rattle.std.proofs.Common.{◌≡◌, ℕ, ◌+◌, ◌≤◌, ◌<◌, Bool, true, false, cond, List, [], ◌∷◌, ◌++◌, length, refl, sym, ◌∙◌, ap, subst, Some, None, arith}
use Rattle.std.specs.Prelude.{Option, find, option_map, slice_get}
use Rattle.std.specs.List.{All, enumerate_from}
use Rattle.std.specs.Option.{option_or}
use Rattle.std.proofs.lemmas.List.{append-nil, append_assoc}
use Rattle.std.proofs.lemmas.List.Elements.{All-cons, All-filter, All-head, All-map, All-nil, All-tail, All-weaker}
use Rattle.mcf_flows.specs.declared.code.Code.{Code}
use Rattle.mcf_instance.specs.Fault.{as_fault, fault_at_end, fault_of_line, faults, first_fault, first_fault_of_lines}
use Rattle.mcf_flows.specs.Codes.{Fault}
use Rattle.mcf_flows.specs.Limits.{limits}
use Rattle.mcf_text.specs.Fields.{is_kept}
use Rattle.mcf_text.specs.Row.{Row, line_after, row_of, rows}
use Rattle.mcf_instance.specs.ReadOn.{kept_rows}
use Rattle.mcf_instance.proofs.Simulation.{first_fault_more}
use Rattle.mcf_instance.proofs.WholeTexts.{first_fault_stays}

-- ---- numbers

numbers_from : {X : Type 0} (m n : ℕ) (xs : List X) → m ≤ n → All (λ p. m ≤ p.0) (enumerate_from n xs)
numbers_from {X} m n [] h = All-nil (λ (p : ℕ × X). m ≤ p.0)
numbers_from {X} m n (x ∷ xs) h = All-cons (λ (p : ℕ × X). m ≤ p.0) (n, x) (enumerate_from (n + 1) xs) h (numbers_from m (n + 1) xs (omega arith))

-- the first of some numbered items have small numbers
pub numbers_before : {X : Type 0} (n : ℕ) (xs : List X) (before after : List (ℕ × X)) → enumerate_from n xs ≡ before ++ after
    → All (λ p. p.0 < n + length before) before
numbers_before {X} n xs [] after e = All-nil (λ (p : ℕ × X). p.0 < n + 0)
numbers_before n [] (b ∷ before) after e = cc
numbers_before {X} n (x ∷ xs) (b ∷ before) after e =
    let tail : enumerate_from (n + 1) xs ≡ before ++ after = cc in
    let pair : ◌≡◌ {A = ℕ × X} (n, x) b = cc in
    let first : n ≡ b.0 = ap (λ p. p.0) pair in
    let others = All-weaker (λ (p : ℕ × X). p.0 < n + 1 + length before) (λ (p : ℕ × X). p.0 < n + length (b ∷ before)) (λ p h. omega (arith, h)) before
    (numbers_before (n + 1) xs before after tail) in
    All-cons (λ (p : ℕ × X). p.0 < n + length (b ∷ before)) b before (omega (arith, first)) others

-- and the others great ones
pub numbers_after : {X : Type 0} (n : ℕ) (xs : List X) (before after : List (ℕ × X)) → enumerate_from n xs ≡ before ++ after
    → All (λ p. n + length before ≤ p.0) after
numbers_after {X} n xs [] after e = subst (All (λ (p : ℕ × X). n + 0 ≤ p.0)) e (numbers_from (n + 0) n xs (omega arith))
numbers_after n [] (b ∷ before) after e = cc
numbers_after {X} n (x ∷ xs) (b ∷ before) after e =
    let tail : enumerate_from (n + 1) xs ≡ before ++ after = cc in
    All-weaker (λ (p : ℕ × X). n + 1 + length before ≤ p.0) (λ (p : ℕ × X). n + length (b ∷ before) ≤ p.0) (λ p h. omega (arith, h)) after
    (numbers_after (n + 1) xs before after tail)

-- what holds of the numbers of some lines holds of those of the kept ones
pub kept_numbers : (P : ℕ → Type 0) (lines : List (ℕ × List ℕ)) → All (λ p. P p.0) lines → All (λ r. P r.number) (kept_rows lines)
kept_numbers P lines h = All-map (λ (r : Row). P r.number) row_of _ (All-filter (λ (p : ℕ × List ℕ). is_kept p.1) (λ (p : ℕ × List ℕ). P p.0) lines h)

-- what is found is one of them
pub holds_of_found : {X : Type 0} (P : X → Type 0) (p : X → Bool) (xs : List X) (x : X) → All P xs → find p xs ≡ Some x → P x
holds_of_found P p [] x h e = cc
holds_of_found {X} P p (y ∷ ys) x h e = go (p y) e (holds_of_found P p ys x (All-tail P y ys h))
  where
    go : (b : Bool) → cond b (Some y) (find p ys) ≡ Some x → (find p ys ≡ Some x → P x) → P x
    go true here later = let same : y ≡ x = cc in subst P same (All-head P y ys h)
    go false there later = later there

-- ---- faults

-- where some lines have no fault the first fault is of a line after them
pub fault_after : (n : ℕ) (xs ys : List Row) (f : Fault) → slice_get (faults limits xs) 0 ≡ None → All (λ r. n < r.number) ys
    → slice_get (faults limits (xs ++ ys)) 0 ≡ Some f → n < f.line
fault_after n xs [] f none h e =
    let empty : None ≡ Some f = sym none ∙ ap (λ rs. slice_get (faults limits rs) 0) (sym (append-nil xs)) ∙ e in cc
fault_after n xs (y ∷ ys) f none h e = go (fault_of_line limits xs y) refl (λ none' e'. fault_after n (xs ++ y ∷ []) ys f none'
    (All-tail (λ (r : Row). n < r.number) y ys h) e')
  where
    joined : slice_get (faults limits ((xs ++ y ∷ []) ++ ys)) 0 ≡ Some f
    joined = ap (λ rs. slice_get (faults limits rs) 0) (append_assoc xs (y ∷ []) ys) ∙ e

    go : (o : Option Code) → fault_of_line limits xs y ≡ o → (slice_get (faults limits (xs ++ y ∷ [])) 0 ≡ None
        → slice_get (faults limits ((xs ++ y ∷ []) ++ ys)) 0 ≡ Some f → n < f.line) → n < f.line
    go (Some code) is later =
        let here : slice_get (faults limits (xs ++ y ∷ [])) 0 ≡ Some (record { line = y.number; code = code }) = first_fault_more limits xs y
        ∙ ap (λ o. option_or o (as_fault limits (xs, y))) none ∙ ap (option_map (λ c. record { line = y.number; code = c })) is in
        let same : ◌≡◌ {A = Option Fault} (Some (record { line = y.number; code = code })) (Some f) =
        sym (first_fault_stays limits (xs ++ y ∷ []) ys (record { line = y.number; code = code }) here) ∙ joined in
        let line : y.number ≡ f.line = line_of _ f same in
        omega (arith, line, All-head (λ (r : Row). n < r.number) y ys h)
      where
        line_of : (a b : Fault) → ◌≡◌ {A = Option Fault} (Some a) (Some b) → a.line ≡ b.line
        line_of a b e = let is : a ≡ b = cc in ap (λ (r : Fault). r.line) is
    go None is later =
        later (first_fault_more limits xs y ∙ ap (λ o. option_or o (as_fault limits (xs, y))) none
        ∙ ap (option_map (λ c. record { line = y.number; code = c })) is) joined

-- the same of a text: its first fault is at a line after them, or after the last
pub text_fault_after : (text : List ℕ) (n : ℕ) (xs ys : List Row) (fault : Fault) → rows text ≡ xs ++ ys → slice_get (faults limits xs) 0 ≡ None
    → All (λ r. n < r.number) ys → n < line_after text → first_fault limits text ≡ Some fault → n < fault.line
unfolding first_fault first_fault_of_lines
text_fault_after text n xs ys fault all none h last e = go (slice_get (faults limits (rows text)) 0) (fault_at_end (rows text)) refl e
  where
    go : (o : Option Fault) (end : Option Code) → slice_get (faults limits (rows text)) 0 ≡ o
        → option_or o (option_map (λ code. record { line = line_after text; code = code }) end) ≡ Some fault → n < fault.line
    go (Some f) end is k =
        let same : f ≡ fault = cc in
        subst (λ (g : Fault). n < g.line) same (fault_after n xs ys f none h (ap (λ rs. slice_get (faults limits rs) 0) (sym all) ∙ is))
    go None (Some code) is k =
        let same : ◌≡◌ {A = Fault} (record { line = line_after text; code = code }) fault = cc in
        subst (λ (g : Fault). n < g.line) same last
    go None None is k = cc
