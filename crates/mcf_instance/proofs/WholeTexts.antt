-- A whole text, read line by line.
use Rattle.std.proofs.Common.{◌≡◌, ℕ, ◌+◌, ◌≤◌, true, false, cond, List, [], ◌∷◌, ◌++◌, map, length, refl, sym, ◌∙◌, ap, subst, Some, Err, arith, length-append}
use Rattle.std.specs.Prelude.{filter, slice_get}
use Rattle.std.specs.List.{enumerate_from}
use Rattle.std.specs.Option.{option_or}
use Rattle.std.proofs.lemmas.List.{append-nil, append_assoc, length_push, map-append}
use Rattle.std.proofs.lemmas.List.FromFn.{length-enumerate_from}
use Rattle.std.proofs.lemmas.List.Elements.{filter-append}
use Rattle.mcf_instance.specs.Fault.{as_fault, faults, first_fault, first_fault_of_lines}
use Rattle.mcf_flows.specs.Codes.{Fault}
use Rattle.mcf_flows.specs.Limits.{Limits, limits}
use Rattle.mcf_instance.specs.Reading.{instance_of_lines, reading, reading_of}
use Rattle.mcf_instance.specs.ReadOn.{StateData, Stands, kept_rows, HasRead}
use Rattle.mcf_instance.specs.Private.ReaderState.{empty, finished}
use Rattle.mcf_text.specs.Fields.{is_kept}
use Rattle.mcf_text.specs.Lines.{lines_of, numbered_lines}
use Rattle.mcf_text.specs.Row.{Row, line_after, row_of, rows}
use Rattle.mcf_text.proofs.LinesLemmas.{length-numbered_lines}
use Rattle.mcf_instance.proofs.Simulation.{finished_reads, first_fault_more, stands_empty}

-- ---- lists

-- the number of an item among numbered ones
number_of_item : {X : Type 0} (n : ℕ) (xs : List X) (before : List (ℕ × X)) (m : ℕ) (x : X) (rest : List (ℕ × X))
    → enumerate_from n xs ≡ before ++ (m, x) ∷ rest → m ≡ n + length before
number_of_item n [] [] m x rest e = cc
number_of_item n [] (b ∷ before) m x rest e = cc
number_of_item {X} n (y ∷ ys) [] m x rest e = let pair : ◌≡◌ {A = ℕ × X} (n, y) (m, x) = cc in let same : n ≡ m = ap (λ p. p.0) pair in omega arith
number_of_item n (y ∷ ys) (b ∷ before) m x rest e =
    let tail : enumerate_from (n + 1) ys ≡ before ++ (m, x) ∷ rest = cc in
    let next = number_of_item (n + 1) ys before m x rest tail in
    omega arith

-- ---- rows

pub kept_rows-append : (xs ys : List (ℕ × List ℕ)) → kept_rows (xs ++ ys) ≡ kept_rows xs ++ kept_rows ys
kept_rows-append xs ys = ap (map row_of) (filter-append (λ line. is_kept line.1) xs ys) ∙ map-append row_of (filter (λ line. is_kept line.1) xs)
    (filter (λ line. is_kept line.1) ys)

pub kept_one : (x : ℕ × List ℕ) → is_kept x.1 ≡ true → kept_rows (x ∷ []) ≡ row_of x ∷ []
kept_one x e = ap (λ b. map row_of (cond b (x ∷ []) [])) e

kept_none : (x : ℕ × List ℕ) → is_kept x.1 ≡ false → kept_rows (x ∷ []) ≡ []
kept_none x e = ap (λ b. map row_of (cond b (x ∷ []) [])) e

pub kept_first : (x : ℕ × List ℕ) (rest : List (ℕ × List ℕ)) → is_kept x.1 ≡ true → kept_rows (x ∷ rest) ≡ row_of x ∷ kept_rows rest
kept_first x rest e = kept_rows-append (x ∷ []) rest ∙ ap (λ rs. rs ++ kept_rows rest) (kept_one x e)

-- ---- the loop

pub read_nothing : (text : List ℕ) → HasRead limits text empty 1 (numbered_lines 1 text)
read_nothing text = record { before = []; joined = refl; next_is = refl; stands = stands_empty }

pub read_number : (text : List ℕ) (s : StateData) (next : ℕ) (x : ℕ × List ℕ) (rest : List (ℕ × List ℕ)) → HasRead limits text s next (x ∷ rest)
    → (x.0 ≡ next) × (1 ≤ x.0) × (x.0 ≤ length text)
read_number text s next x rest h =
    let number = number_of_item 1 (lines_of text) h.before x.0 x.1 rest h.joined in
    let few = length-numbered_lines 1 text in
    let long = ap length h.joined ∙ length-append h.before (x ∷ rest) in
    (omega (arith, h.next_is), omega arith, omega arith)

pub read_kept : (text : List ℕ) (s t : StateData) (next : ℕ) (x : ℕ × List ℕ) (rest : List (ℕ × List ℕ)) → HasRead limits text s next (x ∷ rest)
    → is_kept x.1 ≡ true
    → ((lines : List Row) → Stands limits s lines → Stands limits t (lines ++ row_of x ∷ [])) → HasRead limits text t (x.0 + 1) rest
read_kept text s t next x rest h kept step =
    let number = number_of_item 1 (lines_of text) h.before x.0 x.1 rest h.joined in
    let long = length_push h.before x in
    record {
      before = h.before ++ x ∷ [];
      joined = h.joined ∙ sym (append_assoc h.before (x ∷ []) rest);
      next_is = omega arith;
      stands = subst (Stands limits t) (sym (kept_rows-append h.before (x ∷ []) ∙ ap (λ rs. kept_rows h.before ++ rs) (kept_one x kept)))
          (step (kept_rows h.before) h.stands);
    }

pub read_unkept : (text : List ℕ) (s : StateData) (next : ℕ) (x : ℕ × List ℕ) (rest : List (ℕ × List ℕ)) → HasRead limits text s next (x ∷ rest)
    → is_kept x.1 ≡ false → HasRead limits text s (x.0 + 1) rest
read_unkept text s next x rest h unkept =
    let number = number_of_item 1 (lines_of text) h.before x.0 x.1 rest h.joined in
    let long = length_push h.before x in
    record {
      before = h.before ++ x ∷ [];
      joined = h.joined ∙ sym (append_assoc h.before (x ∷ []) rest);
      next_is = omega arith;
      stands = subst (Stands limits s) (sym (kept_rows-append h.before (x ∷ []) ∙ ap (λ rs. kept_rows h.before ++ rs) (kept_none x unkept)
          ∙ append-nil (kept_rows h.before))) h.stands;
    }

-- ---- the end

pub first_fault_stays : (allowed : Limits) (xs ys : List Row) (fault : Fault) → slice_get (faults allowed xs) 0 ≡ Some fault
    → slice_get (faults allowed (xs ++ ys)) 0 ≡ Some fault
first_fault_stays allowed xs [] fault e = ap (λ rs. slice_get (faults allowed rs) 0) (append-nil xs) ∙ e
first_fault_stays allowed xs (y ∷ ys) fault e =
    ap (λ rs. slice_get (faults allowed rs) 0) (sym (append_assoc xs (y ∷ []) ys))
    ∙ first_fault_stays allowed (xs ++ y ∷ []) ys fault (first_fault_more allowed xs y ∙ ap (λ o. option_or o (as_fault allowed (xs, y))) e)

pub rows_joined : (text : List ℕ) (before rest : List (ℕ × List ℕ)) → numbered_lines 1 text ≡ before ++ rest → rows text ≡ kept_rows before ++ kept_rows rest
rows_joined text before rest e = ap kept_rows e ∙ kept_rows-append before rest

pub read_refused : (text : List ℕ) (s : StateData) (next : ℕ) (rest : List (ℕ × List ℕ)) (fault : Fault) → HasRead limits text s next rest
    → s.refusal ≡ Some fault → reading limits text ≡ Err fault
unfolding reading first_fault first_fault_of_lines
read_refused text s next rest fault h e =
    let first : slice_get (faults limits (rows text)) 0 ≡ Some fault =
    ap (λ rs. slice_get (faults limits rs) 0) (rows_joined text h.before rest h.joined) ∙ first_fault_stays limits (kept_rows h.before) (kept_rows rest) fault
    (sym h.stands.refusal_is ∙ e) in
    rw first refl

pub read_all : (text : List ℕ) (s : StateData) (next : ℕ) → HasRead limits text s next [] → finished s next ≡ reading limits text
unfolding reading first_fault
read_all text s next h =
    let all : numbered_lines 1 text ≡ h.before = h.joined ∙ append-nil h.before in
    let same : rows text ≡ kept_rows h.before = ap kept_rows all in
    let count : length (lines_of text) ≡ length h.before = sym (length-enumerate_from 1 (lines_of text)) ∙ ap length all in
    let after : next ≡ line_after text = omega (arith, h.next_is) in
    finished_reads s (kept_rows h.before) next h.stands
    ∙ ap (λ rs. reading_of (first_fault_of_lines limits next rs) (instance_of_lines rs)) (sym same)
    ∙ ap (λ n. reading_of (first_fault_of_lines limits n (rows text)) (instance_of_lines (rows text))) after
