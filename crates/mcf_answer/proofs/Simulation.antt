-- The parser's state stands for the lines so far, and what it gives at the end is what the text
-- stands for.
use Rattle.std.proofs.Common.{◌≡◌, ℕ, ◌+◌, Bool, true, false, cond, ◌&&◌, ◌||◌, List, [], ◌∷◌, ◌++◌, length, Some, None, Ok, Err, refl, sym, ap, ◌∙◌, nat_eq}
use Rattle.std.proofs.Common.{append_assoc, append-nil, arith}
use Rattle.std.specs.Prelude.{ℤ, Option, Result, map, filter, filter_map, is_some, nat_lt, option_map, pos, slice_get, unwrap_or}
use Rattle.std.specs.List.{cons_option}
use Rattle.std.specs.Option.{option_map_or, option_or}
use Rattle.std.proofs.lemmas.Bool.{lt-ltb}
use Rattle.std.proofs.lemmas.List.{length-map, map-append, map-id}
use Rattle.std.proofs.lemmas.List.Elements.{filter_map-append}
use Rattle.std.proofs.lemmas.Simd.{map-map}
use Rattle.mcf_answer.specs.Private.Draft.{after, and_then, answer_of_draft, costed, moved_or_priced, opened, run, sent_or_priced, set_after, solution_after}
use Rattle.mcf_answer.specs.Private.Draft.{sparse_after, with_moved, with_price, with_said, with_sent, with_sparse_price}
use Rattle.mcf_answer.specs.Fits.{as_misfit, fits, fits_after, fits_sparse, has_all, is_above_last, is_complete, is_node_above, misfit, misfit_of_lines}
use Rattle.mcf_answer.specs.Fits.{misfits, member_lines, moved_lines, price_lines, sent_lines}
use Rattle.mcf_answer.specs.Parsing.{answer_of_lines, answer_opened, cost_of, parsing, parsing_of, sparse_opened}
use Rattle.mcf_answer.specs.Said.{Opening, OpensFlow, OpensSparse, OpensSet, OpensRefusal, cost_said, member_said, moved_said, opening_said, price_said}
use Rattle.mcf_answer.specs.Said.{sent_said}
use Rattle.mcf_answer.specs.SparseSolution.{arc_numbers}
use Rattle.mcf_answer.specs.Token.{Token, token_lines, tokens}
use Rattle.mcf_answer.specs.declared.answers.Answer.{Answer}
use Rattle.mcf_answer.specs.declared.answers.Sent.{Sent}
use Rattle.mcf_answer.specs.declared.draft.Draft.{Draft}
use Rattle.mcf_answer.specs.declared.draft.Draft.TheVariants.{Empty, Flow, Sparse, Blocked}
use Rattle.mcf_answer.proofs.LinesRead.{announced_filled, filled, draft_of, answer_or, outcome}
use Rattle.mcf_answer.proofs.SaidLemmas.{moved_said-some, sent_said-some}
use Rattle.mcf_flows.specs.declared.problem.Side.{Side}
use Rattle.mcf_text.specs.Fields.{is_kept}
use Rattle.mcf_text.specs.Lines.{numbered_lines}
use Rattle.mcf_text.specs.Row.{Row, line_after, row_of, rows, with_earlier}

-- ---- one line

-- a flow line is no price line
no_price : (line : List Token) (s : Sent) → sent_said line ≡ Some s → price_said line ≡ None
unfolding price_said
no_price line s e = ap price_said (sent_said-some line s e).0

-- nor is a `g` line
no_price_moved : (line : List Token) (m : ℕ × ℤ) → moved_said line ≡ Some m → price_said line ≡ None
unfolding price_said
no_price_moved line m e = ap price_said (moved_said-some line m e).0

-- what the lines say, with one more line
more : {X : Type 0} (said : List Token → Option X) (others : List (List Token)) (line : List Token) (o : Option X) → said line ≡ o
    → filter_map said (others ++ line ∷ []) ≡ filter_map said others ++ cons_option o []
more said others line o e = filter_map-append said others (line ∷ []) ∙ ap (λ p. filter_map said others ++ cons_option p []) e

-- the state of a flow answer, by what its lines say
abbrev flow_of : ℤ → List Sent → List (ℕ × ℤ) → Draft
flow_of cost sent prices = Flow (record { cost = cost; sent = sent; prices = map (λ y. y.1) prices })

flow_more : (cost : ℤ) (others : List (List Token)) (line : List Token) (os : Option Sent) (oy : Option (ℕ × ℤ)) → sent_said line ≡ os → price_said line ≡ oy
    → filled (Some (OpensFlow cost)) (others ++ line ∷ []) ≡ flow_of cost (sent_lines others ++ cons_option os []) (price_lines others ++ cons_option oy [])
flow_more cost others line os oy e f =
    ap (λ xs. flow_of cost xs (price_lines (others ++ line ∷ []))) (more sent_said others line os e)
    ∙ ap (flow_of cost (sent_lines others ++ cons_option os [])) (more price_said others line oy f)

-- a line of a flow answer, by what it says
flow_step : (cost : ℤ) (xs : List Sent) (ys : List (ℕ × ℤ)) (os : Option Sent) (oy : Option (ℕ × ℤ)) → ((s : Sent) → os ≡ Some s → oy ≡ None)
    → option_map Flow (sent_or_priced (record { cost = cost; sent = xs; prices = map (λ y. y.1) ys }) os oy)
    ≡ cond ((is_some os && nat_eq (length ys) 0) || option_map_or (λ y. nat_eq y.0 (length ys + 1)) oy false)
    (Some (flow_of cost (xs ++ cons_option os []) (ys ++ cons_option oy []))) None
flow_step cost xs ys None None apart = refl
flow_step cost xs ys (Some s) (Some y) apart = cc (apart s refl)
flow_step cost xs ys (Some s) None apart =
    ap (λ n. option_map Flow (cond (nat_eq n 0) (Some (with_sent (record { cost = cost; sent = xs; prices = map (λ y. y.1) ys }) s)) None))
    (length-map ys (λ y. y.1))
    ∙ go (nat_eq (length ys) 0)
  where
    go : (b : Bool) → option_map Flow (cond b (Some (with_sent (record { cost = cost; sent = xs; prices = map (λ y. y.1) ys }) s)) None)
        ≡ cond (b || false) (Some (flow_of cost (xs ++ s ∷ []) (ys ++ []))) None
    go true = ap (λ zs. Some (flow_of cost (xs ++ s ∷ []) zs)) (sym (append-nil ys))
    go false = refl
flow_step cost xs ys None (Some y) apart =
    ap (λ n. option_map Flow (cond (nat_eq y.0 (n + 1)) (Some (with_price (record { cost = cost; sent = xs; prices = map (λ y. y.1) ys }) y.1)) None))
    (length-map ys (λ y. y.1))
    ∙ go (nat_eq y.0 (length ys + 1))
  where
    go : (b : Bool) → option_map Flow (cond b (Some (with_price (record { cost = cost; sent = xs; prices = map (λ y. y.1) ys }) y.1)) None)
        ≡ cond b (Some (flow_of cost (xs ++ []) (ys ++ y ∷ []))) None
    go true =
        ap (λ zs. Some (Flow (record { cost = cost; sent = xs; prices = zs }))) (sym (map-append (λ z. z.1) ys (y ∷ [])))
        ∙ ap (λ zs. Some (flow_of cost zs (ys ++ y ∷ []))) (sym (append-nil xs))
    go false = refl

-- the state of a sparse flow answer, by what its lines say
abbrev sparse_state : ℤ → List (ℕ × ℤ) → List (ℕ × ℤ) → Draft
sparse_state cost moved prices = Sparse (record { cost = cost; moved = moved; prices = map (λ y. y.1) prices })

sparse_more : (cost : List Token) (others : List (List Token)) (line : List Token) (om : Option (ℕ × ℤ)) (oy : Option (ℕ × ℤ)) → moved_said line ≡ om
    → price_said line ≡ oy
    → announced_filled (cost ∷ others ++ line ∷ []) ≡ sparse_state (cost_of cost) (moved_lines others ++ cons_option om [])
    (price_lines others ++ cons_option oy [])
sparse_more cost others line om oy e f =
    ap (λ xs. sparse_state (cost_of cost) xs (price_lines (others ++ line ∷ []))) (more moved_said others line om e)
    ∙ ap (sparse_state (cost_of cost) (moved_lines others ++ cons_option om [])) (more price_said others line oy f)

-- a line of a sparse flow answer, by what it says
sparse_step : (cost : ℤ) (xs : List (ℕ × ℤ)) (ys : List (ℕ × ℤ)) (om : Option (ℕ × ℤ)) (oy : Option (ℕ × ℤ)) → ((m : ℕ × ℤ) → om ≡ Some m → oy ≡ None)
    → option_map Sparse (moved_or_priced (record { cost = cost; moved = xs; prices = map (λ y. y.1) ys }) om oy)
    ≡ cond ((option_map_or (λ m. is_above_last (arc_numbers xs) m.0) om false && nat_eq (length ys) 0)
    || option_map_or (λ y. nat_eq y.0 (length ys + 1)) oy false)
    (Some (sparse_state cost (xs ++ cons_option om []) (ys ++ cons_option oy []))) None
sparse_step cost xs ys None None apart = refl
sparse_step cost xs ys (Some m) (Some y) apart = cc (apart m refl)
sparse_step cost xs ys (Some m) None apart =
    ap (λ n. option_map Sparse (cond (is_above_last (arc_numbers xs) m.0 && nat_eq n 0)
    (Some (with_moved (record { cost = cost; moved = xs; prices = map (λ y. y.1) ys }) m)) None))
    (length-map ys (λ y. y.1))
    ∙ go (is_above_last (arc_numbers xs) m.0 && nat_eq (length ys) 0)
  where
    go : (b : Bool) → option_map Sparse (cond b (Some (with_moved (record { cost = cost; moved = xs; prices = map (λ y. y.1) ys }) m)) None)
        ≡ cond (b || false) (Some (sparse_state cost (xs ++ m ∷ []) (ys ++ []))) None
    go true = ap (λ zs. Some (sparse_state cost (xs ++ m ∷ []) zs)) (sym (append-nil ys))
    go false = refl
sparse_step cost xs ys None (Some y) apart =
    ap (λ n. option_map Sparse (cond (nat_eq y.0 (n + 1)) (Some (with_sparse_price (record { cost = cost; moved = xs; prices = map (λ y. y.1) ys }) y.1)) None))
    (length-map ys (λ y. y.1))
    ∙ go (nat_eq y.0 (length ys + 1))
  where
    go : (b : Bool) → option_map Sparse (cond b (Some (with_sparse_price (record { cost = cost; moved = xs; prices = map (λ y. y.1) ys }) y.1)) None)
        ≡ cond b (Some (sparse_state cost (xs ++ []) (ys ++ y ∷ []))) None
    go true =
        ap (λ zs. Some (Sparse (record { cost = cost; moved = xs; prices = zs }))) (sym (map-append (λ z. z.1) ys (y ∷ [])))
        ∙ ap (λ zs. Some (sparse_state cost zs (ys ++ y ∷ []))) (sym (append-nil xs))
    go false = refl

-- a line of a set, by what it says
set_step : (side : Side) (count : ℕ) (vs : List ℕ) (o : Option ℕ)
    → option_map Blocked (with_said (record { side = side; count = count; nodes = vs }) o)
    ≡ cond (nat_lt (length vs) count && option_map_or (λ v. is_above_last vs v) o false)
    (Some (Blocked (record { side = side; count = count; nodes = vs ++ cons_option o [] }))) None
set_step side count vs None = go (nat_lt (length vs) count)
  where
    go : (b : Bool) → None ≡ cond (b && false) (Some (Blocked (record { side = side; count = count; nodes = vs ++ [] }))) None
    go true = refl
    go false = refl
set_step side count vs (Some v) = go (nat_lt (length vs) count && is_above_last vs v)
  where
    go : (b : Bool) → option_map Blocked (cond b (Some (record { side = side; count = count; nodes = vs ++ v ∷ [] })) None)
        ≡ cond b (Some (Blocked (record { side = side; count = count; nodes = vs ++ v ∷ [] }))) None
    go true = refl
    go false = refl

-- the line after a version line, by what it says
cost_step : (o : Option ℤ)
    → option_map costed o ≡ cond (is_some o) (Some (Sparse (record { cost = unwrap_or o (pos 0); moved = []; prices = [] }))) None
cost_step None = refl
cost_step (Some cost) = refl

-- the state after one more line of a sparse flow answer, by whether the line fits
after_announced : (others : List (List Token)) (line : List Token)
    → after (announced_filled others) line ≡ cond (fits_sparse others line) (Some (announced_filled (others ++ line ∷ []))) None
unfolding after sparse_after
after_announced [] line = cost_step (cost_said line)
after_announced (cost ∷ others) line =
    sparse_step (cost_of cost) (moved_lines others) (price_lines others) (moved_said line) (price_said line) (no_price_moved line)
    ∙ ap (λ d. cond (fits_sparse (cost ∷ others) line) (Some d) None)
    (sym (sparse_more cost others line (moved_said line) (price_said line) refl refl))

-- the state after one more line, by whether the line fits
after_filled : (o : Option Opening) (others : List (List Token)) (line : List Token)
    → after (filled o others) line ≡ cond (fits_after o others line) (Some (filled o (others ++ line ∷ []))) None
unfolding after solution_after set_after
after_filled None others line = refl
after_filled (Some (OpensRefusal r)) others line = refl
after_filled (Some OpensSparse) others line = after_announced others line
after_filled (Some (OpensSet side count)) others line =
    set_step side count (member_lines others) (member_said line)
    ∙ ap (λ vs. cond (nat_lt (length (member_lines others)) count && is_node_above (member_lines others) line)
    (Some (Blocked (record { side = side; count = count; nodes = vs }))) None)
    (sym (more member_said others line (member_said line) refl))
after_filled (Some (OpensFlow cost)) others line =
    flow_step cost (sent_lines others) (price_lines others) (sent_said line) (price_said line) (no_price line)
    ∙ ap (λ d. cond (fits_after (Some (OpensFlow cost)) others line) (Some d) None)
    (sym (flow_more cost others line (sent_said line) (price_said line) refl refl))

first_line : (o : Option Opening) → option_map opened o ≡ cond (is_some o) (Some (filled o [])) None
first_line None = refl
first_line (Some (OpensFlow cost)) = refl
first_line (Some OpensSparse) = refl
first_line (Some (OpensSet side count)) = refl
first_line (Some (OpensRefusal r)) = refl

after_draft : (earlier : List (List Token)) (line : List Token) → after (draft_of earlier) line ≡ cond (fits earlier line)
    (Some (draft_of (earlier ++ line ∷ []))) None
unfolding after fits
after_draft [] line = first_line (opening_said line)
after_draft (first ∷ others) line = after_filled (opening_said first) others line

-- ---- the kept lines

abbrev pub run_rows : Draft → List Row → Result Draft ℕ
run_rows d [] = Ok d
run_rows d (row ∷ lines) = and_then (after d (tokens row)) row.number (λ e. run_rows e lines)

and_then-same : (o : Option Draft) (number : ℕ) (f g : Draft → Result Draft ℕ) → ((e : Draft) → f e ≡ g e) → and_then o number f ≡ and_then o number g
and_then-same None number f g same = refl
and_then-same (Some e) number f g same = same e

pub run-rows : (lines : List (ℕ × List ℕ)) (d : Draft) → run d lines ≡ run_rows d (map row_of (filter (λ line. is_kept line.1) lines))
run-rows [] d = refl
run-rows (line ∷ lines) d = go (is_kept line.1) refl (run-rows lines)
  where
    go : (b : Bool) → is_kept line.1 ≡ b → ((e : Draft) → run e lines ≡ run_rows e (map row_of (filter (λ l. is_kept l.1) lines)))
        → run d (line ∷ lines) ≡ run_rows d (map row_of (filter (λ l. is_kept l.1) (line ∷ lines)))
    go true h same =
        rw h (and_then-same (after d (tokens (row_of line))) line.0 (λ e. run e lines) (λ e. run_rows e (map row_of (filter (λ l. is_kept l.1) lines))) same)
    go false h same = rw h (same d)

-- ---- all lines

-- each line with those before it, where some stand before them all
abbrev earlier_from : List Row → List Row → List (List Row × Row)
earlier_from done [] = []
earlier_from done (row ∷ lines) = (done, row) ∷ earlier_from (done ++ row ∷ []) lines

map-same : {X Y : Type 0} (f g : X → Y) (xs : List X) → ((x : X) → f x ≡ g x) → map f xs ≡ map g xs
map-same f g [] same = refl
map-same f g (x ∷ xs) same = ap (λ y. y ∷ map f xs) (same x) ∙ ap (λ ys. g x ∷ ys) (map-same f g xs same)

-- a line after more lines
abbrev behind : List Row → List Row × Row → List Row × Row
behind done p = (done ++ p.0, p.1)

abbrev behind_one : Row → List Row × Row → List Row × Row
behind_one row p = (row ∷ p.0, p.1)

earlier_from-map : (done lines : List Row) → earlier_from done lines ≡ map (behind done) (with_earlier lines)
earlier_from-map done [] = refl
earlier_from-map done (row ∷ lines) =
    ap (λ ps. (done, row) ∷ ps) (earlier_from-map (done ++ row ∷ []) lines
    ∙ map-same (behind (done ++ row ∷ [])) (λ (p : List Row × Row). behind done (behind_one row p)) (with_earlier lines)
    (λ p. ap (λ front. (front, p.1)) (append_assoc done (row ∷ []) p.0))
    ∙ sym (map-map (behind done) (behind_one row) (with_earlier lines)))
    ∙ ap (λ (front : List Row). (front, row) ∷ map (behind done) (map (behind_one row) (with_earlier lines))) (sym (append-nil done))

earlier_from-empty : (lines : List Row) → earlier_from [] lines ≡ with_earlier lines
earlier_from-empty lines = earlier_from-map [] lines ∙ map-id (with_earlier lines)

-- the state, or the number of a line that doesn't fit
abbrev unless : Option ℕ → Draft → Result Draft ℕ
unless None d = Ok d
unless (Some line) d = Err line

run_rows-from : (lines done : List Row)
    → run_rows (draft_of (map tokens done)) lines ≡ unless (slice_get (filter_map as_misfit (earlier_from done lines)) 0)
    (draft_of (map tokens (done ++ lines)))
run_rows-from [] done = ap (λ rs. Ok (draft_of (map tokens rs))) (sym (append-nil done))
run_rows-from (row ∷ lines) done = go (fits (map tokens done) (tokens row)) refl (run_rows-from lines (done ++ row ∷ []))
  where
    go : (b : Bool) → fits (map tokens done) (tokens row) ≡ b
        → run_rows (draft_of (map tokens (done ++ row ∷ []))) lines ≡ unless (slice_get (filter_map as_misfit (earlier_from (done ++ row ∷ []) lines)) 0)
        (draft_of (map tokens ((done ++ row ∷ []) ++ lines)))
        → run_rows (draft_of (map tokens done)) (row ∷ lines) ≡ unless (slice_get (filter_map as_misfit (earlier_from done (row ∷ lines))) 0)
        (draft_of (map tokens (done ++ row ∷ lines)))
    go true h next =
        let taken : after (draft_of (map tokens done)) (tokens row) ≡ Some (draft_of (map tokens (done ++ row ∷ []))) =
        after_draft (map tokens done) (tokens row)
        ∙ ap (λ b. cond b (Some (draft_of (map tokens done ++ tokens row ∷ []))) None) h
        ∙ ap (λ ts. Some (draft_of ts)) (sym (map-append tokens done (row ∷ []))) in
        ap (λ o. and_then o row.number (λ e. run_rows e lines)) taken
        ∙ next
        ∙ ap (λ rs. unless (slice_get (filter_map as_misfit (earlier_from (done ++ row ∷ []) lines)) 0) (draft_of (map tokens rs)))
        (append_assoc done (row ∷ []) lines)
        ∙ sym (ap (λ b. unless (slice_get (cons_option (cond b None (Some row.number)) (filter_map as_misfit (earlier_from (done ++ row ∷ []) lines))) 0)
        (draft_of (map tokens (done ++ row ∷ lines)))) h)
    go false h next =
        let refused : after (draft_of (map tokens done)) (tokens row) ≡ None =
        after_draft (map tokens done) (tokens row)
        ∙ ap (λ b. cond b (Some (draft_of (map tokens done ++ tokens row ∷ []))) None) h in
        ap (λ o. and_then o row.number (λ e. run_rows e lines)) refused
        ∙ sym (ap (λ b. unless (slice_get (cons_option (cond b None (Some row.number)) (filter_map as_misfit (earlier_from (done ++ row ∷ []) lines))) 0)
        (draft_of (map tokens (done ++ row ∷ lines)))) h)

run_rows-misfits : (lines : List Row) → run_rows Empty lines ≡ unless (slice_get (misfits lines) 0) (draft_of (map tokens lines))
unfolding misfits
run_rows-misfits lines =
    run_rows-from lines []
    ∙ ap (λ ps. unless (slice_get (filter_map as_misfit ps) 0) (draft_of (map tokens lines))) (earlier_from-empty lines)

-- ---- the end

finished-filled : (o : Option Opening) (others : List (List Token)) → answer_of_draft (filled o others) ≡ cond (has_all o others)
    (Some (answer_opened o others)) None
unfolding answer_of_draft
finished-filled None others = refl
finished-filled (Some (OpensFlow cost)) others = refl
finished-filled (Some OpensSparse) [] = refl
finished-filled (Some OpensSparse) (cost ∷ others) =
    sym (ap (λ b. cond b (Some (sparse_opened (cost ∷ others))) None) (lt-ltb 0 (length (cost ∷ others)) (omega arith)))
finished-filled (Some (OpensSet side count)) others = refl
finished-filled (Some (OpensRefusal r)) others = refl

finished-draft_of : (lines : List (List Token)) → answer_of_draft (draft_of lines) ≡ cond (is_complete lines) (Some (answer_of_lines lines)) None
unfolding answer_of_draft is_complete answer_of_lines
finished-draft_of [] = refl
finished-draft_of (first ∷ others) = finished-filled (opening_said first) others

at_end : (o : Option ℕ) (b : Bool) (a : Answer) (d : Draft) (number : ℕ) → answer_of_draft d ≡ cond b (Some a) None
    → outcome (unless o d) number ≡ parsing_of (option_or o (cond b None (Some number))) a
at_end (Some line) b a d number e = refl
at_end None true a d number e = ap (λ r. answer_or r number) e
at_end None false a d number e = ap (λ r. answer_or r number) e

-- what the parser gives is what the text stands for
pub outcome-parsing : (text : List ℕ) → outcome (run Empty (numbered_lines 1 text)) (line_after text) ≡ parsing text
unfolding parsing misfit misfit_of_lines
outcome-parsing text =
    ap (λ r. outcome r (line_after text)) (run-rows (numbered_lines 1 text) Empty ∙ run_rows-misfits (rows text))
    ∙ at_end (slice_get (misfits (rows text)) 0) (is_complete (token_lines text)) (answer_of_lines (token_lines text)) (draft_of (token_lines text))
    (line_after text) (finished-draft_of (token_lines text))
