-- The lines of an answer are taken in, and give it back.
use Rattle.std.proofs.Common.{◌≡◌, ℕ, ◌+◌, ◌-◌, ◌<◌, ◌≤◌, true, cond, List, [], ◌∷◌, ◌++◌, length, get_or, Some, None, Ok, refl, sym, ap, subst, ◌∙◌, arith}
use Rattle.std.proofs.Common.{append_assoc, append-nil}
use Rattle.std.specs.Prelude.{ℤ, Option, All, map, ◌&&◌, nat_lt, option_map}
use Rattle.std.specs.List.{enumerate_from}
use Rattle.std.specs.List.Sorted.{IsStrictlyIncreasing}
use Rattle.std.specs.Option.{option_map_or, option_or}
use Rattle.std.proofs.lemmas.Bool.{eq-eqb, lt-ltb}
use Rattle.std.proofs.lemmas.List.{get_or_append_left, get_or-append_right, length-append, map-append}
use Rattle.std.proofs.lemmas.List.Elements.{All-head, All-tail}
use Rattle.std.proofs.lemmas.Option.{slice_get-get_or}
use Rattle.mcf_answer.specs.Private.Draft.{after, and_then, answer_of_draft, costed, moved_or_priced, opened, priced, sent_or_priced, set_after, solution_after}
use Rattle.mcf_answer.specs.Private.Draft.{sparse_after, sparse_priced, with_member, with_moved, with_price, with_said, with_sparse_price}
use Rattle.mcf_answer.specs.Fits.{is_above_last}
use Rattle.mcf_answer.specs.Parsing.{parsing}
use Rattle.mcf_answer.specs.Ranges.{IsAmount, IsNodeInRange}
use Rattle.mcf_answer.specs.Said.{Opening, OpensFlow, OpensSparse, OpensSet, OpensRefusal, cost_said, moved_said, opening_said, opens_set, price_said}
use Rattle.mcf_answer.specs.Said.{refusal_said, sent_said, set_said, version_said, ◌>>=◌}
use Rattle.mcf_answer.specs.Solution.{IsSent}
use Rattle.mcf_answer.specs.SparseSolution.{IsMoved, arc_numbers}
use Rattle.mcf_answer.specs.Spelling.{IsAnswer, Spells, cost_line, flow_line, member_line, moved_line, price_line, refusal_line, set_line, spelling}
use Rattle.mcf_answer.specs.Spelling.{version_line}
use Rattle.mcf_answer.specs.Token.{Token, tokens}
use Rattle.mcf_answer.specs.declared.answers.Answer.{Answer}
use Rattle.mcf_answer.specs.declared.answers.Answer.TheVariants.{Flow as FlowAnswered, Sparse as SparseAnswered, Blocked as BlockedAnswered}
use Rattle.mcf_answer.specs.declared.answers.Answer.TheVariants.{Refused as RefusedAnswered}
use Rattle.mcf_answer.specs.declared.answers.Sent.{Sent}
use Rattle.mcf_answer.specs.declared.draft.Draft.{Draft}
use Rattle.mcf_answer.specs.declared.draft.Draft.TheVariants.{Empty, Flow, Announced, Sparse, Blocked, Refused}
use Rattle.mcf_answer.proofs.LinesRead.{answer_or, outcome}
use Rattle.mcf_answer.proofs.SaidLemmas.{cost_said-line, member_said-line, moved_said-line, price_said-line, refusal_said-line, sent_said-line, set_said-line}
use Rattle.mcf_answer.proofs.SaidLemmas.{version_said-line}
use Rattle.mcf_answer.proofs.Simulation.{outcome-parsing, run-rows, run_rows}
use Rattle.mcf_flows.specs.Codes.{Fault}
use Rattle.mcf_flows.specs.Limits.{node_limit, line_limit}
use Rattle.mcf_flows.specs.declared.problem.Side.{Side}
use Rattle.mcf_text.specs.Lines.{numbered_lines}
use Rattle.mcf_text.specs.Row.{Row, line_after, rows}

-- the state after some lines, if each fits
abbrev run_lines : Draft → List (List Token) → Option Draft
run_lines d [] = Some d
run_lines d (line ∷ lines) = after d line >>= λ e. run_lines e lines

run_lines-rows : (lines : List Row) (d e : Draft) → run_lines d (map tokens lines) ≡ Some e → run_rows d lines ≡ Ok e
run_lines-rows [] d e h =
    let is : d ≡ e = cc h in
    ap Ok is
run_lines-rows (row ∷ lines) d e h = go (after d (tokens row)) refl h (run_lines-rows lines)
  where
    go : (o : Option Draft) → after d (tokens row) ≡ o → (o >>= λ m. run_lines m (map tokens lines)) ≡ Some e
        → ((m n : Draft) → run_lines m (map tokens lines) ≡ Some n → run_rows m lines ≡ Ok n) → run_rows d (row ∷ lines) ≡ Ok e
    go None f g next = cc
    go (Some m) f g next = ap (λ o. and_then o row.number (λ n. run_rows n lines)) f ∙ next m e g

-- after some lines, more
run_lines-append : (xs ys : List (List Token)) (d e : Draft) → run_lines d xs ≡ Some e → run_lines d (xs ++ ys) ≡ run_lines e ys
run_lines-append [] ys d e h =
    let is : d ≡ e = cc h in
    ap (λ m. run_lines m ys) is
run_lines-append (x ∷ xs) ys d e h = go (after d x) refl h (run_lines-append xs ys)
  where
    go : (o : Option Draft) → after d x ≡ o → (o >>= λ m. run_lines m xs) ≡ Some e
        → ((m n : Draft) → run_lines m xs ≡ Some n → run_lines m (xs ++ ys) ≡ run_lines n ys) → run_lines d (x ∷ xs ++ ys) ≡ run_lines e ys
    go None f g next = cc
    go (Some m) f g next = ap (λ o. o >>= λ n. run_lines n (xs ++ ys)) f ∙ next m e g

-- ---- one line

sent_taken : (cost : ℤ) (done : List Sent) (s : Sent) → IsSent s → after (Flow (record { cost = cost; sent = done; prices = [] })) (flow_line s) ≡ Some
    (Flow (record { cost = cost; sent = done ++ s ∷ []; prices = [] }))
unfolding after solution_after
sent_taken cost done s h = ap (λ o. option_map Flow (sent_or_priced (record { cost = cost; sent = done; prices = [] }) o (price_said (flow_line s))))
    (sent_said-line s h)

no_sent : (y : ℕ × ℤ) → sent_said (price_line y) ≡ None
unfolding sent_said
no_sent y = refl

price_taken : (cost : ℤ) (sent : List Sent) (done : List ℤ) (z : ℤ) → IsNodeInRange (length done + 1) → IsAmount z
    → after (Flow (record { cost = cost; sent = sent; prices = done })) (price_line (length done + 1, z)) ≡ Some
    (Flow (record { cost = cost; sent = sent; prices = done ++ z ∷ [] }))
unfolding after solution_after
price_taken cost sent done z h k =
    ap (λ o. option_map Flow (sent_or_priced (record { cost = cost; sent = sent; prices = done }) o (price_said (price_line (length done + 1, z)))))
    (no_sent (length done + 1, z))
    ∙ ap (λ o. option_map Flow (priced (record { cost = cost; sent = sent; prices = done }) o)) (price_said-line (length done + 1) z h k)
    ∙ ap (λ b. option_map Flow (cond b (Some (with_price (record { cost = cost; sent = sent; prices = done }) z)) None))
    (eq-eqb (length done + 1) (length done + 1) refl)

cost_taken : (cost : ℤ) → IsAmount cost → after Announced (cost_line cost) ≡ Some (costed cost)
unfolding after
cost_taken cost h = ap (option_map costed) (cost_said-line cost h)

moved_taken : (cost : ℤ) (done : List (ℕ × ℤ)) (m : ℕ × ℤ) → IsMoved m → is_above_last (arc_numbers done) m.0 ≡ true
    → after (Sparse (record { cost = cost; moved = done; prices = [] })) (moved_line m) ≡ Some
    (Sparse (record { cost = cost; moved = done ++ m ∷ []; prices = [] }))
unfolding after sparse_after
moved_taken cost done m h above =
    ap (λ o. option_map Sparse (moved_or_priced (record { cost = cost; moved = done; prices = [] }) o (price_said (moved_line m)))) (moved_said-line m h)
    ∙ ap (λ b. option_map Sparse (cond (b && true) (Some (with_moved (record { cost = cost; moved = done; prices = [] }) m)) None)) above

no_moved : (y : ℕ × ℤ) → moved_said (price_line y) ≡ None
unfolding moved_said
no_moved y = refl

sparse_price_taken : (cost : ℤ) (moved : List (ℕ × ℤ)) (done : List ℤ) (z : ℤ) → IsNodeInRange (length done + 1) → IsAmount z
    → after (Sparse (record { cost = cost; moved = moved; prices = done })) (price_line (length done + 1, z)) ≡ Some
    (Sparse (record { cost = cost; moved = moved; prices = done ++ z ∷ [] }))
unfolding after sparse_after
sparse_price_taken cost moved done z h k =
    ap (λ o. option_map Sparse (moved_or_priced (record { cost = cost; moved = moved; prices = done }) o (price_said (price_line (length done + 1, z)))))
    (no_moved (length done + 1, z))
    ∙ ap (λ o. option_map Sparse (sparse_priced (record { cost = cost; moved = moved; prices = done }) o)) (price_said-line (length done + 1) z h k)
    ∙ ap (λ b. option_map Sparse (cond b (Some (with_sparse_price (record { cost = cost; moved = moved; prices = done }) z)) None))
    (eq-eqb (length done + 1) (length done + 1) refl)

node_taken : (side : Side) (count : ℕ) (done : List ℕ) (v : ℕ) → IsNodeInRange v → nat_lt (length done) count ≡ true → is_above_last done v ≡ true
    → after (Blocked (record { side = side; count = count; nodes = done })) (member_line v) ≡ Some
    (Blocked (record { side = side; count = count; nodes = done ++ v ∷ [] }))
unfolding after set_after
node_taken side count done v h room above =
    ap (λ o. option_map Blocked (with_said (record { side = side; count = count; nodes = done }) o)) (member_said-line v h)
    ∙ ap (λ b. option_map Blocked (cond (b && is_above_last done v) (Some (with_member (record { side = side; count = count; nodes = done }) v)) None)) room
    ∙ ap (λ b. option_map Blocked (cond b (Some (with_member (record { side = side; count = count; nodes = done }) v)) None)) above

-- ---- all lines of a kind

sent_run : (cost : ℤ) (todo done : List Sent) → All IsSent todo
    → run_lines (Flow (record { cost = cost; sent = done; prices = [] })) (map flow_line todo) ≡ Some
    (Flow (record { cost = cost; sent = done ++ todo; prices = [] }))
sent_run cost [] done h = ap (λ xs. Some (Flow (record { cost = cost; sent = xs; prices = [] }))) (sym (append-nil done))
sent_run cost (s ∷ todo) done h =
    ap (λ o. o >>= λ e. run_lines e (map flow_line todo)) (sent_taken cost done s (All-head IsSent s todo h))
    ∙ sent_run cost todo (done ++ s ∷ []) (All-tail IsSent s todo h)
    ∙ ap (λ xs. Some (Flow (record { cost = cost; sent = xs; prices = [] }))) (append_assoc done (s ∷ []) todo)

prices_run : (cost : ℤ) (sent : List Sent) (todo done : List ℤ) (next : ℕ) → next ≡ length done + 1 → All IsAmount todo → length done + length todo ≤ node_limit
    → run_lines (Flow (record { cost = cost; sent = sent; prices = done })) (map price_line (enumerate_from next todo)) ≡ Some
    (Flow (record { cost = cost; sent = sent; prices = done ++ todo }))
prices_run cost sent [] done next place h few = ap (λ zs. Some (Flow (record { cost = cost; sent = sent; prices = zs }))) (sym (append-nil done))
prices_run cost sent (z ∷ todo) done next place h few =
    let node : IsNodeInRange (length done + 1) = (omega arith, omega (arith, few)) in
    let after_next : next + 1 ≡ length (done ++ z ∷ []) + 1 = omega (arith, place, length-append done (z ∷ [])) in
    let fewer : length (done ++ z ∷ []) + length todo ≤ node_limit = omega (arith, few, length-append done (z ∷ [])) in
    ap (λ n. after (Flow (record { cost = cost; sent = sent; prices = done })) (price_line (n, z)) >>= λ e. run_lines e
    (map price_line (enumerate_from (next + 1) todo))) place
    ∙ ap (λ o. o >>= λ e. run_lines e (map price_line (enumerate_from (next + 1) todo))) (price_taken cost sent done z node (All-head IsAmount z todo h))
    ∙ prices_run cost sent todo (done ++ z ∷ []) (next + 1) after_next (All-tail IsAmount z todo h) fewer
    ∙ ap (λ zs. Some (Flow (record { cost = cost; sent = sent; prices = zs }))) (append_assoc done (z ∷ []) todo)

-- in an ascending list each number is above the one before
above_before : (done todo : List ℕ) (v : ℕ) → IsStrictlyIncreasing (done ++ v ∷ todo) → is_above_last done v ≡ true
above_before [] todo v h = refl
above_before (w ∷ ws) todo v h =
    let done = w ∷ ws in
    let k = length done - 1 in
    let low : k < length done = omega arith in
    let size : length (done ++ v ∷ todo) ≡ length done + length (v ∷ todo) = length-append done (v ∷ todo) in
    let inside : k + 1 < length (done ++ v ∷ todo) = omega (arith, size) in
    let rises : get_or (done ++ v ∷ todo) k 0 < get_or (done ++ v ∷ todo) (k + 1) 0 = h k inside in
    let left : get_or (done ++ v ∷ todo) k 0 ≡ get_or done k 0 = get_or_append_left done (v ∷ todo) 0 k low in
    let place : k + 1 - length done ≡ 0 = omega arith in
    let right : get_or (done ++ v ∷ todo) (k + 1) 0 ≡ v = get_or-append_right done (v ∷ todo) (length done) (k + 1) 0 refl (omega arith)
    ∙ ap (λ n. get_or (v ∷ todo) n 0) place in
    let below : get_or done k 0 < v = omega (arith, left, right, rises) in
    ap (λ o. option_map_or (λ u. nat_lt u v) o true) (slice_get-get_or done k 0 low) ∙ lt-ltb (get_or done k 0) v below

moved_run : (cost : ℤ) (todo done : List (ℕ × ℤ)) → All IsMoved todo → IsStrictlyIncreasing (arc_numbers (done ++ todo))
    → run_lines (Sparse (record { cost = cost; moved = done; prices = [] })) (map moved_line todo) ≡ Some
    (Sparse (record { cost = cost; moved = done ++ todo; prices = [] }))
moved_run cost [] done h rises = ap (λ ms. Some (Sparse (record { cost = cost; moved = ms; prices = [] }))) (sym (append-nil done))
moved_run cost (m ∷ todo) done h rises =
    let numbers : IsStrictlyIncreasing (arc_numbers done ++ m.0 ∷ arc_numbers todo) =
    subst IsStrictlyIncreasing (map-append (λ n. n.0) done (m ∷ todo)) rises in
    let above = above_before (arc_numbers done) (arc_numbers todo) m.0 numbers in
    ap (λ o. o >>= λ e. run_lines e (map moved_line todo)) (moved_taken cost done m (All-head IsMoved m todo h) above)
    ∙ moved_run cost todo (done ++ m ∷ []) (All-tail IsMoved m todo h)
    (subst (λ ms. IsStrictlyIncreasing (arc_numbers ms)) (sym (append_assoc done (m ∷ []) todo)) rises)
    ∙ ap (λ ms. Some (Sparse (record { cost = cost; moved = ms; prices = [] }))) (append_assoc done (m ∷ []) todo)

sparse_prices_run : (cost : ℤ) (moved : List (ℕ × ℤ)) (todo done : List ℤ) (next : ℕ) → next ≡ length done + 1 → All IsAmount todo
    → length done + length todo ≤ node_limit
    → run_lines (Sparse (record { cost = cost; moved = moved; prices = done })) (map price_line (enumerate_from next todo)) ≡ Some
    (Sparse (record { cost = cost; moved = moved; prices = done ++ todo }))
sparse_prices_run cost moved [] done next place h few =
    ap (λ zs. Some (Sparse (record { cost = cost; moved = moved; prices = zs }))) (sym (append-nil done))
sparse_prices_run cost moved (z ∷ todo) done next place h few =
    let node : IsNodeInRange (length done + 1) = (omega arith, omega (arith, few)) in
    let after_next : next + 1 ≡ length (done ++ z ∷ []) + 1 = omega (arith, place, length-append done (z ∷ [])) in
    let fewer : length (done ++ z ∷ []) + length todo ≤ node_limit = omega (arith, few, length-append done (z ∷ [])) in
    ap (λ n. after (Sparse (record { cost = cost; moved = moved; prices = done })) (price_line (n, z)) >>= λ e. run_lines e
    (map price_line (enumerate_from (next + 1) todo))) place
    ∙ ap (λ o. o >>= λ e. run_lines e (map price_line (enumerate_from (next + 1) todo)))
    (sparse_price_taken cost moved done z node (All-head IsAmount z todo h))
    ∙ sparse_prices_run cost moved todo (done ++ z ∷ []) (next + 1) after_next (All-tail IsAmount z todo h) fewer
    ∙ ap (λ zs. Some (Sparse (record { cost = cost; moved = moved; prices = zs }))) (append_assoc done (z ∷ []) todo)

nodes_run : (side : Side) (count : ℕ) (todo done : List ℕ) → All IsNodeInRange todo → length done + length todo ≤ count → IsStrictlyIncreasing (done ++ todo)
    → run_lines (Blocked (record { side = side; count = count; nodes = done })) (map member_line todo) ≡ Some
    (Blocked (record { side = side; count = count; nodes = done ++ todo }))
nodes_run side count [] done h few rises = ap (λ vs. Some (Blocked (record { side = side; count = count; nodes = vs }))) (sym (append-nil done))
nodes_run side count (v ∷ todo) done h few rises =
    let lower : length done < count = omega (arith, few) in
    let room : nat_lt (length done) count ≡ true = lt-ltb (length done) count lower in
    let fewer : length (done ++ v ∷ []) + length todo ≤ count = omega (arith, few, length-append done (v ∷ [])) in
    ap (λ o. o >>= λ e. run_lines e (map member_line todo)) (node_taken side count done v (All-head IsNodeInRange v todo h) room
    (above_before done todo v rises))
    ∙ nodes_run side count todo (done ++ v ∷ []) (All-tail IsNodeInRange v todo h) fewer
    (subst IsStrictlyIncreasing (sym (append_assoc done (v ∷ []) todo)) rises)
    ∙ ap (λ vs. Some (Blocked (record { side = side; count = count; nodes = vs }))) (append_assoc done (v ∷ []) todo)

-- ---- all lines of an answer

cost_opens : (cost : ℤ) → IsAmount cost → opening_said (cost_line cost) ≡ Some (OpensFlow cost)
unfolding opening_said
cost_opens cost h = ap (λ o. option_or (option_map OpensFlow o) (option_or (option_map (λ version. OpensSparse) (version_said (cost_line cost)))
    (option_or (option_map opens_set (set_said (cost_line cost))) (option_map OpensRefusal (refusal_said (cost_line cost)))))) (cost_said-line cost h)

no_cost_in_version : cost_said version_line ≡ None
unfolding cost_said
no_cost_in_version = refl

version_opens : opening_said version_line ≡ Some OpensSparse
unfolding opening_said
version_opens =
    ap (λ o. option_or (option_map OpensFlow o) (option_or (option_map (λ version. OpensSparse) (version_said version_line))
    (option_or (option_map opens_set (set_said version_line)) (option_map OpensRefusal (refusal_said version_line))))) no_cost_in_version
    ∙ ap (λ o. option_or (option_map (λ version. OpensSparse) o)
    (option_or (option_map opens_set (set_said version_line)) (option_map OpensRefusal (refusal_said version_line)))) version_said-line

no_cost_in_set : (side : Side) (count : ℕ) → cost_said (set_line side count) ≡ None
unfolding cost_said
no_cost_in_set side count = refl

no_version_in_set : (side : Side) (count : ℕ) → version_said (set_line side count) ≡ None
unfolding version_said
no_version_in_set side count = refl

set_opens : (side : Side) (count : ℕ) → IsNodeInRange count → opening_said (set_line side count) ≡ Some (OpensSet side count)
unfolding opening_said
set_opens side count h =
    ap (λ o. option_or (option_map OpensFlow o) (option_or (option_map (λ version. OpensSparse) (version_said (set_line side count)))
    (option_or (option_map opens_set (set_said (set_line side count))) (option_map OpensRefusal (refusal_said (set_line side count))))))
    (no_cost_in_set side count)
    ∙ ap (λ o. option_or (option_map (λ version. OpensSparse) o)
    (option_or (option_map opens_set (set_said (set_line side count))) (option_map OpensRefusal (refusal_said (set_line side count)))))
    (no_version_in_set side count)
    ∙ ap (λ o. option_or (option_map opens_set o) (option_map OpensRefusal (refusal_said (set_line side count)))) (set_said-line side count h)

no_cost_in_refusal : (r : Fault) → cost_said (refusal_line r) ≡ None
unfolding cost_said
no_cost_in_refusal r = refl

no_version_in_refusal : (r : Fault) → version_said (refusal_line r) ≡ None
unfolding version_said
no_version_in_refusal r = refl

no_set_in_refusal : (r : Fault) → set_said (refusal_line r) ≡ None
unfolding set_said
no_set_in_refusal r = refl

refusal_opens : (r : Fault) → 1 ≤ r.line → r.line ≤ line_limit → opening_said (refusal_line r) ≡ Some (OpensRefusal r)
unfolding opening_said
refusal_opens r low high =
    ap (λ o. option_or (option_map OpensFlow o) (option_or (option_map (λ version. OpensSparse) (version_said (refusal_line r)))
    (option_or (option_map opens_set (set_said (refusal_line r))) (option_map OpensRefusal (refusal_said (refusal_line r)))))) (no_cost_in_refusal r)
    ∙ ap (λ o. option_or (option_map (λ version. OpensSparse) o)
    (option_or (option_map opens_set (set_said (refusal_line r))) (option_map OpensRefusal (refusal_said (refusal_line r))))) (no_version_in_refusal r)
    ∙ ap (λ o. option_or (option_map opens_set o) (option_map OpensRefusal (refusal_said (refusal_line r)))) (no_set_in_refusal r)
    ∙ ap (option_map OpensRefusal) (refusal_said-line r low high)

first_taken : (line : List Token) (o : Opening) → opening_said line ≡ Some o → after Empty line ≡ Some (opened o)
unfolding after
first_taken line o e = ap (option_map opened) e

-- the state of an answer
abbrev draft_of_answer : Answer → Draft
draft_of_answer (FlowAnswered a) = Flow a
draft_of_answer (SparseAnswered a) = Sparse a
draft_of_answer (BlockedAnswered a) = Blocked (record { side = a.side; count = length a.nodes; nodes = a.nodes })
draft_of_answer (RefusedAnswered r) = Refused r

spelling_run : (a : Answer) → IsAnswer a → run_lines Empty (spelling a) ≡ Some (draft_of_answer a)
unfolding spelling IsAnswer
spelling_run (FlowAnswered a) h =
    ap (λ o. o >>= λ e. run_lines e (map flow_line a.sent ++ map price_line (enumerate_from 1 a.prices)))
    (first_taken (cost_line a.cost) (OpensFlow a.cost) (cost_opens a.cost h.cost_small))
    ∙ run_lines-append (map flow_line a.sent) (map price_line (enumerate_from 1 a.prices)) (Flow (record { cost = a.cost; sent = []; prices = [] }))
    (Flow (record { cost = a.cost; sent = a.sent; prices = [] })) (sent_run a.cost a.sent [] h.sent_fit)
    ∙ prices_run a.cost a.sent a.prices [] 1 refl h.prices_small (omega (arith, h.few_prices))
spelling_run (SparseAnswered a) h =
    let others = map moved_line a.moved ++ map price_line (enumerate_from 1 a.prices) in
    ap (λ o. o >>= λ e. run_lines e (cost_line a.cost ∷ others)) (first_taken version_line OpensSparse version_opens)
    ∙ ap (λ o. o >>= λ e. run_lines e others) (cost_taken a.cost h.cost_small)
    ∙ run_lines-append (map moved_line a.moved) (map price_line (enumerate_from 1 a.prices)) (Sparse (record { cost = a.cost; moved = []; prices = [] }))
    (Sparse (record { cost = a.cost; moved = a.moved; prices = [] })) (moved_run a.cost a.moved [] h.moved_fit h.ascending)
    ∙ sparse_prices_run a.cost a.moved a.prices [] 1 refl h.prices_small (omega (arith, h.few_prices))
spelling_run (BlockedAnswered a) h =
    ap (λ o. o >>= λ e. run_lines e (map member_line a.nodes)) (first_taken (set_line a.side (length a.nodes)) (OpensSet a.side (length a.nodes))
    (set_opens a.side (length a.nodes) (h.nonempty, h.few)))
    ∙ nodes_run a.side (length a.nodes) a.nodes [] h.are_nodes (omega arith) h.ascending
spelling_run (RefusedAnswered r) h =
    ap (λ o. o >>= λ e. run_lines e []) (first_taken (refusal_line r) (OpensRefusal r) (refusal_opens r h.0 h.1))

answer_finished : (a : Answer) → answer_of_draft (draft_of_answer a) ≡ Some a
unfolding answer_of_draft
answer_finished (FlowAnswered a) = refl
answer_finished (SparseAnswered a) = refl
answer_finished (BlockedAnswered a) = ap (λ b. cond b (Some (BlockedAnswered a)) None) (eq-eqb (length a.nodes) (length a.nodes) refl)
answer_finished (RefusedAnswered r) = refl

-- a text that spells an answer is parsed to it
pub spelled_parses : (text : List ℕ) (a : Answer) → Spells text a → parsing text ≡ Ok a
spelled_parses text a h =
    let ran : run_rows Empty (rows text) ≡ Ok (draft_of_answer a) =
    run_lines-rows (rows text) Empty (draft_of_answer a) (ap (run_lines Empty) h.lines ∙ spelling_run a h.in_range) in
    sym (outcome-parsing text)
    ∙ ap (λ r. outcome r (line_after text)) (run-rows (numbered_lines 1 text) Empty ∙ ran)
    ∙ ap (λ o. answer_or o (line_after text)) (answer_finished a)
