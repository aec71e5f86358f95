-- The lines that a state stands for are those that it spells; so a text is parsed to an answer
-- exactly if it spells it.
use Rattle.std.proofs.Common.{◌≡◌, ℕ, ◌+◌, ◌<◌, ◌≤◌, true, List, [], ◌∷◌, ◌++◌, length, Some, None, Ok, Err, refl, sym, ap, subst, ◌∙◌, nat_eq, arith}
use Rattle.std.proofs.Common.{add-zero, append_assoc, append-nil}
use Rattle.std.specs.Prelude.{ℤ, Option, Result, map, ◌&&◌, ⊤, nat_lt, option_map}
use Rattle.std.specs.List.{enumerate_from}
use Rattle.std.specs.List.Sorted.{IsStrictlyIncreasing}
use Rattle.std.specs.Option.{option_or}
use Rattle.std.proofs.lemmas.Bool.{and_parts, eqb-true, ltb-true}
use Rattle.std.proofs.lemmas.List.{map_push, nil_from_length}
use Rattle.std.proofs.lemmas.List.Elements.{All-nil}
use Rattle.std.proofs.lemmas.Option.{cond_some}
use Rattle.mcf_answer.specs.BlockingSet.{IsBlockingSet}
use Rattle.mcf_answer.specs.Private.Draft.{after, and_then, answer_of_draft, costed, moved_or_priced, opened, sent_or_priced, set_after, solution_after}
use Rattle.mcf_answer.specs.Private.Draft.{sparse_after, with_member, with_moved, with_price, with_said, with_sent, with_sparse_price}
use Rattle.mcf_answer.specs.Fits.{is_above_last}
use Rattle.mcf_answer.specs.Parsing.{parsing}
use Rattle.mcf_answer.specs.Private.PartialSet.{IsPartialSet, PartialSet}
use Rattle.mcf_answer.specs.Ranges.{IsAmount, IsNodeInRange}
use Rattle.mcf_answer.specs.Said.{Opening, OpensFlow, OpensSparse, OpensSet, OpensRefusal, cost_said, member_said, moved_said, opening_said, opens_set}
use Rattle.mcf_answer.specs.Said.{price_said, refusal_said, sent_said, set_said, version_said}
use Rattle.mcf_answer.specs.Solution.{IsSent, IsSolution, Solution}
use Rattle.mcf_answer.specs.SparseSolution.{IsMoved, IsSparseSolution, SparseSolution, arc_numbers}
use Rattle.mcf_answer.specs.Spelling.{IsAnswer, Spells, cost_line, flow_line, member_line, moved_line, price_line, refusal_line, set_line, solution_lines}
use Rattle.mcf_answer.specs.Spelling.{sparse_lines, spelling, version_line}
use Rattle.mcf_answer.specs.Token.{Token, tokens}
use Rattle.mcf_answer.specs.declared.answers.Answer.{Answer}
use Rattle.mcf_answer.specs.declared.answers.Answer.TheVariants.{Flow as FlowAnswered, Sparse as SparseAnswered, Blocked as BlockedAnswered}
use Rattle.mcf_answer.specs.declared.answers.Answer.TheVariants.{Refused as RefusedAnswered}
use Rattle.mcf_answer.specs.declared.answers.Sent.{Sent}
use Rattle.mcf_answer.specs.declared.draft.Draft.{Draft}
use Rattle.mcf_answer.specs.declared.draft.Draft.TheVariants.{Empty, Flow, Announced, Sparse, Blocked, Refused}
use Rattle.mcf_answer.proofs.Grows.{with_member_fits, with_moved_fits, with_price_fits, with_sent_fits, with_sparse_price_fits}
use Rattle.mcf_answer.proofs.LinesRead.{answer_or, outcome}
use Rattle.mcf_answer.proofs.SaidLemmas.{cost_said-some, map-some, member_said-some, moved_said-some, price_said-some, refusal_said-some, sent_said-some}
use Rattle.mcf_answer.proofs.SaidLemmas.{set_said-some, version_said-some}
use Rattle.mcf_answer.proofs.Simulation.{outcome-parsing, run-rows, run_rows}
use Rattle.mcf_flows.specs.Codes.{Fault}
use Rattle.mcf_flows.specs.Limits.{line_limit}
use Rattle.mcf_flows.specs.declared.problem.Side.{Side}
use Rattle.mcf_text.specs.Lines.{numbered_lines}
use Rattle.mcf_text.specs.Row.{Row, line_after, rows}

-- ---- what a state spells

-- one more item of a list with its place
enumerate_from-push : {X : Type 0} (n : ℕ) (xs : List X) (x : X) → enumerate_from n (xs ++ x ∷ []) ≡ enumerate_from n xs ++ (n + length xs, x) ∷ []
enumerate_from-push n [] x = ap (λ m. (m, x) ∷ []) (sym (add-zero n))
enumerate_from-push n (y ∷ ys) x =
    let next : n + 1 + length ys ≡ n + length (y ∷ ys) = omega arith in
    ap (λ more. (n, y) ∷ more) (enumerate_from-push (n + 1) ys x ∙ ap (λ m. enumerate_from (n + 1) ys ++ (m, x) ∷ []) next)

-- the lines of a state
abbrev spelled : Draft → List (List Token)
spelled Empty = []
spelled (Flow a) = solution_lines a
spelled Announced = version_line ∷ []
spelled (Sparse a) = sparse_lines a
spelled (Blocked a) = set_line a.side a.count ∷ map member_line a.nodes
spelled (Refused r) = refusal_line r ∷ []

-- the numbers of a state are in range
abbrev IsDraft : Draft → Type 0
IsDraft Empty = ⊤
IsDraft (Flow a) = IsSolution a
IsDraft Announced = ⊤
IsDraft (Sparse a) = IsSparseSolution a
IsDraft (Blocked a) = IsPartialSet a
IsDraft (Refused r) = (1 ≤ r.line) × (r.line ≤ line_limit)

-- the state spells one line more
record Grows (d : Draft) (line : List Token) (e : Draft) : Type 0 where
  lines : spelled e ≡ spelled d ++ line ∷ []
  in_range : IsDraft e

-- ---- a line taken in is spelled

increasing_none : IsStrictlyIncreasing []
increasing_none k inside = absurd (omega (arith, inside))

-- the first line of an answer
opening_grows : (line : List Token) (o : Opening) → opening_said line ≡ Some o → Grows Empty line (opened o)
unfolding opening_said
opening_grows line o e = go (cost_said line) (version_said line) (set_said line) (refusal_said line) refl refl refl refl e
  where
    go : (oc ov : Option ℤ) (os : Option (Side × ℕ)) (or : Option Fault) → cost_said line ≡ oc → version_said line ≡ ov → set_said line ≡ os
        → refusal_said line ≡ or
        → option_or (option_map OpensFlow oc) (option_or (option_map (λ version. OpensSparse) ov)
        (option_or (option_map opens_set os) (option_map OpensRefusal or))) ≡ Some o
        → Grows Empty line (opened o)
    go None (Some version) os or ec ev es er f =
        let is : OpensSparse ≡ o = cc f in
        subst (λ p. Grows Empty line (opened p)) is record { lines = ap (λ l. l ∷ []) (sym (version_said-some line version ev)); in_range = tt }
    go (Some cost) ov os or ec ev es er f =
        let said = cost_said-some line cost ec in
        let is : OpensFlow cost ≡ o = cc f in
        subst (λ p. Grows Empty line (opened p)) is record {
          lines = ap (λ l. l ∷ []) (sym said.0);
          in_range = record { cost_small = said.1; sent_fit = All-nil IsSent; prices_small = All-nil IsAmount; few_prices = omega arith };
        }
    go None None (Some set) or ec ev es er f =
        let said = set_said-some line set es in
        let is : OpensSet set.0 set.1 ≡ o = cc f in
        subst (λ p. Grows Empty line (opened p)) is record {
          lines = ap (λ l. l ∷ []) (sym said.0);
          in_range = record { some = said.1; few = omega arith; are_nodes = All-nil IsNodeInRange; ascending = increasing_none };
        }
    go None None None (Some r) ec ev es er f =
        let said = refusal_said-some line r er in
        let is : OpensRefusal r ≡ o = cc f in
        subst (λ p. Grows Empty line (opened p)) is record {
          lines = ap (λ l. l ∷ []) (sym said.0);
          in_range = (said.1, said.2);
        }
    go None None None None ec ev es er f = cc

-- a flow line
sent_grows : (a : Solution) (line : List Token) (s : Sent) → IsSolution a → sent_said line ≡ Some s → length a.prices ≡ 0
    → Grows (Flow a) line (Flow (with_sent a s))
sent_grows a line s h e none =
    let said = sent_said-some line s e in
    let empty : a.prices ≡ [] = nil_from_length a.prices none in
    record {
      lines =
          ap (λ zs. cost_line a.cost ∷ map flow_line (a.sent ++ s ∷ []) ++ map price_line (enumerate_from 1 zs)) empty
          ∙ ap (λ ls. cost_line a.cost ∷ ls) (append-nil (map flow_line (a.sent ++ s ∷ [])) ∙ map_push flow_line a.sent s
          ∙ ap (λ l. map flow_line a.sent ++ l ∷ []) (sym said.0))
          ∙ ap (λ ls. cost_line a.cost ∷ ls ++ line ∷ []) (sym (append-nil (map flow_line a.sent)))
          ∙ sym (ap (λ zs. (cost_line a.cost ∷ map flow_line a.sent ++ map price_line (enumerate_from 1 zs)) ++ line ∷ []) empty);
      in_range = with_sent_fits a line s h e;
    }

-- a price line
price_grows : (a : Solution) (line : List Token) (y : ℕ × ℤ) → IsSolution a → price_said line ≡ Some y → y.0 ≡ length a.prices + 1
    → Grows (Flow a) line (Flow (with_price a y.1))
price_grows a line y h e next =
    let said = price_said-some line y e in
    let place : 1 + length a.prices ≡ y.0 = omega (arith, next) in
    record {
      lines =
          ap (λ ys. cost_line a.cost ∷ map flow_line a.sent ++ map price_line ys) (enumerate_from-push 1 a.prices y.1
          ∙ ap (λ n. enumerate_from 1 a.prices ++ (n, y.1) ∷ []) place)
          ∙ ap (λ ls. cost_line a.cost ∷ map flow_line a.sent ++ ls) (map_push price_line (enumerate_from 1 a.prices) y
          ∙ ap (λ l. map price_line (enumerate_from 1 a.prices) ++ l ∷ []) (sym said.0))
          ∙ ap (λ ls. cost_line a.cost ∷ ls) (sym (append_assoc (map flow_line a.sent) (map price_line (enumerate_from 1 a.prices)) (line ∷ [])));
      in_range = with_price_fits a y.0 y.1 h said.1 said.2 next;
    }

-- the cost line of a sparse flow answer
cost_grows : (line : List Token) (cost : ℤ) → cost_said line ≡ Some cost → Grows Announced line (costed cost)
cost_grows line cost e =
    let said = cost_said-some line cost e in
    record {
      lines = ap (λ l. version_line ∷ l ∷ []) (sym said.0);
      in_range = record {
        cost_small = said.1;
        moved_fit = All-nil IsMoved;
        ascending = increasing_none;
        prices_small = All-nil IsAmount;
        few_prices = omega arith;
      };
    }

-- a `g` line
moved_grows : (a : SparseSolution) (line : List Token) (m : ℕ × ℤ) → IsSparseSolution a → moved_said line ≡ Some m
    → is_above_last (arc_numbers a.moved) m.0 ≡ true → length a.prices ≡ 0 → Grows (Sparse a) line (Sparse (with_moved a m))
moved_grows a line m h e above none =
    let said = moved_said-some line m e in
    let empty : a.prices ≡ [] = nil_from_length a.prices none in
    let front : List (List Token) → List (List Token) = λ ls. version_line ∷ cost_line a.cost ∷ ls in
    record {
      lines =
          ap (λ zs. front (map moved_line (a.moved ++ m ∷ []) ++ map price_line (enumerate_from 1 zs))) empty
          ∙ ap front (append-nil (map moved_line (a.moved ++ m ∷ [])) ∙ map_push moved_line a.moved m ∙ ap (λ l. map moved_line a.moved ++ l ∷ []) (sym said.0))
          ∙ ap (λ ls. front (ls ++ line ∷ [])) (sym (append-nil (map moved_line a.moved)))
          ∙ sym (ap (λ zs. front (map moved_line a.moved ++ map price_line (enumerate_from 1 zs)) ++ line ∷ []) empty);
      in_range = with_moved_fits a m h said.1 above;
    }

-- a price line of a sparse flow answer
sparse_price_grows : (a : SparseSolution) (line : List Token) (y : ℕ × ℤ) → IsSparseSolution a → price_said line ≡ Some y → y.0 ≡ length a.prices + 1
    → Grows (Sparse a) line (Sparse (with_sparse_price a y.1))
sparse_price_grows a line y h e next =
    let said = price_said-some line y e in
    let place : 1 + length a.prices ≡ y.0 = omega (arith, next) in
    let front : List (List Token) → List (List Token) = λ ls. version_line ∷ cost_line a.cost ∷ ls in
    record {
      lines =
          ap (λ ys. front (map moved_line a.moved ++ map price_line ys)) (enumerate_from-push 1 a.prices y.1
          ∙ ap (λ n. enumerate_from 1 a.prices ++ (n, y.1) ∷ []) place)
          ∙ ap (λ ls. front (map moved_line a.moved ++ ls)) (map_push price_line (enumerate_from 1 a.prices) y
          ∙ ap (λ l. map price_line (enumerate_from 1 a.prices) ++ l ∷ []) (sym said.0))
          ∙ ap front (sym (append_assoc (map moved_line a.moved) (map price_line (enumerate_from 1 a.prices)) (line ∷ [])));
      in_range = with_sparse_price_fits a y.0 y.1 h said.1 said.2 next;
    }

-- a node line
node_grows : (a : PartialSet) (line : List Token) (v : ℕ) → IsPartialSet a → member_said line ≡ Some v → length a.nodes < a.count
    → is_above_last a.nodes v ≡ true → Grows (Blocked a) line (Blocked (with_member a v))
node_grows a line v h e room above =
    let said = member_said-some line v e in
    record {
      lines =
          ap (λ ls. set_line a.side a.count ∷ ls) (map_push member_line a.nodes v ∙ ap (λ l. map member_line a.nodes ++ l ∷ []) (sym said.0));
      in_range = with_member_fits a line v h e room above;
    }

solution_grows : (a b : Solution) (line : List Token) → IsSolution a → solution_after a line ≡ Some b → Grows (Flow a) line (Flow b)
unfolding solution_after
solution_grows a b line h e = go (sent_said line) (price_said line) refl refl e
  where
    go : (os : Option Sent) (oy : Option (ℕ × ℤ)) → sent_said line ≡ os → price_said line ≡ oy → sent_or_priced a os oy ≡ Some b → Grows (Flow a) line (Flow b)
    go None None es ey f = cc
    go None (Some y) es ey f =
        let t = cond_some (nat_eq y.0 (length a.prices + 1)) (with_price a y.1) b f in
        subst (λ d. Grows (Flow a) line (Flow d)) t.1 (price_grows a line y h ey (eqb-true y.0 (length a.prices + 1) t.0))
    go (Some s) oy es ey f =
        let t = cond_some (nat_eq (length a.prices) 0) (with_sent a s) b f in
        subst (λ d. Grows (Flow a) line (Flow d)) t.1 (sent_grows a line s h es (eqb-true (length a.prices) 0 t.0))

sparse_grows : (a b : SparseSolution) (line : List Token) → IsSparseSolution a → sparse_after a line ≡ Some b → Grows (Sparse a) line (Sparse b)
unfolding sparse_after
sparse_grows a b line h e = go (moved_said line) (price_said line) refl refl e
  where
    go : (om : Option (ℕ × ℤ)) (oy : Option (ℕ × ℤ)) → moved_said line ≡ om → price_said line ≡ oy → moved_or_priced a om oy ≡ Some b
        → Grows (Sparse a) line (Sparse b)
    go None None em ey f = cc
    go None (Some y) em ey f =
        let t = cond_some (nat_eq y.0 (length a.prices + 1)) (with_sparse_price a y.1) b f in
        subst (λ d. Grows (Sparse a) line (Sparse d)) t.1 (sparse_price_grows a line y h ey (eqb-true y.0 (length a.prices + 1) t.0))
    go (Some m) oy em ey f =
        let t = cond_some (is_above_last (arc_numbers a.moved) m.0 && nat_eq (length a.prices) 0) (with_moved a m) b f in
        let both = and_parts (is_above_last (arc_numbers a.moved) m.0) (nat_eq (length a.prices) 0) t.0 in
        subst (λ d. Grows (Sparse a) line (Sparse d)) t.1 (moved_grows a line m h em both.0 (eqb-true (length a.prices) 0 both.1))

set_grows : (a b : PartialSet) (line : List Token) → IsPartialSet a → set_after a line ≡ Some b → Grows (Blocked a) line (Blocked b)
unfolding set_after
set_grows a b line h e = go (member_said line) refl e
  where
    go : (o : Option ℕ) → member_said line ≡ o → with_said a o ≡ Some b → Grows (Blocked a) line (Blocked b)
    go None ev f = cc
    go (Some v) ev f =
        let t = cond_some (nat_lt (length a.nodes) a.count && is_above_last a.nodes v) (with_member a v) b f in
        let both = and_parts (nat_lt (length a.nodes) a.count) (is_above_last a.nodes v) t.0 in
        subst (λ d. Grows (Blocked a) line (Blocked d)) t.1 (node_grows a line v h ev (ltb-true (length a.nodes) a.count both.0) both.1)

line_grows : (d e : Draft) (line : List Token) → IsDraft d → after d line ≡ Some e → Grows d line e
unfolding after
line_grows Empty e line h f =
    let t = map-some (opening_said line) opened e f in
    subst (Grows Empty line) t.2 (opening_grows line t.0 t.1)
line_grows (Flow a) e line h f =
    let t = map-some (solution_after a line) Flow e f in
    subst (Grows (Flow a) line) t.2 (solution_grows a t.0 line h t.1)
line_grows Announced e line h f =
    let t = map-some (cost_said line) costed e f in
    subst (Grows Announced line) t.2 (cost_grows line t.0 t.1)
line_grows (Sparse a) e line h f =
    let t = map-some (sparse_after a line) Sparse e f in
    subst (Grows (Sparse a) line) t.2 (sparse_grows a t.0 line h t.1)
line_grows (Blocked a) e line h f =
    let t = map-some (set_after a line) Blocked e f in
    subst (Grows (Blocked a) line) t.2 (set_grows a t.0 line h t.1)
line_grows (Refused r) e line h f = cc

-- all lines taken in are spelled
record Spelled (d : Draft) (lines : List (List Token)) (e : Draft) : Type 0 where
  all : spelled e ≡ spelled d ++ lines
  in_range : IsDraft e

run_spelled : (lines : List Row) (d e : Draft) → IsDraft d → run_rows d lines ≡ Ok e → Spelled d (map tokens lines) e
run_spelled [] d e h f =
    let is : d ≡ e = cc f in
    subst (Spelled d []) is record { all = sym (append-nil (spelled d)); in_range = h }
run_spelled (row ∷ lines) d e h f = go (after d (tokens row)) refl f (run_spelled lines)
  where
    go : (o : Option Draft) → after d (tokens row) ≡ o → and_then o row.number (λ m. run_rows m lines) ≡ Ok e
        → ((m n : Draft) → IsDraft m → run_rows m lines ≡ Ok n → Spelled m (map tokens lines) n) → Spelled d (tokens row ∷ map tokens lines) e
    go None g k next = cc
    go (Some m) g k next =
        let first = line_grows d m (tokens row) h g in
        let others = next m e first.in_range k in
        record {
          all = others.all ∙ ap (λ front. front ++ map tokens lines) first.lines ∙ append_assoc (spelled d) (tokens row ∷ []) (map tokens lines);
          in_range = others.in_range;
        }

-- a state that gives an answer spells it
finished_spelled : (d : Draft) (a : Answer) → IsDraft d → answer_of_draft d ≡ Some a → (spelling a ≡ spelled d) × IsAnswer a
unfolding answer_of_draft spelling IsAnswer
finished_spelled Empty a h e = cc
finished_spelled (Flow b) a h e =
    let is : FlowAnswered b ≡ a = cc e in
    subst (λ x. (spelling x ≡ spelled (Flow b)) × IsAnswer x) is (refl, h)
finished_spelled Announced a h e = cc
finished_spelled (Sparse b) a h e =
    let is : SparseAnswered b ≡ a = cc e in
    subst (λ x. (spelling x ≡ spelled (Sparse b)) × IsAnswer x) is (refl, h)
finished_spelled (Blocked b) a h e =
    let t = cond_some (nat_eq (length b.nodes) b.count) (BlockedAnswered (record { side = b.side; nodes = b.nodes })) a e in
    let size : length b.nodes ≡ b.count = eqb-true (length b.nodes) b.count t.0 in
    let set : IsBlockingSet (record { side = b.side; nodes = b.nodes }) =
    record { nonempty = omega (arith, size, h.some.0); few = omega (arith, size, h.some.1); are_nodes = h.are_nodes; ascending = h.ascending } in
    subst (λ x. (spelling x ≡ spelled (Blocked b)) × IsAnswer x) t.1 (ap (λ n. set_line b.side n ∷ map member_line b.nodes) size, set)
finished_spelled (Refused r) a h e =
    let is : RefusedAnswered r ≡ a = cc e in
    subst (λ x. (spelling x ≡ spelled (Refused r)) × IsAnswer x) is (refl, h)

-- a text that is parsed to an answer spells it
pub parsed_spells : (text : List ℕ) (a : Answer) → parsing text ≡ Ok a → Spells text a
parsed_spells text a e =
    go (run_rows Empty (rows text)) refl (ap (λ r. outcome r (line_after text)) (sym (run-rows (numbered_lines 1 text) Empty)) ∙ outcome-parsing text ∙ e)
  where
    at_end : (d : Draft) (o : Option Answer) → answer_of_draft d ≡ o → run_rows Empty (rows text) ≡ Ok d → answer_or o (line_after text) ≡ Ok a → Spells text a
    at_end d None f g k = cc
    at_end d (Some b) f g k =
        let is : b ≡ a = cc k in
        let lines = run_spelled (rows text) Empty d tt g in
        let end = finished_spelled d b lines.in_range f in
        subst (Spells text) is record { in_range = end.1; lines = sym (end.0 ∙ lines.all) }

    go : (r : Result Draft ℕ) → run_rows Empty (rows text) ≡ r → outcome r (line_after text) ≡ Ok a → Spells text a
    go (Err line) f k = cc
    go (Ok d) f k = at_end d (answer_of_draft d) refl f k
