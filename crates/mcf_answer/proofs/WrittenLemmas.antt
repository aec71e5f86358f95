-- What is written of an answer spells it.
use Rattle.std.proofs.Common.{◌≡◌, ◌≢◌, ℕ, suc, ◌+◌, ◌≤◌, Bool, true, not, cond, List, [], ◌∷◌, ◌++◌, length, pos, negsuc, refl, sym, ap, subst, ◌∙◌}
use Rattle.std.proofs.Common.{arith, append_assoc, append-nil}
use Rattle.std.specs.Prelude.{ℤ, All, FitsSigned, IsFalse, IsTrue, codes, filter, flat_map, map, nat_eq, nat_lt, slice_index, ◌&&◌}
use Rattle.std.specs.Fmt.{signed_decimal}
use Rattle.std.specs.Int.{w128}
use Rattle.std.specs.List.{AllByRecursion, enumerate_from, join_with_byte, list_all}
use Rattle.std.proofs.lemmas.Bool.{and_parts, eqb-false, ltb-true, not-true}
use Rattle.std.proofs.lemmas.Int.{ints}
use Rattle.std.proofs.lemmas.List.Elements.{All-append, All-cons, All-head, All-map, All-nil, All-tail, All-weaker}
use Rattle.std.proofs.lemmas.List.Sums.{AllPass-from_list_all}
use Rattle.mcf_answer.specs.Ranges.{IsAmount, IsNodeInRange, amount_limit}
use Rattle.mcf_answer.specs.Solution.{IsSent}
use Rattle.mcf_answer.specs.SparseSolution.{IsMoved}
use Rattle.mcf_answer.specs.Spelling.{IsAnswer, Spells, cost_line, flow_line, member_line, moved_line, price_line, refusal_line, set_line, side_word, spelling}
use Rattle.mcf_answer.specs.Spelling.{version_line}
use Rattle.mcf_answer.specs.Token.{Token, Word, Number, token_lines, token_of, tokens}
use Rattle.mcf_answer.specs.Written.{line_text, token_text, written}
use Rattle.mcf_answer.specs.declared.answers.Answer.{Answer}
use Rattle.mcf_answer.specs.declared.answers.Answer.TheVariants.{Flow, Sparse, Blocked, Refused}
use Rattle.mcf_answer.specs.declared.answers.Sent.{Sent}
use Rattle.mcf_flows.specs.Codes.{Fault, code_word}
use Rattle.mcf_flows.specs.Limits.{node_limit, line_limit}
use Rattle.mcf_flows.specs.declared.problem.Side.{Side}
use Rattle.mcf_flows.specs.declared.problem.Side.TheVariants.{Send, Take}
use Rattle.mcf_answer.proofs.Words.{is_plain_byte, is_plain_word, plain_code_word}
use Rattle.mcf_text.specs.Fields.{HasFields, IsRun, begins_kept, fields_of, is_blank, is_kept}
use Rattle.mcf_text.specs.Lines.{IsOneLine, line_feed, lines_of}
use Rattle.mcf_text.specs.Row.{row_of}
use Rattle.mcf_text.specs.Whole.{is_whole, whole_value}
use Rattle.mcf_text.proofs.FieldsLemmas.{AreTheFields-fields_of, is_kept-fields_of}
use Rattle.mcf_text.proofs.LinesLemmas.{lines_of-line}
use Rattle.mcf_text.proofs.WholeLemmas.{IsNumberText-signed_decimal}

-- ---- fields

-- the text of the token is a field of a line, which says the token
record IsPlain (t : Token) : Type 0 where
  run : IsRun (token_text t)
  one_line : IsOneLine (token_text t)
  same : token_of (token_text t) ≡ t

plain_number : (z : ℤ) → FitsSigned w128 z → IsPlain (Number z)
plain_number z fits =
    let text = IsNumberText-signed_decimal z fits in
    record {
      run = text.run;
      one_line = text.one_line;
      same = ap (λ b. cond b (Number (whole_value (signed_decimal z))) (Word (signed_decimal z))) text.whole ∙ ap Number text.value;
    }

no_blanks : (word : List ℕ) → list_all is_plain_byte word ≡ true → All (λ b. IsFalse (is_blank b)) word
no_blanks word e =
    All-weaker (λ b. is_plain_byte b ≡ true) (λ b. IsFalse (is_blank b)) (λ b f. not-true (is_blank b) (and_parts (not (is_blank b)) (not (nat_eq b 10)) f).0)
    word
    (AllPass-from_list_all is_plain_byte word e)

no_line_feeds : (word : List ℕ) → list_all is_plain_byte word ≡ true → IsOneLine word
no_line_feeds word e =
    All-weaker (λ b. is_plain_byte b ≡ true) (λ b. b ≢ line_feed) (λ b f. eqb-false b 10
    (not-true (nat_eq b 10) (and_parts (not (is_blank b)) (not (nat_eq b 10)) f).1)) word
    (AllPass-from_list_all is_plain_byte word e)

plain_word : (word : List ℕ) → is_plain_word word ≡ true → IsPlain (Word word)
plain_word word e =
    let t = and_parts (nat_lt 0 (length word) && list_all is_plain_byte word) (not (is_whole word)) e in
    let u = and_parts (nat_lt 0 (length word)) (list_all is_plain_byte word) t.0 in
    record {
      run = record { nonempty = ltb-true 0 (length word) u.0; no_blank = no_blanks word u.1 };
      one_line = no_line_feeds word u.1;
      same = ap (λ b. cond b (Number (whole_value word)) (Word word)) (not-true (is_whole word) t.1);
    }

plain_side : (side : Side) → IsPlain (Word (side_word side))
plain_side Send = plain_word (codes "send") refl
plain_side Take = plain_word (codes "take") refl

amount_fits : (z : ℤ) → IsAmount z → FitsSigned w128 z
amount_fits (pos n) h =
    let high = h.1 in
    let small : n ≤ amount_limit = grind arith in
    record { sfits = omega (arith, small) }
amount_fits (negsuc n) h =
    let low = h.0 in
    let small : suc n ≤ amount_limit = grind arith in
    record { sfits = omega (arith, small) }

count_fits : (n : ℕ) → n ≤ line_limit → FitsSigned w128 (pos n)
count_fits n h = record { sfits = omega (arith, ints, h) }

-- ---- lines

-- the bytes of a line, without its end
abbrev body : List Token → List ℕ
body line = join_with_byte 32 (map token_text line)

-- a first word that begins no comment, and other tokens, all plain
record IsPlainLine (line : List Token) : Type 0 where
  first : Token
  others : List Token
  is : line ≡ first ∷ others
  kept : not (nat_eq (slice_index (token_text first) 0) 99) ≡ true
  plain : IsPlain first
  each : AllByRecursion IsPlain others

has_after_blank : (line field : List ℕ) (fields : List (List ℕ)) → HasFields line (field ∷ fields) → HasFields (32 ∷ line) (field ∷ fields)
has_after_blank line field fields has =
    (32 ∷ has.0, has.1, ap (λ more. 32 ∷ more) has.2, All-cons (λ b. IsTrue (is_blank b)) 32 has.0 refl has.3, has.4, has.5, has.6)

has_joined : (t : Token) (ts : List Token) → IsPlain t → AllByRecursion IsPlain ts → HasFields (body (t ∷ ts)) (map token_text (t ∷ ts))
has_joined t [] h each = ([], [], sym (append-nil (token_text t)), All-nil (λ b. IsTrue (is_blank b)), h.run, tt, All-nil (λ b. IsTrue (is_blank b)))
has_joined t (u ∷ us) h each = (
  [],
  32 ∷ body (u ∷ us),
  refl,
  All-nil (λ b. IsTrue (is_blank b)),
  h.run,
  refl,
  has_after_blank (body (u ∷ us)) (token_text u) (map token_text us)
      (has_joined u us each.0 each.1),
)

fields_of-body : (t : Token) (ts : List Token) → IsPlain t → AllByRecursion IsPlain ts → fields_of (body (t ∷ ts)) ≡ map token_text (t ∷ ts)
fields_of-body t ts h each = sym ((AreTheFields-fields_of (body (t ∷ ts))).unique (map token_text (t ∷ ts)) (has_joined t ts h each))

same_tokens : (ts : List Token) → AllByRecursion IsPlain ts → map token_of (map token_text ts) ≡ ts
same_tokens [] each = refl
same_tokens (t ∷ ts) each = ap (λ u. u ∷ map token_of (map token_text ts)) each.0.same ∙ ap (λ us. t ∷ us) (same_tokens ts each.1)

body_tokens : (line : List Token) → IsPlainLine line → map token_of (fields_of (body line)) ≡ line
body_tokens line h =
    ap (λ l. map token_of (fields_of (body l))) h.is
    ∙ ap (map token_of) (fields_of-body h.first h.others h.plain h.each)
    ∙ same_tokens (h.first ∷ h.others) (h.plain, h.each)
    ∙ sym h.is

body_kept : (line : List Token) → IsPlainLine line → is_kept (body line) ≡ true
body_kept line h =
    ap (λ l. is_kept (body l)) h.is
    ∙ is_kept-fields_of (body (h.first ∷ h.others))
    ∙ ap begins_kept (fields_of-body h.first h.others h.plain h.each)
    ∙ h.kept

joined_one_line : (t : Token) (ts : List Token) → IsPlain t → AllByRecursion IsPlain ts → IsOneLine (body (t ∷ ts))
joined_one_line t [] h each = h.one_line
joined_one_line t (u ∷ us) h each =
    All-append (λ b. b ≢ line_feed) (token_text t) (32 ∷ body (u ∷ us)) h.one_line
    (All-cons (λ b. b ≢ line_feed) 32 (body (u ∷ us)) (λ e. omega (arith, e)) (joined_one_line u us each.0 each.1))

body_one_line : (line : List Token) → IsPlainLine line → IsOneLine (body line)
body_one_line line h = subst (λ l. IsOneLine (body l)) (sym h.is) (joined_one_line h.first h.others h.plain h.each)

-- ---- texts

text_lines : (ls : List (List Token)) → All IsPlainLine ls → lines_of (flat_map line_text ls) ≡ map body ls
text_lines [] all = refl
text_lines (l ∷ ls) all =
    ap lines_of (append_assoc (body l) (10 ∷ []) (flat_map line_text ls))
    ∙ lines_of-line (body l) (flat_map line_text ls) (body_one_line l (All-head IsPlainLine l ls all))
    ∙ ap (λ more. body l ∷ more) (text_lines ls (All-tail IsPlainLine l ls all))

-- whether a numbered line is kept
abbrev keeps_line : ℕ × List ℕ → Bool
keeps_line line = is_kept line.1

body_rows : (n : ℕ) (ls : List (List Token)) → All IsPlainLine ls → map tokens (map row_of (filter keeps_line (enumerate_from n (map body ls)))) ≡ ls
body_rows n [] all = refl
body_rows n (l ∷ ls) all =
    let plain = All-head IsPlainLine l ls all in
    ap (λ b. map tokens (map row_of (cond b ((n, body l) ∷ filter keeps_line (enumerate_from (n + 1) (map body ls)))
    (filter keeps_line (enumerate_from (n + 1) (map body ls)))))) (body_kept l plain)
    ∙ ap (λ t. t ∷ map tokens (map row_of (filter keeps_line (enumerate_from (n + 1) (map body ls))))) (body_tokens l plain)
    ∙ ap (λ ts. l ∷ ts) (body_rows (n + 1) ls (All-tail IsPlainLine l ls all))

text_tokens : (ls : List (List Token)) → All IsPlainLine ls → token_lines (flat_map line_text ls) ≡ ls
text_tokens ls all =
    ap (λ lines. map tokens (map row_of (filter keeps_line (enumerate_from 1 lines)))) (text_lines ls all)
    ∙ body_rows 1 ls all

-- ---- answers

plain_cost : (cost : ℤ) → IsAmount cost → IsPlainLine (cost_line cost)
plain_cost cost h = record {
  first = Word (codes "s");
  others = Number cost ∷ [];
  is = refl;
  kept = refl;
  plain = plain_word (codes "s") refl;
  each = (plain_number cost (amount_fits cost h), tt);
}

plain_sent : (s : Sent) → IsSent s → IsPlainLine (flow_line s)
plain_sent s h = record {
  first = Word (codes "f");
  others = Number (pos s.src) ∷ Number (pos s.dst) ∷ Number s.flow ∷ [];
  is = refl;
  kept = refl;
  plain = plain_word (codes "f") refl;
  each = (
    plain_number (pos s.src) (count_fits s.src (omega (arith, h.src_is_node.1))),
    (plain_number (pos s.dst) (count_fits s.dst (omega (arith, h.dst_is_node.1))), (plain_number s.flow (amount_fits s.flow h.flow_small), tt)),
  );
}

plain_version : IsPlainLine version_line
plain_version = record {
  first = Word (codes "v");
  others = Number (pos 2) ∷ [];
  is = refl;
  kept = refl;
  plain = plain_word (codes "v") refl;
  each = (plain_number (pos 2) (count_fits 2 (omega arith)), tt);
}

plain_moved : (m : ℕ × ℤ) → IsMoved m → IsPlainLine (moved_line m)
plain_moved m h = record {
  first = Word (codes "g");
  others = Number (pos m.0) ∷ Number m.1 ∷ [];
  is = refl;
  kept = refl;
  plain = plain_word (codes "g") refl;
  each = (plain_number (pos m.0) (count_fits m.0 (omega (arith, h.0.1))), (plain_number m.1 (amount_fits m.1 h.1), tt));
}

plain_price : (v : ℕ) (z : ℤ) → v ≤ line_limit → IsAmount z → IsPlainLine (price_line (v, z))
plain_price v z few h = record {
  first = Word (codes "y");
  others = Number (pos v) ∷ Number z ∷ [];
  is = refl;
  kept = refl;
  plain = plain_word (codes "y") refl;
  each = (plain_number (pos v) (count_fits v few), (plain_number z (amount_fits z h), tt));
}

plain_set : (side : Side) (count : ℕ) → count ≤ node_limit → IsPlainLine (set_line side count)
plain_set side count few = record {
  first = Word (codes "i");
  others = Number (pos count) ∷ Word (side_word side) ∷ [];
  is = refl;
  kept = refl;
  plain = plain_word (codes "i") refl;
  each = (plain_number (pos count) (count_fits count (omega (arith, few))), (plain_side side, tt));
}

plain_node : (v : ℕ) → IsNodeInRange v → IsPlainLine (member_line v)
plain_node v h = record {
  first = Word (codes "x");
  others = Number (pos v) ∷ [];
  is = refl;
  kept = refl;
  plain = plain_word (codes "x") refl;
  each = (plain_number (pos v) (count_fits v (omega (arith, h.1))), tt);
}

plain_refusal : (r : Fault) → r.line ≤ line_limit → IsPlainLine (refusal_line r)
plain_refusal r few = record {
  first = Word (codes "r");
  others = Number (pos r.line) ∷ Word (code_word r.code) ∷ [];
  is = refl;
  kept = refl;
  plain = plain_word (codes "r") refl;
  each = (plain_number (pos r.line) (count_fits r.line few), (plain_word (code_word r.code) (plain_code_word r.code), tt));
}

plain_prices : (n : ℕ) (zs : List ℤ) → n + length zs ≤ line_limit → All IsAmount zs → All IsPlainLine (map price_line (enumerate_from n zs))
plain_prices n [] few all = All-nil IsPlainLine
plain_prices n (z ∷ zs) few all =
    All-cons IsPlainLine (price_line (n, z)) (map price_line (enumerate_from (n + 1) zs))
    (plain_price n z (omega (arith, few)) (All-head IsAmount z zs all)) (plain_prices (n + 1) zs (omega (arith, few)) (All-tail IsAmount z zs all))

-- the lines of some items
plain_each : {X : Type 0} (P : X → Type 0) (line : X → List Token) → ((x : X) → P x → IsPlainLine (line x)) → (xs : List X) → All P xs
    → All IsPlainLine (map line xs)
plain_each P line plain xs all = All-map IsPlainLine line xs (All-weaker P (λ x. IsPlainLine (line x)) plain xs all)

plain_answer : (a : Answer) → IsAnswer a → All IsPlainLine (spelling a)
unfolding spelling IsAnswer
plain_answer (Flow a) h =
    All-cons IsPlainLine (cost_line a.cost) (map flow_line a.sent ++ map price_line (enumerate_from 1 a.prices)) (plain_cost a.cost h.cost_small)
    (All-append IsPlainLine (map flow_line a.sent) (map price_line (enumerate_from 1 a.prices)) (plain_each IsSent flow_line plain_sent a.sent h.sent_fit)
    (plain_prices 1 a.prices (omega (arith, h.few_prices)) h.prices_small))
plain_answer (Sparse a) h =
    let others = map moved_line a.moved ++ map price_line (enumerate_from 1 a.prices) in
    All-cons IsPlainLine version_line (cost_line a.cost ∷ others) plain_version
    (All-cons IsPlainLine (cost_line a.cost) others (plain_cost a.cost h.cost_small)
    (All-append IsPlainLine (map moved_line a.moved) (map price_line (enumerate_from 1 a.prices))
    (plain_each IsMoved moved_line plain_moved a.moved h.moved_fit)
    (plain_prices 1 a.prices (omega (arith, h.few_prices)) h.prices_small)))
plain_answer (Blocked a) h =
    All-cons IsPlainLine (set_line a.side (length a.nodes)) (map member_line a.nodes) (plain_set a.side (length a.nodes) h.few)
    (plain_each IsNodeInRange member_line plain_node a.nodes h.are_nodes)
plain_answer (Refused r) h = All-cons IsPlainLine (refusal_line r) [] (plain_refusal r h.1) (All-nil IsPlainLine)

-- the written text spells the answer
pub written_spells : (a : Answer) → IsAnswer a → Spells (written a) a
unfolding written
written_spells a h = record { in_range = h; lines = text_tokens (spelling a) (plain_answer a h) }
