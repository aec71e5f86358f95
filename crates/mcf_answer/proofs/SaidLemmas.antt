-- What a line says, and the line that says it.
use Rattle.std.proofs.Common.{◌≡◌, ℕ, ◌≤◌, Bool, true, false, cond, List, [], ◌∷◌, Some, None, refl, sym, ap, subst, ◌∙◌, arith, pos, negsuc}
use Rattle.std.specs.Prelude.{ℤ, Option, codes, option_map, neg_ℤ}
use Rattle.std.proofs.lemmas.Slice.Eq.{bytes_eq-Decides}
use Rattle.mcf_answer.specs.Ranges.{IsAmount, IsArcInRange, IsNodeInRange, amount_limit}
use Rattle.mcf_answer.specs.Said.{amount_of, arc_of, code_of, cost_said, line_number_of, node_of, member_said, moved_said, number_within, one_behind, price_said}
use Rattle.mcf_answer.specs.Said.{refusal_said, sent_said, set_said, side_of, three_behind, two_behind, version_said, ◌>>=◌}
use Rattle.mcf_answer.specs.Solution.{IsSent}
use Rattle.mcf_answer.specs.SparseSolution.{IsMoved}
use Rattle.mcf_answer.specs.Spelling.{cost_line, flow_line, member_line, moved_line, price_line, refusal_line, set_line, side_word, version_line}
use Rattle.mcf_answer.specs.Token.{Token, Word, Number, is_word}
use Rattle.mcf_answer.specs.declared.answers.Sent.{Sent}
use Rattle.mcf_flows.specs.Codes.{Fault, code_word}
use Rattle.mcf_flows.specs.Limits.{node_limit, arc_limit, line_limit}
use Rattle.mcf_flows.specs.declared.code.Code.{Code}
use Rattle.mcf_flows.specs.declared.problem.Side.{Side}
use Rattle.mcf_flows.specs.declared.problem.Side.TheVariants.{Send, Take}
use Rattle.mcf_flows.proofs.CodeWords.{code_of_word-known, code_of_word-code_word}
use Rattle.mcf_text.specs.Row.{natural}
use Rattle.mcf_text.specs.Whole.{is_within}

-- ---- options

if-some : {A : Type 0} (b : Bool) (o : Option A) (x : A) → cond b o None ≡ Some x → (b ≡ true) × (o ≡ Some x)
if-some true o x e = (refl, e)
if-some false o x e = cc

bind-some : {A B : Type 0} (o : Option A) (f : A → Option B) (y : B) → (o >>= f) ≡ Some y → (x : A) × (o ≡ Some x) × (f x ≡ Some y)
bind-some None f y e = cc
bind-some (Some x) f y e = (x, refl, e)

pub map-some : {A B : Type 0} (o : Option A) (f : A → B) (y : B) → option_map f o ≡ Some y → (x : A) × (o ≡ Some x) × (f x ≡ y)
map-some None f y e = cc
map-some (Some x) f y e = (x, refl, cc)

-- ---- ranges

amount_from : (z : ℤ) → is_within (neg_ℤ (pos amount_limit)) (pos amount_limit) z ≡ true → IsAmount z
amount_from (pos n) e = (grind arith, grind arith)
amount_from (negsuc n) e = (grind arith, grind arith)

amount_within : (z : ℤ) → IsAmount z → is_within (neg_ℤ (pos amount_limit)) (pos amount_limit) z ≡ true
amount_within (pos n) h = grind arith
amount_within (negsuc n) h = grind arith

-- a number from 1 to a bound, and its natural number
record IsCount (bound : ℕ) (z : ℤ) : Type 0 where
  same : z ≡ pos (natural z)
  low : 1 ≤ natural z
  high : natural z ≤ bound

count_from : (bound : ℕ) (z : ℤ) → is_within (pos 1) (pos bound) z ≡ true → IsCount bound z
count_from bound (pos n) e = record { same = refl; low = grind arith; high = grind arith }
count_from bound (negsuc n) e = absurd (grind arith)

count_within : (bound n : ℕ) → 1 ≤ n → n ≤ bound → is_within (pos 1) (pos bound) (pos n) ≡ true
count_within bound n low high = grind arith

-- ---- fields

number_within-some : (lo hi : ℤ) (t : Token) (z : ℤ) → number_within lo hi t ≡ Some z → (t ≡ Number z) × (is_within lo hi z ≡ true)
number_within-some lo hi (Word bytes) z e = cc
number_within-some lo hi (Number y) z e =
    let f = if-some (is_within lo hi y) (Some y) z e in
    let same : y ≡ z = cc f.1 in
    (ap Number same, ap (is_within lo hi) (sym same) ∙ f.0)

number_within-number : (lo hi z : ℤ) → is_within lo hi z ≡ true → number_within lo hi (Number z) ≡ Some z
number_within-number lo hi z e = ap (λ b. cond b (Some z) None) e

amount_of-some : (t : Token) (z : ℤ) → amount_of t ≡ Some z → (t ≡ Number z) × IsAmount z
amount_of-some t z e =
    let f = number_within-some (neg_ℤ (pos amount_limit)) (pos amount_limit) t z e in
    (f.0, amount_from z f.1)

amount_of-number : (z : ℤ) → IsAmount z → amount_of (Number z) ≡ Some z
amount_of-number z h = number_within-number (neg_ℤ (pos amount_limit)) (pos amount_limit) z (amount_within z h)

count_of-some : (bound : ℕ) (t : Token) (v : ℕ) → option_map natural (number_within (pos 1) (pos bound) t) ≡ Some v
    → (t ≡ Number (pos v)) × (1 ≤ v) × (v ≤ bound)
count_of-some bound t v e =
    let f = map-some (number_within (pos 1) (pos bound) t) natural v e in
    let g = number_within-some (pos 1) (pos bound) t f.0 f.1 in
    let h = count_from bound f.0 g.1 in
    (g.0 ∙ ap Number (h.same ∙ ap pos f.2), omega (arith, h.low, f.2), omega (arith, h.high, f.2))

count_of-number : (bound v : ℕ) → 1 ≤ v → v ≤ bound → option_map natural (number_within (pos 1) (pos bound) (Number (pos v))) ≡ Some v
count_of-number bound v low high = ap (option_map natural) (number_within-number (pos 1) (pos bound) (pos v) (count_within bound v low high))

node_of-some : (t : Token) (v : ℕ) → node_of t ≡ Some v → (t ≡ Number (pos v)) × IsNodeInRange v
node_of-some t v e =
    let f = count_of-some node_limit t v e in
    (f.0, (f.1, f.2))

node_of-number : (v : ℕ) → IsNodeInRange v → node_of (Number (pos v)) ≡ Some v
node_of-number v h = count_of-number node_limit v h.0 h.1

arc_of-some : (t : Token) (k : ℕ) → arc_of t ≡ Some k → (t ≡ Number (pos k)) × IsArcInRange k
arc_of-some t k e =
    let f = count_of-some arc_limit t k e in
    (f.0, (f.1, f.2))

arc_of-number : (k : ℕ) → IsArcInRange k → arc_of (Number (pos k)) ≡ Some k
arc_of-number k h = count_of-number arc_limit k h.0 h.1

-- a number in the range from 2 to 2 is 2
is_two : (z : ℤ) → is_within (pos 2) (pos 2) z ≡ true → z ≡ pos 2
is_two (pos n) e =
    let two : n ≡ 2 = grind arith in
    ap pos two
is_two (negsuc n) e = absurd (grind arith)

is_word-true : (word : List ℕ) (t : Token) → is_word word t ≡ true → t ≡ Word word
is_word-true word (Word bytes) e = ap Word ((bytes_eq-Decides bytes word).0 e)
is_word-true word (Number z) e = cc

side_of-some : (t : Token) (side : Side) → side_of t ≡ Some side → t ≡ Word (side_word side)
side_of-some t side e = go (is_word (side_word Send) t) (is_word (side_word Take) t) refl refl
  where
    go : (b c : Bool) → is_word (side_word Send) t ≡ b → is_word (side_word Take) t ≡ c → t ≡ Word (side_word side)
    go true c h i =
        let is : Send ≡ side = cc (sym (ap (λ b. cond b (Some Send) (cond (is_word (side_word Take) t) (Some Take) None)) h) ∙ e) in
        is_word-true (side_word Send) t h ∙ ap (λ s. Word (side_word s)) is
    go false true h i =
        let is : Take ≡ side = cc (sym (ap (λ b. cond b (Some Send) (cond (is_word (side_word Take) t) (Some Take) None)) h
        ∙ ap (λ b. cond b (Some Take) None) i) ∙ e) in
        is_word-true (side_word Take) t i ∙ ap (λ s. Word (side_word s)) is
    go false false h i =
        cc (sym (ap (λ b. cond b (Some Send) (cond (is_word (side_word Take) t) (Some Take) None)) h ∙ ap (λ b. cond b (Some Take) None) i) ∙ e)

side_of-word : (side : Side) → side_of (Word (side_word side)) ≡ Some side
side_of-word Send = refl
side_of-word Take = refl

code_of-some : (t : Token) (c : Code) → code_of t ≡ Some c → t ≡ Word (code_word c)
code_of-some (Word bytes) c e = ap Word (sym ((code_of_word-known bytes c).0 e))
code_of-some (Number z) c e = cc

-- ---- lines: what a line says is in range, and the line is the one that says it

one_behind-some : (word : List ℕ) (line : List Token) (t : Token) → one_behind word line ≡ Some t → line ≡ Word word ∷ t ∷ []
one_behind-some word (first ∷ one ∷ []) t e =
    let w = if-some (is_word word first) (Some one) t e in
    let is : first ≡ Word word = is_word-true word first w.0 in
    cc
one_behind-some word line t e = cc

two_behind-some : (word : List ℕ) (line : List Token) (t : Token × Token) → two_behind word line ≡ Some t → line ≡ Word word ∷ t.0 ∷ t.1 ∷ []
two_behind-some word (first ∷ one ∷ two ∷ []) t e =
    let w = if-some (is_word word first) (Some (one, two)) t e in
    let is : first ≡ Word word = is_word-true word first w.0 in
    let same : t ≡ (one, two) = cc w.1 in
    ap (λ f. f ∷ one ∷ two ∷ []) is ∙ ap (λ p. Word word ∷ p.0 ∷ p.1 ∷ []) (sym same)
two_behind-some word line t e = cc

three_behind-some : (word : List ℕ) (line : List Token) (t : Token × Token × Token) → three_behind word line ≡ Some t
    → line ≡ Word word ∷ t.0 ∷ t.1 ∷ t.2 ∷ []
three_behind-some word (first ∷ one ∷ two ∷ three ∷ []) t e =
    let w = if-some (is_word word first) (Some (one, two, three)) t e in
    let is : first ≡ Word word = is_word-true word first w.0 in
    let same : t ≡ (one, two, three) = cc w.1 in
    ap (λ f. f ∷ one ∷ two ∷ three ∷ []) is ∙ ap (λ p. Word word ∷ p.0 ∷ p.1 ∷ p.2 ∷ []) (sym same)
three_behind-some word line t e = cc

pub version_said-some : (line : List Token) (version : ℤ) → version_said line ≡ Some version → line ≡ version_line
unfolding version_said
version_said-some line version e =
    let w = bind-some (one_behind (codes "v") line) _ version e in
    let a = number_within-some (pos 2) (pos 2) w.0 version w.2 in
    one_behind-some (codes "v") line w.0 w.1 ∙ ap (λ t. Word (codes "v") ∷ t ∷ []) (a.0 ∙ ap Number (is_two version a.1))

pub version_said-line : version_said version_line ≡ Some (pos 2)
unfolding version_said
version_said-line = refl

pub cost_said-some : (line : List Token) (cost : ℤ) → cost_said line ≡ Some cost → (line ≡ cost_line cost) × IsAmount cost
unfolding cost_said
cost_said-some line cost e =
    let w = bind-some (one_behind (codes "s") line) _ cost e in
    let a = amount_of-some w.0 cost w.2 in
    (one_behind-some (codes "s") line w.0 w.1 ∙ ap (λ t. Word (codes "s") ∷ t ∷ []) a.0, a.1)

pub cost_said-line : (cost : ℤ) → IsAmount cost → cost_said (cost_line cost) ≡ Some cost
unfolding cost_said
cost_said-line cost h = amount_of-number cost h

pub sent_said-some : (line : List Token) (s : Sent) → sent_said line ≡ Some s → (line ≡ flow_line s) × IsSent s
unfolding sent_said
sent_said-some line s e =
    let w = bind-some (three_behind (codes "f") line) _ s e in
    let a = bind-some (node_of w.0.0) _ s w.2 in
    let b = bind-some (node_of w.0.1) _ s a.2 in
    let c = bind-some (amount_of w.0.2) _ s b.2 in
    let is : s ≡ record { src = a.0; dst = b.0; flow = c.0 } = cc c.2 in
    let tokens = three_behind-some (codes "f") line w.0 w.1 in
    let from = node_of-some w.0.0 a.0 a.1 in
    let to = node_of-some w.0.1 b.0 b.1 in
    let carried = amount_of-some w.0.2 c.0 c.1 in
    let line : line ≡ flow_line (record { src = a.0; dst = b.0; flow = c.0 }) = cc in
    let fits : IsSent (record { src = a.0; dst = b.0; flow = c.0 }) = record { src_is_node = from.1; dst_is_node = to.1; flow_small = carried.1 } in
    (line ∙ ap flow_line (sym is), subst IsSent (sym is) fits)

pub sent_said-line : (s : Sent) → IsSent s → sent_said (flow_line s) ≡ Some s
unfolding sent_said
sent_said-line s h = rw (node_of-number s.src h.src_is_node, node_of-number s.dst h.dst_is_node, amount_of-number s.flow h.flow_small) refl

pub moved_said-some : (line : List Token) (m : ℕ × ℤ) → moved_said line ≡ Some m → (line ≡ moved_line m) × IsMoved m
unfolding moved_said
moved_said-some line m e =
    let w = bind-some (two_behind (codes "g") line) _ m e in
    let a = bind-some (arc_of w.0.0) _ m w.2 in
    let b = bind-some (amount_of w.0.1) _ m a.2 in
    let is : m ≡ (a.0, b.0) = cc b.2 in
    let tokens = two_behind-some (codes "g") line w.0 w.1 in
    let named = arc_of-some w.0.0 a.0 a.1 in
    let amount = amount_of-some w.0.1 b.0 b.1 in
    let line : line ≡ moved_line (a.0, b.0) = cc in
    (line ∙ ap moved_line (sym is), subst IsMoved (sym is) (named.1, amount.1))

pub moved_said-line : (m : ℕ × ℤ) → IsMoved m → moved_said (moved_line m) ≡ Some m
unfolding moved_said
moved_said-line m h = rw (arc_of-number m.0 h.0, amount_of-number m.1 h.1) refl

pub price_said-some : (line : List Token) (y : ℕ × ℤ) → price_said line ≡ Some y → (line ≡ price_line y) × IsNodeInRange y.0 × IsAmount y.1
unfolding price_said
price_said-some line y e =
    let w = bind-some (two_behind (codes "y") line) _ y e in
    let a = bind-some (node_of w.0.0) _ y w.2 in
    let b = bind-some (amount_of w.0.1) _ y a.2 in
    let is : y ≡ (a.0, b.0) = cc b.2 in
    let tokens = two_behind-some (codes "y") line w.0 w.1 in
    let node = node_of-some w.0.0 a.0 a.1 in
    let amount = amount_of-some w.0.1 b.0 b.1 in
    let line : line ≡ price_line (a.0, b.0) = cc in
    (line ∙ ap price_line (sym is), subst (λ p. IsNodeInRange p.0) (sym is) node.1, subst (λ p. IsAmount p.1) (sym is) amount.1)

pub price_said-line : (v : ℕ) (z : ℤ) → IsNodeInRange v → IsAmount z → price_said (price_line (v, z)) ≡ Some (v, z)
unfolding price_said
price_said-line v z h k = rw (node_of-number v h, amount_of-number z k) refl

pub member_said-some : (line : List Token) (v : ℕ) → member_said line ≡ Some v → (line ≡ member_line v) × IsNodeInRange v
unfolding member_said
member_said-some line v e =
    let w = bind-some (one_behind (codes "x") line) _ v e in
    let a = node_of-some w.0 v w.2 in
    (one_behind-some (codes "x") line w.0 w.1 ∙ ap (λ t. Word (codes "x") ∷ t ∷ []) a.0, a.1)

pub member_said-line : (v : ℕ) → IsNodeInRange v → member_said (member_line v) ≡ Some v
unfolding member_said
member_said-line v h = node_of-number v h

pub set_said-some : (line : List Token) (set : Side × ℕ) → set_said line ≡ Some set → (line ≡ set_line set.0 set.1) × IsNodeInRange set.1
unfolding set_said
set_said-some line set e =
    let w = bind-some (two_behind (codes "i") line) _ set e in
    let a = bind-some (node_of w.0.0) _ set w.2 in
    let b = bind-some (side_of w.0.1) _ set a.2 in
    let is : set ≡ (b.0, a.0) = cc b.2 in
    let tokens = two_behind-some (codes "i") line w.0 w.1 in
    let size = node_of-some w.0.0 a.0 a.1 in
    let side = side_of-some w.0.1 b.0 b.1 in
    let line : line ≡ set_line b.0 a.0 = cc in
    (line ∙ ap (λ p. set_line p.0 p.1) (sym is), subst (λ p. IsNodeInRange p.1) (sym is) size.1)

pub set_said-line : (side : Side) (count : ℕ) → IsNodeInRange count → set_said (set_line side count) ≡ Some (side, count)
unfolding set_said
set_said-line side count h = rw (node_of-number count h, side_of-word side) refl

pub refusal_said-some : (line : List Token) (r : Fault) → refusal_said line ≡ Some r → (line ≡ refusal_line r) × (1 ≤ r.line) × (r.line ≤ line_limit)
unfolding refusal_said
refusal_said-some line r e =
    let w = bind-some (two_behind (codes "r") line) _ r e in
    let a = bind-some (line_number_of w.0.0) _ r w.2 in
    let b = bind-some (code_of w.0.1) _ r a.2 in
    let is : r ≡ record { line = a.0; code = b.0 } = cc b.2 in
    let tokens = two_behind-some (codes "r") line w.0 w.1 in
    let place = count_of-some line_limit w.0.0 a.0 a.1 in
    let code = code_of-some w.0.1 b.0 b.1 in
    let line : line ≡ refusal_line (record { line = a.0; code = b.0 }) = cc in
    (line ∙ ap refusal_line (sym is), subst (λ s. 1 ≤ s.line) (sym is) place.1, subst (λ s. s.line ≤ line_limit) (sym is) place.2)

pub refusal_said-line : (r : Fault) → 1 ≤ r.line → r.line ≤ line_limit → refusal_said (refusal_line r) ≡ Some r
unfolding refusal_said
refusal_said-line r low high = rw (count_of-number line_limit r.line low high, code_of_word-code_word r.code) refl
