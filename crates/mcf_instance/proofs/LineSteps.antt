-- What a line says, past the test of its number of fields and the reading of its numbers.
use Rattle.std.proofs.Common.{◌≡◌, ℕ, ◌+◌, Bool, true, false, not, cond, ◌&&◌, List, [], length, refl, ap, subst, sym, ◌∙◌, Some, None, Ok, Err, of_z, rules, to_z}
use Rattle.std.specs.Prelude.{Option, Result, ℤ, pos, neg_ℤ, int_lt, slice_index_or, ◌==◌}
use Rattle.std.proofs.lemmas.Int.{to_z-of_z}
use mir.Syntax.{w64, w128}
use mir.Val.{SFits}
use Rattle.mcf_flows.specs.declared.code.Code.{Code}
use Rattle.mcf_flows.specs.declared.code.Code.TheVariants.{Bound, Order, Cost, Number}
use Rattle.mcf_text.specs.Whole.{is_whole, whole_of, whole_value}
use Rattle.mcf_text.specs.declared.number.Whole.{Whole}
use Rattle.mcf_text.specs.declared.number.Whole.TheVariants.{Value, NotWhole, OutOfRange}
use Rattle.mcf_instance.specs.Fault.{is_up_to}
use Rattle.mcf_instance.specs.declared.reader.line.Header.{Header}
use Rattle.mcf_instance.specs.declared.reader.line.ArcNumbers.{ArcNumbers}
use Rattle.mcf_flows.specs.Limits.{limits}
use Rattle.mcf_flows.specs.WellFormed.{IsUpTo}
use Rattle.mcf_instance.specs.Private.LineReader.{clamped, kept_size, number_at, number_pair, amount_fault, unless_fault, node_line, node_tests, node_count_fits}
use Rattle.mcf_instance.specs.Private.LineReader.{node_numbers, arc_line, arc_tests, arc_count_fits, arc_numbers}
use Rattle.mcf_instance.proofs.Ranges.{up_to_is}

-- what the reader makes of what a field says as a whole number among those that are kept
abbrev pub number_read : Whole → Result ℤ Code
number_read (Value z) = Ok z
number_read NotWhole = Err Number
number_read OutOfRange = Ok (pos (kept_size + 1))

pub number_at-whole_of : (fields : List (List ℕ)) (k : ℕ) (f : List ℕ) → slice_index_or fields k [] ≡ f
    → number_at fields k ≡ number_read (whole_of f (neg_ℤ (pos kept_size)) (pos kept_size))
unfolding number_at
number_at-whole_of fields k f e = rw e (go (is_whole f) (is_up_to kept_size (whole_value f)) refl refl)
  where
    go : (b c : Bool) → is_whole f ≡ b → is_up_to kept_size (whole_value f) ≡ c → cond (is_whole f) (Ok (clamped (whole_value f))) (Err Number) ≡ number_read
        (whole_of f (neg_ℤ (pos kept_size)) (pos kept_size))
    go false c g h = rw g refl
    go true true g h = rw (g, h) refl
    go true false g h = rw (g, h) refl

-- a number that is read fits, as it is kept
pub value_kept : (fields : List (List ℕ)) (k : ℕ) (f : List ℕ) (z : ℤ) → slice_index_or fields k [] ≡ f
    → whole_of f (neg_ℤ (pos kept_size)) (pos kept_size) ≡ Value z → Ok (to_z w64 (of_z w64 (to_z w128 (of_z w128 z)))) ≡ number_at fields k
value_kept fields k f z at e =
    ap Ok (same (go (is_whole f) (is_up_to kept_size (whole_value f)) refl refl)) ∙ sym (number_at-whole_of fields k f at ∙ ap number_read e)
  where
    go : (b c : Bool) → is_whole f ≡ b → is_up_to kept_size (whole_value f) ≡ c → IsUpTo kept_size z
    go false c g h = cc (rw g at e)
    go true false g h = cc (rw (g, h) at e)
    go true true g h = let read : whole_value f ≡ z = cc (rw (g, h) at e) in subst (IsUpTo kept_size) read (up_to_is kept_size (whole_value f) h)

    same : IsUpTo kept_size z → to_z w64 (of_z w64 (to_z w128 (of_z w128 z))) ≡ z
    same (low, high) =
        let wide : SFits w128 z = search rules in
        let kept : SFits w64 z = search rules in
        ap (λ y. to_z w64 (of_z w64 y)) (to_z-of_z w128 z wide) ∙ to_z-of_z w64 z kept

pub node_line_at : (o : Option Header) (h : Header) (arcs : ℕ) (listed : List Bool) (fields : List (List ℕ)) (a b : ℤ) → o ≡ Some h
    → node_count_fits o (length fields) ≡ true → node_numbers fields ≡ Ok (a, b) → node_line limits o arcs listed fields ≡ node_tests limits h arcs listed a b
unfolding node_line
node_line_at o h arcs listed fields a b p q r = rw (q, r, p) refl

pub arc_line_at : (o : Option Header) (h : Header) (arcs total : ℕ) (listed : List Bool) (fields : List (List ℕ)) (a : ArcNumbers) → o ≡ Some h
    → arc_count_fits o (length fields) ≡ true → arc_numbers fields ≡ Ok a
    → arc_line limits o arcs total listed fields ≡ arc_tests limits h arcs total listed a
unfolding arc_line
arc_line_at o h arcs total listed fields a p q r = rw (q, r, p) refl

pub arc_numbers_six : (fields : List (List ℕ)) (src dst low cap cost : ℤ) → Ok (src, dst) ≡ number_pair fields 1 → Ok low ≡ number_at fields 3
    → Ok (cap, cost) ≡ number_pair fields 4 → (length fields == 6) ≡ true
    → Ok (record { src = src; dst = dst; low = low; cap = cap; cost = cost }) ≡ arc_numbers fields
arc_numbers_six fields src dst low cap cost p q r six = rw (← p, ← q, six, ← r) refl

-- the tests of the bounds and the cost, one after the other
unless_fault-cond : {X : Type 0} (b : Bool) (e : Code) (o : Option Code) (r : Result X Code)
    → unless_fault (cond b (Some e) o) r ≡ cond b (Err e) (unless_fault o r)
unless_fault-cond true e o r = refl
unless_fault-cond false e o r = refl

pub unless_fault-amount_fault : {X : Type 0} (l c k : ℤ) (r : Result X Code) → unless_fault (amount_fault limits l c k) r
    ≡ cond (not (is_up_to limits.bound l && is_up_to limits.bound c)) (Err Bound)
    (cond (int_lt c l) (Err Order) (cond (not (is_up_to limits.cost k)) (Err Cost) r))
unfolding amount_fault
unless_fault-amount_fault l c k r =
    let costs = unless_fault-cond (not (is_up_to limits.cost k)) Cost None r in
    let orders = unless_fault-cond (int_lt c l) Order _ r ∙ ap (cond (int_lt c l) (Err Order)) costs in
    unless_fault-cond (not (is_up_to limits.bound l && is_up_to limits.bound c)) Bound _ r
    ∙ ap (cond (not (is_up_to limits.bound l && is_up_to limits.bound c)) (Err Bound)) orders
