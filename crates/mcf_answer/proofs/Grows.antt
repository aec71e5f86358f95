-- What an answer keeps, it keeps with one more line that fits.
use Rattle.std.proofs.Common.{◌≡◌, ℕ, ◌+◌, ◌-◌, ◌<◌, true, List, [], ◌∷◌, ◌++◌, length, get_or, Some, sym, ap, subst, ◌∙◌, inl, inr, arith}
use Rattle.std.specs.Prelude.{ℤ, nat_lt}
use Rattle.std.specs.Option.{option_map_or}
use Rattle.std.specs.List.Sorted.{IsStrictlyIncreasing}
use Rattle.std.proofs.lemmas.Bool.{cases_eq, ltb-true}
use Rattle.std.proofs.lemmas.List.{get_or_append_left, get_or_push, length-append, map_push}
use Rattle.std.proofs.lemmas.List.Elements.{All-push}
use Rattle.std.proofs.lemmas.Option.{slice_get-get_or}
use Rattle.mcf_answer.specs.Private.Draft.{with_member, with_moved, with_price, with_sent, with_sparse_price}
use Rattle.mcf_answer.specs.Fits.{is_above_last}
use Rattle.mcf_answer.specs.Private.PartialSet.{IsPartialSet, PartialSet}
use Rattle.mcf_answer.specs.Ranges.{IsAmount, IsNodeInRange}
use Rattle.mcf_answer.specs.Said.{member_said, sent_said}
use Rattle.mcf_answer.specs.Solution.{IsSent, IsSolution, Solution}
use Rattle.mcf_answer.specs.SparseSolution.{IsMoved, IsSparseSolution, SparseSolution, arc_numbers}
use Rattle.mcf_answer.specs.Token.{Token}
use Rattle.mcf_answer.specs.declared.answers.Sent.{Sent}
use Rattle.mcf_answer.proofs.SaidLemmas.{member_said-some, sent_said-some}

-- the number is above the last of a list that is not empty
above_last : (xs : List ℕ) (v : ℕ) → 0 < length xs → is_above_last xs v ≡ true → get_or xs (length xs - 1) 0 < v
above_last xs v some e =
    let inside : length xs - 1 < length xs = omega arith in
    ltb-true (get_or xs (length xs - 1) 0) v (sym (ap (λ o. option_map_or (λ w. nat_lt w v) o true) (slice_get-get_or xs (length xs - 1) 0 inside)) ∙ e)

pub IsStrictlyIncreasing-push : (xs : List ℕ) (v : ℕ) → IsStrictlyIncreasing xs → is_above_last xs v ≡ true → IsStrictlyIncreasing (xs ++ v ∷ [])
IsStrictlyIncreasing-push xs v before above k inside =
    let size : length (xs ++ v ∷ []) ≡ length xs + 1 = length-append xs (v ∷ []) in
    elim (cases_eq (k + 1) (length xs)) [
      | inl last ↦
          let some : 0 < length xs = omega (arith, last) in
          let low : k < length xs = omega arith in
          let place : length xs - 1 ≡ k = omega arith in
          let below : get_or xs (length xs - 1) 0 < v = above_last xs v some above in
          let left : get_or (xs ++ v ∷ []) k 0 ≡ get_or xs k 0 = get_or_append_left xs (v ∷ []) 0 k low in
          let right : get_or (xs ++ v ∷ []) (k + 1) 0 ≡ v = get_or_push xs v 0 (k + 1) (sym last) in
          omega (arith, left, right, ap (λ n. get_or xs n 0) place)
      | inr other ↦
          let more : k + 1 < length xs = omega (arith, inside, size) in
          let low : k < length xs = omega arith in
          let left : get_or (xs ++ v ∷ []) k 0 ≡ get_or xs k 0 = get_or_append_left xs (v ∷ []) 0 k low in
          let right : get_or (xs ++ v ∷ []) (k + 1) 0 ≡ get_or xs (k + 1) 0 = get_or_append_left xs (v ∷ []) 0 (k + 1) more in
          omega (arith, left, right, before k more)
    ]

pub with_sent_fits : (a : Solution) (line : List Token) (s : Sent) → IsSolution a → sent_said line ≡ Some s → IsSolution (with_sent a s)
with_sent_fits a line s h e = record {
  cost_small = h.cost_small;
  sent_fit = All-push IsSent a.sent s h.sent_fit (sent_said-some line s e).1;
  prices_small = h.prices_small;
  few_prices = h.few_prices;
}

pub with_price_fits : (a : Solution) (v : ℕ) (z : ℤ) → IsSolution a → IsNodeInRange v → IsAmount z → v ≡ length a.prices + 1 → IsSolution (with_price a z)
with_price_fits a v z h node amount next = record {
  cost_small = h.cost_small;
  sent_fit = h.sent_fit;
  prices_small = All-push IsAmount a.prices z h.prices_small amount;
  few_prices = rw (length-append a.prices (z ∷ [])) (omega (arith, node.1, next));
}

pub with_moved_fits : (a : SparseSolution) (m : ℕ × ℤ) → IsSparseSolution a → IsMoved m → is_above_last (arc_numbers a.moved) m.0 ≡ true
    → IsSparseSolution (with_moved a m)
with_moved_fits a m h fits above = record {
  cost_small = h.cost_small;
  moved_fit = All-push IsMoved a.moved m h.moved_fit fits;
  ascending =
      subst IsStrictlyIncreasing (sym (map_push (λ n. n.0) a.moved m)) (IsStrictlyIncreasing-push (arc_numbers a.moved) m.0 h.ascending above);
  prices_small = h.prices_small;
  few_prices = h.few_prices;
}

pub with_sparse_price_fits : (a : SparseSolution) (v : ℕ) (z : ℤ) → IsSparseSolution a → IsNodeInRange v → IsAmount z → v ≡ length a.prices + 1
    → IsSparseSolution (with_sparse_price a z)
with_sparse_price_fits a v z h node amount next = record {
  cost_small = h.cost_small;
  moved_fit = h.moved_fit;
  ascending = h.ascending;
  prices_small = All-push IsAmount a.prices z h.prices_small amount;
  few_prices = rw (length-append a.prices (z ∷ [])) (omega (arith, node.1, next));
}

pub with_member_fits : (a : PartialSet) (line : List Token) (v : ℕ) → IsPartialSet a → member_said line ≡ Some v → length a.nodes < a.count
    → is_above_last a.nodes v ≡ true → IsPartialSet (with_member a v)
with_member_fits a line v h e room above = record {
  some = h.some;
  few = rw (length-append a.nodes (v ∷ [])) (omega (arith, room));
  are_nodes = All-push IsNodeInRange a.nodes v h.are_nodes (member_said-some line v e).1;
  ascending = IsStrictlyIncreasing-push a.nodes v h.ascending above;
}
