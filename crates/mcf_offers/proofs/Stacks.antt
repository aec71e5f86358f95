-- A stack of the nearest offers, with a heap of the others beside it.
use Rattle.std.proofs.Common.{◌≡◌, ◌+◌, ◌-◌, List, [], ◌∷◌, ◌++◌, ap, arith, get_or, inl, inr, length, subst, sym, ◌∙◌}
use Rattle.std.specs.Borrow.{Bor}
use Rattle.std.specs.Prelude.{IfSome, IsSome, None, Option, Some, false, option_to_list, ℤ, ◌≤ℤ◌}
use Rattle.std.specs.BinaryHeap.{IsUpperBound}
use Rattle.std.specs.List.{All}
use Rattle.std.specs.List.Sorted.{IsPermutation}
use Rattle.std.specs.Ordering.{flip_args, int_cmp, is_lt, on}
use Rattle.std.specs.Slice.{IsGetResult, IsItemAt}
use Rattle.std.proofs.lemmas.Bool.{cases_eq, true≢false}
use Rattle.std.proofs.lemmas.Int.{ints}
use Rattle.std.proofs.lemmas.List.{append_assoc, get_or_push, length_push}
use Rattle.std.proofs.lemmas.List.Elements.{All-append, All-from_recursion, All-pop, All-weaker}
use Rattle.std.proofs.lemmas.List.Quantifiers.{all_pairs_push}
use Rattle.std.proofs.lemmas.List.Sorted.{IsPermutation-append_right, IsPermutation-middle, IsPermutation-sym, IsPermutation-trans}
use Rattle.mcf_offers.specs.Offers.{Offer}
use Rattle.mcf_offers.specs.Private.Stacking.{IsStack}

-- what is no farther than the last of a stack is no farther than any
pub no_farther : (near : List Offer) (x : ℤ) (last : Option (Bor Offer)) → IsStack near → IsGetResult near 0 (length near - 1) last
    → IfSome last (λ o. x ≤ℤ o.now.dist) → All (λ o. x ≤ℤ o.dist) near
no_farther near x None stack item before k d h = (let none = item.3 in absurd (omega (arith, none, h)))
no_farther near x (Some top) stack item before k d h =
    let at : top.now ≡ get_or near (length near - 1) d = item.3.1 d in
    let least : x ≤ℤ (get_or near (length near - 1) d).dist = subst (λ o. x ≤ℤ o.dist) at before in
    elim (cases_eq k (length near - 1)) [
      | inl e ↦ subst (λ i. x ≤ℤ (get_or near i d).dist) (sym e) least
      | inr n ↦ (let pair = stack k (length near - 1) d (omega (arith, n, h)) (omega (arith, h)) in omega (arith, ints, pair, least))
    ]

-- where nothing stands on the stack, the first of the heap is the nearest
pub far_alone : (near after : List Offer) (r : Option Offer) → IsStack near → IsGetResult near 0 (length near - 1) None
    → IfSome r (λ o. All (λ p. o.dist ≤ℤ p.dist) after) → IfSome r (λ o. All (λ p. o.dist ≤ℤ p.dist) (near ++ after))
far_alone near after None stack last least = tt
far_alone near after (Some o) stack last least = All-append (λ p. o.dist ≤ℤ p.dist) near after (no_farther near o.dist None stack last tt) least

-- so it can be put on top
pub on_top : (near : List Offer) (o : Offer) → IsStack near → All (λ p. o.dist ≤ℤ p.dist) near → IsStack (near ++ o ∷ [])
on_top near o stack least = all_pairs_push (λ below p. p.dist ≤ℤ below.dist) near o stack least

pub put_near : (near rest : List Offer) (o : Offer) → IsPermutation (o ∷ (near ++ rest)) ((near ++ o ∷ []) ++ rest)
put_near near rest o = rw append_assoc (IsPermutation-sym (near ++ o ∷ rest) (o ∷ (near ++ rest)) (IsPermutation-middle near o rest))

pub put_far : (near rest after : List Offer) (o : Offer) → IsPermutation (o ∷ rest) after → IsPermutation (o ∷ (near ++ rest)) (near ++ after)
put_far near rest after o put =
    IsPermutation-trans (o ∷ (near ++ rest)) (near ++ o ∷ rest) (near ++ after)
    (IsPermutation-sym (near ++ o ∷ rest) (o ∷ (near ++ rest)) (IsPermutation-middle near o rest))
    (IsPermutation-append_right near (o ∷ rest) after put)

pub taken_near : (near rest after : List Offer) (r : Option Offer) → near ≡ after ++ option_to_list r
    → IfSome r (λ o. IsPermutation (near ++ rest) (o ∷ (after ++ rest)))
taken_near near rest after None e = tt
taken_near near rest after (Some o) e = rw (e, append_assoc) (IsPermutation-middle after o rest)

pub taken_far : (near rest after : List Offer) (r : Option Offer) → IfSome r (λ o. IsPermutation rest (o ∷ after))
    → IfSome r (λ o. IsPermutation (near ++ rest) (o ∷ (near ++ after)))
taken_far near rest after None taken = tt
taken_far near rest after (Some o) taken =
    IsPermutation-trans (near ++ rest) (near ++ o ∷ after) (o ∷ (near ++ after)) (IsPermutation-append_right near rest (o ∷ after) taken)
    (IsPermutation-middle near o after)

not_less : (o p : Offer) → is_lt (int_cmp p.dist o.dist) ≡ false → o.dist ≤ℤ p.dist
not_less o p h = grind (arith, ints)

-- the first of a heap is the nearest
pub first_is_least : (o : Offer) (rest : List Offer) → IsUpperBound (flip_args (on (λ o. o.dist) int_cmp)) o rest → All (λ p. o.dist ≤ℤ p.dist) rest
first_is_least o rest upper =
    All-weaker (λ p. is_lt (int_cmp p.dist o.dist) ≡ false) (λ p. o.dist ≤ℤ p.dist) (not_less o) rest
    (All-from_recursion (λ p. is_lt (int_cmp p.dist o.dist) ≡ false) rest upper)

below_first : (rest : List Offer) (x : ℤ) (first : Option (Bor Offer)) → IsItemAt rest 0 first
    → IfSome first (λ o. All (λ p. o.now.dist ≤ℤ p.dist) rest) → IfSome first (λ o. x ≤ℤ o.now.dist) → All (λ p. x ≤ℤ p.dist) rest
below_first rest x None item least before k d h = (let none = item.3 in absurd (omega (arith, none, h)))
below_first rest x (Some o) item least before k d h = (let here = least k d h in omega (arith, ints, here, before))

module _ (near rest after : List Offer) (top : Bor Offer) (stack : IsStack near) (last : IsGetResult near 0 (length near - 1) (Some top))
    (first : Option (Bor Offer)) (item : IsItemAt rest 0 first) where
  -- the last of the stack is no farther than the first of the heap
  pub near_is_least : (r : Option Offer) → near ≡ after ++ option_to_list r → IfSome first (λ o. All (λ p. o.now.dist ≤ℤ p.dist) rest)
      → IfSome first (λ o. top.now.dist ≤ℤ o.now.dist) → IfSome r (λ o. All (λ p. o.dist ≤ℤ p.dist) (after ++ rest))
  near_is_least None e least before = tt
  near_is_least (Some o) e least before =
      let at : top.now ≡ get_or near (length near - 1) o = last.3.1 o in
      let size : length near ≡ length after + 1 = ap length e ∙ length_push after o in
      let is : top.now ≡ o =
      at ∙ (ap (λ xs. get_or xs (length near - 1) o) e ∙ get_or_push after o o (length near - 1) (omega (arith, size))) in
      let all = no_farther near top.now.dist (Some top) stack last (omega (arith, ints)) in
      subst (λ z. All (λ p. z.dist ≤ℤ p.dist) (after ++ rest)) is
      (All-append (λ p. top.now.dist ≤ℤ p.dist) after rest (All-pop (λ p. top.now.dist ≤ℤ p.dist) near after (Some o) e all).0
      (below_first rest top.now.dist first item least before))

  -- the first of the heap is no farther than the last of the stack
  pub far_is_least : (r : Option Offer) → IsSome first → IfSome first (λ o. o.now.dist ≤ℤ top.now.dist) → IfSome r (λ o. o ≡ get_or rest 0 o)
      → IfSome r (λ o. All (λ p. o.dist ≤ℤ p.dist) after) → IfSome r (λ o. All (λ p. o.dist ≤ℤ p.dist) (near ++ after))
  far_is_least None some before here least = tt
  far_is_least (Some o) some before here least =
      All-append (λ p. o.dist ≤ℤ p.dist) near after (no_farther near o.dist (Some top) stack last (nearer first item some before)) least
    where
      nearer : (f : Option (Bor Offer)) → IsItemAt rest 0 f → IsSome f → IfSome f (λ p. p.now.dist ≤ℤ top.now.dist) → o.dist ≤ℤ top.now.dist
      nearer None at some before = absurd (true≢false (sym some))
      nearer (Some f) at some before = subst (λ z. z.dist ≤ℤ top.now.dist) (at.3.1 o ∙ sym here) before
