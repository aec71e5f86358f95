-- The order of names, and of names with their places.
use Rattle.std.proofs.Common.{◌≡◌, ℕ, ◌<◌, ◌≤◌, true, false, List, length, get_or, refl, sym, ap, ◌∙◌, arith}
use Rattle.std.specs.Cmp.{IsStrictWeakOrder, IsTotalOrder}
use Rattle.std.specs.Cmp.Lexicographic.{slice_cmp}
use Rattle.std.specs.List.Sorted.{IsPartitionedBy, IsSorted}
use Rattle.std.specs.declared.cmp.Ordering.{Ordering}
use Rattle.std.specs.declared.cmp.Ordering.TheVariants.{Less, Equal, Greater}
use Rattle.std.specs.Ordering.{is_eq, is_lt, nat_cmp, ordering_reverse, ordering_then}
use Rattle.std.specs.Str.{bytes_eq}
use Rattle.std.proofs.lemmas.Bool.{false≢true, true_from_ne_false}
use Rattle.std.proofs.lemmas.Cmp.{by_ranked, nat_cmp_total, nat_list_cmp_total, on_total, ranked, then_total, tied_itself}
use Rattle.std.proofs.lemmas.List.Sorted.{ranks_by, sorted_far}
use Rattle.std.proofs.lemmas.Map.Text.{is_eq-slice_cmp}
use Rattle.std.proofs.lemmas.Slice.Eq.{bytes_eq-Decides}
use Rattle.mcf_names.specs.Private.Index.{is_below, placed_cmp}
use Rattle.mcf_names.specs.declared.sorted.Placed.{Placed}

placed_total : IsTotalOrder placed_cmp
placed_total = then_total (on_total (λ (p : Placed). p.name.now) nat_list_cmp_total) (on_total (λ (p : Placed). p.place) nat_cmp_total)

pub in_order : (sorted : List Placed) (i j : ℕ) (d : Placed) → IsSorted placed_cmp sorted → i ≤ j → j < length sorted
    → is_lt (placed_cmp (get_or sorted j d) (get_or sorted i d)) ≡ false
in_order sorted i j d up le below = sorted_far (λ x y. is_lt (placed_cmp x y)) (ranks_by placed_total (λ (p : Placed). p)) sorted up i j d le below

names_ranked : IsStrictWeakOrder (λ x y. is_lt (slice_cmp nat_cmp x y))
names_ranked = ranks_by nat_list_cmp_total (λ (name : List ℕ). name)

pub first_not : (r s : Ordering) → is_lt (ordering_then r s) ≡ false → is_lt r ≡ false
first_not Less s not_less = not_less
first_not Equal s not_less = refl
first_not Greater s not_less = refl

second_not : (r s : Ordering) → r ≡ Equal → is_lt (ordering_then r s) ≡ false → is_lt s ≡ false
second_not r s tied not_less = sym (ap (λ (o : Ordering). is_lt (ordering_then o s)) tied) ∙ not_less

middle : (o : Ordering) → is_lt o ≡ false → is_lt (ordering_reverse o) ≡ false → is_eq o ≡ true
middle Less low high = sym low
middle Equal low high = refl
middle Greater low high = sym high

pub same_name : (one other : List ℕ) → is_lt (slice_cmp nat_cmp one other) ≡ false → is_lt (slice_cmp nat_cmp other one) ≡ false → one ≡ other
same_name one other low high =
    let turned : is_lt (ordering_reverse (slice_cmp nat_cmp one other)) ≡ false =
    sym (ap is_lt (nat_list_cmp_total.antisymm other one)) ∙ high in
    let tied : bytes_eq one other ≡ true = sym (is_eq-slice_cmp one other) ∙ middle (slice_cmp nat_cmp one other) low turned in
    (bytes_eq-Decides one other).0 tied

pub itself : (name other : List ℕ) → name ≡ other → slice_cmp nat_cmp name other ≡ Equal
itself name other same = ap (slice_cmp nat_cmp name) (sym same) ∙ tied_itself nat_list_cmp_total name

pub at_most : (one other : ℕ) → is_lt (nat_cmp one other) ≡ false → other ≤ one
at_most one other not_less =
    by_ranked (one < other) (one ≡ other) (other < one) (nat_cmp one other) (ranked one other (nat_cmp one other) refl)
    (λ is less. absurd (false≢true (sym not_less ∙ ap is_lt is))) (λ is same. omega arith) (λ is more. omega arith)

-- the later of two entries, which has the name of the first one
pub later_place : (one other : Placed) → one.name.now ≡ other.name.now → is_lt (placed_cmp one other) ≡ false → other.place ≤ one.place
later_place one other same not_less =
    at_most one.place other.place
    (second_not (slice_cmp nat_cmp one.name.now other.name.now) (nat_cmp one.place other.place) (itself one.name.now other.name.now same) not_less)

pub partitioned : (sorted : List Placed) (name : List ℕ) → IsSorted placed_cmp sorted → IsPartitionedBy (is_below name) sorted
partitioned sorted name up i j d le below hit =
    let one = get_or sorted i d in
    let other = get_or sorted j d in
    let not_less : is_lt (slice_cmp nat_cmp other.name.now one.name.now) ≡ false =
    first_not _ (nat_cmp other.place one.place) (in_order sorted i j d up le below) in
    true_from_ne_false (is_below name one)
    (λ miss. false≢true (sym (names_ranked.chain other.name.now one.name.now name not_less miss) ∙ hit))
