-- The scale and the sum of numbers, one after another.
use Rattle.std.proofs.Common.{◌≡◌, ◌∙◌, ℕ, ◌+◌, ◌<◌, true, List, ℤ, pos, ◌+ℤ◌, fold, take, get_or, length, sym, ap}
use Rattle.std.specs.List.{list_all}
use Rattle.std.proofs.lemmas.List.Folds.{fold-map, list_all_more}
use Rattle.std.proofs.lemmas.List.Sums.{fold_more}
use Rattle.mcf_decimal.specs.Decimals.{at_scale}
use Rattle.mcf_decimal.specs.declared.decimal.Decimal.{Decimal}
use Rattle.mcf_forms.specs.Sums.{fits, sum_at}

-- one more number that fits
pub fit_more : (scale : ℕ) (xs : List Decimal) (i : ℕ) (d : Decimal) → i < length xs → list_all (fits scale) (take i xs) ≡ true
    → fits scale (get_or xs i d) ≡ true → list_all (fits scale) (take (i + 1) xs) ≡ true
fit_more scale xs i d below before here = list_all_more (fits scale) xs i d below ∙ rw before here

-- one more number in the sum
pub sum_more : (scale : ℕ) (xs : List Decimal) (i : ℕ) (d : Decimal) (sum value more : ℤ) → i < length xs
    → sum ≡ sum_at scale (take i xs) → value ≡ at_scale scale (get_or xs i d) → more ≡ sum +ℤ value
    → more ≡ sum_at scale (take (i + 1) xs)
sum_more scale xs i d sum value more below before here is =
    let add : ℤ → Decimal → ℤ = λ s x. s +ℤ at_scale scale x in
    is ∙ ap (λ (s : ℤ). s +ℤ value) (before ∙ fold-map ◌+ℤ◌ (at_scale scale) (pos 0) (take i xs)) ∙ ap (λ (v : ℤ). fold add (pos 0) (take i xs) +ℤ v) here
    ∙ sym (fold_more add (pos 0) xs i d below) ∙ sym (fold-map ◌+ℤ◌ (at_scale scale) (pos 0) (take (i + 1) xs))
