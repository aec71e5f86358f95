-- How many steps follow the first.
use Rattle.std.proofs.Common.{◌≡◌, ℕ, true, false, ◌+◌, ◌-◌, ◌<◌, ◌≤◌, List, length, sym, ap, ◌∙◌, arith}
use Rattle.std.specs.List.{prefix_len, range_with_len}
use Rattle.std.proofs.lemmas.List.FromFn.{get_or-range_with_len, length-range_with_len}
use Rattle.std.proofs.lemmas.List.Sums.{prefix_len_is}
use Rattle.mcf_table.specs.Heads.{heads, is_there}
use Rattle.mcf_table.specs.Texts.{Record}
use Rattle.mcf_reading.specs.HeadTexts.{column_under, further_count}
use Rattle.mcf_reading.specs.declared.locations.Head.TheVariants.{Most}

pub further_is : (records : List Record) (limit n : ℕ) → limit ≡ length (heads records) - 4 → n ≤ limit
    → ((k : ℕ) → k < n → is_there (column_under records (Most (2 + k))) ≡ true)
    → (n < limit → is_there (column_under records (Most (2 + n))) ≡ false) → n ≡ further_count records
unfolding further_count
further_is records limit n limit_is inside passes stops =
    let test = λ (step : ℕ). is_there (column_under records (Most step)) in
    sym (ap (λ (m : ℕ). prefix_len test (range_with_len 2 m)) (sym limit_is)
    ∙ prefix_len_is test (range_with_len 2 limit) n 0 (omega (arith, inside, length-range_with_len 2 limit))
    (λ k below. ap test (get_or-range_with_len 2 limit k 0 (omega (arith, below, inside))) ∙ passes k below)
    (λ below. let more : n < limit = omega (arith, below, length-range_with_len 2 limit) in
    ap test (get_or-range_with_len 2 limit n 0 more) ∙ stops more))
