-- What persons and things that compete add up to, by the numbers that are told of them.
use Rattle.std.proofs.Common.{◌≡◌, ℕ, zero, suc, ◌+◌, ◌-◌, ◌<◌, Bool, true, false, List, [], ◌∷◌, get_or, length, map, refl, ap, arith, ℤ, pos, ◌+ℤ◌, ◌<ℤ◌}
use Rattle.std.specs.Prelude.{if◌then◌else◌}
use Rattle.std.specs.List.{filter}
use Rattle.std.proofs.lemmas.Int.{ints}
use Rattle.mcf_flows.specs.declared.problem.Side.{Side}
use Rattle.mcf_flows.specs.declared.problem.Side.TheVariants.{Send, Take}
use Rattle.mcf_flows.specs.Blocking.{in_table}
use Rattle.mcf_flows.specs.Network.{IsNode, node_sum, when}
use Rattle.mcf_flows.proofs.NodeSums.{node_sum-same}
use Rattle.mcf_roster.specs.declared.pairs.Pair.{Pair}
use Rattle.mcf_roster.specs.declared.pairs.Range.{Range}
use Rattle.mcf_roster.specs.Amounts.{AreAmounts, bound, counts_more}
use Rattle.mcf_roster.specs.Competitions.{IsCompetition}
use Rattle.mcf_roster.specs.Rosters.{Roster, range_at}
use Rattle.mcf_roster.specs.ToldSums.{CompetitionsAddToMore, IsMore, told_count, told_sum}

-- ---- sums

-- the first term stands apart
first_apart : (t : ℕ → ℤ) (n : ℕ) → node_sum t (suc n) ≡ t 1 +ℤ node_sum (λ v. t (suc v)) n
first_apart t zero = omega (arith, ints)
first_apart t (suc n) = omega (arith, ints, first_apart t n)

-- what is told of one
told_one : (b : Bool) (n : ℕ) → when b (pos n) ≡ pos (if b then n else 0)
told_one true n = refl
told_one false n = refl

-- the numbers of a table's set, as they are told
pub sum_told : (least : Bool) (marks : List Bool) (ranges : List Range) → length marks ≡ length ranges
    → node_sum (λ v. when (in_table marks v) (pos (bound least (range_at ranges v)))) (length ranges) ≡ pos (told_sum marks (map (bound least) ranges))
sum_told least [] [] e = refl
sum_told least [] (r ∷ ranges) e = absurd (omega arith)
sum_told least (m ∷ marks) [] e = absurd (omega arith)
sum_told least (m ∷ marks) (r ∷ ranges) e =
    let term = λ (v : ℕ). when (in_table (m ∷ marks) v) (pos (bound least (range_at (r ∷ ranges) v))) in
    let later = λ (v : ℕ). when (in_table marks v) (pos (bound least (range_at ranges v))) in
    omega (
      arith,
      ints,
      first_apart term (length ranges),
      told_one m (bound least r),
      node_sum-same (λ v. term (suc v)) later (length ranges) (λ v k. next v k),
      sum_told least marks ranges (omega arith),
    )
  where
    next : (v : ℕ) → IsNode (length ranges) v → when (in_table (m ∷ marks) (suc v)) (pos (bound least (range_at (r ∷ ranges) (suc v))))
        ≡ when (in_table marks v) (pos (bound least (range_at ranges v)))
    next v k =
        let near : suc v - 1 ≡ suc (v - 1) = omega (arith, k) in
        ap (λ i. when (get_or (m ∷ marks) i false) (pos (bound least (get_or (r ∷ ranges) i (record { least = 0; most = 0 }))))) near

-- the pairs that pass a test, as they are told
count_told : (test : Pair → Bool) (pairs : List Pair) → told_count (map test pairs) ≡ length (filter test pairs)
count_told test [] = refl
count_told test (p ∷ pairs) = go (test p) refl (count_told test pairs)
  where
    go : (b : Bool) → test p ≡ b → told_count (map test pairs) ≡ length (filter test pairs)
        → told_count (map test (p ∷ pairs)) ≡ length (filter test (p ∷ pairs))
    go true is later = rw is (ap suc later)
    go false is later = rw is later

-- ---- the law

-- of sums that are told, one is more than the other with the pairs
more_told : (R : Roster) (test : Pair → Bool) (marks others : List Bool) (asked given : List Range) (a b : List ℕ) (pairs : List Bool)
    → length marks ≡ length asked → length others ≡ length given → a ≡ map (bound true) asked → b ≡ map (bound false) given → pairs ≡ map test R.pairs
    → (node_sum (λ v. when (in_table others v) (pos (range_at given v).most)) (length given) +ℤ pos (length (filter test R.pairs)))
    <ℤ node_sum (λ v. when (in_table marks v) (pos (range_at asked v).least)) (length asked)
    → (told_sum others b + told_count pairs) < told_sum marks a
more_told R test marks others asked given a b pairs e f a_is b_is pairs_is short =
    omega (
      arith,
      ints,
      short,
      sum_told true marks asked e,
      sum_told false others given f,
      count_told test R.pairs,
      ap (told_sum marks) a_is,
      ap (told_sum others) b_is,
      ap told_count pairs_is,
    )

pub add_to_more : CompetitionsAddToMore
add_to_more R c h = go c.side h.are_amounts h.is_competition
  where
    go : (side : Side) → AreAmounts R (in_table c.persons.items) (in_table c.things.items) side c.amounts
        → IsCompetition R (in_table c.persons.items) (in_table c.things.items) side → IsMore c.persons.items c.things.items c.amounts side
    go Send are short =
        more_told R (counts_more (in_table c.persons.items) (in_table c.things.items) Send) c.persons.items c.things.items R.takes R.needs
        c.amounts.persons.items c.amounts.things.items c.amounts.pairs.items h.one_by_person h.one_by_thing are.of_persons are.of_things are.of_pairs short
    go Take are short =
        more_told R (counts_more (in_table c.persons.items) (in_table c.things.items) Take) c.things.items c.persons.items R.needs R.takes
        c.amounts.things.items c.amounts.persons.items c.amounts.pairs.items h.one_by_thing h.one_by_person are.of_things are.of_persons are.of_pairs short
