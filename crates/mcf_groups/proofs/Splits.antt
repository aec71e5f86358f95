-- The plans of a model after a split.
use Rattle.std.proofs.Common.{◌≡◌, ℕ, zero, suc, ◌+◌, ◌-◌, eqb, Bool, true, false, not, List, [], ◌∷◌, ◌++◌, length, map, take, drop, get_or, refl, ap, sym, ◌∙◌, subst, arith, ℤ, pos, neg_ℤ, ◌+ℤ◌, ◌-ℤ◌, ◌≤ℤ◌, inl, inr}
use Rattle.std.specs.Prelude.{replicate}
use Rattle.std.specs.List.{AllZip, range_with_len}
use Rattle.std.proofs.lemmas.Bool.{cases_lt}
use Rattle.std.proofs.lemmas.Int.{ints}
use Rattle.std.proofs.lemmas.List.{get_or-append-add, get_or-replicate, get_or_append_left, length-append, length-replicate, take-append-drop}
use Rattle.std.proofs.lemmas.List.FromFn.{length-map-range_with_len}
use Rattle.mcf_flows.specs.Network.{IsNode, at_node, node_sum, when}
use Rattle.mcf_flows.proofs.AllZips.{length-AllZip}
use Rattle.mcf_flows.proofs.IntLaws.{zero-mul}
use Rattle.mcf_flows.proofs.NodeSums.{node_sum-same}
use Rattle.mcf_model.specs.Model.{IsPlan, MayCarry, Model, Route, arriving, leaving, plan_cost, plan_sum, route_cost}
use Rattle.mcf_model.proofs.Lists.{join_zip, split_zip}
use Rattle.mcf_roster.proofs.RangeSums.{entries_again, mapped_same, none_at, one_at, plan_sum-append, plan_sum-range, when_is, when_not, zip_range, zipped_at}
use Rattle.mcf_groups.specs.SplitLaws.{IsSplitPlan, IsWholePlan, MaySplit, SplitsKeepPlans}
use Rattle.mcf_groups.specs.Splits.{PassesWithin, Split, all_moved, end_of, link, links_of, moved, old_of, passed, split, split_plan}
use Rattle.mcf_groups.proofs.MovedSums.{all_away, all_in, at_end, kept_sum, none_beyond, other_kept}

-- ---- links

link_old : (b : Bool) (old new : ℕ) (l u : ℤ) → end_of b (link b old new l u) ≡ old
link_old true old new l u = refl
link_old false old new l u = refl

link_new : (b : Bool) (old new : ℕ) (l u : ℤ) → end_of (not b) (link b old new l u) ≡ new
link_new true old new l u = refl
link_new false old new l u = refl

link_carries : (b : Bool) (old new : ℕ) (l u x : ℤ) → l ≤ℤ x → x ≤ℤ u → MayCarry (link b old new l u) x
link_carries true old new l u x h k = record { enough = h; fits = k }
link_carries false old new l u x h k = record { enough = h; fits = k }

link_within : (b : Bool) (old new : ℕ) (l u x : ℤ) → MayCarry (link b old new l u) x → (l ≤ℤ x) × (x ≤ℤ u)
link_within true old new l u x h = (h.enough, h.fits)
link_within false old new l u x h = (h.enough, h.fits)

link_free : (b : Bool) (old new : ℕ) (l u x : ℤ) → route_cost (link b old new l u) x ≡ pos 0
link_free true old new l u x = zero-mul x
link_free false old new l u x = zero-mul x

-- ---- routes that move

pub length-moved : (b : Bool) (n : ℕ) (js : List ℕ) (rs : List Route) → length (all_moved b n js rs) ≡ length rs
length-moved b n [] rs = refl
length-moved b n (j ∷ js) [] = refl
length-moved b n (j ∷ js) (r ∷ rs) = omega (arith, length-moved b n js rs)

same_cost : (b : Bool) (n j : ℕ) (r : Route) (x : ℤ) → route_cost (moved b n j r) x ≡ route_cost r x
same_cost b n zero r x = refl
same_cost true n (suc j) r x = refl
same_cost false n (suc j) r x = refl

may_still : (b : Bool) (n j : ℕ) (r : Route) (x : ℤ) → MayCarry r x → MayCarry (moved b n j r) x
may_still b n zero r x h = h
may_still true n (suc j) r x h = record { enough = h.enough; fits = h.fits }
may_still false n (suc j) r x h = record { enough = h.enough; fits = h.fits }

might_before : (b : Bool) (n j : ℕ) (r : Route) (x : ℤ) → MayCarry (moved b n j r) x → MayCarry r x
might_before b n zero r x h = h
might_before true n (suc j) r x h = record { enough = h.enough; fits = h.fits }
might_before false n (suc j) r x h = record { enough = h.enough; fits = h.fits }

all_still : (b : Bool) (n : ℕ) (js : List ℕ) (rs : List Route) (xs : List ℤ) → AllZip MayCarry rs xs → AllZip MayCarry (all_moved b n js rs) xs
all_still b n [] rs xs h = h
all_still b n (j ∷ js) [] xs h = h
all_still b n (j ∷ js) (r ∷ rs) [] h = absurd h
all_still b n (j ∷ js) (r ∷ rs) (x ∷ xs) h = (may_still b n j r x h.0, all_still b n js rs xs h.1)

all_before : (b : Bool) (n : ℕ) (js : List ℕ) (rs : List Route) (xs : List ℤ) → AllZip MayCarry (all_moved b n js rs) xs → AllZip MayCarry rs xs
all_before b n [] rs xs h = h
all_before b n (j ∷ js) [] xs h = h
all_before b n (j ∷ js) (r ∷ rs) [] h = absurd h
all_before b n (j ∷ js) (r ∷ rs) (x ∷ xs) h = (might_before b n j r x h.0, all_before b n js rs xs h.1)

-- ---- balances, seen from the end that moves

abbrev signed : Bool → ℤ → ℤ
signed true z = z
signed false z = neg_ℤ z

signed_none : (b : Bool) → signed b (pos 0) ≡ pos 0
signed_none true = refl
signed_none false = refl

abbrev net : Bool → List Route → List ℤ → ℕ → ℤ
net b rs xs w = plan_sum (at_end b w) rs xs -ℤ plan_sum (at_end (not b) w) rs xs

to_net : (b : Bool) (rs : List Route) (xs : List ℤ) (w : ℕ) (z : ℤ) → leaving rs xs w -ℤ arriving rs xs w ≡ z → net b rs xs w ≡ signed b z
to_net true rs xs w z e = e
to_net false rs xs w z e = omega (arith, ints, e)

from_net : (b : Bool) (rs : List Route) (xs : List ℤ) (w : ℕ) (z : ℤ) → net b rs xs w ≡ signed b z → leaving rs xs w -ℤ arriving rs xs w ≡ z
from_net true rs xs w z e = e
from_net false rs xs w z e = omega (arith, ints, e)

-- ---- the model after the split

module _ (m : Model) (s : Split) (may : MaySplit m s) where
  abbrev n : ℕ
  n = length m.supplies

  abbrev k : ℕ
  k = length s.olds

  abbrev lk : ℕ → Route
  lk v = link s.leave (old_of s.olds v) (n + v) s.least s.most

  abbrev moved_routes : List Route
  moved_routes = all_moved s.leave n s.moves m.routes

  module _ (xs : List ℤ) (Y : ℕ → ℤ) (long : length m.routes ≡ length xs) where
    abbrev ys : List ℤ
    ys = xs ++ map Y (range_with_len 1 k)

    whole_sum : (t : Route → ℤ → ℤ) → plan_sum t (split m s).routes ys ≡ plan_sum t moved_routes xs +ℤ node_sum (λ v. t (lk v) (Y v)) k
    whole_sum t =
        omega (
          arith,
          ints,
          plan_sum-append t moved_routes (links_of n s) xs (map Y (range_with_len 1 k)) (length-moved s.leave n s.moves m.routes ∙ long),
          plan_sum-range t lk Y k,
        )

    olds_are : (w : ℕ) → node_sum (λ v. at_end s.leave w (lk v) (Y v)) k ≡ node_sum (λ v. when (eqb (old_of s.olds v) w) (Y v)) k
    olds_are w =
        node_sum-same (λ v. at_end s.leave w (lk v) (Y v)) (λ v. when (eqb (old_of s.olds v) w) (Y v)) k
        (λ v q. ap (λ u. when (eqb u w) (Y v)) (link_old s.leave (old_of s.olds v) (n + v) s.least s.most))

    news_are : (w : ℕ) → node_sum (λ v. at_end (not s.leave) w (lk v) (Y v)) k ≡ node_sum (λ v. when (eqb (n + v) w) (Y v)) k
    news_are w =
        node_sum-same (λ v. at_end (not s.leave) w (lk v) (Y v)) (λ v. when (eqb (n + v) w) (Y v)) k
        (λ v q. ap (λ u. when (eqb u w) (Y v)) (link_new s.leave (old_of s.olds v) (n + v) s.least s.most))

    pub at_old : (w : ℕ) → IsNode n w → net s.leave (split m s).routes ys w
        ≡ net s.leave m.routes xs w
        +ℤ (node_sum (λ v. when (eqb (old_of s.olds v) w) (Y v)) k -ℤ node_sum (λ v. when (eqb (old_of s.olds v) w) (passed s.moves xs v)) k)
    at_old w place =
        omega (
          arith,
          ints,
          whole_sum (at_end s.leave w),
          whole_sum (at_end (not s.leave) w),
          olds_are w,
          news_are w,
          none_at (λ v. when (eqb (n + v) w) (Y v)) k (λ v q. when_not (n + v) w (Y v) (λ bad. absurd (omega (arith, bad, q, place)))),
          all_away s.leave n w place s.olds s.moves m.routes xs long may.moves,
          kept_sum s.leave n (at_end (not s.leave) w) (other_kept s.leave n w) s.moves m.routes xs,
        )

    old_is_place : (v : ℕ) → IsNode k v → IsNode n (old_of s.olds v)
    old_is_place v q = may.old_places (v - 1) 0 (omega (arith, q))

    pub at_new : (i : ℕ) → IsNode k i → net s.leave (split m s).routes ys (n + i) ≡ passed s.moves xs i -ℤ Y i
    at_new i q =
        omega (
          arith,
          ints,
          whole_sum (at_end s.leave (n + i)),
          whole_sum (at_end (not s.leave) (n + i)),
          olds_are (n + i),
          news_are (n + i),
          none_at (λ v. when (eqb (old_of s.olds v) (n + i)) (Y v)) k
              (λ v p. when_not (old_of s.olds v) (n + i) (Y v) (λ bad. absurd (omega (arith, bad, old_is_place v p, q)))),
          one_at (λ v. when (eqb (n + v) (n + i)) (Y v)) k i q (λ v p other. when_not (n + v) (n + i) (Y v) (λ bad. other (omega (arith, bad)))),
          when_is (n + i) (n + i) (Y i) refl,
          all_in s.leave n i q.0 s.moves m.routes xs may.ends long,
          kept_sum s.leave n (at_end (not s.leave) (n + i)) (other_kept s.leave n (n + i)) s.moves m.routes xs,
          none_beyond (not s.leave) n (n + i) (omega (arith, q)) m.routes xs may.ends,
        )

    cost_is : plan_cost (split m s) ys ≡ plan_cost m xs
    cost_is =
        omega (
          arith,
          ints,
          whole_sum route_cost,
          kept_sum s.leave n route_cost (same_cost s.leave n) s.moves m.routes xs,
          none_at (λ v. route_cost (lk v) (Y v)) k (λ v q. link_free s.leave (old_of s.olds v) (n + v) s.least s.most (Y v)),
        )

  -- ---- supplies

  old_supply : (w : ℕ) → IsNode n w → at_node (split m s).supplies w ≡ at_node m.supplies w
  old_supply w q = get_or_append_left m.supplies (replicate k (pos 0)) (pos 0) (w - 1) (omega (arith, q))

  new_supply : (i : ℕ) → IsNode k i → at_node (split m s).supplies (n + i) ≡ pos 0
  new_supply i q =
      let e : n + i - 1 ≡ n + (i - 1) = omega (arith, q) in
      ap (λ d. get_or (m.supplies ++ replicate k (pos 0)) d (pos 0)) e ∙ get_or-append-add m.supplies (replicate k (pos 0)) (i - 1) (pos 0)
      ∙ get_or-replicate k (i - 1) (pos 0) (pos 0) (omega (arith, q))

  supply_count : length (split m s).supplies ≡ n + k
  supply_count = omega (arith, length-append m.supplies (replicate k (pos 0)), length-replicate k (pos 0))

  by_place : (Q : ℕ → Type 0) → ((w : ℕ) → IsNode n w → Q w) → ((i : ℕ) → IsNode k i → Q (n + i)) → (w : ℕ) → IsNode (length (split m s).supplies) w → Q w
  by_place Q old new w q =
      elim (cases_lt n w) [
        | inl beyond ↦ let e : n + (w - n) ≡ w = omega (arith, beyond) in
            subst Q e (new (w - n) (omega (arith, beyond), omega (arith, beyond, q, supply_count)))
        | inr within ↦ old w (q.0, within)
      ]

  -- ---- both ways

  module _ (plan : List ℤ) (h : IsPlan m plan) (within : PassesWithin s plan) where
    long : length m.routes ≡ length plan
    long = length-AllZip MayCarry m.routes plan h.may_carry

    pub is_split : IsSplitPlan m s plan (split_plan s plan)
    is_split =
        record {
          is_plan = record {
            may_carry = join_zip MayCarry moved_routes (links_of n s) plan (map (passed s.moves plan) (range_with_len 1 k))
                (all_still s.leave n s.moves m.routes plan h.may_carry)
                (zip_range MayCarry lk (passed s.moves plan) k
                (λ v q. link_carries s.leave (old_of s.olds v) (n + v) s.least s.most (passed s.moves plan v) (within v q).0 (within v q).1));
            meets_supplies = by_place
                (λ w. leaving (split m s).routes (split_plan s plan) w -ℤ arriving (split m s).routes (split_plan s plan) w ≡ at_node (split m s).supplies w)
                (λ w q.
                let same : net s.leave (split m s).routes (split_plan s plan) w ≡ net s.leave m.routes plan w
                = omega (arith, ints, at_old plan (passed s.moves plan) long w q) in
                from_net s.leave (split m s).routes (split_plan s plan) w (at_node (split m s).supplies w)
                (same ∙ to_net s.leave m.routes plan w (at_node m.supplies w) (h.meets_supplies w q) ∙ ap (signed s.leave) (sym (old_supply w q))))
                (λ i q. from_net s.leave (split m s).routes (split_plan s plan) (n + i) (at_node (split m s).supplies (n + i))
                (at_new plan (passed s.moves plan) long i q
                ∙ none (passed s.moves plan i) ∙ sym (signed_none s.leave) ∙ ap (signed s.leave) (sym (new_supply i q))));
          };
          same_cost = cost_is plan (passed s.moves plan) long;
        }
      where
        none : (x : ℤ) → x -ℤ x ≡ pos 0
        none x = omega (arith, ints)

  module _ (longer : List ℤ) (h : IsPlan (split m s) longer) where
    abbrev plan : List ℤ
    plan = take (length m.routes) longer

    abbrev rest : List ℤ
    rest = drop (length m.routes) longer

    zips : AllZip MayCarry moved_routes plan × AllZip MayCarry (links_of n s) rest
    zips = split_zip MayCarry (length m.routes) moved_routes (links_of n s) longer (length-moved s.leave n s.moves m.routes) h.may_carry

    plan_long : length m.routes ≡ length plan
    plan_long = sym (length-moved s.leave n s.moves m.routes) ∙ length-AllZip MayCarry moved_routes plan zips.0

    rest_are : map (at_node rest) (range_with_len 1 k) ≡ rest
    rest_are = entries_again rest k (sym (length-AllZip MayCarry (links_of n s) rest zips.1) ∙ length-map-range_with_len lk 1 k)

    plan_is : plan ++ map (at_node rest) (range_with_len 1 k) ≡ longer
    plan_is = ap (λ zs. plan ++ zs) rest_are ∙ take-append-drop (length m.routes) longer

    balance : (w : ℕ) → IsNode (length (split m s).supplies) w
        → net s.leave (split m s).routes (plan ++ map (at_node rest) (range_with_len 1 k)) w ≡ signed s.leave (at_node (split m s).supplies w)
    balance w q =
        ap (λ zs. net s.leave (split m s).routes zs w) plan_is
        ∙ to_net s.leave (split m s).routes longer w (at_node (split m s).supplies w) (h.meets_supplies w q)

    passed_is : (i : ℕ) → IsNode k i → passed s.moves plan i ≡ at_node rest i
    passed_is i q =
        omega (
          arith,
          ints,
          at_new plan (at_node rest) plan_long i q,
          balance (n + i) (omega (arith, q), omega (arith, q, supply_count)),
          ap (signed s.leave) (new_supply i q),
          signed_none s.leave,
        )

    pub is_whole : IsWholePlan m s longer plan
    is_whole =
        record {
          is_plan = record {
            may_carry = all_before s.leave n s.moves m.routes plan zips.0;
            meets_supplies = λ w q.
                let same : net s.leave m.routes plan w ≡ signed s.leave (at_node (split m s).supplies w) = omega (
                  arith,
                  ints,
                  at_old plan (at_node rest) plan_long w q,
                  balance w (q.0, omega (arith, q, supply_count)),
                  node_sum-same (λ v. when (eqb (old_of s.olds v) w) (passed s.moves plan v)) (λ v. when (eqb (old_of s.olds v) w) (at_node rest v)) k
                      (λ v p. ap (when (eqb (old_of s.olds v) w)) (passed_is v p)),
                ) in
                from_net s.leave m.routes plan w (at_node m.supplies w) (same ∙ ap (signed s.leave) (old_supply w q));
          };
          within = λ v q.
              let may = link_within s.leave (old_of s.olds v) (n + v) s.least s.most (at_node rest v) (zipped_at MayCarry lk k rest v zips.1 q) in
              (omega (arith, ints, may, passed_is v q), omega (arith, ints, may, passed_is v q));
          back_again = ap (λ zs. plan ++ zs) (mapped_same (passed s.moves plan) (at_node rest) k passed_is) ∙ plan_is;
        }

-- ---- the law

pub splits_keep_plans_lem : SplitsKeepPlans
splits_keep_plans_lem =
    record {
      plans_are_split = λ m s plan may h within. is_split m s may plan h within;
      plans_are_whole = λ m s longer may h. is_whole m s may longer h;
    }
