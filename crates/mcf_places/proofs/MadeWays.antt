-- The ways of rows are the ways of their routes, and have no fault that the rows don't have.
use Rattle.std.proofs.Common.{◌≡◌, ℕ, suc, ◌+◌, ◌-◌, ◌<◌, ◌≤◌, Bool, true, false, ◌&&◌, List, [], ◌∷◌, ◌++◌, length, map, refl, ap, sym, ◌∙◌, arith, ℤ, get_or, set, length-append}
use Rattle.std.specs.Prelude.{filter, take, drop, not, if◌then◌else◌, cond, Option}
use Rattle.std.specs.List.{All}
use Rattle.std.proofs.lemmas.List.{drop-drop, drop-set-lt, get_or-drop, length-map, map-append, take_more, take_more_set}
use Rattle.std.proofs.lemmas.List.Elements.{All-append, All-cons, All-filter, All-map}
use Rattle.mcf_flows.specs.Network.{IsNode}
use Rattle.mcf_model.specs.declared.rows.RouteRow.{RouteRow}
use Rattle.mcf_model.specs.declared.rows.Step.{Step}
use Rattle.mcf_model.specs.Faults.{AreListed}
use Rattle.mcf_model.specs.Model.{IsSoundRoute, MayBeBoth, Route}
use Rattle.mcf_model.specs.Tables.{route_of}
use Rattle.mcf_model.proofs.FaultTests.{all_of}
use Rattle.mcf_places.specs.declared.places.Place.{Place}
use Rattle.mcf_places.specs.declared.places.Policy.{Policy}
use Rattle.mcf_places.specs.PlannerFaults.{planner_of}
use Rattle.mcf_places.specs.PlannerLaws.{ReturnsFreely}
use Rattle.mcf_places.specs.Ways.{is_bounded, is_returning, numbers_of, row_back, row_returns, row_there, way_back, way_rows, way_there, ways_of, with_tables}

-- ---- the rows of ways

module _ (places : List Place) (steps : List Step) where
  there_rows : (rows : List RouteRow) → map (route_of steps) (map (row_there places) rows) ≡ map (way_there places) (map (route_of steps) rows)
  there_rows [] = refl
  there_rows (row ∷ rows) = ap (λ (rs : List Route). route_of steps (row_there places row) ∷ rs) (there_rows rows)

  back_rows : (rows : List RouteRow)
      → map (route_of steps) (map row_back (filter (row_returns places) rows)) ≡ map way_back (filter (is_returning places) (map (route_of steps) rows))
  back_rows [] = refl
  back_rows (row ∷ rows) = go (row_returns places row) (back_rows rows)
    where
      go : (b : Bool)
          → map (route_of steps) (map row_back (filter (row_returns places) rows)) ≡ map way_back (filter (is_returning places) (map (route_of steps) rows))
          → map (route_of steps) (map row_back (cond b (row ∷ filter (row_returns places) rows) (filter (row_returns places) rows)))
          ≡ map way_back (cond b (route_of steps row ∷ filter (is_returning places) (map (route_of steps) rows)) (filter (is_returning places) (map (route_of steps) rows)))
      go true later = ap (λ (rs : List Route). route_of steps (row_back row) ∷ rs) later
      go false later = later

  same_numbers : (v : ℕ) (rows : List RouteRow) → numbers_of (row_returns places) v rows ≡ numbers_of (is_returning places) v (map (route_of steps) rows)
  same_numbers v [] = refl
  same_numbers v (row ∷ rows) = go (row_returns places row) (same_numbers (suc v) rows)
    where
      go : (b : Bool) → numbers_of (row_returns places) (suc v) rows ≡ numbers_of (is_returning places) (suc v) (map (route_of steps) rows)
          → (if b then v ∷ numbers_of (row_returns places) (suc v) rows else numbers_of (row_returns places) (suc v) rows)
          ≡ (if b then v ∷ numbers_of (is_returning places) (suc v) (map (route_of steps) rows) else numbers_of (is_returning places) (suc v) (map (route_of steps) rows))
      go true later = ap (λ (ns : List ℕ). v ∷ ns) later
      go false later = later

  pub made_routes : (rows : List RouteRow) → map (route_of steps) (way_rows places rows) ≡ ways_of places (map (route_of steps) rows)
  made_routes rows =
      map-append (route_of steps) (map (row_there places) rows) (map row_back (filter (row_returns places) rows))
      ∙ ap (λ (rs : List Route). rs ++ map (route_of steps) (map row_back (filter (row_returns places) rows))) (there_rows rows)
      ∙ ap (λ (rs : List Route). map (way_there places) (map (route_of steps) rows) ++ rs) (back_rows rows)

  pub made_problem : (rows : List RouteRow) (policy : Policy)
      → with_tables places steps (way_rows places rows) (numbers_of (row_returns places) 1 rows) policy ≡ planner_of places steps rows policy
  made_problem rows policy =
      ap (λ (rs : List Route). record { places = places; routes = rs; returning = numbers_of (row_returns places) 1 rows; policy = policy }) (made_routes rows)
      ∙ ap (λ (ns : List ℕ). record { places = places; routes = ways_of places (map (route_of steps) rows); returning = ns; policy = policy })
      (same_numbers 1 rows)

  pub ways_listed : (rows : List RouteRow) → AreListed steps rows → AreListed steps (way_rows places rows)
  ways_listed rows h =
      let Q : RouteRow → Type 0 = λ row. row.first_step + row.step_count ≤ length steps in
      All-append Q (map (row_there places) rows) (map row_back (filter (row_returns places) rows)) (All-map Q (row_there places) rows h)
      (All-map Q row_back (filter (row_returns places) rows) (All-filter (row_returns places) Q rows h))

-- one more row is changed in its place
module _ {X : Type 0} (f : X → X) (old rows : List X) (i : ℕ) (d : X) (inside : i < length rows) (same : length rows ≡ length old)
    (done : take i rows ≡ map f (take i old)) (rest : drop i rows ≡ drop i old) where
  unchanged : get_or rows i d ≡ get_or old i d
  unchanged =
      let there : i + 0 ≡ i = omega arith in
      ap (λ k. get_or rows k d) (sym there) ∙ sym (get_or-drop i rows 0 d) ∙ ap (λ (xs : List X). get_or xs 0 d) rest ∙ get_or-drop i old 0 d
      ∙ ap (λ k. get_or old k d) there

  pub done_more : take (i + 1) (set rows i (f (get_or rows i d))) ≡ map f (take (i + 1) old)
  done_more =
      take_more_set rows i (f (get_or rows i d)) inside
      ∙ ap (λ (xs : List X). xs ++ f (get_or rows i d) ∷ []) done
      ∙ ap (λ x. map f (take i old) ++ f x ∷ []) unchanged
      ∙ sym (ap (map f) (take_more old i d (omega (arith, inside, same))) ∙ map-append f (take i old) (get_or old i d ∷ []))

  pub rest_less : drop (i + 1) (set rows i (f (get_or rows i d))) ≡ drop (i + 1) old
  rest_less =
      drop-set-lt (i + 1) rows i (f (get_or rows i d)) (omega arith) ∙ sym (drop-drop 1 i rows) ∙ ap (drop 1) rest ∙ drop-drop 1 i old

-- ---- the numbers of rows that return

pub count_numbers : {X : Type 0} (test : X → Bool) (v : ℕ) (xs : List X) → length (numbers_of test v xs) ≡ length (filter test xs)
count_numbers test v [] = refl
count_numbers test v (x ∷ xs) = go (test x) (count_numbers test (suc v) xs)
  where
    go : (b : Bool) → length (numbers_of test (suc v) xs) ≡ length (filter test xs)
        → length (if b then v ∷ numbers_of test (suc v) xs else numbers_of test (suc v) xs) ≡ length (cond b (x ∷ filter test xs) (filter test xs))
    go true later = ap suc later
    go false later = later

abbrev Between : ℕ → ℕ → ℕ → Type 0
Between low count w = (low ≤ w) × (w < low + count)

pub numbers_between : {X : Type 0} (test : X → Bool) (v : ℕ) (xs : List X) → All (Between v (length xs)) (numbers_of test v xs)
numbers_between test v [] = λ k d l. absurd (omega arith)
numbers_between test v (x ∷ xs) =
    go (test x)
    (all_of (Between (suc v) (length xs)) (Between v (suc (length xs))) (numbers_of test (suc v) xs) (λ w k. (omega (arith, k), omega (arith, k)))
    (numbers_between test (suc v) xs))
  where
    go : (b : Bool) → All (Between v (suc (length xs))) (numbers_of test (suc v) xs)
        → All (Between v (suc (length xs))) (if b then v ∷ numbers_of test (suc v) xs else numbers_of test (suc v) xs)
    go true later = All-cons (Between v (suc (length xs))) v (numbers_of test (suc v) xs) (omega arith, omega arith) later
    go false later = later

-- ---- facts of ways

module _ (places : List Place) where
  pub all_ways : (Q R : Route → Type 0) → ((r : Route) → R r → Q (way_there places r)) → ((r : Route) → R r → Q (way_back r)) → (rs : List Route)
      → All R rs → All Q (ways_of places rs)
  all_ways Q R there back rs h =
      All-append Q (map (way_there places) rs) (map way_back (filter (is_returning places) rs))
      (All-map Q (way_there places) rs (all_of R (λ r. Q (way_there places r)) rs there h))
      (All-map Q way_back (filter (is_returning places) rs)
      (all_of R (λ r. Q (way_back r)) (filter (is_returning places) rs) back (All-filter (is_returning places) R rs h)))

  less_both : (a b : Bool) (least : ℤ) (steps : List Step) (o : Option ℤ) (c : ℤ) → MayBeBoth a least steps o c → MayBeBoth (a && not b) least steps o c
  less_both false b least steps o c h = tt
  less_both true true least steps o c h = tt
  less_both true false least steps o c h = h

  there_sound : (n : ℕ) (r : Route) → IsSoundRoute n r → IsSoundRoute n (way_there places r)
  there_sound n r h =
      record {
        tail_is_place = h.tail_is_place;
        head_is_place = h.head_is_place;
        rises = h.rises;
        adds = h.adds;
        may_be_both = less_both r.both (is_bounded places r.tail r.head) r.least r.steps r.last_most r.last_cost h.may_be_both;
      }

  back_sound : (n : ℕ) (r : Route) → IsSoundRoute n r → IsSoundRoute n (way_back r)
  back_sound n r h = record { tail_is_place = h.head_is_place; head_is_place = h.tail_is_place; rises = h.rises; adds = h.adds; may_be_both = tt }

  pub ways_sound : (n : ℕ) (rs : List Route) → All (IsSoundRoute n) rs → All (IsSoundRoute n) (ways_of places rs)
  ways_sound n rs h = all_ways (IsSoundRoute n) (IsSoundRoute n) (there_sound n) (back_sound n) rs h

  free_there : (a b : Bool) → ((a && not b) && b) ≡ false
  free_there false b = refl
  free_there true false = refl
  free_there true true = refl

  pub ways_free : (rs : List Route) → All (ReturnsFreely places) (ways_of places rs)
  ways_free rs =
      all_ways (ReturnsFreely places) (λ r. Unit {0}) (λ r k. free_there r.both (is_bounded places r.tail r.head)) (λ r k. refl) rs (λ k d l. tt)

  pub few_ways : (rs : List Route) → length (numbers_of (is_returning places) 1 rs) ≤ length (ways_of places rs)
  few_ways rs =
      omega (
        arith,
        count_numbers (is_returning places) 1 rs,
        length-map (filter (is_returning places) rs) way_back,
        length-append (map (way_there places) rs) (map way_back (filter (is_returning places) rs)),
      )

  rows_counted : (rs : List Route) → length (ways_of places rs) - length (numbers_of (is_returning places) 1 rs) ≡ length rs
  rows_counted rs =
      omega (
        arith,
        count_numbers (is_returning places) 1 rs,
        length-map (filter (is_returning places) rs) way_back,
        length-map rs (way_there places),
        length-append (map (way_there places) rs) (map way_back (filter (is_returning places) rs)),
      )

  pub rows_inside : (rs : List Route)
      → All (IsNode (length (ways_of places rs) - length (numbers_of (is_returning places) 1 rs))) (numbers_of (is_returning places) 1 rs)
  rows_inside rs =
      all_of (Between 1 (length rs)) (IsNode (length (ways_of places rs) - length (numbers_of (is_returning places) 1 rs)))
      (numbers_of (is_returning places) 1 rs) (λ w k. (omega (arith, k), omega (arith, k, rows_counted rs))) (numbers_between (is_returning places) 1 rs)

-- ---- the problem that is made

module _ (places : List Place) (steps : List Step) (rows : List RouteRow) (policy : Policy) (seen : List Place) (ways : List RouteRow) (returning : List ℕ)
    (e : seen ≡ places) (ways_are : ways ≡ way_rows seen rows) (returning_are : returning ≡ numbers_of (row_returns seen) 1 rows) where
  pub ways_same : ways ≡ way_rows places rows
  ways_same = ways_are ∙ ap (λ ps. way_rows ps rows) e

  pub planner_same : with_tables places steps ways returning policy ≡ planner_of places steps rows policy
  planner_same =
      ap (λ (ws : List RouteRow). with_tables places steps ws returning policy) ways_same
      ∙ ap (λ (ns : List ℕ). with_tables places steps (way_rows places rows) ns policy)
      (returning_are ∙ ap (λ ps. numbers_of (row_returns ps) 1 rows) e)
      ∙ made_problem places steps rows policy
