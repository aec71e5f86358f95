-- The problem in which each place with bounds has a limit has no fault.
use Rattle.std.proofs.Common.{◌≡◌, ℕ, zero, suc, ◌-◌, Bool, true, false, ◌&&◌, List, [], ◌∷◌, map, refl, ap, sym, ◌∙◌, subst, arith, ℤ, pos, ◌≤ℤ◌, inl, inr}
use Rattle.std.specs.Prelude.{◌||◌, ◌⊎◌, if◌then◌else◌, not, Option, Some, None, option_map, slice_index_or}
use Rattle.std.specs.List.{All, list_any}
use Rattle.std.specs.Option.{is_none, is_some, option_or}
use Rattle.std.proofs.lemmas.Int.{clamps, ints}
use Rattle.std.proofs.lemmas.List.{length-map}
use Rattle.std.proofs.lemmas.List.Elements.{All-map}
use Rattle.std.proofs.lemmas.List.Folds.{list_any_none}
use Rattle.mcf_model.specs.declared.rows.RouteRow.{RouteRow}
use Rattle.mcf_model.specs.declared.rows.Step.{Step}
use Rattle.mcf_model.specs.Faults.{AreListed, earns}
use Rattle.mcf_model.specs.Model.{CostAtLeast, IsLimited, IsSoundRoute, Route}
use Rattle.mcf_model.specs.Tables.{own_steps, route_of}
use Rattle.mcf_model.proofs.FaultTests.{all_of, and_true, any_none, from_limited, from_no_earnings, from_not_below, from_or_false, no_earnings, or_false}
use Rattle.mcf_places.specs.declared.limits.TheConstants.{THROUGHPUT_LIMIT}
use Rattle.mcf_places.specs.declared.places.Bounds.{Bounds}
use Rattle.mcf_places.specs.declared.places.Place.{Place}
use Rattle.mcf_places.specs.declared.places.Policy.{Policy}
use Rattle.mcf_places.specs.LimitedPlanners.{lacks_limits, limit_for, limited, limited_bounds, limited_place}
use Rattle.mcf_places.specs.PlannerFaults.{CostsThrough, EarnsNothing, HasLimits, IsLimitedPlanner, IsLimitedThrough, IsProperPlanner, earning, has_flaw, is_open, place_earns}
use Rattle.mcf_places.specs.PlannerLaws.{ReturnsFreely, has_bounds}
use Rattle.mcf_places.specs.Planners.{Planner, given, unit_penalty, wanted}
use Rattle.mcf_places.specs.Throughput.{ample_limit, cut}
use Rattle.mcf_places.specs.Ways.{with_tables}
use Rattle.mcf_places.specs.declared.faults.PenaltyFlaw.TheVariants.{Lacking}
use Rattle.mcf_places.proofs.LimitedPlans.{any_map, has_penalties_limited}
use Rattle.mcf_places.proofs.ProperModels.{planner_is}
use Rattle.mcf_places.proofs.ProperPlanners.{costs_through, limited_through}
use Rattle.mcf_places.proofs.Shortages.{place_sum-map}

-- ---- bounds

limited_some : (m : ℤ) (o : Option Bounds) → IsLimitedThrough (option_map (limited_bounds (Some m)) o)
limited_some m (Some b) = go b.most
  where
    go : (o : Option ℤ) → IsLimited (option_or o (Some m))
    go (Some z) = tt
    go None = tt
limited_some m None = tt

limited_more : (limit : Option ℤ) (o : Option Bounds) → IsLimitedThrough o → IsLimitedThrough (option_map (limited_bounds limit) o)
limited_more limit (Some b) h = go b.most h
  where
    go : (o : Option ℤ) → IsLimited o → IsLimited (option_or o limit)
    go (Some z) h = tt
    go None h = absurd h
limited_more limit None h = tt

costs_same : (limit : Option ℤ) (o : Option Bounds) → CostsThrough o → CostsThrough (option_map (limited_bounds limit) o)
costs_same limit (Some b) h = h
costs_same limit None h = tt

some_same : (limit : Option ℤ) (o : Option Bounds) → is_some (option_map (limited_bounds limit) o) ≡ is_some o
some_same limit (Some b) = refl
some_same limit None = refl

at_limited : (limit : Option ℤ) (ps : List Place) (v : ℕ) → has_bounds (map (limited_place limit) ps) v ≡ has_bounds ps v
at_limited limit ps v = go ps (v - 1)
  where
    go : (ps : List Place) (i : ℕ) → is_some (slice_index_or (map (limited_place limit) ps) i (record { supply = pos 0; through = None; penalty = None })).through
        ≡ is_some (slice_index_or ps i (record { supply = pos 0; through = None; penalty = None })).through
    go [] i = refl
    go (p ∷ ps) zero = some_same limit p.through
    go (p ∷ ps) (suc i) = go ps i

returns_limited : (limit : Option ℤ) (ps : List Place) (r : Route) → ReturnsFreely ps r → ReturnsFreely (map (limited_place limit) ps) r
returns_limited limit ps r h =
    ap (λ a. r.both && (a || has_bounds (map (limited_place limit) ps) r.head)) (at_limited limit ps r.tail)
    ∙ ap (λ b. r.both && (has_bounds ps r.tail || b)) (at_limited limit ps r.head) ∙ h

-- ---- which limits there are

pub none_open : (ps : List Place) → list_any (λ p. is_open p.through) ps ≡ false → All (λ p. IsLimitedThrough p.through) ps
none_open ps e =
    all_of (λ p. is_open p.through ≡ false) (λ p. IsLimitedThrough p.through) ps (λ p k. limited_through p.through k) (any_none (λ p. is_open p.through) ps e)

pub all_limited : (rs : List Route) → All (λ r. IsLimited r.last_most) rs → list_any (λ r. is_none r.last_most) rs ≡ false
all_limited rs h =
    list_any_none (λ r. is_none r.last_most) rs
    (all_of (λ r. IsLimited r.last_most) (λ r. is_none r.last_most ≡ false) rs (λ r k. from_limited r.last_most k) h)

pub nothing_earned : (P : Planner)
    → (list_any (λ p. place_earns p.through) P.places || list_any (λ r. earns r.steps r.last_cost) P.routes) ≡ false → EarnsNothing P
nothing_earned P e =
    let both = or_false (list_any (λ p. place_earns p.through) P.places) (list_any (λ r. earns r.steps r.last_cost) P.routes) e in
    record {
      routes = all_of (λ r. earns r.steps r.last_cost ≡ false) (λ r. CostAtLeast (pos 0) r.steps r.last_cost) P.routes
          (λ r k. no_earnings r.steps r.last_cost k) (any_none (λ r. earns r.steps r.last_cost) P.routes both.1);
      places = all_of (λ p. place_earns p.through ≡ false) (λ p. CostsThrough p.through) P.places (λ p k. costs_through p.through k)
          (any_none (λ p. place_earns p.through) P.places both.0);
    }

-- where no cost is below 0, the tests say so
still_limited : (o : Option Bounds) → IsLimitedThrough o → is_open o ≡ false
still_limited (Some b) h = from_limited b.most h
still_limited None h = refl

still_costs : (o : Option Bounds) → CostsThrough o → place_earns o ≡ false
still_costs (Some b) h = from_not_below b.cost (pos 0) h
still_costs None h = refl

closed : (ps : List Place) → All (λ p. IsLimitedThrough p.through) ps → list_any (λ p. is_open p.through) ps ≡ false
closed ps h =
    list_any_none (λ p. is_open p.through) ps
    (all_of (λ p. IsLimitedThrough p.through) (λ p. is_open p.through ≡ false) ps (λ p k. still_limited p.through k) h)

abbrev earned : Planner → Bool
earned P = list_any (λ p. place_earns p.through) P.places || list_any (λ r. earns r.steps r.last_cost) P.routes

unearned : (P : Planner) → EarnsNothing P → earned P ≡ false
unearned P h =
    from_or_false (list_any (λ p. place_earns p.through) P.places) (list_any (λ r. earns r.steps r.last_cost) P.routes)
    (list_any_none (λ p. place_earns p.through) P.places
    (all_of (λ p. CostsThrough p.through) (λ p. place_earns p.through ≡ false) P.places (λ p k. still_costs p.through k) h.places))
    (list_any_none (λ r. earns r.steps r.last_cost) P.routes
    (all_of (λ r. CostAtLeast (pos 0) r.steps r.last_cost) (λ r. earns r.steps r.last_cost ≡ false) P.routes
    (λ r k. from_no_earnings r.steps r.last_cost k) h.routes))

module _ (P : Planner) where
  earns_limited : EarnsNothing P → EarnsNothing (limited P)
  earns_limited h =
      record {
        routes = h.routes;
        places = All-map (λ p. CostsThrough p.through) (limited_place (limit_for P)) P.places
            (all_of (λ p. CostsThrough p.through) (λ p. CostsThrough (option_map (limited_bounds (limit_for P)) p.through)) P.places
            (λ p k. costs_same (limit_for P) p.through k) h.places);
      }

  places_limited : All (λ p. IsLimitedThrough p.through) P.places → All (λ p. IsLimitedThrough p.through) (limited P).places
  places_limited h =
      All-map (λ p. IsLimitedThrough p.through) (limited_place (limit_for P)) P.places
      (all_of (λ p. IsLimitedThrough p.through) (λ p. IsLimitedThrough (option_map (limited_bounds (limit_for P)) p.through)) P.places
      (λ p k. limited_more (limit_for P) p.through k) h)

  places_filled : (limit : Option ℤ) (m : ℤ) → limit ≡ Some m → All (λ p. IsLimitedThrough p.through) (map (limited_place limit) P.places)
  places_filled limit m e =
      subst (λ l. All (λ p. IsLimitedThrough p.through) (map (limited_place l) P.places)) (sym e)
      (All-map (λ p. IsLimitedThrough p.through) (limited_place (Some m)) P.places (λ k d l. limited_some m _))

  pub has_limits : IsLimitedPlanner P ⊎ EarnsNothing P → HasLimits (limited P)
  has_limits (inr k) = inr (earns_limited k)
  has_limits (inl k) = go (list_any (λ p. is_open p.through) P.places) refl
    where
      filled : (b : Bool) → list_any (λ p. is_open p.through) P.places ≡ true → earned P ≡ b → HasLimits (limited P)
      filled false o e = inr (earns_limited (nothing_earned P e))
      filled true o e =
          let lacks : lacks_limits P.places P.routes ≡ true =
          ap (λ t. t && (not (list_any (λ r. is_none r.last_most) P.routes) && earned P)) o ∙ ap (λ t. not t && earned P) (all_limited P.routes k.routes) ∙ e in
          inl (places_filled (limit_for P) (ample_limit P.places P.routes)
          (ap (λ b. if b then Some (ample_limit P.places P.routes) else None) lacks))

      go : (b : Bool) → list_any (λ p. is_open p.through) P.places ≡ b → HasLimits (limited P)
      go false o = inl (places_limited (none_open P.places o))
      go true o = filled (earned P) o refl

  bounded_limited : IsLimitedPlanner P ⊎ EarnsNothing P → IsLimitedPlanner (limited P) ⊎ EarnsNothing (limited P)
  bounded_limited (inr k) = inr (earns_limited k)
  bounded_limited (inl k) = go (has_limits (inl k))
    where
      go : HasLimits (limited P) → IsLimitedPlanner (limited P) ⊎ EarnsNothing (limited P)
      go (inl all) = inl (record { routes = k.routes; places = inl all })
      go (inr none) = inr none

  pub proper_limited : IsProperPlanner P → IsProperPlanner (limited P)
  proper_limited h =
      let same = length-map P.places (limited_place (limit_for P)) in
      record {
        few = omega (arith, h.few, same);
        small = omega (
          arith,
          ints,
          h.small,
          place_sum-map (λ v p. given p) (limited_place (limit_for P)) 1 P.places,
          place_sum-map (λ v p. wanted p) (limited_place (limit_for P)) 1 P.places,
        );
        penalty = h.penalty;
        penalties = All-map (λ p. pos 0 ≤ℤ unit_penalty p.penalty) (limited_place (limit_for P)) P.places h.penalties;
        weighed = λ needed.
            All-map (λ p. has_flaw Lacking P.policy p ≡ false) (limited_place (limit_for P)) P.places
            (h.weighed (ap (λ b. P.policy.short && b) (sym (has_penalties_limited (limit_for P) P.places)) ∙ needed));
        sound = record {
          routes = subst (λ n. All (IsSoundRoute n) P.routes) (sym same) h.sound.routes;
          return_freely = all_of (ReturnsFreely P.places) (ReturnsFreely (limited P).places) P.routes (λ r k. returns_limited (limit_for P) P.places r k)
              h.sound.return_freely;
        };
        steps_take = h.steps_take;
        few_returning = h.few_returning;
        returning_rows = h.returning_rows;
        bounded = bounded_limited h.bounded;
      }

  -- ---- the limit that the code finds

  no_limit_places : (ps : List Place) → map (limited_place None) ps ≡ ps
  no_limit_places [] = refl
  no_limit_places (p ∷ ps) =
      ap (λ (o : Option Bounds). record { supply = p.supply; through = o; penalty = p.penalty } ∷ map (limited_place None) ps) (go p.through)
      ∙ ap (λ (qs : List Place). p ∷ qs) (no_limit_places ps)
    where
      own : (o : Option ℤ) → option_or o None ≡ o
      own (Some m) = refl
      own None = refl

      go : (o : Option Bounds) → option_map (limited_bounds None) o ≡ o
      go (Some b) = ap (λ (m : Option ℤ). Some (record { least = b.least; most = m; cost = b.cost })) (own b.most)
      go None = refl

  pub unlimited_same : limit_for P ≡ None → limited P ≡ P
  unlimited_same e =
      ap (λ (ps : List Place). record { places = ps; routes = P.routes; returning = P.returning; policy = P.policy })
      (ap (λ l. map (limited_place l) P.places) e ∙ no_limit_places P.places)

  pub limits_if_none : IsProperPlanner P → limit_for P ≡ None → HasLimits P
  limits_if_none h e = subst HasLimits (unlimited_same e) (has_limits h.bounded)

  abbrev limit_if : Bool → Option ℤ
  limit_if b = if b then Some (ample_limit P.places P.routes) else None

  pub limit_found : IsProperPlanner P → list_any (λ p. is_open p.through) P.places ≡ true → earned P ≡ true → (z : ℤ)
      → z ≡ cut (ample_limit P.places P.routes) → limit_for P ≡ Some z
  limit_found h unlimited earns_some z e = go h.bounded
    where
      lacks : All (λ r. IsLimited r.last_most) P.routes → lacks_limits P.places P.routes ≡ true
      lacks k = ap (λ t. t && (not (list_any (λ r. is_none r.last_most) P.routes) && earned P)) unlimited ∙ ap (λ t. not t && earned P) (all_limited P.routes k) ∙ earns_some

      whole : ample_limit P.places P.routes ≤ℤ pos THROUGHPUT_LIMIT → z ≡ ample_limit P.places P.routes
      whole small = omega (arith, ints, clamps, e, small)

      go : IsLimitedPlanner P ⊎ EarnsNothing P → limit_for P ≡ Some z
      go (inr none) = cc (sym earns_some ∙ unearned P none)
      go (inl k) = places k.places
        where
          places : All (λ p. IsLimitedThrough p.through) P.places ⊎ (ample_limit P.places P.routes ≤ℤ pos THROUGHPUT_LIMIT) → limit_for P ≡ Some z
          places (inl all) = cc (sym unlimited ∙ closed P.places all)
          places (inr small) = ap limit_if (lacks k.routes) ∙ ap (λ t. Some t) (sym (whole small))

  pub no_limit_found : (list_any (λ p. is_open p.through) P.places && earned P) ≡ false → limit_for P ≡ None
  no_limit_found e = ap limit_if (go (list_any (λ p. is_open p.through) P.places) (list_any (λ r. is_none r.last_most) P.routes) (earned P) e)
    where
      go : (a b c : Bool) → (a && c) ≡ false → (a && (not b && c)) ≡ false
      go false b c e = refl
      go true true c e = refl
      go true false c e = e

-- what the rows earn is what their routes earn
pub earned_by_rows : (places : List Place) (steps : List Step) (rows : List RouteRow)
    → earning places steps rows ≡ (list_any (λ p. place_earns p.through) places || list_any (λ r. earns r.steps r.last_cost) (map (route_of steps) rows))
earned_by_rows places steps rows =
    ap (λ b. list_any (λ p. place_earns p.through) places || b)
    (sym (any_map (route_of steps) (λ row. earns (own_steps steps row) row.last_cost) (λ r. earns r.steps r.last_cost) (λ row. refl) rows))

module _ (P : Planner) (places : List Place) (steps : List Step) (rows : List RouteRow) (e : places ≡ P.places) (f : map (route_of steps) rows ≡ P.routes) where
  opens_same : list_any (λ p. is_open p.through) places ≡ list_any (λ p. is_open p.through) P.places
  opens_same = ap (λ (ps : List Place). list_any (λ p. is_open p.through) ps) e

  earned_same : earning places steps rows ≡ earned P
  earned_same =
      earned_by_rows places steps rows
      ∙ ap (λ (ps : List Place). list_any (λ p. place_earns p.through) ps || list_any (λ r. earns r.steps r.last_cost) (map (route_of steps) rows)) e
      ∙ ap (λ (rs : List Route). list_any (λ p. place_earns p.through) P.places || list_any (λ r. earns r.steps r.last_cost) rs) f

  pub found_by_tables : IsProperPlanner P → (a b : Bool) → a ≡ list_any (λ p. is_open p.through) places → b ≡ earning places steps rows → (a && b) ≡ true
      → (z : ℤ) → z ≡ cut (ample_limit places (map (route_of steps) rows)) → Some z ≡ limit_for P
  found_by_tables proper a b a_is b_is both z z_is =
      let parts = and_true a b both in
      sym (limit_found P proper (sym (a_is ∙ opens_same) ∙ parts.0) (sym (b_is ∙ earned_same) ∙ parts.1) z
      (z_is ∙ ap (λ (ps : List Place). cut (ample_limit ps (map (route_of steps) rows))) e ∙ ap (λ (rs : List Route). cut (ample_limit P.places rs)) f))

  pub none_by_tables : (a b : Bool) → a ≡ list_any (λ p. is_open p.through) places → b ≡ earning places steps rows → (a && b) ≡ false → None ≡ limit_for P
  none_by_tables a b a_is b_is neither =
      sym (no_limit_found P (ap (λ t. t && earned P) (sym (a_is ∙ opens_same)) ∙ ap (λ t. a && t) (sym (b_is ∙ earned_same)) ∙ neither))

-- the problem that the code makes
module _ (P : Planner) (limit : ℤ) (is : limit_for P ≡ Some limit) (places made_places : List Place) (steps made_steps : List Step)
    (rows made_rows : List RouteRow) (returning made_returning : List ℕ) (policy : Policy) (e : places ≡ P.places) (f : map (route_of steps) rows ≡ P.routes)
    (b : returning ≡ P.returning) (g : policy ≡ P.policy) (places_are : made_places ≡ map (limited_place (Some limit)) places)
    (steps_are : made_steps ≡ steps) (rows_are : made_rows ≡ rows) (returning_are : made_returning ≡ returning) where
  pub same_limited : with_tables made_places made_steps made_rows made_returning policy ≡ limited P
  same_limited =
      planner_is (limited P) made_places (map (route_of made_steps) made_rows) made_returning policy
      (places_are ∙ ap (map (limited_place (Some limit))) e ∙ ap (λ l. map (limited_place l) P.places) (sym is))
      (ap (λ s. map (route_of s) made_rows) steps_are ∙ ap (map (route_of steps)) rows_are ∙ f) (returning_are ∙ b) g

  pub makes_limited : IsProperPlanner P → AreListed steps rows
      → IsProperPlanner (with_tables made_places made_steps made_rows made_returning policy) × AreListed made_steps made_rows
  makes_limited proper listed = (
    subst IsProperPlanner (sym same_limited) (proper_limited P proper),
    subst (λ s. AreListed s made_rows) (sym steps_are) (subst (AreListed steps) (sym rows_are) listed),
  )
