-- The models of spans have no fault.
use Rattle.std.proofs.Common.{◌≡◌, ℕ, zero, suc, ◌-◌, ◌*◌, eqb, take, Bool, true, false, List, [], ◌∷◌, length, map, refl, ap, sym, ◌∙◌, subst, arith, ℤ, pos, neg_ℤ, ◌≤ℤ◌, inr}
use Rattle.std.specs.Prelude.{Option, Some, None, option_map, replicate, slice_index_or, Result, Ok, Err, is_ok}
use Rattle.std.specs.List.{All}
use Rattle.std.proofs.Math.Seq.{drop-nil, take-nil}
use Rattle.std.proofs.lemmas.Int.{ints}
use Rattle.std.proofs.lemmas.List.{length-replicate}
use Rattle.std.proofs.lemmas.List.Elements.{All-cons, All-head, All-nil, All-tail}
use Rattle.mcf_flows.specs.Network.{IsNode, at_node, when}
use Rattle.mcf_flows.specs.WellFormed.{IsUpTo}
use Rattle.mcf_model.specs.declared.rows.RouteRow.{RouteRow}
use Rattle.mcf_model.specs.declared.faults.ModelFault.{ModelFault}
use Rattle.mcf_model.specs.Faults.{model_unless}
use Rattle.mcf_model.specs.Laws.{IsProper, StepsTake}
use Rattle.mcf_model.specs.Model.{CostAtLeast, IsSound, IsSoundRoute, MayBeBoth, Model, Route}
use Rattle.mcf_model.specs.Tables.{model_of, own_steps, route_of, route_with}
use Rattle.mcf_figures.specs.Changes.{with_more_at}
use Rattle.mcf_unit_ranges.specs.Changes.{with_units}
use Rattle.mcf_unit_ranges.specs.Private.Rows.{plain, plain_model}
use Rattle.mcf_unit_ranges.specs.SpanModels.{free_model, freed, span_model, spare, still}
use Rattle.mcf_unit_ranges.specs.Spans.{span}
use Rattle.mcf_unit_ranges.proofs.SpanPlans.{span_sound}
use Rattle.mcf_unit_ranges.proofs.Supplies.{as_long_both, more_at}

-- ---- rows without steps before the last

none_own : (row : RouteRow) → own_steps [] row ≡ []
none_own row = ap (take row.step_count) (drop-nil row.first_step) ∙ take-nil row.step_count

plain_rows : (rows : List RouteRow) → map (route_of []) rows ≡ map plain rows
plain_rows [] = refl
plain_rows (row ∷ rows) =
    ap (λ own. route_with row own ∷ map (route_of []) rows) (none_own row) ∙ ap (λ rs. plain row ∷ rs) (plain_rows rows)

pub plain_made : (supplies : List ℤ) (rows : List RouteRow) → model_of supplies [] rows ≡ plain_model supplies rows
plain_made supplies rows = ap (λ (rs : List Route). record { supplies = supplies; routes = rs }) (plain_rows rows)

-- ---- no faults

all_mapped : (P : Route → Type 0) (f : Route → Route) → ((r : Route) → P (f r)) → (routes : List Route) → All P (map f routes)
all_mapped P f e [] = All-nil P
all_mapped P f e (r ∷ routes) = All-cons P (f r) (map f routes) (e r) (all_mapped P f e routes)

all_from : (P Q : Route → Type 0) (f : Route → Route) → ((r : Route) → P r → Q (f r)) → (routes : List Route) → All P routes → All Q (map f routes)
all_from P Q f e [] h = All-nil Q
all_from P Q f e (r ∷ routes) h =
    All-cons Q (f r) (map f routes) (e r (All-head P r routes h)) (all_from P Q f e routes (All-tail P r routes h))

abbrev EarnsNothing : Route → Type 0
EarnsNothing r = CostAtLeast (pos 0) r.steps r.last_cost

zero_up : pos 0 ≤ℤ pos 0
zero_up = omega (arith, ints)

freed_both : (both : Bool) (o : Option ℤ) → MayBeBoth both (pos 0) [] (option_map (λ most. pos 0) o) (pos 0)
freed_both true (Some m) = (refl, zero_up, zero_up)
freed_both true None = (refl, zero_up, tt)
freed_both false o = tt

module _ (prices : List ℤ) (m : Model) (u w : ℕ) (sound : IsSound m) (hu : IsNode (length m.supplies) u) (hw : IsNode (length m.supplies) w) where
  abbrev n : ℕ
  n = length m.supplies

  pub span_proper : (d : ℤ) → IsProper (span_model prices m u w d)
  span_proper d =
      let rest = map (span prices) m.routes in
      let first : IsSoundRoute n (spare u w) = record { tail_is_place = hu; head_is_place = hw; rises = tt; adds = tt; may_be_both = tt } in
      record {
        sound = subst (λ k. All (IsSoundRoute k) (spare u w ∷ rest)) (sym (as_long_both m u w d hu hw))
            (All-cons (IsSoundRoute n) (spare u w) rest first (all_from (IsSoundRoute n) (IsSoundRoute n) (span prices) (λ r s. span_sound n prices r s) m.routes sound));
        bounded = inr (All-cons EarnsNothing (spare u w) rest (omega (arith, ints)) (all_mapped EarnsNothing (span prices) (λ r. zero_up) m.routes));
        steps_take = All-cons StepsTake (spare u w) rest (All-nil _) (all_mapped StepsTake (span prices) (λ r. All-nil _) m.routes);
      }

  still_long : length (still m).supplies ≡ n
  still_long = length-replicate n (pos 0)

  pub still_node : (v : ℕ) → IsNode n v → IsNode (length (still m).supplies) v
  still_node v h = (h.0, omega (arith, h.1, still_long))

  freed_sound : (r : Route) → IsSoundRoute n r → IsSoundRoute n (freed (span prices r))
  freed_sound r s =
      let k = span_sound n prices r s in
      record {
        tail_is_place = k.tail_is_place;
        head_is_place = k.head_is_place;
        rises = tt;
        adds = tt;
        may_be_both = freed_both (span prices r).both (span prices r).last_most;
      }

  pub free_proper : IsProper (free_model prices m u w)
  free_proper =
      let rest = map (λ r. freed (span prices r)) m.routes in
      record {
        sound = subst (λ k. All (IsSoundRoute k) rest) (sym (as_long_both (still m) u w (pos 1) (still_node u hu) (still_node w hw) ∙ still_long))
            (all_from (IsSoundRoute n) (IsSoundRoute n) (λ r. freed (span prices r)) freed_sound m.routes sound);
        bounded = inr (all_mapped EarnsNothing (λ r. freed (span prices r)) (λ r. zero_up) m.routes);
        steps_take = all_mapped StepsTake (λ r. freed (span prices r)) (λ r. All-nil _) m.routes;
      }

-- ---- as the code makes them

freed_spans : (prices : List ℤ) (routes : List Route) → map freed (map (span prices) routes) ≡ map (λ r. freed (span prices r)) routes
freed_spans prices [] = refl
freed_spans prices (r ∷ routes) = ap (λ rs. freed (span prices r) ∷ rs) (freed_spans prices routes)

pub free_made : (prices : List ℤ) (m : Model) (u w : ℕ) (supplies zeros : List ℤ) (rows spans : List RouteRow) → zeros ≡ replicate (length m.supplies) (pos 0)
    → supplies ≡ with_more_at (with_more_at zeros u (pos 1)) w (neg_ℤ (pos 1)) → map plain spans ≡ map (span prices) m.routes
    → map plain rows ≡ map freed (map plain spans) → plain_model supplies rows ≡ free_model prices m u w
free_made prices m u w supplies zeros rows spans z s e f =
    ap (λ (xs : List ℤ). record { supplies = xs; routes = map plain rows }) (s ∙ ap (λ xs. with_more_at (with_more_at xs u (pos 1)) w (neg_ℤ (pos 1))) z)
    ∙ ap (λ (rs : List Route). record { supplies = (with_units (still m) u w (pos 1)).supplies; routes = rs }) (f ∙ ap (map freed) e ∙ freed_spans prices m.routes)

pub spans_made : (prices : List ℤ) (m : Model) (u w : ℕ) (d d' : ℤ) (supplies given : List ℤ) (rows spans : List RouteRow) → given ≡ m.supplies → d' ≡ d
    → supplies ≡ with_more_at (with_more_at given u d') w (neg_ℤ d') → map plain spans ≡ map (span prices) m.routes
    → map plain rows ≡ spare u w ∷ map plain spans → plain_model supplies rows ≡ span_model prices m u w d
spans_made prices m u w d d' supplies given rows spans g e s f r =
    ap (λ (xs : List ℤ). record { supplies = xs; routes = map plain rows })
    (s ∙ ap (λ xs. with_more_at (with_more_at xs u d') w (neg_ℤ d')) g ∙ ap (λ z. with_more_at (with_more_at m.supplies u z) w (neg_ℤ z)) e)
    ∙ ap (λ (rs : List Route). record { supplies = (with_units m u w d).supplies; routes = rs }) (r ∙ ap (λ rs. spare u w ∷ rs) f)

-- ---- supplies stay small

small_when : (limit : ℕ) (b : Bool) (d : ℤ) → IsUpTo limit d → IsUpTo limit (when b d)
small_when limit true d h = h
small_when limit false d h = (omega (arith, ints, h.0, h.1), omega (arith, ints, h.0, h.1))

pub still_small : (limit : ℕ) (supplies : List ℤ) (u w : ℕ) (d : ℤ) → IsNode (length supplies) u → IsNode (length supplies) w → IsUpTo limit (at_node supplies w)
    → IsUpTo limit d → IsUpTo (2 * limit) (at_node (with_more_at supplies u d) w)
still_small limit supplies u w d hu hw h k =
    let e = more_at supplies u d w hu hw in
    let z = small_when limit (eqb u w) d k in
    (omega (arith, ints, e, z.0, z.1, h.0, h.1), omega (arith, ints, e, z.0, z.1, h.0, h.1))

pub still_zero : (n : ℕ) (v : ℕ) → at_node (replicate n (pos 0)) v ≡ pos 0
still_zero n v = at n (v - 1)
  where
    at : (n i : ℕ) → slice_index_or (replicate n (pos 0)) i (pos 0) ≡ pos 0
    at zero i = refl
    at (suc n) zero = refl
    at (suc n) (suc i) = at n i

-- ---- what is made of tables

pub no_error : {X E : Type 0} (r : Result X E) (fault : E) → r ≡ Err fault → is_ok r ≡ true → ⊥
no_error r fault e h = cc (sym (ap is_ok e) ∙ h)

pub made_ok : (o : Option ModelFault) (m made : Model) → model_unless o m ≡ Ok made → made ≡ m
made_ok (Some fault) m made e = cc e
made_ok None m made e = cc e
