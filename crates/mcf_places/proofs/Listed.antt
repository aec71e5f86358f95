-- Steps of the loops that make the routes of a model, as rows.
use Rattle.std.proofs.Common.{◌≡◌, ℕ, suc, ◌+◌, ◌<◌, ◌≤◌, List, [], ◌∷◌, ◌++◌, length, map, take, drop, get_or, ap, sym, ◌∙◌, subst, arith, add-one, drop-cons, append_assoc, ℤ}
use Rattle.std.specs.Prelude.{Option, Some, None}
use Rattle.std.proofs.lemmas.List.{map-append}
use Rattle.std.proofs.lemmas.List.Elements.{All-push}
use Rattle.mcf_model.specs.declared.rows.RouteRow.{RouteRow}
use Rattle.mcf_model.specs.declared.rows.Step.{Step}
use Rattle.mcf_model.specs.Faults.{AreListed}
use Rattle.mcf_model.specs.Model.{Route}
use Rattle.mcf_model.specs.Tables.{route_of, route_with}
use Rattle.mcf_places.specs.declared.places.Place.{Place}
use Rattle.mcf_places.specs.Models.{by_place, first_amount, from_exit, later_amounts, routes_by, with_first}

pub listed_push : (steps : List Step) (old new : List RouteRow) (row : RouteRow) → new ≡ old ++ row ∷ []
    → (row.first_step + row.step_count) ≤ length steps → AreListed steps old → AreListed steps new
listed_push steps old new row e h before =
    subst (AreListed steps) (sym e)
    (All-push (λ (row : RouteRow). (row.first_step + row.step_count) ≤ length steps) old row before h)

none_taken : {X : Type 0} (n : ℕ) (xs : List X) → n ≡ 0 → take n xs ≡ []
none_taken n [] e = ap (λ k. take k []) e
none_taken n (x ∷ xs) e = ap (λ k. take k (x ∷ xs)) e

-- a row without steps is the same route with any table
pub no_steps : (steps : List Step) (row : RouteRow) → (row.first_step + row.step_count) ≡ 0 → route_of steps row ≡ route_with row []
no_steps steps row e = ap (route_with row) (none_taken row.step_count (drop row.first_step steps) (omega (arith, e)))

-- one row more
row_more : (steps : List Step) (old new : List RouteRow) (row : RouteRow) (r : Route) (rest : List Route) → new ≡ old ++ row ∷ [] → route_of steps row ≡ r
    → map (route_of steps) new ++ rest ≡ map (route_of steps) old ++ r ∷ rest
row_more steps old new row r rest e is =
    ap (λ xs. map (route_of steps) xs ++ rest) e
    ∙ ap (λ xs. xs ++ rest) (map-append (route_of steps) old (row ∷ []))
    ∙ append_assoc (map (route_of steps) old) (route_of steps row ∷ []) rest
    ∙ ap (λ b. map (route_of steps) old ++ b ∷ rest) is

pub exit_step : (steps : List Step) (ps : List Place) (lent : List RouteRow) (i : ℕ) (d row : RouteRow) (old new : List RouteRow) (whole : List Route)
    → i < length lent → route_of steps row ≡ from_exit ps (route_of steps (get_or lent i d)) → new ≡ old ++ row ∷ []
    → map (route_of steps) old ++ map (from_exit ps) (map (route_of steps) (drop i lent)) ≡ whole
    → map (route_of steps) new ++ map (from_exit ps) (map (route_of steps) (drop (i + 1) lent)) ≡ whole
exit_step steps ps lent i d row old new whole h is e before =
    let next : map (from_exit ps) (map (route_of steps) (drop i lent))
    ≡ from_exit ps (route_of steps (get_or lent i d)) ∷ map (from_exit ps) (map (route_of steps) (drop (i + 1) lent)) =
    rw add-one (ap (λ xs. map (from_exit ps) (map (route_of steps) xs)) (drop-cons lent i d h)) in
    row_more steps old new row (from_exit ps (route_of steps (get_or lent i d))) (map (from_exit ps) (map (route_of steps) (drop (i + 1) lent))) e is
    ∙ ap (λ xs. map (route_of steps) old ++ xs) (sym next)
    ∙ before

module _ (make : ℕ → Place → Option Route) (ps : List Place) (i : ℕ) (d : Place) (inside : i < length ps) where
  made_next : (v w k : ℕ) → w ≡ suc v → k ≡ suc i → routes_by make v (drop i ps) ≡ with_first (make v (get_or ps i d)) (routes_by make w (drop k ps))
  made_next v w k e f =
      ap (routes_by make v) (drop-cons ps i d inside)
      ∙ ap (λ n. with_first (make v (get_or ps i d)) (routes_by make n (drop (suc i) ps))) (sym e)
      ∙ ap (λ n. with_first (make v (get_or ps i d)) (routes_by make w (drop n ps))) (sym f)

  pub some_step : (steps : List Step) (v w k : ℕ) → w ≡ suc v → k ≡ suc i → (row : RouteRow) (old new : List RouteRow) (whole : List Route)
      → Some (route_with row []) ≡ make v (get_or ps i d) → (row.first_step + row.step_count) ≡ 0 → new ≡ old ++ row ∷ []
      → map (route_of steps) old ++ routes_by make v (drop i ps) ≡ whole → map (route_of steps) new ++ routes_by make w (drop k ps) ≡ whole
  some_step steps v w k a b row old new whole is plain e before =
      row_more steps old new row (route_with row []) (routes_by make w (drop k ps)) e (no_steps steps row plain)
      ∙ ap (λ o. map (route_of steps) old ++ with_first o (routes_by make w (drop k ps))) is
      ∙ ap (λ xs. map (route_of steps) old ++ xs) (sym (made_next v w k a b))
      ∙ before

  pub none_step : (steps : List Step) (v w k : ℕ) → w ≡ suc v → k ≡ suc i → (old : List RouteRow) (whole : List Route) → None ≡ make v (get_or ps i d)
      → map (route_of steps) old ++ routes_by make v (drop i ps) ≡ whole → map (route_of steps) old ++ routes_by make w (drop k ps) ≡ whole
  none_step steps v w k a b old whole is before =
      ap (λ o. map (route_of steps) old ++ with_first o (routes_by make w (drop k ps))) is
      ∙ ap (λ xs. map (route_of steps) old ++ xs) (sym (made_next v w k a b))
      ∙ before

-- rows that are pushed part by part
pub rows_joined : (f : RouteRow → Route) (a0 a1 a2 a3 a4 a5 : List RouteRow) (g : RouteRow) (X T S M : List Route) (G : Route) → a0 ≡ []
    → map f a1 ≡ map f a0 ++ X → map f a2 ≡ map f a1 ++ T → map f a3 ≡ map f a2 ++ S → map f a4 ≡ map f a3 ++ M → a5 ≡ a4 ++ g ∷ [] → f g ≡ G
    → map f a5 ≡ X ++ (T ++ (S ++ (M ++ G ∷ [])))
rows_joined f a0 a1 a2 a3 a4 a5 g X T S M G e0 e1 e2 e3 e4 e5 is =
    ap (map f) e5
    ∙ map-append f a4 (g ∷ [])
    ∙ ap (λ z. map f a4 ++ z ∷ []) is
    ∙ ap (λ zs. zs ++ G ∷ []) e4
    ∙ append_assoc (map f a3) M (G ∷ [])
    ∙ ap (λ zs. zs ++ (M ++ G ∷ [])) e3
    ∙ append_assoc (map f a2) S (M ++ G ∷ [])
    ∙ ap (λ zs. zs ++ (S ++ (M ++ G ∷ []))) e2
    ∙ append_assoc (map f a1) T (S ++ (M ++ G ∷ []))
    ∙ ap (λ zs. zs ++ (T ++ (S ++ (M ++ G ∷ [])))) (e1 ∙ ap (λ zs. map f zs ++ X) e0)

pub none_listed : (steps : List Step) (rows : List RouteRow) → rows ≡ [] → AreListed steps rows
none_listed steps rows e = subst (AreListed steps) (sym e) (λ k d l. absurd (omega arith))

-- one place more, as a loop reads amounts
pub amount_step : (make : ℕ → Place → Option Route) (ps : List Place) (i : ℕ) (d : Place) → i < length ps → (v w k : ℕ) → w ≡ suc v → k ≡ suc i
    → (x : ℤ) (old new rest later whole : List ℤ) → x ≡ first_amount (make v (get_or ps i d)) rest → later ≡ later_amounts (make v (get_or ps i d)) rest
    → new ≡ old ++ x ∷ [] → old ++ by_place make v (drop i ps) rest ≡ whole → new ++ by_place make w (drop k ps) later ≡ whole
amount_step make ps i d inside v w k a b x old new rest later whole is is_later e before =
    let next : by_place make v (drop i ps) rest
    ≡ first_amount (make v (get_or ps i d)) rest ∷ by_place make w (drop k ps) (later_amounts (make v (get_or ps i d)) rest) =
    ap (λ qs. by_place make v qs rest) (drop-cons ps i d inside)
    ∙ ap (λ n. first_amount (make v (get_or ps i d)) rest ∷ by_place make n (drop (suc i) ps) (later_amounts (make v (get_or ps i d)) rest)) (sym a)
    ∙ ap (λ n. first_amount (make v (get_or ps i d)) rest ∷ by_place make w (drop n ps) (later_amounts (make v (get_or ps i d)) rest)) (sym b) in
    ap (λ xs. xs ++ by_place make w (drop k ps) later) e
    ∙ append_assoc old (x ∷ []) (by_place make w (drop k ps) later)
    ∙ ap (λ z. old ++ z ∷ by_place make w (drop k ps) later) is
    ∙ ap (λ ys. old ++ first_amount (make v (get_or ps i d)) rest ∷ by_place make w (drop k ps) ys) is_later
    ∙ ap (λ ys. old ++ ys) (sym next)
    ∙ before
