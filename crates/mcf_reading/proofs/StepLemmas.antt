-- The steps of routes, in one table.
use Rattle.std.proofs.Common.{◌≡◌, ℕ, zero, suc, true, false, not, ◌+◌, ◌-◌, ◌<◌, ◌≤◌, List, [], ◌∷◌, ◌++◌, length, map, All, take, drop, refl, ap, ap₂, ◌∙◌, arith, length-append}
use Rattle.std.proofs.lemmas.List.{drop-append-le, length-drop, map-append, take-append-le}
use Rattle.std.proofs.lemmas.List.Elements.{All-head, All-tail}
use Rattle.std.proofs.lemmas.List.Sums.{suffix_len_is}
use Rattle.std.proofs.Math.Seq.{drop-append_seam, take-length}
use Rattle.mcf_reading.specs.Private.Found.{IsWithin, route_in, route_row}
use Rattle.mcf_reading.specs.RouteRows.{Route, route_with}
use Rattle.mcf_reading.specs.Steps.{columns_at, is_step, no_columns, step_count}
use Rattle.mcf_reading.specs.declared.columns.StepColumns.{StepColumns}
use Rattle.mcf_reading.specs.declared.route_rows.RouteRead.{RouteRead}
use Rattle.mcf_reading.specs.declared.route_rows.RouteRow.{RouteRow}
use Rattle.mcf_reading.specs.declared.steps.StepEntry.{StepEntry}

-- the route of a row, with these steps
abbrev with_steps : RouteRow → List StepEntry → Route
with_steps row steps = record { tail = row.tail; head = row.head; least = row.least; steps = steps; both = row.both }

part_more : (steps more : List StepEntry) (first count : ℕ) → first + count ≤ length steps
    → take count (drop first (steps ++ more)) ≡ take count (drop first steps)
part_more steps more first count inside =
    let begun : first ≤ length steps = omega (arith, inside) in
    let fits : count ≤ length (drop first steps) = omega (arith, inside, length-drop first steps) in
    ap (take count) (drop-append-le first steps more begun) ∙ take-append-le count (drop first steps) more fits

rows_more : (steps more : List StepEntry) (rows : List RouteRow) → All (IsWithin steps) rows → map (route_in (steps ++ more)) rows ≡ map (route_in steps) rows
rows_more steps more [] within = refl
rows_more steps more (row ∷ rows) within =
    let here = All-head (IsWithin steps) row rows within in
    ap₂ (λ (own : List StepEntry) (rest : List Route). with_steps row own ∷ rest) (part_more steps more row.first row.count here)
    (rows_more steps more rows (All-tail (IsWithin steps) row rows within))

new_row : (steps more : List StepEntry) (read : RouteRead) (count : ℕ) → count ≡ length more
    → route_in (steps ++ more) (route_row read (length steps) count) ≡ route_with read more
new_row steps more read count is =
    ap (route_with read) (ap₂ (λ (n : ℕ) (own : List StepEntry). take n own) is (drop-append_seam steps more) ∙ take-length more)

-- one route more, with its steps at the end of the table
pub one_route : (steps more after : List StepEntry) (rows rows2 : List RouteRow) (read : RouteRead) (first count : ℕ)
    → after ≡ steps ++ more → first ≡ length steps → count ≡ length after - first → rows2 ≡ rows ++ route_row read first count ∷ [] → All (IsWithin steps) rows
    → map (route_in after) rows2 ≡ map (route_in steps) rows ++ route_with read more ∷ []
one_route steps more after rows rows2 read first count grown from so_many pushed within =
    let long : count ≡ length more = omega (arith, so_many, from, ap length grown, length-append steps more) in
    let last : route_in (steps ++ more) (route_row read first count) ≡ route_with read more =
    ap (λ (n : ℕ). route_in (steps ++ more) (route_row read n count)) from ∙ new_row steps more read count long in
    ap₂ (λ (own : List StepEntry) (list : List RouteRow). map (route_in own) list) grown pushed
    ∙ map-append (route_in (steps ++ more)) rows (route_row read first count ∷ [])
    ∙ ap₂ (λ (xs : List Route) (y : Route). xs ++ y ∷ []) (rows_more steps more rows within) last

last_step : (first : StepColumns) (more : List StepColumns) (cells : List (List ℕ)) (m : ℕ) → 1 ≤ m
    → is_step cells (columns_at (first ∷ more) m) ≡ true → is_step cells (columns_at more (m - 1)) ≡ true
last_step first more cells zero some is = absurd (omega (arith, some))
last_step first more cells (suc p) some is =
    let same : suc p - 1 ≡ p = omega arith in
    ap (λ (k : ℕ). is_step cells (columns_at more k)) same ∙ is

-- the steps of a row end with the first, or with one that is written and has none after it
pub count_is : (columns : List StepColumns) (cells : List (List ℕ)) (n : ℕ) → n ≤ length columns → (n ≡ 0 → length columns ≡ 0)
    → ((k : ℕ) → n ≤ k → k < length columns → is_step cells (columns_at columns k) ≡ false)
    → ((last : ℕ) → suc last ≡ n → 1 ≤ last → is_step cells (columns_at columns last) ≡ true) → n ≡ step_count columns cells
count_is [] cells n inside some passes stops = omega (arith, inside)
count_is (first ∷ more) cells zero inside some passes stops = absurd (omega (arith, some refl))
count_is (first ∷ more) cells (suc m) inside some passes stops =
    let is_last = suffix_len_is (λ columns. not (is_step cells columns)) more m no_columns (omega (arith, inside))
    (λ k from below. ap not (passes (suc k) (omega (arith, from)) (omega (arith, below))))
    (λ above. ap not (last_step first more cells m above (stops m refl above))) in
    omega (arith, is_last, inside)
