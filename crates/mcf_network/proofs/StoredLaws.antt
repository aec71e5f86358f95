-- Arcs by their links and widths.
use Rattle.std.proofs.Common.{◌≡◌, ℕ, zero, suc, ◌+◌, ◌-◌, ◌<◌, ◌≤◌, List, [], ◌∷◌, ◌++◌, length, take, get_or, replicate, refl, sym, ap, ◌∙◌, arith, inl, inr, ℤ, pos}
use Rattle.std.proofs.Math.Seq.{get_or-append_seam}
use Rattle.std.proofs.lemmas.Bool.{cases_eq, cases_lt}
use Rattle.std.proofs.lemmas.List.{ext_get_or, get_or-append_right, get_or-replicate, get_or_append_left, get_or_past, length-append, length-replicate, take_all}
use Rattle.mcf_flows.specs.declared.arc.Arc.{Arc}
use Rattle.mcf_flows.specs.declared.arc.Link.{Link}
use Rattle.mcf_network.specs.Residual.{no_arc}
use Rattle.mcf_network.specs.Private.Widths.{GainsWidth}
use Rattle.mcf_network.specs.Stored.{stored_arc, stored_arcs, width_at}

pub length-stored_arcs : (links : List Link) (widths : List ℤ) → length (stored_arcs links widths) ≡ length links
length-stored_arcs [] widths = refl
length-stored_arcs (link ∷ links) [] = ap suc (length-stored_arcs links [])
length-stored_arcs (link ∷ links) (width ∷ widths) = ap suc (length-stored_arcs links widths)

pub get_or-stored_arcs : (links : List Link) (widths : List ℤ) (i : ℕ) (link : Link) (a : Arc) → i < length links
    → get_or (stored_arcs links widths) i a ≡ stored_arc (get_or links i link) (width_at widths i)
get_or-stored_arcs [] widths i d a h = absurd (omega arith)
get_or-stored_arcs (link ∷ links) [] zero d a h = refl
get_or-stored_arcs (link ∷ links) [] (suc i) d a h = get_or-stored_arcs links [] i d a (omega arith)
get_or-stored_arcs (link ∷ links) (width ∷ widths) zero d a h = refl
get_or-stored_arcs (link ∷ links) (width ∷ widths) (suc i) d a h = get_or-stored_arcs links widths i d a (omega arith)

-- one arc more
pub stored_arcs_more : (links : List Link) (link : Link) (before after : List ℤ) (width : ℤ) → GainsWidth before (length links) width after
    → stored_arcs (links ++ link ∷ []) after ≡ stored_arcs links before ++ stored_arc link width ∷ []
stored_arcs_more links link before after width gains =
    let more = links ++ link ∷ [] in
    let old = stored_arcs links before in
    let one : length more ≡ length links + 1 = length-append links (link ∷ []) in
    let count : length (stored_arcs more after) ≡ length links + 1 = length-stored_arcs more after ∙ one in
    let short : length old ≡ length links = length-stored_arcs links before in
    let long : length (old ++ stored_arc link width ∷ []) ≡ length old + 1 = length-append old (stored_arc link width ∷ []) in
    ext_get_or no_arc (stored_arcs more after) (old ++ stored_arc link width ∷ []) (omega (arith, count, short, long))
    (λ i h. get_or-stored_arcs more after i link no_arc (omega (arith, h, count, one)) ∙ elim (cases_eq i (length links)) [
      | inl e ↦ rw e (
          ap (λ (l : Link). stored_arc l (width_at after (length links))) (get_or-append_seam links link [] link)
          ∙ ap (stored_arc link) gains.here ∙ sym (ap (λ n. get_or (old ++ stored_arc link width ∷ []) n no_arc) (sym short)
          ∙ get_or-append_seam old (stored_arc link width) [] no_arc))
      | inr n ↦
          let inside : i < length links = omega (arith, h, count, n) in
          ap (λ (l : Link). stored_arc l (width_at after i)) (get_or_append_left links (link ∷ []) link i inside)
          ∙ ap (stored_arc (get_or links i link)) (gains.kept i inside)
          ∙ sym (get_or_append_left old (stored_arc link width ∷ []) no_arc i (omega (arith, inside, short))
          ∙ get_or-stored_arcs links before i link no_arc inside)
    ])

-- width 1 is that of each arc past the widths
pub width_one : (widths : List ℤ) (place : ℕ) → length widths ≤ place → GainsWidth widths place (pos 1) widths
width_one widths place h =
    record { fits = omega (arith, h); here = get_or_past widths place (pos 1) h; kept = λ i _. refl }

-- widths of 1 up to the place, and then its own
pub width_put : (before filled after : List ℤ) (place : ℕ) (width : ℤ) → length before ≤ place
    → filled ≡ take place before ++ replicate (place - length before) (pos 1) → after ≡ filled ++ width ∷ [] → GainsWidth before place width after
width_put before filled after place width h ef ea =
    let ones = replicate (place - length before) (pos 1) in
    let is : filled ≡ before ++ ones = ef ∙ ap (λ xs. xs ++ ones) (take_all place before h) in
    let count : length filled ≡ place = ap length is ∙ length-append before ones
    ∙ (let n = length-replicate (place - length before) (pos 1) in omega (arith, n, h)) in
    let long : length (filled ++ width ∷ []) ≡ length filled + 1 = length-append filled (width ∷ []) in
    rw ea (record {
      fits = omega (arith, count, long);
      here = ap (λ n. get_or (filled ++ width ∷ []) n (pos 1)) (sym count) ∙ get_or-append_seam filled width [] (pos 1);
      kept = λ i hi. get_or_append_left filled (width ∷ []) (pos 1) i (omega (arith, hi, count)) ∙ ap (λ xs. get_or xs i (pos 1)) is
          ∙ elim (cases_lt i (length before)) [
            | inl within ↦ get_or_append_left before ones (pos 1) i within
            | inr past ↦ get_or-append_right before ones (length before) i (pos 1) refl past
                ∙ get_or-replicate (place - length before) (i - length before) (pos 1) (pos 1) (omega (arith, hi, past))
                ∙ sym (get_or_past before i (pos 1) past)
          ];
    })
