-- The first thing that a test of each entry, with those before it, finds.
use Rattle.std.proofs.Common.{◌≡◌, ℕ, zero, suc, ◌+◌, ◌<◌, ◌≤◌, List, [], ◌∷◌, ◌++◌, map, length, take, drop, get_or, refl, sym, ◌∙◌, ap, subst, Some, None, arith}
use Rattle.std.specs.Prelude.{Option, filter_map, slice_get}
use Rattle.std.specs.List.{cons_option}
use Rattle.std.specs.Option.{option_or}
use Rattle.std.proofs.lemmas.List.{map-append, take_more, take-append-drop}
use Rattle.std.proofs.Math.Seq.{take-length}
use Rattle.std.proofs.lemmas.List.Elements.{filter_map-append}
use Rattle.mcf_text.specs.Row.{with_earlier}
use Rattle.mcf_instance.specs.Arrays.{first_found}
use Rattle.mcf_instance.proofs.Totals.{with_earlier-append_one}

module _ {X Y : Type 0} (test : List X → X → Option Y) where
  -- what the test finds at an entry with those before it
  abbrev at_entry : List X × X → Option Y
  at_entry entry = test entry.0 entry.1

  first-append : (xs ys : List Y) → slice_get (xs ++ ys) 0 ≡ option_or (slice_get xs 0) (slice_get ys 0)
  first-append [] ys = refl
  first-append (x ∷ xs) ys = refl

  first_of_option : (o : Option Y) → slice_get (cons_option o []) 0 ≡ o
  first_of_option None = refl
  first_of_option (Some y) = refl

  -- with one more entry
  pub first_found-push : (xs : List X) (x : X) → first_found test (xs ++ x ∷ []) ≡ option_or (first_found test xs) (test xs x)
  first_found-push xs x =
      ap (λ entries. slice_get (filter_map at_entry entries) 0) (with_earlier-append_one xs x)
      ∙ ap (λ ys. slice_get ys 0) (filter_map-append at_entry (with_earlier xs) ((xs, x) ∷ []))
      ∙ first-append (filter_map at_entry (with_earlier xs)) (cons_option (test xs x) [])
      ∙ ap (option_or (first_found test xs)) (first_of_option (test xs x))

  -- entries that follow come after those before
  with_earlier-append : (xs ys : List X) → (more : List (List X × X)) × (with_earlier (xs ++ ys) ≡ with_earlier xs ++ more)
  with_earlier-append [] ys = (with_earlier ys, refl)
  with_earlier-append (x ∷ xs) ys =
      let behind : List X × X → List X × X = λ p. (x ∷ p.0, p.1) in
      let rest = with_earlier-append xs ys in
      (map behind rest.0, ap (λ entries. ([], x) ∷ entries) (ap (map behind) rest.1 ∙ map-append behind (with_earlier xs) rest.0))

  -- what is found stays the first
  pub first_found-longer : (xs ys : List X) (y : Y) → first_found test xs ≡ Some y → first_found test (xs ++ ys) ≡ Some y
  first_found-longer xs ys y e =
      let more = with_earlier-append xs ys in
      ap (λ entries. slice_get (filter_map at_entry entries) 0) more.1
      ∙ ap (λ found. slice_get found 0) (filter_map-append at_entry (with_earlier xs) more.0)
      ∙ first-append (filter_map at_entry (with_earlier xs)) (filter_map at_entry more.0)
      ∙ ap (λ o. option_or o (slice_get (filter_map at_entry more.0) 0)) e

  -- nothing was found so far, nor at one more entry
  pub first_found-none : (xs : List X) (i : ℕ) (d : X) → i < length xs → first_found test (take i xs) ≡ None → test (take i xs) (get_or xs i d) ≡ None
      → first_found test (take (i + 1) xs) ≡ None
  first_found-none xs i d inside before here =
      ap (first_found test) (take_more xs i d inside) ∙ first_found-push (take i xs) (get_or xs i d)
      ∙ ap (λ o. option_or o (test (take i xs) (get_or xs i d))) before ∙ here

  -- nothing was found so far, but at one more entry
  pub first_found-some : (xs : List X) (i : ℕ) (d : X) (y : Y) → i < length xs → first_found test (take i xs) ≡ None
      → test (take i xs) (get_or xs i d) ≡ Some y → first_found test xs ≡ Some y
  first_found-some xs i d y inside before here =
      let found : first_found test (take (i + 1) xs) ≡ Some y =
      ap (first_found test) (take_more xs i d inside) ∙ first_found-push (take i xs) (get_or xs i d)
      ∙ ap (λ o. option_or o (test (take i xs) (get_or xs i d))) before ∙ here in
      ap (first_found test) (sym (take-append-drop (i + 1) xs)) ∙ first_found-longer (take (i + 1) xs) (drop (i + 1) xs) y found

  none_so_far : (xs : List X) → ((i : ℕ) (d : X) → i < length xs → test (take i xs) (get_or xs i d) ≡ None) → (i : ℕ) → i ≤ length xs
      → first_found test (take i xs) ≡ None
  none_so_far xs h zero inside = refl
  none_so_far [] h (suc i) inside = absurd (omega arith)
  none_so_far (x ∷ xs) h (suc i) inside =
      let one : i + 1 ≡ suc i = omega arith in
      subst (λ k. first_found test (take k (x ∷ xs)) ≡ None) one
      (first_found-none (x ∷ xs) i x (omega arith) (none_so_far (x ∷ xs) h i (omega arith)) (h i x (omega arith)))

  -- where each entry passes, nothing is found
  pub nothing_found : (xs : List X) → ((i : ℕ) (d : X) → i < length xs → test (take i xs) (get_or xs i d) ≡ None) → first_found test xs ≡ None
  nothing_found xs h = rw (take-length xs) at (none_so_far xs h (length xs) (omega arith))
