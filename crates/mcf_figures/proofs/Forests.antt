-- Classes as trees: a path made shorter, a root hung below another, and the classes numbered.
use Rattle.std.proofs.Common.{◌≡◌, ◌≢◌, ℕ, zero, suc, ◌+◌, ◌<◌, ◌≤◌, min, max, List, [], ◌∷◌, ◌++◌, length, map, set, refl, ap, sym, ◌∙◌, subst, arith, inl, inr, length-append}
use Rattle.std.specs.Prelude.{◌⊎◌, ◌↔◌}
use Rattle.std.specs.List.{range_with_len}
use Rattle.std.proofs.Math.Seq.{get_or-append_seam}
use Rattle.std.proofs.lemmas.Bool.{cases_eq, cases_lt, eq-eqb, ne_eqb}
use Rattle.std.proofs.lemmas.Grind.{get_or-set_at}
use Rattle.std.proofs.lemmas.List.{ext_get_or, get_or-map, get_or-set_other, get_or_append_left, length-map, length-set}
use Rattle.std.proofs.lemmas.List.FromFn.{get_or-range_with_len, length-range_with_len}
use Rattle.mcf_figures.specs.Groups.{AreInOrder, entry, firsts, merged, numbers_by, relabelled}
use Rattle.mcf_figures.specs.Private.Forests.{AreAlike, Falls, IsForest, greatest, next_number}

-- ---- a parent changed

-- an entry of a list in which one is changed: the new one, or the old one
changed : (xs : List ℕ) (i x j : ℕ) → i < length xs → ((j ≡ i) × (entry (set xs i x) j ≡ x)) ⊎ ((j ≢ i) × (entry (set xs i x) j ≡ entry xs j))
changed xs i x j h =
    elim (cases_eq j i) [
      | inl e ↦ inl (e, get_or-set_at xs i j x 0 e h)
      | inr n ↦ inr (n, get_or-set_other xs i j x 0 n)
    ]

inside : (xs : List ℕ) (i x w : ℕ) → w < length (set xs i x) → w < length xs
inside xs i x w h = omega (arith, h, length-set xs i x)

pub falls_set : (parents : List ℕ) (v x : ℕ) → Falls parents → v < length parents → x ≤ v → Falls (set parents v x)
falls_set parents v x falls h low w k =
    elim (changed parents v x w h) [
      | inl same ↦ omega (arith, same.0, same.1, low)
      | inr other ↦ omega (arith, other.1, falls w (inside parents v x w k))
    ]

-- the parent of a parent isn't greater either
pub twice_falls : (parents : List ℕ) (v : ℕ) → Falls parents → v < length parents → entry parents (entry parents v) ≤ entry parents v
twice_falls parents v falls h = falls (entry parents v) (omega (arith, h, falls v h))

pub halved_falls : (parents : List ℕ) (v : ℕ) → Falls parents → v < length parents → Falls (set parents v (entry parents (entry parents v)))
halved_falls parents v falls h =
    falls_set parents v (entry parents (entry parents v)) falls h (omega (arith, falls v h, twice_falls parents v falls h))

-- the classes stay when a number gets the parent of its parent
pub halved_forest : (parents labels : List ℕ) (v : ℕ) → v < length parents → IsForest parents labels
    → IsForest (set parents v (entry parents (entry parents v))) labels
halved_forest parents labels v h f =
    let p = entry parents v in
    let x = entry parents p in
    let hp : p < length parents = omega (arith, h, f.falls v h) in
    record {
      as_long = f.as_long ∙ sym (length-set parents v x);
      falls = halved_falls parents v f.falls h;
      low = λ w k. f.low w (inside parents v x w k);
      same = λ w k.
          elim (changed parents v x w h) [
            | inl same ↦ ap (entry labels) same.1 ∙ f.same p hp ∙ f.same v h ∙ ap (entry labels) (sym same.0)
            | inr other ↦ ap (entry labels) other.1 ∙ f.same w (inside parents v x w k)
          ];
      own = λ w k e.
          elim (changed parents v x w h) [
            | inl same ↦
                let root : p ≡ v = omega (arith, same.0, same.1, e, f.falls v h, f.falls p hp) in
                ap (entry labels) same.0 ∙ f.own v h root ∙ sym same.0
            | inr other ↦ f.own w (inside parents v x w k) (sym other.1 ∙ e)
          ];
    }

-- ---- a root below another

module _ (high low : ℕ) (h : low ≤ high) where
  abbrev R : ℕ → ℕ
  R = relabelled high low

  at_high : (l : ℕ) → l ≡ high → R l ≡ low
  at_high l e = rw (eq-eqb l high e) refl

  elsewhere : (l : ℕ) → l ≢ high → R l ≡ l
  elsewhere l n = rw (ne_eqb l high n) refl

  no_greater : (l : ℕ) → R l ≤ l
  no_greater l = elim (cases_eq l high) [ inl e ↦ omega (arith, at_high l e, e, h) | inr n ↦ omega (arith, elsewhere l n) ]

  at_low : R low ≡ low
  at_low = elim (cases_eq low high) [ inl e ↦ at_high low e | inr n ↦ elsewhere low n ]

pub hung_forest : (parents labels : List ℕ) (high low : ℕ) → low ≤ high → high < length parents → IsForest parents labels → entry labels high ≡ high
    → entry labels low ≡ low → IsForest (set parents high low) (map (relabelled high low) labels)
hung_forest parents labels high low le h f top other =
    let r = relabelled high low in
    let n = length parents in
    let at : (w : ℕ) → w < n → entry (map r labels) w ≡ r (entry labels w) = λ w k. get_or-map r labels w 0 0 (omega (arith, k, f.as_long)) in
    record {
      as_long = length-map labels r ∙ f.as_long ∙ sym (length-set parents high low);
      falls = falls_set parents high low f.falls h le;
      low = λ w k.
          let here = inside parents high low w k in
          omega (arith, at w here, no_greater high low le (entry labels w), f.low w here);
      same = λ w k.
          let here = inside parents high low w k in
          elim (changed parents high low w h) [
            | inl same ↦
                let lowest : low < n = omega (arith, le, h) in
                ap (entry (map r labels)) same.1 ∙ at low lowest ∙ ap r other ∙ at_low high low le
                ∙ sym (at w here ∙ at_high high low le (entry labels w) (ap (entry labels) same.0 ∙ top))
            | inr apart ↦
                let p : entry parents w < n = omega (arith, here, f.falls w here) in
                ap (entry (map r labels)) apart.1 ∙ at (entry parents w) p ∙ ap r (f.same w here) ∙ sym (at w here)
          ];
      own = λ w k e.
          let here = inside parents high low w k in
          elim (changed parents high low w h) [
            | inl same ↦ at w here ∙ at_high high low le (entry labels w) (ap (entry labels) same.0 ∙ top) ∙ sym same.1 ∙ e
            | inr apart ↦
                let root = f.own w here (sym apart.1 ∙ e) in
                at w here ∙ ap r root ∙ elsewhere high low le w apart.0
          ];
    }

greater_own : (labels : List ℕ) (a b : ℕ) → entry labels a ≡ a → entry labels b ≡ b
    → (entry labels (max a b) ≡ max a b) × (entry labels (min a b) ≡ min a b)
greater_own labels a b e f =
    elim (cases_lt a b) [
      | inl le ↦
          let m : max a b ≡ b = omega (arith, le) in
          let n : min a b ≡ a = omega (arith, le) in
          (ap (entry labels) m ∙ f ∙ sym m, ap (entry labels) n ∙ e ∙ sym n)
      | inr le ↦
          let m : max a b ≡ a = omega (arith, le) in
          let n : min a b ≡ b = omega (arith, le) in
          (ap (entry labels) m ∙ e ∙ sym m, ap (entry labels) n ∙ f ∙ sym n)
    ]

-- the roots of two classes, one below the other
pub joined_forest : (parents labels : List ℕ) (first second a b : ℕ) → first < length parents → second < length parents → IsForest parents labels
    → entry labels first ≡ first → entry labels second ≡ second → first ≡ a → second ≡ b
    → IsForest (set parents (max first second) (min first second)) (merged labels a b)
joined_forest parents labels first second a b hf hs f ef es ea eb =
    let own = greater_own labels first second ef es in
    let made = hung_forest parents labels (max first second) (min first second) (omega arith) (omega (arith, hf, hs)) f own.0 own.1 in
    subst (λ x. IsForest (set parents (max first second) (min first second)) (merged labels a x)) eb
    (subst (λ x. IsForest (set parents (max first second) (min first second)) (merged labels x second)) ea made)

-- ---- labels after classes are joined

-- two labels that become one were one, or those of the two classes
pub same_merged : (a b l k : ℕ) → relabelled (max a b) (min a b) l ≡ relabelled (max a b) (min a b) k
    → (l ≡ k) ⊎ (((l ≡ a) × (k ≡ b)) ⊎ ((l ≡ b) × (k ≡ a)))
same_merged a b l k e =
    let le : min a b ≤ max a b = omega arith in
    elim (cases_eq l (max a b)) [
      | inl top ↦
          elim (cases_eq k (max a b)) [
            | inl other ↦ inl (top ∙ sym other)
            | inr apart ↦
                let low : k ≡ min a b = sym (elsewhere (max a b) (min a b) le k apart) ∙ sym e ∙ at_high (max a b) (min a b) le l top in
                inr (ends l k top low)
          ]
      | inr apart ↦
          elim (cases_eq k (max a b)) [
            | inl top ↦
                let low : l ≡ min a b = sym (elsewhere (max a b) (min a b) le l apart) ∙ e ∙ at_high (max a b) (min a b) le k top in
                inr (elim (ends k l top low) [ inl p ↦ inr (p.1, p.0) | inr p ↦ inl (p.1, p.0) ])
            | inr other ↦ inl (sym (elsewhere (max a b) (min a b) le l apart) ∙ e ∙ elsewhere (max a b) (min a b) le k other)
          ]
    ]
  where
    ends : (x y : ℕ) → x ≡ max a b → y ≡ min a b → ((x ≡ a) × (y ≡ b)) ⊎ ((x ≡ b) × (y ≡ a))
    ends x y p q =
        elim (cases_lt a b) [
          | inl le ↦ inr (omega (arith, p, le), omega (arith, q, le))
          | inr le ↦ inl (omega (arith, p, le), omega (arith, q, le))
        ]

-- the two classes have one label afterwards
pub merged_ends : (a b : ℕ) → relabelled (max a b) (min a b) a ≡ relabelled (max a b) (min a b) b
merged_ends a b =
    let le : min a b ≤ max a b = omega arith in
    elim (cases_eq a b) [
      | inl e ↦ ap (relabelled (max a b) (min a b)) e
      | inr n ↦
          elim (cases_lt a b) [
            | inl small ↦
                elsewhere (max a b) (min a b) le a (λ e. n (omega (arith, e, small))) ∙ omega (arith, small)
                ∙ sym (at_high (max a b) (min a b) le b (omega (arith, small)))
            | inr small ↦
                at_high (max a b) (min a b) le a (omega (arith, small)) ∙ omega (arith, small)
                ∙ sym (elsewhere (max a b) (min a b) le b (λ e. n (omega (arith, e, small))))
          ]
    ]

-- one number more
range_from : (first count : ℕ) → range_with_len first (suc count) ≡ range_with_len first count ++ (first + count) ∷ []
range_from first zero = (let same : first ≡ first + 0 = omega arith in ap (λ (n : ℕ). n ∷ []) same)
range_from first (suc count) =
    let same : first + 1 + count ≡ first + suc count = omega arith in
    ap (λ (ns : List ℕ). first ∷ ns) (range_from (first + 1) count ∙ ap (λ (n : ℕ). range_with_len (first + 1) count ++ n ∷ []) same)

pub range_more : (count : ℕ) → range_with_len 0 (count + 1) ≡ range_with_len 0 count ++ count ∷ []
range_more count =
    let more : count + 1 ≡ suc count = omega arith in
    let same : 0 + count ≡ count = omega arith in
    ap (range_with_len 0) more ∙ range_from 0 count ∙ ap (λ (n : ℕ). range_with_len 0 count ++ n ∷ []) same

-- each number as its own parent
pub own_forest : (n : ℕ) → IsForest (range_with_len 0 n) (range_with_len 0 n)
own_forest n =
    let parents = range_with_len 0 n in
    let long : length parents ≡ n = length-range_with_len 0 n in
    let at : (v : ℕ) → v < length parents → entry parents v ≡ v = λ v h. get_or-range_with_len 0 n v 0 (omega (arith, h, long)) ∙ omega arith in
    record {
      as_long = refl;
      falls = λ v h. omega (arith, at v h);
      low = λ v h. omega (arith, at v h);
      same = λ v h. ap (entry parents) (at v h);
      own = λ v h e. e;
    }

-- ---- the classes numbered

grows : (count : ℕ) (xs : List ℕ) → count ≤ greatest count xs
grows count [] = omega arith
grows count (x ∷ xs) = omega (arith, grows (max count x) xs)

pub greatest_push : (count : ℕ) (xs : List ℕ) (x : ℕ) → greatest count (xs ++ x ∷ []) ≡ max (greatest count xs) x
greatest_push count [] x = refl
greatest_push count (y ∷ xs) x = greatest_push (max count y) xs x

pub in_order_push : (count : ℕ) (xs : List ℕ) (x : ℕ) → AreInOrder count xs → 1 ≤ x → x ≤ suc (greatest count xs) → AreInOrder count (xs ++ x ∷ [])
in_order_push count [] x ordered one low = (one, low, tt)
in_order_push count (y ∷ xs) x ordered one low = (ordered.0, ordered.1, in_order_push (max count y) xs x ordered.2 one low)

-- each number is at least 1, and no greater than the greatest
each_number : (count : ℕ) (xs : List ℕ) (i : ℕ) → AreInOrder count xs → i < length xs → (1 ≤ entry xs i) × (entry xs i ≤ greatest count xs)
each_number count [] i ordered h = absurd (omega arith)
each_number count (x ∷ xs) zero ordered h = (ordered.0, omega (arith, grows (max count x) xs))
each_number count (x ∷ xs) (suc i) ordered h = each_number (max count x) xs i ordered.2 (omega (arith, h))

-- what is kept of the numbers of the first places
pub record AreNumbered (parents made : List ℕ) (place count : ℕ) : Type 0 where
  pub as_long : length made ≡ place
  pub in_order : AreInOrder 0 made
  pub greatest_is : greatest 0 made ≡ count
  pub few : count ≤ place
  pub alike : (labels : List ℕ) → IsForest parents labels → AreAlike labels made place
  pub counted : (labels : List ℕ) → IsForest parents labels → count ≡ firsts labels place
  pub numbers : (labels : List ℕ) → IsForest parents labels → (u : ℕ) → u < place → entry made u ≡ firsts labels (suc (entry labels u))

pub none_numbered : (parents : List ℕ) → AreNumbered parents [] 0 0
none_numbered parents =
    record {
      as_long = refl;
      in_order = tt;
      greatest_is = refl;
      few = omega arith;
      alike = λ labels f u w h k. absurd (omega (arith, h));
      counted = λ labels f. refl;
      numbers = λ labels f u h. absurd (omega (arith, h));
    }

-- the lowest place of a class is one more of those that are counted, and no other place is
first_own : (labels : List ℕ) (v : ℕ) → entry labels v ≡ v → firsts labels (suc v) ≡ suc (firsts labels v)
first_own labels v e = rw (eq-eqb (entry labels v) v e) (omega arith)

first_other : (labels : List ℕ) (v : ℕ) → entry labels v ≢ v → firsts labels (suc v) ≡ firsts labels v
first_other labels v n = rw (ne_eqb (entry labels v) v n) (omega arith)

next_cases : (parents made : List ℕ) (place count : ℕ) → Falls parents → place < length parents
    → ((entry parents place ≡ place) × (next_number parents made place count ≡ suc count))
    ⊎ ((entry parents place < place) × (next_number parents made place count ≡ entry made (entry parents place)))
next_cases parents made place count falls h =
    elim (cases_eq (entry parents place) place) [
      | inl e ↦ inl (e, rw (eq-eqb (entry parents place) place e) refl)
      | inr n ↦ inr (omega (arith, n, falls place h), rw (ne_eqb (entry parents place) place n) refl)
    ]

-- two numbers that are both of the first places, or of the last one
next_alike : (parents labels made : List ℕ) (place count : ℕ) → IsForest parents labels → place < length parents → length made ≡ place
    → AreInOrder 0 made → greatest 0 made ≡ count → AreAlike labels made place → (u : ℕ) → u < place
    → (entry made u ≡ next_number parents made place count) ↔ (entry labels u ≡ entry labels place)
next_alike parents labels made place count f h long ordered top alike u k =
    elim (next_cases parents made place count f.falls h) [
      | inl root ↦ (
        λ e. absurd (omega (arith, e, root.1, (each_number 0 made u ordered (omega (arith, k, long))).1, top)),
        λ e. absurd (omega (arith, e, f.own place h root.0, f.low u (omega (arith, k, h)), k)),
      )
      | inr child ↦
          let iff = alike u (entry parents place) k child.0 in (
            λ e. iff.0 (e ∙ child.1) ∙ f.same place h,
            λ e. iff.1 (e ∙ sym (f.same place h)) ∙ sym child.1,
          )
    ]

pub numbered_next : (parents made : List ℕ) (place count : ℕ) → Falls parents → place < length parents → AreNumbered parents made place count
    → AreNumbered parents (made ++ next_number parents made place count ∷ []) (place + 1) (max count (next_number parents made place count))
numbered_next parents made place count falls h s =
    let x = next_number parents made place count in
    let bounds = next_bounds in
    record {
      as_long = length-append made (x ∷ []) ∙ omega (arith, s.as_long);
      in_order = in_order_push 0 made x s.in_order bounds.0 (omega (arith, bounds.1, s.greatest_is));
      greatest_is = greatest_push 0 made x ∙ ap (λ c. max c x) s.greatest_is;
      few = omega (arith, bounds.1, s.few);
      alike = λ labels f u w hu hw. pairs labels f u w hu hw;
      counted = λ labels f.
          let one : place + 1 ≡ suc place = omega arith in
          (numbered_at labels f).1 ∙ ap (firsts labels) (sym one);
      numbers = λ labels f u hu.
          elim (cases_eq u place) [
            | inl e ↦ last u e ∙ (numbered_at labels f).0 ∙ ap (λ v. firsts labels (suc (entry labels v))) (sym e)
            | inr n ↦
                let k : u < place = omega (arith, n, hu) in
                before u k ∙ s.numbers labels f u k
          ];
    }
  where
    next_bounds : (1 ≤ next_number parents made place count) × (next_number parents made place count ≤ suc count)
    next_bounds =
        elim (next_cases parents made place count falls h) [
          | inl root ↦ (omega (arith, root.1), omega (arith, root.1))
          | inr child ↦
              let each = each_number 0 made (entry parents place) s.in_order (omega (arith, child.0, s.as_long)) in
              (omega (arith, child.1, each.0), omega (arith, child.1, each.1, s.greatest_is))
        ]

    x : ℕ
    x = next_number parents made place count

    before : (u : ℕ) → u < place → entry (made ++ x ∷ []) u ≡ entry made u
    before u k = get_or_append_left made (x ∷ []) 0 u (omega (arith, k, s.as_long))

    last : (u : ℕ) → u ≡ place → entry (made ++ x ∷ []) u ≡ x
    last u e = ap (entry (made ++ x ∷ [])) (e ∙ sym s.as_long) ∙ get_or-append_seam made x [] 0

    numbered_at : (labels : List ℕ) → IsForest parents labels → (x ≡ firsts labels (suc (entry labels place))) × (max count x ≡ firsts labels (suc place))
    numbered_at labels f =
        let c = s.counted labels f in
        elim (next_cases parents made place count falls h) [
          | inl root ↦
              let own = f.own place h root.0 in
              let first = first_own labels place own in (
                root.1 ∙ ap suc c ∙ sym first ∙ ap (λ l. firsts labels (suc l)) (sym own),
                omega (arith, root.1, first, c),
              )
          | inr child ↦
              let p = entry parents place in
              let same = f.same place h in
              let low = f.low p (omega (arith, child.0, h)) in
              let other = first_other labels place (λ e. omega (arith, e, same, low, child.0)) in
              let each = each_number 0 made p s.in_order (omega (arith, child.0, s.as_long)) in (
                child.1 ∙ s.numbers labels f p child.0 ∙ ap (λ l. firsts labels (suc l)) same,
                omega (arith, child.1, other, c, each.1, s.greatest_is),
              )
        ]

    pairs : (labels : List ℕ) → IsForest parents labels → AreAlike labels (made ++ x ∷ []) (place + 1)
    pairs labels f u w hu hw =
        let alike = s.alike labels f in
        let one : (v : ℕ) → v < place → (entry made v ≡ x) ↔ (entry labels v ≡ entry labels place) =
        next_alike parents labels made place count f h s.as_long s.in_order s.greatest_is alike in
        elim (cases_eq u place) [
          | inl eu ↦
              elim (cases_eq w place) [
                | inl ew ↦ (λ e. ap (entry labels) (eu ∙ sym ew), λ e. ap (entry (made ++ x ∷ [])) (eu ∙ sym ew))
                | inr nw ↦
                    let kw : w < place = omega (arith, nw, hw) in
                    let iff = one w kw in (
                      λ e. ap (entry labels) eu ∙ sym (iff.0 (sym (before w kw) ∙ sym e ∙ last u eu)),
                      λ e. last u eu ∙ sym (before w kw ∙ iff.1 (sym e ∙ ap (entry labels) eu)),
                    )
              ]
          | inr nu ↦
              let ku : u < place = omega (arith, nu, hu) in
              elim (cases_eq w place) [
                | inl ew ↦
                    let iff = one u ku in (
                      λ e. iff.0 (sym (before u ku) ∙ e ∙ last w ew) ∙ ap (entry labels) (sym ew),
                      λ e. before u ku ∙ iff.1 (e ∙ ap (entry labels) ew) ∙ sym (last w ew),
                    )
                | inr nw ↦
                    let kw : w < place = omega (arith, nw, hw) in
                    let iff = alike u w ku kw in (
                      λ e. iff.0 (sym (before u ku) ∙ e ∙ before w kw),
                      λ e. before u ku ∙ iff.1 e ∙ sym (before w kw),
                    )
              ]
        ]

-- the same, with the next number as the code has it
pub numbered_more : (parents made after : List ℕ) (place count number top : ℕ) → Falls parents → place < length parents → AreNumbered parents made place count
    → number ≡ next_number parents made place count → top ≡ max count number → after ≡ made ++ number ∷ [] → AreNumbered parents after (place + 1) top
numbered_more parents made after place count number top falls h s e f g =
    subst (λ xs. AreNumbered parents xs (place + 1) top) (sym g)
    (subst (AreNumbered parents (made ++ number ∷ []) (place + 1)) (sym f)
    (subst (λ x. AreNumbered parents (made ++ x ∷ []) (place + 1) (max count x)) (sym e) (numbered_next parents made place count falls h s)))

-- all numbers
pub numbers_are : (parents labels made : List ℕ) (place count : ℕ) → AreNumbered parents made place count → length parents ≤ place → IsForest parents labels
    → length made ≡ length parents → made ≡ numbers_by labels
numbers_are parents labels made place count s top f long =
    let same : length made ≡ length (numbers_by labels) = long ∙ sym f.as_long ∙ sym (length-map labels (λ low. firsts labels (suc low))) in
    ext_get_or 0 made (numbers_by labels) same
    (λ i h. s.numbers labels f i (omega (arith, h, long, top))
    ∙ sym (get_or-map (λ low. firsts labels (suc low)) labels i 0 0 (omega (arith, h, long, f.as_long))))
