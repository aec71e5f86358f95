-- That the code finds each edit, and finds nothing else.
use Rattle.std.proofs.Common.{◌≡◌, ◌≢◌, ℕ, true, false, List, [], ◌∷◌, ◌++◌, length, refl, sym, ap, ap₂, subst, ◌∙◌, arith, inl, inr}
use Rattle.std.specs.Prelude.{◌==◌, ◌&&◌}
use Rattle.std.specs.Str.{bytes_eq}
use Rattle.std.proofs.lemmas.Bool.{and_from, and_parts, cases_Bool, cond-false, cond-true, eq-eqb, eqb-false, eqb-true, ne_eqb, or_cases, or_left, or_right}
use Rattle.std.proofs.lemmas.Slice.Eq.{bytes_eq-Decides}
use Rattle.mcf_table.specs.NearHeads.{IsChanged, IsInserted, IsOneEdit, IsSwapped, are_swapped, differ_once, is_one_edit}

same : (word : List ℕ) → bytes_eq word word ≡ true
same word = (bytes_eq-Decides word word).1 refl

is_empty : (word : List ℕ) → length word ≡ 0 → word ≡ []
is_empty [] none = refl
is_empty (x ∷ word) none = absurd (omega (arith, none))

inserted_next : (x : ℕ) (short long : List ℕ) → IsInserted short long → IsInserted (x ∷ short) (x ∷ long)
inserted_next x short long is =
    record {
      front = x ∷ is.front;
      letter = is.letter;
      back = is.back;
      short_is = ap (λ (word : List ℕ). x ∷ word) is.short_is;
      long_is = ap (λ (word : List ℕ). x ∷ word) is.long_is;
    }

changed_next : (x : ℕ) (one other : List ℕ) → IsChanged one other → IsChanged (x ∷ one) (x ∷ other)
changed_next x one other is =
    record {
      front = x ∷ is.front;
      letter = is.letter;
      instead = is.instead;
      back = is.back;
      one_is = ap (λ (word : List ℕ). x ∷ word) is.one_is;
      other_is = ap (λ (word : List ℕ). x ∷ word) is.other_is;
      differ = is.differ;
    }

swapped_next : (x : ℕ) (one other : List ℕ) → IsSwapped one other → IsSwapped (x ∷ one) (x ∷ other)
swapped_next x one other is =
    record {
      front = x ∷ is.front;
      first = is.first;
      second = is.second;
      back = is.back;
      one_is = ap (λ (word : List ℕ). x ∷ word) is.one_is;
      other_is = ap (λ (word : List ℕ). x ∷ word) is.other_is;
      differ = is.differ;
    }

edit_next : (x : ℕ) (one other : List ℕ) → IsOneEdit one other → IsOneEdit (x ∷ one) (x ∷ other)
edit_next x one other (inl is) = inl (inserted_next x one other is)
edit_next x one other (inr (inl is)) = inr (inl (inserted_next x other one is))
edit_next x one other (inr (inr (inl is))) = inr (inr (inl (changed_next x one other is)))
edit_next x one other (inr (inr (inr is))) = inr (inr (inr (swapped_next x one other is)))

inserted_alone : (word : List ℕ) → (length word == 1) ≡ true → IsInserted [] word
inserted_alone [] hit = absurd (omega (arith, eqb-true 0 1 hit))
inserted_alone (x ∷ word) hit =
    record {
      front = [];
      letter = x;
      back = [];
      short_is = refl;
      long_is = ap (λ (more : List ℕ). x ∷ more) (is_empty word (omega (arith, eqb-true (length (x ∷ word)) 1 hit)));
    }

swapped_here : (x y : ℕ) (one other : List ℕ) → x ≢ y → are_swapped (x ∷ one) (y ∷ other) ≡ true → IsSwapped (x ∷ one) (y ∷ other)
swapped_here x y [] other differ hit = cc
swapped_here x y (b ∷ one) [] differ hit = cc
swapped_here x y (b ∷ one) (d ∷ other) differ hit =
    let parts = and_parts (x == d) (b == y && bytes_eq one other) hit in
    let more = and_parts (b == y) (bytes_eq one other) parts.1 in
    let rest : one ≡ other = (bytes_eq-Decides one other).0 more.1 in
    record {
      front = [];
      first = x;
      second = y;
      back = one;
      one_is = ap (λ (n : ℕ). x ∷ n ∷ one) (eqb-true b y more.0);
      other_is = ap₂ (λ (n : ℕ) (word : List ℕ). y ∷ n ∷ word) (sym (eqb-true x d parts.0)) (sym rest);
      differ = differ;
    }

edit_here : (x y : ℕ) (one other : List ℕ) → x ≢ y → differ_once (x ∷ one) (y ∷ other) ≡ true → IsOneEdit (x ∷ one) (y ∷ other)
edit_here x y one other differ hit =
    elim (or_cases (bytes_eq one other) _ hit) [
      | inl is ↦
          inr (inr (inl (record {
            front = [];
            letter = x;
            instead = y;
            back = one;
            one_is = refl;
            other_is = ap (λ (word : List ℕ). y ∷ word) (sym ((bytes_eq-Decides one other).0 is));
            differ = differ;
          })))
      | inr rest ↦
          elim (or_cases (bytes_eq (x ∷ one) other) _ rest) [
            | inl is ↦
                inl (record {
                  front = [];
                  letter = y;
                  back = x ∷ one;
                  short_is = refl;
                  long_is = ap (λ (word : List ℕ). y ∷ word) (sym ((bytes_eq-Decides (x ∷ one) other).0 is));
                })
            | inr last ↦
                elim (or_cases (bytes_eq one (y ∷ other)) _ last) [
                  | inl is ↦
                      inr (inl (record {
                        front = [];
                        letter = x;
                        back = y ∷ other;
                        short_is = refl;
                        long_is = ap (λ (word : List ℕ). x ∷ word) ((bytes_eq-Decides one (y ∷ other)).0 is);
                      }))
                  | inr is ↦ inr (inr (inr (swapped_here x y one other differ is)))
                ]
          ]
    ]

pub edit_found : (one other : List ℕ) → is_one_edit one other ≡ true → IsOneEdit one other
edit_found [] other hit = inl (inserted_alone other hit)
edit_found (x ∷ one) [] hit = inr (inl (inserted_alone (x ∷ one) hit))
edit_found (x ∷ one) (y ∷ other) hit =
    elim (cases_Bool (x == y)) [
      | inl is ↦
          subst (λ (n : ℕ). IsOneEdit (x ∷ one) (n ∷ other)) (eqb-true x y is)
          (edit_next x one other
          (edit_found one other (sym (cond-true (x == y) (is_one_edit one other) (differ_once (x ∷ one) (y ∷ other)) is) ∙ hit)))
      | inr miss ↦
          edit_here x y one other (eqb-false x y miss)
          (sym (cond-false (x == y) (is_one_edit one other) (differ_once (x ∷ one) (y ∷ other)) miss) ∙ hit)
    ]

-- past a letter with which both begin
past : (x : ℕ) (one other : List ℕ) → is_one_edit one other ≡ true → is_one_edit (x ∷ one) (x ∷ other) ≡ true
past x one other hit = cond-true (x == x) (is_one_edit one other) (differ_once (x ∷ one) (x ∷ other)) (eq-eqb x x refl) ∙ hit

-- where the first letters differ
here : (x y : ℕ) (one other : List ℕ) → (x == y) ≡ false → differ_once (x ∷ one) (y ∷ other) ≡ true
    → is_one_edit (x ∷ one) (y ∷ other) ≡ true
here x y one other miss hit = cond-false (x == y) (is_one_edit one other) (differ_once (x ∷ one) (y ∷ other)) miss ∙ hit

longer_here : (back : List ℕ) (letter : ℕ) → is_one_edit back (letter ∷ back) ≡ true
longer_here [] letter = eq-eqb (length (letter ∷ [])) 1 (omega arith)
longer_here (b ∷ back) letter =
    elim (cases_Bool (b == letter)) [
      | inl is ↦
          subst (λ (n : ℕ). is_one_edit (b ∷ back) (n ∷ b ∷ back) ≡ true) (eqb-true b letter is)
          (past b back (b ∷ back) (longer_here back b))
      | inr miss ↦
          here b letter back (b ∷ back) miss
          (or_right (bytes_eq back (b ∷ back)) _ (or_left (bytes_eq (b ∷ back) (b ∷ back)) _ (same (b ∷ back))))
    ]

shorter_here : (back : List ℕ) (letter : ℕ) → is_one_edit (letter ∷ back) back ≡ true
shorter_here [] letter = eq-eqb (length (letter ∷ [])) 1 (omega arith)
shorter_here (b ∷ back) letter =
    elim (cases_Bool (letter == b)) [
      | inl is ↦
          subst (λ (n : ℕ). is_one_edit (n ∷ b ∷ back) (b ∷ back) ≡ true) (sym (eqb-true letter b is))
          (past b (b ∷ back) back (shorter_here back b))
      | inr miss ↦
          here letter b (b ∷ back) back miss
          (or_right (bytes_eq (b ∷ back) back) _
          (or_right (bytes_eq (letter ∷ b ∷ back) back) _ (or_left (bytes_eq (b ∷ back) (b ∷ back)) _ (same (b ∷ back)))))
    ]

longer : (front back : List ℕ) (letter : ℕ) → is_one_edit (front ++ back) (front ++ letter ∷ back) ≡ true
longer [] back letter = longer_here back letter
longer (x ∷ front) back letter = past x (front ++ back) (front ++ letter ∷ back) (longer front back letter)

shorter : (front back : List ℕ) (letter : ℕ) → is_one_edit (front ++ letter ∷ back) (front ++ back) ≡ true
shorter [] back letter = shorter_here back letter
shorter (x ∷ front) back letter = past x (front ++ letter ∷ back) (front ++ back) (shorter front back letter)

changed : (front back : List ℕ) (x y : ℕ) → x ≢ y → is_one_edit (front ++ x ∷ back) (front ++ y ∷ back) ≡ true
changed [] back x y differ = here x y back back (ne_eqb x y differ) (or_left (bytes_eq back back) _ (same back))
changed (z ∷ front) back x y differ = past z (front ++ x ∷ back) (front ++ y ∷ back) (changed front back x y differ)

swapped : (front back : List ℕ) (x y : ℕ) → x ≢ y → is_one_edit (front ++ x ∷ y ∷ back) (front ++ y ∷ x ∷ back) ≡ true
swapped [] back x y differ =
    here x y (y ∷ back) (x ∷ back) (ne_eqb x y differ)
    (or_right (bytes_eq (y ∷ back) (x ∷ back)) _
    (or_right (bytes_eq (x ∷ y ∷ back) (x ∷ back)) _
    (or_right (bytes_eq (y ∷ back) (y ∷ x ∷ back)) _
    (and_from (x == x) _ (eq-eqb x x refl) (and_from (y == y) (bytes_eq back back) (eq-eqb y y refl) (same back))))))
swapped (z ∷ front) back x y differ = past z (front ++ x ∷ y ∷ back) (front ++ y ∷ x ∷ back) (swapped front back x y differ)

pub found_edit : (one other : List ℕ) → IsOneEdit one other → is_one_edit one other ≡ true
found_edit one other (inl is) = ap₂ is_one_edit is.short_is is.long_is ∙ longer is.front is.back is.letter
found_edit one other (inr (inl is)) = ap₂ is_one_edit is.long_is is.short_is ∙ shorter is.front is.back is.letter
found_edit one other (inr (inr (inl is))) = ap₂ is_one_edit is.one_is is.other_is ∙ changed is.front is.back is.letter is.instead is.differ
found_edit one other (inr (inr (inr is))) = ap₂ is_one_edit is.one_is is.other_is ∙ swapped is.front is.back is.first is.second is.differ
