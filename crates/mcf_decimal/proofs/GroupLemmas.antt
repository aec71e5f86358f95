-- Groups of a separator and three digits.
use Rattle.std.proofs.Common.{◌≡◌, ℕ, zero, suc, ◌<◌, ◌≤◌, Bool, true, false, List, [], ◌∷◌, ◌-◌, length, drop, refl, ap, ◌∙◌, arith, length-drop}
use Rattle.std.specs.Prelude.{◌==◌, ◌&&◌, ◌||◌, nat_lt}
use Rattle.std.proofs.lemmas.Bool.{eq-eqb, lt-ltb, ltb-true, ne_eqb}
use Rattle.mcf_decimal.specs.Groups.{are_groups, are_groups_up_to, group_len}

same_and : (b x y : Bool) → (b ≡ true → x ≡ y) → (b && x) ≡ (b && y)
same_and false x y same = refl
same_and true x y same = same refl

same_or : (b x y : Bool) → x ≡ y → (b || x) ≡ (b || y)
same_or b x y same = ap (λ z. b || z) same

true_or : (b x y : Bool) → b ≡ true → (b || x) ≡ (b || y)
true_or true x y is = refl
true_or false x y is = absurd (cc)

-- any number of groups that is enough says the same
enough : (words : List (List ℕ)) (n m : ℕ) (text : List ℕ) → length text ≤ n → length text ≤ m
    → are_groups_up_to n words text ≡ are_groups_up_to m words text
enough words zero zero text few less = refl
enough words zero (suc m) text few less =
    let none : (length text == 0) ≡ true = eq-eqb (length text) 0 (omega arith) in
    rw none
enough words (suc n) zero text few less =
    let none : (length text == 0) ≡ true = eq-eqb (length text) 0 (omega arith) in
    rw none
enough words (suc n) (suc m) text few less =
    let len = group_len words text in
    let rest = drop len text in
    same_or (length text == 0) (nat_lt 0 len && are_groups_up_to n words rest) (nat_lt 0 len && are_groups_up_to m words rest)
    (same_and (nat_lt 0 len) (are_groups_up_to n words rest) (are_groups_up_to m words rest)
    (λ some. let more : 0 < len = ltb-true 0 len some in
    enough words n m rest (omega (arith, more, length-drop len text)) (omega (arith, more, length-drop len text))))

-- the text has a group less
one_less : (words : List (List ℕ)) (n : ℕ) (text : List ℕ) → length text ≡ suc n → 0 < group_len words text
    → are_groups_up_to (suc n) words text ≡ are_groups_up_to n words (drop (group_len words text) text)
one_less words n text long some =
    let more : (length text == 0) ≡ false = ne_eqb (length text) 0 (λ e. omega (arith, e, long)) in
    let is : nat_lt 0 (group_len words text) ≡ true = lt-ltb 0 (group_len words text) some in
    rw (more, is)

pub groups_step : (words : List (List ℕ)) (text : List ℕ) → 0 < length text → 0 < group_len words text
    → are_groups words text ≡ are_groups words (drop (group_len words text) text)
unfolding are_groups
groups_step words text long some =
    let rest = drop (group_len words text) text in
    let e : length text ≡ suc (length text - 1) = omega arith in
    ap (λ n. are_groups_up_to n words text) e
    ∙ one_less words (length text - 1) text e some
    ∙ enough words (length text - 1) (length rest) rest (omega (arith, length-drop (group_len words text) text)) (omega arith)

pub groups_stop : (words : List (List ℕ)) (text : List ℕ) → 0 < length text → group_len words text ≡ 0 → are_groups words text ≡ false
unfolding are_groups
groups_stop words text long none =
    let e : length text ≡ suc (length text - 1) = omega arith in
    let more : (length text == 0) ≡ false = ne_eqb (length text) 0 (λ is. omega (arith, is, long)) in
    let is : nat_lt 0 (group_len words text) ≡ false = ap (λ n. nat_lt 0 n) none in
    ap (λ n. are_groups_up_to n words text) e ∙ rw (more, is)

pub groups_none : (words : List (List ℕ)) (text : List ℕ) → length text ≡ 0 → are_groups words text ≡ true
unfolding are_groups
groups_none words [] none = refl
groups_none words (b ∷ bs) none = absurd (omega (arith, none))
