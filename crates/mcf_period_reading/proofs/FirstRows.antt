-- The first row of each place and period, row by row.
use Rattle.std.proofs.Common.{◌≡◌, ◌∙◌, ℕ, ◌+◌, Bool, true, false, cond, ◌&&◌, List, [], ◌∷◌, Some, None, refl, sym, ap, arith}
use Rattle.std.specs.Prelude.{Option, find, nat_eq}
use Rattle.std.specs.HashMap.{HashMap, get}
use Rattle.std.specs.List.{range_with_len}
use Rattle.std.specs.Option.{is_some, option_or}
use Rattle.std.proofs.lemmas.Bool.{eqb-true}
use Rattle.std.proofs.lemmas.List.Folds.{find-append}
use Rattle.mcf_reading.proofs.Ranges.{range_more}
use Rattle.mcf_period_reading.specs.Spots.{is_at, same_key, spot_at}
use Rattle.mcf_period_reading.specs.declared.spots.Spot.{Spot}

find_more : (p : ℕ → Bool) (n : ℕ) → find p (range_with_len 1 (n + 1)) ≡ option_or (find p (range_with_len 1 n)) (cond (p (n + 1)) (Some (n + 1)) None)
find_more p n =
    ap (find p) (range_more 1 n (n + 1) (omega arith)) ∙ find-append p (range_with_len 1 n) ((n + 1) ∷ [])

kept : (o : Option ℕ) (b : Bool) (y : ℕ) → (b ≡ true → is_some o ≡ true) → o ≡ option_or o (cond b (Some y) None)
kept (Some z) b y has = refl
kept None true y has = cc (has refl)
kept None false y has = refl

put : (o : Option ℕ) (b : Bool) (y : ℕ) → (b ≡ true → is_some o ≡ false) → cond b (Some y) o ≡ option_or o (cond b (Some y) None)
put (Some z) true y none = cc (none refl)
put (Some z) false y none = refl
put None b y none = refl

and_true : (a b : Bool) → (a && b) ≡ true → (a ≡ true) × (b ≡ true)
and_true true b e = (refl, e)
and_true false b e = cc e

-- equal keys have one row
pub same_row : {S : Type 0} (rows : HashMap (ℕ × ℕ) ℕ S) (a b : ℕ × ℕ) → same_key a b ≡ true → get same_key rows b ≡ get same_key rows a
same_row rows a b same =
    let both = and_true (nat_eq a.0 b.0) (nat_eq a.1 b.1) same in
    ap (λ n. get same_key rows (n, b.1)) (sym (eqb-true a.0 b.0 both.0)) ∙ ap (λ n. get same_key rows (a.0, n)) (sym (eqb-true a.1 b.1 both.1))

module _ {S : Type 0} (all : List Spot) (rows : HashMap (ℕ × ℕ) ℕ S) (n : ℕ) (s : Spot) (is : s ≡ spot_at all (n + 1))
    (before : (q : ℕ × ℕ) → get same_key rows q ≡ find (λ row. is_at q.0 q.1 (spot_at all row)) (range_with_len 1 n)) where
  test : (q : ℕ × ℕ) → same_key (s.place, s.period) q ≡ is_at q.0 q.1 (spot_at all (n + 1))
  test q = ap (λ (t : Spot). is_at q.0 q.1 t) is

  -- the row's place and period have a row already
  pub row_kept : is_some (get same_key rows (s.place, s.period)) ≡ true → (q : ℕ × ℕ)
      → get same_key rows q ≡ find (λ row. is_at q.0 q.1 (spot_at all row)) (range_with_len 1 (n + 1))
  row_kept has q =
      let p : ℕ → Bool = λ row. is_at q.0 q.1 (spot_at all row) in
      kept (get same_key rows q) (p (n + 1)) (n + 1) (λ here. ap is_some (same_row rows (s.place, s.period) q (test q ∙ here)) ∙ has)
      ∙ ap (λ (o : Option ℕ). option_or o (cond (p (n + 1)) (Some (n + 1)) None)) (before q) ∙ sym (find_more p n)

  -- they have none
  pub row_put : is_some (get same_key rows (s.place, s.period)) ≡ false → (after : HashMap (ℕ × ℕ) ℕ S)
      → ((q : ℕ × ℕ) → get same_key after q ≡ cond (same_key (s.place, s.period) q) (Some (n + 1)) (get same_key rows q)) → (q : ℕ × ℕ)
      → get same_key after q ≡ find (λ row. is_at q.0 q.1 (spot_at all row)) (range_with_len 1 (n + 1))
  row_put none after updates q =
      let p : ℕ → Bool = λ row. is_at q.0 q.1 (spot_at all row) in
      updates q ∙ ap (λ b. cond b (Some (n + 1)) (get same_key rows q)) (test q)
      ∙ put (get same_key rows q) (p (n + 1)) (n + 1) (λ here. ap is_some (same_row rows (s.place, s.period) q (test q ∙ here)) ∙ none)
      ∙ ap (λ (o : Option ℕ). option_or o (cond (p (n + 1)) (Some (n + 1)) None)) (before q) ∙ sym (find_more p n)
