-- Bytes that are cut at the first that passes a test.
use Rattle.std.proofs.Common.{◌≡◌, ℕ, ◌+◌, ◌<◌, ◌≤◌, inl, inr, Bool, List, [], length, take, drop, Some, None, sym, ap, ◌∙◌, arith, length-drop, take_all}
use Rattle.std.specs.Prelude.{position, is_some, nat_lt, not}
use Rattle.std.specs.List.{position_or_len}
use Rattle.std.proofs.lemmas.Bool.{cases_lt, lt-ltb, le-ltb}
use Rattle.std.proofs.lemmas.List.{drop_all}
use Rattle.std.proofs.lemmas.List.Quantifiers.{position-Some}
use Rattle.std.proofs.lemmas.List.Sums.{position_or_len_is, prefix_len-le-length}
use Rattle.mcf_decimal.specs.Cuts.{IsCut}

-- where the first stands
pub at_place : (p : ℕ → Bool) (xs : List ℕ) (i : ℕ) → position p xs ≡ Some i → (position_or_len p xs ≡ i) × (i < length xs)
at_place p xs i is =
    let found = position-Some p xs i 0 is in
    (position_or_len_is p xs i 0 (omega (arith, found.0)) found.2 (λ _. found.1), found.0)

some-ltb : (p : ℕ → Bool) (xs : List ℕ) → position_or_len p xs < length xs → position p xs ≡ Some (position_or_len p xs)
some-ltb p xs below = rw (lt-ltb (position_or_len p xs) (length xs) below)

-- where none does
pub nowhere : (p : ℕ → Bool) (xs : List ℕ) → position p xs ≡ None → length xs ≤ position_or_len p xs
nowhere p xs is =
    elim (cases_lt (position_or_len p xs) (length xs)) [
      | inl below ↦ let e : Some (position_or_len p xs) ≡ None = sym (some-ltb p xs below) ∙ is in absurd (cc)
      | inr past ↦ past
    ]

-- whether one does
pub is_some-position : (p : ℕ → Bool) (xs : List ℕ) → is_some (position p xs) ≡ nat_lt (position_or_len p xs) (length xs)
is_some-position p xs =
    elim (cases_lt (position_or_len p xs) (length xs)) [
      | inl below ↦ rw (lt-ltb (position_or_len p xs) (length xs) below)
      | inr past ↦ rw (le-ltb (position_or_len p xs) (length xs) past)
    ]

pub cut_at : (p : ℕ → Bool) (xs : List ℕ) (i : ℕ) → position p xs ≡ Some i → IsCut p xs (take i xs) (drop (i + 1) xs)
cut_at p xs i is =
    let at = at_place p xs i is in
    record {
      front = ap (λ n. take n xs) (sym at.0);
      back = ap (λ n. drop (n + 1) xs) (sym at.0);
      inside = omega (arith, length-drop (i + 1) xs);
    }

pub cut_nowhere : (p : ℕ → Bool) (xs : List ℕ) → length xs ≤ position_or_len p xs → IsCut p xs xs []
cut_nowhere p xs past =
    record {
      front = sym (take_all (position_or_len p xs) xs past);
      back = sym (drop_all (position_or_len p xs + 1) xs (omega (arith, past)));
      inside = omega arith;
    }

pub nowhere_len : (p : ℕ → Bool) (xs : List ℕ) → position p xs ≡ None → position_or_len p xs ≡ length xs
nowhere_len p xs is = omega (arith, nowhere p xs is, prefix_len-le-length (λ x. not (p x)) xs)
