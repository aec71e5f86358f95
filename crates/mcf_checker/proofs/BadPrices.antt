-- The first arc whose flow the prices don't show: as a loop finds it, and what it means that there
-- is none.
use Rattle.std.proofs.Common.{◌≡◌, ℕ, zero, suc, ◌+◌, ◌-◌, ◌<◌, Bool, true, false, ◌&&◌, ◌||◌, refl, ap, sym, ◌∙◌, arith, List, [], ◌∷◌, length, Some}
use Rattle.std.proofs.Common.{None, ℤ, pos, ◌≤ℤ◌, ◌<ℤ◌}
use Rattle.std.specs.List.{slice_get, zip}
use Rattle.std.specs.Prelude.{int_lt}
use Rattle.std.proofs.lemmas.Int.{ints}
use Rattle.std.proofs.lemmas.Option.{none-some}
use Rattle.mcf_checker.specs.Judging.{bad_price, is_loose, option_is_loose}
use Rattle.mcf_checker.proofs.LeastNumbers.{least_none, least_none-each, least_some}
use Rattle.mcf_flows.specs.declared.arc.Arc.{Arc}
use Rattle.mcf_flows.specs.Flow.{IsWithinBounds, Shows, reduced_cost}
use Rattle.mcf_flows.specs.Network.{Network}

-- the arc at a place, from 0, is there, and the prices don't show its flow
abbrev pub looseness : List ℤ → List Arc → List ℤ → ℕ → Bool
looseness prices arcs flow i = option_is_loose prices (slice_get (zip arcs flow) i)

-- ---- as a loop finds it

pub zip_read : (arcs : List Arc) (flow : List ℤ) (i : ℕ) (a : Arc) (f : ℤ) → slice_get arcs i ≡ Some a → slice_get flow i ≡ Some f
    → slice_get (zip arcs flow) i ≡ Some (a, f)
zip_read [] flow i a f e k = absurd (none-some a e)
zip_read (b ∷ arcs) [] i a f e k = absurd (none-some f k)
zip_read (b ∷ arcs) (t ∷ flow) zero a f e k =
    let x : b ≡ a = cc in let y : t ≡ f = cc in rw (x, y) refl
zip_read (b ∷ arcs) (t ∷ flow) (suc i) a f e k = zip_read arcs flow i a f e k

-- the test at a place whose arc and flow the loop has read
pub looseness_read : (prices : List ℤ) (arcs : List Arc) (flow : List ℤ) (i : ℕ) (a : Arc) (f : ℤ) → slice_get arcs i ≡ Some a → slice_get flow i ≡ Some f
    → looseness prices arcs flow i ≡ is_loose prices (a, f)
looseness_read prices arcs flow i a f e k = ap (option_is_loose prices) (zip_read arcs flow i a f e k)

module _ (g : Network) (prices flow : List ℤ) where
  test-is : (i : ℕ) → looseness prices g.arcs flow (i + 1 - 1) ≡ looseness prices g.arcs flow i
  test-is i = let back : i + 1 - 1 ≡ i = omega arith in ap (looseness prices g.arcs flow) back

  pub bad_price-some : (i : ℕ) → i < length g.arcs → ((j : ℕ) → j < i → looseness prices g.arcs flow j ≡ false)
      → looseness prices g.arcs flow i ≡ true → bad_price g prices flow ≡ Some (i + 1)
  bad_price-some i h before here =
      least_some (λ k. looseness prices g.arcs flow (k - 1)) (length g.arcs) i h (λ j k. test-is j ∙ before j k) (test-is i ∙ here)

  pub bad_price-none : ((j : ℕ) → j < length g.arcs → looseness prices g.arcs flow j ≡ false) → bad_price g prices flow ≡ None
  bad_price-none each =
      least_none (λ k. looseness prices g.arcs flow (k - 1)) (length g.arcs) (λ j k. test-is j ∙ each j k)

  each_shown : bad_price g prices flow ≡ None → (j : ℕ) → j < length g.arcs → looseness prices g.arcs flow j ≡ false
  each_shown e j h =
      sym (test-is j) ∙ least_none-each (λ k. looseness prices g.arcs flow (k - 1)) (length g.arcs) e j h

-- ---- what it means that there is none

-- the test of an arc of reduced cost r
abbrev loose_at : ℤ → ℤ → ℤ → ℤ → Bool
loose_at r low cap f = (int_lt (pos 0) r && int_lt low f) || (int_lt r (pos 0) && int_lt f cap)

not_above_low : (r low cap f : ℤ) → low ≤ℤ f → loose_at r low cap f ≡ false → pos 0 <ℤ r → f ≡ low
not_above_low r low cap f h e up = grind (arith, ints)

not_below_cap : (r low cap f : ℤ) → f ≤ℤ cap → loose_at r low cap f ≡ false → r <ℤ pos 0 → f ≡ cap
not_below_cap r low cap f h e down = grind (arith, ints)

not_loose : (r low cap f : ℤ) → (pos 0 <ℤ r → f ≡ low) → (r <ℤ pos 0 → f ≡ cap) → loose_at r low cap f ≡ false
not_loose r low cap f above below = grind (arith, ints)

all_complementary : (prices : List ℤ) (arcs : List Arc) (flow : List ℤ) → IsWithinBounds arcs flow
    → ((j : ℕ) → j < length arcs → looseness prices arcs flow j ≡ false) → Shows arcs prices flow
all_complementary prices [] [] h each = tt
all_complementary prices [] (f ∷ flow) h each = absurd h
all_complementary prices (a ∷ arcs) [] h each = absurd h
all_complementary prices (a ∷ arcs) (f ∷ flow) h each =
    let here : loose_at (reduced_cost prices a) a.low a.cap f ≡ false = each 0 (omega arith) in (
      (not_above_low (reduced_cost prices a) a.low a.cap f h.0.0 here, not_below_cap (reduced_cost prices a) a.low a.cap f h.0.1 here),
      all_complementary prices arcs flow h.1 (λ j k. each (suc j) (omega arith)),
    )

each_of_all : (prices : List ℤ) (arcs : List Arc) (flow : List ℤ) → Shows arcs prices flow → (j : ℕ) → looseness prices arcs flow j ≡ false
each_of_all prices [] [] h j = refl
each_of_all prices [] (f ∷ flow) h j = absurd h
each_of_all prices (a ∷ arcs) [] h j = absurd h
each_of_all prices (a ∷ arcs) (f ∷ flow) h zero =
    not_loose (reduced_cost prices a) a.low a.cap f h.0.0 h.0.1
each_of_all prices (a ∷ arcs) (f ∷ flow) h (suc j) = each_of_all prices arcs flow h.1 j

pub Shows-from_none : (g : Network) (prices flow : List ℤ) → IsWithinBounds g.arcs flow → bad_price g prices flow ≡ None → Shows g.arcs prices flow
Shows-from_none g prices flow bounds e =
    all_complementary prices g.arcs flow bounds (each_shown g prices flow e)

pub none-from_Shows : (g : Network) (prices flow : List ℤ) → Shows g.arcs prices flow → bad_price g prices flow ≡ None
none-from_Shows g prices flow h =
    bad_price-none g prices flow (λ j k. each_of_all prices g.arcs flow h j)
