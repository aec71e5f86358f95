-- Facts of each place below a number, which loops extend by one place.
use Rattle.std.proofs.Common.{ℕ, ◌+◌, ◌<◌, Bool, true, false, ◌&&◌, IsTrue, ◌↔◌, arith, refl}
use borrow.Author.Count.{below_more}

-- a test of each place below i, and of i
pub all_more : (P : ℕ → Type 0) (i : ℕ) (all here : Bool) → (IsTrue all ↔ ((j : ℕ) → j < i → P j)) → (IsTrue here ↔ P i)
    → IsTrue (all && here) ↔ ((j : ℕ) → j < i + 1 → P j)
all_more P i true true a h = ((λ t. below_more P i (a.0 refl) (h.0 refl)), (λ p. refl))
all_more P i true false a h = ((λ t. absurd (cc)), (λ p. h.1 (p i (omega arith))))
all_more P i false here a h = ((λ t. absurd (cc)), (λ p. a.1 (λ j b. p j (omega arith))))
