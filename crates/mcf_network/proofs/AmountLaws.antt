-- Amounts as they are stored, and widths that fit how they are.
use Rattle.std.proofs.Common.{◌≡◌, ℕ, zero, suc, Bool, false, eqb, cond, List, [], ◌∷◌, ◌∙◌, length, map, nat_abs, replicate, set, refl, ap, arith, ℤ, pos, ◌≤ℤ◌}
use Rattle.std.specs.List.{All}
use Rattle.std.proofs.lemmas.Bool.{ne_eqb}
use Rattle.std.proofs.lemmas.Int.{ints}
use Rattle.std.proofs.lemmas.List.{map-set}
use Rattle.std.proofs.lemmas.List.Elements.{All-cons, All-nil}
use Rattle.mcf_flows.specs.declared.arc.Link.{Link}
use Rattle.mcf_network.specs.Nets.{IsNetArc, width_limit}
use Rattle.mcf_network.specs.Private.StoredAmounts.{HaveWidthsUpTo, small_limit}
use Rattle.mcf_network.specs.Stored.{stored_arc, stored_arcs}

-- bytes of 0 are amounts of 0
pub no_bytes : (count : ℕ) → map pos (replicate count 0) ≡ replicate count (pos 0)
no_bytes zero = refl
no_bytes (suc count) = ap (λ amounts. pos 0 ∷ amounts) (no_bytes count)

-- a byte instead of another
pub set_byte : (bytes : List ℕ) (place : ℕ) (byte : ℕ) (amount : ℤ) → pos byte ≡ amount
    → map pos (set bytes place byte) ≡ set (map pos bytes) place amount
set_byte bytes place byte amount e = map-set pos bytes place byte ∙ ap (λ x. set (map pos bytes) place x) e

-- a number that isn't below 0 is its own size
pub pos_size : (x : ℤ) → pos 0 ≤ℤ x → pos (nat_abs x) ≡ x
pos_size x h = omega (arith, ints, h)

-- where no width is stored, each is 1
pub unit_widths : (links : List Link) → HaveWidthsUpTo small_limit (stored_arcs links [])
unit_widths [] = All-nil (λ a. a.cap ≤ℤ pos small_limit)
unit_widths (link ∷ links) =
    All-cons (λ a. a.cap ≤ℤ pos small_limit) (stored_arc link (pos 1)) (stored_arcs links []) (omega (arith, ints)) (unit_widths links)

-- the form that is chosen for these widths can take each of them
pub widths_fit : (links : List Link) (widths : List ℤ) (are_small : Bool) (limit : ℕ) → All IsNetArc (stored_arcs links widths)
    → are_small ≡ eqb (length widths) 0 → limit ≡ cond are_small small_limit width_limit → HaveWidthsUpTo limit (stored_arcs links widths)
widths_fit links [] are_small limit each es el = rw (el, es) (unit_widths links)
widths_fit links (width ∷ widths) are_small limit each es el =
    let some : eqb (length (width ∷ widths)) 0 ≡ false = ne_eqb (length (width ∷ widths)) 0 (λ e. omega (arith, e)) in
    rw (el, es, some) (λ i d h. (each i d h).width_high)
