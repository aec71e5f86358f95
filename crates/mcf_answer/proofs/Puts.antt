-- Texts that are put at the end of a vector, one after the other.
use Rattle.std.proofs.Common.{◌≡◌, ℕ, List, [], ◌∷◌, ◌++◌, ◌+◌, ◌<◌, ◌≤◌, length, take, drop, get_or, sym, ap, subst, ◌∙◌, append_assoc, append-nil, arith}
use Rattle.std.specs.Prelude.{Result, Ok, Err, IsErr, OnErr, OnOk, flat_map, map, ℤ, vec_capacity, vec_len}
use Rattle.std.specs.Global.{Vec}
use Rattle.std.specs.Fmt.{signed_decimal}
use Rattle.std.specs.List.{enumerate_from, join_with_byte}
use Rattle.std.proofs.Math.Seq.{take-append_seam}
use Rattle.std.proofs.lemmas.List.{flat_map_more, get_or-map, length-append, length-map, take-append-drop, take_all, take_more}
use Rattle.std.proofs.lemmas.List.Concat.{flat_map-append}
use Rattle.std.proofs.lemmas.List.FromFn.{get_or-enumerate_from, length-enumerate_from}
use Rattle.mcf_answer.specs.Private.Puts.{PutsText, field_text}
use Rattle.mcf_answer.specs.Token.{Word, Number}
use Rattle.mcf_answer.specs.Written.{line_text, token_text}
use Rattle.mcf_text.specs.declared.error.NoMemory.{NoMemory}

-- the front of the front stays
keeps : (old mid new xs : List ℕ) → take (length mid) new ≡ mid → mid ≡ old ++ xs → take (length old) new ≡ old
keeps old mid new xs kept e =
    let rest = drop (length mid) new in
    let whole : new ≡ old ++ (xs ++ rest) =
    sym (take-append-drop (length mid) new) ∙ ap (λ front. front ++ rest) (kept ∙ e) ∙ append_assoc old xs rest in
    ap (take (length old)) whole ∙ take-append_seam old (xs ++ rest)

-- a text, and another
pub puts_then : {a b c : Vec ℕ} {u : Unit {0}} {r : Result (Unit {0}) NoMemory} {x y : List ℕ} → PutsText a b (Ok u) x → PutsText b c r y
    → PutsText a c r (x ++ y)
puts_then {a = a} {b = b} {c = c} {r = Ok v} {x = x} {y = y} h k = record {
  ok = k.ok ∙ ap (λ front. front ++ y) h.ok ∙ append_assoc a.items x y;
  err = tt;
  capacity = omega (arith, h.capacity, k.capacity);
  refused = tt;
}
puts_then {a = a} {b = b} {c = c} {r = Err e} {x = x} {y = y} h k = record {
  ok = tt;
  err = keeps a.items b.items c.items x k.err h.ok;
  capacity = omega (arith, h.capacity, k.capacity);
  refused = omega (arith, a.ok.0, b.ok.0, h.capacity, k.refused, ap length h.ok, length-append a.items x, length-append x y);
}

-- a text that didn't fit, at the front of another
pub puts_short : {a c : Vec ℕ} {e : NoMemory} {r : Result (Unit {0}) NoMemory} {x : List ℕ} (y : List ℕ) → IsErr r → PutsText a c (Err e) x
    → PutsText a c r (x ++ y)
puts_short {r = Ok u} y error h = cc error
puts_short {r = Err f} {x = x} y error h =
    record { ok = tt; err = h.err; capacity = h.capacity; refused = omega (arith, h.refused, length-append x y) }

-- the item is the one at this place
abbrev pub IsAt : {X : Type 0} → List X → ℕ → X → Type 0
IsAt xs k x = (k < length xs) × (x ≡ get_or xs k x)

-- what is made of the item is what is made of the items, at this place
pub IsAt-map : {X Y : Type 0} (f : X → Y) (xs : List X) (k : ℕ) (x : X) → IsAt xs k x → IsAt (map f xs) k (f x)
IsAt-map f xs k x at = (omega (arith, at.0, length-map xs f), ap f at.1 ∙ sym (get_or-map f xs k x (f x) at.0))

-- an item with its number
pub IsAt-enumerate_from : {X : Type 0} (xs : List X) (k : ℕ) (x : X) → IsAt xs k x → IsAt (enumerate_from 1 xs) k (k + 1, x)
IsAt-enumerate_from xs k x at =
    let number : k + 1 ≡ 1 + k = omega arith in (
      omega (arith, at.0, length-enumerate_from 1 xs),
      ap (λ n. (n, x)) number ∙ ap (λ y. (1 + k, y)) at.1 ∙ sym (get_or-enumerate_from 1 xs k (k + 1, x) at.0),
    )

-- the texts of the items before one, and of that one
pub puts_next : {X : Type 0} (text : X → List ℕ) {a b c : Vec ℕ} {u : Unit {0}} {r : Result (Unit {0}) NoMemory} (xs : List X) (k : ℕ) (x : X) → IsAt xs k x
    → PutsText a b (Ok u) (flat_map text (take k xs)) → PutsText b c r (text x) → PutsText a c r (flat_map text (take (k + 1) xs))
puts_next text {a = a} {c = c} {r = r} xs k x at h g =
    let so_far : flat_map text (take (k + 1) xs) ≡ flat_map text (take k xs) ++ text x =
    ap (flat_map text) (take_more xs k x at.0 ∙ ap (λ y. take k xs ++ y ∷ []) (sym at.1)) ∙ sym (flat_map_more text [] (take k xs) x) in
    subst (PutsText a c r) (sym so_far) (puts_then h g)

-- the texts of the items before one, and that of the one, which didn't fit
pub puts_stopped : {X : Type 0} (text : X → List ℕ) {a b c : Vec ℕ} {u : Unit {0}} {e : NoMemory} {r : Result (Unit {0}) NoMemory} (xs : List X) (k : ℕ) (x : X)
    → IsAt xs k x → IsErr r → PutsText a b (Ok u) (flat_map text (take k xs)) → PutsText b c (Err e) (text x) → PutsText a c r (flat_map text xs)
puts_stopped text {a = a} {c = c} {r = r} xs k x at error h g =
    let whole : flat_map text (take (k + 1) xs) ++ flat_map text (drop (k + 1) xs) ≡ flat_map text xs =
    sym (flat_map-append text (take (k + 1) xs) (drop (k + 1) xs)) ∙ ap (flat_map text) (take-append-drop (k + 1) xs) in
    subst (PutsText a c r) whole (puts_short (flat_map text (drop (k + 1) xs)) error (puts_next text xs k x at h g))

-- what `put_number` ensures of a vector that keeps its content where memory runs out
pub puts_or_keeps : {a b : Vec ℕ} {r : Result (Unit {0}) NoMemory} {x : List ℕ} → OnOk r (b.items ≡ a.items ++ x) → OnErr r (b.items ≡ a.items)
    → vec_capacity a ≤ vec_capacity b → OnErr r (vec_capacity a < vec_len a + length x) → PutsText a b r x
puts_or_keeps {r = Ok u} ok err capacity refused = record { ok = ok; err = tt; capacity = capacity; refused = tt }
puts_or_keeps {a = a} {r = Err e} ok err capacity refused =
    record { ok = tt; err = ap (take (length a.items)) err ∙ take_all (length a.items) a.items (omega arith); capacity = capacity; refused = refused }

-- ---- the text of a line of a word and numbers

joined : (word : List ℕ) (numbers : List ℤ) → join_with_byte 32 (word ∷ map token_text (map Number numbers)) ≡ word ++ flat_map field_text numbers
joined word [] = sym (append-nil word)
joined word (z ∷ numbers) = ap (λ more. word ++ 32 ∷ more) (joined (signed_decimal z) numbers)

pub line_text-numbers : (word : List ℕ) (numbers : List ℤ) → line_text (Word word ∷ map Number numbers) ≡ word ++ flat_map field_text numbers ++ 10 ∷ []
line_text-numbers word numbers = ap (λ line. line ++ 10 ∷ []) (joined word numbers)
