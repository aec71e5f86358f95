-- The first line of what was not popped.
use Rattle.std.proofs.Common.{◌≡◌, ◌≢◌, ℕ, suc, ◌+◌, ◌-◌, ◌<◌, ◌≤◌, inl, inr, true, List}
use Rattle.std.proofs.Common.{[], ◌∷◌, ◌++◌, length, get_or, take, drop, Some, None, sym, ap, subst, ◌∙◌}
use Rattle.std.proofs.Common.{arith, add-one, append_assoc, length-drop, drop-drop, take-add}
use Rattle.std.specs.Prelude.{IsTrue}
use Rattle.std.proofs.lemmas.Bool.{eq-eqb, eqb-true}
use Rattle.std.proofs.lemmas.List.{append-nil, take-append-drop, take-append-le, length-take, get_or-take, get_or-drop, take_rest}
use Rattle.std.proofs.lemmas.List.Elements.{All-append, All-from_get_or}
use Rattle.std.proofs.Math.Seq.{drop-cons, take-length, drop-length}
use Rattle.memchr.specs.Find.{IsFirstByte, is_byte}
use Rattle.mcf_text.specs.Lines.{line_feed, lines_of, IsOneLine}
use Rattle.mcf_text.proofs.LinesLemmas.{lines_of-line, lines_of-last}
use Rattle.mcf_text.specs.Feed.{Feed, FinishesLine, FirstLineEnds, HasNoLine}

abbrev IsOther : ℕ → Type 0
IsOther b = b ≢ line_feed

-- the slice that the code looks through
pub seen : (feed : Feed) (bytes items : List ℕ) (start known : ℕ) → items ≡ bytes → drop start bytes ≡ feed.rest
    → take (length items - (start + known)) (drop (start + known) items) ≡ drop known feed.rest
seen feed bytes items start known same view =
    take_rest items (start + known) ∙ ap (drop (start + known)) same ∙ sym (drop-drop known start bytes) ∙ ap (drop known) view

at_line_feed : (feed : Feed) (line rest : List ℕ) → IsOneLine line → feed.rest ≡ line ++ line_feed ∷ rest → FinishesLine feed line rest
at_line_feed feed line rest one_line split = record {
  one_line = one_line;
  ends = inl split;
  joined = λ more _.
      ap (λ bytes. lines_of (bytes ++ more)) split ∙ ap lines_of (append_assoc line (line_feed ∷ rest) more) ∙ lines_of-line line (rest ++ more) one_line;
}

at_end : (feed : Feed) (line rest : List ℕ) → IsOneLine line → feed.has_ended ≡ true → 0 < length line → feed.rest ≡ line → rest ≡ []
    → FinishesLine feed line rest
at_end feed line rest one_line ended some whole empty = record {
  one_line = one_line;
  ends = inr (ended, some, whole, empty);
  joined = λ more none.
      let no_more : more ≡ [] = none ended in
      ap (λ m. lines_of (feed.rest ++ m)) no_more ∙ ap lines_of (append-nil feed.rest ∙ whole) ∙ lines_of-last line some one_line
      ∙ ap (λ bytes. line ∷ lines_of bytes) (sym (ap (λ m. rest ++ m) no_more ∙ append-nil rest ∙ empty));
}

-- no line ends among the bytes known to end none and as many of those after them
one_line_to : (rest : List ℕ) (known place : ℕ) → IsOneLine (take known rest)
    → ((k : ℕ) → k < place → get_or (drop known rest) k 0 ≢ line_feed) → IsOneLine (take (known + place) rest)
one_line_to rest known place front before =
    subst IsOneLine (sym (take-add known place rest))
    (All-append IsOther (take known rest) (take place (drop known rest)) front
    (All-from_get_or IsOther (take place (drop known rest)) 0
    (λ k below e. let lt : k < place = omega (arith, length-take place (drop known rest)) in
    before k lt (sym (get_or-take place (drop known rest) k 0 lt) ∙ e))))

pub ends_at : (feed : Feed) (text : List ℕ) (known place : ℕ) → text ≡ drop known feed.rest → IsOneLine (take known feed.rest)
    → IsFirstByte (is_byte 10) text (Some place) → FirstLineEnds feed (known + place) (known + place + 1)
ends_at feed text known place same front first =
    let rest = feed.rest in
    let found = subst (λ t. IsFirstByte (is_byte 10) t (Some place)) same first in
    let below : place < length (drop known rest) = found.0.high in
    let inside : known + place < length rest = omega (arith, length-drop known rest) in
    let one_line : IsOneLine (take (known + place) rest) =
    one_line_to rest known place front (λ k lt e. found.0.before k (omega arith) lt (eq-eqb _ _ e)) in
    let here : get_or rest (known + place) 0 ≡ line_feed = sym (get_or-drop known rest place 0) ∙ eqb-true _ _ found.1 in
    let split : rest ≡ take (known + place) rest ++ line_feed ∷ drop (known + place + 1) rest =
    rw add-one
    (sym (take-append-drop (known + place) rest) ∙ ap (λ more. take (known + place) rest ++ more)
    (drop-cons rest (known + place) 0 inside ∙ ap (λ b. b ∷ drop (suc (known + place)) rest) here)) in
    record {
      moves = omega arith;
      some = omega arith;
      inside = omega arith;
      line = at_line_feed feed (take (known + place) rest) (drop (known + place + 1) rest) one_line split;
    }

no_line_feed : (feed : Feed) (text : List ℕ) (known : ℕ) → text ≡ drop known feed.rest → IsOneLine (take known feed.rest)
    → IsFirstByte (is_byte 10) text None → IsOneLine feed.rest
no_line_feed feed text known same front none =
    let not_there = subst (λ t. IsFirstByte (is_byte 10) t None) same none in
    subst IsOneLine (take-append-drop known feed.rest)
    (All-append IsOther (take known feed.rest) (drop known feed.rest) front
    (All-from_get_or IsOther (drop known feed.rest) 0 (λ k below e. not_there k (omega arith) below (eq-eqb _ _ e))))

pub ends_last : (feed : Feed) (text : List ℕ) (known len : ℕ) → text ≡ drop known feed.rest → IsOneLine (take known feed.rest)
    → IsFirstByte (is_byte 10) text None → feed.has_ended ≡ true → len ≡ length feed.rest → 0 < len → FirstLineEnds feed len len
ends_last feed text known len same front none ended is_len some =
    let one_line = no_line_feed feed text known same front none in
    let all : take len feed.rest ≡ feed.rest = ap (λ n. take n feed.rest) is_len ∙ take-length feed.rest in
    record {
      moves = omega arith;
      some = some;
      inside = omega arith;
      line = at_end feed (take len feed.rest) (drop len feed.rest) (subst IsOneLine (sym all) one_line) ended
          (subst (λ t. 0 < length t) (sym all) (omega arith)) (sym all) (ap (λ n. drop n feed.rest) is_len ∙ drop-length feed.rest);
    }

pub no_line : (feed : Feed) (text : List ℕ) (known : ℕ) → text ≡ drop known feed.rest → IsOneLine (take known feed.rest)
    → IsFirstByte (is_byte 10) text None → (IsTrue feed.has_ended → feed.rest ≡ []) → HasNoLine feed
no_line feed text known same front none empty = (no_line_feed feed text known same front none, empty)

-- a piece more leaves the bytes that are known
pub known_before_piece : (rest piece : List ℕ) (known : ℕ) → known ≤ length rest → IsOneLine (take known rest) → IsOneLine (take known (rest ++ piece))
known_before_piece rest piece known inside front = subst IsOneLine (sym (take-append-le known rest piece inside)) front
