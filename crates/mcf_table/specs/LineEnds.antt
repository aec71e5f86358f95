-- The line ends of a text, and the mark with which it may begin.
-- Source: own
use Rattle.std.specs.Prelude.{ℕ, ◌==◌, nat_eq, ◌&&◌, if◌then◌else◌, List, [], ◌∷◌, drop, count_by}
use Rattle.std.specs.List.{starts_with}
use Rattle.mcf_text.specs.Lines.{line_feed}

-- the byte that ends a line, alone or before a line feed
abbrev pub carriage_return : ℕ
carriage_return = 13

-- U+FEFF in UTF-8
abbrev pub byte_order_mark : List ℕ
byte_order_mark = 239 ∷ 187 ∷ 191 ∷ []

-- the text without the byte order mark with which it may begin
unfoldable pub unmarked : List ℕ → List ℕ
unmarked text = if starts_with nat_eq text byte_order_mark then drop 3 text else text

-- The bytes after this one, with each line end as one line feed: a line end is a line feed, a
-- carriage return, or a line feed after a carriage return.
abbrev pub unified_after : ℕ → List ℕ → List ℕ
unified_after before [] = []
unified_after before (b ∷ bs) =
    if b == line_feed && before == carriage_return then unified_after b bs
    else (if b == carriage_return then line_feed else b) ∷ unified_after b bs

-- the text with each line end as one line feed
abbrev pub unified : List ℕ → List ℕ
unified text = unified_after line_feed text

-- how many lines the bytes end
abbrev pub line_feeds : List ℕ → ℕ
line_feeds bytes = count_by (λ b. b == line_feed) bytes
