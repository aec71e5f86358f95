-- What is written of an answer.
-- Source: own
use Rattle.std.specs.Prelude.{ℕ, List, [], ◌∷◌, ◌++◌, map, flat_map}
use Rattle.std.specs.Fmt.{signed_decimal}
use Rattle.std.specs.List.{join_with_byte}
use Rattle.mcf_answer.specs.Spelling.{spelling}
use Rattle.mcf_answer.specs.Token.{Token, Word, Number}
use Rattle.mcf_answer.specs.declared.answers.Answer.{Answer}

-- a word as it is, and a number in decimal, without a plus sign and without leading zeros
abbrev pub token_text : Token → List ℕ
token_text (Word bytes) = bytes
token_text (Number z) = signed_decimal z

-- the tokens with one blank between them, and the byte that ends a line
abbrev pub line_text : List Token → List ℕ
line_text line = join_with_byte 32 (map token_text line) ++ 10 ∷ []

-- the one text that is written of an answer
unfoldable pub written : Answer → List ℕ
written a = flat_map line_text (spelling a)
