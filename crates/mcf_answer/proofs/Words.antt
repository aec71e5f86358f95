-- The words of codes: they are plain, and no numbers.
use Rattle.std.proofs.Common.{◌≡◌, ℕ, Bool, true, false, not, cond, List, length, Some, None, refl, sym, ap, subst, ◌∙◌}
use Rattle.std.specs.Prelude.{Option, bytes_eq, nat_eq, nat_lt, slice_get, ◌&&◌}
use Rattle.std.specs.List.{list_all, position_or_len}
use Rattle.std.proofs.lemmas.Bool.{and_parts, not-true}
use Rattle.std.proofs.lemmas.List.Folds.{find_at}
use Rattle.std.proofs.lemmas.List.Sums.{AllPass-from_list_all}
use Rattle.std.proofs.lemmas.Option.{get_or_from_slice_get, slice_get_within}
use Rattle.mcf_answer.specs.Said.{code_of}
use Rattle.mcf_answer.specs.Token.{Token, Word, token_of}
use Rattle.mcf_flows.specs.Codes.{all_codes, code_of_word, code_word}
use Rattle.mcf_flows.specs.declared.code.Code.{Code}
use Rattle.mcf_flows.proofs.CodeWords.{code_of_word-known, code_of_word-code_word}
use Rattle.mcf_text.specs.Fields.{is_blank}
use Rattle.mcf_text.specs.Whole.{is_whole, whole_value}

-- a byte that neither parts fields nor ends a line
abbrev pub is_plain_byte : ℕ → Bool
is_plain_byte b = not (is_blank b) && not (nat_eq b 10)

-- one byte or more, each of them plain, and no number
abbrev pub is_plain_word : List ℕ → Bool
is_plain_word word = nat_lt 0 (length word) && list_all is_plain_byte word && not (is_whole word)

-- each code's word is plain
pub plain_code_word : (code : Code) → is_plain_word (code_word code) ≡ true
plain_code_word code =
    let place = position_or_len (λ c. bytes_eq (code_word c) (code_word code)) all_codes in
    let at : slice_get all_codes place ≡ Some code = sym (find_at (λ c. bytes_eq (code_word c) (code_word code)) all_codes) ∙ code_of_word-code_word code in
    let all = AllPass-from_list_all (λ c. is_plain_word (code_word c)) all_codes refl in
    subst (λ c. is_plain_word (code_word c) ≡ true) (get_or_from_slice_get all_codes place code code at)
    (all place code (slice_get_within all_codes place code at))

-- the code that a field names
pub code_of-token_of : (field : List ℕ) → code_of_word field ≡ code_of (token_of field)
code_of-token_of field = go (is_whole field) (code_of_word field) refl refl
  where
    go : (b : Bool) (o : Option Code) → is_whole field ≡ b → code_of_word field ≡ o → code_of_word field ≡ code_of (token_of field)
    go false o h e = sym (ap (λ b. code_of (cond b (Token.Number (whole_value field)) (Word field))) h)
    go true None h e = e ∙ sym (ap (λ b. code_of (cond b (Token.Number (whole_value field)) (Word field))) h)
    go true (Some code) h e =
        let no_number : is_whole (code_word code) ≡ false = not-true (is_whole (code_word code))
        (and_parts _ (not (is_whole (code_word code))) (plain_code_word code)).1 in
        cc (sym h ∙ ap is_whole (sym ((code_of_word-known field code).0 e)) ∙ no_number)

pub ruleset code_answers = code_of-token_of
