use Rattle.std.proofs.Common.{◌∙◌, ℕ, Bool, length, sym, arith}
use Rattle.std.specs.Str.{str_eq_ignore_ascii_case}
use Rattle.mcf_table.specs.Heads.{head_at, heads}
use Rattle.mcf_forms.proofs.Ranges.{all_numbers, none_after, found_here, found_later}
use Rattle.mcf_forms.proofs.cells.first_column.Goals as goal

pub loop-place-init : goal.loop-place-init
loop-place-init c =
    let count = length (heads c.args.records.now) in
    let is : ℕ → Bool = λ place. str_eq_ignore_ascii_case (head_at c.args.records.now place) c.args.head.now in
    all_numbers is count

pub loop-place-preserved : goal.loop-place-preserved
loop-place-preserved c =
    let count = length (heads c.args.records.now) in
    let is : ℕ → Bool = λ place. str_eq_ignore_ascii_case (head_at c.args.records.now place) c.args.head.now in
    found_later is c.loop-place.place count _ (omega arith) (sym c.is_head.ensures ∙ c.if-is_head.false) c.loop-place.invariant

pub returns-then-is_head-clause-value : goal.returns-then-is_head-clause-value
returns-then-is_head-clause-value c =
    let count = length (heads c.args.records.now) in
    let is : ℕ → Bool = λ place. str_eq_ignore_ascii_case (head_at c.args.records.now place) c.args.head.now in
    found_here is c.loop-place.place count _ (omega arith) (sym c.is_head.ensures ∙ c.if-is_head.true) c.loop-place.invariant

pub returns-clause-value : goal.returns-clause-value
returns-clause-value c =
    let count = length (heads c.args.records.now) in
    let is : ℕ → Bool = λ place. str_eq_ignore_ascii_case (head_at c.args.records.now place) c.args.head.now in
    none_after is c.loop-place.place count _ (omega arith) c.loop-place.invariant
