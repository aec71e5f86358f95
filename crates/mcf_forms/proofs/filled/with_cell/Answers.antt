use Rattle.std.proofs.Common.{◌∙◌, ◌++◌, ◌∷◌, ◌==◌, [], ℕ, List, Bor, map, ap, arith}
use Rattle.std.specs.Prelude.{if◌then◌else◌, slice_index_or}
use Rattle.std.proofs.lemmas.List.{map-append}
use Rattle.mcf_table.specs.Heads.{cells_of}
use Rattle.mcf_forms.proofs.Ranges.{made}
use Rattle.mcf_forms.proofs.filled.with_cell.Goals as goal

pub loop-other-preserved : goal.loop-other-preserved
loop-other-preserved c =
    let place = c.loop-other.other in
    let before = c.loop-other.made.items in
    let read = λ (cell : Bor (List ℕ)). cell.now in
    made (λ other. if other == c.args.place then c.args.value.now else slice_index_or (cells_of c.args.records.now c.args.row) other [])
    0 place place (map read before) (map read c.push.new.self.items) (omega arith) c.loop-other.invariant
    (ap (map read) c.in_ok-push.ensures.items ∙ map-append read before (c.cell_or.result ∷ [])
    ∙ ap (λ (cell : List ℕ). map read before ++ cell ∷ []) c.cell_or.ensures)
