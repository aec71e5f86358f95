use Rattle.std.proofs.Common.{◌≡◌, ◌++◌, drop, map}
use Rattle.mcf_table.specs.Written.{further_text}
use Rattle.mcf_table.proofs.written.put_further.Given as goal

abbrev pub invariant-loop-cell : goal.invariant-loop-cell
invariant-loop-cell l =
    l.out.items ++ further_text l.separator (map (λ cell. cell.now) (drop l.cell-index l.cells))
    ≡ l.initial.out.items ++ further_text l.separator (map (λ cell. cell.now) l.cells)
