use Rattle.mcf_table.proofs.WrittenRows.{cells_put}
use Rattle.mcf_table.proofs.written.put_cells.Goals as goal

pub returns-in_ok-put_quoted-in-Some : goal.returns-in_ok-put_quoted-in-Some
returns-in_ok-put_quoted-in-Some c =
    let split = c.in-Some.ensures.cases in
    cells_put c.put_further.result c.args.separator c.args.out.now.items c.put_quoted.new.out.items c.put_further.new.out.items c.args.cells.now
    c.in-Some.first.now c.in-Some.others.now split c.in_ok-put_quoted-in-Some.ensures c.put_further.ensures
