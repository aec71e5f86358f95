use Rattle.std.proofs.Common.{◌≡◌, ◌*◌, ◌+ℤ◌, ◌*ℤ◌, arith, rules, lit<, to_z, of_z}
use Rattle.std.specs.Int.{w128}
use Rattle.std.proofs.lemmas.Int.{ints, to_z-of_z}
use Rattle.mcf_answer.specs.Ranges.{amount_limit}
use Rattle.mcf_flows.proofs.Bounds.{read_back}
use Rattle.mcf_solver.proofs.sparse.with_cost.Goals as goal

pub returns : goal.returns
returns c =
    let t : to_z w128 (of_z w128 c.args.total) ≡ c.args.total = search (rules, to_z-of_z) in
    let k : to_z w128 (of_z w128 c.args.cost) ≡ c.args.cost = search (rules, to_z-of_z) in
    let a : to_z w128 (of_z w128 c.args.amount) ≡ c.args.amount = search (rules, to_z-of_z) in
    let term : to_z w128 (of_z w128 (c.args.cost *ℤ c.args.amount)) ≡ c.args.cost *ℤ c.args.amount = read_back (c.args.cost *ℤ c.args.amount) amount_limit c.requires.term (lit< tt) in
    let low = c.requires.total in
    let small = c.requires.term in
    rw (t, k, a, term) (read_back (c.args.total +ℤ c.args.cost *ℤ c.args.amount) (2 * amount_limit) (omega (arith, ints, low, small), omega (arith, ints, low, small)) (lit< tt))

pub overflow_mul-result : goal.overflow_mul-result
overflow_mul-result c =
    let k : to_z w128 (of_z w128 c.args.cost) ≡ c.args.cost = search (rules, to_z-of_z) in
    let a : to_z w128 (of_z w128 c.args.amount) ≡ c.args.amount = search (rules, to_z-of_z) in
    rw (k, a) (omega (arith, ints, c.requires.term))

pub overflow_add-result : goal.overflow_add-result
overflow_add-result c =
    let t : to_z w128 (of_z w128 c.args.total) ≡ c.args.total = search (rules, to_z-of_z) in
    let k : to_z w128 (of_z w128 c.args.cost) ≡ c.args.cost = search (rules, to_z-of_z) in
    let a : to_z w128 (of_z w128 c.args.amount) ≡ c.args.amount = search (rules, to_z-of_z) in
    rw (t, k, a) (omega (arith, ints, c.requires.total, c.requires.term))
