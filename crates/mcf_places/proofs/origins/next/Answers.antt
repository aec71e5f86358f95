use Rattle.std.proofs.Common.{rules, ◌<◌, ◌≤◌, arith}
use Rattle.mcf_places.proofs.ArcOrigins.{next_here, next_later}
use Rattle.mcf_places.proofs.origins.next.Goals as goal

pub returns-then-left-count : goal.returns-then-left-count
returns-then-left-count c o others = let h : c.args.left < c.args.count = search (rules, arith) in next_here c.args.count c.args.left o others h

pub returns-else-left-count : goal.returns-else-left-count
returns-else-left-count c o others = let h : c.args.count ≤ c.args.left = search (rules, arith) in next_later c.args.count c.args.left o others h
