use Rattle.std.proofs.Common.{rules, ◌<◌, ◌≤◌, ◌-◌, arith}
use Rattle.mcf_roster.proofs.OriginLists.{none_here, person_here, thing_here}
use Rattle.mcf_roster.proofs.origins.side_origin.Goals as goal

pub returns-then-place-persons : goal.returns-then-place-persons
returns-then-place-persons c =
    let h : c.args.place < c.args.persons = search (rules, arith) in person_here c.args.persons c.args.things c.args.place h

pub returns-then-later-things : goal.returns-then-later-things
returns-then-later-things c =
    let h : c.args.persons ≤ c.args.place = search (rules, arith) in
    let k : c.args.place - c.args.persons < c.args.things = search (rules, arith) in
    thing_here c.args.persons c.args.things c.args.place h k

pub returns-else-later-things : goal.returns-else-later-things
returns-else-later-things c =
    let h : c.args.persons ≤ c.args.place = search (rules, arith) in
    let k : c.args.things ≤ c.args.place - c.args.persons = search (rules, arith) in
    none_here c.args.persons c.args.things c.args.place h k
