use Rattle.std.proofs.Common.{rules, ◌≡◌, ◌+◌, length, refl, arith}
use Rattle.mcf_roster.proofs.ToldAnswers.{vacant_choice}
use Rattle.mcf_roster.proofs.answering.least.Goals as goal

pub returns-then-is_vacant-clause-answer : goal.returns-then-is_vacant-clause-answer
returns-then-is_vacant-clause-answer g c =
    let R = c.args.roster.now in
    let none : (length R.takes + length R.needs) ≡ 0 = search (rules, arith) in
    vacant_choice R _ c.is_vacant.ensures.sound none c.new.ensures.items refl
