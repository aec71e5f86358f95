use Rattle.std.proofs.Common.{◌≡◌, ◌∙◌, ap, length, drop, refl, rules, true, vec_capacity, vec_len}
use Rattle.std.proofs.Math.Seq.{drop-append_seam}
use Rattle.mcf_answer.specs.Written.{written}
use Rattle.mcf_checker.specs.Judging.{accepts, verdict}
use Rattle.mcf_solver.specs.Answering.{LacksRoom, answer_kind}
use Rattle.mcf_solver.proofs.ReadPieces.{answers_to}
use Rattle.mcf_solver.proofs.solving.solve_text.Goals as goal

pub returns-clause-accepted : goal.returns-clause-accepted
returns-clause-accepted c =
    let old = c.args.out.now.items in
    let text = written c.in_ok-answer.answer in
    let added : drop (length old) c.write.new.out.items ≡ text = ap (drop (length old)) c.in_ok-write.ensures.ok ∙ drop-append_seam old text in
    let accepted : accepts (verdict c.args.input.now text) ≡ true = search rules in
    ap (λ t. accepts (verdict c.args.input.now t)) added ∙ accepted

pub returns-clause-answer : goal.returns-clause-answer
returns-clause-answer c =
    let answer = c.in_ok-answer.answer in
    record {
      text = written answer;
      appended = c.in_ok-write.ensures.ok;
      answer = answers_to c.args.choice c.args.input.now answer _ c.correct_answers_are_accepted.ensures c.made_flows_are_shaped.ensures
          c.write.ensures.in_range c.write.ensures.spells c.in_ok-answer.ensures.owed c.in_ok-answer.ensures.made c.in_ok-answer.ensures.formed
          c.answer_kind.ensures;
    }

pub returns-in_err-write-clause-wants : goal.returns-in_err-write-clause-wants
returns-in_err-write-clause-wants c =
    let answer = c.in_ok-answer.answer in
    let lacks : LacksRoom c.args.choice c.args.input.now (vec_capacity c.args.out.now) (vec_len c.args.out.now) = record {
      kind = answer_kind answer;
      text = written answer;
      answer = answers_to c.args.choice c.args.input.now answer (answer_kind answer) c.correct_answers_are_accepted.ensures
          c.made_flows_are_shaped.ensures c.write.ensures.in_range c.write.ensures.spells c.in_ok-answer.ensures.owed c.in_ok-answer.ensures.made
          c.in_ok-answer.ensures.formed refl;
      short = c.in_err-write.ensures.refused;
    } in
    search rules
