use Rattle.std.proofs.Common.{rules, map, length, ◌<◌, ◌≡◌, Ok, Err, refl, inr, ◌∙◌}
use Rattle.std.proofs.lemmas.List.{length-map}
use Rattle.mcf_checker.specs.declared.command.Failure.TheVariants.{Answer, Instance}
use Rattle.mcf_checker.specs.Private.Failures.{failure_line}
use Rattle.mcf_checker.specs.Runs.{IsReason, IsUnprinted}
use Rattle.mcf_checker.proofs.Runs.{asks-from_answer, asks-from_both, asks-from_input, called-at_word, if-failed, judges-from_parts, line_of_fault}
use Rattle.mcf_checker.proofs.Runs.{once-from_both, once-from_input}
use Rattle.mcf_checker.proofs.command.run.Goals as goal

pub returns-clause-judged : goal.returns-clause-judged
returns-clause-judged g c =
    let one : 1 < length c.args.words.now = search rules in
    let text_of = g.S.AsStr.text in
    let first = called-at_word g.R.FnMut text_of c.args.words.now 1 c.instance-item.result c.as_str.result c.args.read.now c.read.new.self _ _ one
    c.instance-item.is c.as_str.ensures c.read.ensures c.in-Ok.is in
    let two : 2 < length c.args.words.now = search rules in
    let second = called-at_word g.R.FnMut text_of c.args.words.now 2 c.answer-item.result c.as_str-2.result c.read.new.self c.read-2.new.self _ _ two
    c.answer-item.is c.as_str-2.ensures c.read-2.ensures c.in-Ok-read.is in
    judges-from_parts g.R.FnMut (λ file. file.items) c.args.read.now c.read.new.self c.read-2.new.self
    (map text_of c.args.words.now) c.in-Ok.input c.in-Ok-read.answer
    c.print_outcome.result (g.O.Write.contents c.args.out.now) (g.O.Write.contents c.print_outcome.new.out) first second
    (rw (c.deref.ensures.value, c.deref-2.ensures.value) at c.print_outcome.ensures.status)
    (rw (c.deref.ensures.value, c.deref-2.ensures.value) at c.print_outcome.ensures.printed)

pub returns-clause-reads : goal.returns-clause-reads
returns-clause-reads g c =
    let one : 1 < length c.args.words.now = search rules in
    let text_of = g.S.AsStr.text in
    let first = called-at_word g.R.FnMut text_of c.args.words.now 1 c.instance-item.result c.as_str.result c.args.read.now c.read.new.self _ _ one
    c.instance-item.is c.as_str.ensures c.read.ensures c.in-Ok.is in
    let two : 2 < length c.args.words.now = search rules in
    let second = called-at_word g.R.FnMut text_of c.args.words.now 2 c.answer-item.result c.as_str-2.result c.read.new.self c.read-2.new.self _ _ two
    c.answer-item.is c.as_str-2.ensures c.read-2.ensures c.in-Ok-read.is in
    λ _. asks-from_both g.R.FnMut c.args.read.now c.read.new.self (map text_of c.args.words.now) _ _ _ c.read-2.new.self c.in-Ok.input c.in-Ok-read.answer
    first second tt

pub returns-clause-once : goal.returns-clause-once
returns-clause-once g c =
    let one : 1 < length c.args.words.now = search rules in
    let text_of = g.S.AsStr.text in
    let first = called-at_word g.R.FnMut text_of c.args.words.now 1 c.instance-item.result c.as_str.result c.args.read.now c.read.new.self _ _ one
    c.instance-item.is c.as_str.ensures c.read.ensures c.in-Ok.is in
    let two : 2 < length c.args.words.now = search rules in
    let second = called-at_word g.R.FnMut text_of c.args.words.now 2 c.answer-item.result c.as_str-2.result c.read.new.self c.read-2.new.self _ _ two
    c.answer-item.is c.as_str-2.ensures c.read-2.ensures c.in-Ok-read.is in
    λ _. once-from_both g.R.FnMut c.args.read.now c.read.new.self (map text_of c.args.words.now) c.read-2.new.self c.in-Ok.input
    (Ok c.in-Ok-read.answer) first second

pub returns-clause-reason : goal.returns-clause-reason
returns-clause-reason g c =
    let one : 1 < length c.args.words.now = search rules in
    let text_of = g.S.AsStr.text in
    let first = called-at_word g.R.FnMut text_of c.args.words.now 1 c.instance-item.result c.as_str.result c.args.read.now c.read.new.self _ _ one
    c.instance-item.is c.as_str.ensures c.read.ensures c.in-Ok.is in
    let two : 2 < length c.args.words.now = search rules in
    let second = called-at_word g.R.FnMut text_of c.args.words.now 2 c.answer-item.result c.as_str-2.result c.read.new.self c.read-2.new.self _ _ two
    c.answer-item.is c.as_str-2.ensures c.read-2.ensures c.in-Ok-read.is in
    let count : length c.args.words.now ≡ 3 = search rules in
    let three : length (map text_of c.args.words.now) ≡ 3 = length-map c.args.words.now text_of ∙ count in
    let old = g.O.Write.contents c.args.out.now in
    let new = g.O.Write.contents c.print_outcome.new.out in
    let untouched = (c.print_outcome.new.out ≡ c.args.out.now) in
    let texts = map text_of c.args.words.now in
    if-failed c.print_outcome.result
    (λ failure. IsUnprinted c.in-Ok.input.items c.in-Ok-read.answer.items untouched old new (failure_line failure))
    (λ failure. IsReason g.R.FnMut (λ file. file.items) c.args.read.now texts untouched old new (failure_line failure))
    (λ failure why. inr (
      three,
      asks-from_both g.R.FnMut c.args.read.now c.read.new.self texts _ _ _ c.read-2.new.self c.in-Ok.input c.in-Ok-read.answer first
          second why,
    ))
    (rw (c.deref.ensures.value, c.deref-2.ensures.value) at c.print_outcome.ensures.unprinted)

pub returns-in-Err-clause-reads : goal.returns-in-Err-clause-reads
returns-in-Err-clause-reads g c =
    let one : 1 < length c.args.words.now = search rules in
    let text_of = g.S.AsStr.text in
    let first = called-at_word g.R.FnMut text_of c.args.words.now 1 c.instance-item.result c.as_str.result c.args.read.now c.read.new.self _ _ one
    c.instance-item.is c.as_str.ensures c.read.ensures c.in-Err.is in
    λ _. asks-from_input g.R.FnMut c.args.read.now c.read.new.self (map text_of c.args.words.now) _ _ _ c.in-Err.fault first refl

pub returns-in-Err-clause-once : goal.returns-in-Err-clause-once
returns-in-Err-clause-once g c =
    let one : 1 < length c.args.words.now = search rules in
    let text_of = g.S.AsStr.text in
    let first = called-at_word g.R.FnMut text_of c.args.words.now 1 c.instance-item.result c.as_str.result c.args.read.now c.read.new.self _ _ one
    c.instance-item.is c.as_str.ensures c.read.ensures c.in-Err.is in
    λ _. once-from_input g.R.FnMut c.args.read.now c.read.new.self (map text_of c.args.words.now) c.in-Err.fault first

pub returns-in-Err-clause-reason : goal.returns-in-Err-clause-reason
returns-in-Err-clause-reason g c =
    let one : 1 < length c.args.words.now = search rules in
    let text_of = g.S.AsStr.text in
    let first = called-at_word g.R.FnMut text_of c.args.words.now 1 c.instance-item.result c.as_str.result c.args.read.now c.read.new.self _ _ one
    c.instance-item.is c.as_str.ensures c.read.ensures c.in-Err.is in
    let count : length c.args.words.now ≡ 3 = search rules in
    let three : length (map text_of c.args.words.now) ≡ 3 = length-map c.args.words.now text_of ∙ count in
    inr (
      three,
      asks-from_input g.R.FnMut c.args.read.now c.read.new.self (map text_of c.args.words.now) _ _ _ c.in-Err.fault first
          (refl, line_of_fault c.of.result Instance c.in-Err.fault c.of.ensures),
    )

pub returns-in-Err-read-clause-reads : goal.returns-in-Err-read-clause-reads
returns-in-Err-read-clause-reads g c =
    let one : 1 < length c.args.words.now = search rules in
    let text_of = g.S.AsStr.text in
    let first = called-at_word g.R.FnMut text_of c.args.words.now 1 c.instance-item.result c.as_str.result c.args.read.now c.read.new.self _ _ one
    c.instance-item.is c.as_str.ensures c.read.ensures c.in-Ok.is in
    let two : 2 < length c.args.words.now = search rules in
    let second = called-at_word g.R.FnMut text_of c.args.words.now 2 c.answer-item.result c.as_str-2.result c.read.new.self c.read-2.new.self _ _ two
    c.answer-item.is c.as_str-2.ensures c.read-2.ensures c.in-Err-read.is in
    λ _. asks-from_answer g.R.FnMut c.args.read.now c.read.new.self (map text_of c.args.words.now) _ _ _ c.read-2.new.self c.in-Ok.input c.in-Err-read.fault
    first second refl

pub returns-in-Err-read-clause-once : goal.returns-in-Err-read-clause-once
returns-in-Err-read-clause-once g c =
    let one : 1 < length c.args.words.now = search rules in
    let text_of = g.S.AsStr.text in
    let first = called-at_word g.R.FnMut text_of c.args.words.now 1 c.instance-item.result c.as_str.result c.args.read.now c.read.new.self _ _ one
    c.instance-item.is c.as_str.ensures c.read.ensures c.in-Ok.is in
    let two : 2 < length c.args.words.now = search rules in
    let second = called-at_word g.R.FnMut text_of c.args.words.now 2 c.answer-item.result c.as_str-2.result c.read.new.self c.read-2.new.self _ _ two
    c.answer-item.is c.as_str-2.ensures c.read-2.ensures c.in-Err-read.is in
    λ _. once-from_both g.R.FnMut c.args.read.now c.read.new.self (map text_of c.args.words.now) c.read-2.new.self c.in-Ok.input
    (Err c.in-Err-read.fault) first second

pub returns-in-Err-read-clause-reason : goal.returns-in-Err-read-clause-reason
returns-in-Err-read-clause-reason g c =
    let one : 1 < length c.args.words.now = search rules in
    let text_of = g.S.AsStr.text in
    let first = called-at_word g.R.FnMut text_of c.args.words.now 1 c.instance-item.result c.as_str.result c.args.read.now c.read.new.self _ _ one
    c.instance-item.is c.as_str.ensures c.read.ensures c.in-Ok.is in
    let two : 2 < length c.args.words.now = search rules in
    let second = called-at_word g.R.FnMut text_of c.args.words.now 2 c.answer-item.result c.as_str-2.result c.read.new.self c.read-2.new.self _ _ two
    c.answer-item.is c.as_str-2.ensures c.read-2.ensures c.in-Err-read.is in
    let count : length c.args.words.now ≡ 3 = search rules in
    let three : length (map text_of c.args.words.now) ≡ 3 = length-map c.args.words.now text_of ∙ count in
    inr (
      three,
      asks-from_answer g.R.FnMut c.args.read.now c.read.new.self (map text_of c.args.words.now) _ _ _ c.read-2.new.self c.in-Ok.input
          c.in-Err-read.fault first second (refl, line_of_fault c.of-in-Err-read.result Answer c.in-Err-read.fault c.of-in-Err-read.ensures),
    )
