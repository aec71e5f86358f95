use Rattle.std.proofs.Common.{inr, map, refl}
use Rattle.mcf_suite.specs.Serving.{GivesBytes, OpensBy}
use Rattle.mcf_suite.proofs.ServedLemmas.{asked_for, asks_to_solve, failed_from, help_failed, help_is_served, served_from, source_lent, source_opened, unopened}
use Rattle.mcf_suite.proofs.serving.answer.Goals as goal

pub returns-in-Err-clause-served : goal.returns-in-Err-clause-served
returns-in-Err-clause-served g c =
    help_is_served _ _ c.in-Err.ensures.app c.in-Err.error c.show.result _ _ c.in-Err.ensures.is_mcf c.in-Err.ensures.faults
    c.show.ensures.status c.show.ensures.shown

pub returns-in-Err-clause-failed : goal.returns-in-Err-clause-failed
returns-in-Err-clause-failed g c =
    let Opens = OpensBy g.P.FnMut c.args.opener.now c.args.opener.now in
    help_failed g.S.Source.remaining g.S.Source.failures c.args.input.now c.args.input.now Opens
    (map g.W.AsStr.text c.args.words.now) (GivesBytes g.S.Source.remaining c.args.input.now c.args.input.now Opens)
    c.in-Err.ensures.app c.in-Err.error c.show.result _ _ _ _ c.in-Err.ensures.is_mcf c.in-Err.ensures.faults c.show.ensures.failed

pub returns-in_default-clause-failed : goal.returns-in_default-clause-failed
returns-in_default-clause-failed g c =
    let asks = c.in-Ok.ensures in
    let Opens = OpensBy g.P.FnMut c.args.opener.now c.open.new.opener in (
      refl,
      asks_to_solve asks.app c.in-Ok.asked asks.is_mcf asks.faults asks.asks
          (unopened Opens c.in-Ok.asked.file c.in-Some.name c.in-Some.is c.in_default.ensures),
    )

pub returns-in_default-clause-unasked : goal.returns-in_default-clause-unasked
returns-in_default-clause-unasked g c =
    let asks = c.in-Ok.ensures in
    let Opens = OpensBy g.P.FnMut c.args.opener.now c.open.new.opener in
    inr (asks_to_solve asks.app c.in-Ok.asked asks.is_mcf asks.faults asks.asks
    (asked_for Opens c.in-Ok.asked.file c.in-Some.name c.open.result c.in-Some.is c.open.ensures))

pub returns-in-Some-open-clause-served : goal.returns-in-Some-open-clause-served
returns-in-Some-open-clause-served g c =
    let asks = c.in-Ok.ensures in
    let Opens = OpensBy g.P.FnMut c.args.opener.now c.open.new.opener in
    served_from g.S.Source.remaining g.S.Source.failures c.args.input.now c.args.input.now Opens (map g.W.AsStr.text c.args.words.now)
    asks.app c.in-Ok.asked asks.is_mcf asks.faults asks.asks c.in-Some-open.source c.answer_from.new.source
    (source_opened c.args.input.now c.args.input.now c.in-Some-open.source c.answer_from.new.source Opens c.in-Ok.asked.file c.in-Some.name c.in-Some.is
    c.in-Some-open.ensures)
    c.answer_from.result _ _ c.answer_from.ensures.answered

pub returns-in-Some-open-clause-failed : goal.returns-in-Some-open-clause-failed
returns-in-Some-open-clause-failed g c =
    let asks = c.in-Ok.ensures in
    let Opens = OpensBy g.P.FnMut c.args.opener.now c.open.new.opener in
    failed_from g.S.Source.remaining g.S.Source.failures c.args.input.now c.args.input.now Opens (map g.W.AsStr.text c.args.words.now)
    asks.app c.in-Ok.asked asks.is_mcf asks.faults asks.asks c.in-Some-open.source c.answer_from.new.source
    (source_opened c.args.input.now c.args.input.now c.in-Some-open.source c.answer_from.new.source Opens c.in-Ok.asked.file c.in-Some.name c.in-Some.is
    c.in-Some-open.ensures)
    c.answer_from.result _ _ _ _ c.answer_from.ensures.failed

pub returns-in-Some-open-clause-unasked : goal.returns-in-Some-open-clause-unasked
returns-in-Some-open-clause-unasked g c =
    let asks = c.in-Ok.ensures in
    let Opens = OpensBy g.P.FnMut c.args.opener.now c.open.new.opener in
    inr (asks_to_solve asks.app c.in-Ok.asked asks.is_mcf asks.faults asks.asks
    (asked_for Opens c.in-Ok.asked.file c.in-Some.name c.open.result c.in-Some.is c.open.ensures))

pub returns-in-None-clause-served : goal.returns-in-None-clause-served
returns-in-None-clause-served g c =
    let asks = c.in-Ok.ensures in
    let Opens = OpensBy g.P.FnMut c.args.opener.now c.args.opener.now in
    served_from g.S.Source.remaining g.S.Source.failures c.args.input.now c.answer_from-in-None.new.source Opens (map g.W.AsStr.text c.args.words.now)
    asks.app c.in-Ok.asked asks.is_mcf asks.faults asks.asks c.args.input.now c.answer_from-in-None.new.source
    (source_lent c.args.input.now c.answer_from-in-None.new.source Opens c.in-Ok.asked.file c.in-None.is)
    c.answer_from-in-None.result _ _ c.answer_from-in-None.ensures.answered

pub returns-in-None-clause-failed : goal.returns-in-None-clause-failed
returns-in-None-clause-failed g c =
    let asks = c.in-Ok.ensures in
    let Opens = OpensBy g.P.FnMut c.args.opener.now c.args.opener.now in
    failed_from g.S.Source.remaining g.S.Source.failures c.args.input.now c.answer_from-in-None.new.source Opens (map g.W.AsStr.text c.args.words.now)
    asks.app c.in-Ok.asked asks.is_mcf asks.faults asks.asks c.args.input.now c.answer_from-in-None.new.source
    (source_lent c.args.input.now c.answer_from-in-None.new.source Opens c.in-Ok.asked.file c.in-None.is)
    c.answer_from-in-None.result _ _ _ _ c.answer_from-in-None.ensures.failed

pub returns-in-None-clause-unread : goal.returns-in-None-clause-unread
returns-in-None-clause-unread g c =
    let asks = c.in-Ok.ensures in
    inr (asks_to_solve asks.app c.in-Ok.asked asks.is_mcf asks.faults asks.asks c.in-None.is)
