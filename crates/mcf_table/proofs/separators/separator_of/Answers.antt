use Rattle.mcf_table.proofs.SeparatorLemmas.{above_least, above_twice, at_front, best_comma, best_semicolon, best_tab}
use Rattle.mcf_table.proofs.separators.separator_of.Goals as goal

pub returns-then-is_above-2-clause-best : goal.returns-then-is_above-2-clause-best
returns-then-is_above-2-clause-best c =
    let over = c.is_above.ensures.yes c.if-is_above.true in
    let over2 = c.is_above-then-is_above.ensures.yes c.if-is_above-2.true in
    at_front c.args.text.now _ _ _ c.unmarked-plain.ensures (best_tab _ _ _ _ _ c.best_rank-comma.ensures c.best_rank-semicolon.ensures c.best_rank-tab.ensures
    (above_twice _ _ _ over2 over) over2)

pub returns-else-is_above-2-clause-best : goal.returns-else-is_above-2-clause-best
returns-else-is_above-2-clause-best c =
    at_front c.args.text.now _ _ _ c.unmarked-plain.ensures (best_semicolon _ _ _ _ _ c.best_rank-comma.ensures c.best_rank-semicolon.ensures c.best_rank-tab.ensures
    (c.is_above.ensures.yes c.if-is_above.true) (c.is_above-then-is_above.ensures.no c.if-is_above-2.false))

pub returns-then-is_above-3-clause-best : goal.returns-then-is_above-3-clause-best
returns-then-is_above-3-clause-best c =
    let over = c.is_above-else-is_above.ensures.yes c.if-is_above-3.true in
    at_front c.args.text.now _ _ _ c.unmarked-plain.ensures (best_tab _ _ _ _ _ c.best_rank-comma.ensures c.best_rank-semicolon.ensures c.best_rank-tab.ensures
    over (above_least _ _ _ over (c.is_above.ensures.no c.if-is_above.false)))

pub returns-else-is_above-3-clause-best : goal.returns-else-is_above-3-clause-best
returns-else-is_above-3-clause-best c =
    at_front c.args.text.now _ _ _ c.unmarked-plain.ensures (best_comma _ _ _ _ _ c.best_rank-comma.ensures c.best_rank-semicolon.ensures c.best_rank-tab.ensures
    (c.is_above.ensures.no c.if-is_above.false) (c.is_above-else-is_above.ensures.no c.if-is_above-3.false))
