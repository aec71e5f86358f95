-- A text has one answer.
use Rattle.mcf_table.specs.LineEnds.{unified, unmarked}
use Rattle.mcf_table.specs.Laws.{TextsAreUnambiguous}
use Rattle.mcf_table.proofs.Answered.{says_one}

pub unambiguous : TextsAreUnambiguous
unambiguous separator text one other is says also = says_one separator (unified (unmarked text)) one other is says also
