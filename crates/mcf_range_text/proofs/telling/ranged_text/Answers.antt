use Rattle.mcf_flow_tables.specs.TableAnswers.{bytes_in}
use Rattle.mcf_range_text.proofs.Told.{is_ranged_text, solved_answer}
use Rattle.mcf_range_text.proofs.telling.ranged_text.Goals as goal

pub told_with_ranges-requires : goal.told_with_ranges-requires
told_with_ranges-requires g c =
    solved_answer (bytes_in c.args.texts) c.args.options c.in_ok-answer.answer c.in_ok-answer.ensures

pub returns : goal.returns
returns g c =
    is_ranged_text c.told_with_ranges.result (bytes_in c.args.texts) c.args.options c.in_ok-answer.answer c.in_ok-answer.ensures
    c.told_with_ranges.ensures
