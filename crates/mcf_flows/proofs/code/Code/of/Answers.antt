use Rattle.mcf_flows.proofs.CodeWords.{code_of_word-known}
use Rattle.mcf_flows.proofs.code.Code.of.Goals as goal

pub returns-clause-known : goal.returns-clause-known
returns-clause-known c = λ code. rw c.first_with.ensures (code_of_word-known c.args.word.now code)
