use Rattle.std.proofs.Common.{◌≡◌, replicate, rules}
use Rattle.mcf_network.proofs.AmountLaws.{no_bytes}
use Rattle.mcf_network.proofs.amounts.Amounts.zero.Goals as goal

pub returns-in_ok-bytes-clause-value : goal.returns-in_ok-bytes-clause-value
returns-in_ok-bytes-clause-value c =
    let e : c.in_ok-bytes.bytes.items ≡ replicate c.args.count 0 = search rules in
    rw e (no_bytes c.args.count)
