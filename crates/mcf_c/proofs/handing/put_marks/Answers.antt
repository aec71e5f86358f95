use Rattle.std.proofs.Common.{◌≡◌, ◌+◌, ◌∙◌, ap, length, take, set, rules, to_z, of_z, false, ℤ, List}
use Rattle.std.specs.Int.{w64}
use Rattle.std.proofs.lemmas.Int.{to_z-of_z}
use Rattle.std.proofs.lemmas.List.{length-set}
use Rattle.mcf_c.specs.Handing.{mark_of}
use Rattle.mcf_c.proofs.Stored.{stored}
use Rattle.mcf_c.proofs.handing.put_marks.Goals as goal

pub loop-i-preserved : goal.loop-i-preserved
loop-i-preserved c =
    let l = c.loop-i in
    let t : to_z w64 (of_z w64 c.mark_of.result) ≡ c.mark_of.result = search (rules, to_z-of_z) in
    let is = ap (λ (z : ℤ). set l.marks l.i z) (t ∙ c.mark_of.ensures) in
    record {
      same = ap length is ∙ length-set l.marks l.i _ ∙ l.invariant.same;
      written = ap (λ (xs : List ℤ). take (l.i + 1) xs) is ∙ stored mark_of l.marks c.args.table.now l.i false l.invariant.same c.loop-i-test.true l.invariant.written;
    }
