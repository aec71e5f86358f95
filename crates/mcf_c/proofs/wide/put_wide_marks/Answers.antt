use Rattle.std.proofs.Common.{◌≡◌, ◌+◌, ◌<◌, ◌++◌, ◌∷◌, [], ◌∙◌, sym, ap, arith, length, map, take, get_or, false, ℤ, List}
use Rattle.std.proofs.lemmas.List.{get_or-map, length-map, length-set, map-append, take_more, take_more_set}
use Rattle.mcf_c.specs.DoubleMatrices.{wide_value}
use Rattle.mcf_c.specs.Handing.{mark_of}
use Rattle.mcf_c.specs.declared.wide.McfWide.{McfWide}
use Rattle.mcf_c.proofs.wide.put_wide_marks.Goals as goal

pub loop-i-preserved : goal.loop-i-preserved
loop-i-preserved c =
    let l = c.loop-i in
    let xs = c.args.table.now in
    let i = c.loop-i.i in
    let y : McfWide = c.wide_mark.result in
    let inside : i < length xs = c.loop-i-test.true in
    let room : i < length l.room = omega (arith, l.invariant.same, c.loop-i-test.true) in
    let inside-map : i < length (map mark_of xs) = rw (length-map xs mark_of) inside in
    let read : get_or (map mark_of xs) i (mark_of false) ≡ mark_of (get_or xs i false) = get_or-map mark_of xs i false (mark_of false) inside in
    record {
      same = length-set l.room i y ∙ l.invariant.same;
      written = ap (map wide_value) (take_more_set l.room i y room) ∙ map-append wide_value (take i l.room) (y ∷ [])
          ∙ ap (λ (zs : List ℤ). zs ++ wide_value y ∷ []) l.invariant.written
          ∙ ap (λ (z : ℤ). take i (map mark_of xs) ++ z ∷ []) (c.wide_mark.ensures ∙ sym read) ∙ sym (take_more (map mark_of xs) i (mark_of false) inside-map);
    }
