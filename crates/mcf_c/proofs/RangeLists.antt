-- Lists of ranges are as long as those of their arcs.
use Rattle.std.proofs.Common.{◌≡◌, List, length, Result, Ok, Err}
use Rattle.std.specs.Global.{Vec}
use Rattle.std.specs.List.{AllZip}
use Rattle.std.specs.Prelude.{IfOk}
use Rattle.std.proofs.lemmas.Slice.Zip.{AllZip-long}

pub as_long : {A B E : Type 0} (r : Result (Vec B) E) (R : A → B → Type 0) (xs : List A) → IfOk r (λ ys. AllZip R xs ys.items)
    → IfOk r (λ ys. length ys.items ≡ length xs)
as_long (Err fault) R xs h = tt
as_long (Ok ys) R xs h = AllZip-long R xs ys.items h
