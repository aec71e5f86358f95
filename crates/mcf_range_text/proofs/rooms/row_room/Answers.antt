use Rattle.std.proofs.Common.{rules, ◌≡◌, ◌∙◌, Bool, None, false, refl, subst, sym, true}
use Rattle.std.specs.Prelude.{IfOk}
use Rattle.mcf_range_text.specs.RoomRangeTexts.{IsRoomUnless}
use Rattle.mcf_range_text.proofs.rooms.row_room.Goals as goal

pub returns-then-loops : goal.returns-then-loops
returns-then-loops g c =
    let loops : c.is_loop-loops.result ≡ true = search rules in
    let none : IsRoomUnless true c.args.least.now.shown c.args.row None = refl in
    subst (λ (b : Bool). IsRoomUnless b c.args.least.now.shown c.args.row None) (sym loops ∙ c.is_loop-loops.ensures) none

pub returns : goal.returns
returns g c =
    let plain : c.is_loop-loops.result ≡ false = search rules in
    subst (λ (b : Bool). IfOk c.room_range.result (IsRoomUnless b c.args.least.now.shown c.args.row)) (sym plain ∙ c.is_loop-loops.ensures) c.room_range.ensures
