use Rattle.std.proofs.Common.{rules, ◌≡◌, false, List, subst, true, ℤ}
use Rattle.std.specs.Prelude.{IfNone, IfOk, IfSome}
use Rattle.mcf_model.specs.Tables.{route_at}
use Rattle.mcf_range_text.proofs.RoomLaws.{no_saving, room_told}
use Rattle.mcf_unit_ranges.specs.Spans.{directed}
use Rattle.mcf_unit_ranges.specs.Told.{IsRoomRangeAt, IsUntold}
use Rattle.mcf_range_text.proofs.rooms.room_range.Goals as goal

pub returns-then-not-saves : goal.returns-then-not-saves
returns-then-not-saves g c =
    let none : c.saves_something-saves.result ≡ false = search rules in
    no_saving c.args.shown.now c.args.number (c.saves_something-saves.ensures.no none)

pub returns : goal.returns
returns g c =
    let s = c.args.shown.now in
    let k = c.args.number in
    let saves : c.saves_something-saves.result ≡ true = search rules in
    let exact = subst (λ (xs : List ℤ). IfOk c.room_range.result (λ told. IfSome told (λ range. IsRoomRangeAt s.model xs k range.most)))
    c.deref.ensures.value c.room_range.ensures.range in
    let none = subst (λ (xs : List ℤ). IfOk c.room_range.result (λ told. IfNone told (IsUntold s.model xs (directed xs (route_at s.model k)).head
    (directed xs (route_at s.model k)).tail))) c.deref.ensures.value c.room_range.ensures.untold in
    room_told s k c.room_range.result c.requires.priced (c.saves_something-saves.ensures.yes saves) exact none
