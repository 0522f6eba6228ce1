use Rattle.std.proofs.Common.{◌≡◌, ◌<◌, length, get_or, sym, ap, subst, ◌∙◌, arith}
use Rattle.cops_types.specs.declared.limits.TheConstants.{MAX_CLIENT_OPS, MAX_OPS}
use Rattle.cops_trace.specs.Text.{ATrace, turn}
use Rattle.cops_record.specs.Records.{State}
use Rattle.cops_record.proofs.Turns.{front, only_memory, room_before}
use Rattle.cops_record.proofs.records.Records.trace.Goals as goal

pub out_of_memory-requires : goal.out_of_memory-requires
out_of_memory-requires c =
    let i = c.loop-record.record-index in
    let r = c.record-item.result in
    let items = c.deref-record-items.ensures.value in
    let inside : i < length c.self.inside.records.items = omega (arith, c.loop-record-test.true, ap length items) in
    let room = room_before c.self.inside.format c.self.inside.seats.items c.self.inside.records.items c.self.inside.reserved _ i r c.self.invariant inside (c.record-item.is ∙ ap (λ l. get_or l i r) items) in
    let same : c.loop-record.trace ≡ front (record { format = c.self.inside.format; records = c.self.inside.records.items; seats = c.self.inside.seats.items }) i = c.loop-record.invariant.1 ∙ ap (λ (s : State). front s i) (sym c.self.view_is) in
    only_memory c.in-Err.fault _ _ c.in-Err.ensures.only c.in-Err.ensures.unknown c.in-Err.ensures.too_many
    (λ le. absurd (omega (arith, room.0, le, ap (λ (t : ATrace). t.clients) same)))
    (λ full. full.1 (subst (λ (t : ATrace). turn r.client t.records < MAX_CLIENT_OPS × length t.records < MAX_OPS) (sym same) (room.1, room.2)))
