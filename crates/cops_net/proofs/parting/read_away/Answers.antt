use Rattle.std.proofs.Common.{[], ◌++◌, refl, take, arith}
use Rattle.std.proofs.lemmas.List.{length-append}
use Rattle.cops_types.proofs.Devices.{consumed, consumed_none}
use Rattle.cops_net.proofs.parting.read_away.Goals as goal

pub loop-init : goal.loop-init
loop-init g c = ([], consumed_none _, refl)

pub loop-preserved : goal.loop-preserved
loop-preserved g c =
    let l = c.loop.invariant in
    let bound = c.in-Ok.ensures.bound in
    let came = take c.in-Ok.count c.read.new.buf in
    (l.0 ++ came, consumed _ _ _ _ _ l.1 c.in-Ok.ensures.bytes.0, omega (arith, l.2, length-append l.0 came, bound.0, bound.1, c.read.auto.buf, c.if-room-lt-PIECE.false))
