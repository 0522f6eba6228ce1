use Rattle.std.proofs.Common.{◌++◌, arith}
use Rattle.cops_trace.proofs.Underway.{into_more, underway_more}
use Rattle.cops_trace.proofs.parser.Parser.take_piece.Goals as goal

pub advance-requires : goal.advance-requires
advance-requires g c =
    let old = c.args.self.now in
    underway_more g.S.Sink.took old.begun old.reader c.feed.new.self c.args.piece.now c.in-Ok.ensures.ok c.requires

pub returns : goal.returns
returns g c = λ fed h.
    let old = c.args.self.now in
    c.advance.ensures (fed ++ c.args.piece.now) (into_more g.S.Sink.took fed c.args.piece.now old.begun old.reader c.feed.new.self (λ i. omega (arith, c.type_inv.piece i)) c.in-Ok.ensures.ok h)
