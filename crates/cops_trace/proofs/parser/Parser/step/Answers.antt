use Rattle.cops_trace.proofs.Aheads.{item_on, item_less, item_settled, item_fails}
use Rattle.cops_trace.proofs.parser.Parser.step.Goals as goal

pub returns-in-Ok-false-clause-on : goal.returns-in-Ok-false-clause-on
returns-in-Ok-false-clause-on g c =
    item_on g.S.Sink.took c.args.self.now.begun c.give_ahead.new.begun c.step_item.new.self.begun c.args.self.now.reader c.give_ahead.new.self c.step_item.new.self.reader c.in-Ok-false.ensures.on c.step_item.result c.step_item.ensures

pub returns-in-Ok-false-clause-less : goal.returns-in-Ok-false-clause-less
returns-in-Ok-false-clause-less g c =
    item_less g.S.Sink.took c.args.self.now.begun c.give_ahead.new.begun c.step_item.new.self.begun c.args.self.now.reader c.give_ahead.new.self c.step_item.new.self.reader c.in-Ok-false.ensures.on c.in-Ok-false.ensures.no_more c.step_item.result c.step_item.ensures

pub returns-in-Ok-false-clause-settled : goal.returns-in-Ok-false-clause-settled
returns-in-Ok-false-clause-settled g c =
    item_settled g.S.Sink.took c.args.self.now.begun c.give_ahead.new.begun c.step_item.new.self.begun c.args.self.now.reader c.give_ahead.new.self c.step_item.new.self.reader c.in-Ok-false.ensures.on c.step_item.result c.step_item.ensures

pub returns-in-Ok-false-clause-err : goal.returns-in-Ok-false-clause-err
returns-in-Ok-false-clause-err g c =
    item_fails g.S.Sink.took c.args.self.now.begun c.give_ahead.new.begun c.step_item.new.self.begun c.args.self.now.reader c.give_ahead.new.self c.step_item.new.self.reader c.in-Ok-false.ensures.on c.step_item.result c.step_item.ensures
