use Rattle.std.proofs.Common.{◌∷◌, [], ◌++◌, ap, ◌∙◌}
use Rattle.std.proofs.lemmas.Result.{IfOk-weaker}
use Rattle.cops_trace.specs.Text.{record_of}
use Rattle.cops_trace.specs.Live.{Gains}
use Rattle.cops_trace.proofs.Begun.{add_begun, add_cut, add_gains}
use Rattle.cops_trace.proofs.live.LiveTrace.add.Goals as goal

pub kept-requires-clause-wrote : goal.kept-requires-clause-wrote
kept-requires-clause-wrote g c =
    rw c.in-Ok.ensures.frame (rw c.in-Ok.ensures.counts (rw c.in-Ok.ensures.written (add_begun _ _ _ _ _ _ _ _ c.requires.live.wrote c.requires.turn ((rw (c.format.ensures, c.as_ref.ensures) at c.is_op.ensures.op) c.requires.format) c.in-Ok.ensures.ok)))

pub returns-in-Err-clause-err : goal.returns-in-Err-clause-err
returns-in-Err-clause-err g c =
    rw c.give_up.ensures.writer (rw c.give_up.ensures.fault (add_cut _ _ _ _ _ _ _ _ _ c.requires.live.wrote c.requires.turn ((rw (c.format.ensures, c.as_ref.ensures) at c.is_op.ensures.op) c.requires.format) c.in-Err.ensures.err))

pub returns-in-Ok-clause-gains : goal.returns-in-Ok-clause-gains
returns-in-Ok-clause-gains g c =
    IfOk-weaker c.kept.result _ (Gains (record_of c.args.next.now ∷ []) c.args.self)
    (λ l h. add_gains c.args.self l (record_of c.args.next.now) c.requires.turn (ap (λ w. w.counts) h.0 ∙ c.in-Ok.ensures.counts) (h.1 ∙ ap (λ f. c.args.self.text.items ++ f) c.in-Ok.ensures.frame))
    c.kept.ensures.kept
