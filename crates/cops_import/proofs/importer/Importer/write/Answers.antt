use Rattle.std.proofs.Common.{◌≡◌, ◌<◌, ◌≤◌, [], ◌∷◌, ◌++◌, ap, arith, length, sym, ◌∙◌, refl, rules}
use Rattle.std.specs.Prelude.{List, ℕ}
use Rattle.cops_types.specs.Operations.{operation_of}
use Rattle.cops_trace.specs.Counts.{ACounts, HasTurn}
use Rattle.cops_import.specs.Lines.{names_of}
use Rattle.cops_import.specs.Names.{number_of, with_name}
use Rattle.cops_import.specs.Underway.{format_of, known_to}
use Rattle.cops_import.specs.declared.reported.LineOp.{LineOp}
use Rattle.cops_import.proofs.Numbering.{names_more}
use Rattle.cops_import.proofs.Records.{cut_so_far, left_refused, ops_more, too_many, written_more}
use Rattle.cops_import.proofs.importer.Importer.write.Goals as goal

pub returns-in_default-clause-err : goal.returns-in_default-clause-err
returns-in_default-clause-err g c = λ from given h. record { cut = cut_so_far g.W.Write.contents from _ _ h.wrote; heard = tt }

pub returns-then-len-from-clause-err : goal.returns-then-len-from-clause-err
returns-then-len-from-clause-err g c = λ from given h. record { cut = cut_so_far g.W.Write.contents from _ _ h.wrote; heard = h.wrote.heard }

pub returns-then-len-from-2-clause-err : goal.returns-then-len-from-2-clause-err
returns-then-len-from-2-clause-err g c = λ from given h. record { cut = cut_so_far g.W.Write.contents from _ _ h.wrote; heard = h.wrote.heard }

pub returns-then-not-has_turn-clause-err : goal.returns-then-not-has_turn-clause-err
returns-then-not-has_turn-clause-err g c = λ from given h. record { cut = cut_so_far g.W.Write.contents from _ _ h.wrote; heard = h.wrote.heard }

pub returns-then-not-has_turn-clause-stop : goal.returns-then-not-has_turn-clause-stop
returns-then-not-has_turn-clause-stop g c = λ from given h.
    let reported : LineOp = record { name = c.args.name; op = c.args.op.now } in
    let number : c.in-Ok.client ≡ number_of (names_of given) c.args.name = c.in-Ok.ensures.number ∙ ap (λ (ns : List (List ℕ)). number_of ns c.args.name) h.names in
    let there : c.in-Ok.client < c.args.self.now.clients = search rules in
    let full : HasTurn c.args.self.now.writer.counts c.in-Ok.client → ⊥ = λ turn. let yes = c.has_turn.ensures.1 turn in let no = c.if-not-has_turn.true in search rules in
    let names : c.number.new.self ≡ names_of (given ++ reported ∷ []) =
    c.in-Ok.ensures.names ∙ ap (λ (ns : List (List ℕ)). with_name ns c.args.name) h.names ∙ sym (names_more given reported) in
    let few : length c.number.new.self ≤ 65535 = search rules in
    (refl, too_many (format_of c.args.self.now) c.args.self.now.clients given reported c.args.self.now.writer.counts c.in-Ok.client h.wrote.counts number there full (omega (arith, ap length names, few)))

pub returns-in-Ok-op-clause-ok : goal.returns-in-Ok-op-clause-ok
returns-in-Ok-op-clause-ok g c = λ from given h.
    let reported : LineOp = record { name = c.args.name; op = c.args.op.now } in
    let turn : HasTurn c.args.self.now.writer.counts c.in-Ok.client = search rules in
    let wrote = written_more g.W.Write.contents from (known_to (format_of c.args.self.now) c.args.self.now.clients given) c.args.self.now.writer c.op.new.self c.in-Ok.client (operation_of c.args.op.now) h.wrote turn c.requires
    c.in-Ok-op.ensures.ok c.in-Ok-op.ensures.counts c.in-Ok-op.ensures.written c.in-Ok-op.ensures.heard in
    let few : length c.number.new.self ≤ c.args.self.now.clients = search rules in
    ops_more g.W.Write.contents from given reported c.args.self.now _ c.in-Ok.client h refl (ap (λ (n : ACounts). n.format) c.in-Ok-op.ensures.counts) c.in-Ok.ensures.names c.saturating_add-self.ensures c.in-Ok.ensures.number few turn wrote

pub returns-in-Err-clause-err : goal.returns-in-Err-clause-err
returns-in-Err-clause-err g c = λ from given h.
    let turn : HasTurn c.args.self.now.writer.counts c.in-Ok.client = search rules in
    rw c.from-in-Err.ensures (left_refused g.W.Write.contents from (known_to (format_of c.args.self.now) c.args.self.now.clients given) c.args.self.now.writer c.op.new.self c.in-Ok.client (operation_of c.args.op.now) c.in-Err.fault h.wrote turn c.requires
    c.in-Err.ensures.err c.in-Err.ensures.failed)
