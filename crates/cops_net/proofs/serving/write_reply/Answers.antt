use Rattle.std.proofs.Common.{◌≡◌, ◌<◌, ℕ, List, [], length, take, refl, ap, subst, ◌∙◌, ◌||◌, inr}
use Rattle.std.specs.Io.KnownBytes.{Appends}
use Rattle.cops_types.specs.Counted.{inner}
use Rattle.cops_wire.specs.Message.{encoded}
use Rattle.cops_net.proofs.Encodings.{appended_to_none, encoded_some}
use Rattle.cops_net.proofs.Readings.{appends_none}
use Rattle.cops_net.proofs.serving.write_reply.Goals as goal

pub returns-in_default-clause-answered : goal.returns-in_default-clause-answered
returns-in_default-clause-answered g c = λ format message gained t. ([], appends_none _, (refl, inr (c.args.reply.now, t, encoded_some c.args.reply.now)))

pub returns-in-Ok-write_text-clause-answered : goal.returns-in-Ok-write_text-clause-answered
returns-in-Ok-write_text-clause-answered g c =
    let reply = c.args.reply.now in
    let written : c.deref.result.now ≡ encoded reply = c.deref.ensures.value ∙ appended_to_none reply _ _ c.clear.ensures.items c.in-Ok.ensures.ok in
    λ format message gained t. (
      encoded reply,
      subst (λ (x : List ℕ). Appends (g.W.Write.contents (inner c.args.writer.now)) (g.W.Write.contents (inner c.write_text.new.writer)) x) written c.in-Ok-write_text.ensures.ok,
      (reply, t, refl, ap (λ b. c.args.greeted || b) (c.is_welcome.ensures ∙ t.welcomed)),
    )

pub returns-in-Err-clause-answered : goal.returns-in-Err-clause-answered
returns-in-Err-clause-answered g c =
    let reply = c.args.reply.now in
    let written : c.deref.result.now ≡ encoded reply = c.deref.ensures.value ∙ appended_to_none reply _ _ c.clear.ensures.items c.in-Ok.ensures.ok in
    let n = c.in-Err.field-0 in
    let part : Appends (g.W.Write.contents (inner c.args.writer.now)) (g.W.Write.contents (inner c.write_text.new.writer)) (take n (encoded reply)) =
    subst (λ (x : List ℕ). Appends (g.W.Write.contents (inner c.args.writer.now)) (g.W.Write.contents (inner c.write_text.new.writer)) (take n x)) written c.in-Err.ensures.err in
    λ format message gained t. (
      take n (encoded reply),
      part,
      (reply, t, (n, subst (λ (x : List ℕ). n < length x) written c.in-Err.ensures.failed.0, refl)),
    )
