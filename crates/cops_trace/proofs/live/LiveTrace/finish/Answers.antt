use Rattle.std.proofs.Common.{None, ◌++◌, sym, ap, subst, ◌∙◌, arith}
use Rattle.std.specs.Io.KnownBytes.{Appends}
use Rattle.std.proofs.lemmas.Bool.Decides.{Decides-eqb}
use Rattle.std.proofs.lemmas.Slice.Eq.{strip_prefix_is}
use Rattle.cops_types.proofs.Devices.{appends_more}
use Rattle.cops_types.specs.Counted.{inner}
use Rattle.cops_trace.specs.Live.{IsCutShort}
use Rattle.cops_trace.specs.Text.{text}
use Rattle.cops_trace.proofs.Begun.{cut_begun, left_is, rest_cut}
use Rattle.cops_trace.proofs.live.LiveTrace.finish.Goals as goal

pub returns-in_default-clause-err : goal.returns-in_default-clause-err
returns-in_default-clause-err g c = rw c.into_writer-writer.ensures (cut_begun _ _ _ _ _ c.requires.wrote)

pub returns-in_default-strip_prefix-clause-err : goal.returns-in_default-strip_prefix-clause-err
returns-in_default-strip_prefix-clause-err g c = rw c.into_writer-writer.ensures (cut_begun _ _ _ _ _ c.requires.wrote)

pub returns-in_default-strip_prefix-clause-another : goal.returns-in_default-strip_prefix-clause-another
returns-in_default-strip_prefix-clause-another g c = λ same front.
    strip_prefix_is Decides-eqb c.deref.result.now c.deref-2.result.now None c.in_default-strip_prefix.ensures.cases front.0
    (c.deref.ensures.value ∙ c.in-Ok.ensures ∙ front.1 ∙ ap (λ l. l ++ front.0) (sym c.deref-2.ensures.value))

pub returns-in-Ok-write_text-clause-ok : goal.returns-in-Ok-write_text-clause-ok
returns-in-Ok-write_text-clause-ok g c =
    let is = left_is c.deref.result.now c.deref-2.result.now (text c.args.trace.now) c.args.self.text.items c.in-Some.rest c.in-Some.ensures.cases (c.deref.ensures.value ∙ c.in-Ok.ensures) c.deref-2.ensures.value in
    let mid : Appends (g.W.Write.contents (inner c.args.self.begun.value)) (g.W.Write.contents (inner c.into_writer-writer.result)) c.args.self.text.items =
    rw c.into_writer-writer.ensures c.requires.wrote.appends in
    appends_more _ _ _ c.args.self.text.items c.in-Some.rest.now (text c.args.trace.now) mid c.in-Ok-write_text.ensures.ok (sym is)

pub returns-clause-err : goal.returns-clause-err
returns-clause-err g c =
    let is = left_is c.deref.result.now c.deref-2.result.now (text c.args.trace.now) c.args.self.text.items c.in-Some.rest c.in-Some.ensures.cases (c.deref.ensures.value ∙ c.in-Ok.ensures) c.deref-2.ensures.value in
    let mid : Appends (g.W.Write.contents (inner c.args.self.begun.value)) (g.W.Write.contents (inner c.into_writer-writer.result)) c.args.self.text.items =
    rw c.into_writer-writer.ensures c.requires.wrote.appends in
    subst (IsCutShort _ _) (omega (arith, c.len.ensures, c.args.self.text.ok.0))
    (rest_cut _ _ _ c.args.trace.now c.args.self.text.items c.in-Some.rest.now c.in-Err.count c.len-records.ensures.trace is mid c.in-Err.ensures.err c.in-Err.ensures.failed.0)
