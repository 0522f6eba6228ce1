use Rattle.std.proofs.Common.{inl, inr}
use Rattle.cops_report.proofs.reports.refusal.Goals as goal

pub refused_names-requires : goal.refused_names-requires
refused_names-requires c = λ n there.
    let d = ((rw c.in-Doubled.is at c.requires.verdict).1.members n).0 (rw c.deref.ensures.value at there) in (d.version, inl d.put)

pub refused_names-requires-in-NoSource : goal.refused_names-requires-in-NoSource
refused_names-requires-in-NoSource c = λ n there.
    let d = ((rw c.in-NoSource.is at c.requires.verdict).2.members n).0 (rw c.deref-in-NoSource.ensures.value at there) in (d.version, inr (d.key, d.content, d.got))

pub refused_not_above-requires-clause-op : goal.refused_not_above-requires-clause-op
refused_not_above-requires-clause-op c = λ f there.
    let d = ((rw c.in-NotAbove.is at c.requires.verdict).3.members f).0 (rw c.deref-in-NotAbove.ensures.value at there) in (d.is_not_below.own, inl d.is_not_below.put)

pub refused_not_above-requires-clause-earlier : goal.refused_not_above-requires-clause-earlier
refused_not_above-requires-clause-earlier c = λ f there.
    let d = ((rw c.in-NotAbove.is at c.requires.verdict).3.members f).0 (rw c.deref-in-NotAbove.ensures.value at there) in (d.is_not_below.version, d.is_not_below.has)
