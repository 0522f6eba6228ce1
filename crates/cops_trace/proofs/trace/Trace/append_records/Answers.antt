use Rattle.std.proofs.Common.{◌≡◌, ℕ, ◌+◌, ◌<◌, List, [], ◌++◌, length, get_or, Some, None, inl, inr, refl, sym, ap, subst, ◌∙◌, append_assoc, arith}
use Rattle.cops_types.specs.Histories.{Operation, op_at}
use Rattle.cops_types.specs.OpRefs.{seen}
use Rattle.cops_wire.specs.Message.{encoded}
use Rattle.cops_wire.specs.Records.{record_message}
use Rattle.cops_trace.specs.Kept.{op_in, trace_of}
use Rattle.cops_trace.specs.Text.{ATrace, beginning}
use Rattle.cops_trace.specs.Writing.{CountPrefix, prefix}
use Rattle.cops_trace.proofs.Keeping.{length-records_from}
use Rattle.cops_trace.proofs.Prefixes.{next_read}
use Rattle.cops_trace.proofs.trace.Trace.append_records.Goals as goal

-- an arrival has its operation
pub unreachable-requires : goal.unreachable-requires
unreachable-requires c =
    let i = c.loop-self.invariant in
    let h = c.self.inside.history.sessions in
    let cs = c.self.inside.arrivals.items in
    let d = c.index-client.result.now in
    let k = c.next-index.result in
    let lt : c.loop-self.counts.total < length cs = omega (arith, c.if-at-len.true, c.len-in-loop-self.ensures, c.self.inside.arrivals.ok.0, i.at) in
    let n = next_read c.self.inside.format h cs c.loop-self.counts d k c.self.invariant i.counts lt (subst (λ (m : ℕ). d ≡ get_or cs m d) i.at c.index-client.ensures) c.next-index.ensures in
    let none : None ≡ op_at h (record { client = d; index = k }) = c.in-None.ensures.operation in
    let both : None ≡ Some (op_in h d k) = none ∙ n.is_there in
    cc

-- its client may have one record more
pub add-requires : goal.add-requires
add-requires c =
    let i = c.loop-self.invariant in
    let cs = c.self.inside.arrivals.items in
    let d = c.index-client.result.now in
    let lt : c.loop-self.counts.total < length cs = omega (arith, c.if-at-len.true, c.len-in-loop-self.ensures, c.self.inside.arrivals.ok.0, i.at) in
    (next_read c.self.inside.format c.self.inside.history.sessions cs c.loop-self.counts d c.next-index.result c.self.invariant i.counts lt
    (subst (λ (m : ℕ). d ≡ get_or cs m d) i.at c.index-client.ensures) c.next-index.ensures).turn

pub loop-self-preserved : goal.loop-self-preserved
unfolding encoded
loop-self-preserved c =
    let i = c.loop-self.invariant in
    let h = c.self.inside.history.sessions in
    let cs = c.self.inside.arrivals.items in
    let t = trace_of c.self.inside.format h cs in
    let d = c.index-client.result.now in
    let k = c.next-index.result in
    let lt : c.loop-self.counts.total < length cs = omega (arith, c.if-at-len.true, c.len-in-loop-self.ensures, c.self.inside.arrivals.ok.0, i.at) in
    let n = next_read c.self.inside.format h cs c.loop-self.counts d k c.self.invariant i.counts lt (subst (λ (m : ℕ). d ≡ get_or cs m d) i.at c.index-client.ensures) c.next-index.ensures in
    let some : Some (seen c.in-Some.op) ≡ op_at h (record { client = d; index = k }) = c.in-Some.ensures.operation in
    let both : Some (seen c.in-Some.op) ≡ Some (op_in h d k) = some ∙ n.is_there in
    let op : seen c.in-Some.op ≡ op_in h d k = cc in
    let frame : c.append_record.new.out.items ≡ c.loop-self.out.items ++ encoded (record_message d k (seen c.in-Some.op)) = c.in_ok-append_record-in-Some.ensures.text in
    let total : c.loop-self.counts.total + 1 ≡ c.add.new.self.total = rw c.add.ensures refl in
    record {
      at = omega (arith, i.at, total);
      counts = subst (CountPrefix t) (sym c.add.ensures) n.counts;
      text = λ before is.
          ap (λ (l : List ℕ). before ++ l) frame ∙ sym (append_assoc before c.loop-self.out.items (encoded (record_message d k (seen c.in-Some.op))))
          ∙ ap (λ (l : List ℕ). l ++ encoded (record_message d k (seen c.in-Some.op))) (i.text before is)
          ∙ ap (λ (o : Operation). beginning (prefix c.loop-self.counts.total t) ++ encoded (record_message d k o)) op
          ∙ sym n.text_is ∙ ap (λ (m : ℕ). beginning (prefix m t)) total;
      since = omega (arith, i.since, total);
      more = inr (omega (arith, i.since, total));
      capacity = omega (arith, i.capacity, c.in_ok-append_record-in-Some.ensures.capacity);
    }

pub returns-else-at-len-clause-until : goal.returns-else-at-len-clause-until
returns-else-at-len-clause-until c =
    let i = c.loop-self.invariant in
    inl (omega (
      arith,
      c.if-at-len.false,
      c.len-in-loop-self.ensures,
      c.self.inside.arrivals.ok.0,
      i.at,
      i.counts.inside,
      length-records_from c.self.inside.history.sessions [] c.self.inside.arrivals.items,
      ap (λ (t : ATrace). length t.records) c.self.view_is,
    ))

pub returns-else-at-len-clause-more : goal.returns-else-at-len-clause-more
returns-else-at-len-clause-more c = λ lt few.
    let i = c.loop-self.invariant in
    omega (
      arith,
      lt,
      c.if-at-len.false,
      c.len-in-loop-self.ensures,
      c.self.inside.arrivals.ok.0,
      i.at,
      i.counts.inside,
      length-records_from c.self.inside.history.sessions [] c.self.inside.arrivals.items,
      ap (λ (t : ATrace). length t.records) c.self.view_is,
    )
