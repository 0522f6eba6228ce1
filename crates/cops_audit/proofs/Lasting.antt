-- The verdict so far, from the faults of each class.
use Rattle.std.proofs.Common.{◌≡◌, ◌∙◌, Bool, true, false, Contains, List, sym, subst, inl, inr}
use Rattle.cops_types.specs.declared.op.OpName.{OpName}
use Rattle.cops_types.specs.Histories.{Sessions, IsNamed, PutsVersion, SourceStep}
use Rattle.cops_types.specs.Faults.{HasNoSource, Lists}
use Rattle.cops_types.specs.Verdicts.{AllAbove, NoneStale}
use Rattle.cops_types.specs.VersionOrder.{NoneDoubled}
use Rattle.cops_audit.specs.declared.summaries.Summary.{Summary}
use Rattle.cops_types.specs.declared.versioned_put.VersionedPut.{VersionedPut}
use Rattle.cops_audit.specs.Names.{ListsAmong}
use Rattle.cops_audit.specs.Summaries.{IsSummarized, IsSourceless}
use Rattle.cops_audit.specs.Tables.{IsVersionTable}
use Rattle.cops_audit.specs.SoFar.{HasLastingFault, HaveSourcesOrWait, IsMismatched, IsWaiting}
use Rattle.cops_audit.proofs.Classes.{none_doubled, sourceless_listed}
use Rattle.cops_audit.proofs.Differing.{name_cases}
use Rattle.cops_audit.proofs.Exact.{source_version}
use Rattle.cops_audit.proofs.Gets.{one_get_version}

-- a get that waits has no source
pub waiting_sourceless : (h : Sessions) (n : OpName) → IsWaiting h n → HasNoSource h n
waiting_sourceless h n w = record {
  key = w.gets.0;
  content = w.gets.1;
  version = w.version;
  got = w.gets.2;
  none = λ put s. w.none put (source_version h put n w.gets.0 w.gets.1 w.version s w.gets.2);
}

module _ (h : Sessions) (doubled : NoneDoubled h) where
  -- where a put has a get's version with another key or value, no other put is the get's source
  mismatched_sourceless : (got put : OpName) → IsMismatched h got put → HasNoSource h got
  mismatched_sourceless got put m = record {
    key = m.gets.0;
    content = m.gets.1;
    version = m.version;
    got = m.gets.2;
    none = λ other s. elim (name_cases put other) [
      | inl same ↦ m.no_source (subst (λ p. SourceStep h p got) (sym same) s)
      | inr differs ↦ doubled other (record {
        version = m.version;
        put = source_version h other got m.gets.0 m.gets.1 m.version s m.gets.2;
        other = put;
        other_put = m.puts;
        differs = differs;
      })
    ];
  }

  pub no_lasting_fault : HaveSourcesOrWait h → AllAbove h → NoneStale h → ¬ HasLastingFault h
  no_lasting_fault sources above stale (inl d) = doubled d.0 d.1
  no_lasting_fault sources above stale (inr (inl a)) = above a.0 a.1 a.2
  no_lasting_fault sources above stale (inr (inr (inl s))) = stale s.0 s.1 s.2
  no_lasting_fault sources above stale (inr (inr (inr m))) =
      let waits = sources m.0 (mismatched_sourceless m.0 m.1 m.2) in
      let f = m.2 in
      waits.none m.1 (subst (λ v. PutsVersion h m.1 v) (one_get_version h m.0 f.version waits.version f.gets waits.gets) f.puts)

-- where each of the names without a source waits, each get without a source does
pub all_wait : {h : Sessions} {names : List OpName} → Lists (λ n. n) (IsNamed h) names → ((got : OpName) → Contains names got → HasNoSource h got → IsWaiting h got) → HaveSourcesOrWait h
all_wait {h} all waits n f = waits n ((all.members n).1 (_, f.got)) f

-- the gets without a source are all the gets that wait
pub waiting_listed : (h : Sessions) (gets : List OpName) → Lists (λ n. n) (HasNoSource h) gets → HaveSourcesOrWait h → Lists (λ n. n) (IsWaiting h) gets
waiting_listed h gets lists sources = record {
  members = λ n. ((λ at. sources n ((lists.members n).0 at)), (λ w. (lists.members n).1 (waiting_sourceless h n w)));
  in_order = lists.in_order;
}

-- false is not true
pub not_true : {b : Bool} → b ≡ false → ¬ (b ≡ true)
not_true f t = let e : true ≡ false = sym t ∙ f in cc

-- names, or a table, or the summaries by it, in an equal list
pub seen_table : {h : Sessions} {seen table : List VersionedPut} → seen ≡ table → IsVersionTable h table → IsVersionTable h seen
seen_table {h} e t = subst (IsVersionTable h) (sym e) t

pub seen_summaries : {h : Sessions} {seen table : List VersionedPut} {summaries : List (List Summary)} → seen ≡ table → IsSummarized h table summaries → IsSummarized h seen summaries
seen_summaries {h} {summaries = summaries} e summarized = subst (λ (t : List VersionedPut). IsSummarized h t summaries) (sym e) summarized

-- no fault lasts, and these gets wait
pub record Waits (h : Sessions) (gets : List OpName) : Type 0 where
  pub lasting : ¬ HasLastingFault h
  pub waiting : Lists (λ n. n) (IsWaiting h) gets

-- the verdict so far where the names have no lasting fault of any class, and those without a source are listed
pub waits : {h : Sessions} {table : List VersionedPut} {summaries : List (List Summary)} {names gets : List OpName} → Lists (λ n. n) (IsNamed h) names → IsVersionTable h table → IsSummarized h table summaries
    → ((got : OpName) → Contains names got → HasNoSource h got → IsWaiting h got) → AllAbove h → NoneStale h → ListsAmong (λ n. n) (IsSourceless summaries) names gets → Waits h gets
waits {h} {table} {summaries} {names} {gets} all t summarized waiting above stale listed =
    let sources = all_wait all waiting in
    record {
      lasting = no_lasting_fault h (none_doubled h table t) sources above stale;
      waiting = waiting_listed h gets (sourceless_listed h names all table t summaries summarized gets listed) sources;
    }
