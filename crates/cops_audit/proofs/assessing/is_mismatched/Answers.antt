use Rattle.std.proofs.Common.{get_or, ap, subst}
use Rattle.cops_types.specs.Histories.{PutsVersion}
use Rattle.cops_types.specs.declared.versioned_put.VersionedPut.{VersionedPut}
use Rattle.cops_audit.proofs.Places.{place_of_put, put_at}
use Rattle.cops_audit.proofs.assessing.is_mismatched.Goals as goal

pub returns-in_default : goal.returns-in_default
returns-in_default c = let f = c.requires.sourceless in absurd (c.in_default.ensures.none f.version (f.key, f.content, f.got))

pub returns-in-Some-place_of-clause-mismatched : goal.returns-in-Some-place_of-clause-mismatched
returns-in-Some-place_of-clause-mismatched c = λ e.
    let h = c.args.history.now.sessions in
    let table = c.args.table.now in
    let v = c.in-Some.version in
    let place = c.in-Some-place_of.field-0 in
    let d : VersionedPut = record { version = v; name = c.args.got } in
    let puts = put_at h table c.requires.table.table place d c.in-Some-place_of.ensures.inside in
    let f = c.requires.sourceless in (
      (get_or table place d).name,
      record {
        version = v;
        gets = c.in-Some.ensures.got;
        puts = subst (λ x. PutsVersion h (get_or table place d).name x) (c.in-Some-place_of.ensures.found d) puts;
        no_source = f.none (get_or table place d).name;
      },
    )

pub returns-in-None-clause-waiting : goal.returns-in-None-clause-waiting
returns-in-None-clause-waiting c = λ e.
    let h = c.args.history.now.sessions in
    let v = c.in-Some.version in
    record {
      version = v;
      gets = c.in-Some.ensures.got;
      none = λ put has_version.
          let d : VersionedPut = record { version = v; name = put } in
          let at = place_of_put h c.args.table.now c.requires.table.table put v has_version in
          c.in-None.ensures.none at.0 d at.1 (ap (λ (q : VersionedPut). q.version) (at.2 d));
    }
