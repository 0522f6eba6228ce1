use Rattle.std.proofs.Common.{ap, subst}
use Rattle.cops_types.specs.Histories.{PutsVersion}
use Rattle.cops_types.specs.Operations.{GetsVersion}
use Rattle.cops_types.specs.declared.versioned_put.VersionedPut.{VersionedPut}
use Rattle.cops_audit.specs.Summaries.{HasDone}
use Rattle.cops_audit.proofs.Places.{place_for, place_of_put}
use Rattle.cops_audit.proofs.Gets.{divides_found, sourceless_at}
use Rattle.cops_audit.proofs.summaries.see.Goals as goal

pub returns-in-Some : goal.returns-in-Some
returns-in-Some c =
    let h = c.args.history.now.sessions in
    let v = c.in-Put.version in
    let puts : PutsVersion h c.args.name v = subst (HasDone h c.args.name) c.in-Put.is c.requires.op_version in
    let place = c.in-Some.place in
    (v, puts, place_for h c.args.table.now c.requires.table c.args.name v place puts c.in-Some.ensures.inside c.in-Some.ensures.found)

pub unreachable-requires : goal.unreachable-requires
unreachable-requires c =
    let h = c.args.history.now.sessions in
    let v = c.in-Put.version in
    let puts : PutsVersion h c.args.name v = subst (HasDone h c.args.name) c.in-Put.is c.requires.op_version in
    let d : VersionedPut = record { version = v; name = c.args.name } in
    let at = place_of_put h c.args.table.now c.requires.table.table c.args.name v puts in
    c.in-None.ensures.none at.0 d at.1 (ap (λ (q : VersionedPut). q.version) (at.2 d))

pub returns-in-None-place_near : goal.returns-in-None-place_near
returns-in-None-place_near c =
    let h = c.args.history.now.sessions in
    let v = c.in-Got.version in
    let gets : GetsVersion h c.args.name v = subst (HasDone h c.args.name) c.in-Got.is c.requires.op_version in
    sourceless_at h c.args.table.now c.requires.table c.args.name v gets
    (λ k d inside same. c.in-None-place_near.ensures.none k d inside same)
    c.first_from.result (divides_found c.args.table.now c.first_from.result v c.first_from.ensures.inside c.first_from.ensures.before c.first_from.ensures.from)
