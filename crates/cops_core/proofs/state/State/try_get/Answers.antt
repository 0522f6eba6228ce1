use Rattle.std.proofs.Common.{rules, refl, ◌≡◌, ◌<◌, List, [], length, slice_set, slice_index_or, sym, ap, ◌∙◌, subst, nat_lt, None, Some}
use Rattle.std.proofs.lemmas.List.{set-get_or}
use Rattle.cops_types.specs.declared.dep.Dep.{Dep}
use Rattle.cops_types.proofs.Sessions.{at_error}
use Rattle.cops_types.specs.Histories.{with_op, read, missed}
use Rattle.cops_types.specs.Format.{most_deps}
use Rattle.cops_context.specs.Context.{with_pair}
use Rattle.cops_node.specs.declared.outcome.Outcome.TheVariants.{Got as Answered, Gone, Missed as Nothing}
use Rattle.cops_core.specs.World.{context_in}
use Rattle.cops_core.specs.contracts.state.State.{the_view}
use Rattle.cops_core.proofs.Events.{admitted, entered, client_there, client_home, home_asked, dc_there, place_there, with_parts, put_back, got_stays, gets_at, keeps_no_get, same_clients}
use Rattle.cops_core.proofs.Memory.{get_may_fail}
use Rattle.cops_core.proofs.state.State.try_get.Goals as goal

pub admit_get-requires : goal.admit_get-requires
admit_get-requires c = same_clients c.primary-place.ensures.setting c.self.view_is c.requires

pub reserve-requires : goal.reserve-requires
reserve-requires c =
    client_there (entered c.primary-place.ensures.setting c.self.view_is c.requires (admitted c.in_default.ensures.same c.in_default.ensures.ok))

pub home-requires : goal.home-requires
home-requires c =
    client_home (entered c.primary-place.ensures.setting c.self.view_is c.requires (admitted c.in_default.ensures.same c.in_default.ensures.ok))

pub node-node-requires-clause-dc : goal.node-node-requires-clause-dc
node-node-requires-clause-dc c =
    dc_there (home_asked (entered c.primary-place.ensures.setting c.self.view_is c.requires (admitted c.in_default.ensures.same c.in_default.ensures.ok)) c.home.ensures)

pub node-node-requires-clause-place : goal.node-node-requires-clause-place
node-node-requires-clause-place c =
    place_there (home_asked (entered c.primary-place.ensures.setting c.self.view_is c.requires (admitted c.in_default.ensures.same c.in_default.ensures.ok)) c.home.ensures) c.primary-place.ensures.range

pub returns-in_err-clone-in-Got-clause-err : goal.returns-in_err-clone-in-Got-clause-err
returns-in_err-clone-in-Got-clause-err c =
    let w = the_view c.self.inside in
    let stays = got_stays c.node-node.result.now c.args.client c.args.key.now (Answered c.in-Got.value c.in-Got.version) c.get.new.self c.in-Got.ensures.happens in
    at_error c.from_residual-in_err-clone-in-Got.result _
    (put_back w c.home.result c.primary-place.result c.node-node.result.now c.get.new.self c.node-node.ensures.value stays refl c.reserve.ensures.same c.in_default.ensures.same ∙ c.self.view_is)

pub add-requires-clause-known : goal.add-requires-clause-known
add-requires-clause-known c =
    subst (λ (p : List (List Dep)). c.args.client < length p) (sym c.reserve.ensures.same) (client_there (entered c.primary-place.ensures.setting c.self.view_is c.requires (admitted c.in_default.ensures.same c.in_default.ensures.ok)))

pub returns-in_ok-clone-in-Got-clause-ok : goal.returns-in_ok-clone-in-Got-clause-ok
returns-in_ok-clone-in-Got-clause-ok c =
    let a = entered c.primary-place.ensures.setting c.self.view_is c.requires (admitted c.in_default.ensures.same c.in_default.ensures.ok) in
    let op_cloned : c.in_ok-op_key.op_key ≡ c.args.key.now = search rules in
    let cloned : c.in_ok-copy.copy ≡ c.args.key.now = search rules in
    let value_cloned : c.in_ok-clone-in-Got.field-0 ≡ c.in-Got.value = search rules in
    let w = the_view c.self.inside in
    let client = c.args.client in
    let made = with_parts w c.home.result c.primary-place.result c.get.new.self w.issued in
    let value = c.in-Got.value in
    let version = c.in-Got.version in
    let contexts = c.add.ensures ∙ (λ i. slice_set (c.reserve.ensures.same i) client (with_pair (slice_index_or (c.reserve.ensures.same i) client []) (record { key = cloned i; version = version }))) in
    let recorded : c.record.new.history.sessions ≡ with_op c.admit_get.new.history.sessions client (read c.in_ok-op_key.op_key (Some c.in_ok-clone-in-Got.field-0) version) = search rules in
    let sessions = recorded ∙ (λ i. with_op (c.in_default.ensures.same i) client (read (op_cloned i) (Some (value_cloned i)) version)) in
    gets_at a c.args.key.now c.home.result c.primary-place.result (Answered value version) c.node-node.result.now c.get.new.self (made c.add.new.self.pairs c.record.new.history.sessions)
    (ap (λ f. nat_lt (length (context_in w client)) (most_deps f)) (sym c.format-format.ensures.format) ∙ c.in_default.ensures.room) c.home.ensures c.primary-place.ensures.count c.node-node.ensures.value c.in-Got.ensures.happens
    (λ i. made (contexts i) (sessions i))

pub add-requires-in-Gone-clause-known : goal.add-requires-in-Gone-clause-known
add-requires-in-Gone-clause-known c =
    subst (λ (p : List (List Dep)). c.args.client < length p) (sym c.reserve.ensures.same) (client_there (entered c.primary-place.ensures.setting c.self.view_is c.requires (admitted c.in_default.ensures.same c.in_default.ensures.ok)))

pub returns-in-Gone-clause-ok : goal.returns-in-Gone-clause-ok
returns-in-Gone-clause-ok c =
    let a = entered c.primary-place.ensures.setting c.self.view_is c.requires (admitted c.in_default.ensures.same c.in_default.ensures.ok) in
    let op_cloned : c.in_ok-op_key.op_key ≡ c.args.key.now = search rules in
    let cloned : c.in_ok-copy.copy ≡ c.args.key.now = search rules in
    let w = the_view c.self.inside in
    let client = c.args.client in
    let made = with_parts w c.home.result c.primary-place.result c.get.new.self w.issued in
    let version = c.in-Gone.version in
    let contexts = c.add-in-Gone.ensures ∙ (λ i. slice_set (c.reserve.ensures.same i) client (with_pair (slice_index_or (c.reserve.ensures.same i) client []) (record { key = cloned i; version = version }))) in
    let recorded : c.record-in-Gone.new.history.sessions ≡ with_op c.admit_get.new.history.sessions client (read c.in_ok-op_key.op_key None version) = search rules in
    let sessions = recorded ∙ (λ i. with_op (c.in_default.ensures.same i) client (read (op_cloned i) None version)) in
    gets_at a c.args.key.now c.home.result c.primary-place.result (Gone version) c.node-node.result.now c.get.new.self (made c.add-in-Gone.new.self.pairs c.record-in-Gone.new.history.sessions)
    (ap (λ f. nat_lt (length (context_in w client)) (most_deps f)) (sym c.format-format.ensures.format) ∙ c.in_default.ensures.room) c.home.ensures c.primary-place.ensures.count c.node-node.ensures.value c.in-Gone.ensures.happens
    (λ i. made (contexts i) (sessions i))

pub returns-in-Missed-clause-ok : goal.returns-in-Missed-clause-ok
returns-in-Missed-clause-ok c =
    let a = entered c.primary-place.ensures.setting c.self.view_is c.requires (admitted c.in_default.ensures.same c.in_default.ensures.ok) in
    let op_cloned : c.in_ok-op_key.op_key ≡ c.args.key.now = search rules in
    let w = the_view c.self.inside in
    let client = c.args.client in
    let made = with_parts w c.home.result c.primary-place.result c.get.new.self w.issued in
    let contexts = c.reserve.ensures.same ∙ sym (set-get_or w.contexts client []) in
    let recorded : c.record-in-Missed.new.history.sessions ≡ with_op c.admit_get.new.history.sessions client (missed c.in_ok-op_key.op_key) = search rules in
    let sessions = recorded ∙ (λ i. with_op (c.in_default.ensures.same i) client (missed (op_cloned i))) in
    gets_at a c.args.key.now c.home.result c.primary-place.result Nothing c.node-node.result.now c.get.new.self (made c.reserve.new.self.pairs c.record-in-Missed.new.history.sessions)
    (ap (λ f. nat_lt (length (context_in w client)) (most_deps f)) (sym c.format-format.ensures.format) ∙ c.in_default.ensures.room) c.home.ensures c.primary-place.ensures.count c.node-node.ensures.value c.in-Missed.ensures.happens
    (λ i. made (contexts i) (sessions i))

pub returns-in_default-get : goal.returns-in_default-get
returns-in_default-get c =
    let a = entered c.primary-place.ensures.setting c.self.view_is c.requires (admitted c.in_default.ensures.same c.in_default.ensures.ok) in
    let w = the_view c.self.inside in
    let few = ap (λ f. nat_lt (length (context_in w c.args.client)) (most_deps f)) (sym c.format-format.ensures.format) ∙ c.in_default.ensures.room in
    let dc = c.home.result in
    let place = c.primary-place.result in
    let made = with_parts w dc place c.get.new.self w.issued in
    let kept = keeps_no_get w dc place c.args.client c.args.key.now c.get.result c.get.new.self c.in_default-get.not-Got c.in_default-get.not-Gone c.in_default-get.not-Missed in
    record {
      ok = gets_at a c.args.key.now dc place c.get.result c.node-node.result.now c.get.new.self (made c.reserve.new.self.pairs c.admit_get.new.history.sessions)
          few c.home.ensures c.primary-place.ensures.count c.node-node.ensures.value c.get.ensures.happens
          ((λ i. made (c.reserve.ensures.same i) (c.in_default.ensures.same i)) ∙ sym kept);
      err = tt;
      memory = λ _. get_may_fail c.args.setting.now w c.args.self.now c.args.client c.args.key.now c.self.view_is (admitted c.in_default.ensures.same c.in_default.ensures.ok) few;
      takes = tt;
    }
