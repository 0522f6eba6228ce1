use Rattle.std.proofs.Common.{◌≡◌, [], ◌∷◌, ◌++◌, slice_set, sym, ap, ◌∙◌, true, option_copied}
use Rattle.cops_types.specs.Histories.{with_op, write}
use Rattle.cops_types.specs.Format.{fits}
use Rattle.cops_core.specs.World.{sent, wrote, with_node}
use Rattle.cops_core.specs.contracts.state.State.{the_view}
use Rattle.cops_core.proofs.Events.{admitted, entered, client_there, client_home, home_asked, dc_there, place_there, with_parts, writes_at, new_version}
use Rattle.cops_core.proofs.Memory.{write_may_fail}
use Rattle.cops_core.proofs.state.State.try_write.Goals as goal

pub drafted-requires : goal.drafted-requires
drafted-requires c =
    client_there (entered c.primary-place.ensures.setting c.self.view_is c.requires (admitted c.in_default.ensures.same c.in_default.ensures.ok))

pub home-requires : goal.home-requires
home-requires c =
    client_home (entered c.primary-place.ensures.setting c.self.view_is c.requires (admitted c.in_default.ensures.same c.in_default.ensures.ok))

pub node-node-requires-clause-dc : goal.node-node-requires-clause-dc
node-node-requires-clause-dc c =
    dc_there (home_asked (entered c.primary-place.ensures.setting c.self.view_is c.requires (admitted c.in_default.ensures.same c.in_default.ensures.ok)) c.home.ensures)

pub node-node-requires-clause-place : goal.node-node-requires-clause-place
node-node-requires-clause-place c =
    place_there (home_asked (entered c.primary-place.ensures.setting c.self.view_is c.requires (admitted c.in_default.ensures.same c.in_default.ensures.ok)) c.home.ensures) c.primary-place.ensures.range

pub keep_put-requires-clause-new : goal.keep_put-requires-clause-new
keep_put-requires-clause-new c =
    let a = entered c.primary-place.ensures.setting c.self.view_is c.requires (admitted c.in_default.ensures.same c.in_default.ensures.ok) in
    let fit : fits c.args.setting.now.format (option_copied c.args.content) ≡ true = ap (λ f. fits f (option_copied c.args.content)) (sym c.format.ensures.format) ∙ c.in_default.ensures.fits in
    ap (λ puts. sent puts c.in-Some.version) c.reserve.ensures.same
    ∙ new_version a c.args.key.now (option_copied c.args.content) c.home.result c.primary-place.result c.in-Some.version c.write_at-outcome.result c.node-node.result.now c.write_at-outcome.new.node c.in_ok-own.own
    fit c.home.ensures c.primary-place.ensures.count c.node-node.ensures.value c.in_ok-own.ensures c.write_at-outcome.ensures (sym c.in-Some.ensures)

pub keep_put-requires-clause-client : goal.keep_put-requires-clause-client
keep_put-requires-clause-client c =
    client_there (entered c.primary-place.ensures.setting c.self.view_is c.requires (admitted c.in_default.ensures.same c.in_default.ensures.ok))

pub returns-in-Some : goal.returns-in-Some
returns-in-Some c =
    let a = entered c.primary-place.ensures.setting c.self.view_is c.requires (admitted c.in_default.ensures.same c.in_default.ensures.ok) in
    let content = option_copied c.args.content in
    let fit : fits c.args.setting.now.format content ≡ true = ap (λ f. fits f content) (sym c.format.ensures.format) ∙ c.in_default.ensures.fits in
    let w = the_view c.self.inside in
    let client = c.args.client in
    let n = c.write_at-outcome.new.node in
    let made = with_parts w c.home.result c.primary-place.result n in
    let version = c.in-Some.version in
    let kept = c.in_ok-copies.ensures ∙ (λ i. let own = c.in_ok-own.ensures i in record { issued = own; pair_key = own.key; op_key = own.key; op_value = own.value }) in
    let issued = c.keep_put.ensures.issued ∙ (λ i. c.reserve.ensures.same i ++ record { key = (kept i).issued.key; value = (kept i).issued.value; version = version; deps = (kept i).issued.deps } ∷ []) in
    let contexts = c.keep_put.ensures.context ∙ (λ i. slice_set w.contexts client (record { key = (kept i).pair_key; version = version } ∷ [])) in
    let sessions = c.keep_put.ensures.session ∙ (λ i. with_op (c.in_default.ensures.same i) client (write (kept i).op_key (kept i).op_value version)) in
    record {
      ok = writes_at a c.args.key.now content c.home.result c.primary-place.result c.write_at-outcome.result c.node-node.result.now n c.in_ok-own.own (made c.keep_put.new.issued.puts c.keep_put.new.contexts.pairs c.keep_put.new.history.sessions)
          fit c.home.ensures c.primary-place.ensures.count c.node-node.ensures.value c.in_ok-own.ensures c.write_at-outcome.ensures
          ((λ i. made (issued i) (contexts i) (sessions i)) ∙ ap (wrote (with_node w c.home.result c.primary-place.result n) client c.args.key.now content) c.in-Some.ensures);
      err = tt;
      memory = λ _. write_may_fail c.args.setting.now w c.args.self.now client c.args.key.now content c.self.view_is (admitted c.in_default.ensures.same c.in_default.ensures.ok) fit;
      takes = tt;
    }

pub returns-in-None : goal.returns-in-None
returns-in-None c =
    let a = entered c.primary-place.ensures.setting c.self.view_is c.requires (admitted c.in_default.ensures.same c.in_default.ensures.ok) in
    let content = option_copied c.args.content in
    let fit : fits c.args.setting.now.format content ≡ true = ap (λ f. fits f content) (sym c.format.ensures.format) ∙ c.in_default.ensures.fits in
    let w = the_view c.self.inside in
    let dc = c.home.result in
    let place = c.primary-place.result in
    let n = c.write_at-outcome.new.node in
    let made = with_parts w dc place n in
    record {
      ok = writes_at a c.args.key.now content dc place c.write_at-outcome.result c.node-node.result.now n c.in_ok-own.own (made c.reserve.new.self.puts w.contexts c.admit_write.new.history.sessions)
          fit c.home.ensures c.primary-place.ensures.count c.node-node.ensures.value c.in_ok-own.ensures c.write_at-outcome.ensures
          ((λ i. made (c.reserve.ensures.same i) w.contexts (c.in_default.ensures.same i)) ∙ ap (wrote (with_node w dc place n) c.args.client c.args.key.now content) c.in-None.ensures);
      err = tt;
      memory = λ _. write_may_fail c.args.setting.now w c.args.self.now c.args.client c.args.key.now content c.self.view_is (admitted c.in_default.ensures.same c.in_default.ensures.ok) fit;
      takes = tt;
    }
