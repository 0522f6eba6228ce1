use Rattle.std.proofs.Common.{◌≡◌, ◌⊎◌, ◌++◌, IsTrue, map, subst, sym, ◌∙◌, arith}
use Rattle.std.proofs.lemmas.List.{map-id}
use Rattle.std.proofs.lemmas.Iterator.Adapters.{YieldsList-from_vec}
use Rattle.std.proofs.lemmas.Iterator.Consumers.{YieldsList-end}
use Rattle.cops_cluster.specs.Close.{holders}
use Rattle.cops_clients.proofs.gathering.Gathered.join.Goals as goal

pub returns-clause-shares : goal.returns-clause-shares
returns-clause-shares g c =
    let gives = c.into_iter-handle-iterator.ensures.into_iter_gives in
    let ended = YieldsList-end (YieldsList-from_vec {s = c.into_iter-handle-iterator.result} c.args.handles.items gives.0 (omega (arith, gives.1, c.args.handles.ok.0))) c.loop-handle.yielded c.loop-handle.handle-iterator c.loop-handle.yielded_by c.next.result c.next.new.self c.in-None.is c.next.ensures.steps in
    let all : c.loop-handle.yielded ≡ c.args.handles.items = sym (map-id c.loop-handle.yielded) ∙ ended.0 in
    subst (λ (l : _). IsTrue c.loop-handle.self.lost ⊎ (holders c.loop-handle.self.shares.items ≡ holders c.args.self.now.shares.items ++ map (λ (h : _). h.promise.owner) l)) all c.loop-handle.invariant.shares
