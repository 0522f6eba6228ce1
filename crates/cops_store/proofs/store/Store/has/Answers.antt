use Rattle.std.proofs.Common.{sym, ◌∙◌, subst}
use Rattle.cops_store.proofs.Showing.{nothing_shown}
use Rattle.cops_store.proofs.Placing.{IsAt, found_pair, is_at}
use Rattle.cops_store.proofs.Indexing.{found_at, none_there, missed}
use Rattle.std.specs.Map.{keys_of}
use Rattle.cops_store.specs.Index.{settled_in}
use Rattle.cops_store.proofs.store.Store.has.Goals as goal

pub returns-in-Some : goal.returns-in-Some
returns-in-Some c =
    let keys = c.self.inside.keys.entries in
    let key = c.args.key.now in
    let at = c.in-Some.ensures.index in
    rw (← c.self.view_is)
    (c.contains_key.ensures
    ∙ found_pair keys c.self.inside.pairs.entries key c.in-Some.at c.args.version
    (subst (IsAt keys key) (sym (found_at (keys_of keys) key c.in-Some.at at)) (is_at keys key c.self.invariant.distinct)) c.self.invariant.placed)

pub returns-in-None : goal.returns-in-None
returns-in-None c =
    let keys = c.self.inside.keys.entries in
    let pairs = c.self.inside.pairs.entries in
    let key = c.args.key.now in
    rw (← c.self.view_is)
    (sym (nothing_shown (settled_in keys pairs) key c.args.version (missed keys pairs key c.self.invariant (sym (none_there _ c.in-None.ensures.found)))))
