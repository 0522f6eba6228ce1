use Rattle.std.proofs.Common.{sym, subst}
use Rattle.cops_audit.specs.Keys.{AreNexts}
use Rattle.cops_audit.proofs.key_index.KeyIndex.fill.Goals as goal

pub returns-clause-index : goal.returns-clause-index
returns-clause-index c =
    let h = c.args.history.now.sessions in
    record {
      nexts = c.in_ok-link.ensures.nexts;
      by_key = c.in_ok-link.ensures.firsts;
      firsts = c.in_ok-set_firsts.ensures.firsts h c.requires.table (subst (AreNexts h c.args.table.now) (sym c.as_slice-2.ensures.value) c.in_ok-link.ensures.nexts);
    }
