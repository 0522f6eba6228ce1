use Rattle.std.proofs.Common.{◌≡◌, ◌++◌, ◌∷◌, [], nat_eq, ap, subst, sym, ◌∙◌, OnOk}
use Rattle.std.specs.Map.{values_of}
use Rattle.indexmap.proofs.CallerLemmas.{insert_entry-new}
use Rattle.indexmap.specs.IndexMap.{insert_entry}
use Rattle.cops_core.specs.Parts.{Puts, AreByVersion}
use Rattle.cops_core.specs.World.{sent}
use Rattle.cops_core.proofs.Versions.{sent_lookup, by_version_more, values_more}
use Rattle.cops_core.proofs.issued.Issued.push.Goals as goal
use Rattle.cops_core.proofs.issued.Issued.push.Goals.{Joined-none}

entries : (c : Joined-none) → c.insert.new.self.entries ≡ c.self.inside.puts.entries ++ (c.args.put.version, c.args.put) ∷ []
entries c =
    let written : c.insert.new.self.entries ≡ insert_entry nat_eq c.self.inside.puts.entries c.args.put.version c.args.put =
    subst (λ r. OnOk r (c.insert.new.self.entries ≡ insert_entry nat_eq c.self.inside.puts.entries c.args.put.version c.args.put)) c.unwrap-none.ensures c.insert.ensures.entries
    in
    written
    ∙ insert_entry-new nat_eq c.self.inside.puts c.args.put.version c.args.put
    (sent_lookup c.args.put.version c.self.inside.puts.entries c.self.invariant
    ∙ ap (λ (p : Puts). sent p.puts c.args.put.version) c.self.view_is ∙ c.requires.new)

pub invariant_of-self : goal.invariant_of-self
invariant_of-self c = subst AreByVersion (sym (entries c)) (by_version_more c.self.inside.puts.entries c.args.put c.self.invariant)

pub returns : goal.returns
returns c =
    ap values_of (entries c)
    ∙ values_more c.self.inside.puts.entries c.args.put
    ∙ ap (λ (p : Puts). p.puts ++ c.args.put ∷ []) c.self.view_is
