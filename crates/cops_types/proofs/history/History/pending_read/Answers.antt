use Rattle.cops_types.specs.Slots.{content_of}
use Rattle.std.proofs.Common.{Some, sym, ap, ◌∙◌}
use Rattle.std.proofs.lemmas.Option.{slice_get-map}
use Rattle.std.specs.Option.{option_map}
use Rattle.cops_types.specs.Histories.{read}
use Rattle.cops_types.specs.declared.entry.StoredOp.TheVariants.{Got}
use Rattle.cops_types.specs.Entries.{reported}
use Rattle.cops_types.proofs.history.History.pending_read.Goals as goal

pub key-requires : goal.key-requires
key-requires c =
    let got = c.in_ok-got.got.now in
    c.self.invariant.get_keys c.args.number (Got got.key (content_of got.has_value got.value) got.version) (sym c.in_ok-got.ensures)

pub returns : goal.returns
returns c =
    let report = reported c.self.inside.keys.keys c.self.inside.entries.all in
    let got = c.in_ok-got.got.now in
    rw (← c.self.view_is) ((λ j. Some (read (c.key.ensures j) (c.content.ensures j) got.version)) ∙ ap (option_map report) c.in_ok-got.ensures ∙ sym (slice_get-map report c.self.inside.entries.gets c.args.number))
