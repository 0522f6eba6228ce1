use Rattle.std.specs.Prelude.{option_copied}
use Rattle.cops_types.specs.Slots.{content_of}
use Rattle.std.proofs.Common.{◌≡◌, ◌<◌, List, Some, length, get_or, refl, ap, sym, ◌∙◌, subst}
use Rattle.std.proofs.lemmas.Option.{slice_get_read, slice_get-map}
use Rattle.std.proofs.lemmas.Bool.{eqb-true}
use Rattle.std.specs.Option.{option_map}
use Rattle.cops_types.specs.declared.entry.StoredOp.TheVariants.{Put}
use Rattle.cops_types.specs.declared.slot.KeptPut.{KeptPut}
use Rattle.cops_types.proofs.Showing.{put_at}
use Rattle.cops_types.proofs.entries.Entries.source.Goals as goal

pub returns-then-has_content-clause-put : goal.returns-then-has_content-clause-put
returns-then-has_content-clause-put c =
    let puts = c.self.inside.puts.items in
    let put = c.in_ok-put.put.now in
    let inside : c.args.number < length puts = subst (λ (l : List KeptPut). c.args.number < length l) c.deref.ensures.value c.in_ok-put.ensures.lookup.3.0 in
    let is : put ≡ get_or puts c.args.number put = subst (λ (l : List KeptPut). put ≡ get_or l c.args.number put) c.deref.ensures.value c.in_ok-put.ensures.lookup.1 in
    let at = slice_get_read puts (length puts) c.args.number put refl inside is in
    let key : put.key ≡ c.args.got.now.key = c.if-put-got.true in
    let version : put.version ≡ c.args.got.now.version = eqb-true put.version c.args.got.now.version (sym c.if-eq.ensures) in
    let value : content_of put.has_value put.value ≡ option_copied c.args.got.now.value = c.if-has_content.ensures.0 refl in
    let same : Some (Put put.key (content_of put.has_value put.value) put.version) ≡ Some (Put c.args.got.now.key (option_copied c.args.got.now.value) c.args.got.now.version) = cc in
    rw (← c.self.view_is) (put_at puts c.self.inside.gets.items c.self.inside.slots.all c.self.invariant c.args.number put at ∙ same)

pub returns-then-has_content-clause-number : goal.returns-then-has_content-clause-number
returns-then-has_content-clause-number c =
    let puts = c.self.inside.puts.items in
    let put = c.in_ok-put.put.now in
    let inside : c.args.number < length puts = subst (λ (l : List KeptPut). c.args.number < length l) c.deref.ensures.value c.in_ok-put.ensures.lookup.3.0 in
    let is : put ≡ get_or puts c.args.number put = subst (λ (l : List KeptPut). put ≡ get_or l c.args.number put) c.deref.ensures.value c.in_ok-put.ensures.lookup.1 in
    let at = slice_get_read puts (length puts) c.args.number put refl inside is in
    rw (← c.self.view_is) (slice_get-map (λ (p : KeptPut). p.name) puts c.args.number ∙ ap (option_map (λ (p : KeptPut). p.name)) at)
