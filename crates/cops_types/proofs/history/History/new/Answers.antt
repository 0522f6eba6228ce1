use Rattle.std.proofs.Common.{◌≤◌, Bool, List, map, replicate, false, ap, ◌∙◌, subst, sym, arith, ◌≡◌}
use Rattle.cops_types.specs.Entries.{EntryLists, reported}
use Rattle.cops_types.specs.Keeping.{IsKept}
use Rattle.cops_types.proofs.Holding.{new_kept}
use Rattle.cops_types.proofs.Showing.{map-none}
use Rattle.cops_types.proofs.history.History.new.Goals as goal

pub invariant_of-result : goal.invariant_of-result
invariant_of-result c =
    let few : c.args.clients ≤ 65535 = omega (arith, c.ranges.clients.fits) in
    let flags : c.in_ok-reserved.reserved.items ≡ replicate c.args.clients false = c.in_ok-reserved.ensures.items_if_clones_equal (λ y h. h) in
    subst (λ (reserved : List Bool). IsKept c.new-3.result c.in_ok-entries.entries c.in_ok-maxima.maxima reserved 0 0) (sym flags) (new_kept c.new-3.result c.in_ok-entries.entries c.in_ok-maxima.maxima c.args.clients few c.new-3.ensures c.in_ok-entries.ensures.entries c.in_ok-entries.ensures.names c.in_ok-entries.ensures.gets c.in_ok-maxima.ensures)

pub returns : goal.returns
returns c =
    ap (λ (all : EntryLists). map (map (reported c.new-3.result.keys c.in_ok-entries.entries.all)) all) c.in_ok-entries.ensures.entries
    ∙ map-none (reported c.new-3.result.keys c.in_ok-entries.entries.all) c.args.clients
