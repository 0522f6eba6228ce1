use Rattle.std.proofs.Common.{◌≡◌, ℕ, ◌+◌, max, min, [], ◌∷◌, ◌++◌, take, ap, sym, ◌∙◌, arith}
use Rattle.std.proofs.lemmas.List.{take_more}
use Rattle.cops_clients.specs.Live.{above_entries}
use Rattle.cops_clients.proofs.Tickets.{above_push}
use Rattle.cops_clients.proofs.live.above_entries.Goals as goal

pub loop-entry-preserved : goal.loop-entry-preserved
loop-entry-preserved c =
    let entries = c.args.entries.now in
    let at = c.loop-entry.entry-index in
    let x = c.entry-item.result in
    let more : take (at + 1) entries ≡ take at entries ++ x ∷ [] =
    take_more entries at x (omega (arith, c.loop-entry-test.true, c.loop-entry.auto.entry-index-end)) ∙ ap (λ e. take at entries ++ e ∷ []) (sym c.entry-item.is) in
    let both : c.max-above.result ≡ max c.loop-entry.above (min (x.ticket + 1) 18446744073709551615) = omega (arith, c.max-above.ensures, c.saturating_add.ensures) in
    both ∙ ap (λ (n : ℕ). max n (min (x.ticket + 1) 18446744073709551615)) c.loop-entry.invariant ∙ sym (ap (above_entries c.args.ticket) more ∙ above_push c.args.ticket (take at entries) x)
