-- The records of puts of unknown outcome that took effect, and the end of the trace.
use Rattle.std.proofs.Common.{◌≡◌, ◌==◌, ◌+◌, ◌<◌, ◌≤◌, ℕ, Bool, false, cond, List, [], ◌∷◌, ◌++◌, length, refl, sym, ap, subst, ◌∙◌, append_assoc, arith}
use Rattle.std.specs.Prelude.{Option}
use Rattle.std.proofs.lemmas.Bool.{ne_eqb}
use Rattle.std.proofs.lemmas.List.{append-nil, length-append, length-map}
use Rattle.cops_types.specs.Histories.{Operation, write}
use Rattle.cops_types.specs.declared.counted.Counted.{Counted}
use Rattle.cops_types.specs.declared.format.Format.{Format}
use Rattle.cops_types.specs.declared.limits.TheConstants.{MAX_CLIENTS, MAX_OPS}
use Rattle.cops_trace.specs.Counts.{HasTurn}
use Rattle.cops_trace.specs.Kept.{grown}
use Rattle.cops_trace.specs.Text.{ARecord, ATrace, IsTrace, turn}
use Rattle.cops_trace.proofs.Lists.{turn-append, turn-cons}
use Rattle.cops_import.specs.Faults.{IsOneTooMany}
use Rattle.cops_import.specs.Lines.{AReturned, names_of, own_records, record_of, records_of, trace_with}
use Rattle.cops_import.specs.Underway.{HasOwn, HasWritten, known_to, trace_to}
use Rattle.cops_import.specs.declared.ending.Ending.{Ending}
use Rattle.cops_import.specs.declared.fault.JsonLineFault.TheVariants.{TooManyClients, TooManyOperations}
use Rattle.cops_import.specs.declared.reported.LineOp.{LineOp}
use Rattle.cops_import.proofs.Numbering.{no_name_turn}

-- the record of a put that took effect, of a client with this number
abbrev pub own_record : ℕ → AReturned → ARecord
own_record client r = record { client = client; op = write r.put.write.key r.put.write.content r.version }

own-more : (first client : ℕ) (rs : List AReturned) (r : AReturned) → client ≡ first + length rs → own_records first (rs ++ r ∷ []) ≡ own_records first rs ++ own_record client r ∷ []
own-more first client [] r at = ap (λ (n : ℕ). own_record n r ∷ []) (omega (arith, at))
own-more first client (q ∷ rs) r at = ap (λ (l : List ARecord). own_record first q ∷ l) (own-more (first + 1) client rs r (omega (arith, at)))

length-own : (first : ℕ) (rs : List AReturned) → length (own_records first rs) ≡ length rs
length-own first [] = refl
length-own first (r ∷ rs) = omega (arith, length-own (first + 1) rs)

-- the next client has no record yet
own_turn : (first client : ℕ) (rs : List AReturned) → first + length rs ≤ client → turn client (own_records first rs) ≡ 0
own_turn first client [] h = refl
own_turn first client (r ∷ rs) h =
    let other : (first == client) ≡ false = ne_eqb first client (omega (arith, h)) in
    let none : cond {A = ℕ} (first == client) 1 0 ≡ 0 = ap (λ (b : Bool). cond {A = ℕ} b 1 0) other in
    omega (arith, turn-cons client (own_record first r) (own_records (first + 1) rs), none, own_turn (first + 1) client rs (omega (arith, h)))

next_turn : (format : Format) (clients client : ℕ) (ops : List LineOp) (rs : List AReturned) → length (names_of ops) + length rs ≤ client → turn client (trace_to format clients ops rs).records ≡ 0
next_turn format clients client ops rs h =
    omega (arith, turn-append client (records_of ops) (own_records (length (names_of ops)) rs), no_name_turn ops client (omega (arith, h)), own_turn (length (names_of ops)) client rs h)

length-records : (format : Format) (clients : ℕ) (ops : List LineOp) (rs : List AReturned) → length (trace_to format clients ops rs).records ≡ length ops + length rs
length-records format clients ops rs =
    omega (arith, length-append (records_of ops) (own_records (length (names_of ops)) rs), length-map ops (record_of (names_of ops)), length-own (length (names_of ops)) rs)

module _ {W : Type 0} (contents : W → Option (List ℕ)) (from : Counted W) where
  pub own_none : (ops : List LineOp) (e : Ending W) (format : Format) → format ≡ e.writer.counts.format → HasWritten contents from (known_to format e.clients ops) e.writer → e.client ≡ length (names_of ops)
      → length (names_of ops) ≤ e.clients → HasOwn contents from ops [] e
  own_none ops e format is wrote next few =
      let same : known_to format e.clients ops ≡ trace_to e.writer.counts.format e.clients ops [] =
      ap (λ (f : Format). known_to f e.clients ops) is
      ∙ ap (λ (rs : List ARecord). record { format = e.writer.counts.format; clients = e.clients; records = rs }) (sym (append-nil (records_of ops))) in
      record { next = omega (arith, next); few = omega (arith, next, few); wrote = subst (λ (t : ATrace). HasWritten contents from t e.writer) same wrote }

  pub own_more : (ops : List LineOp) (rs : List AReturned) (r : AReturned) (old new : Ending W) (client : ℕ) (op : Operation) → HasOwn contents from ops rs old → op ≡ write r.put.write.key r.put.write.content r.version
      → client ≡ old.client → client < old.clients → new.client ≡ old.client + 1 → new.clients ≡ old.clients → new.writer.counts.format ≡ old.writer.counts.format
      → HasWritten contents from (grown (trace_to old.writer.counts.format old.clients ops rs) (record { client = client; op = op })) new.writer → HasOwn contents from ops (rs ++ r ∷ []) new
  own_more ops rs r old new client op h is here inside next clients format wrote =
      let first = length (names_of ops) in
      let written : ARecord = record { client = client; op = op } in
      let one : written ≡ own_record client r = ap (λ (o : Operation). record { client = client; op = o }) is in
      let more : own_records first (rs ++ r ∷ []) ≡ own_records first rs ++ own_record client r ∷ [] = own-more first client rs r (omega (arith, here, h.next)) in
      let same : grown (trace_to old.writer.counts.format old.clients ops rs) (record { client = client; op = op }) ≡ trace_to new.writer.counts.format new.clients ops (rs ++ r ∷ []) =
      ap (λ (q : ARecord). record { format = old.writer.counts.format; clients = old.clients; records = (records_of ops ++ own_records first rs) ++ q ∷ [] }) one
      ∙ ap (λ (l : List ARecord). record { format = old.writer.counts.format; clients = old.clients; records = l })
      (append_assoc (records_of ops) (own_records first rs) (own_record client r ∷ []) ∙ ap (λ (l : List ARecord). records_of ops ++ l) (sym more))
      ∙ ap (λ (k : ℕ). trace_to old.writer.counts.format k ops (rs ++ r ∷ [])) (sym clients)
      ∙ ap (λ (f : Format). trace_to f new.clients ops (rs ++ r ∷ [])) (sym format) in
      record {
        next = omega (arith, next, h.next, length-append rs (r ∷ []));
        few = omega (arith, next, here, inside, clients);
        wrote = subst (λ (t : ATrace). HasWritten contents from t new.writer) same wrote;
      }

  -- there is no room for a client more
  pub no_client : (ops : List LineOp) (rs : List AReturned) (e : Ending W) → HasOwn contents from ops rs e → MAX_CLIENTS ≤ e.client → e.clients ≤ MAX_CLIENTS → IsOneTooMany ops rs TooManyClients
  no_client ops rs e h many few = omega (arith, h.next, h.few, many, few)

  -- there is no room for an operation more
  pub no_operation : (ops : List LineOp) (rs : List AReturned) (e : Ending W) (client : ℕ) → HasOwn contents from ops rs e → client ≡ e.client → client < e.clients → client < MAX_CLIENTS → (HasTurn e.writer.counts client → ⊥)
      → IsOneTooMany ops rs TooManyOperations
  no_operation ops rs e client h here inside few full =
      let c = e.writer.counts in
      let t = trace_to c.format e.clients ops rs in
      let counts = h.wrote.counts in
      let none : turn client t.records ≡ 0 = next_turn c.format e.clients client ops rs (omega (arith, here, h.next)) in
      let no : c.total < MAX_OPS → ⊥ = λ room. full (omega (arith, counts.clients, inside), omega (arith, counts.next client, none), room) in
      (omega (arith, here, h.next, few), omega (arith, no, counts.total, h.wrote.is_trace.all, length-records c.format e.clients ops rs))

  -- the end record was written
  pub all_written : (ops : List LineOp) (rs : List AReturned) (e : Ending W) → HasOwn contents from ops rs e → e.client ≡ e.clients
      → IsTrace (trace_with e.writer.counts.format ops rs) × (trace_to e.writer.counts.format e.clients ops rs ≡ trace_with e.writer.counts.format ops rs)
  all_written ops rs e h is =
      let same : trace_to e.writer.counts.format e.clients ops rs ≡ trace_with e.writer.counts.format ops rs =
      ap (λ (k : ℕ). trace_to e.writer.counts.format k ops rs) (sym is ∙ h.next) in
      (subst IsTrace same h.wrote.is_trace, same)

  -- all records together are within the limit
  pub few_records : (ops : List LineOp) (rs : List AReturned) (e : Ending W) → HasOwn contents from ops rs e → length ops + length rs ≤ MAX_OPS
  few_records ops rs e h = omega (arith, h.wrote.is_trace.all, length-records e.writer.counts.format e.clients ops rs)
