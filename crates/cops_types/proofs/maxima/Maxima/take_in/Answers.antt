use Rattle.std.proofs.Common.{◌≡◌, ℕ, List, [], Option, max, refl, sym, ap, ◌∙◌, inl, inr, arith, slice_index_or, slice_set}
use Rattle.std.proofs.lemmas.List.{get_or_read}
use Rattle.std.specs.Prelude.{◌⊎◌}
use Rattle.cops_types.specs.Histories.{read}
use Rattle.cops_types.specs.declared.entry.StoredOp.{StoredOp}
use Rattle.cops_types.specs.declared.entry.StoredOp.TheVariants.{Put, Got, Sourced}
use Rattle.cops_types.specs.declared.entry.NumberedPut.{NumberedPut}
use Rattle.cops_types.specs.Entries.{EntryLists, reported, value_put}
use Rattle.cops_types.proofs.Climbing.{took_got, took_high, took_low, took_missed}
use Rattle.cops_types.proofs.maxima.Maxima.take_in.Goals as goal

pub returns-in-Put : goal.returns-in-Put
returns-in-Put c = λ keys all h op is was. took_low h c.args.client op (omega (arith, c.requires.maximum, was.clients)) c.args.self.now _ was c.in-Put.version _ _ (sym is ∙ ap (reported keys all) c.in-Put.is)
    (omega (arith, c.as_u64.ensures.version.0, c.as_u64.ensures.number)) (omega (arith, c.if-as_u64-maximum.true, c.as_u64.ensures.number, get_or_read c.args.self.now.sessions.items c.args.client _ c.requires.maximum c.index-maximum.ensures 0)) refl refl refl

pub returns-in-Put-2 : goal.returns-in-Put-2
returns-in-Put-2 c = λ keys all h op is was.
    let same_version : c.in-Put.version ≡ c.in-Put-2.version = (let s : Put c.in-Put.key c.in-Put.value c.in-Put.version ≡ Put c.in-Put-2.key c.in-Put-2.value c.in-Put-2.version = sym c.in-Put.is ∙ c.in-Put-2.is in cc) in
    took_high h c.args.client op (omega (arith, c.requires.maximum, was.clients)) c.args.self.now _ was c.in-Put-2.version _ _ (sym is ∙ ap (reported keys all) c.in-Put-2.is)
    (omega (arith, c.if-as_u64-maximum.false, c.as_u64.ensures.number, same_version, get_or_read c.args.self.now.sessions.items c.args.client _ c.requires.maximum c.index-maximum.ensures 0)) (ap (slice_set c.args.self.now.sessions.items c.args.client) c.as_u64-in-Put-2.ensures.number) refl refl

pub returns-in-Missed : goal.returns-in-Missed
returns-in-Missed c = λ keys all h op is was. took_missed h c.args.client op (omega (arith, c.requires.maximum, was.clients)) c.args.self.now _ was _ (sym is ∙ ap (reported keys all) c.in-Missed.is) refl refl refl

-- an entry of a get stands for a get, whether it names its put or not
as_got : (keys : List (List ℕ)) (all : EntryLists) (e : StoredOp) (v : ℕ) → ((k : ℕ) × (x : Option (List ℕ)) × (e ≡ Got k x v)) ⊎ ((k : ℕ) × (put : NumberedPut) × (e ≡ Sourced k put v))
    → (key : List ℕ) × (content : Option (List ℕ)) × (reported keys all e ≡ read key content v)
as_got keys all e v (inl g) = (slice_index_or keys g.0 [], g.1, ap (reported keys all) g.2)
as_got keys all e v (inr g) = (slice_index_or keys g.0 [], value_put all g.1.name, ap (reported keys all) g.2)

pub returns-in-Got : goal.returns-in-Got
returns-in-Got c = λ keys all h op is was.
    let got = as_got keys all c.args.entry.now c.in-Got.version c.in-Got.is in
    took_got h c.args.client op (omega (arith, c.requires.maximum, was.clients)) c.args.self.now _ was c.in-Got.version got.0 got.1 (sym is ∙ got.2)
    (ap (slice_set c.args.self.now.sessions.items c.args.client) (let e : c.max.result ≡ max (slice_index_or c.args.self.now.sessions.items c.args.client 0) c.in-Got.version = omega (arith, c.max.ensures, get_or_read c.args.self.now.sessions.items c.args.client _ c.requires.maximum c.index-maximum.ensures 0, c.as_u64-in-Got.ensures.number) in e)) refl refl
