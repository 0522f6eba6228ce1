use Rattle.std.proofs.Common.{◌≡◌, option_copied, refl, sym, ap, ◌∙◌}
use Rattle.std.proofs.lemmas.Bool.{eqb-true}
use Rattle.cops_types.specs.Histories.{read, write}
use Rattle.cops_types.specs.OpRefs.{seen}
use Rattle.cops_types.proofs.op_ref.OpRef.is_source_of.Goals as goal

pub returns-then-is : goal.returns-then-is
returns-then-is c =
    let key : c.in-Put-Got.key.now ≡ c.in-Put-Got.got_key.now = c.if-is.ensures.0 refl in
    let version : c.in-Put-Got.version.now ≡ c.in-Put-Got.got_version.now = eqb-true c.in-Put-Got.version.now c.in-Put-Got.got_version.now (sym c.if-eq.ensures) in
    let put = ap seen c.in-Put-Got.is-0 in
    let got = ap seen c.in-Put-Got.is-1 in (
      (λ is.
          let value : option_copied c.in-Put-Got.value ≡ option_copied c.in-Put-Got.got_value = c.is_same_content.ensures.0 is in
          (c.in-Put-Got.key.now, option_copied c.in-Put-Got.value, c.in-Put-Got.version.now, put, got ∙ (λ j. read (sym key j) (sym value j) (sym version j)))),
      (λ s.
          let wrote : write c.in-Put-Got.key.now (option_copied c.in-Put-Got.value) c.in-Put-Got.version.now ≡ write s.0 s.1 s.2 = sym put ∙ s.3 in
          let returned : read c.in-Put-Got.got_key.now (option_copied c.in-Put-Got.got_value) c.in-Put-Got.got_version.now ≡ read s.0 s.1 s.2 = sym got ∙ s.4 in
          let same : option_copied c.in-Put-Got.value ≡ option_copied c.in-Put-Got.got_value = cc in c.is_same_content.ensures.1 same),
    )
