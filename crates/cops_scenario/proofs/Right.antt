-- The text of a scenario has no wrong field.
use Rattle.std.proofs.Common.{◌≡◌, ◌≤◌, ℕ, List, All, ap, ◌∙◌, arith, refl, subst, sym}
use Rattle.std.specs.Prelude.{Option, None, Some}
use Rattle.serde_json.specs.Data.{Data, null, boolean, number, string, array, object}
use Rattle.serde_json.specs.Find.{get, as_object}
use Rattle.std.specs.Prelude.{unwrap_or}
use Rattle.cops_types.specs.declared.format.Format.{Format}
use Rattle.cops_types.specs.declared.format.Format.TheVariants.{One, Two}
use Rattle.cops_types.specs.Format.{format_of_number, number_of}
use Rattle.cops_types.proofs.Formats.{number_again}
use Rattle.cops_types.specs.declared.limits.TheConstants.{MAX_DCS}
use Rattle.cops_scenario.specs.declared.fault.Field.{Field}
use Rattle.cops_scenario.specs.declared.fault.Field.TheVariants.{Root, Format as FormatField, DataCentres, Splits, Link, Turns, Retries, Repeat, Hold, Clients, Events}
use Rattle.cops_scenario.specs.declared.scenario.TheConstants.{DEFAULT_FORMAT, DEFAULT_HOLD, DEFAULT_LINK, DEFAULT_REPEAT, DEFAULT_RETRIES, DEFAULT_TURNS, MAX_FORMAT, MAX_HOLD, MAX_LINK, MAX_REPEAT, MAX_RETRIES, MAX_TURNS}
use Rattle.cops_scenario.specs.Scenario.{AScenario}
use Rattle.cops_scenario.specs.Fields.{format_at, name_of, number_or}
use Rattle.cops_scenario.specs.Limits.{AreLegalEvents, IsLegalClient, IsLegalScenario}
use Rattle.cops_scenario.specs.File.{IsNoNumberOf, IsNoText, GivesNumber, IsTextOf, IsWrong, IsWrongText, GivesScenario}

-- a value with a member is an object
no_member : (k : List ℕ) (root d : Data) → as_object root ≡ None → get k root ≡ Some d → ⊥
no_member k null d none e = cc
no_member k (boolean b) d none e = cc
no_member k (number n) d none e = cc
no_member k (string s) d none e = cc
no_member k (array ds) d none e = cc
no_member k (object ms) d none e = cc

-- a number within its range is not wrong
no_wrong : (missing : Option ℕ) (least most : ℕ) (d : Option Data) (n : ℕ) → GivesNumber missing d n → least ≤ n → n ≤ most → IsNoNumberOf missing least most d → ⊥
no_wrong None least most d n reported low high wrong = wrong n low high reported
no_wrong (Some m) least most None n reported low high wrong = wrong.0 refl
no_wrong (Some m) least most (Some d) n reported low high wrong = wrong.1 n low high (ap (λ (x : Data). Some x) reported)

-- the range of the formats' numbers
number_in_range : (format : Format) → (1 ≤ number_of format) × (number_of format ≤ 2)
number_in_range One = (omega arith, omega arith)
number_in_range Two = (omega arith, omega arith)

number_reported : (d : Option Data) (n : ℕ) → GivesNumber (Some DEFAULT_FORMAT) d n → number_or DEFAULT_FORMAT d ≡ n
number_reported None n reported = sym reported
number_reported (Some d) n reported = ap (λ x. number_or DEFAULT_FORMAT (Some x)) reported

-- the format of the file is the scenario's
format_reported : (root : Data) (s : AScenario) → GivesScenario root s → format_at root ≡ s.format
format_reported root s reported =
    ap (λ n. unwrap_or (format_of_number n) One) (number_reported (get (name_of FormatField) root) (number_of s.format) reported.numbers.0)
    ∙ ap (λ o. unwrap_or o One) (number_again s.format)

never_wrong : (root : Data) (s : AScenario) (field : Field) → GivesScenario root s → IsLegalScenario s
    → IsWrong root field → ⊥
never_wrong root s Root reported legal wrong = no_member (name_of Clients) root _ wrong reported.clients.1
never_wrong root s FormatField reported legal wrong =
    let range = number_in_range s.format in
    no_wrong (Some DEFAULT_FORMAT) 1 MAX_FORMAT (get (name_of FormatField) root) (number_of s.format) reported.numbers.0 range.0 range.1 wrong
never_wrong root s DataCentres reported legal wrong =
    let range = legal.is_scenario.is_place.range in
    no_wrong None 1 MAX_DCS (get (name_of DataCentres) root) s.place.dcs reported.numbers.1 range.0 range.1 wrong
never_wrong root s Splits reported legal wrong = wrong s.place.splits legal.splits reported.splits
never_wrong root s Link reported legal wrong =
    let range = legal.is_scenario.link_in_range in
    no_wrong (Some DEFAULT_LINK) 1 MAX_LINK (get (name_of Link) root) s.link reported.numbers.2 range.0 range.1 wrong
never_wrong root s Turns reported legal wrong =
    let range = legal.is_scenario.turns_in_range in
    no_wrong (Some DEFAULT_TURNS) 1 MAX_TURNS (get (name_of Turns) root) s.turns reported.numbers.3 range.0 range.1 wrong
never_wrong root s Retries reported legal wrong =
    let low : 0 ≤ s.retries = omega arith in
    no_wrong (Some DEFAULT_RETRIES) 0 MAX_RETRIES (get (name_of Retries) root) s.retries reported.numbers.4 low legal.is_scenario.retries_in_range wrong
never_wrong root s Repeat reported legal wrong =
    let low : 0 ≤ s.repeat = omega arith in
    no_wrong (Some DEFAULT_REPEAT) 0 MAX_REPEAT (get (name_of Repeat) root) s.repeat reported.numbers.5 low legal.is_scenario.repeat_in_range wrong
never_wrong root s Hold reported legal wrong =
    let low : 0 ≤ s.hold = omega arith in
    no_wrong (Some DEFAULT_HOLD) 0 MAX_HOLD (get (name_of Hold) root) s.hold reported.numbers.6 low legal.is_scenario.hold_in_range wrong
never_wrong root s Clients reported legal wrong =
    let dcs = sym (ap (number_or 0) reported.numbers.1) in
    let format = sym (format_reported root s reported) in
    let each = subst (λ (f : Format). All (IsLegalClient f (number_or 0 (get (name_of DataCentres) root))) s.clients) format (subst (λ (n : ℕ). All (IsLegalClient s.format n) s.clients) dcs legal.clients) in
    wrong reported.clients.0 s.clients reported.clients.1 reported.clients.2 legal.is_scenario.few_clients each
never_wrong root s Events reported legal wrong =
    wrong reported.clients.0 s.events reported.clients.1 reported.events (subst (λ (f : Format). AreLegalEvents f s.events) (sym (format_reported root s reported)) legal.events) reported.clients.3

pub has_no_wrong : (bytes : List ℕ) (s : AScenario) (field : Field) → IsTextOf bytes s → IsWrongText bytes field → ⊥
has_no_wrong bytes s field is wrong =
    let same : wrong.0 ≡ is.0 = cc in
    never_wrong is.0 s field is.3 is.4 (subst (λ root. IsWrong root field) same wrong.3)

pub is_a_text : (bytes : List ℕ) (s : AScenario) → IsTextOf bytes s → IsNoText bytes → ⊥
is_a_text bytes s is none = let no = none is.1 in cc
