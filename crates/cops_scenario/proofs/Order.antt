-- The fields before the last two.
use Rattle.std.proofs.Common.{◌≡◌, [], subst}
use Rattle.std.proofs.lemmas.List.Elements.{All-cons, All-nil}
use Rattle.serde_json.specs.Data.{Data}
use Rattle.cops_scenario.specs.declared.fault.Field.{Field}
use Rattle.cops_scenario.specs.declared.fault.Field.TheVariants.{Root, Format as FormatField, DataCentres, Splits, Link, Turns, Retries, Repeat, Hold, Clients, Events}
use Rattle.cops_scenario.specs.File.{AreRightBefore, IsRight, before}

pub before_clients : (root : Data) → IsRight root Root → IsRight root FormatField → IsRight root DataCentres → IsRight root Splits → IsRight root Link → IsRight root Turns → IsRight root Retries → IsRight root Repeat → IsRight root Hold → AreRightBefore root Clients
before_clients root whole format dcs splits link turns retries repeat hold =
    let R = IsRight root in
    let before_link = All-cons R Splits (before Splits) splits (All-cons R DataCentres (before DataCentres) dcs (All-cons R FormatField (before FormatField) format (All-cons R Root [] whole (All-nil R)))) in
    let before_repeat = All-cons R Retries (before Retries) retries (All-cons R Turns (before Turns) turns (All-cons R Link (before Link) link before_link)) in
    All-cons R Hold (before Hold) hold (All-cons R Repeat (before Repeat) repeat before_repeat)

pub before_events : (root : Data) (field : Field) → Events ≡ field → AreRightBefore root Clients → IsRight root Clients → AreRightBefore root field
before_events root field e h right = subst (AreRightBefore root) e (All-cons (IsRight root) Clients (before Clients) right h)
