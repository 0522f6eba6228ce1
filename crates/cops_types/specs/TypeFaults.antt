use Rattle.cops_types.specs.declared.fault.TypeFault.{TypeFault}
use Rattle.cops_types.specs.declared.fault.TypeFault.TheVariants.{Memory, KeyEmpty, KeyTooLong, ValueTooLong, UnknownClient, TooManyOps}

-- the errors of making a key
abbrev pub IsKeyFault : TypeFault → Type 0
IsKeyFault Memory = Unit {0}
IsKeyFault KeyEmpty = Unit {0}
IsKeyFault KeyTooLong = Unit {0}
IsKeyFault _ = ⊥

-- the errors of making a value
abbrev pub IsValueFault : TypeFault → Type 0
IsValueFault Memory = Unit {0}
IsValueFault ValueTooLong = Unit {0}
IsValueFault _ = ⊥

-- the errors of a history
abbrev pub IsHistoryFault : TypeFault → Type 0
IsHistoryFault Memory = Unit {0}
IsHistoryFault UnknownClient = Unit {0}
IsHistoryFault TooManyOps = Unit {0}
IsHistoryFault _ = ⊥
