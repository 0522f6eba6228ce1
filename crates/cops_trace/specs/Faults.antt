-- The offset of a trace's fault.
use Rattle.std.specs.Prelude.{ℕ, Option, Some, None}
use Rattle.cops_trace.specs.declared.fault.TraceFault.{TraceFault}
use Rattle.cops_trace.specs.declared.fault.TraceFault.TheVariants.{Memory, NoHead, BadFormat, ClientOutOfRange, IndexOutOfTurn, BadCount, BytesAfterEnd, Cut, Frame, ReadFailed, TooLong, NotARecord}

-- the offset of a fault; `Memory` and `ReadFailed` have none
abbrev pub offset_of : TraceFault → Option ℕ
offset_of Memory = None
offset_of ReadFailed = None
offset_of (NoHead offset) = Some offset
offset_of (BadFormat offset) = Some offset
offset_of (ClientOutOfRange offset) = Some offset
offset_of (IndexOutOfTurn offset) = Some offset
offset_of (BadCount offset) = Some offset
offset_of (BytesAfterEnd offset) = Some offset
offset_of (Cut offset) = Some offset
offset_of (Frame e offset) = Some offset
offset_of (TooLong offset) = Some offset
offset_of (NotARecord offset) = Some offset
