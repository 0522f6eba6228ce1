use Rattle.std.proofs.Common.{refl}
use Rattle.cops_trace.proofs.converting.write_counted.Goals as goal

pub returns-in-Err-WriteFailed-clause-left : goal.returns-in-Err-WriteFailed-clause-left
returns-in-Err-WriteFailed-clause-left g c =
    let cut = rw c.in-Err-WriteFailed.field-0-is at c.in-Err-WriteFailed.ensures.cut in
    cut c.in-Err-WriteFailed.written refl
