use Rattle.std.proofs.Common.{ap, arith}
use Rattle.std.specs.Prelude.{Some}
use Rattle.cops_scenario.proofs.Forms.{part_at}
use Rattle.cops_scenario.proofs.event.mark.Goals as goal

pub returns-in_err-dc-in-len3-clause-none : goal.returns-in_err-dc-in-len3-clause-none
returns-in_err-dc-in-len3-clause-none c = λ err dc version dep small is_version few e. c.in_err-dc-in-len3.ensures.none dc (omega arith) small (ap Some (part_at c.args.parts.now 0 c.d-item.result _ (omega arith) c.d-item.is e))

pub returns-in_err-version-in-len3-clause-none : goal.returns-in_err-version-in-len3-clause-none
returns-in_err-version-in-len3-clause-none c = λ err dc version dep small is_version few e. c.in_err-version-in-len3.ensures.none version is_version (part_at c.args.parts.now 1 c.v-item.result _ (omega arith) c.v-item.is e)

pub returns-in_err-number-in-len3-clause-none : goal.returns-in_err-number-in-len3-clause-none
returns-in_err-number-in-len3-clause-none c = λ err dc version dep small is_version few e. c.in_err-number-in-len3.ensures.none dep (omega arith) (omega (arith, few, c.from.ensures)) (ap Some (part_at c.args.parts.now 2 c.n-item.result _ (omega arith) c.n-item.is e))
