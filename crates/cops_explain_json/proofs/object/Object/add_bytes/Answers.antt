use Rattle.cops_explain_json.proofs.ByteMembers.{bytes_in_hex, bytes_in_text}
use Rattle.cops_explain_json.proofs.object.Object.add_bytes.Goals as goal

pub returns-in-Ok : goal.returns-in-Ok
returns-in-Ok c =
    rw (bytes_in_text c.args.name.now c.args.hex_name.now c.args.bytes.now c.in-Ok.ensures.cases.1)
    (rw c.in-Ok.ensures.cases.0 at c.add_text.ensures)

pub returns-in_ok-digits-in-Err : goal.returns-in_ok-digits-in-Err
returns-in_ok-digits-in-Err c =
    rw (bytes_in_hex c.args.name.now c.args.hex_name.now c.args.bytes.now c.in-Err.ensures.cases.0)
    (rw (c.as_str.ensures.value, c.in_ok-digits-in-Err.ensures) at c.add_text-in-Err.ensures)
