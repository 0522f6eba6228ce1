use Rattle.std.proofs.Common.{arith}
use Rattle.cops_audit.proofs.room.Scratch.assess_gets.Goals as goal

pub returns-clause-fits : goal.returns-clause-fits
returns-clause-fits c = record {
  ready = c.in_ok-so_far.ensures.ready;
  sessions = omega (arith, c.requires.fits.sessions, c.fill.ensures.session_room);
  summaries = omega (arith, c.requires.fits.summaries, c.in_ok-so_far.ensures.space, c.fill.ensures.summary_room);
}
