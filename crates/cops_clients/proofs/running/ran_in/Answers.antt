use Rattle.cops_clients.proofs.Seats.{all_driven}
use Rattle.cops_clients.proofs.running.ran_in.Goals as goal

pub ended-requires-clause-all : goal.ended-requires-clause-all
ended-requires-clause-all g c κs within =
    all_driven c.args.setting.now c.in-Ok.opening.tasks.items c.in-Ok.opening.replicas.receivers.items c.in-Ok.opening.state.cluster c.drive-driven.result c.in-Ok.ensures.tasks c.in-Ok.ensures.receivers c.in-Ok.ensures.place c.in-Ok.ensures.clients
    c.drive-driven.ensures.shares
