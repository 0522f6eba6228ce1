use Rattle.cops_clients.proofs.Seats.{all_driven}
use Rattle.cops_clients.proofs.live.driven.Goals as goal

pub ended-ran-requires-clause-all : goal.ended-ran-requires-clause-all
ended-ran-requires-clause-all g c κs within =
    all_driven c.args.setting.now c.args.opening.tasks.items c.args.opening.replicas.receivers.items c.args.opening.state.cluster c.join-followed.result.1 c.requires.tasks c.requires.receivers c.requires.place c.requires.clients
    c.join-followed.ensures.second.0
