use Rattle.std.proofs.Common.{ℕ, ◌+◌, List, length, refl, subst}
use Rattle.std.specs.List.Sorted.{IsPermutation}
use Rattle.cops_cluster.specs.Close.{made_in, reported}
use Rattle.cops_cluster.specs.declared.share.Share.{Share}
use Rattle.cops_serve.specs.Serving.{reported_to}
use Rattle.cops_serve.proofs.Seats.{all_of}
use Rattle.cops_serve.proofs.front_end.FrontEnd.finish.Goals as goal

pub returns : goal.returns
returns c =
    let books = c.in_ok-closed.closed.books.items in
    let same : IsPermutation (made_in (length c.args.scenario.now.place.splits + 1) 0 books) (reported_to c.args.self) =
    subst (λ (n : ℕ). IsPermutation (made_in (n + 1) 0 books) (reported_to c.args.self)) (c.if-not-is_of.ensures.0 refl).1
    (subst (λ (shares : List Share). IsPermutation (made_in (length c.args.self.cluster.place.splits + 1) 0 books) (reported shares)) c.in-Ok.ensures c.in_ok-closed.ensures.reported) in
    record { books = books; same = same; report = c.in_ok-report.ensures }

pub closed-requires : goal.closed-requires
closed-requires c = record { all = all_of _ _ c.args.self.clients.items c.args.self.receivers.items c.in-Ok.shares.items c.args.self.seated c.in-Ok.ensures }
