-- The holders of the shares that the threads return.
use Rattle.std.proofs.Common.{◌≡◌, ℕ, suc, ◌<◌, Result, Ok, Err, slice_index_or, List, [], ◌∷◌, ◌++◌, All, length, map, ap, refl, sym, subst, ◌∙◌, arith}
use Rattle.std.specs.Prelude.{IfOk}
use Rattle.std.proofs.lemmas.List.Elements.{All-cons}
use Rattle.cops_cluster.specs.Close.{AreAll, holders}
use Rattle.cops_core.specs.World.{Setting, IsSetting}
use Rattle.cops_cluster.specs.Opening.{AreClientsAt, AreReceivers}
use Rattle.cops_cluster.specs.declared.client.Client.{Client}
use Rattle.cops_cluster.specs.declared.cluster.Cluster.{Cluster}
use Rattle.cops_cluster.specs.declared.share.Holder.{Holder}
use Rattle.cops_cluster.specs.declared.share.Holder.TheVariants.{Client as OfClient, Receiver as OfReceiver}
use Rattle.cops_cluster.specs.declared.share.Share.{Share}
use Rattle.cops_replication.specs.Wiring.{numbers, AreReceivers as AreWired}
use Rattle.cops_replication.specs.declared.receiver.Receiver.{Receiver}
use Rattle.cops_replication.proofs.Seats.{all_seated, map_twice, numbered_from, placed_from}
use Rattle.cops_clients.specs.declared.clients.ClientTask.{ClientTask}
use Rattle.cops_clients.specs.declared.fault.ThreadFault.{ThreadFault}
use Rattle.cops_clients.specs.declared.gathering.Gathered.{Gathered}
use Rattle.cops_clients.specs.Callers.{AreTasksOf, AreReceiversOf, IsClientOf, callers}

-- the share of each client and of each receiver is there
pub all_there : (clients dcs : ℕ) (tasks : List ClientTask) (receivers : List Receiver) (shares : List Share)
    → map (λ (j : ClientTask). j.client.number) tasks ≡ numbers clients → map (λ (r : Receiver). r.dc) receivers ≡ numbers dcs
    → holders shares ≡ callers tasks receivers → AreAll clients dcs shares
all_there clients dcs tasks receivers shares numbered placed are =
    all_seated clients dcs shares
    (are ∙ ap (λ (l : List Holder). l ++ map (λ (r : Receiver). OfReceiver r.dc) receivers) (map_twice (λ (j : ClientTask). j.client.number) OfClient tasks ∙ ap (map OfClient) numbered)
    ∙ ap (λ (l : List Holder). map OfClient (numbers clients) ++ l) (map_twice (λ (r : Receiver). r.dc) OfReceiver receivers ∙ ap (map OfReceiver) placed))

-- it is so when the threads have returned shares
pub all_driven : (s : Setting) (tasks : List ClientTask) (receivers : List Receiver) (c : Cluster) (r : Result Gathered ThreadFault) → AreTasksOf s tasks → AreReceiversOf s receivers
    → c.place ≡ s.place → c.clients ≡ length s.homes → IfOk r (λ g. holders g.shares.items ≡ callers tasks receivers) → IfOk r (λ g. AreAll c.clients c.place.dcs g.shares.items)
all_driven s tasks receivers c (Ok g) numbered placed place clients are =
    let all = all_there (length s.homes) s.place.dcs tasks receivers g.shares.items numbered.0 placed.0 are in
    subst (λ (n : ℕ). AreAll n c.place.dcs g.shares.items) (sym clients) (subst (λ (p : _). AreAll (length s.homes) p.dcs g.shares.items) (sym place) all)
all_driven s tasks receivers c (Err e) numbered placed place clients are = tt

-- a property of each client is a property of each task
of_tasks : (P : Client → Type 0) (tasks : List ClientTask) → All P (map (λ (j : ClientTask). j.client) tasks) → All (λ (j : ClientTask). P j.client) tasks
of_tasks P [] all = λ k d less. absurd (omega (arith, less))
of_tasks P (j ∷ js) all = All-cons (λ (j : ClientTask). P j.client) j js (all 0 j.client (omega arith)) (of_tasks P js (λ k d less. all (suc k) d (omega (arith, less))))

numbers_of_tasks : (tasks : List ClientTask) → map (λ (j : ClientTask). j.client.number) tasks ≡ map (λ (c : Client). c.number) (map (λ (j : ClientTask). j.client) tasks)
numbers_of_tasks [] = refl
numbers_of_tasks (j ∷ js) = ap (λ (l : List ℕ). j.client.number ∷ l) (numbers_of_tasks js)

-- the tasks of the clients that a cluster was opened with
pub tasks_of : (s : Setting) (clients : List Client) (tasks : List ClientTask) → IsSetting s → AreClientsAt s.homes (length s.homes) clients → map (λ (j : ClientTask). j.client) tasks ≡ clients → AreTasksOf s tasks
tasks_of s clients tasks setting (len, numbered, homes, contexts, held, entries) are =
    let each : All (IsClientOf s) clients = λ k d less.
    let within : k < length s.homes = omega (arith, less, len) in
    let number : (slice_index_or clients k d).number ≡ k = numbered k d within in
    let home_is : (slice_index_or clients k d).dc ≡ slice_index_or s.homes k 0 = homes k d within in (
      omega (arith, number, within),
      home_is ∙ ap (λ (n : ℕ). slice_index_or s.homes n 0) (sym number),
      subst (λ (n : ℕ). n < s.place.dcs) (sym home_is) (setting.homes k 0 within),
      held k d within ∙ ap OfClient (sym number),
    ) in
    let all : All (IsClientOf s) (map (λ (j : ClientTask). j.client) tasks) = subst (λ (l : List Client). All (IsClientOf s) l) (sym are) each in (
      numbers_of_tasks tasks ∙ ap (map (λ (c : Client). c.number)) are ∙ numbered_from (λ (c : Client). c.number) clients 0 (length s.homes) len (λ k d less. numbered k d less ∙ omega arith),
      of_tasks (IsClientOf s) tasks all,
    )

-- the receivers that were made with the cluster's shares
pub receivers_of : (s : Setting) (shares : List Share) (receivers : List Receiver) → AreReceivers s.place.dcs shares → AreWired s.place.dcs shares receivers → AreReceiversOf s receivers
receivers_of s shares receivers (len, held, entries) (dcs, are, fresh) =
    (dcs, placed_from receivers shares 0 s.place.dcs dcs are (λ k d less. held k d less ∙ ap OfReceiver (omega arith)))
