-- The clients and the shares of a new cluster.
use Rattle.std.specs.Prelude.{All, ◌≡◌, ℕ, ◌<◌, List, [], length, slice_index_or}
use Rattle.cops_types.specs.declared.format.Format.{Format}
use Rattle.cops_cluster.specs.declared.client.Client.{Client}
use Rattle.cops_cluster.specs.declared.share.Share.{Share}
use Rattle.cops_cluster.specs.declared.share.Holder.TheVariants.{Client as OfClient, Receiver as OfReceiver}

-- the first `count` clients, each with its number and its data centre, whose contexts and shares are empty
abbrev pub AreClientsAt : List ℕ → ℕ → List Client → Type 0
AreClientsAt dcs count clients =
    (length clients ≡ count)
    × ((k : ℕ) (d : Client) → k < count → (slice_index_or clients k d).number ≡ k)
    × ((k : ℕ) (d : Client) → k < count → (slice_index_or clients k d).dc ≡ slice_index_or dcs k 0)
    × ((k : ℕ) (d : Client) → k < count → (slice_index_or clients k d).context.pairs ≡ [])
    × ((k : ℕ) (d : Client) → k < count → (slice_index_or clients k d).share.holder ≡ OfClient k)
    × ((k : ℕ) (d : Client) → k < count → (slice_index_or clients k d).share.entries.items ≡ [])

-- the context of each client has this format
abbrev pub AreOfFormat : Format → List Client → Type 0
AreOfFormat format clients = All (λ c. c.context.format ≡ format) clients

-- an empty share for the receiver of each of the first `count` data centres
abbrev pub AreReceivers : ℕ → List Share → Type 0
AreReceivers count shares =
    (length shares ≡ count)
    × ((k : ℕ) (d : Share) → k < count → (slice_index_or shares k d).holder ≡ OfReceiver k)
    × ((k : ℕ) (d : Share) → k < count → (slice_index_or shares k d).entries.items ≡ [])
