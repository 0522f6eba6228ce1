-- What shares gain, call by call.
use Rattle.std.proofs.Common.{◌≡◌, ℕ, [], ◌∷◌, ◌++◌, append_assoc, refl, sym, ap, ◌∙◌, inl, inr}
use Rattle.std.proofs.lemmas.List.{append-nil}
use Rattle.cops_node.specs.declared.event.NodeEvent.{NodeEvent}
use Rattle.cops_node.specs.declared.outcome.Outcome.{Outcome}
use Rattle.cops_node.specs.Book.{entry}
use Rattle.cops_cluster.specs.Shares.{AddsAtMostOne, AddsEntry, made}
use Rattle.cops_cluster.specs.declared.share.Share.{Share}
use Rattle.cops_replication.specs.Shares.{Gains}

pub gains_nothing : (a b : Share) → b.holder ≡ a.holder → b.entries.items ≡ a.entries.items → Gains a b
gains_nothing a b owner same = record { holder = owner; more = []; entries = same ∙ sym (append-nil a.entries.items) }

pub gains_refl : (a : Share) → Gains a a
gains_refl a = gains_nothing a a refl refl

pub gains_trans : (a b c : Share) → Gains a b → Gains b c → Gains a c
gains_trans a b c p q = record {
  holder = q.holder ∙ p.holder;
  more = p.more ++ q.more;
  entries = q.entries ∙ ap (λ l. l ++ q.more) p.entries ∙ append_assoc a.entries.items p.more q.more;
}

gains_entry : (a b : Share) → b.holder ≡ a.holder → (node : ℕ) (event : NodeEvent) (outcome : Outcome) → AddsEntry a.entries.items b.entries.items node event outcome → Gains a b
gains_entry a b owner node event outcome adds = record { holder = owner; more = made node (entry adds.0 event outcome) ∷ []; entries = adds.1 }

-- one call of the cluster
pub gains_one : (a b : Share) (node : ℕ) (event : NodeEvent) → b.holder ≡ a.holder → AddsAtMostOne a.entries.items b.entries.items node event → Gains a b
gains_one a b node event owner most =
    elim most [ inl same ↦ gains_nothing a b owner same | inr one ↦ gains_entry a b owner node event one.0 one.1 ]
