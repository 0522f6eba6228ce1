-- A message and its reply form a turn of a session.
use Rattle.std.proofs.Common.{◌≡◌, Bool, true, false, [], ◌∷◌, refl, sym, ap, ◌∙◌}
use Rattle.std.proofs.Math.Bool.{or-false}
use Rattle.cops_types.specs.declared.format.Format.{Format}
use Rattle.cops_wire.specs.declared.message.Message.{Message}
use Rattle.cops_net.specs.declared.reply.Call.{Call}
use Rattle.cops_net.specs.Protocol.{IsLegalIn, seq_of, is_handed, own_reply, Hands, reported, welcomes}
use Rattle.cops_net.specs.Turns.{is_welcome, IsTurn}

-- a message that was handed over by this call
pub handed_turn : (format : Format) (greeted : Bool) (m : Message) (c : Call) (reply : Message) → is_handed format greeted m ≡ true → Hands m c
    → reply ≡ reported (seq_of m) c → is_welcome reply ≡ welcomes c → IsLegalIn format reply → IsTurn format greeted m (c ∷ []) reply
handed_turn format greeted m c reply handed hands is welcome legal = record {
  called = rw handed (hands, refl);
  reply_is = rw handed (ap (λ (r : Message). r ∷ []) (sym is));
  reply_legal = legal;
  welcomed = welcome ∙ sym (or-false (welcomes c));
}

-- a message that the front door answered itself
pub own_turn : (format : Format) (greeted : Bool) (m reply : Message) → is_handed format greeted m ≡ false → reply ≡ own_reply greeted m → is_welcome reply ≡ false
    → IsLegalIn format reply → IsTurn format greeted m [] reply
own_turn format greeted m reply handed is welcome legal = record {
  called = rw handed refl;
  reply_is = rw handed (ap (λ (r : Message). r ∷ []) (sym is));
  reply_legal = legal;
  welcomed = welcome;
}
