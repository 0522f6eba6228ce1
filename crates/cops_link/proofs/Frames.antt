-- What decoding a frame returns.
use Rattle.std.proofs.Common.{◌≡◌, ℕ, List, [], length, Ok, Err, refl, sym, ap, subst, ◌∙◌}
use Rattle.std.proofs.lemmas.List.{append-nil}
use Rattle.cops_types.specs.declared.format.Format.TheVariants.{Two}
use Rattle.cops_types.specs.declared.put_record.PutRecord.{PutRecord}
use Rattle.cops_wire.specs.declared.decoding.Decoded.{Decoded}
use Rattle.cops_wire.specs.declared.fault.WireFault.{WireFault}
use Rattle.cops_wire.specs.declared.fault.WireFault.TheVariants.{Memory}
use Rattle.cops_wire.specs.Grammar.{grammar_two, Parts}
use Rattle.cops_wire.specs.Message.{parts}
use Rattle.cops_wire.specs.Replicated.{put_after}
use Rattle.cops_wire.specs.Answer.{IsAnswer, Answers}
use Rattle.cops_wire.proofs.Codec.{encoding_answered}
use Rattle.cops_wire.proofs.Messages.{parts-same}
use Rattle.cops_link.specs.Frame.{encoded, IsPutAfter}

-- The bytes of the message of a put or a deletion decode to that message.
pub answered : (bytes again : List ℕ) → again ≡ bytes → (is : IsPutAfter bytes) → IsAnswer grammar_two again (Ok (parts (put_after is.0), length (encoded is.0)))
answered bytes again same is =
    subst (λ x. IsAnswer grammar_two x (Ok (parts (put_after is.0), length (encoded is.0)))) (append-nil _ ∙ is.2 ∙ sym same) (encoding_answered Two (parts (put_after is.0)) [] is.1)

-- The only possible fault is running out of memory.
pub only_memory : (e : WireFault) (a : Parts × ℕ) → Answers (Err e) (λ b. b ≡ Ok a) → e ≡ Memory
only_memory Memory a is = refl
only_memory _ a is = cc

-- A message with the same parts as such a message is equal to it.
pub same_message : (d : Decoded) (put : PutRecord) (used : ℕ) → Answers (Ok d) (λ b. b ≡ Ok (parts (put_after put), used)) → d.message ≡ put_after put
same_message d put used is =
    let both : (parts d.message, d.used) ≡ (parts (put_after put), used) = cc in
    parts-same d.message (put_after put) (ap (λ (a : Parts × ℕ). a.0) both)
