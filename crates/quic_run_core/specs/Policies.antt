-- What the stand-in keys and random sources of the two ends of a script do, as the machine sees it.
use Rattle.quic_congestion.specs.NewReno.{Reno}
use Rattle.quic_machine.specs.Machine.{Policies}
use Rattle.quic_connection.specs.Ends.{AreOf}
use Rattle.quic_connection.specs.declared.running.Ends.{Ends}
use Rattle.quic_keys.specs.declared.key.PlainHeaderKey.{PlainHeaderKey}
use Rattle.quic_keys.specs.declared.key.PlainKey.{PlainKey}
use Rattle.quic_keys.specs.declared.words.Words.{Words}
use Rattle.quic_keys.specs.Plain.{plain_protection, plain_aead}
use Rattle.quic_keys.specs.Words.{stream_from}

-- these policies do what the keys and the random sources of these two ends do
abbrev pub ArePlain : Policies → Ends PlainHeaderKey PlainKey Words Reno → Type 0
ArePlain k ends = AreOf k (λ _. plain_protection) (λ k. plain_aead k.mark) (λ k. k.confidentiality_limit) (λ k. k.integrity_limit) stream_from ends
