use Rattle.std.proofs.Common.{◌≡◌, ◌-◌, ℕ, Result, Ok, Err, IfOk}
use Rattle.quic_wire_core.specs.declared.stream_id.Side.TheVariants.{Client, Server}
use Rattle.quic_packet.specs.declared.crypto.Keys.{Keys}
use Rattle.quic_congestion.specs.NewReno.{Reno}
use Rattle.quic_machine.specs.declared.answers.ConfigError.{ConfigError}
use Rattle.quic_machine.specs.End.{KeyLimits, words_drawn}
use Rattle.quic_machine.specs.Start.{AreKeys}
use Rattle.quic_connection_parts.specs.Drawn.{words_of}
use Rattle.quic_connection.specs.declared.running.Ends.{Ends}
use Rattle.quic_connection.specs.Ends.{policies_of}
use Rattle.quic_keys.specs.declared.key.PlainHeaderKey.{PlainHeaderKey}
use Rattle.quic_keys.specs.declared.key.PlainKey.{PlainKey}
use Rattle.quic_keys.specs.declared.words.Words.{Words}
use Rattle.quic_keys.specs.Plain.{plain_protection, plain_aead}
use Rattle.quic_keys.specs.KeysOf.{usual_limit, keys_of}
use Rattle.quic_keys.specs.Policies.{plain_policies}
use Rattle.quic_keys.specs.Words.{stream_from}
use Rattle.quic_connection_tests.proofs.ends.new_ends.Goals as goal

-- ends that have the keys of scripts, whatever words they draw
are_keys : (made : Result (Ends PlainHeaderKey PlainKey Words Reno) ConfigError) (client server : Keys PlainHeaderKey PlainKey) → client ≡ keys_of Client → server ≡ keys_of Server
    → IfOk made (λ ends. ends.client.keys ≡ client) → IfOk made (λ ends. ends.server.keys ≡ server) → ((limits peer_limits : KeyLimits) (client server : ℕ → ℕ) → AreKeys (plain_policies limits peer_limits client server))
    → IfOk made (λ ends. AreKeys (policies_of (λ _. plain_protection) (λ k. plain_aead k.mark) (λ k. k.confidentiality_limit) (λ k. k.integrity_limit) stream_from ends))
are_keys (Ok ends) client server client_is server_is client_has server_has law =
    let usual : KeyLimits = record { seals = usual_limit; openings = usual_limit } in
    rw (client_has, client_is, server_has, server_is)
    (law usual usual (λ n. words_of stream_from ends.client.random (n - words_drawn ends.client.end)) (λ n. words_of stream_from ends.server.random (n - words_drawn ends.server.end)))
are_keys (Err e) client server client_is server_is client_has server_has law = tt

pub returns-clause-keys : goal.returns-clause-keys
returns-clause-keys c = are_keys c.new.result _ _ c.making-client.ensures c.making-server.ensures c.new.ensures.client_keys c.new.ensures.server_keys c.keys_meet_the_premises.ensures
