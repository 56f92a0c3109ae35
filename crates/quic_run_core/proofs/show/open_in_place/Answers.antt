use Rattle.std.proofs.Common.{ap, ◌∙◌, arith}
use Rattle.quic_wire_core.specs.declared.stream_id.Side.{Side}
use Rattle.quic_keys.specs.KeysOf.{keys_of}
use Rattle.quic_run_core.proofs.Showing.{opening_at-packet, opening_at-short}
use Rattle.quic_run_core.proofs.show.open_in_place.Goals as goal

pub returns-in-Ok-clause-opened : goal.returns-in-Ok-clause-opened
returns-in-Ok-clause-opened c =
    opening_at-packet c.args.side c.args.expected c.args.datagram.now _ _ (omega arith) (c.keys_for-keys.ensures ∙ ap (λ (s : Side). keys_of s) c.not.ensures) c.in-Ok.ensures.opened

pub returns-in-Err-clause-opened : goal.returns-in-Err-clause-opened
returns-in-Err-clause-opened c =
    opening_at-packet c.args.side c.args.expected c.args.datagram.now _ _ (omega arith) (c.keys_for-keys.ensures ∙ ap (λ (s : Side). keys_of s) c.not.ensures) c.in-Err.ensures.opened

pub returns-then-datagram-lt-LEAST-clause-opened : goal.returns-then-datagram-lt-LEAST-clause-opened
returns-then-datagram-lt-LEAST-clause-opened c = opening_at-short c.args.side c.args.expected c.args.datagram.now (omega arith)
