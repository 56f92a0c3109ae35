use Rattle.quic_peer_core.proofs.Making.{told-parameters}
use Rattle.quic_peer_core.proofs.end.tell_params.Goals as goal

pub returns : goal.returns
returns c =
    told-parameters c.args.options.now c.config.result c.in_ok-parameters.parameters.items c.deref.result.now _ _ _
    c.config.ensures c.in_ok-parameters.ensures.bytes c.deref.ensures.value c.in_ok-out.ensures.ok c.in_ok-put_bytes.ensures c.in_ok-push_str.ensures.bytes
