use Rattle.quic_c_core.proofs.endpoint.EndpointCalls.put_lost_text.Goals as goal

pub returns : goal.returns
returns c = (c.lost_text.result.now, rw c.lost.ensures at c.lost_text.ensures, c.put.ensures.answer, c.put.ensures.filled)
