use Rattle.quic_machine.specs.End.{policy_of}
use Rattle.quic_connection_parts.specs.Drawn.{words_of}
use Rattle.quic_connection_parts.specs.Telling.{windows_of}
use Rattle.quic_connection.specs.GoingOn.{goes_same}
use Rattle.quic_connection.proofs.Words.{call_goes}
use Rattle.quic_connection.proofs.stepping.make.Goals as goal

pub returns-in-Client-clause-goes_on : goal.returns-in-Client-clause-goes_on
returns-in-Client-clause-goes_on g c =
    let stream = g.R.Rng.stream in
    let windows = windows_of g.C.Controller.steps g.C.Controller.window_of in
    let old = c.args.ends.now in
    let at = c.at_end in
    record {
      client = call_goes stream (policy_of g.H.HeaderKey.protection g.K.PacketKey.aead g.K.PacketKey.seal_limit g.K.PacketKey.refusal_limit (words_of stream) old.client) (windows old.client.control) old.client.heard old.client at.new.end c.as_slice.result.now c.args.event.now.call at.result at.ensures.keys at.ensures.draws at.ensures.end at.ensures.err;
      server = goes_same stream old.server;
    }

pub returns-in-Server-clause-goes_on : goal.returns-in-Server-clause-goes_on
returns-in-Server-clause-goes_on g c =
    let stream = g.R.Rng.stream in
    let windows = windows_of g.C.Controller.steps g.C.Controller.window_of in
    let old = c.args.ends.now in
    let at = c.at_end-in-Server in
    record {
      client = goes_same stream old.client;
      server = call_goes stream (policy_of g.H.HeaderKey.protection g.K.PacketKey.aead g.K.PacketKey.seal_limit g.K.PacketKey.refusal_limit (words_of stream) old.server) (windows old.server.control) old.server.heard old.server at.new.end c.as_slice-in-Server.result.now c.args.event.now.call at.result at.ensures.keys at.ensures.draws at.ensures.end at.ensures.err;
    }
