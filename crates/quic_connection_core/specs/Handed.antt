-- An end whose streams or messages were lent, and come back.
use Rattle.quic_streams_handles.specs.declared.end_streams.EndStreams.{EndStreams}
use Rattle.quic_streams_state.specs.State.{streams_of}
use Rattle.quic_messages.specs.Messages.{Messages}
use Rattle.quic_machine.specs.End.{ConnectionValue, with_end, with_streams, with_queued}

-- an end whose streams are left so by whoever borrowed them
abbrev pub handed_back : {H K R C : Type 0} → ConnectionValue H K R C → EndStreams → ConnectionValue H K R C
handed_back w s = with_end w (with_streams w.end (streams_of s.state s.pending))

-- an end whose messages are left so by whoever borrowed them
abbrev pub messages_back : {H K R C : Type 0} → ConnectionValue H K R C → Messages → ConnectionValue H K R C
messages_back w queues = with_end w (with_queued w.end queues)
