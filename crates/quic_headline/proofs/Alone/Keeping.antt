-- An end that was made with such settings keeps no more than it advertised of what was handed to
-- it.
use Rattle.std.proofs.Common.{ℕ, ◌+◌, List, arith}
use Rattle.quic_wire.specs.Value.{StreamValue}
use Rattle.quic_config.specs.Transport.{Settings, TransportSettings, transport_of}
use Rattle.quic_ids.proofs.PeerIdLaws.{few}
use Rattle.quic_streams_parts.specs.RecvHalf.{most_pieces}
use Rattle.quic_machine.specs.declared.run.Call.{Call}
use Rattle.quic_machine.specs.declared.run.Answer.{Answer}
use Rattle.quic_machine.specs.Policy.{Policy}
use Rattle.quic_machine.specs.End.{End}
use Rattle.quic_headline.specs.Alone.{Lone}
use Rattle.quic_headline.specs.Keeping.{StaysWithin}
use Rattle.quic_headline.proofs.Alone.Places.{made_holds, behind_calls}
use Rattle.quic_headline.proofs.Alone.Streams.{call_keeps}
use Rattle.quic_headline.proofs.Alone.Within.{AreHeld, held_keeps, held_first}
use Rattle.quic_headline.proofs.Alone.Kept.{KeptAt, call_kept, kept_first}
use Rattle.quic_headline.proofs.Alone.Pieces.{WhileOpen, few_at, few_first, call_few}

-- whatever is handed in
abbrev Any : List ℕ → Type 0
Any d = Unit {0}

-- and whatever a STREAM frame brings
abbrev AnyStream : StreamValue → Type 0
AnyStream f = Unit {0}

-- what it keeps of streams
abbrev Both : Settings → End → Type 0
Both s e = AreHeld s e.streams × WhileOpen s.stream_receive_window e

pub keeps_within : (p : Policy) (theirs : List (List ℕ)) (x left : Lone) (calls : List Call) (told : List Answer) → StaysWithin p theirs x calls told left
keeps_within p theirs x left cs told new f served =
    let s : Settings = new.settings in
    let t : TransportSettings = transport_of s in
    let window : ℕ = s.stream_receive_window in
    let both : Both s left.end = behind_calls p theirs Any (Both s) (λ shown blocked pacing e h. h)
    (λ e c b is hands h. (call_keeps AnyStream (AreHeld s) (held_keeps s) p e theirs h.0 Any (λ d handed g stands. tt) c b is hands, call_few window e h.0.1.stream_window h.1 p theirs c b is))
    x left cs told f served (λ d among. tt) (made_holds (Both s) x.end new (λ peer. (held_first s new.side peer, λ still. few_first (most_pieces window) new.side s peer))) in
    let held : AreHeld s left.end.streams = both.0 in
    let kept : KeptAt t left.end = behind_calls p theirs Any (KeptAt t) (λ window blocked pacing e h. h) (λ e c b is hands h. call_kept t p e theirs c b h)
    x left cs told f served (λ d among. tt) (made_holds (KeptAt t) x.end new (λ peer. kept_first s new.side new.windows peer new.own_id new.peer_id new.remote new.moment new.validated new.words)) in
    record {
      stream = λ id h is. (held.1.halves id h is).seen;
      total = held.1.seen;
      runs = λ still id h is. few_at (most_pieces window) left.end.streams id h is (both.1 still);
      streams = λ dir. (let opened = held.2.few dir in let most = held.2.most dir in omega arith);
      messages = kept.messages;
      numbers = kept.numbers.few;
      ids = (let window = few left.end.ids.peer.later (left.end.ids.peer.active + 1) (left.end.ids.peer.active + 8) kept.ids in omega arith);
    }
