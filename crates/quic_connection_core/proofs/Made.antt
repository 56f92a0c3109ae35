-- An end as it is made: how many words it has drawn of its random source, and the next one, which
-- it asks its peer to answer unless the peer's address is validated.
use Rattle.std.proofs.Common.{◌≡◌, ℕ, ◌+◌, ◌-◌, ◌*◌, ◌≤◌, Bool, true, false, List, Option, None, sym, ap, subst, ◌∙◌, arith}
use Rattle.rand_core.specs.Stream.{Stream}
use Rattle.quic_wire_core.specs.declared.stream_id.Side.{Side}
use Rattle.quic_parameters.specs.Parameters.{ParameterValues}
use Rattle.quic_config.specs.Transport.{Settings}
use Rattle.quic_config.specs.Transport.{TransportSettings, transport_of}
use Rattle.quic_wire.specs.AckView.{counts_view}
use Rattle.quic_time.specs.Timers.{Timers, no_timers}
use Rattle.quic_spaces.specs.declared.space.PacketSpace.{PacketSpace}
use Rattle.quic_spaces.specs.Space.{new_space}
use Rattle.quic_spaces.specs.Filter.{Filter, first_filter}
use Rattle.quic_recovery_core.specs.AckFrequency.{Frequency, initial_frequency}
use Rattle.quic_streams_state.specs.declared.state.StreamsState.{StreamsState}
use Rattle.quic_retransmits.specs.Retransmits.{Retransmits, nothing_waits}
use Rattle.quic_messages.specs.Messages.{Messages, no_messages}
use Rattle.quic_paths.specs.Paths.{PathValue, new_path, challenge_to_send}
use Rattle.quic_paths.specs.Responses.{Response}
use Rattle.quic_machine.specs.declared.answers.State.TheVariants as states
use Rattle.quic_machine.specs.Closing.{Closing}
use Rattle.quic_machine.specs.Parts.{Windows, unconfirmed}
use Rattle.quic_machine.specs.Ids.{Ids, first_ids, most_ids, drawn_ids, later_numbers, words_behind, words_of_id}
use Rattle.quic_machine.specs.End.{End, ConnectionValue, with_end, drawing, words_drawn, challenged_unless, first_streams, silent_end, new_end}
use Rattle.quic_connection_parts.specs.Telling.{path_limited, windows_at}
use Rattle.quic_connection_parts.specs.Drawn.{words_of, words_at, after_words, Draws}
use Rattle.quic_connection_parts.proofs.Words.{after_both}
use Rattle.quic_connection_parts.proofs.Drawing.{first_word}
use Rattle.quic_connection_parts.proofs.Issued.{words_after}

-- one word more is drawn, or none
more_drawn : (b : Bool) (words : ℕ → ℕ) (e : End) → words_drawn e ≤ words_drawn (challenged_unless b words e)
more_drawn true words e = omega arith
more_drawn false words e = omega arith

-- an end of parts
abbrev of_parts : {C : Type 0} → Closing → Ids → PacketSpace → Filter → Frequency → Timers → Bool → PathValue C → ℕ → TransportSettings → ParameterValues → StreamsState → Retransmits → Option Response → Messages → End
of_parts closing ids space filter frequency timers validated path window transport theirs streams frames response queues = record {
  closing = closing;
  ids = ids;
  numbers = space.numbers;
  filter = filter;
  acknowledging = space.acknowledging;
  frequency = frequency;
  marks = record { came = counts_view space.ecn_counters; told = counts_view space.ecn_feedback };
  timers = timers;
  tracking = space.tracking;
  idle_armed = true;
  path = record {
    remote = path.remote;
    validated = validated;
    generation = path.generation;
    discovery = path.discovery;
    blocked = false;
    rtt = path.rtt;
    first_after_rtt = path.first_after_rtt;
    window = window;
    pacing = path.pacing;
    app_limited = false;
    marking = path.marks;
  };
  validation = record { challenge = path.challenge; drawn = 0 };
  transport = transport;
  peer_params = theirs;
  streams = streams;
  messages = record { queues = queues; to_tell = 0 };
  waiting = record { signals = record { challenge = challenge_to_send path; response = response; ping = space.ping_pending; immediate = space.immediate_ack_pending }; frames = frames };
  confirmation = unconfirmed;
}

-- of those with which it is made, it is as it is before it asks its peer for anything
pub of_first_parts : {C : Type 0} (initial window_of : C → ℕ) (controller : C) (side : Side) (settings : Settings) (theirs : ParameterValues) (own peer : List ℕ) (remote now : ℕ) (validated : Bool) (words : ℕ → ℕ)
    (closing : Closing) (ids : Ids) (space : PacketSpace) (filter : Filter) (frequency : Frequency) (timers : Timers) (path : PathValue C) (window : ℕ) (transport : TransportSettings) (streams : StreamsState) (frames : Retransmits) (response : Option Response) (queues : Messages)
    → closing ≡ record { clock = now; state = states.Open; reason = None; told = false; close = None; owed = false }
    → ids ≡ first_ids own peer (most_ids theirs.active_connection_id_limit) now (words_behind 1 words)
    → space ≡ new_space now
    → filter ≡ first_filter (words 0)
    → frequency ≡ initial_frequency (theirs.max_ack_delay * 1000000)
    → timers ≡ no_timers
    → window ≡ window_of path.congestion
    → path ≡ path_limited theirs.max_udp_payload_size (new_path remote true None 0 now transport controller (initial controller))
    → transport ≡ transport_of settings
    → streams ≡ first_streams side settings theirs
    → frames ≡ record nothing_waits { new_cids = drawn_ids (words_behind 1 words) (later_numbers (most_ids theirs.active_connection_id_limit)) }
    → response ≡ None
    → queues ≡ no_messages
    → of_parts closing ids space filter frequency timers validated path window transport theirs streams frames response queues ≡ silent_end side settings (windows_at initial window_of controller) theirs own peer remote now validated words
of_first_parts {C} initial window_of controller side settings theirs own peer remote now validated words closing ids space filter frequency timers path window transport streams frames response queues c i s f y t w p m r d a q =
    ap (λ (x : Closing). of_parts x ids space filter frequency timers validated path window transport theirs streams frames response queues) c
    ∙ ap (λ (x : Ids). of_parts c1 x space filter frequency timers validated path window transport theirs streams frames response queues) i
    ∙ ap (λ (x : PacketSpace). of_parts c1 i1 x filter frequency timers validated path window transport theirs streams frames response queues) s
    ∙ ap (λ (x : Filter). of_parts c1 i1 (new_space now) x frequency timers validated path window transport theirs streams frames response queues) f
    ∙ ap (λ (x : Frequency). of_parts c1 i1 (new_space now) (first_filter (words 0)) x timers validated path window transport theirs streams frames response queues) y
    ∙ ap (λ (x : Timers). of_parts c1 i1 (new_space now) (first_filter (words 0)) y1 x validated path window transport theirs streams frames response queues) t
    ∙ ap (λ (x : ℕ). of_parts c1 i1 (new_space now) (first_filter (words 0)) y1 no_timers validated path x transport theirs streams frames response queues) w
    ∙ ap (λ (x : PathValue C). of_parts c1 i1 (new_space now) (first_filter (words 0)) y1 no_timers validated x (window_of x.congestion) transport theirs streams frames response queues) p
    ∙ ap (λ (x : TransportSettings). of_parts c1 i1 (new_space now) (first_filter (words 0)) y1 no_timers validated (p1 x) (window_of controller) x theirs streams frames response queues) m
    ∙ ap (λ (x : StreamsState). of_parts c1 i1 (new_space now) (first_filter (words 0)) y1 no_timers validated (p1 (transport_of settings)) (window_of controller) (transport_of settings) theirs x frames response queues) r
    ∙ ap (λ (x : Retransmits). of_parts c1 i1 (new_space now) (first_filter (words 0)) y1 no_timers validated (p1 (transport_of settings)) (window_of controller) (transport_of settings) theirs (first_streams side settings theirs) x response queues) d
    ∙ ap (λ (x : Option Response). of_parts c1 i1 (new_space now) (first_filter (words 0)) y1 no_timers validated (p1 (transport_of settings)) (window_of controller) (transport_of settings) theirs (first_streams side settings theirs) d1 x queues) a
    ∙ ap (λ (x : Messages). of_parts c1 i1 (new_space now) (first_filter (words 0)) y1 no_timers validated (p1 (transport_of settings)) (window_of controller) (transport_of settings) theirs (first_streams side settings theirs) d1 None x) q
  where
    c1 : Closing
    c1 = record { clock = now; state = states.Open; reason = None; told = false; close = None; owed = false }

    i1 : Ids
    i1 = first_ids own peer (most_ids theirs.active_connection_id_limit) now (words_behind 1 words)

    y1 : Frequency
    y1 = initial_frequency (theirs.max_ack_delay * 1000000)

    p1 : TransportSettings → PathValue C
    p1 x = path_limited theirs.max_udp_payload_size (new_path remote true None 0 now x controller (initial controller))

    d1 : Retransmits
    d1 = record nothing_waits { new_cids = drawn_ids (words_behind 1 words) (later_numbers (most_ids theirs.active_connection_id_limit)) }

module _ {R : Type 0} (stream : R → Stream) (first : R) (side : Side) (settings : Settings) (windows : Windows) (theirs : ParameterValues) (own peer : List ℕ) (remote now : ℕ) (validated : Bool) where
  -- the end before it asks
  abbrev silent : End
  silent = silent_end side settings windows theirs own peer remote now validated (words_of stream first)

  module _ {H K C : Type 0} (w x : ConnectionValue H K R C) (asks : x ≡ drawing x.random (with_end w (challenged_unless w.end.path.validated (words_at stream w) w.end))) (is : w.end ≡ silent)
      (r : R) (one : stream r ≡ after_words 1 (stream first)) (ids : stream w.random ≡ after_words (words_of_id * (most_ids theirs.active_connection_id_limit - 1)) (stream r)) where
    -- it has drawn the word of the numbers that are left out, and those of the ids that it issues
    drew : stream w.random ≡ after_words (words_drawn w.end) (stream first)
    drew =
        let m : ℕ = most_ids theirs.active_connection_id_limit in
        ids
        ∙ ap (λ (s : Stream). after_words (words_of_id * (m - 1)) s) one
        ∙ after_both 1 (words_of_id * (m - 1)) (stream first)
        ∙ ap (λ (k : ℕ). after_words k (stream first)) (let all : 1 + 3 * (m - 1) ≡ words_drawn silent = omega arith in all)
        ∙ sym (ap (λ (e : End). after_words (words_drawn e) (stream first)) is)

    -- the next word of its source is the one behind those
    next_word : words_at stream w (words_drawn w.end) ≡ words_of stream first (words_drawn w.end)
    next_word =
        first_word stream w
        ∙ sym (ap (λ (f : ℕ → ℕ). f 0) (words_after stream first w.random (words_drawn w.end) drew))
        ∙ ap (λ (k : ℕ). words_of stream first k) (let same : words_drawn w.end + 0 ≡ words_drawn w.end = omega arith in same)

    -- so it is made as it has to be
    pub is_new : x.end ≡ new_end side settings windows theirs own peer remote now validated (words_of stream first)
    is_new =
        ap (λ (y : ConnectionValue H K R C). y.end) asks
        ∙ ap (λ (k : ℕ). challenged_unless w.end.path.validated (λ n. k) w.end) next_word
        ∙ ap (λ (e : End). challenged_unless e.path.validated (words_of stream first) e) is

    -- and has drawn so many words
    pub draws_all : Draws stream w x → stream x.random ≡ after_words (words_drawn x.end) (stream first)
    draws_all two =
        let a : ℕ = words_drawn w.end in
        let b : ℕ = words_drawn x.end in
        let more : a ≤ b = subst (λ (y : ConnectionValue H K R C). words_drawn w.end ≤ words_drawn y.end) (sym asks) (more_drawn w.end.path.validated (words_at stream w) w.end) in
        two
        ∙ ap (λ (s : Stream). after_words (b - a) s) drew
        ∙ after_both a (b - a) (stream first)
        ∙ ap (λ (k : ℕ). after_words k (stream first)) (let sum : a + (b - a) ≡ b = omega (arith, more) in sum)
