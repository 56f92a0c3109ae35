-- What makes PING wait at an open end: it is asked for, the time without a packet is over, or a
-- probe of losses waits at a poll that gives nothing; and IMMEDIATE_ACK: such a probe alone. A poll
-- that gives either, or anything that asks, leaves none waiting.
use Rattle.std.proofs.Common.{◌≡◌, ℕ, zero, suc, Bool, true, false, ◌||◌, not, List, [], ◌∷◌, ◌++◌, replicate, Option, Some, None, refl, sym, ap, ◌∙◌, ◌<◌, ◌⊎◌, inl, inr, arith}
use Rattle.std.specs.Prelude.{slice_get}
use Rattle.std.specs.List.{list_any}
use Rattle.std.specs.Option.{is_some}
use Rattle.std.proofs.lemmas.Bool.{or_parts, both_ways}
use Rattle.quic_wire.specs.Value.{padding, FrameValue, AckValue, ack}
use Rattle.quic_recovery_core.specs.PendingAcks.{can_send}
use Rattle.quic_streams_state.specs.Waiting.{is_empty, can_send_stream_data}
use Rattle.quic_paths.specs.Responses.{Response}
use Rattle.quic_machine.specs.declared.answers.State.{State}
use Rattle.quic_machine.specs.declared.answers.State.TheVariants as states
use Rattle.quic_machine.specs.declared.run.Call.{Call}
use Rattle.quic_machine.specs.declared.run.Call.TheVariants as calls
use Rattle.quic_machine.specs.declared.run.Answer.{Answer}
use Rattle.quic_machine.specs.declared.run.Answer.TheVariants as answers
use Rattle.quic_machine.specs.Arrival.{delivered_by}
use Rattle.quic_machine.specs.Policy.{Policy}
use Rattle.quic_machine.specs.Parts.{Signals, Waiting, signals_wait}
use Rattle.quic_machine.specs.Calls.{closed_in}
use Rattle.quic_machine.specs.Validation.{challenge_frame, response_frame}
use Rattle.quic_machine.specs.End.{End}
use Rattle.quic_machine.specs.Poll.{Polled, Draft, no_frames, zeros_behind, with_signal, challenge_if, response_if, ping_if, with_challenge_frame, with_response_frame, with_ping_frame, with_signal_frames, with_control_frames, with_message_frames, with_asking, with_ack, ack_fits, ack_if, composed_if, composed, asking, lazied, message_waits, asks_to_go, waits, probed, gated, draft_as, goes, goes_as, whole, alone, probe, nothing, Leaving, Ready, polled, closing, leaves_unless, immediate_if, with_immediate_frame, with_frequency_frame, request_queued}
use Rattle.quic_machine.specs.DraftLaws.{by_entries, by_messages, by_streams}
use Rattle.quic_machine.specs.PollCases.{ready_at, draft_at, gate_leaves, search_leaves, by_probed, ready_closes_not}
use Rattle.quic_machine.specs.FrameCases.{Settling, Receives, named, acked_keeps, frame_keeps, frame_leaves, by_received, apart_leaves, IsApart}
use Rattle.quic_machine.specs.Steps as steps
use Rattle.quic_machine.specs.InjectionCases.{by_injection}
use Rattle.quic_machine.specs.LeaveCases.{by_event}
use Rattle.quic_machine.specs.CallCases.{is_poll, by_done}
use Rattle.quic_machine.specs.Machine.{after_delivered, after_call, gave, says_last}
use Rattle.quic_headline.proofs.Packets.Apart.{by_next_id}
use Rattle.quic_headline.specs.Waited.{stands, is_ping, asks_ping}
use Rattle.quic_headline.proofs.Packets.Probes.{by_going}
use Rattle.quic_headline.proofs.Places.Parties.{sent_by, sent_if, sent_as}
use Rattle.quic_headline.proofs.Held.Silent.{ready_whole}
use Rattle.quic_headline.proofs.Steps.Probes.{begun}
use Rattle.quic_headline.proofs.Steps.Probing.{IsProbing, unprobed, probe_goes}
use Rattle.quic_headline.proofs.Packets.Heard.{by_taken}
use Rattle.quic_headline.proofs.Packets.Moved.{by_migrated}
use Rattle.quic_packet.specs.Datagram.{Opening}
use Rattle.quic_machine.specs.Migration.{migrated}
use Rattle.quic_headline.proofs.Packets.Sends.{by_sends}
use Rattle.quic_headline.specs.Observer.{Sent, asks_of}
use Rattle.quic_headline.proofs.Packets.Flying.{asking_padded}
use Rattle.quic_headline.proofs.Timers.Still.{was_open}
use Rattle.quic_headline.proofs.Waited.Alive.{wakes_at, timed}
use Rattle.quic_machine.specs.Receive.{take_frame}
use Rattle.quic_headline.specs.AcksDue.{is_immediate_ack}
use Rattle.quic_headline.proofs.Packets.Entries.{by_request}

-- ---- an end that is ready

-- what waits is what waits once something does for each probe of losses, and ACK_FREQUENCY, where
-- the peer is to be asked
pub ready_waiting : (e : End) (now : ℕ) → (ready_at e now).end.waiting ≡ (request_queued (probed (begun e now))).waiting
ready_waiting e now = go x.path.blocked
  where
    x : End
    x = request_queued (probed (begun e now))

    go : (b : Bool) → (leaves_unless b x).end.waiting ≡ x.waiting
    go true = refl
    go false = ap (λ (y : End). y.waiting) (search_leaves (gated x)) ∙ ap (λ (y : End). y.waiting) (gate_leaves x)

-- so it is as it was, but for that, where no probe of losses waits
pub ready_still : (e : End) (now : ℕ) → e.tracking.probes ≡ 0 → (ready_at e now).end.waiting ≡ (request_queued (begun e now)).waiting
ready_still e now none = ready_waiting e now ∙ ap (λ (x : End). (request_queued x).waiting) (unprobed (begun e now) none)

-- where what goes isn't all that waits, no probe waits
pub unless_whole : (e : End) (now : ℕ) → goes (ready_at e now) ≡ true → ((ready_at e now).leaving ≡ whole → ⊥) → e.tracking.probes ≡ 0
unless_whole e now some other = go e.path.blocked refl e.tracking.probes refl
  where
    probed_blocked : (probed (begun e now)).path.blocked ≡ e.path.blocked
    probed_blocked = by_probed (begun e now) (λ (z : End). z.path.blocked ≡ e.path.blocked) refl (λ immediate. refl) (λ immediate. refl) (λ immediate q probes is. refl)

    go : (b : Bool) → e.path.blocked ≡ b → (n : ℕ) → e.tracking.probes ≡ n → e.tracking.probes ≡ 0
    go b is zero none = none
    go true is (suc n) more = absurd (both_ways (goes (ready_at e now)) (ap (λ (c : Bool). goes (leaves_unless c (request_queued (probed (begun e now))))) (probed_blocked ∙ is)) some)
    go false is (suc n) more = absurd (other (ap (λ (g : Ready). g.leaving) (ready_whole e now (omega arith) is)))

-- ---- a poll

-- frames of path validation go, and then PING and IMMEDIATE_ACK, if they wait
pub by_ping : (P Q : Draft → Type 0) → ((d : Draft) (word : ℕ) → P d → P (with_signal d (challenge_frame word) (record d.end.waiting.signals { challenge = None })))
    → ((d : Draft) (r : Response) → P d → P (with_signal d (response_frame r) (record d.end.waiting.signals { response = None }))) → ((d : Draft) → P d → Q (with_immediate_frame (with_ping_frame d))) → (d : Draft) → P d → Q (with_signal_frames d)
by_ping P Q challenges responds pings d i = pings (with_response_frame (with_challenge_frame d)) (response (with_challenge_frame d).end.waiting.signals.response (with_challenge_frame d) (challenge d.end.waiting.signals.challenge))
  where
    challenge : (o : Option ℕ) → P (challenge_if o d)
    challenge None = i
    challenge (Some word) = challenges d word i

    response : (o : Option Response) (x : Draft) → P x → P (response_if o x)
    response None x j = j
    response (Some r) x j = responds x r j

-- neither waits behind what is composed
abbrev Unpinged : Draft → Type 0
Unpinged d = (d.end.waiting.signals.ping ≡ false) × (d.end.waiting.signals.immediate ≡ false)

signals_unpinged : (d : Draft) → Unpinged (with_signal_frames d)
signals_unpinged d = by_ping (λ (x : Draft). Unit {0}) Unpinged (λ x word i. tt) (λ x r i. tt) (λ x i. hastened (with_ping_frame x) (with_ping_frame x).end.waiting.signals.immediate refl (gone x x.end.waiting.signals.ping refl)) d tt
  where
    gone : (x : Draft) (b : Bool) → x.end.waiting.signals.ping ≡ b → (ping_if b x).end.waiting.signals.ping ≡ false
    gone x true is = refl
    gone x false is = is

    hastened : (x : Draft) (b : Bool) → x.end.waiting.signals.immediate ≡ b → x.end.waiting.signals.ping ≡ false → Unpinged (immediate_if b x)
    hastened x true is none = (none, refl)
    hastened x false is none = (none, is)

asking_unpinged : (d : Draft) → Unpinged (with_asking d)
asking_unpinged d = by_streams Unpinged (λ x id h room found first left is counts i. i) (with_message_frames (with_control_frames (with_frequency_frame (with_signal_frames d))))
    (by_messages Unpinged (λ x m ms is fit i. i) (with_control_frames (with_frequency_frame (with_signal_frames d))) (by_entries Unpinged (λ x kind i. i) (λ x kind f is i. i) (with_frequency_frame (with_signal_frames d)) (by_request Unpinged (with_signal_frames d) (λ waits i. i) (signals_unpinged d))))

composed_unpinged : (e : End) → Unpinged (composed e)
composed_unpinged e = go (can_send e.acknowledging)
  where
    late : (b : Bool) (d : Draft) → Unpinged d → Unpinged (ack_if b d)
    late true d i = i
    late false d i = i

    go : (b : Bool) → Unpinged (composed_if b e)
    go true = asking_unpinged (with_ack (no_frames e))
    go false = late (ack_fits (with_asking (no_frames e))) (with_asking (no_frames e)) (asking_unpinged (no_frames e))

-- one of both
pub data Bare : Type 0 where
  of_ping : Bare
  of_immediate : Bare

-- whether it waits
abbrev pub bare_waits : Bare → Signals → Bool
bare_waits of_ping s = s.ping
bare_waits of_immediate s = s.immediate

-- whether a frame is it
abbrev pub is_bare : Bare → FrameValue → Bool
is_bare of_ping f = is_ping f
is_bare of_immediate f = is_immediate_ack f

composed_bare : (b : Bare) (e : End) → bare_waits b (composed e).end.waiting.signals ≡ false
composed_bare of_ping e = (composed_unpinged e).0
composed_bare of_immediate e = (composed_unpinged e).1

-- PADDING is neither
pub none_padded : (count : ℕ) → list_any is_ping (replicate count padding) ≡ false
none_padded zero = refl
none_padded (suc count) = none_padded count

none_hastens : (count : ℕ) → list_any is_immediate_ack (replicate count padding) ≡ false
none_hastens zero = refl
none_hastens (suc count) = none_hastens count

-- nor is ACK before it
alone_bare : (b : Bare) (a : AckValue) (count : ℕ) → list_any (is_bare b) (ack a ∷ replicate count padding) ≡ false
alone_bare of_ping a count = none_padded count
alone_bare of_immediate a count = none_hastens count

-- an end to which nothing waits has neither
idle_bare : (b : Bare) (e : End) → waits e ≡ false → bare_waits b e.waiting.signals ≡ false
idle_bare b e none = one b (or_parts (is_some s.response) (s.ping || s.immediate) (or_parts (is_some s.challenge) (is_some s.response || (s.ping || s.immediate)) signals).1).1
  where
    s : Signals
    s = e.waiting.signals

    asks : asks_to_go e ≡ false
    asks = (or_parts (can_send e.acknowledging) (asks_to_go e) none).1

    signals : signals_wait s ≡ false
    signals = (or_parts (signals_wait s) (not (is_empty e.waiting.frames e.streams) || (message_waits e || can_send_stream_data e.streams)) asks).0

    one : (b : Bare) → s.ping || s.immediate ≡ false → bare_waits b s ≡ false
    one of_ping neither = (or_parts s.ping s.immediate neither).0
    one of_immediate neither = (or_parts s.ping s.immediate neither).1

-- so it has no PING
pub idle_unpinged : (e : End) → waits e ≡ false → e.waiting.signals.ping ≡ false
idle_unpinged e none = idle_bare of_ping e none

module _ (b : Bare) (p : Policy) (e : End) (now : ℕ) where
  abbrev g : Ready
  g = ready_at e now

  -- Where one of both waits behind a poll, none went, nor anything that asks; and it waited before,
  -- or a probe did and nothing went.
  pub record WaitsStill (ss : List Sent) : Type 0 where
    pub none : stands (is_bare b) ss ≡ false
    pub quiet : list_any asks_of ss ≡ false
    pub before : (bare_waits b e.waiting.signals ≡ true) ⊎ ((0 < e.tracking.probes) × (ss ≡ []))

  -- it waits as before where no probe does
  ready_pinged : bare_waits b g.end.waiting.signals ≡ true → e.tracking.probes ≡ 0 → bare_waits b e.waiting.signals ≡ true
  ready_pinged set none = sym (ap (λ (w : Waiting). bare_waits b w.signals) (ready_still e now none)) ∙ set

  -- nothing goes
  nothing_pinged : bare_waits b g.end.waiting.signals ≡ true → WaitsStill []
  nothing_pinged set = go e.tracking.probes refl
    where
      go : (n : ℕ) → e.tracking.probes ≡ n → WaitsStill []
      go zero none = record { none = refl; quiet = refl; before = inl (ready_pinged set none) }
      go (suc n) some = record { none = refl; quiet = refl; before = inr (omega (arith, some), refl) }

  -- something goes
  draft_pinged : (leaving : Leaving) → g.leaving ≡ leaving → goes g ≡ true → bare_waits b (draft_as leaving g.end).end.waiting.signals ≡ true → WaitsStill (sent_as e now (draft_at e now) ∷ [])
  draft_pinged whole is some set = absurd (both_ways (bare_waits b (composed (lazied g.end)).end.waiting.signals) (composed_bare b (lazied g.end)) set)
  draft_pinged alone is some set = record {
    none = ap (λ (l : Leaving). list_any (is_bare b) ((draft_as l g.end).frames ++ replicate (zeros_behind (draft_as l g.end)) padding) || false) is ∙ ap (λ (c : Bool). c || false) (alone_bare b _ (zeros_behind (draft_as alone g.end)));
    quiet = ap (λ (c : Bool). c || false) (asking_padded (draft_at e now).frames (zeros_behind (draft_at e now)) ∙ ap (λ (l : Leaving). asking (draft_as l g.end).frames) is);
    before = inl (ready_pinged set (unless_whole e now some (λ all. (let clash : alone ≡ whole = sym is ∙ all in cc))));
  }
  draft_pinged (probe size) is some set =
      let q : IsProbing (begun e now) g = probe_goes e now size is in
      absurd (both_ways (bare_waits b g.end.waiting.signals) (ap (λ (r : Ready). bare_waits b r.end.waiting.signals) q.is ∙ idle_bare b (begun e now) q.idle) set)
  draft_pinged (closing f) is some set = absurd (ready_closes_not e now f is)
  draft_pinged (nothing held) is some set = absurd (both_ways (goes g) (ap goes_as is) some)

  -- so it is of a poll that leaves its end open
  pub polled_pinged : (polled p e now).end.closing.state ≡ states.Open → bare_waits b (polled p e now).end.waiting.signals ≡ true → WaitsStill (sent_if (gave (answers.Poll (polled p e now).answer)) (sent_by p e now))
  polled_pinged = by_sends p e now (λ (q : Polled) (ss : List Sent). q.end.closing.state ≡ states.Open → bare_waits b q.end.waiting.signals ≡ true → WaitsStill ss) (record {
    silent = λ opened set. record { none = refl; quiet = refl; before = inl set };
    failed = λ opened set. record { none = refl; quiet = refl; before = inl set };
    nothing = λ is none opened set. nothing_pinged set;
    repeats = λ is. ((λ opened set. let clash : states.Closing ≡ states.Open = sym is ∙ opened in cc), λ f goes opened set. let clash : states.Closing ≡ states.Open = sym is ∙ opened in cc);
    closes = λ reason is bound. ((λ opened set. cc), λ f goes opened set. cc);
    gives = λ is may some. by_going (λ (x : End). x.closing.state ≡ states.Open → bare_waits b x.waiting.signals ≡ true → WaitsStill (sent_as e now (draft_at e now) ∷ [])) p (draft_at e now) (λ pacing opened set. draft_pinged g.leaving refl some set);
  })

-- ---- any other call

-- one of both waits or doesn't, as before
abbrev SameBare : Bare → End → End → Type 0
SameBare b e f = bare_waits b f.waiting.signals ≡ bare_waits b e.waiting.signals

abbrev SamePing : End → End → Type 0
SamePing e f = SameBare of_ping e f

settling : (b : Bare) (e : End) → Settling (SameBare b e)
settling b e (steps.known n) x i = i
settling b e s x i = i

-- a frame apart from streams leaves it
apart_same : (b : Bare) (f : FrameValue) (e x : End) → IsApart f → SameBare b e x → SameBare b e (take_frame f x).end
apart_same of_ping f e x is i = apart_leaves (SameBare of_ping e) f x is (λ c. i) (λ c most. i)
apart_same of_immediate f e x is i = apart_leaves (SameBare of_immediate e) f x is (λ c. i) (λ c most. i)

-- and so does a change of the path
moved_same : (b : Bare) (p : Policy) (o : Opening) (remote : ℕ) (e x : End) → SameBare b e x → SameBare b e (migrated p o remote x)
moved_same of_ping p o remote e x i = by_migrated (SameBare of_ping e) p o remote x (λ c. i) (λ c most. i)
moved_same of_immediate p o remote e x i = by_migrated (SameBare of_immediate e) p o remote x (λ c. i) (λ c most. i)

receives_same : (b : Bare) (e : End) → Receives (SameBare b e)
receives_same b e = record {
  notes = λ n x i. i;
  begins = λ now n x i. i;
  frame = frame_keeps (SameBare b e) (record {
    ack = λ rises a x i. acked_keeps (SameBare b e) (settling b e) rises a (named a x) i;
    on_streams = λ f x on i. frame_leaves (SameBare b e) f x on (λ t. i);
    apart = λ f x is i. apart_same b f e x is i;
    message = λ m x i. i;
  });
  takes = λ n asks urged mark x i. by_taken (SameBare b e) n asks urged mark x (λ idle alive. i);
  closes = λ reason x i. i;
  drains = λ close x i. i;
  asks_close = λ x i. i;
  exhausts = λ now x i. i;
  draws = λ words x i. i;
  moves = λ p o remote x i. moved_same b p o remote e x i;
}

-- it waits where the call asks for it, where the time without a packet is over, and as before
pub call_pinged : (p : Policy) (e : End) (theirs : List (List ℕ)) (call : Call) (a : Answer) → is_poll call ≡ false → (after_call p e theirs call a).closing.state ≡ states.Open → (after_call p e theirs call a).waiting.signals.ping ≡ (asks_ping call || (wakes_at e call || e.waiting.signals.ping))
call_pinged p e theirs (calls.Poll now) a silent opened = cc
call_pinged p e theirs calls.Ping a silent opened = refl
call_pinged p e theirs (calls.Timeout now) a silent opened = (timed p e now (was_open p e theirs (calls.Timeout now) a opened) opened).pinged
call_pinged p e theirs (calls.Deliver delivery) a silent opened = go (slice_get theirs delivery.index)
  where
    go : (o : Option (List ℕ)) → SamePing e (after_delivered p e (delivered_by (says_last a) delivery) o)
    go None = refl
    go (Some d) = by_received (SamePing e) (receives_same of_ping e) p e (delivered_by (says_last a) delivery) d refl
call_pinged p e theirs (calls.Close close) a silent opened = go e.closing.state
  where
    go : (s : State) → SamePing e (closed_in s close.now close.error_code close.reason e)
    go states.Open = refl
    go states.Closing = refl
    go states.Drained = refl
    go states.Failed = refl
call_pinged p e theirs calls.UseNextId a silent opened = by_next_id (SamePing e) e a refl (λ c. refl) (λ c most. refl)
call_pinged p e theirs calls.HandshakeDone a silent opened = by_done (SamePing e) e a refl refl
call_pinged p e theirs (calls.Inject injection) a silent opened = by_injection p e (says_last a) injection (SamePing e) refl (λ now. refl)
call_pinged p e theirs calls.Event a silent opened = by_event e (SamePing e) refl refl (λ told. refl)
call_pinged p e theirs call a silent opened = refl

-- IMMEDIATE_ACK waits as before
pub call_hastened : (p : Policy) (e : End) (theirs : List (List ℕ)) (call : Call) (a : Answer) → is_poll call ≡ false → (after_call p e theirs call a).closing.state ≡ states.Open → (after_call p e theirs call a).waiting.signals.immediate ≡ e.waiting.signals.immediate
call_hastened p e theirs (calls.Poll now) a silent opened = cc
call_hastened p e theirs (calls.Timeout now) a silent opened = (timed p e now (was_open p e theirs (calls.Timeout now) a opened) opened).immediate
call_hastened p e theirs (calls.Deliver delivery) a silent opened = go (slice_get theirs delivery.index)
  where
    go : (o : Option (List ℕ)) → SameBare of_immediate e (after_delivered p e (delivered_by (says_last a) delivery) o)
    go None = refl
    go (Some d) = by_received (SameBare of_immediate e) (receives_same of_immediate e) p e (delivered_by (says_last a) delivery) d refl
call_hastened p e theirs (calls.Close close) a silent opened = go e.closing.state
  where
    go : (s : State) → SameBare of_immediate e (closed_in s close.now close.error_code close.reason e)
    go states.Open = refl
    go states.Closing = refl
    go states.Drained = refl
    go states.Failed = refl
call_hastened p e theirs calls.UseNextId a silent opened = by_next_id (SameBare of_immediate e) e a refl (λ c. refl) (λ c most. refl)
call_hastened p e theirs calls.HandshakeDone a silent opened = by_done (SameBare of_immediate e) e a refl refl
call_hastened p e theirs (calls.Inject injection) a silent opened = by_injection p e (says_last a) injection (SameBare of_immediate e) refl (λ now. refl)
call_hastened p e theirs calls.Event a silent opened = by_event e (SameBare of_immediate e) refl refl (λ told. refl)
call_hastened p e theirs call a silent opened = refl
