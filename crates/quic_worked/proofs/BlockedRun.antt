-- What is left unread at rest, a write that is blocked for that, and writes that are blocked though
-- nothing is left.
use Rattle.std.proofs.Common.{◌≡◌, ℕ, ◌+◌, ◌^◌, ◌<◌, ◌≤◌, List, [], ◌∷◌, ◌++◌, length, take, true, false, Some, Ok, Err, refl, inl, inr, sym, ◌∙◌, subst, eqb, lit<, lit≤, arith, None}
use Rattle.std.specs.List.{IsDistinct}
use Rattle.quic_wire_core.specs.declared.stream_id.Side.{Side}
use Rattle.quic_wire_core.specs.declared.stream_id.Side.TheVariants.{Client, Server}
use Rattle.quic_wire.specs.Value.{FrameValue, StreamValue, reset_stream, stream, AckValue, ack}
use Rattle.quic_parameters.specs.ParametersRead.{entry_at, whole_at, met_after, met_within, met_in, values_met, judged, parameters_at}
use Rattle.quic_config.specs.Transport.{parameters_of}
use Rattle.quic_assembler.specs.declared.assembler.Chunk.{Chunk}
use Rattle.quic_worked.specs.Settings.{plain_settings}
use Rattle.quic_streams_parts.specs.declared.answers.WriteError.TheVariants as write_errors
use Rattle.quic_machine.specs.declared.answers.Received.TheVariants as receives
use Rattle.quic_machine.specs.declared.run.Call.TheVariants as calls
use Rattle.quic_machine.specs.declared.run.Answer.TheVariants as answers
use Rattle.quic_machine.specs.End.{IsMade}
use Rattle.quic_machine.specs.Start.{AreStarted}
use Rattle.quic_machine.specs.Machine.{World, IsStep, Follows, view_of}
use Rattle.quic_headline.specs.Runs.{Told, Packet, In, until, reads, offsets_of}
use Rattle.quic_headline.specs.Observer.{took}
use Rattle.quic_headline.specs.Headline.{IsHonest, IsRun}
use Rattle.quic_headline.specs.Rest.{ShowsStill, Rests, HaveRoom}
use Rattle.quic_headline.specs.Unread.{IsLeft, HasUnread, HasUnreadOn, same_place, stopped, receive_window, IsModestAt, IsModest, BlockedOnlyForUnread}
use Rattle.quic_worked.specs.Exchange.{with_window}
use Rattle.quic_worked.specs.Worked.{ran, worked_policies, client_id, server_id, hello, hello_frame, opens_stream, asks_datagram, gives_bytes, id_frame, behind_ids, gives_unmarked}
use Rattle.quic_worked.specs.Acknowledged.{client_acked}
use Rattle.quic_worked.specs.Broken.{IsNoRun}
use Rattle.quic_worked.specs.Paired.{writes_on}
use Rattle.quic_worked.specs.Credit.{eight}
use Rattle.quic_worked.specs.Timed.{serves, asks_at, comes_at}
use Rattle.quic_worked.specs.Held.{gives_nothing}
use Rattle.quic_worked.specs.Rested.{roomy_windows, rested_start, still_view, given_view, taken_view, rested_run, second_comes, told_view}
use Rattle.quic_worked.specs.Blocked.{blocked_run, five_places, small_parameters, small_start, once_left, left_run, eight_frame, eight_packet, eight_places}
use Rattle.quic_worked.proofs.Codes.{no_codes}
use Rattle.quic_worked.proofs.OwnIds.{AreOwn, own_ids}
use Rattle.quic_worked.proofs.BrokenRuns.{IsRefused, stops, behind}
use Rattle.quic_worked.proofs.WorkedKeys.{are_keys}
use Rattle.quic_worked.proofs.WorkedHonest.{in_range, making}
use Rattle.quic_worked.proofs.WorkedRun.{parameters_say}
use Rattle.quic_worked.proofs.RestedRun.{rested_started, still_roomy, have_room, acks_ids, both_packets}
use Rattle.quic_worked.proofs.Steps.{counts_so}

-- ---- what is left

-- what holds of each in a list
abbrev AllIn : {X : Type 0} → (X → Type 0) → List X → Type 0
AllIn P [] = Unit {0}
AllIn P (x ∷ xs) = P x × AllIn P xs

each_in : {X : Type 0} → (P : X → Type 0) (xs : List X) → AllIn P xs → (x : X) → In x xs → P x
each_in P [] all x i = absurd i
each_in P (y ∷ ys) all x (inl is) = subst P (sym is) all.0
each_in P (y ∷ ys) all x (inr i) = each_in P ys all.1 x i

-- the packet that tells ids, and has this frame
abbrev pub packet_with : StreamValue → Packet
packet_with f = record { number = 0; frames = behind_ids (stream f ∷ []) }

-- each offset of the only frame that came is left, where its stream was neither read nor stopped
left_in : (f : StreamValue) (told : List Told) (offset : ℕ) → reads f.id told ≡ [] → stopped f.id told ≡ false → f.offset ≤ offset → offset < f.offset + length f.bytes → IsLeft (acks_ids ∷ packet_with f ∷ []) told f.id offset
left_in f told offset unread unstopped from below = record {
  unread = (record { frame = f; taken = record { packet = packet_with f; was_taken = inr (inl refl); carried = inr (inr (inr (inr (inr (inr (inr (inl refl))))))) }; of_stream = refl; from = from; below = below }, λ i. subst (λ (cs : List Chunk). In offset (offsets_of cs)) unread i);
  unstopped = unstopped;
  kept = λ came. no_reset came.packet came.was_taken (reset_stream came.frame) came.carried (λ g is. cc) (λ n is. cc) (λ a is. cc);
}
  where
    no_reset : (p : Packet) → In p (acks_ids ∷ packet_with f ∷ []) → (g : FrameValue) → In g p.frames → ((h : StreamValue) → g ≡ stream h → ⊥) → ((n : ℕ) → g ≡ id_frame n → ⊥) → ((a : AckValue) → g ≡ ack a → ⊥) → ⊥
    no_reset p (inr (inr none)) g i other no_id no_ack = none
    no_reset p (inl is) g i other no_id no_ack = only (subst (λ (q : Packet). In g q.frames) is i)
      where
        only : In g acks_ids.frames → ⊥
        only (inl same) = no_ack (record { largest = 0; delay = 3125; ranges = (0, 0) ∷ []; ecn = None }) same
        only (inr none) = none
    no_reset p (inr (inl is)) g i other no_id no_ack = go (subst (λ (q : Packet). In g q.frames) is i)
      where
        go : In g (behind_ids (stream f ∷ [])) → ⊥
        go (inl same) = no_id 1 same
        go (inr (inl same)) = no_id 2 same
        go (inr (inr (inl same))) = no_id 3 same
        go (inr (inr (inr (inl same)))) = no_id 4 same
        go (inr (inr (inr (inr (inl same))))) = no_id 5 same
        go (inr (inr (inr (inr (inr (inl same)))))) = no_id 6 same
        go (inr (inr (inr (inr (inr (inr (inl same))))))) = no_id 7 same
        go (inr (inr (inr (inr (inr (inr (inr (inl same)))))))) = other f same
        go (inr (inr (inr (inr (inr (inr (inr (inr none)))))))) = none

took_hello : took rested_run Server 13 ≡ both_packets
unfolding client_acked
took_hello = refl

abbrev server_told : List Told
server_told = until rested_run Server 13

word_left : (offset : ℕ) → offset < 5 → IsLeft both_packets server_told 0 offset
word_left offset below = let from : 0 ≤ offset = omega arith in left_in hello_frame server_told offset refl refl from below

place_left : (place : ℕ × ℕ) → In place five_places → IsLeft both_packets server_told place.0 place.1
place_left = each_in (λ (place : ℕ × ℕ). IsLeft both_packets server_told place.0 place.1) five_places (word_left 0 (lit< tt), (word_left 1 (lit< tt), (word_left 2 (lit< tt), (word_left 3 (lit< tt), (word_left 4 (lit< tt), tt)))))

places_apart : IsDistinct same_place five_places
unfolding IsDistinct
places_apart = ((refl, (refl, (refl, (refl, tt)))), ((refl, (refl, (refl, tt))), ((refl, (refl, tt)), ((refl, tt), (tt, tt)))))

pub all_left : HasUnread (took rested_run Server 13) server_told 5
all_left = subst (λ (ps : List Packet). HasUnread ps server_told 5) (sym took_hello) (record { places = five_places; distinct = places_apart; left = place_left; many = lit≤ tt })

abbrev five_offsets : List ℕ
five_offsets = 0 ∷ 1 ∷ 2 ∷ 3 ∷ 4 ∷ []

offsets_apart : IsDistinct eqb five_offsets
unfolding IsDistinct
offsets_apart = ((refl, (refl, (refl, (refl, tt)))), ((refl, (refl, (refl, tt))), ((refl, (refl, tt)), ((refl, tt), (tt, tt)))))

offset_left : (offset : ℕ) → In offset five_offsets → IsLeft both_packets server_told 0 offset
offset_left = each_in (λ (offset : ℕ). IsLeft both_packets server_told 0 offset) five_offsets (word_left 0 (lit< tt), (word_left 1 (lit< tt), (word_left 2 (lit< tt), (word_left 3 (lit< tt), (word_left 4 (lit< tt), tt)))))

pub stream_left : HasUnreadOn (took rested_run Server 13) server_told 0 5
stream_left = subst (λ (ps : List Packet). HasUnreadOn ps server_told 0 5) (sym took_hello) (record { offsets = five_offsets; distinct = offsets_apart; left = offset_left; many = lit≤ tt })

-- ---- a write that is blocked for nothing

pub still : (side : Side) → ShowsStill still_view side
still Client = record { no_loss_timer = refl; no_ack_timer = refl; no_pacing_timer = refl }
still Server = record { no_loss_timer = refl; no_ack_timer = refl; no_pacing_timer = refl }

pub client_rests : Rests blocked_run Client 3
client_rests = record { front = take 1 (until blocked_run Client 3); now = 0; last = refl; view = still_view; shown = refl; is_open = refl; validated = refl; still = still Client }

pub server_rests : Rests blocked_run Server 3
server_rests = record { front = []; now = 0; last = refl; view = still_view; shown = refl; is_open = refl; validated = refl; still = still Server }

modest : (side : Side) → IsModestAt blocked_run rested_started side 3
modest Client = record { sends = lit< tt; receives = lit< tt; streams = lit< tt; written = lit< tt }
modest Server = record { sends = lit< tt; receives = lit< tt; streams = lit< tt; written = lit< tt }

-- where nothing is left, no more than nothing is
pub no_places : (packets : List Packet) (told : List Told) (count : ℕ) → ((id offset : ℕ) → IsLeft packets told id offset → ⊥) → 0 < count → HasUnread packets told count → ⊥
no_places packets told count none some u = go u.places u.left u.many
  where
    go : (ps : List (ℕ × ℕ)) → ((p : ℕ × ℕ) → In p ps → IsLeft packets told p.0 p.1) → count ≤ length ps → ⊥
    go [] left many = omega arith
    go (p ∷ ps) left many = none p.0 p.1 (left p (inl refl))

pub no_offsets : (packets : List Packet) (told : List Told) (count id : ℕ) → ((id offset : ℕ) → IsLeft packets told id offset → ⊥) → 0 < count → HasUnreadOn packets told id count → ⊥
no_offsets packets told count id none some u = go u.offsets u.left u.many
  where
    go : (os : List ℕ) → ((o : ℕ) → In o os → IsLeft packets told id o) → count ≤ length os → ⊥
    go [] left many = omega arith
    go (o ∷ os) left many = none id o (left o (inl refl))

nothing_taken : took blocked_run Server 3 ≡ []
nothing_taken = refl

-- where nothing came, nothing is left
none_left : (id offset : ℕ) → IsLeft (took blocked_run Server 3) (until blocked_run Server 3) id offset → ⊥
none_left id offset left = subst (λ (ps : List Packet). In left.unread.0.taken.packet ps) nothing_taken left.unread.0.taken.was_taken

pub blocked_unread : BlockedOnlyForUnread blocked_run → ⊥
blocked_unread h = elim (h rested_started Client 3 0 5 (calls.Write 0 hello) (answers.Write (Err write_errors.Blocked)) refl have_room modest client_rests server_rests (record { event = refl; answer = refl }) (refl, refl) refl) [
  | inl u ↦ no_places _ _ _ none_left (lit< tt) u
  | inr u ↦ no_offsets _ _ _ 0 none_left (lit< tt) u
]

blocked_own : (side : Side) → AreOwn side [] blocked_run.events blocked_run.answers blocked_run.views
blocked_own Client = (tt, (tt, (tt, (inl refl, tt))))
blocked_own Server = (tt, (tt, (tt, (tt, tt))))

pub blocked_is_honest : IsHonest blocked_run
blocked_is_honest = record { start = rested_started; keys = are_keys; ids = own_ids blocked_run blocked_own }

-- ---- the machine

unfoldable once_asked : ℕ → World
once_asked n = ran worked_policies rested_start (take n blocked_run.events) (take n blocked_run.answers)

opens : IsStep worked_policies rested_start opens_stream (answers.Open (Some 0)) (once_asked 1)
unfolding once_asked
opens = record { answer = refl; end = refl; control = refl; heard = counts_so worked_policies rested_start opens_stream (answers.Open (Some 0)); openings = tt; others = refl; lacking = tt }

-- the machine gives its ids
client_no : IsRefused (once_asked 1) asks_datagram gives_nothing
unfolding once_asked
client_no (inl e) = cc
client_no (inr e) = cc

pub blocked_is_none : IsNoRun blocked_run
blocked_is_none = behind refl opens (stops _ _ _ _ _ client_no)

-- ---- a write that is blocked for what is left unread

abbrev pub small_says : ℕ → Type 0
small_says window = parameters_at (small_parameters window) ≡ Ok (parameters_of (with_window window))

pub eight_say : small_says 8
unfolding parameters_at judged values_met met_in met_within met_after whole_at entry_at
eight_say = refl

abbrev pub small_started : (window : ℕ) → window < 2 ^ 62 → small_says window → AreStarted (small_start window)
small_started window below says = record {
  client_making = record (making client_id) { windows = roomy_windows };
  server_making = record (making server_id) { settings = with_window window; windows = roomy_windows; parameters = small_parameters window };
  client_is = record { range = in_range; sizes = lit≤ tt; says = parameters_say; id = refl };
  server_is = record { range = record { receive_window = below; stream_receive_window = lit< tt; bounds = record { bidi = lit≤ tt; uni = lit≤ tt; divides = lit< tt; initial = lit≤ tt; least = lit≤ tt }; search = tt }; sizes = lit≤ tt; says = says; id = refl };
  client = subst (λ read. IsMade Client plain_settings roomy_windows read client_id server_id 0 0 true (λ n. 63) (small_start window).client) (sym says) refl;
  server = subst (λ read. IsMade Server (with_window window) roomy_windows read server_id client_id 0 0 true (λ n. 63) (small_start window).server) (sym parameters_say) refl;
  client_gave = refl;
  server_gave = refl;
  client_heard = refl;
  server_heard = refl;
}

pub small_room : (window : ℕ) → HaveRoom (small_start window)
small_room window = record { controlled = record { client = have_room.controlled.client; server = have_room.controlled.server }; client = have_room.client; server = have_room.server }

abbrev pub left_started : AreStarted (small_start 8)
left_started = small_started 8 (lit< tt) eight_say

left_own : (side : Side) → AreOwn side [] left_run.events left_run.answers left_run.views
left_own Client = (tt, (inl refl, (tt, (tt, (tt, (tt, (tt, (tt, (tt, (tt, (tt, (tt, (inl refl, tt)))))))))))))
left_own Server = (tt, (tt, (tt, (tt, (tt, (tt, (tt, (tt, (tt, (tt, (tt, (tt, (tt, tt)))))))))))))

pub left_is_honest : IsHonest left_run
left_is_honest = record { start = left_started; keys = are_keys; ids = own_ids left_run left_own }

left_opens : IsStep worked_policies (small_start 8) opens_stream (answers.Open (Some 0)) (once_left 1)
unfolding once_left
left_opens = record { answer = refl; end = refl; control = refl; heard = counts_so worked_policies (small_start 8) opens_stream (answers.Open (Some 0)); openings = tt; others = refl; lacking = tt }

left_writes : IsStep worked_policies (once_left 1) (writes_on 0 (eight ++ eight)) (answers.Write (Ok 8)) (once_left 2)
unfolding once_left
left_writes = record { answer = inl refl; end = refl; control = refl; heard = counts_so worked_policies (once_left 1) (writes_on 0 (eight ++ eight)) (answers.Write (Ok 8)); openings = tt; others = refl; lacking = λ lacks. cc }

left_gives : IsStep worked_policies (once_left 2) asks_datagram (gives_bytes 233) (once_left 3)
unfolding once_left
left_gives = record { answer = inl refl; end = refl; control = still_roomy; heard = counts_so worked_policies (once_left 2) asks_datagram (gives_bytes 233); openings = tt; others = refl; lacking = tt }

left_takes : IsStep worked_policies (once_left 3) (comes_at Server 10000000) (answers.Deliver receives.Taken) (once_left 4)
unfolding once_left
left_takes = record { answer = inl refl; end = refl; control = still_roomy; heard = counts_so worked_policies (once_left 3) (comes_at Server 10000000) (answers.Deliver receives.Taken); openings = tt; others = refl; lacking = tt }

left_due : IsStep worked_policies (once_left 4) (serves Server 35000000) (answers.Timeout (Ok tt)) (once_left 5)
unfolding once_left
left_due = record { answer = inl refl; end = refl; control = still_roomy; heard = counts_so worked_policies (once_left 4) (serves Server 35000000) (answers.Timeout (Ok tt)); openings = tt; others = refl; lacking = tt }

left_answers_it : IsStep worked_policies (once_left 5) (asks_at Server 35000000) (gives_bytes 228) (once_left 6)
unfolding once_left
left_answers_it = record { answer = inl refl; end = refl; control = still_roomy; heard = counts_so worked_policies (once_left 5) (asks_at Server 35000000) (gives_bytes 228); openings = tt; others = refl; lacking = tt }

left_answered : IsStep worked_policies (once_left 6) (comes_at Client 40000000) (answers.Deliver receives.Taken) (once_left 7)
unfolding once_left
left_answered = record { answer = inl refl; end = refl; control = still_roomy; heard = counts_so worked_policies (once_left 6) (comes_at Client 40000000) (answers.Deliver receives.Taken); openings = tt; others = refl; lacking = tt }

left_client_due : IsStep worked_policies (once_left 7) (serves Client 65000000) (answers.Timeout (Ok tt)) (once_left 8)
unfolding once_left
left_client_due = record { answer = inl refl; end = refl; control = still_roomy; heard = counts_so worked_policies (once_left 7) (serves Client 65000000) (answers.Timeout (Ok tt)); openings = tt; others = refl; lacking = tt }

left_client_answers : IsStep worked_policies (once_left 8) (asks_at Client 65000000) (gives_unmarked 32) (once_left 9)
unfolding once_left
left_client_answers = record { answer = inl refl; end = refl; control = still_roomy; heard = counts_so worked_policies (once_left 8) (asks_at Client 65000000) (gives_unmarked 32); openings = tt; others = refl; lacking = tt }

left_all_answered : IsStep worked_policies (once_left 9) (second_comes 70000000) (answers.Deliver receives.Taken) (once_left 10)
unfolding once_left
left_all_answered = record { answer = inl refl; end = refl; control = still_roomy; heard = counts_so worked_policies (once_left 9) (second_comes 70000000) (answers.Deliver receives.Taken); openings = tt; others = refl; lacking = tt }

left_client_rests : IsStep worked_policies (once_left 10) (asks_at Client 70000000) gives_nothing (once_left 11)
unfolding once_left
left_client_rests = record { answer = inl refl; end = refl; control = still_roomy; heard = counts_so worked_policies (once_left 10) (asks_at Client 70000000) gives_nothing; openings = tt; others = refl; lacking = tt }

left_server_rests : IsStep worked_policies (once_left 11) (asks_at Server 70000000) gives_nothing (once_left 12)
unfolding once_left
left_server_rests = record { answer = inl refl; end = refl; control = still_roomy; heard = counts_so worked_policies (once_left 11) (asks_at Server 70000000) gives_nothing; openings = tt; others = refl; lacking = tt }

-- what the client has counted before and behind it: its datagrams, and the acknowledgement
left_counted : (once_left 12).client_heard ≡ record { received = 228; sent = 265; failures = 0 }
unfolding once_left
left_counted = refl

left_counts : (once_left 13).client_heard ≡ record { received = 228; sent = 265; failures = 0 }
unfolding once_left
left_counts = refl

left_heard : (once_left 13).client_heard ≡ (once_left 12).client_heard
left_heard = left_counts ∙ sym left_counted

left_blocks : IsStep worked_policies (once_left 12) (writes_on 0 eight) (answers.Write (Err write_errors.Blocked)) (once_left 13)
unfolding once_left
left_blocks = record { answer = inl refl; end = refl; control = refl; heard = left_heard; openings = tt; others = refl; lacking = λ lacks. cc }

left_seen_1 : still_view ≡ view_of (once_left 1)
unfolding once_left
left_seen_1 = refl

left_seen_2 : still_view ≡ view_of (once_left 2)
unfolding once_left
left_seen_2 = refl

left_seen_3 : given_view ≡ view_of (once_left 3)
unfolding once_left
left_seen_3 = refl

left_seen_4 : taken_view ≡ view_of (once_left 4)
unfolding once_left
left_seen_4 = refl

left_seen_5 : given_view ≡ view_of (once_left 5)
unfolding once_left
left_seen_5 = refl

left_seen_6 : told_view (Some 1024000000) None ≡ view_of (once_left 6)
unfolding once_left
left_seen_6 = refl

left_seen_7 : told_view None (Some 65000000) ≡ view_of (once_left 7)
unfolding once_left
left_seen_7 = refl

left_seen_8 : told_view None None ≡ view_of (once_left 8)
unfolding once_left
left_seen_8 = refl

left_seen_9 : told_view None None ≡ view_of (once_left 9)
unfolding once_left
left_seen_9 = refl

left_seen_10 : still_view ≡ view_of (once_left 10)
unfolding once_left
left_seen_10 = refl

left_seen_11 : still_view ≡ view_of (once_left 11)
unfolding once_left
left_seen_11 = refl

left_seen_12 : still_view ≡ view_of (once_left 12)
unfolding once_left
left_seen_12 = refl

left_seen_13 : still_view ≡ view_of (once_left 13)
unfolding once_left
left_seen_13 = refl

left_follows : Follows left_run.keys left_run.start left_run.events left_run.answers left_run.views (once_left 13)
left_follows = (once_left 1, left_opens, left_seen_1, (once_left 2, left_writes, left_seen_2, (once_left 3, left_gives, left_seen_3, (once_left 4, left_takes, left_seen_4, (once_left 5, left_due, left_seen_5, (once_left 6, left_answers_it, left_seen_6, (once_left 7, left_answered, left_seen_7, (once_left 8, left_client_due, left_seen_8, (once_left 9, left_client_answers, left_seen_9, (once_left 10, left_all_answered, left_seen_10, (once_left 11, left_client_rests, left_seen_11, (once_left 12, left_server_rests, left_seen_12, (once_left 13, left_blocks, left_seen_13, refl)))))))))))))

left_gave_eight : left_run.from_client ≡ (once_left 13).from_client
unfolding once_left
left_gave_eight = refl

left_gave_ack : left_run.from_server ≡ (once_left 13).from_server
unfolding once_left
left_gave_ack = refl

pub left_is_run : IsRun left_run (once_left 13)
left_is_run = record { codes = no_codes left_run.events refl; follows = left_follows; from_client = left_gave_eight; from_server = left_gave_ack }

pub left_client : Rests left_run Client 12
left_client = record { front = take 6 (until left_run Client 12); now = 70000000; last = refl; view = still_view; shown = refl; is_open = refl; validated = refl; still = still Client }

pub left_server : Rests left_run Server 12
left_server = record { front = take 4 (until left_run Server 12); now = 70000000; last = refl; view = still_view; shown = refl; is_open = refl; validated = refl; still = still Server }

left_modest : (side : Side) → IsModestAt left_run left_started side 12
left_modest Client = record { sends = lit< tt; receives = lit< tt; streams = lit< tt; written = lit< tt }
left_modest Server = record { sends = lit< tt; receives = lit< tt; streams = lit< tt; written = lit< tt }

pub left_is_modest : (s : AreStarted (small_start 8)) × IsModest left_run s 12 × (receive_window left_run s Server ≡ 8)
left_is_modest = (left_started, left_modest, refl)

left_took : took left_run Server 12 ≡ acks_ids ∷ eight_packet ∷ []
unfolding client_acked
left_took = refl

abbrev left_told : List Told
left_told = until left_run Server 12

byte_left : (offset : ℕ) → offset < 8 → IsLeft (acks_ids ∷ eight_packet ∷ []) left_told 0 offset
byte_left offset below = let from : 0 ≤ offset = omega arith in left_in eight_frame left_told offset refl refl from below

eight_left : (place : ℕ × ℕ) → In place eight_places → IsLeft (acks_ids ∷ eight_packet ∷ []) left_told place.0 place.1
eight_left = each_in (λ (place : ℕ × ℕ). IsLeft (acks_ids ∷ eight_packet ∷ []) left_told place.0 place.1) eight_places (byte_left 0 (lit< tt), (byte_left 1 (lit< tt), (byte_left 2 (lit< tt), (byte_left 3 (lit< tt), (byte_left 4 (lit< tt), (byte_left 5 (lit< tt), (byte_left 6 (lit< tt), (byte_left 7 (lit< tt), tt))))))))

eight_apart : IsDistinct same_place eight_places
unfolding IsDistinct
eight_apart = ((refl, (refl, (refl, (refl, (refl, (refl, (refl, tt))))))), ((refl, (refl, (refl, (refl, (refl, (refl, tt)))))), ((refl, (refl, (refl, (refl, (refl, tt))))), ((refl, (refl, (refl, (refl, tt)))), ((refl, (refl, (refl, tt))), ((refl, (refl, tt)), ((refl, tt), (tt, tt))))))))

pub eight_are_left : HasUnread (took left_run Server 12) left_told 8
eight_are_left = subst (λ (ps : List Packet). HasUnread ps left_told 8) (sym left_took) (record { places = eight_places; distinct = eight_apart; left = eight_left; many = lit≤ tt })
