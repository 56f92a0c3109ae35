-- The run in which a window holds back, event by event.
use Rattle.std.proofs.Common.{◌≡◌, ◌+◌, ◌<◌, ◌≤◌, ◌++◌, ℕ, zero, suc, List, [], ◌∷◌, length, replicate, true, false, Option, Some, None, Ok, refl, inl, inr, ap, sym, ◌∙◌, subst, lit<, lit≤, arith}
use Rattle.quic_wire_core.specs.declared.stream_id.Side.{Side}
use Rattle.quic_wire_core.specs.declared.stream_id.Side.TheVariants.{Client, Server}
use Rattle.quic_wire_core.specs.declared.shared.EcnCodepoint.TheVariants.{Ect0}
use Rattle.quic_wire.specs.Value.{FrameValue, StreamValue, ping, padding, stream}
use Rattle.quic_congestion.specs.Congestion.{Sent, last_size}
use Rattle.quic_worked.specs.Settings.{plain_settings}
use Rattle.quic_machine.specs.declared.run.Answer.{Answer}
use Rattle.quic_machine.specs.declared.run.Answer.TheVariants as answers
use Rattle.quic_machine.specs.End.{IsMade}
use Rattle.quic_machine.specs.Control.{bytes_in_flight, is_window_full}
use Rattle.quic_machine.specs.Start.{AreStarted}
use Rattle.quic_machine.specs.Machine.{IsStep, Follows, view_of}
use Rattle.quic_headline.specs.Runs.{Run, In}
use Rattle.quic_headline.specs.Observer.{Sent as SentAs, HoldsOffset, watch, sents_until, acked_until}
use Rattle.quic_headline.specs.Headline.{IsHonest, IsRun}
use Rattle.quic_headline.specs.Polls.{GaveNothing, GaveAsking, IsFull, IsPaced, IsByteToGo, PollsSendWhatWaits, AskingGoesWhereLet, ProbesPass, WindowIsOfHistory, seen_at, flying, bytes_flying, IsHeldBack}
use Rattle.quic_worked.specs.Worked.{worked_policies, told_in, client_id, server_id, client_gives, once_written, once_sent, opens_stream, asks_datagram, gives_bytes, view_with, open_view, behind_ids, server_open}
use Rattle.quic_worked.specs.Broken.{IsNoRun}
use Rattle.quic_worked.specs.Reordered.{writes_bytes}
use Rattle.quic_worked.specs.Timed.{serves, asks_at}
use Rattle.quic_worked.specs.Held.{narrow_windows, held_start, held_events, held_answers, gives_nothing, once_held, held_view, full_view, held_run, silent_run, shrunk_view, shrunk_run, resized_view, resized_run, grown_run, overfull_run, unprobed_run, third_probe_run}
use Rattle.quic_headline.specs.Sizes.{SizeIsOfHistory, SizesMove}
use Rattle.quic_worked.proofs.Codes.{no_codes}
use Rattle.quic_worked.proofs.OwnIds.{AreOwn, BothOwn, own_ids, honest}
use Rattle.quic_worked.proofs.BrokenRuns.{IsRefused, stops, behind}
use Rattle.quic_worked.proofs.WorkedKeys.{are_keys}
use Rattle.quic_worked.proofs.WorkedHonest.{making}
use Rattle.quic_worked.proofs.WorkedRun.{parameters_say, opens as opens_first, writes as writes_first}
use Rattle.quic_worked.proofs.Steps.{counts_so}
use Rattle.quic_machine.specs.declared.run.View.{View}
use Rattle.quic_worked.proofs.Validated.{unless_limited}

-- ---- the premises

pub held_started : AreStarted held_start
held_started = record {
  client_making = record (making client_id) { windows = narrow_windows };
  server_making = record (making server_id) { windows = narrow_windows };
  client_is = record { range = record { receive_window = lit< tt; stream_receive_window = lit< tt; bounds = record { bidi = lit≤ tt; uni = lit≤ tt; divides = lit< tt; initial = lit≤ tt; least = lit≤ tt }; search = tt }; sizes = lit≤ tt; says = parameters_say; id = refl };
  server_is = record { range = record { receive_window = lit< tt; stream_receive_window = lit< tt; bounds = record { bidi = lit≤ tt; uni = lit≤ tt; divides = lit< tt; initial = lit≤ tt; least = lit≤ tt }; search = tt }; sizes = lit≤ tt; says = parameters_say; id = refl };
  client = subst (λ read. IsMade Client plain_settings narrow_windows read client_id server_id 0 0 true (λ n. 63) held_start.client) (sym parameters_say) refl;
  server = subst (λ read. IsMade Server plain_settings narrow_windows read server_id client_id 0 0 true (λ n. 63) held_start.server) (sym parameters_say) refl;
  client_gave = refl;
  server_gave = refl;
  client_heard = refl;
  server_heard = refl;
}

own : (side : Side) → AreOwn side [] held_run.events held_run.answers held_run.views
own Client = (tt, (inl refl, (tt, (tt, (tt, (tt, (tt, (tt, tt))))))))
own Server = (tt, (tt, (tt, (tt, (tt, (tt, (tt, (tt, tt))))))))

pub held_is_honest : IsHonest held_run
held_is_honest = record { start = held_started; keys = are_keys; ids = own_ids held_run own }

-- ---- the machine's run

pub opens : IsStep worked_policies held_start opens_stream (answers.Open (Some 0)) (once_held 1)
unfolding once_held
opens = record { answer = refl; end = refl; control = refl; heard = counts_so worked_policies held_start opens_stream (answers.Open (Some 0)); openings = tt; others = refl; lacking = tt }

pub writes : IsStep worked_policies (once_held 1) (writes_bytes (replicate 4000 0x61)) (answers.Write (Ok 4000)) (once_held 2)
unfolding once_held
writes = record { answer = inl refl; end = refl; control = refl; heard = counts_so worked_policies (once_held 1) (writes_bytes (replicate 4000 0x61)) (answers.Write (Ok 4000)); openings = tt; others = refl; lacking = λ lacks. cc }

pub gives : IsStep worked_policies (once_held 2) (asks_at Client 0) (gives_bytes 1200) (once_held 3)
unfolding once_held
gives = record { answer = inl refl; end = refl; control = refl; heard = counts_so worked_policies (once_held 2) (asks_at Client 0) (gives_bytes 1200); openings = tt; others = refl; lacking = tt }

holds : IsStep worked_policies (once_held 3) (asks_at Client 0) gives_nothing (once_held 4)
unfolding once_held
holds = record { answer = inl refl; end = refl; control = refl; heard = counts_so worked_policies (once_held 3) (asks_at Client 0) gives_nothing; openings = tt; others = refl; lacking = tt }

expires : IsStep worked_policies (once_held 4) (serves Client 1024000000) (answers.Timeout (Ok tt)) (once_held 5)
unfolding once_held
expires = record { answer = inl refl; end = refl; control = refl; heard = counts_so worked_policies (once_held 4) (serves Client 1024000000) (answers.Timeout (Ok tt)); openings = tt; others = refl; lacking = tt }

probes : IsStep worked_policies (once_held 5) (asks_at Client 1024000000) (gives_bytes 1200) (once_held 6)
unfolding once_held
probes = record { answer = inl refl; end = refl; control = refl; heard = counts_so worked_policies (once_held 5) (asks_at Client 1024000000) (gives_bytes 1200); openings = tt; others = refl; lacking = tt }

probes_again : IsStep worked_policies (once_held 6) (asks_at Client 1024000000) (gives_bytes 1200) (once_held 7)
unfolding once_held
probes_again = record { answer = inl refl; end = refl; control = refl; heard = counts_so worked_policies (once_held 6) (asks_at Client 1024000000) (gives_bytes 1200); openings = tt; others = refl; lacking = tt }

holds_again : IsStep worked_policies (once_held 7) (asks_at Client 1024000000) gives_nothing (once_held 8)
unfolding once_held
holds_again = record { answer = inl refl; end = refl; control = refl; heard = counts_so worked_policies (once_held 7) (asks_at Client 1024000000) gives_nothing; openings = tt; others = refl; lacking = tt }

pub unset_seen : held_view (view_with None None) ≡ view_of (once_held 1)
unfolding once_held
unset_seen = refl

pub written_seen : held_view (view_with None None) ≡ view_of (once_held 2)
unfolding once_held
written_seen = refl

pub given_seen : full_view ≡ view_of (once_held 3)
unfolding once_held
given_seen = refl

held_seen : full_view ≡ view_of (once_held 4)
unfolding once_held
held_seen = refl

expired_seen : held_view (view_with (Some 2048000000) None) ≡ view_of (once_held 5)
unfolding once_held
expired_seen = refl

probed_seen : held_view (view_with (Some 3072000000) None) ≡ view_of (once_held 6)
unfolding once_held
probed_seen = refl

again_seen : held_view (view_with (Some 3072000000) None) ≡ view_of (once_held 7)
unfolding once_held
again_seen = refl

last_seen : held_view (view_with (Some 3072000000) None) ≡ view_of (once_held 8)
unfolding once_held
last_seen = refl

follows : Follows held_run.keys held_run.start held_run.events held_run.answers held_run.views (once_held 8)
follows = (once_held 1, opens, unset_seen, (once_held 2, writes, written_seen, (once_held 3, gives, given_seen, (once_held 4, holds, held_seen, (once_held 5, expires, expired_seen, (once_held 6, probes, probed_seen, (once_held 7, probes_again, again_seen, (once_held 8, holds_again, last_seen, refl))))))))

gave_three : held_run.from_client ≡ (once_held 8).from_client
unfolding once_held
gave_three = refl

gave_none : held_run.from_server ≡ (once_held 8).from_server
unfolding once_held
gave_none = refl

pub held_is_run : IsRun held_run (once_held 8)
held_is_run = record { codes = no_codes held_run.events refl; follows = follows; from_client = gave_three; from_server = gave_none }

-- ---- what is in flight, and what is told

-- nothing waits behind the datagram of the worked run, whose window has room
pub is_idle : (client_gives once_sent.client 0).end.path.app_limited ≡ true
unfolding once_sent
is_idle = refl

pub one_flies : bytes_in_flight (once_held 3).client ≡ 1200
unfolding once_held
one_flies = refl

pub is_full : is_window_full (once_held 3).client ≡ true
unfolding once_held
is_full = refl

pub not_limited : (once_held 4).client.path.app_limited ≡ false
unfolding once_held
not_limited = refl

pub two_probes : (once_held 5).client.tracking.probes ≡ 2
unfolding once_held
two_probes = refl

pub no_probe : (once_held 7).client.tracking.probes ≡ 0
unfolding once_held
no_probe = refl

pub all_fly : bytes_in_flight (once_held 8).client ≡ 3600
unfolding once_held
all_fly = refl

pub told_three : told_in Client worked_policies held_start held_events held_answers ≡ Sent 0 1200 0 ∷ Sent 1024000000 1200 1 ∷ Sent 1024000000 1200 2 ∷ []
unfolding once_held
told_three = refl

-- ---- what waits, and is held back

-- the frame of the datagram in flight, and the datagram as it was sent
abbrev first_frame : StreamValue
first_frame = record { id = 0; offset = 0; fin = false; bytes = replicate 976 0x61 }

abbrev first_sent : SentAs
first_sent = record { id = server_id; number = 0; reference = 0; frames = behind_ids (stream first_frame ∷ []); moment = 0; size = 1200; generation = 0 }

it_flies : flying held_run Client 4 ≡ first_sent ∷ []
unfolding once_held
it_flies = refl

none_acked : acked_until held_run Client 4 ≡ []
unfolding once_held
none_acked = refl

same_frame : (f g : StreamValue) → ◌≡◌ {A = FrameValue} (stream f) (stream g) → f ≡ g
same_frame f g e = cc

-- a datagram with ids and one STREAM frame holds no offset behind it
not_behind : (s : SentAs) (f : StreamValue) (id offset : ℕ) → s.frames ≡ behind_ids (stream f ∷ []) → f.offset + length f.bytes ≤ offset → HoldsOffset (s ∷ []) id offset → ⊥
not_behind s f id offset only ends h = elim (h.among) [ inl is ↦ here is | inr i ↦ absurd i ]
  where
    carried : h.sent ≡ s → In (stream h.frame) (behind_ids (stream f ∷ []))
    carried is = subst (λ (fs : List FrameValue). In (stream h.frame) fs) (ap (λ (x : SentAs). x.frames) is ∙ only) h.carried

    past : h.frame ≡ f → ⊥
    past is = let below : offset < f.offset + length f.bytes = subst (λ (g : StreamValue). offset < g.offset + length g.bytes) is h.below in omega (arith, below, ends)

    here : h.sent ≡ s → ⊥
    here is = go (carried is)
      where
        go : In (stream h.frame) (behind_ids (stream f ∷ [])) → ⊥
        go (inl e) = cc
        go (inr (inl e)) = cc
        go (inr (inr (inl e))) = cc
        go (inr (inr (inr (inl e)))) = cc
        go (inr (inr (inr (inr (inl e))))) = cc
        go (inr (inr (inr (inr (inr (inl e)))))) = cc
        go (inr (inr (inr (inr (inr (inr (inl e))))))) = cc
        go (inr (inr (inr (inr (inr (inr (inr (inl e)))))))) = past (same_frame h.frame f e)
        go (inr (inr (inr (inr (inr (inr (inr (inr none)))))))) = none

pub none_given : GaveNothing held_run Client 3 0 full_view
none_given = record { poll = record { event = refl; answer = refl }; shown = refl; opened = refl }

pub byte_waits : IsByteToGo held_run Client 4 0 976
byte_waits = record {
  written = lit< tt;
  kept = refl;
  not_flying = λ h. not_behind first_sent first_frame 0 976 refl (lit≤ tt) (subst (λ (ss : List SentAs). HoldsOffset ss 0 976) it_flies h);
  not_acked = λ h. (subst (λ (ss : List SentAs). HoldsOffset ss 0 976) none_acked h).among;
}

so_many : bytes_flying held_run Client 4 ≡ 1200
unfolding once_held
so_many = refl

pub window_is_full : IsFull held_run Client 4 full_view
window_is_full = let same : bytes_flying held_run Client 4 + 1200 ≡ 2400 = ap (λ (n : ℕ). n + 1200) so_many in subst (λ (n : ℕ). 2400 ≤ n) (sym same) (lit≤ tt)

-- ---- a client that doesn't ask its window

-- where no probe waits, what asks doesn't go past a full window, unless it is PING and zeros
full_asks : (r : Run) (i now : ℕ) (gave : GaveAsking r Client i now) → (watch r Client i).flight.probes ≡ 0 → (seen_at r Client i).window ≤ bytes_flying r Client i + (seen_at r Client i).current_mtu
    → ((zeros : ℕ) → gave.one.sent.frames ≡ ping ∷ replicate zeros padding → ⊥) → AskingGoesWhereLet r → ⊥
full_asks r i now gave none full other h = elim (h Client i now gave none) [ inl l ↦ (let room = l.room in omega (arith, full, room)) | inr p ↦ other p.zeros p.alone ]

-- the datagram as it was sent
abbrev next_sent : SentAs
next_sent = record { id = server_id; number = 1; reference = 0; frames = stream (record { id = 0; offset = 976; fin = false; bytes = replicate 1170 0x61 }) ∷ []; moment = 0; size = 1200; generation = 0 }

next_went : sents_until overfull_run Client 4 ≡ sents_until overfull_run Client 3 ++ next_sent ∷ []
unfolding once_held
next_went = refl

abbrev next_gave : GaveAsking overfull_run Client 3 0
next_gave = record { one = record { transmit = record { size = 1200; ecn = Some Ect0; remote = 0 }; poll = record { event = refl; answer = refl }; served = refl; sent = next_sent; went = next_went }; asks = refl }

none_before : (watch overfull_run Client 3).flight.probes ≡ 0
unfolding once_held
none_before = refl

one_before : bytes_flying overfull_run Client 3 ≡ 1200
unfolding once_held
one_before = refl

pub overfull_asks : AskingGoesWhereLet overfull_run → ⊥
overfull_asks = full_asks overfull_run 3 0 next_gave none_before (subst (λ (n : ℕ). 2400 ≤ n + 1200) (sym one_before) (lit≤ tt)) (λ zeros is. cc)

overfull_no : IsRefused (once_held 3) (asks_at Client 0) (gives_bytes 1200)
unfolding once_held
overfull_no (inl e) = cc
overfull_no (inr e) = cc

pub overfull_is_none : IsNoRun overfull_run
overfull_is_none = behind refl opens (behind refl writes (behind refl gives (stops _ _ _ _ _ overfull_no)))

overfull_own : (side : Side) → AreOwn side [] overfull_run.events overfull_run.answers overfull_run.views
overfull_own Client = (tt, (inl refl, (tt, (tt, tt))))
overfull_own Server = (tt, (tt, (tt, (tt, tt))))

pub overfull_is_honest : IsHonest overfull_run
overfull_is_honest = record { start = held_started; keys = are_keys; ids = own_ids overfull_run overfull_own }

-- ---- a client that keeps what it wrote

first_waits : IsByteToGo silent_run Client 3 0 0
first_waits = record { written = lit< tt; kept = refl; not_flying = λ h. h.among; not_acked = λ h. h.among }

-- its window has room, and it has no timer
not_full : IsFull silent_run Client 3 (record { client = open_view; server = server_open }) → ⊥
not_full f = let most : 12000 ≤ 1200 = f in omega (arith, most)

not_paced : IsPaced silent_run Client 3 (record { client = open_view; server = server_open }) → ⊥
not_paced p = let shown : ◌≡◌ {A = Option (Option ℕ)} (Some None) (Some (Some p.moment)) = p.shown in cc

pub silent_sends : PollsSendWhatWaits silent_run → ⊥
silent_sends h =
    let v : View = record { client = open_view; server = server_open } in
    elim (unless_limited silent_run Client 3 v (IsHeldBack silent_run Client 3 v) refl (h Client 2 0 0 v refl (record { poll = record { event = refl; answer = refl }; shown = refl; opened = refl }) (inl (0, first_waits)))) [
      | inl f ↦ not_full f
      | inr p ↦ not_paced p
    ]

silent_no : IsRefused once_written asks_datagram gives_nothing
unfolding once_sent
silent_no (inl e) = cc
silent_no (inr e) = cc

pub silent_is_none : IsNoRun silent_run
silent_is_none = behind refl opens_first (behind refl writes_first (stops _ _ _ _ _ silent_no))

silent_own : BothOwn silent_run
silent_own = record { start = refl; keys = refl; client = (tt, (inl refl, (tt, tt))); server = (tt, (tt, (tt, tt))) }

pub silent_is_honest : IsHonest silent_run
silent_is_honest = honest silent_run silent_own

-- ---- a client that shows another window

pub seems_full : IsFull shrunk_run Client 3 shrunk_view
seems_full = lit≤ tt

pub shrunk_window : WindowIsOfHistory shrunk_run → ⊥
shrunk_window h =
    let told = h Client 0 shrunk_view refl refl in
    let shows : ◌≡◌ {A = ℕ} 1 12000 = told.3 in
    cc

pub shrunk_is_none : IsNoRun shrunk_run
shrunk_is_none = silent_is_none

shrunk_own : BothOwn shrunk_run
shrunk_own = record { start = refl; keys = refl; client = (tt, (inl refl, (tt, tt))); server = (tt, (tt, (tt, tt))) }

pub shrunk_is_honest : IsHonest shrunk_run
shrunk_is_honest = honest shrunk_run shrunk_own

-- ---- a client that holds a probe back

pub two_wait : (watch unprobed_run Client 5).flight.probes ≡ 2
unfolding once_held
two_wait = refl

-- its poll gives nothing
none_goes : GaveAsking unprobed_run Client 5 1024000000 → ⊥
none_goes gave = let said : ◌≡◌ {A = Option Answer} (Some gives_nothing) (Some (answers.Poll (Ok (Some gave.one.transmit)))) = gave.one.poll.answer in cc

pub unprobed_passes : ProbesPass unprobed_run → ⊥
unprobed_passes h =
    let v : View = held_view (view_with (Some 2048000000) None) in
    none_goes
    (unless_limited unprobed_run Client 6 v (GaveAsking unprobed_run Client 5 1024000000 × ((watch unprobed_run Client 6).flight.probes + 1 ≡ (watch unprobed_run Client 5).flight.probes)) refl
    (h Client 5 1024000000 gives_nothing v refl (record { event = refl; answer = refl }) refl refl (subst (λ (n : ℕ). 0 < n) (sym two_wait) (lit< tt)))).0

unprobed_no : IsRefused (once_held 5) (asks_at Client 1024000000) gives_nothing
unfolding once_held
unprobed_no (inl e) = cc
unprobed_no (inr e) = cc

pub unprobed_is_none : IsNoRun unprobed_run
unprobed_is_none = behind refl opens (behind refl writes (behind refl gives (behind refl holds (behind refl expires (stops _ _ _ _ _ unprobed_no)))))

unprobed_own : (side : Side) → AreOwn side [] unprobed_run.events unprobed_run.answers unprobed_run.views
unprobed_own Client = (tt, (inl refl, (tt, (tt, (tt, (tt, tt))))))
unprobed_own Server = (tt, (tt, (tt, (tt, (tt, (tt, tt))))))

pub unprobed_is_honest : IsHonest unprobed_run
unprobed_is_honest = record { start = held_started; keys = are_keys; ids = own_ids unprobed_run unprobed_own }

-- ---- a client that lets a third probe pass

pub none_waits : (watch third_probe_run Client 7).flight.probes ≡ 0
unfolding once_held
none_waits = refl

three_fly : bytes_flying third_probe_run Client 7 ≡ 3600
unfolding once_held
three_fly = refl

-- the third probe as it was sent
abbrev third_sent : SentAs
third_sent = record {
  id = server_id;
  number = 3;
  reference = 0;
  frames = ping ∷ stream (record { id = 0; offset = 2924; fin = false; bytes = replicate 1076 0x61 }) ∷ [];
  moment = 1024000000;
  size = 1107;
  generation = 0;
}

third_went : sents_until third_probe_run Client 8 ≡ sents_until third_probe_run Client 7 ++ third_sent ∷ []
unfolding once_held
third_went = refl

abbrev third_gave : GaveAsking third_probe_run Client 7 1024000000
third_gave = record {
  one = record {
    transmit = record { size = 1107; ecn = Some Ect0; remote = 0 };
    poll = record { event = refl; answer = refl };
    served = refl;
    sent = third_sent;
    went = third_went;
  };
  asks = refl;
}

-- it is no probe of a size
not_padded : (zeros : ℕ) → third_sent.frames ≡ ping ∷ replicate zeros padding → ⊥
not_padded zero is = cc
not_padded (suc more) is = cc

pub third_asks : AskingGoesWhereLet third_probe_run → ⊥
third_asks = full_asks third_probe_run 7 1024000000 third_gave none_waits (subst (λ (n : ℕ). 2400 ≤ n + 1200) (sym three_fly) (lit≤ tt)) not_padded

third_no : IsRefused (once_held 7) (asks_at Client 1024000000) (gives_bytes 1107)
unfolding once_held
third_no (inl e) = cc
third_no (inr e) = cc

pub third_is_none : IsNoRun third_probe_run
third_is_none = behind refl opens (behind refl writes (behind refl gives (behind refl holds (behind refl expires (behind refl probes (behind refl probes_again (stops _ _ _ _ _ third_no)))))))

third_own : (side : Side) → AreOwn side [] third_probe_run.events third_probe_run.answers third_probe_run.views
third_own Client = (tt, (inl refl, (tt, (tt, (tt, (tt, (tt, (tt, tt))))))))
third_own Server = (tt, (tt, (tt, (tt, (tt, (tt, (tt, (tt, tt))))))))

pub third_is_honest : IsHonest third_probe_run
third_is_honest = record { start = held_started; keys = are_keys; ids = own_ids third_probe_run third_own }

-- ---- a client that shows another size of datagrams

pub resized_size : SizeIsOfHistory resized_run → ⊥
resized_size h =
    let told = h Client 0 resized_view refl refl in
    let step = told.2 in
    let nothing : told.1 ≡ [] = step.3 ∙ step.4.1 in
    let shows : ◌≡◌ {A = ℕ} 1452 1200 = told.3 ∙ ap (last_size 1200) nothing in
    omega (arith, shows)

pub grown_size : SizesMove grown_run → ⊥
grown_size h = elim (h Client 0 (record { client = open_view; server = server_open }) resized_view refl refl refl refl refl) [
  | inl same ↦ (let never : ◌≡◌ {A = ℕ} 1452 1200 = same in omega (arith, never))
  | inr moved ↦ elim moved [ inl grew ↦ grew.1.flew | inr fell ↦ (let never : 1452 < 1200 = fell.0 in omega (arith, never)) ]
]

resized_own : BothOwn resized_run
resized_own = record { start = refl; keys = refl; client = (tt, (inl refl, (tt, tt))); server = (tt, (tt, (tt, tt))) }

grown_own : BothOwn grown_run
grown_own = record { start = refl; keys = refl; client = (tt, (inl refl, (tt, tt))); server = (tt, (tt, (tt, tt))) }

pub resized_is_honest : IsHonest resized_run
resized_is_honest = honest resized_run resized_own

pub grown_is_honest : IsHonest grown_run
grown_is_honest = honest grown_run grown_own

pub resized_is_none : IsNoRun resized_run
resized_is_none = silent_is_none

pub grown_is_none : IsNoRun grown_run
grown_is_none = silent_is_none
