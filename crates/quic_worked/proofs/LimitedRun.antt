-- The run in which each limit binds a write in turn, event by event; it meets the premises, and its
-- writes take what is left. And machines whose writes don't.
use Rattle.std.proofs.Common.{◌≡◌, ℕ, [], ◌∷◌, Some, Result, Ok, Err, true, false, refl, inl, inr, sym, ap, ◌∙◌, subst, lit<, lit≤, arith}
use Rattle.quic_wire_core.specs.declared.stream_id.Side.{Side}
use Rattle.quic_wire_core.specs.declared.stream_id.Side.TheVariants.{Client, Server}
use Rattle.quic_wire_core.specs.declared.stream_id.Dir.{Dir}
use Rattle.quic_wire_core.specs.declared.stream_id.Dir.TheVariants.{Bi, Uni}
use Rattle.quic_streams_parts.specs.Dirs.{of}
use Rattle.quic_sets.specs.Offsets.{with_offsets}
use Rattle.quic_sets.specs.Pieces.{with_range, joining}
use Rattle.quic_parameters.specs.ParametersRead.{parameters_at, judged, values_met, met_in, met_within, met_after, whole_at, entry_at}
use Rattle.quic_config.specs.Transport.{parameters_of}
use Rattle.quic_streams_parts.specs.declared.answers.WriteError.{WriteError}
use Rattle.quic_streams_parts.specs.declared.answers.WriteError.TheVariants as write_errors
use Rattle.quic_machine.specs.declared.answers.Received.TheVariants as receives
use Rattle.quic_machine.specs.declared.run.ReadCall.{ReadCall}
use Rattle.quic_machine.specs.declared.run.Answer.TheVariants as answers
use Rattle.quic_machine.specs.declared.run.View.{View}
use Rattle.quic_machine.specs.End.{End, IsMade, MadeFrom}
use Rattle.quic_machine.specs.Start.{AreStarted}
use Rattle.quic_machine.specs.Machine.{IsStep, Follows, view_of}
use Rattle.quic_headline.specs.Headline.{IsHonest, IsRun}
use Rattle.quic_headline.specs.Observer.{took}
use Rattle.quic_headline.specs.Amounts.{was_stopped, taken_of, left_for, WritesTakeWhatLimitsAllow, data_limit}
use Rattle.quic_headline.specs.PeerLimits.{count_limit, KeepsTo}
use Rattle.quic_worked.specs.Worked.{with_server, steady, worked_policies, worked_parameters, client_id, server_id, once_opened, opens_stream, writes_hello, asks_datagram, delivers, accepts_stream, reads_stream, gives_bytes, sent_view, waiting_view, open_view}
use Rattle.quic_worked.specs.Acknowledged.{client_datagram, from_server}
use Rattle.quic_worked.specs.Paired.{writes_on, asks_server, client_hears}
use Rattle.quic_worked.specs.Broken.{IsNoRun}
use Rattle.quic_worked.specs.Credit.{eight_bounds, ReadsEight}
use Rattle.quic_worked.specs.Limited.{keeps_seven, takes_eight, narrow_parameters, limited_start, sixteen, limited_events, hello_nexts, limited_answers, limited_payload, raised_payload, limited_opened, limited_both, limited_first, limited_second, limited_blocked, limited_sent, limited_taken, limited_accepted, limited_read, limited_given, limited_heard, limited_third, limited_fourth, limited_end, limited_views, limited_run, few_taken, past_window, never_freed, LeavesAt, own_client}
use Rattle.quic_worked.proofs.WorkedRun.{ReadsSo, reads_at, parameters_say, opens as opens_first}
use Rattle.quic_worked.proofs.WorkedKeys.{are_keys}
use Rattle.quic_worked.proofs.WorkedHonest.{are_started}
use Rattle.quic_worked.proofs.Codes.{no_codes}
use Rattle.quic_worked.proofs.OwnIds.{AreOwn, BothOwn, own_ids, honest}
use Rattle.quic_worked.proofs.BrokenRuns.{IsRefused, stops, behind}
use Rattle.quic_worked.proofs.Steps.{counts_so}

-- ---- the start

pub narrow_say : parameters_at narrow_parameters ≡ Ok (parameters_of takes_eight)
unfolding parameters_at judged values_met met_in met_within met_after whole_at entry_at
narrow_say = refl

unfoldable pub limited_started : AreStarted limited_start
limited_started = record {
  client_making = record { settings = keeps_seven; windows = steady; parameters = worked_parameters; id = client_id; remote = 0; moment = 0; validated = true; words = λ n. 63 };
  server_making = record { settings = takes_eight; windows = steady; parameters = narrow_parameters; id = server_id; remote = 0; moment = 0; validated = true; words = λ n. 63 };
  client_is = record { range = record { receive_window = lit< tt; stream_receive_window = lit< tt; bounds = record { bidi = lit≤ tt; uni = lit≤ tt; divides = lit< tt; initial = lit≤ tt; least = lit≤ tt }; search = tt }; sizes = lit≤ tt; says = parameters_say; id = refl };
  server_is = record { range = record { receive_window = lit< tt; stream_receive_window = lit< tt; bounds = record { bidi = lit≤ tt; uni = lit≤ tt; divides = lit< tt; initial = lit≤ tt; least = lit≤ tt }; search = tt }; sizes = lit≤ tt; says = narrow_say; id = refl };
  client = subst (λ read. IsMade Client keeps_seven steady read client_id server_id 0 0 true (λ n. 63) limited_start.client) (sym narrow_say) refl;
  server = subst (λ read. IsMade Server takes_eight steady read server_id client_id 0 0 true (λ n. 63) limited_start.server) (sym parameters_say) refl;
  client_gave = refl;
  server_gave = refl;
  client_heard = refl;
  server_heard = refl;
}

-- ---- the events

abbrev pub both_open : View
both_open = record { client = open_view; server = open_view }

abbrev pub one_sent : View
one_sent = record { client = sent_view; server = open_view }

abbrev pub one_taken : View
one_taken = record { client = sent_view; server = waiting_view }

abbrev pub both_sent : View
both_sent = record { client = sent_view; server = sent_view }

abbrev pub one_heard : View
one_heard = record { client = waiting_view; server = sent_view }

pub opens : IsStep worked_policies limited_start opens_stream (answers.Open (Some 0)) limited_opened
opens = record { answer = refl; end = refl; control = refl; heard = counts_so worked_policies limited_start opens_stream (answers.Open (Some 0)); openings = tt; others = refl; lacking = tt }

pub opens_both : IsStep worked_policies limited_opened opens_stream (answers.Open (Some 4)) limited_both
opens_both = record { answer = refl; end = refl; control = refl; heard = counts_so worked_policies limited_opened opens_stream (answers.Open (Some 4)); openings = tt; others = refl; lacking = tt }

pub writes_first : IsStep worked_policies limited_both (writes_on 0 sixteen) (answers.Write (Ok 5)) limited_first
writes_first = record { answer = inl refl; end = refl; control = refl; heard = counts_so worked_policies limited_both (writes_on 0 sixteen) (answers.Write (Ok 5)); openings = tt; others = refl; lacking = λ lacks. cc }

pub writes_second : IsStep worked_policies limited_first (writes_on 4 sixteen) (answers.Write (Ok 2)) limited_second
unfolding with_offsets with_range joining
writes_second = record { answer = inl refl; end = refl; control = refl; heard = counts_so worked_policies limited_first (writes_on 4 sixteen) (answers.Write (Ok 2)); openings = tt; others = refl; lacking = λ lacks. cc }

pub blocks : IsStep worked_policies limited_second (writes_on 4 sixteen) (answers.Write (Err write_errors.Blocked)) limited_blocked
unfolding with_offsets with_range joining
blocks = record { answer = inl refl; end = refl; control = refl; heard = counts_so worked_policies limited_second (writes_on 4 sixteen) (answers.Write (Err write_errors.Blocked)); openings = tt; others = refl; lacking = λ lacks. cc }

pub gives : IsStep worked_policies limited_blocked asks_datagram (gives_bytes 235) limited_sent
unfolding limited_sent
gives = record { answer = inl refl; end = refl; control = refl; heard = counts_so worked_policies limited_blocked asks_datagram (gives_bytes 235); openings = tt; others = refl; lacking = tt }

pub takes : IsStep worked_policies limited_sent delivers (answers.Deliver receives.Taken) limited_taken
unfolding limited_taken
takes = record { answer = inl refl; end = refl; control = refl; heard = counts_so worked_policies limited_sent delivers (answers.Deliver receives.Taken); openings = tt; others = refl; lacking = tt }

pub accepts : IsStep worked_policies limited_taken accepts_stream (answers.Accept (Some 0)) limited_accepted
unfolding limited_taken
accepts = record { answer = refl; end = refl; control = refl; heard = counts_so worked_policies limited_taken accepts_stream (answers.Accept (Some 0)); openings = tt; others = refl; lacking = tt }

reads_so : ReadsSo limited_accepted 0 true eight_bounds hello_nexts limited_read.server
unfolding limited_taken
reads_so = record { answer = (refl, (inl refl, tt)); lacking = (λ lacks. cc, tt); end = refl }

reads_only : limited_read ≡ with_server limited_accepted limited_read.server
reads_only = refl

pub reads : (read : ReadCall) → ReadsEight read → IsStep worked_policies limited_accepted (reads_stream read) (answers.Read (Ok hello_nexts)) limited_read
reads = reads_at limited_accepted limited_read 0 true eight_bounds hello_nexts reads_so reads_only

pub raises : IsStep worked_policies limited_read asks_server (gives_bytes 232) limited_given
unfolding limited_given
raises = record { answer = inl refl; end = refl; control = refl; heard = counts_so worked_policies limited_read asks_server (gives_bytes 232); openings = tt; others = refl; lacking = tt }

pub hears : IsStep worked_policies limited_given client_hears (answers.Deliver receives.Taken) limited_heard
unfolding limited_heard
hears = record { answer = inl refl; end = refl; control = refl; heard = counts_so worked_policies limited_given client_hears (answers.Deliver receives.Taken); openings = tt; others = refl; lacking = tt }

writes_third : IsStep worked_policies limited_heard (writes_on 0 sixteen) (answers.Write (Ok 5)) limited_third
unfolding limited_heard
writes_third = record { answer = inl refl; end = refl; control = refl; heard = counts_so worked_policies limited_heard (writes_on 0 sixteen) (answers.Write (Ok 5)); openings = tt; others = refl; lacking = λ lacks. cc }

writes_fourth : IsStep worked_policies limited_third (writes_on 4 sixteen) (answers.Write (Ok 1)) limited_fourth
unfolding limited_heard
writes_fourth = record { answer = inl refl; end = refl; control = refl; heard = counts_so worked_policies limited_third (writes_on 4 sixteen) (answers.Write (Ok 1)); openings = tt; others = refl; lacking = λ lacks. cc }

blocks_again : IsStep worked_policies limited_fourth (writes_on 4 sixteen) (answers.Write (Err write_errors.Blocked)) limited_end
unfolding limited_heard
blocks_again = record { answer = inl refl; end = refl; control = refl; heard = counts_so worked_policies limited_fourth (writes_on 4 sixteen) (answers.Write (Err write_errors.Blocked)); openings = tt; others = refl; lacking = λ lacks. cc }

pub sent_seen : one_sent ≡ view_of limited_sent
unfolding limited_sent
sent_seen = refl

pub taken_seen : one_taken ≡ view_of limited_taken
unfolding limited_taken
taken_seen = refl

pub accepted_seen : one_taken ≡ view_of limited_accepted
unfolding limited_taken
accepted_seen = refl

pub read_seen : one_taken ≡ view_of limited_read
unfolding limited_taken
read_seen = refl

pub given_seen : both_sent ≡ view_of limited_given
unfolding limited_given
given_seen = refl

pub heard_seen : one_heard ≡ view_of limited_heard
unfolding limited_heard
heard_seen = refl

third_seen : one_heard ≡ view_of limited_third
unfolding limited_heard
third_seen = refl

fourth_seen : one_heard ≡ view_of limited_fourth
unfolding limited_heard
fourth_seen = refl

end_seen : one_heard ≡ view_of limited_end
unfolding limited_heard
end_seen = refl

follows : (read : ReadCall) → ReadsEight read → Follows worked_policies limited_start (limited_events read) limited_answers limited_views limited_end
follows read by =
    let late : Follows worked_policies limited_read (asks_server ∷ client_hears ∷ writes_on 0 sixteen ∷ writes_on 4 sixteen ∷ writes_on 4 sixteen ∷ [])
    (gives_bytes 232 ∷ answers.Deliver receives.Taken ∷ answers.Write (Ok 5) ∷ answers.Write (Ok 1) ∷ answers.Write (Err write_errors.Blocked) ∷ []) (both_sent ∷ one_heard ∷ one_heard ∷ one_heard ∷ one_heard ∷ []) limited_end =
    (limited_given, raises, given_seen, (limited_heard, hears, heard_seen, (limited_third, writes_third, third_seen, (limited_fourth, writes_fourth, fourth_seen, (limited_end, blocks_again, end_seen, refl))))) in (
      limited_opened,
      opens,
      refl,
      (
        limited_both,
        opens_both,
        refl,
        (
          limited_first,
          writes_first,
          refl,
          (
            limited_second,
            writes_second,
            refl,
            (
              limited_blocked,
              blocks,
              refl,
              (limited_sent, gives, sent_seen, (limited_taken, takes, taken_seen, (limited_accepted, accepts, accepted_seen, (limited_read, reads read by, read_seen, late)))),
            ),
          ),
        ),
      ),
    )

gave_both : client_datagram 0 0 limited_payload ∷ [] ≡ limited_end.from_client
unfolding limited_heard
gave_both = refl

gave_limits : from_server 0 raised_payload ∷ [] ≡ limited_end.from_server
unfolding limited_heard
gave_limits = refl

pub limited_is_run : (read : ReadCall) → ReadsEight read → IsRun (limited_run read) limited_end
limited_is_run read by = record { codes = no_codes (limited_run read).events refl; follows = follows read by; from_client = gave_both; from_server = gave_limits }

-- ---- the premises

own : (read : ReadCall) → read.id ≡ 0 → (side : Side) → AreOwn side [] (limited_run read).events (limited_run read).answers (limited_run read).views
own read is Client = (tt, (tt, (inl refl, (inr (inl refl), (inr (inl refl), (tt, (tt, (tt, (tt, (tt, (tt, (inl refl, (inr (inl refl), (inr (inl refl), tt))))))))))))))
own read is Server = (tt, (tt, (tt, (tt, (tt, (tt, (tt, (tt, (inl is, (tt, (tt, (tt, (tt, (tt, tt))))))))))))))

pub limited_is_honest : (read : ReadCall) → read.id ≡ 0 → IsHonest (limited_run read)
limited_is_honest read is = record { start = limited_started; keys = are_keys; ids = own_ids (limited_run read) (own read is) }

-- ---- what is left before each write

first_left : (read : ReadCall) → LeavesAt read limited_started 2 0 8 5 7
unfolding limited_started
first_left read = record { all = refl; own = refl; window = refl }

second_left : (read : ReadCall) → LeavesAt read limited_started 3 4 3 5 2
unfolding limited_started
second_left read = record { all = refl; own = refl; window = refl }

none_left : (read : ReadCall) → LeavesAt read limited_started 4 4 1 3 0
unfolding limited_started
none_left read = record { all = refl; own = refl; window = refl }

third_left : (read : ReadCall) → LeavesAt read limited_started 11 0 6 5 7
unfolding limited_started limited_heard
third_left read = record { all = refl; own = refl; window = refl }

fourth_left : (read : ReadCall) → LeavesAt read limited_started 12 4 1 3 2
unfolding limited_started limited_heard
fourth_left read = record { all = refl; own = refl; window = refl }

end_left : (read : ReadCall) → LeavesAt read limited_started 13 4 0 2 1
unfolding limited_started limited_heard
end_left read = record { all = refl; own = refl; window = refl }

pub all_left : (read : ReadCall) → (s : AreStarted limited_start) × LeavesAt read s 2 0 8 5 7 × LeavesAt read s 3 4 3 5 2 × LeavesAt read s 4 4 1 3 0 × LeavesAt read s 11 0 6 5 7 × LeavesAt read s 12 4 1 3 2 × LeavesAt read s 13 4 0 2 1
all_left read = (limited_started, first_left read, second_left read, none_left read, third_left read, fourth_left read, end_left read)

-- ---- a write that takes less

-- all five may be taken
all_five : taken_of (left_for few_taken are_started Client 1 0) 5 ≡ Ok 5
unfolding are_started
all_five = refl

not_three : Ok 3 ≡ taken_of (left_for few_taken are_started Client 1 0) 5 → ⊥
not_three less = let clash : ◌≡◌ {A = Result ℕ WriteError} (Ok 3) (Ok 5) = less ∙ all_five in cc

pub few_shows : WritesTakeWhatLimitsAllow few_taken → ⊥
few_shows h = elim (h are_started Client 1 0 5 writes_hello.call (answers.Write (Ok 3)) refl (record { event = refl; answer = refl }) (refl, refl) refl (record { sends = refl; unended = refl; kept = refl; goes = refl })) [ inl lacks ↦ lack lacks | inr less ↦ not_three less ]
  where
    lack : ◌≡◌ {A = Result ℕ WriteError} (Ok 3) (Err write_errors.Memory) → ⊥
    lack e = cc

three_no : IsRefused once_opened writes_hello (answers.Write (Ok 3))
three_no (inl e) = cc
three_no (inr e) = cc

pub few_is_none : IsNoRun few_taken
few_is_none = behind refl opens_first (stops _ _ _ _ _ three_no)

few_own : BothOwn few_taken
few_own = record { start = refl; keys = refl; client = (tt, (inl refl, tt)); server = (tt, (tt, tt)) }

pub few_is_honest : IsHonest few_taken
few_is_honest = honest few_taken few_own

-- ---- writes that take more, or nothing

lack : (n : ℕ) → ◌≡◌ {A = Result ℕ WriteError} (Ok n) (Err write_errors.Memory) → ⊥
lack n e = cc

-- two may be taken
two_left : taken_of (left_for past_window limited_started Client 3 4) 16 ≡ Ok 2
unfolding limited_started
two_left = refl

not_past : Ok 3 ≡ taken_of (left_for past_window limited_started Client 3 4) 16 → ⊥
not_past more = let clash : ◌≡◌ {A = Result ℕ WriteError} (Ok 3) (Ok 2) = more ∙ two_left in cc

pub past_shows : WritesTakeWhatLimitsAllow past_window → ⊥
past_shows h = elim (h limited_started Client 3 4 16 (writes_on 4 sixteen).call (answers.Write (Ok 3)) refl (record { event = refl; answer = refl }) (refl, refl) refl (record { sends = refl; unended = refl; kept = refl; goes = refl })) [ inl lacks ↦ lack 3 lacks | inr more ↦ not_past more ]

past_no : IsRefused limited_first (writes_on 4 sixteen) (answers.Write (Ok 3))
unfolding with_offsets with_range joining
past_no (inl e) = cc
past_no (inr e) = cc

pub past_is_none : IsNoRun past_window
past_is_none = behind refl opens (behind refl opens_both (behind refl writes_first (stops _ _ _ _ _ past_no)))

past_own : (side : Side) → AreOwn side [] past_window.events past_window.answers past_window.views
past_own Client = (tt, (tt, (inl refl, (inr (inl refl), tt))))
past_own Server = (tt, (tt, (tt, (tt, tt))))

pub past_is_honest : IsHonest past_window
past_is_honest = record { start = limited_started; keys = are_keys; ids = own_ids past_window past_own }

-- five may be, once the acknowledgement came
five_left : (read : ReadCall) → taken_of (left_for (never_freed read) limited_started Client 11 0) 16 ≡ Ok 5
unfolding limited_started limited_heard
five_left read = refl

none_stopped : (read : ReadCall) → was_stopped 0 (took (never_freed read) Client 11) ≡ false
unfolding limited_heard
none_stopped read = refl

not_blocked : (read : ReadCall) → Err write_errors.Blocked ≡ taken_of (left_for (never_freed read) limited_started Client 11 0) 16 → ⊥
not_blocked read none = let clash : ◌≡◌ {A = Result ℕ WriteError} (Err write_errors.Blocked) (Ok 5) = none ∙ five_left read in cc

pub never_freed_shows : (read : ReadCall) → WritesTakeWhatLimitsAllow (never_freed read) → ⊥
never_freed_shows read h = elim (h limited_started Client 11 0 16 (writes_on 0 sixteen).call (answers.Write (Err write_errors.Blocked)) refl (record { event = refl; answer = refl }) (refl, refl) refl (record { sends = refl; unended = refl; kept = refl; goes = none_stopped read })) [ inl lacks ↦ no_memory lacks | inr none ↦ not_blocked read none ]
  where
    no_memory : ◌≡◌ {A = Result ℕ WriteError} (Err write_errors.Blocked) (Err write_errors.Memory) → ⊥
    no_memory e = cc

blocked_no : IsRefused limited_heard (writes_on 0 sixteen) (answers.Write (Err write_errors.Blocked))
unfolding limited_heard
blocked_no (inl e) = cc
blocked_no (inr e) = cc

pub never_freed_is_none : (read : ReadCall) → ReadsEight read → IsNoRun (never_freed read)
never_freed_is_none read by =
    behind refl opens (behind refl opens_both (behind refl writes_first (behind refl writes_second (behind refl blocks (behind refl gives (behind refl takes (behind refl accepts (behind refl (reads read by) (behind refl raises (behind refl hears (stops _ _ _ _ _ blocked_no)))))))))))

freed_own : (read : ReadCall) → read.id ≡ 0 → (side : Side) → AreOwn side [] (never_freed read).events (never_freed read).answers (never_freed read).views
freed_own read is Client = (tt, (tt, (inl refl, (inr (inl refl), (inr (inl refl), (tt, (tt, (tt, (tt, (tt, (tt, (inl refl, tt))))))))))))
freed_own read is Server = (tt, (tt, (tt, (tt, (tt, (tt, (tt, (tt, (inl is, (tt, (tt, (tt, tt))))))))))))

pub never_freed_is_honest : (read : ReadCall) → read.id ≡ 0 → IsHonest (never_freed read)
never_freed_is_honest read is = record { start = limited_started; keys = are_keys; ids = own_ids (never_freed read) (freed_own read is) }

-- ---- whose parameters count

first_counts : (dir : Dir) → of dir limited_start.client.streams.opening.own_limit ≡ count_limit (parameters_of takes_eight) dir []
first_counts Bi = refl
first_counts Uni = refl

pub keeps_told : KeepsTo (parameters_of takes_eight) Client [] limited_start.client
keeps_told = record { told = refl; all_data = refl; stream = λ id h there. absurd cc; count = first_counts; size = lit≤ tt }

pub told_thirteen : (read : ReadCall) → data_limit (parameters_of takes_eight) (took (limited_run read) Client 11) ≡ 13
unfolding limited_heard
told_thirteen read = refl

pub keeps_thirteen : limited_heard.client.streams.sending.limit ≡ 13
unfolding limited_heard
keeps_thirteen = refl

-- the peer takes eight bytes in all
pub keeps_own : KeepsTo (parameters_of takes_eight) Client [] own_client → ⊥
keeps_own k = let clash : ◌≡◌ {A = ℕ} 4611686018427387903 8 = k.all_data in omega (arith, clash)

pub never_own : MadeFrom Client keeps_seven steady narrow_parameters client_id server_id 0 0 true (λ n. 63) own_client → ⊥
never_own made =
    let is : own_client ≡ limited_start.client = subst (λ read. IsMade Client keeps_seven steady read client_id server_id 0 0 true (λ n. 63) own_client) narrow_say made in
    let clash : ◌≡◌ {A = ℕ} 4611686018427387903 8 = ap (λ (e : End). e.streams.sending.limit) is in
    omega (arith, clash)
