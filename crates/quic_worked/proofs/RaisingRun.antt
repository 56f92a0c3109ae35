-- The run in which a shut window holds limits back that were raised, event by event, and a machine
-- that keeps such limits back though nothing holds them.
use Rattle.std.proofs.Common.{◌≡◌, ◌⊎◌, ◌-◌, ◌^◌, ◌≤◌, ℕ, zero, suc, List, [], length, true, Option, Some, None, Ok, refl, inl, inr, sym, subst, lit<, lit≤, arith}
use Rattle.quic_wire_core.specs.declared.stream_id.Side.{Side}
use Rattle.quic_wire_core.specs.declared.stream_id.Side.TheVariants.{Client, Server}
use Rattle.quic_machine.specs.declared.answers.Received.TheVariants as receives
use Rattle.quic_machine.specs.declared.run.ReadCall.{ReadCall}
use Rattle.quic_machine.specs.declared.run.Answer.TheVariants as answers
use Rattle.quic_machine.specs.declared.run.View.{View}
use Rattle.quic_machine.specs.End.{IsMade}
use Rattle.quic_machine.specs.Start.{AreStarted}
use Rattle.quic_machine.specs.Machine.{IsStep, Follows, view_of}
use Rattle.quic_headline.specs.Runs.{Packet, In, until, reads as reads_of, bytes_of}
use Rattle.quic_headline.specs.Observer.{Sent, took}
use Rattle.quic_headline.specs.Headline.{IsHonest, IsRun}
use Rattle.quic_headline.specs.Duties.{AllData, StreamData}
use Rattle.quic_headline.specs.Grown.{HasGrown}
use Rattle.quic_headline.specs.Unread.{receive_window, stream_window}
use Rattle.quic_headline.specs.Credit.{all_consumed}
use Rattle.quic_headline.specs.Polls.{flying, GaveNothing, IsFull, IsHeldBack, IsLimited}
use Rattle.quic_headline.specs.Going.{IsToRaise, LimitsGo}
use Rattle.quic_worked.specs.Worked.{worked_policies, client_id, server_id, steady, shut, worked_parameters, with_server, hello, opens_stream, asks_datagram, delivers, accepts_stream, reads_stream, gives_bytes, sent_view, server_open, waiting_view}
use Rattle.quic_worked.specs.Broken.{IsNoRun}
use Rattle.quic_worked.specs.Credit.{eight_bounds, ReadsEight}
use Rattle.quic_worked.specs.Held.{gives_nothing}
use Rattle.quic_worked.specs.Limited.{takes_eight, narrow_parameters, hello_nexts, limited_read, limited_taken}
use Rattle.quic_worked.specs.Paired.{writes_on, asks_server}
use Rattle.quic_worked.specs.Settings.{plain_settings}
use Rattle.quic_worked.specs.Going.{shut_start, shut_events, shut_answers, shut_opened, shut_written, shut_sent, shut_taken, shut_accepted, shut_read, shut_end, shut_view, shut_run, limits_kept}
use Rattle.quic_worked.proofs.Codes.{no_codes}
use Rattle.quic_worked.proofs.OwnIds.{AreOwn, own_ids}
use Rattle.quic_worked.proofs.BrokenRuns.{IsRefused, stops, behind}
use Rattle.quic_worked.proofs.LimitedRun.{narrow_say, limited_started}
use Rattle.quic_worked.proofs.LimitedRun as limited
use Rattle.quic_worked.proofs.Steps.{counts_so}
use Rattle.quic_worked.proofs.Validated.{unless_limited}
use Rattle.quic_worked.proofs.WorkedKeys.{are_keys}
use Rattle.quic_worked.proofs.WorkedHonest.{in_range}
use Rattle.quic_worked.proofs.WorkedRun.{ReadsSo, reads_at, parameters_say}

-- ---- the premises

unfoldable shut_started : AreStarted shut_start
shut_started = record {
  client_making = record { settings = plain_settings; windows = steady; parameters = worked_parameters; id = client_id; remote = 0; moment = 0; validated = true; words = λ n. 63 };
  server_making = record { settings = takes_eight; windows = shut; parameters = narrow_parameters; id = server_id; remote = 0; moment = 0; validated = true; words = λ n. 63 };
  client_is = record { range = in_range; sizes = lit≤ tt; says = parameters_say; id = refl };
  server_is = record { range = record { receive_window = lit< tt; stream_receive_window = lit< tt; bounds = record { bidi = lit≤ tt; uni = lit≤ tt; divides = lit< tt; initial = lit≤ tt; least = lit≤ tt }; search = tt }; sizes = lit≤ tt; says = narrow_say; id = refl };
  client = subst (λ read. IsMade Client plain_settings steady read client_id server_id 0 0 true (λ n. 63) shut_start.client) (sym narrow_say) refl;
  server = subst (λ read. IsMade Server takes_eight shut read server_id client_id 0 0 true (λ n. 63) shut_start.server) (sym parameters_say) refl;
  client_gave = refl;
  server_gave = refl;
  client_heard = refl;
  server_heard = refl;
}

shut_own : (read : ReadCall) → read.id ≡ 0 → (side : Side) → AreOwn side [] (shut_run read).events (shut_run read).answers (shut_run read).views
shut_own read is Client = (tt, (inl refl, (tt, (tt, (tt, (tt, (tt, tt)))))))
shut_own read is Server = (tt, (tt, (tt, (tt, (tt, (inl is, (tt, tt)))))))

pub shut_is_honest : (read : ReadCall) → read.id ≡ 0 → IsHonest (shut_run read)
shut_is_honest read is = record { start = shut_started; keys = are_keys; ids = own_ids (shut_run read) (shut_own read is) }

-- ---- the machine's run

opens : IsStep worked_policies shut_start opens_stream (answers.Open (Some 0)) shut_opened
opens = record { answer = refl; end = refl; control = refl; heard = counts_so worked_policies shut_start opens_stream (answers.Open (Some 0)); openings = tt; others = refl; lacking = tt }

writes : IsStep worked_policies shut_opened (writes_on 0 hello) (answers.Write (Ok 5)) shut_written
writes = record { answer = inl refl; end = refl; control = refl; heard = counts_so worked_policies shut_opened (writes_on 0 hello) (answers.Write (Ok 5)); openings = tt; others = refl; lacking = λ lacks. cc }

gives : IsStep worked_policies shut_written asks_datagram (gives_bytes 230) shut_sent
unfolding shut_sent
gives = record { answer = inl refl; end = refl; control = refl; heard = counts_so worked_policies shut_written asks_datagram (gives_bytes 230); openings = tt; others = refl; lacking = tt }

takes : IsStep worked_policies shut_sent delivers (answers.Deliver receives.Taken) shut_taken
unfolding shut_taken
takes = record { answer = inl refl; end = refl; control = refl; heard = counts_so worked_policies shut_sent delivers (answers.Deliver receives.Taken); openings = tt; others = refl; lacking = tt }

accepts : IsStep worked_policies shut_taken accepts_stream (answers.Accept (Some 0)) shut_accepted
unfolding shut_taken
accepts = record { answer = refl; end = refl; control = refl; heard = counts_so worked_policies shut_taken accepts_stream (answers.Accept (Some 0)); openings = tt; others = refl; lacking = tt }

reads_so : ReadsSo shut_accepted 0 true eight_bounds hello_nexts shut_read.server
unfolding shut_taken
reads_so = record { answer = (refl, (inl refl, tt)); lacking = (λ lacks. cc, tt); end = refl }

reads_only : shut_read ≡ with_server shut_accepted shut_read.server
reads_only = refl

reads : (read : ReadCall) → ReadsEight read → IsStep worked_policies shut_accepted (reads_stream read) (answers.Read (Ok hello_nexts)) shut_read
reads = reads_at shut_accepted shut_read 0 true eight_bounds hello_nexts reads_so reads_only

holds : IsStep worked_policies shut_read asks_server gives_nothing shut_end
unfolding shut_end
holds = record { answer = inl refl; end = refl; control = refl; heard = counts_so worked_policies shut_read asks_server gives_nothing; openings = tt; others = refl; lacking = tt }

sent_seen : record { client = sent_view; server = server_open } ≡ view_of shut_sent
unfolding shut_sent
sent_seen = refl

taken_seen : shut_view ≡ view_of shut_taken
unfolding shut_taken
taken_seen = refl

accepted_seen : shut_view ≡ view_of shut_accepted
unfolding shut_taken
accepted_seen = refl

read_seen : shut_view ≡ view_of shut_read
unfolding shut_taken
read_seen = refl

held_seen : shut_view ≡ view_of shut_end
unfolding shut_end
held_seen = refl

follows : (read : ReadCall) → ReadsEight read → Follows worked_policies shut_start (shut_events read) shut_answers (shut_run read).views shut_end
follows read by = (
  shut_opened,
  opens,
  refl,
  (shut_written, writes, refl, (shut_sent, gives, sent_seen, (shut_taken, takes, taken_seen, (shut_accepted, accepts, accepted_seen, (shut_read, reads read by, read_seen, (shut_end, holds, held_seen, refl)))))),
)

gave_one : (read : ReadCall) → (shut_run read).from_client ≡ shut_end.from_client
unfolding shut_end
gave_one read = refl

gave_none : [] ≡ shut_end.from_server
unfolding shut_end
gave_none = refl

pub shut_is_run : (read : ReadCall) → ReadsEight read → IsRun (shut_run read) shut_end
shut_is_run read by = record { codes = no_codes (shut_run read).events refl; follows = follows read by; from_client = gave_one read; from_server = gave_none }

-- ---- limits that are to be said

pub none_given : (read : ReadCall) → GaveNothing (shut_run read) Server 6 0 shut_view
none_given read = record { poll = record { event = refl; answer = refl }; shown = refl; opened = refl }

pub window_is_full : (read : ReadCall) → IsFull (shut_run read) Server 7 shut_view
unfolding shut_taken
window_is_full read = lit≤ tt

-- by these windows and bytes the limit grew past the first
has_grown : (window used wide read_up : ℕ) → window ≡ wide → used ≡ read_up → HasGrown wide read_up (2 ^ 62 - 1) wide → HasGrown window used (2 ^ 62 - 1) window
has_grown window used wide read_up is used_is grew = rw (is, used_is) grew

five_at : (read : ReadCall) (id : ℕ) → id ≡ 0 → all_consumed (took (shut_run (record read { id = id })) Server 7) (until (shut_run (record read { id = id })) Server 7) ≡ 5
unfolding shut_taken
five_at read zero is = refl
five_at read (suc n) is = cc

read_at : (read : ReadCall) (id : ℕ) → id ≡ 0 → length (bytes_of (reads_of 0 (until (shut_run (record read { id = id })) Server 7))) ≡ 5
read_at read zero is = refl
read_at read (suc n) is = cc

all_wide : (read : ReadCall) → receive_window (shut_run read) shut_started Server ≡ 8
unfolding shut_started
all_wide read = refl

each_wide : (read : ReadCall) → stream_window (shut_run read) shut_started Server ≡ 5
unfolding shut_started
each_wide read = refl

none_flies : (read : ReadCall) → flying (shut_run read) Server 7 ≡ []
unfolding shut_taken
none_flies read = refl

none_came : (read : ReadCall) → took (shut_run read) Client 7 ≡ []
unfolding shut_taken
none_came read = refl

eight_grew : HasGrown 8 5 (2 ^ 62 - 1) 8
eight_grew = omega arith

five_grew : HasGrown 5 5 (2 ^ 62 - 1) 5
five_grew = omega arith

pub all_raised : (read : ReadCall) → read.id ≡ 0 → (s : AreStarted shut_start) × IsToRaise (shut_run read) Server 7 AllData (receive_window (shut_run read) s Server) (all_consumed (took (shut_run read) Server 7) (until (shut_run read) Server 7)) (2 ^ 62 - 1)
all_raised read is = (
  shut_started,
  record {
    first = has_grown (receive_window (shut_run read) shut_started Server) (all_consumed (took (shut_run read) Server 7) (until (shut_run read) Server 7)) 8 5 (all_wide read) (five_at read read.id is) eight_grew;
    flying = λ s limit among said. absurd (subst (λ (ss : List Sent). In s ss) (none_flies read) among);
    came = λ p limit among said. absurd (subst (λ (ps : List Packet). In p ps) (none_came read) among);
  },
)

pub stream_raised : (read : ReadCall) → read.id ≡ 0 → (s : AreStarted shut_start) × IsToRaise (shut_run read) Server 7 (StreamData 0) (stream_window (shut_run read) s Server) (length (bytes_of (reads_of 0 (until (shut_run read) Server 7)))) (2 ^ 62 - 1)
stream_raised read is = (
  shut_started,
  record {
    first = has_grown (stream_window (shut_run read) shut_started Server) (length (bytes_of (reads_of 0 (until (shut_run read) Server 7)))) 5 5 (each_wide read) (read_at read read.id is) five_grew;
    flying = λ s limit among said. absurd (subst (λ (ss : List Sent). In s ss) (none_flies read) among);
    came = λ p limit among said. absurd (subst (λ (ps : List Packet). In p ps) (none_came read) among);
  },
)

-- ---- a server that keeps them back

kept_five_at : (read : ReadCall) (id : ℕ) → id ≡ 0 → all_consumed (took (limits_kept (record read { id = id })) Server 10) (until (limits_kept (record read { id = id })) Server 10) ≡ 5
unfolding limited_taken
kept_five_at read zero is = refl
kept_five_at read (suc n) is = cc

kept_wide : (read : ReadCall) → receive_window (limits_kept read) limited_started Server ≡ 8
unfolding limited_started
kept_wide read = refl

kept_flies : (read : ReadCall) → flying (limits_kept read) Server 10 ≡ []
unfolding limited_taken
kept_flies read = refl

kept_came : (read : ReadCall) → took (limits_kept read) Client 10 ≡ []
unfolding limited_taken
kept_came read = refl

abbrev kept_view : View
kept_view = record { client = sent_view; server = waiting_view }

kept_free : (read : ReadCall) → IsHeldBack (limits_kept read) Server 10 kept_view ⊎ IsLimited (limits_kept read) Server 10 kept_view → ⊥
unfolding limited_taken
kept_free read h = elim (unless_limited (limits_kept read) Server 10 kept_view (IsHeldBack (limits_kept read) Server 10 kept_view) refl h) [
  | inl full ↦ (let most : 12000 ≤ 1200 = full in omega (arith, most))
  | inr paced ↦ (let shown : ◌≡◌ {A = Option (Option ℕ)} (Some None) (Some (Some paced.moment)) = paced.shown in cc)
]

pub kept_shows : (read : ReadCall) → read.id ≡ 0 → LimitsGo (limits_kept read) → ⊥
kept_shows read is h = kept_free read (h.all limited_started Server 9 0 kept_view refl (record { poll = record { event = refl; answer = refl }; shown = refl; opened = refl }) (record {
  first = has_grown (receive_window (limits_kept read) limited_started Server) (all_consumed (took (limits_kept read) Server 10) (until (limits_kept read) Server 10)) 8 5 (kept_wide read) (kept_five_at read read.id is) eight_grew;
  flying = λ s limit among said. absurd (subst (λ (ss : List Sent). In s ss) (kept_flies read) among);
  came = λ p limit among said. absurd (subst (λ (ps : List Packet). In p ps) (kept_came read) among);
}))

kept_own : (read : ReadCall) → read.id ≡ 0 → (side : Side) → AreOwn side [] (limits_kept read).events (limits_kept read).answers (limits_kept read).views
kept_own read is Client = (tt, (tt, (inl refl, (inr (inl refl), (inr (inl refl), (tt, (tt, (tt, (tt, (tt, tt))))))))))
kept_own read is Server = (tt, (tt, (tt, (tt, (tt, (tt, (tt, (tt, (inl is, (tt, tt))))))))))

pub kept_is_honest : (read : ReadCall) → read.id ≡ 0 → IsHonest (limits_kept read)
kept_is_honest read is = record { start = limited_started; keys = are_keys; ids = own_ids (limits_kept read) (kept_own read is) }

kept_no : IsRefused limited_read asks_server gives_nothing
unfolding limited_taken
kept_no (inl e) = cc
kept_no (inr e) = cc

pub kept_is_none : (read : ReadCall) → ReadsEight read → IsNoRun (limits_kept read)
kept_is_none read by = behind refl limited.opens (behind refl limited.opens_both (behind refl limited.writes_first (behind refl limited.writes_second (behind refl limited.blocks (behind refl limited.gives (behind refl limited.takes (behind refl limited.accepts (behind refl (limited.reads read by) (stops _ _ _ _ _ kept_no)))))))))
