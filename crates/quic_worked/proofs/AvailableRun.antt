-- The run in which a client may open more streams, and is told so, event by event; and a machine
-- that doesn't tell it.
use Rattle.std.proofs.Common.{◌≡◌, ◌≤◌, [], ◌∷◌, None, refl, inl, arith}
use Rattle.quic_wire_core.specs.declared.stream_id.Side.{Side}
use Rattle.quic_wire_core.specs.declared.stream_id.Side.TheVariants.{Client, Server}
use Rattle.quic_wire_core.specs.declared.stream_id.Dir.TheVariants.{Uni}
use Rattle.quic_machine.specs.declared.run.ReadCall.{ReadCall}
use Rattle.quic_machine.specs.declared.run.Answer.TheVariants as answers
use Rattle.quic_machine.specs.Calls.{end_tells}
use Rattle.quic_machine.specs.Machine.{IsStep, Follows, view_of}
use Rattle.quic_headline.specs.Observer.{took}
use Rattle.quic_headline.specs.Headline.{IsHonest, IsRun}
use Rattle.quic_headline.specs.Amounts.{greatest}
use Rattle.quic_headline.specs.PeerLimits.{count_in}
use Rattle.quic_headline.specs.Events.{AvailableIsTold}
use Rattle.quic_headline.proofs.Events.Available.{available_is_told}
use Rattle.quic_worked.specs.Worked.{worked_policies, sent_view, waiting_view}
use Rattle.quic_worked.specs.Acknowledged.{client_acked, client_datagram, from_server}
use Rattle.quic_worked.specs.Broken.{IsNoRun}
use Rattle.quic_worked.specs.Paired.{client_asks}
use Rattle.quic_worked.specs.Credit.{ReadsOneWay, one_way_payload, count_payload, count_opened, count_refused, count_written, count_ended, count_sent, count_taken, count_accepted, count_read, count_given, count_heard}
use Rattle.quic_worked.specs.Available.{tells_more, tells_word, available_run, unavailable_run, more_told, word_told, none_told}
use Rattle.quic_worked.proofs.Codes.{no_codes}
use Rattle.quic_worked.proofs.OwnIds.{AreOwn, own_ids}
use Rattle.quic_worked.proofs.WorkedKeys.{are_keys}
use Rattle.quic_worked.proofs.BoundedRun.{counts_started}
use Rattle.quic_worked.proofs.BrokenRuns.{IsRefused, behind, stops}
use Rattle.quic_worked.proofs.Steps.{steps_so, StepsSo}
use Rattle.quic_worked.proofs.CreditRuns.{counts_open, refuses_second, counts_write, counts_end, counts_give, counts_take, counts_accept, counts_read, gives_back, counts_hear, count_sent_seen, count_taken_seen, count_accepted_seen, count_read_seen, count_given_seen, count_heard_seen, behind_count}

more_is : tells_more ≡ answers.Event (end_tells count_heard.client)
unfolding count_heard
more_is = refl

tells_first : IsStep worked_policies count_heard client_asks tells_more more_told
unfolding more_told
tells_first =
    let s : StepsSo worked_policies count_heard client_asks tells_more more_told = steps_so worked_policies count_heard client_asks tells_more refl in
    record { answer = more_is; end = s.end; control = s.control; heard = s.heard; openings = tt; others = s.others; lacking = tt }

word_is : tells_word ≡ answers.Event (end_tells more_told.client)
unfolding more_told
word_is = refl

tells_second : IsStep worked_policies more_told client_asks tells_word word_told
unfolding word_told
tells_second =
    let s : StepsSo worked_policies more_told client_asks tells_word word_told = steps_so worked_policies more_told client_asks tells_word refl in
    record { answer = word_is; end = s.end; control = s.control; heard = s.heard; openings = tt; others = s.others; lacking = tt }

none_is : answers.Event None ≡ answers.Event (end_tells word_told.client)
unfolding word_told
none_is = refl

tells_no_more : IsStep worked_policies word_told client_asks (answers.Event None) none_told
unfolding none_told
tells_no_more =
    let s : StepsSo worked_policies word_told client_asks (answers.Event None) none_told = steps_so worked_policies word_told client_asks (answers.Event None) refl in
    record { answer = none_is; end = s.end; control = s.control; heard = s.heard; openings = tt; others = s.others; lacking = tt }

more_seen : record { client = waiting_view; server = sent_view } ≡ view_of more_told
unfolding more_told
more_seen = refl

word_seen : record { client = waiting_view; server = sent_view } ≡ view_of word_told
unfolding word_told
word_seen = refl

none_seen : record { client = waiting_view; server = sent_view } ≡ view_of none_told
unfolding none_told
none_seen = refl

available_follows : (read : ReadCall) → ReadsOneWay read → Follows (available_run read).keys (available_run read).start (available_run read).events (available_run read).answers (available_run read).views none_told
available_follows read by = (
  count_opened,
  counts_open,
  refl,
  (
    count_refused,
    refuses_second,
    refl,
    (
      count_written,
      counts_write,
      refl,
      (
        count_ended,
        counts_end,
        refl,
        (
          count_sent,
          counts_give,
          count_sent_seen,
          (
            count_taken,
            counts_take,
            count_taken_seen,
            (
              count_accepted,
              counts_accept,
              count_accepted_seen,
              (
                count_read,
                counts_read read by,
                count_read_seen,
                (count_given, gives_back, count_given_seen, (count_heard, counts_hear, count_heard_seen, (more_told, tells_first, more_seen, (word_told, tells_second, word_seen, (none_told, tells_no_more, none_seen, refl))))),
              ),
            ),
          ),
        ),
      ),
    ),
  ),
)

gave_word : client_datagram 0 0 one_way_payload ∷ [] ≡ none_told.from_client
unfolding none_told
gave_word = refl

gave_count : from_server 0 (count_payload 2) ∷ [] ≡ none_told.from_server
unfolding none_told
gave_count = refl

pub available_is_run : (read : ReadCall) → ReadsOneWay read → IsRun (available_run read) none_told
available_is_run read by = record { codes = no_codes (available_run read).events refl; follows = available_follows read by; from_client = gave_word; from_server = gave_count }

available_own : (read : ReadCall) → read.id ≡ 2 → (side : Side) → AreOwn side [] (available_run read).events (available_run read).answers (available_run read).views
available_own read is Client = (tt, (tt, (inl refl, (inl refl, (tt, (tt, (tt, (tt, (tt, (tt, (tt, (tt, (tt, tt)))))))))))))
available_own read is Server = (tt, (tt, (tt, (tt, (tt, (tt, (tt, (inl is, (tt, (tt, (tt, (tt, (tt, tt)))))))))))))

available_is_honest : (read : ReadCall) → ReadsOneWay read → IsHonest (available_run read)
available_is_honest read by = record { start = counts_started; keys = are_keys; ids = own_ids (available_run read) (available_own read by.id) }

pub told_so : (read : ReadCall) → ReadsOneWay read → AvailableIsTold (available_run read)
told_so read by = available_is_told (available_run read) none_told (available_is_honest read by) (available_is_run read by)

-- two one-way streams may be opened by what came
two_came : (read : ReadCall) → greatest (count_in Uni) (took (unavailable_run read) Client 11) ≡ 2
unfolding client_acked
two_came read = refl

pub untold_not : (read : ReadCall) → AvailableIsTold (unavailable_run read) → ⊥
untold_not read h =
    let within : greatest (count_in Uni) (took (unavailable_run read) Client 11) ≤ 1 = h Client 11 Uni refl refl (record { event = refl; answer = refl }) in
    let two = two_came read in
    omega (arith, within)

untold_own : (read : ReadCall) → read.id ≡ 2 → (side : Side) → AreOwn side [] (unavailable_run read).events (unavailable_run read).answers (unavailable_run read).views
untold_own read is Client = (tt, (tt, (inl refl, (inl refl, (tt, (tt, (tt, (tt, (tt, (tt, (tt, (tt, tt))))))))))))
untold_own read is Server = (tt, (tt, (tt, (tt, (tt, (tt, (tt, (inl is, (tt, (tt, (tt, (tt, tt))))))))))))

pub untold_is_honest : (read : ReadCall) → ReadsOneWay read → IsHonest (unavailable_run read)
untold_is_honest read by = record { start = counts_started; keys = are_keys; ids = own_ids (unavailable_run read) (untold_own read by.id) }

word_no : IsRefused count_heard client_asks tells_word
unfolding count_heard
word_no e = cc

pub no_untold : (read : ReadCall) → ReadsOneWay read → IsNoRun (unavailable_run read)
no_untold read by = behind_count read by (behind refl gives_back (behind refl counts_hear (stops _ _ _ _ _ word_no)))
