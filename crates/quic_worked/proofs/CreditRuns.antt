-- Runs in which limits are raised, event by event, and machines that raise them wrongly.
use Rattle.std.proofs.Common.{◌≡◌, ℕ, List, [], ◌∷◌, ◌++◌, take, Some, None, Ok, true, refl, inl, inr, sym, ap, ◌∙◌, arith}
use Rattle.quic_machine.specs.declared.answers.Received.TheVariants as receives
use Rattle.quic_machine.specs.declared.run.ReadCall.{ReadCall}
use Rattle.quic_machine.specs.declared.run.RunEvent.{RunEvent}
use Rattle.quic_machine.specs.declared.run.Answer.{Answer}
use Rattle.quic_machine.specs.declared.run.Answer.TheVariants as answers
use Rattle.quic_machine.specs.declared.run.View.{View}
use Rattle.quic_machine.specs.Machine.{IsStep, Follows, view_of}
use Rattle.quic_headline.specs.Headline.{IsRun}
use Rattle.quic_worked.specs.Worked.{with_server, worked_policies, hello, opens_stream, asks_datagram, delivers, accepts_stream, reads_stream, all_nexts, two_chunks, gives_bytes, sent_view, waiting_view, open_view}
use Rattle.quic_worked.specs.Acknowledged.{client_datagram, from_server}
use Rattle.quic_worked.specs.Paired.{writes_on, asks_server, client_hears}
use Rattle.quic_worked.specs.Broken.{NeverAnswers, IsNoRun}
use Rattle.quic_worked.specs.Machines.{NeverGives}
use Rattle.quic_worked.specs.Credit.{narrow_bytes, narrow_count, eight, credit_events, eight_bounds, eight_nexts, credit_answers, eight_payload, limit_payload, credit_opened, credit_written, credit_sent, credit_taken, credit_accepted, credit_read, credit_given, credit_heard, credit_used, opens_one_way, ends_one_way, accepts_one_way, count_front, count_events, count_answers, one_way_payload, count_payload, count_opened, count_refused, count_written, count_ended, count_sent, count_taken, count_accepted, count_read, count_given, count_heard, count_used, views_of_credit, credit_run, count_run, ReadsEight, ReadsOneWay, never_raised, one_below, never_given_back, never_opened}
use Rattle.quic_worked.proofs.WorkedRun.{ReadsSo, reads_at}
use Rattle.quic_worked.proofs.Codes.{no_codes}
use Rattle.quic_worked.proofs.BrokenRuns.{IsRefused, stops, behind}
use Rattle.quic_worked.proofs.WrongRuns.{NeverEnds, ends_here, step_on}
use Rattle.quic_worked.proofs.WrongAcks.{byte_of}
use Rattle.quic_worked.proofs.Steps.{counts_so}

-- ---- what is seen

abbrev both_open : View
both_open = record { client = open_view; server = open_view }

abbrev one_sent : View
one_sent = record { client = sent_view; server = open_view }

abbrev one_taken : View
one_taken = record { client = sent_view; server = waiting_view }

abbrev both_sent : View
both_sent = record { client = sent_view; server = sent_view }

abbrev one_heard : View
one_heard = record { client = waiting_view; server = sent_view }

-- ---- bytes

pub opens : IsStep worked_policies narrow_bytes opens_stream (answers.Open (Some 0)) credit_opened
opens = record { answer = refl; end = refl; control = refl; heard = counts_so worked_policies narrow_bytes opens_stream (answers.Open (Some 0)); openings = tt; others = refl; lacking = tt }

pub writes : IsStep worked_policies credit_opened (writes_on 0 (eight ++ eight)) (answers.Write (Ok 8)) credit_written
writes = record { answer = inl refl; end = refl; control = refl; heard = counts_so worked_policies credit_opened (writes_on 0 (eight ++ eight)) (answers.Write (Ok 8)); openings = tt; others = refl; lacking = λ lacks. cc }

pub gives : IsStep worked_policies credit_written asks_datagram (gives_bytes 233) credit_sent
unfolding credit_sent
gives = record { answer = inl refl; end = refl; control = refl; heard = counts_so worked_policies credit_written asks_datagram (gives_bytes 233); openings = tt; others = refl; lacking = tt }

pub takes : IsStep worked_policies credit_sent delivers (answers.Deliver receives.Taken) credit_taken
unfolding credit_taken
takes = record { answer = inl refl; end = refl; control = refl; heard = counts_so worked_policies credit_sent delivers (answers.Deliver receives.Taken); openings = tt; others = refl; lacking = tt }

pub accepts : IsStep worked_policies credit_taken accepts_stream (answers.Accept (Some 0)) credit_accepted
unfolding credit_taken
accepts = record { answer = refl; end = refl; control = refl; heard = counts_so worked_policies credit_taken accepts_stream (answers.Accept (Some 0)); openings = tt; others = refl; lacking = tt }

reads_so : ReadsSo credit_accepted 0 true eight_bounds eight_nexts credit_read.server
unfolding credit_taken
reads_so = record { answer = (refl, (inl refl, tt)); lacking = (λ lacks. cc, tt); end = refl }

reads_only : credit_read ≡ with_server credit_accepted credit_read.server
reads_only = refl

pub reads : (read : ReadCall) → ReadsEight read → IsStep worked_policies credit_accepted (reads_stream read) (answers.Read (Ok eight_nexts)) credit_read
reads = reads_at credit_accepted credit_read 0 true eight_bounds eight_nexts reads_so reads_only

pub raises : IsStep worked_policies credit_read asks_server (gives_bytes 229) credit_given
unfolding credit_given
raises = record { answer = inl refl; end = refl; control = refl; heard = counts_so worked_policies credit_read asks_server (gives_bytes 229); openings = tt; others = refl; lacking = tt }

hears : IsStep worked_policies credit_given client_hears (answers.Deliver receives.Taken) credit_heard
unfolding credit_heard
hears = record { answer = inl refl; end = refl; control = refl; heard = counts_so worked_policies credit_given client_hears (answers.Deliver receives.Taken); openings = tt; others = refl; lacking = tt }

writes_on_more : IsStep worked_policies credit_heard (writes_on 0 eight) (answers.Write (Ok 8)) credit_used
unfolding credit_heard
writes_on_more = record { answer = inl refl; end = refl; control = refl; heard = counts_so worked_policies credit_heard (writes_on 0 eight) (answers.Write (Ok 8)); openings = tt; others = refl; lacking = λ lacks. cc }

sent_seen : one_sent ≡ view_of credit_sent
unfolding credit_sent
sent_seen = refl

taken_seen : one_taken ≡ view_of credit_taken
unfolding credit_taken
taken_seen = refl

accepted_seen : one_taken ≡ view_of credit_accepted
unfolding credit_taken
accepted_seen = refl

read_seen : one_taken ≡ view_of credit_read
unfolding credit_taken
read_seen = refl

given_seen : both_sent ≡ view_of credit_given
unfolding credit_given
given_seen = refl

heard_seen : one_heard ≡ view_of credit_heard
unfolding credit_heard
heard_seen = refl

used_seen : one_heard ≡ view_of credit_used
unfolding credit_heard
used_seen = refl

follows : (read : ReadCall) → ReadsEight read → Follows worked_policies narrow_bytes (credit_events read) credit_answers (views_of_credit 2) credit_used
follows read by = (
  credit_opened,
  opens,
  refl,
  (
    credit_written,
    writes,
    refl,
    (
      credit_sent,
      gives,
      sent_seen,
      (
        credit_taken,
        takes,
        taken_seen,
        (
          credit_accepted,
          accepts,
          accepted_seen,
          (
            credit_read,
            reads read by,
            read_seen,
            (credit_given, raises, given_seen, (credit_heard, hears, heard_seen, (credit_used, writes_on_more, used_seen, refl))),
          ),
        ),
      ),
    ),
  ),
)

gave_eight : client_datagram 0 0 eight_payload ∷ [] ≡ credit_used.from_client
unfolding credit_heard
gave_eight = refl

gave_limit : from_server 0 (limit_payload 16) ∷ [] ≡ credit_used.from_server
unfolding credit_heard
gave_limit = refl

pub credit_is_run : (read : ReadCall) → ReadsEight read → IsRun (credit_run read) credit_used
credit_is_run read by = record { codes = no_codes (credit_run read).events refl; follows = follows read by; from_client = gave_eight; from_server = gave_limit }

-- ---- limits that aren't raised

raised_no : IsRefused credit_read asks_server (answers.Poll (Ok None))
unfolding credit_given
raised_no (inl e) = cc
raised_no (inr e) = cc

pub no_never_raised : (read : ReadCall) → ReadsEight read → IsNoRun (never_raised read)
no_never_raised read by = behind refl opens (behind refl writes (behind refl gives (behind refl takes (behind refl accepts (behind refl (reads read by) (stops _ _ _ _ _ raised_no))))))

-- the limit that the datagram tells
right_limit : byte_of credit_given.from_server ≡ 16
unfolding credit_given
right_limit = refl

below_other : (from_server 0 (limit_payload 15) ∷ []) ≡ credit_given.from_server → ⊥
below_other e = let clash : ◌≡◌ {A = ℕ} 15 16 = ap byte_of e ∙ right_limit in omega (arith, clash)

not_below : (read : ReadCall) → ReadsEight read → NeverEnds (λ w. (from_server 0 (limit_payload 15) ∷ []) ≡ w.from_server) narrow_bytes (take 7 (credit_events read)) (take 7 credit_answers)
not_below read by = step_on refl opens (step_on refl writes (step_on refl gives (step_on refl takes (step_on refl accepts (step_on refl (reads read by) (step_on refl raises (ends_here below_other)))))))

pub no_one_below : (read : ReadCall) → ReadsEight read → NeverGives (one_below read)
no_one_below read by views end is = (not_below read by).never views end is.follows is.from_server

-- ---- a count

pub counts_open : IsStep worked_policies narrow_count opens_one_way (answers.Open (Some 2)) count_opened
counts_open = record { answer = refl; end = refl; control = refl; heard = counts_so worked_policies narrow_count opens_one_way (answers.Open (Some 2)); openings = tt; others = refl; lacking = tt }

pub refuses_second : IsStep worked_policies count_opened opens_one_way (answers.Open None) count_refused
refuses_second = record { answer = refl; end = refl; control = refl; heard = counts_so worked_policies count_opened opens_one_way (answers.Open None); openings = tt; others = refl; lacking = tt }

pub counts_write : IsStep worked_policies count_refused (writes_on 2 hello) (answers.Write (Ok 5)) count_written
counts_write = record { answer = inl refl; end = refl; control = refl; heard = counts_so worked_policies count_refused (writes_on 2 hello) (answers.Write (Ok 5)); openings = tt; others = refl; lacking = λ lacks. cc }

pub counts_end : IsStep worked_policies count_written ends_one_way (answers.Finish (Ok tt)) count_ended
counts_end = record { answer = inl refl; end = refl; control = refl; heard = counts_so worked_policies count_written ends_one_way (answers.Finish (Ok tt)); openings = tt; others = refl; lacking = λ lacks. cc }

pub counts_give : IsStep worked_policies count_ended asks_datagram (gives_bytes 230) count_sent
unfolding count_sent
counts_give = record { answer = inl refl; end = refl; control = refl; heard = counts_so worked_policies count_ended asks_datagram (gives_bytes 230); openings = tt; others = refl; lacking = tt }

pub counts_take : IsStep worked_policies count_sent delivers (answers.Deliver receives.Taken) count_taken
unfolding count_taken
counts_take = record { answer = inl refl; end = refl; control = refl; heard = counts_so worked_policies count_sent delivers (answers.Deliver receives.Taken); openings = tt; others = refl; lacking = tt }

pub counts_accept : IsStep worked_policies count_taken accepts_one_way (answers.Accept (Some 2)) count_accepted
unfolding count_taken
counts_accept = record { answer = refl; end = refl; control = refl; heard = counts_so worked_policies count_taken accepts_one_way (answers.Accept (Some 2)); openings = tt; others = refl; lacking = tt }

counts_read_so : ReadsSo count_accepted 2 true two_chunks all_nexts count_read.server
unfolding count_taken
counts_read_so = record { answer = (refl, (inl refl, (inl refl, tt))); lacking = (λ lacks. cc, (λ lacks. cc, tt)); end = refl }

counts_read_only : count_read ≡ with_server count_accepted count_read.server
counts_read_only = refl

pub counts_read : (read : ReadCall) → ReadsOneWay read → IsStep worked_policies count_accepted (reads_stream read) (answers.Read (Ok all_nexts)) count_read
counts_read = reads_at count_accepted count_read 2 true two_chunks all_nexts counts_read_so counts_read_only

pub gives_back : IsStep worked_policies count_read asks_server (gives_bytes 229) count_given
unfolding count_given
gives_back = record { answer = inl refl; end = refl; control = refl; heard = counts_so worked_policies count_read asks_server (gives_bytes 229); openings = tt; others = refl; lacking = tt }

pub counts_hear : IsStep worked_policies count_given client_hears (answers.Deliver receives.Taken) count_heard
unfolding count_heard
counts_hear = record { answer = inl refl; end = refl; control = refl; heard = counts_so worked_policies count_given client_hears (answers.Deliver receives.Taken); openings = tt; others = refl; lacking = tt }

opens_next : IsStep worked_policies count_heard opens_one_way (answers.Open (Some 6)) count_used
unfolding count_heard
opens_next = record { answer = refl; end = refl; control = refl; heard = counts_so worked_policies count_heard opens_one_way (answers.Open (Some 6)); openings = tt; others = refl; lacking = tt }

pub count_sent_seen : one_sent ≡ view_of count_sent
unfolding count_sent
count_sent_seen = refl

pub count_taken_seen : one_taken ≡ view_of count_taken
unfolding count_taken
count_taken_seen = refl

pub count_accepted_seen : one_taken ≡ view_of count_accepted
unfolding count_taken
count_accepted_seen = refl

pub count_read_seen : one_taken ≡ view_of count_read
unfolding count_taken
count_read_seen = refl

pub count_given_seen : both_sent ≡ view_of count_given
unfolding count_given
count_given_seen = refl

pub count_heard_seen : one_heard ≡ view_of count_heard
unfolding count_heard
count_heard_seen = refl

count_used_seen : one_heard ≡ view_of count_used
unfolding count_heard
count_used_seen = refl

counts_follow : (read : ReadCall) → ReadsOneWay read → Follows worked_policies narrow_count (count_events read) count_answers (views_of_credit 4) count_used
counts_follow read by = (
  count_opened,
  counts_open,
  refl,
  (
    count_refused,
    refuses_second,
    refl,
    (
      count_written,
      counts_write,
      refl,
      (
        count_ended,
        counts_end,
        refl,
        (
          count_sent,
          counts_give,
          count_sent_seen,
          (
            count_taken,
            counts_take,
            count_taken_seen,
            (
              count_accepted,
              counts_accept,
              count_accepted_seen,
              (
                count_read,
                counts_read read by,
                count_read_seen,
                (count_given, gives_back, count_given_seen, (count_heard, counts_hear, count_heard_seen, (count_used, opens_next, count_used_seen, refl))),
              ),
            ),
          ),
        ),
      ),
    ),
  ),
)

gave_word : client_datagram 0 0 one_way_payload ∷ [] ≡ count_used.from_client
unfolding count_heard
gave_word = refl

gave_count : from_server 0 (count_payload 2) ∷ [] ≡ count_used.from_server
unfolding count_heard
gave_count = refl

pub count_is_run : (read : ReadCall) → ReadsOneWay read → IsRun (count_run read) count_used
count_is_run read by = record { codes = no_codes (count_run read).events refl; follows = counts_follow read by; from_client = gave_word; from_server = gave_count }

-- ---- a count that isn't given back

back_no : IsRefused count_read asks_server (answers.Poll (Ok None))
unfolding count_given
back_no (inl e) = cc
back_no (inr e) = cc

-- behind the read
pub behind_count : {events : List RunEvent} {told : List Answer} → (read : ReadCall) → ReadsOneWay read → NeverAnswers count_read events told
    → NeverAnswers narrow_count (count_front ++ reads_stream read ∷ events) (take 8 count_answers ++ told)
behind_count read by not_so =
    behind refl counts_open (behind refl refuses_second (behind refl counts_write (behind refl counts_end (behind refl counts_give (behind refl counts_take (behind refl counts_accept (behind refl (counts_read read by) not_so)))))))

pub no_never_back : (read : ReadCall) → ReadsOneWay read → IsNoRun (never_given_back read)
no_never_back read by = behind_count read by (stops _ _ _ _ _ back_no)

opened_no : IsRefused count_heard opens_one_way (answers.Open None)
opened_no is = let clash : answers.Open None ≡ answers.Open (Some 6) = is ∙ sym opens_next.answer in cc

pub no_never_opened : (read : ReadCall) → ReadsOneWay read → IsNoRun (never_opened read)
no_never_opened read by = behind_count read by (behind refl gives_back (behind refl counts_hear (stops _ _ _ _ _ opened_no)))
