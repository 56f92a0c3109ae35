-- The run in which an application is told that a stream was reset, event by event; and a machine
-- that tells it nothing.
use Rattle.std.proofs.Common.{◌≡◌, true, false, None, Ok, refl, sym, ◌∙◌, inl, arith}
use Rattle.quic_wire_core.specs.declared.stream_id.Side.TheVariants.{Server}
use Rattle.quic_machine.specs.declared.answers.Received.TheVariants as receives
use Rattle.quic_machine.specs.declared.run.Answer.TheVariants as answers
use Rattle.quic_machine.specs.Calls.{end_tells}
use Rattle.quic_machine.specs.Machine.{IsStep, Follows, view_of}
use Rattle.quic_headline.specs.Headline.{IsHonest, IsRun}
use Rattle.quic_headline.specs.Events.{reading, ReadablesAreTold}
use Rattle.quic_worked.specs.Worked.{worked_policies, asks_datagram, gives_bytes}
use Rattle.quic_worked.specs.Broken.{IsNoRun}
use Rattle.quic_worked.specs.Reordered.{delivers_at, first_sent}
use Rattle.quic_worked.specs.Paired.{resets_with}
use Rattle.quic_worked.specs.Messages.{server_asks}
use Rattle.quic_worked.specs.Told.{tells_opened, tells_readable}
use Rattle.quic_worked.specs.Reset.{reset_run, reset_untold, once_reset, reset_sent, bytes_taken, bytes_told, reset_taken, reset_told, reset_end}
use Rattle.quic_worked.proofs.Codes.{AllSmall, small_codes}
use Rattle.quic_worked.proofs.Steps.{steps_so, StepsSo}
use Rattle.quic_worked.proofs.OwnIds.{honest}
use Rattle.quic_worked.proofs.BrokenRuns.{IsRefused, stops, behind}
use Rattle.quic_worked.proofs.ReorderedRun.{opened, first_written, opens as opens_first, writes_abc, gives_abc, one_waits, both_wait, sees_first}

pub resets : IsStep worked_policies first_sent (resets_with 7) (answers.Reset (Ok tt)) once_reset
unfolding once_reset
resets =
    let s : StepsSo worked_policies first_sent (resets_with 7) (answers.Reset (Ok tt)) once_reset = steps_so worked_policies first_sent (resets_with 7) (answers.Reset (Ok tt)) refl in
    record { answer = inl refl; end = s.end; control = s.control; heard = s.heard; openings = tt; others = s.others; lacking = λ lacks. cc }

pub gives_reset : IsStep worked_policies once_reset asks_datagram (gives_bytes 30) reset_sent
unfolding reset_sent
gives_reset =
    let s : StepsSo worked_policies once_reset asks_datagram (gives_bytes 30) reset_sent = steps_so worked_policies once_reset asks_datagram (gives_bytes 30) refl in
    record { answer = inl refl; end = s.end; control = s.control; heard = s.heard; openings = tt; others = s.others; lacking = tt }

takes_bytes : IsStep worked_policies reset_sent (delivers_at 0) (answers.Deliver receives.Taken) bytes_taken
unfolding bytes_taken
takes_bytes =
    let s : StepsSo worked_policies reset_sent (delivers_at 0) (answers.Deliver receives.Taken) bytes_taken = steps_so worked_policies reset_sent (delivers_at 0) (answers.Deliver receives.Taken) refl in
    record { answer = inl refl; end = s.end; control = s.control; heard = s.heard; openings = tt; others = s.others; lacking = tt }

bytes_opened : tells_opened ≡ answers.Event (end_tells bytes_taken.server)
unfolding bytes_taken
bytes_opened = refl

tells_bytes : IsStep worked_policies bytes_taken server_asks tells_opened bytes_told
tells_bytes =
    let s : StepsSo worked_policies bytes_taken server_asks tells_opened bytes_told = steps_so worked_policies bytes_taken server_asks tells_opened refl in
    record { answer = bytes_opened; end = s.end; control = s.control; heard = s.heard; openings = tt; others = s.others; lacking = tt }

takes_reset : IsStep worked_policies bytes_told (delivers_at 1) (answers.Deliver receives.Taken) reset_taken
unfolding reset_taken
takes_reset =
    let s : StepsSo worked_policies bytes_told (delivers_at 1) (answers.Deliver receives.Taken) reset_taken = steps_so worked_policies bytes_told (delivers_at 1) (answers.Deliver receives.Taken) refl in
    record { answer = inl refl; end = s.end; control = s.control; heard = s.heard; openings = tt; others = s.others; lacking = tt }

reset_readable : tells_readable ≡ answers.Event (end_tells reset_taken.server)
unfolding reset_taken
reset_readable = refl

tells_reset : IsStep worked_policies reset_taken server_asks tells_readable reset_told
tells_reset =
    let s : StepsSo worked_policies reset_taken server_asks tells_readable reset_told = steps_so worked_policies reset_taken server_asks tells_readable refl in
    record { answer = reset_readable; end = s.end; control = s.control; heard = s.heard; openings = tt; others = s.others; lacking = tt }

no_more : answers.Event None ≡ answers.Event (end_tells reset_told.server)
unfolding reset_taken
no_more = refl

tells_no_more : IsStep worked_policies reset_told server_asks (answers.Event None) reset_end
tells_no_more =
    let s : StepsSo worked_policies reset_told server_asks (answers.Event None) reset_end = steps_so worked_policies reset_told server_asks (answers.Event None) refl in
    record { answer = no_more; end = s.end; control = s.control; heard = s.heard; openings = tt; others = s.others; lacking = tt }

-- ---- what is seen

pub once_seen : one_waits ≡ view_of once_reset
unfolding once_reset
once_seen = refl

pub sent_seen : one_waits ≡ view_of reset_sent
unfolding reset_sent
sent_seen = refl

bytes_seen : both_wait ≡ view_of bytes_taken
unfolding bytes_taken
bytes_seen = refl

bytes_told_seen : both_wait ≡ view_of bytes_told
unfolding bytes_taken
bytes_told_seen = refl

reset_seen : both_wait ≡ view_of reset_taken
unfolding reset_taken
reset_seen = refl

reset_told_seen : both_wait ≡ view_of reset_told
unfolding reset_taken
reset_told_seen = refl

end_seen : both_wait ≡ view_of reset_end
unfolding reset_taken
end_seen = refl

-- ---- the run

follows : Follows reset_run.keys reset_run.start reset_run.events reset_run.answers reset_run.views reset_end
follows = (
  opened,
  opens_first,
  refl,
  (
    first_written,
    writes_abc,
    refl,
    (
      first_sent,
      gives_abc,
      sees_first,
      (
        once_reset,
        resets,
        once_seen,
        (
          reset_sent,
          gives_reset,
          sent_seen,
          (bytes_taken, takes_bytes, bytes_seen, (bytes_told, tells_bytes, bytes_told_seen, (reset_taken, takes_reset, reset_seen, (reset_told, tells_reset, reset_told_seen, (reset_end, tells_no_more, end_seen, refl))))),
        ),
      ),
    ),
  ),
)

gave : reset_run.from_client ≡ reset_end.from_client
unfolding reset_taken
gave = refl

gave_none : reset_run.from_server ≡ reset_end.from_server
unfolding reset_taken
gave_none = refl

codes_are : AllSmall reset_run.events
codes_are = (tt, (tt, (tt, (omega arith, (tt, (tt, (tt, (tt, (tt, (tt, tt))))))))))

pub reset_is_run : IsRun reset_run reset_end
reset_is_run = record { codes = small_codes reset_run.events codes_are; follows = follows; from_client = gave; from_server = gave_none }

pub reset_is_honest : IsHonest reset_run
reset_is_honest = honest reset_run (record {
  start = refl;
  keys = refl;
  client = (tt, (inl refl, (tt, (inl refl, (tt, (tt, (tt, (tt, (tt, (tt, tt))))))))));
  server = (tt, (tt, (tt, (tt, (tt, (tt, (tt, (tt, (tt, (tt, tt))))))))));
})

pub reset_waits : (reading reset_run Server 0 8).waits ≡ true
unfolding reset_taken
reset_waits = refl

pub reset_was_told : (reading reset_run Server 0 9).waits ≡ false
unfolding reset_taken
reset_was_told = refl

-- ---- it isn't told

untold_waits : (reading reset_untold Server 0 8).waits ≡ true
unfolding reset_taken
untold_waits = refl

pub reset_untold_shows : ReadablesAreTold reset_untold → ⊥
reset_untold_shows h =
    let is : true ≡ false = sym untold_waits ∙ h Server 8 0 refl (record { event = refl; answer = refl }) in
    cc

pub reset_untold_is_honest : IsHonest reset_untold
reset_untold_is_honest = honest reset_untold (record {
  start = refl;
  keys = refl;
  client = (tt, (inl refl, (tt, (inl refl, (tt, (tt, (tt, (tt, (tt, tt)))))))));
  server = (tt, (tt, (tt, (tt, (tt, (tt, (tt, (tt, (tt, tt)))))))));
})

silent_no : IsRefused reset_taken server_asks (answers.Event None)
silent_no silent = let is = reset_readable ∙ sym silent in cc

pub no_reset_untold : IsNoRun reset_untold
no_reset_untold = behind refl opens_first (behind refl writes_abc (behind refl gives_abc (behind refl resets (behind refl gives_reset (behind refl takes_bytes (behind refl tells_bytes (behind refl takes_reset (stops _ _ _ _ _ silent_no))))))))
