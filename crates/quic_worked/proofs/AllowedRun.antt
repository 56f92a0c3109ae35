-- Calls that are answered that their stream is closed, where that is so and where it isn't; and
-- messages that wait by the lists.
use Rattle.std.proofs.Common.{◌≡◌, [], ◌∷◌, take, true, false, Ok, Err, refl, sym, ◌∙◌, subst, inl, inr, List, None, lit<}
use Rattle.std.specs.Option.{IsSome}
use Rattle.std.proofs.lemmas.Bool.{eq-eqb}
use Rattle.quic_wire_core.specs.declared.stream_id.Side.{Side}
use Rattle.quic_wire_core.specs.declared.stream_id.Side.TheVariants.{Client, Server}
use Rattle.quic_streams_parts.specs.declared.answers.ReadableError.TheVariants as readable_errors
use Rattle.quic_streams_parts.specs.declared.answers.UpdateError.TheVariants as update_errors
use Rattle.quic_streams_parts.specs.declared.answers.FinishError.TheVariants as finish_errors
use Rattle.quic_streams_state.specs.Reading.{is_closed}
use Rattle.quic_machine.specs.declared.run.ReadCall.{ReadCall}
use Rattle.quic_machine.specs.declared.run.Call.TheVariants as calls
use Rattle.quic_machine.specs.declared.run.Answer.TheVariants as answers
use Rattle.quic_machine.specs.Machine.{World, IsStep, view_of}
use Rattle.quic_headline.specs.Runs.{Run, In, until, Packet, reset}
use Rattle.quic_headline.specs.Headline.{IsHonest, IsRun, AllArrived}
use Rattle.quic_headline.specs.Observer.{took}
use Rattle.quic_headline.specs.Undone.{IsSentOff}
use Rattle.quic_headline.specs.Allowed.{IsReadOff, ReadsAreAllowed, ReadsAreOver, WritesAreAllowed, ResetsAreAllowed}
use Rattle.quic_headline.specs.Lacking.{LacksWhereTaken}
use Rattle.quic_headline.specs.Queue.{waiting_messages, MessagesGo}
use Rattle.quic_worked.specs.Worked.{ran, worked_policies, started, ReadsBy, once_opened}
use Rattle.quic_worked.specs.Broken.{IsNever, IsNoRun}
use Rattle.quic_worked.specs.Messages.{ping_message}
use Rattle.quic_worked.specs.Held.{once_held}
use Rattle.quic_worked.specs.Faults.{both_open, silent_message, message_waits}
use Rattle.quic_worked.specs.Allowed.{opened_then, stops_stream, stopped_twice, stopped_again, stop_finds_none, finished_twice, reset_twice, reset_closed, reset_late, late_end}
use Rattle.quic_worked.proofs.OwnIds.{honest, AreOwn, own_ids}
use Rattle.quic_worked.specs.Acknowledged.{client_acked}
use Rattle.quic_worked.specs.Paired.{resets_with}
use Rattle.quic_worked.specs.Rested.{once_rested, still_view}
use Rattle.quic_worked.proofs.Codes.{AllSmall, small_codes}
use Rattle.quic_worked.proofs.BrokenRuns.{IsRefused, stops, behind, read_of}
use Rattle.quic_worked.proofs.WorkedKeys.{are_keys}
use Rattle.quic_worked.proofs.LackingRuns.{never_so}
use Rattle.quic_worked.proofs.WorkedRun.{opens}
use Rattle.quic_worked.proofs.FaultTimes.{kept_gave, kept_held}
use Rattle.quic_worked.proofs.RestedRun.{rested_started, until_rested, both_packets, end_in_hello, word_arrived}
use Rattle.quic_worked.proofs.Steps.{StepsSo, steps_so}
use Rattle.quic_worked.proofs.Validated.{unless_limited}
use Rattle.quic_headline.specs.Polls.{IsHeldBack}

-- ---- where it is so

pub stopped_off : IsReadOff (until stopped_twice Client 2) 0
stopped_off = inr (inr (inr refl))

pub finished_off : IsSentOff (until finished_twice Client 2) 0
finished_off = inl refl

pub twice_reset : IsSome (reset 0 (until reset_twice Client 2))
twice_reset = refl

-- ---- a reset of a stream of which all was acknowledged

late_resets : IsStep worked_policies (once_rested 13) (resets_with 7) reset_closed late_end
unfolding once_rested
late_resets =
    let s : StepsSo worked_policies (once_rested 13) (resets_with 7) reset_closed late_end = steps_so worked_policies (once_rested 13) (resets_with 7) reset_closed refl in
    record { answer = inl refl; end = s.end; control = s.control; heard = s.heard; openings = tt; others = s.others; lacking = λ lacks. cc }

late_seen : still_view ≡ view_of late_end
unfolding once_rested
late_seen = refl

late_gave : reset_late.from_client ≡ late_end.from_client
unfolding once_rested
late_gave = refl

late_answered : reset_late.from_server ≡ late_end.from_server
unfolding once_rested
late_answered = refl

-- the code of the reset is the only one
late_codes : AllSmall reset_late.events
late_codes = (tt, (tt, (tt, (tt, (tt, (tt, (tt, (tt, (tt, (tt, (tt, (tt, (tt, (lit< tt, tt))))))))))))))

pub late_is_run : IsRun reset_late late_end
late_is_run = record {
  codes = small_codes reset_late.events late_codes;
  follows = until_rested (resets_with 7 ∷ []) (reset_closed ∷ []) (still_view ∷ []) late_end (late_end, late_resets, late_seen, refl);
  from_client = late_gave;
  from_server = late_answered;
}

late_own : (side : Side) → AreOwn side [] reset_late.events reset_late.answers reset_late.views
late_own Client = (tt, (inl refl, (inl refl, (tt, (tt, (tt, (tt, (tt, (tt, (tt, (tt, (tt, (tt, (inl refl, tt))))))))))))))
late_own Server = (tt, (tt, (tt, (tt, (tt, (tt, (tt, (tt, (tt, (tt, (tt, (tt, (tt, (tt, tt))))))))))))))

pub late_is_honest : IsHonest reset_late
late_is_honest = record { start = rested_started; keys = are_keys; ids = own_ids reset_late late_own }

late_took : took reset_late Server 13 ≡ both_packets
unfolding client_acked
late_took = refl

all_in_hello : AllArrived both_packets 0 (until reset_late Client 13)
all_in_hello = record { ended = refl; bytes = word_arrived; end = end_in_hello }

pub late_arrived : AllArrived (took reset_late Server 13) 0 (until reset_late Client 13)
late_arrived = subst (λ (ps : List Packet). AllArrived ps 0 (until reset_late Client 13)) (sym late_took) all_in_hello

pub late_kept : reset 0 (until reset_late Client 13) ≡ None
late_kept = refl

-- ---- a read

abbrev reads_closed : ReadCall → Run
reads_closed read = opened_then (calls.Read read) (answers.Read (Err readable_errors.ClosedStream))

none_read : (read : ReadCall) → IsReadOff (until (reads_closed read) Client 1) 0 → ⊥
none_read read (inl e) = cc
none_read read (inr (inl e)) = cc
none_read read (inr (inr (inl e))) = cc
none_read read (inr (inr (inr e))) = cc

pub read_closed : (read : ReadCall) → ReadsBy (32 ∷ []) read → ReadsAreAllowed (reads_closed read) → ⊥
read_closed read by h = elim (h Client 1 0 (calls.Read read) (answers.Read (Err readable_errors.ClosedStream)) refl (record { event = refl; answer = refl }) (eq-eqb read.id 0 by.id)) [
  | inl off ↦ none_read read off
  | inr one_way ↦ cc
]

pub read_is_honest : (read : ReadCall) → ReadsBy (32 ∷ []) read → IsHonest (reads_closed read)
read_is_honest read by = honest (reads_closed read) (record { start = refl; keys = refl; client = (tt, (inl by.id, tt)); server = (tt, (tt, tt)) })

read_no : (read : ReadCall) → ReadsBy (32 ∷ []) read → IsRefused once_opened (record { side = Client; call = calls.Read read }) (answers.Read (Err readable_errors.ClosedStream))
read_no read by h = elim (read_of once_opened.client.streams 0 true (32 ∷ []) (answers.Read (Err readable_errors.ClosedStream)) read by h) [ inl e ↦ cc | inr e ↦ cc ]

pub read_is_none : (read : ReadCall) → ReadsBy (32 ∷ []) read → IsNoRun (reads_closed read)
read_is_none read by = behind refl opens (stops _ _ _ _ _ (read_no read by))

-- ---- a stop

abbrev stop_closed : Run
stop_closed = opened_then (calls.Stop 0 7) (answers.Stop (Err update_errors.ClosedStream))

none_stopped : IsReadOff (until stop_closed Client 1) 0 → ⊥
none_stopped (inl e) = cc
none_stopped (inr (inl e)) = cc
none_stopped (inr (inr (inl e))) = cc
none_stopped (inr (inr (inr e))) = cc

pub stop_shows : ReadsAreAllowed stop_closed → ⊥
stop_shows h = elim (h Client 1 0 (calls.Stop 0 7) (answers.Stop (Err update_errors.ClosedStream)) refl (record { event = refl; answer = refl }) refl) [
  | inl off ↦ none_stopped off
  | inr one_way ↦ cc
]

pub stop_is_honest : IsHonest stop_closed
stop_is_honest = honest stop_closed (record { start = refl; keys = refl; client = (tt, (inl refl, tt)); server = (tt, (tt, tt)) })

stop_no : IsRefused once_opened (record { side = Client; call = calls.Stop 0 7 }) (answers.Stop (Err update_errors.ClosedStream))
stop_no (inl e) = cc
stop_no (inr e) = cc

pub stop_is_none : IsNoRun stop_closed
stop_is_none = behind refl opens (stops _ _ _ _ _ stop_no)

-- ---- a stop of a stream that was stopped

pub again_shows : ReadsAreOver stopped_again → ⊥
again_shows h = (let kept = h Client 2 0 (calls.Stop 0 7) (answers.Stop (Ok tt)) refl (record { event = refl; answer = refl }) refl (inl (inr (inr (inr refl)))) in cc)

pub again_is_honest : IsHonest stopped_again
again_is_honest = honest stopped_again (record { start = refl; keys = refl; client = (tt, (inl refl, (inl refl, tt))); server = (tt, (tt, (tt, tt))) })

unfoldable pub once_halted : World
once_halted = ran worked_policies started (take 2 stopped_again.events) (take 2 stopped_again.answers)

pub halts : IsStep worked_policies once_opened stops_stream (answers.Stop (Ok tt)) once_halted
unfolding once_halted
halts =
    let s : StepsSo worked_policies once_opened stops_stream (answers.Stop (Ok tt)) once_halted = steps_so worked_policies once_opened stops_stream (answers.Stop (Ok tt)) refl in
    record { answer = inl refl; end = s.end; control = s.control; heard = s.heard; openings = tt; others = s.others; lacking = λ lacks. cc }

again_no : IsRefused once_halted stops_stream (answers.Stop (Ok tt))
unfolding once_halted
again_no (inl e) = cc
again_no (inr e) = cc

pub again_is_none : IsNoRun stopped_again
again_is_none = behind refl opens (behind refl halts (stops _ _ _ _ _ again_no))

pub finds_none_shows : ReadsAreOver stop_finds_none → ⊥
finds_none_shows h = (let kept = h Client 2 0 (calls.Stop 0 7) (answers.Stop (Err update_errors.Memory)) refl (record { event = refl; answer = refl }) refl (inl (inr (inr (inr refl)))) in cc)

pub finds_none_lacks : LacksWhereTaken stop_finds_none → ⊥
finds_none_lacks h = (h Client 2 (calls.Stop 0 7) (answers.Stop (Err update_errors.Memory)) refl (record { event = refl; answer = refl }) refl).0 (inr (inr (inr refl)))

pub finds_none_is_honest : IsHonest stop_finds_none
finds_none_is_honest = honest stop_finds_none (record { start = refl; keys = refl; client = (tt, (inl refl, (inl refl, tt))); server = (tt, (tt, (tt, tt))) })

halted_shut : is_closed once_halted.client.streams 0 ≡ true
unfolding once_halted
halted_shut = refl

never_stopped : IsNever once_halted stops_stream (answers.Stop (Err update_errors.Memory))
never_stopped next step = let clash : true ≡ false = sym halted_shut ∙ step.lacking refl in cc

pub finds_none_is_none : IsNoRun stop_finds_none
finds_none_is_none = behind refl opens (behind refl halts (never_so _ _ _ _ _ never_stopped))

-- ---- a finish

abbrev finish_closed : Run
finish_closed = opened_then (calls.Finish 0) (answers.Finish (Err finish_errors.ClosedStream))

pub finish_shows : WritesAreAllowed finish_closed → ⊥
finish_shows h = elim (h Client 1 0 (calls.Finish 0) (answers.Finish (Err finish_errors.ClosedStream)) refl (record { event = refl; answer = refl }) refl) [
  | inl off ↦ elim off [ inl e ↦ cc | inr some ↦ cc ]
  | inr one_way ↦ cc
]

pub finish_is_honest : IsHonest finish_closed
finish_is_honest = honest finish_closed (record { start = refl; keys = refl; client = (tt, (inl refl, tt)); server = (tt, (tt, tt)) })

finish_no : IsRefused once_opened (record { side = Client; call = calls.Finish 0 }) (answers.Finish (Err finish_errors.ClosedStream))
finish_no (inl e) = cc
finish_no (inr e) = cc

pub finish_is_none : IsNoRun finish_closed
finish_is_none = behind refl opens (stops _ _ _ _ _ finish_no)

-- ---- a reset

abbrev first_reset : Run
first_reset = opened_then (calls.Reset 0 7) reset_closed

pub reset_shows : ResetsAreAllowed first_reset → ⊥
reset_shows h = elim (h Client 1 0 (calls.Reset 0 7) reset_closed refl (record { event = refl; answer = refl }) refl) [
  | inl some ↦ cc
  | inr rest ↦ elim rest [ inl all ↦ (let never : false ≡ true = all.ended in cc) | inr one_way ↦ cc ]
]

pub reset_is_honest : IsHonest first_reset
reset_is_honest = honest first_reset (record { start = refl; keys = refl; client = (tt, (inl refl, tt)); server = (tt, (tt, tt)) })

reset_no : IsRefused once_opened (record { side = Client; call = calls.Reset 0 7 }) reset_closed
reset_no (inl e) = cc
reset_no (inr e) = cc

pub reset_is_none : IsNoRun first_reset
reset_is_none = behind refl opens (stops _ _ _ _ _ reset_no)

-- ---- messages

pub one_waits : waiting_messages message_waits Client 5 ≡ ping_message ∷ []
unfolding once_held
one_waits = refl

pub one_kept : waiting_messages silent_message Client 2 ≡ ping_message ∷ []
one_kept = refl

pub kept_shows : MessagesGo silent_message → ⊥
kept_shows h =
    kept_held (unless_limited silent_message Client 2 both_open (IsHeldBack silent_message Client 2 both_open) refl (h Client 1 0 ping_message both_open refl kept_gave (subst (In ping_message) (sym one_kept) (inl refl))))
