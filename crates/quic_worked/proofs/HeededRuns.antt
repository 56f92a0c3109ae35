-- Streams are opened in their order, and take nothing once they were stopped, in the run of two
-- streams; and machines of which that isn't so.
use Rattle.std.proofs.Common.{◌≡◌, ℕ, [], true, Some, Ok, Err, refl, sym, ◌∙◌, inl, inr, arith}
use Rattle.quic_wire_core.specs.declared.stream_id.Side.TheVariants.{Client}
use Rattle.quic_wire_core.specs.declared.stream_id.Dir.TheVariants.{Bi}
use Rattle.quic_streams_parts.specs.declared.answers.WriteError.TheVariants as write_errors
use Rattle.quic_machine.specs.declared.run.ReadCall.{ReadCall}
use Rattle.quic_machine.specs.declared.run.Call.TheVariants as calls
use Rattle.quic_machine.specs.declared.run.Answer.{Answer}
use Rattle.quic_machine.specs.declared.run.Answer.TheVariants as answers
use Rattle.quic_headline.specs.Observer.{took}
use Rattle.quic_headline.specs.Headline.{IsHonest}
use Rattle.quic_headline.specs.Amounts.{was_stopped}
use Rattle.quic_headline.specs.InOrder.{OpensInOrder}
use Rattle.quic_headline.specs.Stopped.{StoppedTakeNothing}
use Rattle.quic_headline.proofs.Amounts.InOrder.{opens_in_order}
use Rattle.quic_headline.proofs.Amounts.Stopped.{stopped_take_nothing}
use Rattle.quic_worked.specs.Worked.{both_steady, opens_stream}
use Rattle.quic_worked.specs.Broken.{IsNoRun}
use Rattle.quic_worked.specs.Reordered.{abc}
use Rattle.quic_worked.specs.Paired.{writes_on, ReadsSecond, second_bounds, stop_taken, nothing_told, reset_refused, paired_run}
use Rattle.quic_worked.specs.Heeded.{opened_backwards, written_on}
use Rattle.quic_worked.proofs.BrokenRuns.{IsRefused, stops, behind}
use Rattle.quic_worked.proofs.PairedRun as paired
use Rattle.quic_worked.proofs.OwnIds.{honest_steady}
use Rattle.quic_worked.proofs.PairedMachines.{is_honest, behind_given}

-- ---- opens

pub in_order : (read : ReadCall) → ReadsSecond second_bounds read → OpensInOrder (paired_run read)
in_order read by = opens_in_order (paired_run read) reset_refused (is_honest read by.id) (paired.is_run read by)

pub backwards : (read : ReadCall) → OpensInOrder (opened_backwards read) → ⊥
backwards read clause =
    let clash : ◌≡◌ {A = ℕ} 4 0 = clause Client 0 4 Bi refl (record { event = refl; answer = refl }) in
    omega (arith, clash)

pub h_backwards : (read : ReadCall) → IsHonest (opened_backwards read)
h_backwards read = honest_steady (opened_backwards read) (record { start = refl; keys = refl; client = (tt, (tt, tt)); server = (tt, (tt, tt)) })

first_no : IsRefused both_steady opens_stream (answers.Open (Some 4))
first_no is =
    let clash : answers.Open (Some 4) ≡ answers.Open (Some 0) = is ∙ sym paired.opens_first.answer in
    let numbers : ◌≡◌ {A = ℕ} 4 0 = cc in
    omega (arith, numbers)

pub no_backwards : (read : ReadCall) → IsNoRun (opened_backwards read)
no_backwards read = stops _ _ _ _ _ first_no

-- ---- stops

pub stop_came : (read : ReadCall) → was_stopped 4 (took (paired_run read) Client 16) ≡ true
unfolding stop_taken
stop_came read = refl

came_too : (read : ReadCall) → was_stopped 4 (took (written_on read) Client 16) ≡ true
unfolding stop_taken
came_too read = refl

pub heeded : (read : ReadCall) → ReadsSecond second_bounds read → StoppedTakeNothing (paired_run read)
heeded read by = stopped_take_nothing (paired_run read) reset_refused (is_honest read by.id) (paired.is_run read by)

pub unheeded : (read : ReadCall) → StoppedTakeNothing (written_on read) → ⊥
unheeded read clause =
    let clash : abc ≡ [] = clause Client 16 4 (calls.Write 4 abc) (answers.Write (Ok 3)) refl (record { event = refl; answer = refl }) (came_too read) in
    cc

pub h_written : (read : ReadCall) → read.id ≡ 4 → IsHonest (written_on read)
h_written read e = honest_steady (written_on read) (record {
  start = refl;
  keys = refl;
  client = (tt, (tt, (inl refl, (inr (inl refl), (inl refl, (tt, (tt, (tt, (tt, (tt, (tt, (tt, (tt, (tt, (tt, (tt, (inr (inl refl), tt)))))))))))))))));
  server = (tt, (tt, (tt, (tt, (tt, (tt, (tt, (tt, (tt, (inl refl, (inr (inl e), (inr (inl refl), (tt, (tt, (tt, (tt, (tt, tt)))))))))))))))));
})

-- the client refuses the write
write_no : IsRefused nothing_told (writes_on 4 abc) (answers.Write (Ok 3))
write_no (inl is) = no_write (elim paired.writes_no_more.answer [ inl same ↦ is ∙ sym same | inr lacks ↦ (let clash : answers.Write (Err (write_errors.Stopped 9)) ≡ answers.Write (Err write_errors.Memory) = lacks in cc) ])
  where
    no_write : ◌≡◌ {A = Answer} (answers.Write (Ok 3)) (answers.Write (Err (write_errors.Stopped 9))) → ⊥
    no_write same = cc
write_no (inr is) = let clash : ◌≡◌ {A = Answer} (answers.Write (Ok 3)) (answers.Write (Err write_errors.Memory)) = is in cc

pub no_written : (read : ReadCall) → ReadsSecond second_bounds read → IsNoRun (written_on read)
no_written read by =
    behind_given
    (behind refl paired.takes
    (behind refl paired.accepts_first
    (behind refl paired.accepts_both
    (behind refl paired.tells_reset (behind refl (paired.reads read by) (behind refl paired.stops (behind refl paired.gives_stop (behind refl paired.takes_stop (behind refl paired.tells_stop (behind refl paired.tells_nothing (stops _ _ _ _ _ write_no)))))))))))
