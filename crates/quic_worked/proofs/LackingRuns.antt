-- Where calls find no memory in a run, and where none does.
use Rattle.std.proofs.Common.{◌≡◌, ℕ, ◌≤◌, true, false, List, length, replicate, [], ◌∷◌, Option, Some, None, refl, inl, inr, sym, ◌∙◌, arith}
use Rattle.std.specs.Prelude.{◌==◌}
use Rattle.std.proofs.lemmas.Bool.{both_ways, eq-eqb}
use Rattle.quic_sets.specs.Offsets.{with_offsets}
use Rattle.quic_sets.specs.Pieces.{with_range, joining}
use Rattle.quic_wire_core.specs.declared.stream_id.Side.TheVariants.{Client}
use Rattle.quic_streams_state.specs.Reading.{is_closed}
use Rattle.quic_machine.specs.declared.run.RunEvent.{RunEvent}
use Rattle.quic_machine.specs.declared.run.Call.TheVariants as calls
use Rattle.quic_machine.specs.declared.run.Answer.{Answer}
use Rattle.quic_machine.specs.declared.run.View.{View}
use Rattle.quic_machine.specs.Machine.{World, Follows}
use Rattle.quic_headline.specs.Runs.{until}
use Rattle.quic_headline.specs.Undone.{IsSentOff}
use Rattle.quic_headline.specs.Amounts.{data_left, window_left}
use Rattle.quic_headline.specs.Headline.{IsHonest, IsRun}
use Rattle.quic_headline.specs.Lacking.{WriteTakes, TakesMemory, LacksWhereTaken}
use Rattle.quic_headline.specs.SendAnswers.{MayTake}
use Rattle.quic_worked.specs.Worked.{worked_policies, started, once_opened, once_written, once_ended, once_taken, once_read, write_lacks, finish_lacks, hello}
use Rattle.quic_worked.specs.Broken.{NeverAnswers, IsNever, IsNoRun, lets_expire, injects}
use Rattle.quic_worked.specs.Lacking.{lacking_run, finish_again, write_behind, timeout_lacks, idle_timeout, injected_lacks, failed_injection, long_message, resets_first, reset_lacks, stops_first, stop_lacks, sends_long, send_lacks}
use Rattle.quic_worked.proofs.Codes.{no_codes}
use Rattle.quic_worked.proofs.OwnIds.{honest}
use Rattle.quic_worked.proofs.WorkedHonest.{are_started}
use Rattle.quic_worked.proofs.WorkedRun.{opens, writes, finishes}
use Rattle.quic_worked.proofs.WorkedLacks as lacking
use Rattle.quic_worked.proofs.BrokenRuns.{IsRefused, stops, behind}

pub lacking_is_run : IsRun lacking_run once_ended
lacking_is_run = record {
  codes = no_codes lacking_run.events refl;
  follows = (once_opened, opens, refl, (once_opened, lacking.writes, refl, (once_written, writes, refl, (once_written, lacking.finishes, refl, (once_ended, finishes, refl, refl)))));
  from_client = refl;
  from_server = refl;
}

pub write_takes : TakesMemory lacking_run Client 1 (calls.Write 0 hello)
write_takes = record { opened = refl; sends = refl; takes = λ s. inr (inr (record { sends = refl; unended = refl; kept = refl; goes = refl }, inl (omega arith))) }

pub finish_takes : TakesMemory lacking_run Client 3 (calls.Finish 0)
finish_takes = (open_still, refl)
  where
    open_still : IsSentOff (until lacking_run Client 3) 0 → ⊥
    open_still (inl ended) = cc
    open_still (inr reset) = cc

-- ---- the machines

-- a run whose first answer is none of a step is none
pub never_so : (w : World) (event : RunEvent) (a : Answer) (events : List RunEvent) (told : List Answer) → IsNever w event a → NeverAnswers w (event ∷ events) (a ∷ told)
never_so w event a events told not_so = record { never = go }
  where
    go : (views : List View) (end : World) → Follows worked_policies w (event ∷ events) (a ∷ told) views end → ⊥
    go [] end f = f
    go (v ∷ views) end f = not_so f.0 f.1

pub finish_refuted : LacksWhereTaken finish_again → ⊥
finish_refuted clause = (clause Client 3 (calls.Finish 0) finish_lacks refl (record { event = refl; answer = refl }) refl).0 (inl refl)

pub finish_is_honest : IsHonest finish_again
finish_is_honest = honest finish_again (record { start = refl; keys = refl; client = (tt, (inl refl, (inl refl, (inl refl, tt)))); server = (tt, (tt, (tt, (tt, tt)))) })

pub no_finish : IsNoRun finish_again
no_finish = behind refl opens (behind refl writes (behind refl finishes (never_so _ _ _ _ _ lacking.not_ended)))

-- neither all data nor the send window is used up, and the stream is finished
data_some : (data_left write_behind are_started Client 3 == 0) ≡ false
unfolding are_started
data_some = refl

window_some : (window_left write_behind are_started Client 3 == 0) ≡ false
unfolding are_started
window_some = refl

pub write_refuted : LacksWhereTaken write_behind → ⊥
write_refuted clause =
    let takes : WriteTakes write_behind Client 3 0 (length hello) = clause Client 3 (calls.Write 0 hello) write_lacks refl (record { event = refl; answer = refl }) refl in
    elim (takes.takes are_started) [
      | inl none ↦ both_ways (data_left write_behind are_started Client 3 == 0) data_some (eq-eqb (data_left write_behind are_started Client 3) 0 none)
      | inr (inl full) ↦ both_ways (window_left write_behind are_started Client 3 == 0) window_some (eq-eqb (window_left write_behind are_started Client 3) 0 full)
      | inr (inr may) ↦ (let clash : true ≡ false = may.0.unended in cc)
    ]

pub write_is_honest : IsHonest write_behind
write_is_honest = honest write_behind (record { start = refl; keys = refl; client = (tt, (inl refl, (inl refl, (inl refl, tt)))); server = (tt, (tt, (tt, (tt, tt)))) })

pub no_write : IsNoRun write_behind
no_write = behind refl opens (behind refl writes (behind refl finishes (never_so _ _ _ _ _ lacking.not_closed)))

-- no timer of losses is set
pub timeout_refuted : LacksWhereTaken idle_timeout → ⊥
timeout_refuted clause =
    let takes = clause Client 0 (calls.Timeout 0) timeout_lacks refl (record { event = refl; answer = refl }) refl in
    let clash : ◌≡◌ {A = Option (Option ℕ)} (Some None) (Some (Some takes.1.moment)) = takes.1.set in
    cc

pub never_expires : IsNever started lets_expire timeout_lacks
never_expires next step = elim (step.lacking) [ inl loses ↦ (let clash : false ≡ true = loses.1 in cc) | inr failed ↦ cc ]

pub timeout_is_honest : IsHonest idle_timeout
timeout_is_honest = honest idle_timeout (record { start = refl; keys = refl; client = (tt, tt); server = (tt, tt) })

pub no_timeout : IsNoRun idle_timeout
no_timeout = never_so _ _ _ _ _ never_expires

pub never_resets : IsNever started resets_first reset_lacks
never_resets next step = let allowed = step.lacking refl in cc

-- all was read
closed_first : is_closed once_read.server.streams 0 ≡ true
unfolding once_taken with_offsets with_range joining
closed_first = refl

pub never_stops : IsNever once_read stops_first stop_lacks
never_stops next step = let clash : true ≡ false = sym closed_first ∙ step.lacking refl in cc

pub never_sends : IsNever started sends_long send_lacks
never_sends next step = let allowed = step.lacking refl in cc

pub message_refuted : LacksWhereTaken long_message → ⊥
message_refuted clause =
    let takes : MayTake long_message Client 0 true (replicate 1300 0) = (clause Client 0 sends_long.call send_lacks refl (record { event = refl; answer = refl }) refl).1 in
    let longest : ◌≡◌ {A = Option ℕ} (Some 1162) (Some takes.most) = takes.is_most in
    let same : ◌≡◌ {A = ℕ} 1162 takes.most = cc in
    let short : 1300 ≤ takes.most = takes.short in
    absurd (omega (arith, same, short))

pub message_is_honest : IsHonest long_message
message_is_honest = honest long_message (record { start = refl; keys = refl; client = (tt, tt); server = (tt, tt) })

pub no_message : IsNoRun long_message
no_message = never_so _ _ _ _ _ never_sends

pub injection_refuted : LacksWhereTaken failed_injection → ⊥
injection_refuted clause = clause Client 0 (injects Client []).call injected_lacks refl (record { event = refl; answer = refl }) refl

pub injection_is_honest : IsHonest failed_injection
injection_is_honest = honest failed_injection (record { start = refl; keys = refl; client = (tt, tt); server = (tt, tt) })

injection_no : IsRefused started (injects Client []) injected_lacks
injection_no e = cc

pub no_injection : IsNoRun failed_injection
no_injection = stops _ _ _ _ _ injection_no
