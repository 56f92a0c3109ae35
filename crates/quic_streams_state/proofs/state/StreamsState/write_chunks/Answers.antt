use Rattle.std.proofs.Common.{◌≡◌, ◌≤◌, ◌-◌, ◌^◌, [], Bool, true, Result, Ok, Err, sym, ap, subst, ◌∙◌, rules, arith, ℕ}
use Rattle.quic_send_buffer.specs.Source.{bytes_of}
use Rattle.quic_streams_parts.specs.declared.answers.Written.{Written}
use Rattle.quic_streams_parts.specs.declared.answers.WriteError.{WriteError}
use Rattle.quic_streams_parts.specs.declared.answers.WriteError.TheVariants as write_errors
use Rattle.quic_streams_state.specs.State.{room}
use Rattle.quic_streams_state.specs.Writing.{write_answer, chunks_of, after_write_chunks, write_chunks_answer}
use Rattle.quic_streams_state.proofs.Buffers.{refused_answer}
use Rattle.quic_streams_state.proofs.state.StreamsState.write_chunks.Goals as goal

pub returns-in-Err-clause-answer : goal.returns-in-Err-clause-answer
returns-in-Err-clause-answer c not =
    let is_open : c.args.is_open ≡ true = search rules in
    let told : c.refuse.result ≡ c.in-Err.error = c.refuse.ensures.answer (λ (e : c.refuse.result ≡ write_errors.Memory). not (ap (λ (x : WriteError). let r : Result Written WriteError = Err x in r) e)) in
    let le : room c.args.self.now.sending ≤ 2 ^ 64 - 1 = omega arith in
    let answer : Err c.in-Err.error ≡ write_answer true c.args.self.now c.args.id c.total_len-len.result = search rules in
    refused_answer c.args.self.now c.args.id c.total_len-len.result (2 ^ 64 - 1) c.args.chunks.now c.in-Err.error c.refuse.result c.args.is_open is_open c.total_len-len.ensures le answer told

pub returns-in-Err-clause-new : goal.returns-in-Err-clause-new
returns-in-Err-clause-new c =
    let is_open : c.args.is_open ≡ true = search rules in
    subst (λ (b : Bool). c.refuse.new.self ≡ (after_write_chunks b (Err c.refuse.result) c.args.self.now c.args.pending.now c.args.id c.args.chunks.now).state) (sym is_open) (c.refuse.ensures.new [])

pub returns-in-Err-clause-pending : goal.returns-in-Err-clause-pending
returns-in-Err-clause-pending c =
    let is_open : c.args.is_open ≡ true = search rules in
    subst (λ (b : Bool). c.refuse.new.pending ≡ (after_write_chunks b (Err c.refuse.result) c.args.self.now c.args.pending.now c.args.id c.args.chunks.now).pending) (sym is_open) (c.refuse.ensures.pending [])
