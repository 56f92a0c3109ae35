-- The run in which the word is written in two buffers, event by event.
use Rattle.std.proofs.Common.{◌≡◌, ℕ, true, List, [], ◌∷◌, ◌++◌, take, ◌<◌, Ok, refl, inl, inr, sym, ap, subst, lit<, arith}
use Rattle.std.specs.declared.vec.Vec.{Vec}
use Rattle.std.specs.declared.alloc.Global.{Global}
use Rattle.quic_wire_core.specs.declared.stream_id.Side.TheVariants.{Client}
use Rattle.quic_streams_state.specs.Writing.{write_chunks_answer}
use Rattle.quic_machine.specs.declared.run.Answer.{Answer}
use Rattle.quic_machine.specs.declared.run.Answer.TheVariants as answers
use Rattle.quic_machine.specs.Machine.{IsStep, view_of}
use Rattle.quic_headline.specs.Runs.{until, joined, written}
use Rattle.quic_streams_parts.specs.declared.answers.Written.{Written}
use Rattle.quic_headline.specs.Headline.{IsHonest, IsRun}
use Rattle.quic_headline.specs.Buffers.{LieWithin, BuffersAreCounted}
use Rattle.quic_headline.proofs.Amounts.Buffers.{buffers_are_counted}
use Rattle.quic_worked.specs.Worked.{worked_policies, once_opened, finishes_stream, asks_datagram, gives_bytes, hello, hello_datagram, sent_view, server_open}
use Rattle.quic_worked.specs.Broken.{IsNoRun}
use Rattle.quic_worked.specs.Chunked.{writes_buffers, two_buffers, both_written, after_buffers, chunks_written, chunks_ended, chunks_sent, chunked_as, chunked_run, buffer_lost}
use Rattle.quic_worked.proofs.WorkedRun.{opens}
use Rattle.quic_worked.proofs.Codes.{no_codes}
use Rattle.quic_worked.proofs.OwnIds.{honest}
use Rattle.quic_worked.proofs.BrokenRuns.{IsRefused, stops, behind}
use Rattle.quic_worked.proofs.Steps.{StepsSo, steps_so}

-- what a write of buffers is answered
abbrev answer_to : List (List ℕ) → Answer
answer_to buffers = answers.WriteChunks (write_chunks_answer true once_opened.client.streams 0 buffers)

answered : answer_to two_buffers ≡ answers.WriteChunks (Ok both_written)
answered = refl

writes : (buffers : Vec (List ℕ) Global) → buffers.items ≡ two_buffers → IsStep worked_policies once_opened (writes_buffers buffers) (answers.WriteChunks (Ok both_written)) chunks_written
writes buffers are = record {
  answer = inl (subst (λ (cs : List (List ℕ)). answers.WriteChunks (Ok both_written) ≡ answer_to cs) (sym are) (sym answered));
  end = ap (λ (cs : List (List ℕ)). after_buffers once_opened.client cs) (sym are);
  control = refl;
  heard = refl;
  openings = tt;
  others = refl;
  lacking = λ lacks. cc;
}

finishes : IsStep worked_policies chunks_written finishes_stream (answers.Finish (Ok tt)) chunks_ended
finishes =
    let s : StepsSo worked_policies chunks_written finishes_stream (answers.Finish (Ok tt)) chunks_ended = steps_so worked_policies chunks_written finishes_stream (answers.Finish (Ok tt)) refl in
    record { answer = inl refl; end = s.end; control = s.control; heard = s.heard; openings = tt; others = s.others; lacking = λ lacks. cc }

gives : IsStep worked_policies chunks_ended asks_datagram (gives_bytes 230) chunks_sent
unfolding chunks_sent
gives =
    let s : StepsSo worked_policies chunks_ended asks_datagram (gives_bytes 230) chunks_sent = steps_so worked_policies chunks_ended asks_datagram (gives_bytes 230) refl in
    record { answer = inl refl; end = s.end; control = s.control; heard = s.heard; openings = tt; others = s.others; lacking = tt }

sent_seen : record { client = sent_view; server = server_open } ≡ view_of chunks_sent
unfolding chunks_sent
sent_seen = refl

gave_hello : hello_datagram ∷ [] ≡ chunks_sent.from_client
unfolding chunks_sent
gave_hello = refl

gave_none : [] ≡ chunks_sent.from_server
unfolding chunks_sent
gave_none = refl

pub is_run : (buffers : Vec (List ℕ) Global) → buffers.items ≡ two_buffers → IsRun (chunked_run buffers) chunks_sent
is_run buffers are = record {
  codes = no_codes (chunked_run buffers).events refl;
  follows = (once_opened, opens, refl, (chunks_written, writes buffers are, refl, (chunks_ended, finishes, refl, (chunks_sent, gives, sent_seen, refl))));
  from_client = gave_hello;
  from_server = gave_none;
}

pub wrote : (buffers : Vec (List ℕ) Global) → buffers.items ≡ two_buffers → written 0 (until (chunked_run buffers) Client 4) ≡ hello
wrote buffers are = ap (λ (cs : List (List ℕ)). take 5 (joined cs) ++ []) are

-- ---- a buffer that isn't counted

-- how many buffers count as accepted
abbrev counted : Answer → ℕ
counted (answers.WriteChunks (Ok w)) = w.chunks
counted a = 0

lost_no : (buffers : Vec (List ℕ) Global) → buffers.items ≡ two_buffers → IsRefused once_opened (writes_buffers buffers) (answers.WriteChunks (Ok (record { bytes = 5; chunks = 1 })))
lost_no buffers are (inl e) =
    let here = subst (λ (cs : List (List ℕ)). answers.WriteChunks (Ok (record { bytes = 5; chunks = 1 })) ≡ answer_to cs) are e in
    let clash : ◌≡◌ {A = ℕ} 1 2 = ap counted here in
    omega (arith, clash)
lost_no buffers are (inr e) = let clash : ◌≡◌ {A = ℕ} 1 0 = ap counted e in omega (arith, clash)

pub no_lost : (buffers : Vec (List ℕ) Global) → buffers.items ≡ two_buffers → IsNoRun (buffer_lost buffers)
no_lost buffers are = behind refl opens (stops _ _ _ _ _ (lost_no buffers are))

-- ---- how many are counted

chunked_honest : (said : Written) (buffers : Vec (List ℕ) Global) → IsHonest (chunked_as said buffers)
chunked_honest said buffers = honest (chunked_as said buffers) (record { start = refl; keys = refl; client = (tt, (inl refl, (inl refl, (tt, tt)))); server = (tt, (tt, (tt, (tt, tt)))) })

pub lost_honest : (buffers : Vec (List ℕ) Global) → IsHonest (buffer_lost buffers)
lost_honest buffers = chunked_honest (record { bytes = 5; chunks = 1 }) buffers

pub counted_right : (buffers : Vec (List ℕ) Global) → buffers.items ≡ two_buffers → BuffersAreCounted (chunked_run buffers)
counted_right buffers are = buffers_are_counted (chunked_run buffers) chunks_sent (chunked_honest both_written buffers) (is_run buffers are)

pub lost_shows : (buffers : Vec (List ℕ) Global) → buffers.items ≡ two_buffers → BuffersAreCounted (buffer_lost buffers) → ⊥
lost_shows buffers are h =
    let lie : LieWithin 5 two_buffers 1 = subst (λ (cs : List (List ℕ)). LieWithin 5 cs 1) are (h Client 1 0 buffers (record { bytes = 5; chunks = 1 }) refl (record { event = refl; answer = refl })) in
    let more : 5 < 5 = lie.no_more (lit< tt) in
    omega (arith, more)
