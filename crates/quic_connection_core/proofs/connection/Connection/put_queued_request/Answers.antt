use Rattle.std.proofs.Common.{◌≡◌, ℕ, ◌+◌, ◌≤◌, false, List, ◌++◌, length, Some, ap, sym, ◌∙◌, arith}
use Rattle.std.specs.Prelude.{vec_len}
use Rattle.std.proofs.lemmas.List.{length-append}
use Rattle.quic_wire.specs.Value.{AckFrequencyValue, ack_frequency}
use Rattle.quic_wire.specs.Writing.{spelling, frame_size}
use Rattle.quic_wire.specs.FrameView.{ack_frequency_view}
use Rattle.quic_recovery_core.specs.AckFrequency.{micros}
use Rattle.quic_machine.specs.End.{ConnectionValue, with_end, with_frequency, with_frames, number_of}
use Rattle.quic_machine.specs.Poll.{request_of}
use Rattle.quic_connection_core.proofs.connection.Connection.put_queued_request.Goals as goal

-- how long what is written is, where bytes go behind others
long_of : (old bytes new : List ℕ) (a b : ℕ) → a ≡ length old → b ≡ length new → new ≡ old ++ bytes → b ≡ a + length bytes
long_of old bytes new a b one two is = two ∙ ap length is ∙ length-append old bytes ∙ ap (λ (n : ℕ). n + length bytes) (sym one)

-- they are as many as were counted
few_of : (a b size long : ℕ) → b ≡ a + long → b ≡ a + size → size ≤ 34 → long ≤ 34
few_of a b size long one two few = omega arith

-- the request waits no more, and its datagram has this number, and it asks for this delay
abbrev asked_in : {H K R C : Type 0} → ConnectionValue H K R C → ℕ → ℕ → ConnectionValue H K R C
asked_in w number delay = with_end w (with_frequency (with_frames w.end (record w.end.waiting.frames { ack_frequency = false })) (record w.end.frequency { in_flight = Some (record { packet = number; delay = delay }) }))

pub returns-clause-items : goal.returns-clause-items
returns-clause-items g c =
    c.put_ack_frequency.ensures.items ∙ ap (λ (f : AckFrequencyValue). c.args.out.now.items ++ spelling (ack_frequency f)) c.next_ack_frequency-frame.ensures.value

pub returns-clause-len : goal.returns-clause-len
returns-clause-len g c =
    let items = c.put_ack_frequency.ensures.items ∙ ap (λ (f : AckFrequencyValue). c.args.out.now.items ++ spelling (ack_frequency f)) c.next_ack_frequency-frame.ensures.value in
    long_of c.args.out.now.items (spelling (ack_frequency (request_of c.args.self.now.end))) c.put_ack_frequency.new.out.items (vec_len c.args.out.now) (vec_len c.put_ack_frequency.new.out) c.args.out.now.ok.0 c.put_ack_frequency.new.out.ok.0 items

pub returns-clause-few : goal.returns-clause-few
returns-clause-few g c =
    let items = c.put_ack_frequency.ensures.items ∙ ap (λ (f : AckFrequencyValue). c.args.out.now.items ++ spelling (ack_frequency f)) c.next_ack_frequency-frame.ensures.value in
    let bytes : List ℕ = spelling (ack_frequency (request_of c.args.self.now.end)) in
    few_of (vec_len c.args.out.now) (vec_len c.put_ack_frequency.new.out) (frame_size (ack_frequency (ack_frequency_view c.next_ack_frequency-frame.result))) (length bytes)
    (long_of c.args.out.now.items bytes c.put_ack_frequency.new.out.items (vec_len c.args.out.now) (vec_len c.put_ack_frequency.new.out) c.args.out.now.ok.0 c.put_ack_frequency.new.out.ok.0 items)
    c.put_ack_frequency.ensures.len c.put_ack_frequency.ensures.few

pub returns-clause-end : goal.returns-clause-end
returns-clause-end g c =
    let w = c.args.self.now in
    let same = c.self.view_is ∙ c.next_ack_frequency-frame.ensures.end in
    let number : c.number-number.result ≡ number_of w.end = c.number-number.ensures.value ∙ ap (λ x. number_of x.end) c.next_ack_frequency-frame.ensures.end in
    let delay : c.from_micros-delay.result ≡ micros (request_of w.end).delay = c.from_micros-delay.ensures ∙ ap micros (c.into_inner.ensures.value ∙ ap (λ (f : AckFrequencyValue). f.delay) c.next_ack_frequency-frame.ensures.value) in
    rw (c.ack_frequency_sent.ensures, c.set_ack_frequency.ensures, number, delay) (ap (λ x. asked_in x (number_of w.end) (micros (request_of w.end).delay)) same)
