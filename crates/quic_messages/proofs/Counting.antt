-- Each message that is put into a queue is taken out, dropped, or waits, as often as it was put in.
use Rattle.std.proofs.Common.{◌≡◌, ℕ, ◌+◌, Bool, true, false, not, cond, Some, None, List, [], ◌∷◌, ◌++◌, length, drop, nat_le, is_ok, refl, sym, ap, ◌∙◌, arith}
use Rattle.std.specs.List.{filter, count_by}
use Rattle.std.specs.Option.{option_to_list, is_some}
use Rattle.std.proofs.lemmas.List.Sums.{sum_by-append}
use Rattle.std.proofs.lemmas.List.Filters.{sum_by-filter_both}
use Rattle.quic_messages.specs.declared.limits.DatagramLimits.{DatagramLimits}
use Rattle.quic_messages.specs.Messages.{Messages, weight, oldest, left_for, gone_for, with_message, frame_bytes, fitting, is_within}
use Rattle.quic_messages.specs.Sending.{send_answer}
use Rattle.quic_messages.specs.History.{Call, received, recv, send, next_frame, drop_oversized, after_call, after_calls, over, came_by, given_by, incoming_dropped_by, queued_by, sent_by, outgoing_dropped_by}
use Rattle.quic_messages.proofs.Leaving.{gone_and_left}

module _ (p : List ℕ → Bool) where
  -- how many messages pass a test
  count : List (List ℕ) → ℕ
  count ms = count_by p ms

  count_none : count [] ≡ 0
  unfolding count
  count_none = refl

  count-append : (xs ys : List (List ℕ)) → count (xs ++ ys) ≡ count xs + count ys
  unfolding count
  count-append xs ys = sum_by-append (λ m. cond (p m) 1 0) xs ys

  -- the oldest and the others
  count_oldest : (ms : List (List ℕ)) → count (option_to_list (oldest ms)) + count (drop 1 ms) ≡ count ms
  count_oldest [] = omega (arith, count_none)
  count_oldest (m ∷ ms) = sym (count-append (m ∷ []) ms)

  -- one more, for which the oldest go
  count_put : (size : List ℕ → ℕ) (room : ℕ) (m : List ℕ) (ms : List (List ℕ)) → count (gone_for size room (size m) ms) + count (with_message size room m ms) ≡ count (m ∷ []) + count ms
  count_put size room m ms =
      let all = sym (count-append (gone_for size room (size m) ms) (left_for size room (size m) ms)) ∙ ap count (gone_and_left size room (size m) ms) in
      let more = count-append (left_for size room (size m) ms) (m ∷ []) in
      omega arith

  -- ---- messages that come

  came_step : (b : Bool) (window : ℕ) (m : List ℕ) (s : Messages) → count [] + count (cond b (gone_for weight window (weight m) s.incoming) []) + count (cond b (record s { incoming = with_message weight window m s.incoming }) s).incoming ≡ count (cond b (m ∷ []) []) + count s.incoming
  came_step true window m s = omega (arith, count_none, count_put weight window m s.incoming)
  came_step false window m s = omega (arith, count_none)

  -- what is only about messages that wait changes nothing here
  kept_incoming : (b : Bool) (s : Messages) (outgoing : List (List ℕ)) → count [] + count [] + count (cond b (record s { outgoing = outgoing }) s).incoming ≡ count [] + count s.incoming
  kept_incoming true s outgoing = omega (arith, count_none)
  kept_incoming false s outgoing = omega (arith, count_none)

  read_step : (call : Call) (s : Messages) → count (given_by call s) + count (incoming_dropped_by call s) + count (after_call call s).incoming ≡ count (came_by call s) + count s.incoming
  read_step (received None m) s = omega (arith, count_none)
  read_step (received (Some window) m) s = came_step (nat_le (length m) window) window m s
  read_step recv s = omega (arith, count_none, count_oldest s.incoming)
  read_step (send limits makes_room m) s = kept_incoming (is_ok (send_answer limits makes_room m s)) s _
  read_step (next_frame room) s = kept_incoming (is_some (fitting room s.outgoing)) s _
  read_step (drop_oversized size) s = omega (arith, count_none)

  -- a message that came was read, dropped, or is unread still
  read_all : (calls : List Call) (s : Messages) → count (over given_by calls s) + count (over incoming_dropped_by calls s) + count (after_calls calls s).incoming ≡ count (over came_by calls s) + count s.incoming
  read_all [] s = omega (arith, count_none)
  read_all (call ∷ calls) s =
      let t = after_call call s in
      let given = count-append (given_by call s) (over given_by calls t) in
      let unread = count-append (incoming_dropped_by call s) (over incoming_dropped_by calls t) in
      let came = count-append (came_by call s) (over came_by calls t) in
      let step = read_step call s in
      let rest = read_all calls t in
      omega arith

  -- ---- messages that go

  queued_step : (b : Bool) (limits : DatagramLimits) (m : List ℕ) (s : Messages) → count [] + count (cond b (gone_for length limits.send_buffer_size (length m) s.outgoing) []) + count (cond b (record s { outgoing = with_message length limits.send_buffer_size m s.outgoing }) s).outgoing ≡ count (cond b (m ∷ []) []) + count s.outgoing
  queued_step true limits m s = omega (arith, count_none, count_put length limits.send_buffer_size m s.outgoing)
  queued_step false limits m s = omega (arith, count_none)

  -- what is only about messages that came changes nothing here
  kept_outgoing : (b : Bool) (s : Messages) (incoming : List (List ℕ)) → count [] + count [] + count (cond b (record s { incoming = incoming }) s).outgoing ≡ count [] + count s.outgoing
  kept_outgoing true s incoming = omega (arith, count_none)
  kept_outgoing false s incoming = omega (arith, count_none)

  sent_by_test : (b : Bool) (m : List ℕ) (ms : List (List ℕ)) (s : Messages) → s.outgoing ≡ m ∷ ms → count (option_to_list (cond b (Some m) None)) + count [] + count (cond (is_some (cond b (Some m) None)) (record s { outgoing = ms }) s).outgoing ≡ count [] + count s.outgoing
  sent_by_test true m ms s e =
      let all = ap count e in
      let parts = count-append (m ∷ []) ms in
      omega (arith, count_none)
  sent_by_test false m ms s e = omega (arith, count_none)

  frame_step : (room : ℕ) (incoming outgoing : List (List ℕ)) → let s : Messages = record { incoming = incoming; outgoing = outgoing } in count (sent_by (next_frame room) s) + count [] + count (after_call (next_frame room) s).outgoing ≡ count [] + count outgoing
  frame_step room incoming [] = omega (arith, count_none)
  frame_step room incoming (m ∷ ms) = sent_by_test (nat_le (frame_bytes m) room) m ms (record { incoming = incoming; outgoing = m ∷ ms }) refl

  count_longer : (size : ℕ) (ms : List (List ℕ)) → count (filter (is_within size) ms) + count (filter (λ m. not (is_within size m)) ms) ≡ count ms
  unfolding count
  count_longer size ms = sum_by-filter_both (is_within size) (λ m. not (is_within size m)) (λ _. refl) (λ m. cond (p m) 1 0) ms

  sent_step : (call : Call) (s : Messages) → count (sent_by call s) + count (outgoing_dropped_by call s) + count (after_call call s).outgoing ≡ count (queued_by call s) + count s.outgoing
  sent_step (received None m) s = omega (arith, count_none)
  sent_step (received (Some window) m) s = kept_outgoing (nat_le (length m) window) s _
  sent_step recv s = omega (arith, count_none)
  sent_step (send limits makes_room m) s = queued_step (is_ok (send_answer limits makes_room m s)) limits m s
  sent_step (next_frame room) s = frame_step room s.incoming s.outgoing
  sent_step (drop_oversized size) s = omega (arith, count_none, count_longer size s.outgoing)

  -- a message that was queued was sent, dropped, or waits still
  sent_all : (calls : List Call) (s : Messages) → count (over sent_by calls s) + count (over outgoing_dropped_by calls s) + count (after_calls calls s).outgoing ≡ count (over queued_by calls s) + count s.outgoing
  sent_all [] s = omega (arith, count_none)
  sent_all (call ∷ calls) s =
      let t = after_call call s in
      let sent = count-append (sent_by call s) (over sent_by calls t) in
      let unsent = count-append (outgoing_dropped_by call s) (over outgoing_dropped_by calls t) in
      let queued = count-append (queued_by call s) (over queued_by calls t) in
      let step = sent_step call s in
      let rest = sent_all calls t in
      omega arith

  -- the same in the library's word
  pub each_read : (calls : List Call) (s : Messages) → count_by p (over given_by calls s) + count_by p (over incoming_dropped_by calls s) + count_by p (after_calls calls s).incoming ≡ count_by p (over came_by calls s) + count_by p s.incoming
  unfolding count
  each_read = read_all

  pub each_sent : (calls : List Call) (s : Messages) → count_by p (over sent_by calls s) + count_by p (over outgoing_dropped_by calls s) + count_by p (after_calls calls s).outgoing ≡ count_by p (over queued_by calls s) + count_by p s.outgoing
  unfolding count
  each_sent = sent_all
