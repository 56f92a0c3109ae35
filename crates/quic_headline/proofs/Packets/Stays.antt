-- What a delivery leaves as it was, whatever its frames say: the place of the path and the clock,
-- the next number to give, and what is still to acknowledge.
use Rattle.std.proofs.Common.{◌≡◌, ℕ, Bool, true, false, List, [], ◌∷◌, Option, Some, None, refl, sym, ap, ◌∙◌, subst, arith}
use Rattle.std.specs.Prelude.{max, nat_le, unwrap_or}
use Rattle.std.proofs.lemmas.Bool.{leb-false, or_parts}
use Rattle.quic_sets.specs.Runs.{Has}
use Rattle.quic_wire.specs.Value.{FrameValue, AckValue, ack, datagram, new_connection_id, retire_connection_id, path_response, handshake_done, ack_frequency, immediate_ack}
use Rattle.quic_recovery_core.specs.PendingAcks.{Pending, after_subtract}
use Rattle.quic_spaces.specs.Marks.{Counts}
use Rattle.quic_recovery_core.proofs.AckRunSteps.{above_kept, in_above}
use Rattle.quic_machine.specs.Arrival.{Arrival}
use Rattle.quic_machine.specs.declared.run.Call.{Call}
use Rattle.quic_machine.specs.declared.run.Call.TheVariants as calls
use Rattle.quic_machine.specs.declared.run.Answer.{Answer}
use Rattle.quic_spaces.specs.Numbers.{Numbers, cut_against, greatest_of}
use Rattle.quic_machine.specs.Policy.{Policy}
use Rattle.quic_parameters.specs.Parameters.{ParameterValues}
use Rattle.quic_config.specs.Transport.{TransportSettings}
use Rattle.quic_time.specs.Timers.{Timers}
use Rattle.quic_spaces.specs.Filter.{Filter}
use Rattle.quic_machine.specs.Validation.{Asked}
use Rattle.quic_machine.specs.Closing.{Closing, ticked}
use Rattle.quic_machine.specs.End.{End, with_closing, closed_by}
use Rattle.quic_machine.specs.Acked.{losses_detected, after_acked}
use Rattle.quic_machine.specs.Receive.{is_above, names_ungiven, take_frame, received}
use Rattle.quic_machine.specs.Poll.{Polled}
use Rattle.quic_machine.specs.Machine.{after_call}
use Rattle.quic_machine.specs.FrameCases.{Settling, losses_keep, named, ack_taken, passed, acked_keeps, message_leaves, frame_keeps, frame_leaves, frames_keep, frames_taken, by_received, IsApart, apart_leaves}
use Rattle.quic_machine.specs.Steps as steps
use Rattle.quic_machine.specs.LeaveCases.{at_timeout, at_losses, at_event, by_expired}
use Rattle.quic_machine.specs.PollCases.{at_poll, by_poll, composes}
use Rattle.quic_machine.specs.CallCases.{Plain, is_poll, by_plain_call}
use Rattle.quic_machine.specs.CallCases as cases
use Rattle.quic_headline.specs.Runs.{acknowledged_in}
use Rattle.quic_headline.proofs.Packets.Invariant.{IsBehind, Acks}
use Rattle.quic_headline.proofs.Packets.Probes.{may_leave}
use Rattle.quic_headline.proofs.Packets.Closes.{by_closes}
use Rattle.quic_headline.proofs.Packets.Apart.{apart_acks, by_next_id, by_waits}
use Rattle.quic_headline.proofs.Packets.Moved.{by_migrated}

-- ---- an ACK frame

-- fewer numbers to acknowledge
acks_above : (p : Pending) (came : Counts) (n : ℕ) → Acks p came → Acks (after_subtract p n) came
acks_above p came n acks = record { runs = above_kept p.runs n acks.runs; small = λ k h. acks.small k (in_above n k p.runs h).0; counts = acks.counts }

-- the parts of an end that no ACK frame changes but by what it names: the place of the path, the
-- clock, how it sends, what the peer told, and which numbers are left out; and the numbers, what is
-- to be acknowledged, and with which marks packets came
pub record Kept : Type 0 where
  pub generation : ℕ
  pub closing : Closing
  pub transport : TransportSettings
  pub peer : ParameterValues
  pub filter : Filter
  pub numbers : Numbers
  pub acks : Pending
  pub came : Counts

-- those of an end
abbrev pub kept : End → Kept
kept e = record {
  generation = e.path.generation;
  closing = e.closing;
  transport = e.transport;
  peer = e.peer_params;
  filter = e.filter;
  numbers = e.numbers;
  acks = e.acknowledging;
  came = e.marks.came;
}

-- Packets that are acknowledged or lost leave them, and no number more is to be acknowledged.
pub record AreSettled (e f : Kept) : Type 0 where
  pub generation : f.generation ≡ e.generation
  pub closing : f.closing ≡ e.closing
  pub transport : f.transport ≡ e.transport
  pub peer : f.peer ≡ e.peer
  pub filter : f.filter ≡ e.filter
  pub numbers : f.numbers ≡ e.numbers
  pub acks : Acks e.acks e.came → Acks f.acks f.came
  pub came : f.came ≡ e.came
  pub fewer : (k : ℕ) → Has f.acks.runs k → Has e.acks.runs k

abbrev pub Settles : End → End → Type 0
Settles e f = AreSettled (kept e) (kept f)

-- nothing changed
settles_same : (e : End) → Settles e e
settles_same e = record { generation = refl; closing = refl; transport = refl; peer = refl; filter = refl; numbers = refl; acks = λ acks. acks; came = refl; fewer = λ k h. h }

-- each step of an ACK frame
settling : (e : End) → Settling (Settles e)
settling e (steps.known n) x s = record {
  generation = s.generation;
  closing = s.closing;
  transport = s.transport;
  peer = s.peer;
  filter = s.filter;
  numbers = s.numbers;
  acks = λ acks. acks_above x.acknowledging x.marks.came n (s.acks acks);
  came = s.came;
  fewer = λ k h. s.fewer k (in_above n k x.acknowledging.runs h).0;
}
settling e step x s = s

-- an ACK frame that was taken
pub settles_ack : (rises : Bool) (a : AckValue) (e : End) → Settles e (after_acked rises a e)
settles_ack rises a e = acked_keeps (Settles e) (settling e) rises a e (settles_same e)

-- losses that were detected
pub settles_losses : (e : End) → Settles e (losses_detected e)
settles_losses e = losses_keep (Settles e) (settling e) e (settles_same e)

-- ---- frames

-- Frames leave all of it, but of the numbers the greatest that was named; what is to be
-- acknowledged stays lawful, and no number more is.
pub record AreKept (e f : Kept) : Type 0 where
  pub generation : f.generation ≡ e.generation
  pub closing : f.closing ≡ e.closing
  pub transport : f.transport ≡ e.transport
  pub peer : f.peer ≡ e.peer
  pub filter : f.filter ≡ e.filter
  pub numbers : f.numbers ≡ record e.numbers { largest_acked = f.numbers.largest_acked }
  pub acks : Acks e.acks e.came → Acks f.acks f.came
  pub fewer : (k : ℕ) → Has f.acks.runs k → Has e.acks.runs k

abbrev pub Keeps : End → End → Type 0
Keeps e f = AreKept (kept e) (kept f)

-- nothing changed
pub keeps_same : (e : End) → Keeps e e
keeps_same e = record { generation = refl; closing = refl; transport = refl; peer = refl; filter = refl; numbers = refl; acks = λ acks. acks; fewer = λ k h. h }

-- an ACK frame changes of the numbers only the greatest that was named
keeps_ack : (e : End) (rises : Bool) (a : AckValue) (x : End) → Keeps e x → Keeps e (after_acked rises a (named a x))
keeps_ack e rises a x k =
    let s = settles_ack rises a (named a x) in
    record {
      generation = s.generation ∙ k.generation;
      closing = s.closing ∙ k.closing;
      transport = s.transport ∙ k.transport;
      peer = s.peer ∙ k.peer;
      filter = s.filter ∙ k.filter;
      numbers = s.numbers ∙ ap (λ (n : Numbers). record n { largest_acked = (named a x).numbers.largest_acked }) k.numbers ∙ ap (λ (n : Numbers). record e.numbers { largest_acked = n.largest_acked }) (sym s.numbers);
      acks = λ acks. s.acks (k.acks acks);
      fewer = λ n h. k.fewer n (s.fewer n h);
    }

-- nor does a frame apart from streams
keeps_apart : (e : End) (f : FrameValue) (x : End) → IsApart f → Keeps e x → Keeps e (take_frame f x).end
keeps_apart e f x apart k =
    subst (λ (acks : Pending). Keeps e (record (take_frame f x).end { acknowledging = acks })) (sym (apart_acks f x apart).others)
    (apart_leaves (λ (y : End). Keeps e (record y { acknowledging = anew })) f x apart (λ c. kept_anew) (λ c most. kept_anew))
  where
    anew : Pending
    anew = let p : Pending = (take_frame f x).end.acknowledging in record x.acknowledging { due = p.due; threshold = p.threshold; reordering = p.reordering }

    kept_anew : Keeps e (record x { acknowledging = anew })
    kept_anew = record {
      generation = k.generation;
      closing = k.closing;
      transport = k.transport;
      peer = k.peer;
      filter = k.filter;
      numbers = k.numbers;
      acks = λ acks. (let a = k.acks acks in record { runs = a.runs; small = a.small; counts = a.counts });
      fewer = k.fewer;
    }

-- all frames of a packet change at most that
pub keeps_frames : (fs : List FrameValue) (e : End) → Keeps e (passed fs e).end
keeps_frames fs e = frames_keep (Keeps e) (frame_keeps (Keeps e) (record {
  ack = λ rises a x k. keeps_ack e rises a x k;
  on_streams = λ f x on k. frame_leaves (Keeps e) f x on (λ t. k);
  apart = λ f x is k. keeps_apart e f x is k;
  message = λ m x k. k;
})) fs e (keeps_same e)

-- ---- the greatest number that frames named

-- the greater of a number and one that may be there
named_one : (o : Option ℕ) (n : ℕ) → greatest_of o n ≡ max (max n 0) (unwrap_or o 0)
named_one None n = omega arith
named_one (Some m) n = omega arith

-- what an ACK frame names that is taken
named_ack : (b : Bool) (a : AckValue) (e : End) → (ack_taken b a e).fault ≡ None → cut_against (ack_taken b a e).end.numbers ≡ max (max a.largest 0) (cut_against e.numbers)
named_ack true a e none = cc
named_ack false a e none = ap (λ (n : Numbers). cut_against n) (settles_ack (is_above e.numbers.largest_acked a.largest) a (named a e)).numbers ∙ named_one e.numbers.largest_acked a.largest

-- what a frame that is taken names
named_frame : (f : FrameValue) (e : End) → (take_frame f e).fault ≡ None → cut_against (take_frame f e).end.numbers ≡ max (acknowledged_in (f ∷ [])) (cut_against e.numbers)
named_frame (ack a) e none = named_ack (names_ungiven a e) a e none
named_frame (datagram m) e none = message_leaves (λ (x : End). cut_against x.numbers ≡ max (acknowledged_in (datagram m ∷ [])) (cut_against e.numbers)) m e (omega arith) (λ left. omega arith)
named_frame (new_connection_id i) e none = apart_leaves (λ (x : End). cut_against x.numbers ≡ max (acknowledged_in (new_connection_id i ∷ [])) (cut_against e.numbers)) (new_connection_id i) e tt (λ c. omega arith) (λ c most. omega arith)
named_frame (retire_connection_id n) e none = apart_leaves (λ (x : End). cut_against x.numbers ≡ max (acknowledged_in (retire_connection_id n ∷ [])) (cut_against e.numbers)) (retire_connection_id n) e tt (λ c. omega arith) (λ c most. omega arith)
named_frame (path_response token) e none = apart_leaves (λ (x : End). cut_against x.numbers ≡ max (acknowledged_in (path_response token ∷ [])) (cut_against e.numbers)) (path_response token) e tt (λ c. omega arith) (λ c most. omega arith)
named_frame handshake_done e none = apart_leaves (λ (x : End). cut_against x.numbers ≡ max (acknowledged_in (handshake_done ∷ [])) (cut_against e.numbers)) handshake_done e tt (λ c. omega arith) (λ c most. omega arith)
named_frame (ack_frequency r) e none = apart_leaves (λ (x : End). cut_against x.numbers ≡ max (acknowledged_in (ack_frequency r ∷ [])) (cut_against e.numbers)) (ack_frequency r) e tt (λ c. omega arith) (λ c most. omega arith)
named_frame f e none = omega arith

-- what frames acknowledge is what the first does, or the others
acknowledged_first : (f : FrameValue) (fs : List FrameValue) → acknowledged_in (f ∷ fs) ≡ max (acknowledged_in (f ∷ [])) (acknowledged_in fs)
acknowledged_first (ack a) fs = omega arith
acknowledged_first f fs = omega arith

-- where all frames were taken, the greatest number that was named is the greatest that they
-- acknowledge, or the one before
pub named_frames : (fs : List FrameValue) (e : End) → (passed fs e).fault ≡ None → cut_against (passed fs e).end.numbers ≡ max (acknowledged_in fs) (cut_against e.numbers)
named_frames fs e none =
    let all = frames_taken (λ (left : List FrameValue) (x : End). max (acknowledged_in left) (cut_against x.numbers) ≡ max (acknowledged_in fs) (cut_against e.numbers)) step fs e none refl in
    omega arith
  where
    step : (f : FrameValue) (left : List FrameValue) (x : End) → (take_frame f x).fault ≡ None → max (acknowledged_in (f ∷ left)) (cut_against x.numbers) ≡ max (acknowledged_in fs) (cut_against e.numbers)
        → max (acknowledged_in left) (cut_against (take_frame f x).end.numbers) ≡ max (acknowledged_in fs) (cut_against e.numbers)
    step f left x is before =
        let first = named_frame f x is in
        let both = acknowledged_first f left in
        omega arith

-- ---- any call but a poll

-- How an end sends, what its peer told and which numbers are left out are as they were; and so is the
-- next number to give, which is cut against no greater one.
pub record AreStaying (e f : Kept) : Type 0 where
  pub transport : f.transport ≡ e.transport
  pub peer : f.peer ≡ e.peer
  pub filter : f.filter ≡ e.filter
  pub next : f.numbers.next ≡ e.numbers.next
  pub behind : IsBehind e.numbers → IsBehind f.numbers

abbrev pub Stays : End → End → Type 0
Stays e f = AreStaying (kept e) (kept f)

-- nothing changed
pub stays_same : (e : End) → Stays e e
stays_same e = record { transport = refl; peer = refl; filter = refl; next = refl; behind = λ b. b }

-- the same, whatever clock, tracked packets, streams and timers there are
stays_like : (e x f : End) → f.transport ≡ x.transport → f.peer_params ≡ x.peer_params → f.filter ≡ x.filter → f.numbers ≡ x.numbers → Stays e x → Stays e f
stays_like e x f transport peer filter numbers s = record {
  transport = transport ∙ s.transport;
  peer = peer ∙ s.peer;
  filter = filter ∙ s.filter;
  next = ap (λ (n : Numbers). n.next) numbers ∙ s.next;
  behind = λ b. subst (λ (n : Numbers). IsBehind n) (sym numbers) (s.behind b);
}

-- an ACK frame that is taken names numbers that were given
behind_named : (a : AckValue) (e : End) → nat_le e.numbers.next a.largest ≡ false → IsBehind e.numbers → IsBehind (named a e).numbers
behind_named a e is behind =
    let lower = leb-false e.numbers.next a.largest is in
    let greatest = named_one e.numbers.largest_acked a.largest in
    omega arith

stays_ack : (b : Bool) (a : AckValue) (e x : End) → names_ungiven a x ≡ b → Stays e x → Stays e (ack_taken b a x).end
stays_ack true a e x is s = s
stays_ack false a e x is s =
    let t = settles_ack (is_above x.numbers.largest_acked a.largest) a (named a x) in
    stays_like e (named a x) (after_acked (is_above x.numbers.largest_acked a.largest) a (named a x)) t.transport t.peer t.filter t.numbers
    (record {
      transport = s.transport;
      peer = s.peer;
      filter = s.filter;
      next = s.next;
      behind = λ b. behind_named a x (or_parts (nat_le x.numbers.next a.largest) _ is).0 (s.behind b);
    })

-- a frame apart from streams leaves them
stays_apart : (e : End) (f : FrameValue) (x : End) → IsApart f → Stays e x → Stays e (take_frame f x).end
stays_apart e f x apart s = apart_leaves (Stays e) f x apart (λ c. record { transport = s.transport; peer = s.peer; filter = s.filter; next = s.next; behind = s.behind }) (λ c most. record { transport = s.transport; peer = s.peer; filter = s.filter; next = s.next; behind = s.behind })

-- any frame, behind what stayed
stays_frame : (e : End) (f : FrameValue) (x : End) → Stays e x → Stays e (take_frame f x).end
stays_frame e (ack a) x s = stays_ack (names_ungiven a x) a e x refl s
stays_frame e (datagram m) x s = message_leaves (Stays e) m x s (λ left. s)
stays_frame e (new_connection_id i) x s = stays_apart e (new_connection_id i) x tt s
stays_frame e (retire_connection_id n) x s = stays_apart e (retire_connection_id n) x tt s
stays_frame e (path_response token) x s = stays_apart e (path_response token) x tt s
stays_frame e handshake_done x s = stays_apart e handshake_done x tt s
stays_frame e immediate_ack x s = stays_apart e immediate_ack x tt s
stays_frame e (ack_frequency r) x s = stays_apart e (ack_frequency r) x tt s
stays_frame e f x s = s

-- whatever comes leaves them
pub stays_received : (p : Policy) (e : End) (arrival : Arrival) (d : List ℕ) → Stays e (received p e arrival d).end
stays_received p e arrival d = by_received (Stays e) (record {
  notes = λ n x s. record { transport = s.transport; peer = s.peer; filter = s.filter; next = s.next; behind = s.behind };
  begins = λ now n x s. record { transport = s.transport; peer = s.peer; filter = s.filter; next = s.next; behind = s.behind };
  frame = stays_frame e;
  takes = λ n asks urged mark x s. record { transport = s.transport; peer = s.peer; filter = s.filter; next = s.next; behind = s.behind };
  closes = λ reason x s. record { transport = s.transport; peer = s.peer; filter = s.filter; next = s.next; behind = s.behind };
  drains = λ close x s. record { transport = s.transport; peer = s.peer; filter = s.filter; next = s.next; behind = s.behind };
  asks_close = λ x s. record { transport = s.transport; peer = s.peer; filter = s.filter; next = s.next; behind = s.behind };
  exhausts = λ now x s. record { transport = s.transport; peer = s.peer; filter = s.filter; next = s.next; behind = s.behind };
  draws = λ words x s. record { transport = s.transport; peer = s.peer; filter = s.filter; next = s.next; behind = s.behind };
  moves = λ q o remote x s. by_migrated (Stays e) q o remote x (λ c. record { transport = s.transport; peer = s.peer; filter = s.filter; next = s.next; behind = s.behind }) (λ c most. record { transport = s.transport; peer = s.peer; filter = s.filter; next = s.next; behind = s.behind });
}) p e arrival d (stays_same e)

-- losses that are detected at a moment leave them
stays_losses : (e : End) (now : ℕ) (acks : Pending) (timers : Timers) (waits : Bool) (asked : Asked) → Stays e (at_losses e now acks timers waits asked)
stays_losses e now acks timers waits asked =
    let begins : End = with_closing e (ticked e.closing now) in
    let t = settles_losses begins in
    stays_like e begins (at_losses e now acks timers waits asked) t.transport t.peer t.filter t.numbers (record { transport = refl; peer = refl; filter = refl; next = refl; behind = λ b. b })

-- only a poll gives numbers
pub stays_call : (p : Policy) (e : End) (theirs : List (List ℕ)) (call : Call) (a : Answer) → is_poll call ≡ false → Stays e (after_call p e theirs call a)
stays_call p e theirs call a other = by_plain_call p e theirs (Stays e) call a keep
  where
    keep : Plain p e call (Stays e)
    keep (cases.times now expiry) may = by_expired p.words e now (Stays e) (λ pending tracking timers waits asked runs packets. stays_like e e (at_timeout e now pending tracking timers waits asked) refl refl refl refl (stays_same e)) (λ pending timers waits asked runs. stays_losses e now pending timers waits asked) (λ x s. record { transport = s.transport; peer = s.peer; filter = s.filter; next = s.next; behind = s.behind }) expiry
    keep (cases.polls now) is = cc
    keep (cases.hears arrival d) may = stays_received p e arrival d
    keep (cases.tells told) may = stays_like e e (at_event e told) refl refl refl refl (stays_same e)
    keep (cases.closes reason f now) may = record { transport = refl; peer = refl; filter = refl; next = refl; behind = λ b. b }
    keep (cases.waits now b) may = by_waits (Stays e) b (with_closing e (ticked e.closing now)) (record { transport = refl; peer = refl; filter = refl; next = refl; behind = λ b. b }) (record { transport = refl; peer = refl; filter = refl; next = refl; behind = λ b. b })
    keep (cases.changes_id b) may = by_next_id (Stays e) e b (stays_same e) (λ c. record { transport = refl; peer = refl; filter = refl; next = refl; behind = λ b. b }) (λ c most. record { transport = refl; peer = refl; filter = refl; next = refl; behind = λ b. b })
    keep c may = stays_same e

-- ---- any call

-- An end that sends as another did, and to a peer that told the same.
pub record ArePlaced (e f : Kept) : Type 0 where
  pub transport : f.transport ≡ e.transport
  pub peer : f.peer ≡ e.peer

abbrev pub IsPlaced : End → End → Type 0
IsPlaced e f = ArePlaced (kept e) (kept f)

-- no call changes them
pub placed_call : (p : Policy) (e : End) (theirs : List (List ℕ)) (call : Call) (a : Answer) → IsPlaced e (after_call p e theirs call a)
placed_call p e theirs (calls.Poll now) a = by_poll p e now (λ (q : Polled). IsPlaced e q.end) (record {
  silent = record { transport = refl; peer = refl };
  failed = record { transport = refl; peer = refl };
  nothing = λ c. record { transport = refl; peer = refl };
  repeats = λ is. by_closes p (with_closing e (ticked e.closing now)) (λ (q : Polled). IsPlaced e q.end) (record { transport = refl; peer = refl }) (λ f goes. record { transport = refl; peer = refl });
  closes = λ reason c bound. by_closes p (closed_by reason (at_poll e now c)) (λ (q : Polled). IsPlaced e q.end) (record { transport = refl; peer = refl }) (λ f goes. record { transport = refl; peer = refl });
  gives = λ leaving c left is may ready some.
      let x : End = at_poll e now c in
      let c = composes leaving x (may_leave e now leaving x ready) in
      record { transport = c.transport; peer = c.peer };
})
placed_call p e theirs call a = let s = stays_call p e theirs call a refl in record { transport = s.transport; peer = s.peer }
