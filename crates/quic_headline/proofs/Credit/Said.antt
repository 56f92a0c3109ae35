-- The limits that go into a datagram are within the windows of what was consumed then.
use Rattle.std.proofs.Common.{◌≡◌, ℕ, ◌≤◌, Bool, true, false, ◌||◌, List, length, Option, Some, None, refl, sym, ap, ◌∙◌, arith, inl, inr}
use Rattle.std.specs.Option.{is_some}
use Rattle.std.proofs.lemmas.Bool.{cond_both, or_cases}
use Rattle.quic_wire_core.specs.declared.stream_id.Side.{Side}
use Rattle.quic_wire.specs.Value.{FrameValue, max_data, max_stream_data}
use Rattle.quic_assembler.specs.Arrived.{bytes_read_of}
use Rattle.quic_streams_parts.specs.Dirs.{Counts}
use Rattle.quic_streams_parts.specs.Table.{at}
use Rattle.quic_streams_parts.specs.RecvHalf.{RecvHalf, credit, raised_on}
use Rattle.quic_streams_halves.specs.Halves.{has_place}
use Rattle.quic_retransmits.specs.Retransmits.{Retransmits}
use Rattle.quic_streams_state.specs.declared.state.StreamsState.{StreamsState}
use Rattle.quic_streams_state.specs.State.{Receiving, consumed}
use Rattle.quic_streams_state.specs.Limits.{raised_data}
use Rattle.quic_streams_state.specs.Control.{Goes, frame_told}
use Rattle.quic_streams_laws.specs.Content.{HoldsRead}
use Rattle.quic_streams_laws.specs.ContentLaws.{read_at, read_kept}
use Rattle.quic_streams_laws.specs.Each.{HalfIs}
use Rattle.quic_streams_laws.specs.KeepingLaws.{live_receives, by_frame}
use Rattle.quic_streams_laws.specs.QuietLaws.{by_told, by_tells}
use Rattle.quic_streams_laws.specs.Summed.{sum_below, amount_of, on_stream}
use Rattle.quic_streams_laws.specs.Written.{Wrote}
use Rattle.quic_machine.specs.declared.answers.State.TheVariants as states
use Rattle.quic_machine.specs.declared.run.Answer.TheVariants as answers
use Rattle.quic_machine.specs.Policy.{Policy}
use Rattle.quic_machine.specs.End.{End}
use Rattle.quic_machine.specs.Poll.{polled}
use Rattle.quic_machine.specs.Machine.{gave}
use Rattle.quic_headline.specs.Runs.{Told, Packet, In, reads, bytes_of}
use Rattle.quic_headline.specs.Observer.{Sent}
use Rattle.quic_headline.specs.Credit.{streams_of, consumed_on, all_consumed, StaysWithin}
use Rattle.quic_headline.proofs.Places.Order.{bytes_same}
use Rattle.quic_headline.proofs.Packets.Owing.{Owes}
use Rattle.quic_headline.proofs.Places.Parties.{sent_by, sent_if}
use Rattle.quic_headline.proofs.Halves.Ghosts.{read}
use Rattle.quic_headline.proofs.Channel.AllStreams.{ids}
use Rattle.quic_headline.proofs.Channel.Received.{Stays, stays_kept, half_within}
use Rattle.quic_headline.proofs.Unread.Walk.{Of}
use Rattle.quic_headline.proofs.Credit.Sums.{sums_told}
use Rattle.quic_headline.proofs.Credit.Drafts.{AreFine, poll_fine, poll_known}
use Rattle.quic_headline.proofs.Credit.Lists.{Usage, usage, used_on, used_all, sum_listed, packets_listed}
use Rattle.quic_headline.proofs.Credit.Counted.{IsCounted, IsSpent, IsAny, Uses}

module _ (wide each_wide : ℕ) (packets : List Packet) (ts : List Told) (before : StreamsState) (done : ℕ → Wrote) where
  abbrev u : Usage
  u = usage packets ts

  abbrev K : Side → Receiving → Counts → Counts → Type 0
  K = Uses wide each_wide u

  -- what is known of an end that these packets came to, and at which this was told
  pub record IsKnown (s : StreamsState) : Type 0 where
    pub stays : Stays before s
    pub reads_are : HoldsRead done (read ts) s
    pub uses : Of K s

  -- ---- what was consumed

  -- as many bytes of a half were read as the lists say
  read_of : (s : StreamsState) (id : ℕ) (h : RecvHalf) → at s.receiving.halves.live id ≡ Some h → IsKnown s → bytes_read_of h.arrived ≡ length (bytes_of (reads id ts))
  read_of s id h found k = (read_at done (read ts) s id h (live_receives s id h found) k.reads_are).counted ∙ sym (ap length (bytes_same (reads id ts)))

  -- what was consumed of a half is what they say, or less
  credit_used : (s : StreamsState) (id : ℕ) (h : RecvHalf) → at s.receiving.halves.live id ≡ Some h → IsKnown s → IsCounted u id h → (credit h ≤ used_on u id) × (credit h ≤ u.top id)
  credit_used s id h found k c =
      let within = (half_within before s id h (live_receives s id h found) k.stays.receives).consumed in
      let seen = c.seen in (
        cond_both (h.stopped || is_some h.reset) _ _ (λ (n : ℕ). n ≤ used_on u id)
            (λ over. (
            let most = used_all u id (elim (or_cases h.stopped (is_some h.reset) over) [ inl is ↦ inl (c.halted is) | inr is ↦ inr (c.cut is) ]) in
            omega (arith, most, seen)))
            (λ goes. (let same = read_of s id h found k in omega (arith, same))),
        omega (arith, within, seen),
      )

  pub consumed_within : (s : StreamsState) → IsKnown s → consumed s.receiving ≤ all_consumed packets ts
  consumed_within s k =
      let sum : consumed s.receiving ≡ sum_below ids c = k.uses.sums.sum in
      let most : sum_below ids c ≤ all_consumed packets ts = sum_listed ids c (λ id. consumed_on id packets ts) (streams_of packets) (λ j. (each j).0)
      (λ j out. elim (packets_listed j packets) [ inl i ↦ absurd (out i) | inr none ↦ (let low = (each j).1 in omega (arith, low, none)) ]) in
      omega (arith, sum, most)
    where
      final : ℕ → ℕ
      final = k.uses.sums.final

      c : ℕ → ℕ
      c j = on_stream credit final s.side s.receiving.halves j

      each : (j : ℕ) → (c j ≤ used_on u j) × (c j ≤ u.top j)
      each j = go (at s.receiving.halves.live j) (has_place s.side s.receiving.halves.places j) refl (k.uses.sums.each j)
        where
          go : (o : Option RecvHalf) (b : Bool) → at s.receiving.halves.live j ≡ o → HalfIs (IsAny j) (IsCounted u j) (IsSpent u j (final j)) o b → (amount_of credit (final j) o b ≤ used_on u j) × (amount_of credit (final j) o b ≤ u.top j)
          go (Some h) b found x = credit_used s j h found k x
          go None true found x = (x.1, x.0)
          go None false found x = (omega arith, omega arith)

  -- ---- a frame goes

  goes_within : (p : Retransmits) (s : StreamsState) (f : FrameValue) → IsKnown s → Goes p s f → StaysWithin wide each_wide packets ts f
  goes_within p s (max_data limit) k goes =
      let most = consumed_within s k in
      let window : s.receiving.window ≡ wide = k.uses.window in
      let is : limit ≡ raised_data s.receiving = goes in
      omega (arith, most, window, is)
  goes_within p s (max_stream_data f) k goes =
      let same : bytes_read_of goes.0.arrived ≡ length (bytes_of (reads f.id ts)) = read_of s f.id goes.0 goes.2 k in
      let window : s.receiving.stream_window ≡ each_wide = k.uses.stream_window in
      let is : f.limit ≡ raised_on s.receiving.stream_window goes.0 = goes.3 in
      omega (arith, same, window, is)
  goes_within p s f k goes = tt

  told_known : (f : FrameValue) (s : StreamsState) → IsKnown s → IsKnown (frame_told f s)
  told_known f s k = record {
    stays = by_told (Stays before) (stays_kept before) f s k.stays;
    reads_are = by_told (HoldsRead done (read ts)) (read_kept done (read ts)) f s k.reads_are;
    uses = by_tells (Of K) s k.uses
        (let i = k.uses in record { window = i.window; stream_window = i.stream_window; sums = record { final = i.sums.final; sum = i.sums.sum; each = i.sums.each } })
        (λ id. (let i = k.uses in record {
          window = i.window;
          stream_window = i.stream_window;
          sums = sums_told IsAny (IsCounted u) (IsSpent u) before (λ j h n c. record { seen = c.seen; halted = λ is. c.halted is; cut = λ is. c.cut is; sized = λ is. c.sized is }) s id k.stays i.sums;
        }))
        (λ dir. (let i = k.uses in record { window = i.window; stream_window = i.stream_window; sums = record { final = i.sums.final; sum = i.sums.sum; each = i.sums.each } }))
        (λ limit. k.uses)
        (λ id limit. k.uses)
        f;
  }

  -- ---- a poll

  fine : AreFine IsKnown (StaysWithin wide each_wide packets ts)
  fine = record {
    told = told_known;
    sent = λ fair s id room h found k. record {
      stays = by_frame (Stays before) (stays_kept before) fair s id room h found tt k.stays;
      reads_are = by_frame (HoldsRead done (read ts)) (read_kept done (read ts)) fair s id room h found tt k.reads_are;
      uses = k.uses;
    };
    limits = goes_within;
    pads = tt;
    challenges = λ word. tt;
    responses = λ r. tt;
    pings = tt;
    immediate = tt;
    requests = λ r. tt;
    connection_closes = λ c. tt;
    application_closes = λ c. tt;
    acks = λ a. tt;
    messages = λ m. tt;
    streams = λ f. tt;
  }

  -- what a poll gives stays within, where all is known of an end that is open
  pub poll_within : (p : Policy) (e : End) (now : ℕ) → Owes e → (e.closing.state ≡ states.Open → IsKnown e.streams) → (t : Sent) → In t (sent_if (gave (answers.Poll (polled p e now).answer)) (sent_by p e now)) → (f : FrameValue) → In f t.frames → StaysWithin wide each_wide packets ts f
  poll_within p e now owes k = poll_fine IsKnown (StaysWithin wide each_wide packets ts) fine p e now owes k

  -- and it leaves as much known
  pub poll_uses : (p : Policy) (e : End) (now : ℕ) → IsKnown e.streams → Of K (polled p e now).end.streams
  poll_uses p e now k = (poll_known IsKnown (StaysWithin wide each_wide packets ts) fine p e now k).uses
