-- Where a limit on a stream, or on all data, grew so far that it is told anew, it lies so far above
-- the greatest that was said.
use Rattle.std.proofs.Common.{◌≡◌, ℕ, ◌+◌, ◌≤◌, max, Bool, true, false, List, [], ◌∷◌, length, Option, Some, None, refl, sym, ap, ◌∙◌, subst, inl, inr, arith}
use Rattle.std.specs.Prelude.{◌==◌, ◌/◌, ◌^◌, ◌-◌, min, if◌then◌else◌, nat_le}
use Rattle.std.proofs.lemmas.Bool.{and_parts, le-leb, leb-true, eqb-true}
use Rattle.quic_wire.specs.Value.{FrameValue, max_data, max_stream_data}
use Rattle.quic_assembler.specs.Arrived.{bytes_read_of}
use Rattle.quic_streams_parts.specs.Table.{at}
use Rattle.quic_streams_parts.specs.RecvHalf.{RecvHalf, least_growth, raised_on, takes_limits}
use Rattle.quic_streams_halves.specs.Halves.{has_place}
use Rattle.quic_streams_state.specs.declared.state.StreamsState.{StreamsState}
use Rattle.quic_streams_state.specs.State.{consumed}
use Rattle.quic_streams_state.specs.Limits.{raised_data, data_grew, grew_on, stream_grew}
use Rattle.quic_streams_laws.specs.Content.{HoldsRead}
use Rattle.quic_streams_laws.specs.ContentLaws.{read_at, read_kept}
use Rattle.quic_streams_laws.specs.Each.{HalfIs}
use Rattle.quic_streams_laws.specs.KeepingLaws.{live_receives}
use Rattle.quic_streams_laws.specs.QuietLaws.{is_quiet}
use Rattle.quic_streams_laws.specs.Written.{Wrote}
use Rattle.quic_machine.specs.End.{End}
use Rattle.quic_machine.specs.Receive.{take_frame}
use Rattle.quic_machine.specs.FrameCases.{Settling}
use Rattle.quic_headline.specs.Runs.{Told, Packet, In, reads, bytes_of}
use Rattle.quic_headline.specs.Observer.{Sent}
use Rattle.quic_headline.specs.Amounts.{greatest_in, data_limit_in, stream_limit_in}
use Rattle.quic_headline.specs.Credit.{all_consumed}
use Rattle.quic_headline.specs.Begins.{most_said, is_far}
use Rattle.quic_headline.proofs.Places.Order.{bytes_same}
use Rattle.quic_headline.proofs.Halves.Ghosts.{read, SaysOf}
use Rattle.quic_headline.proofs.Halves.QuietSteps.{settles}
use Rattle.quic_headline.proofs.Halves.Bringing.{frame_read}
use Rattle.quic_headline.proofs.Channel.Received.{Allows, Stays, stays_kept}
use Rattle.quic_headline.proofs.Channel.Told.{AllTold, IsTold, stays_frame}
use Rattle.quic_headline.proofs.Unread.Walk.{settling}
use Rattle.quic_headline.proofs.Credit.Lists.{usage, SaysFrame}
use Rattle.quic_headline.proofs.Credit.Counted.{Uses, frame_counts}
use Rattle.quic_headline.proofs.Credit.Said.{IsKnown, consumed_within}

-- the peer may come no less far on a half than is allowed
allowed_at : (s : StreamsState) (id n : ℕ) (h : RecvHalf) → at s.receiving.halves.live id ≡ Some h → Allows s id n → n ≤ h.announced
allowed_at s id n h found a = subst (λ (o : Option RecvHalf). HalfIs (n ≤ s.receiving.stream_window) (λ (g : RecvHalf). n ≤ g.announced) (Unit {0}) o (has_place s.side s.receiving.halves.places id)) found a

-- each limit that frames said, by what each says, is no greater than this, where what is told is
module _ (s : StreamsState) (says : FrameValue → ℕ) (announced : ℕ) (one : (f : FrameValue) → IsTold s f → says f ≤ announced) where
  said_frames : (fs : List FrameValue) → ((f : FrameValue) → In f fs → IsTold s f) → greatest_in says fs ≤ announced
  said_frames [] all = omega arith
  said_frames (f ∷ fs) all = let here = one f (all f (inl refl)) in let rest = said_frames fs (λ g i. all g (inr i)) in omega (arith, here, rest)

  said_least : (ss : List Sent) → AllTold s ss → most_said says ss ≤ announced
  said_least [] all = omega arith
  said_least (t ∷ ss) all = let here = said_frames t.frames (λ f i. all t (inl refl) f i) in let rest = said_least ss (λ u i f j. all u (inr i) f j) in omega (arith, here, rest)

-- a limit on a stream that was told is no greater than the one that was announced
said_on : (s : StreamsState) (id : ℕ) (h : RecvHalf) → at s.receiving.halves.live id ≡ Some h → (f : FrameValue) → IsTold s f → stream_limit_in id f ≤ h.announced
said_on s id h found (max_stream_data f) told = go (f.id == id) refl
  where
    go : (b : Bool) → (f.id == id) ≡ b → (if b then f.limit else 0) ≤ h.announced
    go true is = allowed_at s id f.limit h found (subst (λ (n : ℕ). Allows s n f.limit) (eqb-true f.id id is) told)
    go false is = omega arith
said_on s id h found f told = omega arith

-- nor is one on all data
said_of_all : (s : StreamsState) (f : FrameValue) → IsTold s f → data_limit_in f ≤ s.receiving.announced
said_of_all s (max_data limit) told = told
said_of_all s f told = omega arith

-- where a limit grew past what was announced, it lies far above what was said, which is no more
by_parts : (window used said announced spent w : ℕ) → w ≡ window → spent ≤ used → said ≤ announced → window ≤ announced → announced + max (w / 8) 1 ≤ w + spent → is_far window used said ≡ true
by_parts window used said announced spent w same count most least past =
    let grown : announced + max (window / 8) 1 ≤ window + spent = subst (λ (n : ℕ). announced + max (n / 8) 1 ≤ n + spent) same past in
    le-leb (max window said + max (window / 8) 1) (window + used) (omega (arith, grown, count, most, least))

-- so it does where more is used up
pub far_more : (window used more said : ℕ) → used ≤ more → is_far window used said ≡ true → is_far window more said ≡ true
far_more window used more said less far =
    let past = leb-true (max window said + max (window / 8) 1) (window + used) far in
    le-leb (max window said + max (window / 8) 1) (window + more) (omega (arith, past, less))

-- so it is of a stream of which this was read
pub far_on : (done : ℕ → Wrote) (told : List Told) (s : StreamsState) (id window : ℕ) (ss : List Sent) → HoldsRead done (read told) s → s.receiving.stream_window ≡ window → AllTold s ss → Allows s id window → stream_grew s id ≡ true
    → is_far window (length (bytes_of (reads id told))) (most_said (stream_limit_in id) ss) ≡ true
far_on done told s id window ss holds wide all first grew = go (at s.receiving.halves.live id) refl grew
  where
    go : (o : Option RecvHalf) → at s.receiving.halves.live id ≡ o → grew_on s.receiving.stream_window o ≡ true → is_far window (length (bytes_of (reads id told))) (most_said (stream_limit_in id) ss) ≡ true
    go None found is = cc
    go (Some h) found is =
        let past : h.announced + max (s.receiving.stream_window / 8) 1 ≤ min (bytes_read_of h.arrived + s.receiving.stream_window) (2 ^ 62 - 1) = leb-true (h.announced + least_growth s.receiving.stream_window) (raised_on s.receiving.stream_window h) (and_parts (takes_limits h) (nat_le (h.announced + least_growth s.receiving.stream_window) (raised_on s.receiving.stream_window h)) is).1 in
        let count : bytes_read_of h.arrived ≡ length (bytes_of (reads id told)) = (read_at done (read told) s id h (live_receives s id h found) holds).counted ∙ sym (ap length (bytes_same (reads id told))) in
        let most = said_least s (stream_limit_in id) h.announced (said_on s id h found) ss all in
        let least = allowed_at s id window h found first in
        by_parts window (length (bytes_of (reads id told))) (most_said (stream_limit_in id) ss) h.announced (bytes_read_of h.arrived) s.receiving.stream_window wide (omega (arith, count)) most least
        (omega (arith, past))

-- ---- all data

-- What is known of the streams of an end to which these packets came, and at which this was told:
-- each step by which it takes a packet keeps that.
module _ (window stream_window : ℕ) (packets : List Packet) (ts : List Told) (before : StreamsState) (done : ℕ → Wrote) where
  abbrev pub Spends : StreamsState → Type 0
  Spends s = IsKnown window stream_window packets ts before done s

  pub spends_settled : Settling (λ (e : End). Spends e.streams)
  spends_settled step e k = record {
    stays = settles (Stays before) (is_quiet (Stays before) (stays_kept before)) step e k.stays;
    reads_are = settles (HoldsRead done (read ts)) (is_quiet (HoldsRead done (read ts)) (read_kept done (read ts))) step e k.reads_are;
    uses = settling (Uses window stream_window (usage packets ts)) step e k.uses;
  }

  pub spends_frame : (f : FrameValue) (e : End) → SaysFrame (usage packets ts) f → SaysOf done f → Spends e.streams → Spends (take_frame f e).end.streams
  spends_frame f e brings says k = record {
    stays = stays_frame before f e k.stays;
    reads_are = frame_read done (read ts) f e says k.reads_are;
    uses = frame_counts window stream_window before (usage packets ts) f e brings k.stays k.uses;
  }

  -- where the limit on all data grew, it lies far above what was said before
  pub far_in : (ss : List Sent) → AllTold before ss → window ≤ before.receiving.announced → (s : StreamsState) → Spends s → data_grew s.receiving ≡ true → is_far window (all_consumed packets ts) (most_said data_limit_in ss) ≡ true
  far_in ss all first s k grew =
      let past : s.receiving.announced + max (s.receiving.window / 8) 1 ≤ min (s.receiving.window + consumed s.receiving) (2 ^ 62 - 1) = leb-true (s.receiving.announced + least_growth s.receiving.window) (raised_data s.receiving) grew in
      let more = k.stays.receives.more in
      let said = said_least before data_limit_in before.receiving.announced (said_of_all before) ss all in
      by_parts window (all_consumed packets ts) (most_said data_limit_in ss) s.receiving.announced (consumed s.receiving) s.receiving.window k.uses.window (consumed_within window stream_window packets ts before done s k)
      (omega (arith, more, said)) (omega (arith, more, first)) (omega (arith, past))
