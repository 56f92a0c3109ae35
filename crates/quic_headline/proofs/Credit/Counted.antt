-- What an end consumed of each stream is no more than what the lists of a run say, whatever is
-- called and whichever frames come.
use Rattle.std.proofs.Common.{◌≡◌, ℕ, ◌+◌, ◌≤◌, Bool, true, false, not, ◌&&◌, ◌||◌, List, [], ◌∷◌, ◌++◌, length, Option, Some, None, Result, Ok, Err, refl, sym, ap, ◌∙◌, subst, arith, ◌⊎◌, inl, inr}
use Rattle.std.specs.Prelude.{◌==◌, if◌then◌else◌, nat_lt}
use Rattle.std.specs.Option.{is_some}
use Rattle.std.proofs.lemmas.Bool.{cond_both, or_cases, or_left, or_right, eq-eqb}
use Rattle.std.proofs.lemmas.List.{length-append}
use Rattle.quic_wire_core.specs.declared.stream_id.Side.{Side}
use Rattle.quic_wire_core.specs.StreamId.{dir_of}
use Rattle.quic_wire.specs.Value.{FrameValue, StreamValue}
use Rattle.quic_assembler.specs.Arrived.{bytes_read_of}
use Rattle.quic_streams_parts.specs.declared.answers.UpdateError.{UpdateError}
use Rattle.quic_streams_parts.specs.declared.answers.UpdateError.TheVariants as update_errors
use Rattle.quic_streams_parts.specs.Dirs.{Counts, of, is_own, is_two_way}
use Rattle.quic_streams_parts.specs.Table.{at}
use Rattle.quic_streams_parts.specs.RecvHalf.{RecvHalf, new_recv_half, begun, read_on, stopped_now, after_frame, after_reset_stream, final_after, end_of}
use Rattle.quic_streams_halves.specs.Halves.{without_half, is_done}
use Rattle.quic_streams_state.specs.declared.state.StreamsState.{StreamsState}
use Rattle.quic_streams_state.specs.State.{Opening, Receiving, first_window, receiving_half, with_recv, recv_done, done_if, sending_status, seen_at}
use Rattle.quic_streams_state.specs.Opening.{opened_by, beyond}
use Rattle.quic_streams_state.specs.Taking.{part_for, renewed}
use Rattle.quic_streams_state.specs.Reading.{Told, told_bytes, told_by, after_read_begun, after_next, stop_answer, is_closed_at, stopped_at, after_stop}
use Rattle.quic_streams_laws.specs.KeepingLaws.{at-half, stream_cases, reset_cases}
use Rattle.quic_streams_laws.specs.LimitedLaws.{WasReceiving, in_use, unused, was_receiving}
use Rattle.quic_streams_laws.specs.Content.{HoldsRead, IsNextAnswer}
use Rattle.quic_streams_laws.specs.ContentLaws.{read_at, next_lacking}
use Rattle.quic_streams_laws.specs.Kept.{HoldsTaken}
use Rattle.quic_streams_laws.specs.Reads.{Reads, with_chunk_read, with_unordered}
use Rattle.quic_streams_laws.specs.Reads as laws
use Rattle.quic_streams_laws.specs.Reads.{read_next_by}
use Rattle.quic_streams_laws.specs.Written.{Wrote}
use Rattle.quic_machine.specs.declared.run.Call.{Call}
use Rattle.quic_machine.specs.declared.run.Call.TheVariants as calls
use Rattle.quic_machine.specs.declared.run.Answer.{Answer}
use Rattle.quic_machine.specs.declared.run.Answer.TheVariants as answers
use Rattle.quic_machine.specs.declared.run.ReadCall.{ReadCall}
use Rattle.quic_machine.specs.declared.answers.State.{State}
use Rattle.quic_machine.specs.Policy.{Policy}
use Rattle.quic_machine.specs.Calls.{AreNexts, after_nexts}
use Rattle.quic_machine.specs.StreamCalls.{if_ok, IsRead}
use Rattle.quic_machine.specs.End.{End, streams_at}
use Rattle.quic_machine.specs.Receive.{take_frame}
use Rattle.quic_machine.specs.Poll as poll
use Rattle.quic_machine.specs.CallCases.{is_delivery, is_poll}
use Rattle.quic_machine.specs.FrameCases.{passed, frames_leave}
use Rattle.quic_machine.specs.Machine.{IsAnswer, after_call}
use Rattle.quic_headline.specs.Runs as runs
use Rattle.quic_headline.specs.Runs.{Next, Packet, In, bytes_of, nexts_by, nexts, reads, tells_end, finished}
use Rattle.quic_headline.proofs.Places.Told.{bytes_append, nexts_more, tells_append}
use Rattle.quic_headline.proofs.Places.Order.{bytes_same}
use Rattle.quic_headline.proofs.Places.Parties.{told_of}
use Rattle.quic_headline.proofs.Halves.Ghosts.{read}
use Rattle.quic_headline.proofs.Halves.Reading.{IsReading, begins, next_on, begun_reads, read_nexts, read_on as reads_after}
use Rattle.quic_headline.proofs.Channel.Received.{Stays, half_within}
use Rattle.quic_headline.proofs.Channel.Told.{stays_frame}
use Rattle.quic_headline.proofs.Unread.Walk.{Of, Change, stops, takes, resets, quiet_left, frame_left, opened_left, opened_receiving}
use Rattle.quic_headline.proofs.Unread.Consumed.{known_calls, known_with, known_opened}
use Rattle.quic_headline.proofs.Unread.Newest.{Any}
use Rattle.quic_headline.proofs.Credit.Cases.{IsReadOut, begun_to, next_to, stop_to, reset_told_to, renewed_to}
use Rattle.quic_headline.proofs.Credit.Sums.{SumsTo, sums_follow, half_sums, sums_with, sums_done}
use Rattle.quic_headline.proofs.Credit.Lists.{Usage, usage, used_on, UsesMore, used_more, used_all, told_uses, stopped_last, SaysFrame}

-- ---- what is known

-- nothing more comes of a half: its final size is known, or it was reset
abbrev pub IsSized : RecvHalf → Type 0
IsSized h = (is_some h.final ≡ true) ⊎ (is_some h.reset ≡ true)

-- of a half in use: what was seen of it came, it was stopped and reset only where the lists say so,
-- and its final size is known only where that came
pub record IsCounted (u : Usage) (id : ℕ) (h : RecvHalf) : Type 0 where
  pub seen : h.seen ≤ u.top id
  pub halted : h.stopped ≡ true → u.halted id ≡ true
  pub cut : is_some h.reset ≡ true → u.cut id ≡ true
  pub sized : IsSized h → u.sized id ≡ true

-- nothing more of a stream is read, by the lists
abbrev pub IsReadUp : Usage → ℕ → Type 0
IsReadUp u id = (u.ended id || (u.halted id || u.cut id)) ≡ true

-- of one that is done: as much came, and was consumed; nothing more is read of it, and its final
-- size came
abbrev pub IsSpent : Usage → ℕ → ℕ → Type 0
IsSpent u id m = (m ≤ u.top id) × (m ≤ used_on u id) × IsReadUp u id × (u.sized id ≡ true)

-- nothing of one that was never in use
abbrev pub IsAny : ℕ → Type 0
IsAny id = Unit {0}

-- so it is of each half, and windows are so wide
pub record Uses (wide each_wide : ℕ) (u : Usage) (side : Side) (r : Receiving) (announced configured : Counts) : Type 0 where
  pub window : r.window ≡ wide
  pub stream_window : r.stream_window ≡ each_wide
  pub sums : SumsTo IsAny (IsCounted u) (IsSpent u) side r announced configured

-- ---- one half

new_counted : (u : Usage) (id window : ℕ) → IsAny id → IsCounted u id (new_recv_half window)
new_counted u id window any = record { seen = omega arith; halted = λ is. cc; cut = λ is. cc; sized = λ last. none last }
  where
    none : IsSized (new_recv_half window) → u.sized id ≡ true
    none (inl is) = cc
    none (inr is) = cc

-- once nothing more is read of a half, all that was seen is consumed
cut_spent : (u : Usage) (id : ℕ) (h : RecvHalf) → IsCounted u id h → (h.stopped ≡ true) ⊎ (is_some h.reset ≡ true) → IsSized h → IsSpent u id h.seen
cut_spent u id h c over sized =
    let known : (u.halted id ≡ true) ⊎ (u.cut id ≡ true) = elim over [ inl is ↦ inl (c.halted is) | inr is ↦ inr (c.cut is) ] in
    let most = used_all u id known in
    let seen = c.seen in
    (seen, omega (arith, most, seen), or_right (u.ended id) (u.halted id || u.cut id) (elim known [ inl is ↦ or_left (u.halted id) (u.cut id) is | inr is ↦ or_right (u.halted id) (u.cut id) is ]), c.sized sized)

-- a frame that comes
frame_counted : (u : Usage) (id : ℕ) (h : RecvHalf) (f : StreamValue) → end_of f ≤ u.top id → (f.fin ≡ true → u.sized id ≡ true) → IsCounted u id h → IsCounted u id (after_frame h f)
frame_counted u id h f most there c = cond_both h.stopped _ _ (IsCounted u id) (λ e. record { seen = (let seen = c.seen in omega arith); halted = λ is. c.halted is; cut = λ is. c.cut is; sized = known })
    (λ e. cond_both (is_some h.reset) _ _ (IsCounted u id) (λ g. c) (λ g. record { seen = (let seen = c.seen in omega arith); halted = λ is. c.halted is; cut = λ is. c.cut is; sized = known }))
  where
    -- its final size is the end of the frame, or was known
    last : (b : Bool) → f.fin ≡ b → is_some (if b then Some (end_of f) else h.final) ≡ true → u.sized id ≡ true
    last true fin is = there fin
    last false fin is = c.sized (inl is)

    known : (is_some (final_after h (end_of f) f.fin) ≡ true) ⊎ (is_some h.reset ≡ true) → u.sized id ≡ true
    known (inl is) = last f.fin refl is
    known (inr is) = c.sized (inr is)

reset_counted : (u : Usage) (id : ℕ) (h : RecvHalf) (code size : ℕ) → size ≤ u.top id → u.cut id ≡ true → u.sized id ≡ true → IsCounted u id h → IsCounted u id (after_reset_stream h code size)
reset_counted u id h code size most there came c = cond_both h.stopped _ _ (IsCounted u id) (λ e. record { seen = most; halted = λ is. c.halted is; cut = λ is. there; sized = λ last. came })
    (λ e. cond_both (is_some h.reset) _ _ (IsCounted u id) (λ g. c) (λ g. record { seen = most; halted = λ is. c.halted is; cut = λ is. there; sized = λ last. came }))

-- a half of which nothing more is read is in use
pub live_of : (s : StreamsState) (id : ℕ) (h : RecvHalf) → receiving_half s id ≡ Some h → IsReadOut h → at s.receiving.halves.live id ≡ Some h
live_of s id h e out = go (was_receiving s id h e)
  where
    fresh : (window : ℕ) → h ≡ new_recv_half window → IsReadOut h → ⊥
    fresh window same (inl some) = let none : is_some h.reset ≡ false = ap (λ (x : RecvHalf). is_some x.reset) same in cc
    fresh window same (inr sized) = let none : h.final ≡ None = ap (λ (x : RecvHalf). x.final) same in cc

    go : WasReceiving s id h → at s.receiving.halves.live id ≡ Some h
    go (in_use is) = is
    go (unused is free same) = absurd (fresh (first_window s.receiving) same out)

-- windows stay where a half is done
recv_same : (s : StreamsState) (id : ℕ) → ((recv_done s id).receiving.window ≡ s.receiving.window) × ((recv_done s id).receiving.stream_window ≡ s.receiving.stream_window)
recv_same s id = go (not (is_own s.side id) && (not (is_two_way (dir_of id)) || is_done (sending_status s id)))
  where
    after : StreamsState
    after = record s { receiving = record s.receiving { halves = without_half s.receiving.halves id; gone = s.receiving.gone + seen_at (at s.receiving.halves.live id) } }

    go : (b : Bool) → ((done_if b id after).receiving.window ≡ s.receiving.window) × ((done_if b id after).receiving.stream_window ≡ s.receiving.stream_window)
    go true = (refl, refl)
    go false = (refl, refl)

-- ---- where more was used

pub up_more : (u v : Usage) → UsesMore u v → (id : ℕ) → IsReadUp u id → IsReadUp v id
up_more u v m id up = elim (or_cases (u.ended id) (u.halted id || u.cut id) up) [
  | inl is ↦ or_left (v.ended id) (v.halted id || v.cut id) (m.ended id is)
  | inr rest ↦ or_right (v.ended id) (v.halted id || v.cut id) (elim (or_cases (u.halted id) (u.cut id) rest) [ inl is ↦ or_left (v.halted id) (v.cut id) (m.halted id is) | inr is ↦ or_right (v.halted id) (v.cut id) (m.cut id is) ])
]

pub uses_grow : (wide each_wide : ℕ) (u v : Usage) → UsesMore u v → (side : Side) (r : Receiving) (announced configured : Counts) → Uses wide each_wide u side r announced configured → Uses wide each_wide v side r announced configured
uses_grow wide each_wide u v m side r announced configured i = record {
  window = i.window;
  stream_window = i.stream_window;
  sums = sums_follow IsAny IsAny (IsCounted u) (IsCounted v) (IsSpent u) (IsSpent v) side r announced configured (λ id any. any)
      (λ id h c. record { seen = (let seen = c.seen in let more = m.top id in omega (arith, seen, more)); halted = λ is. m.halted id (c.halted is); cut = λ is. m.cut id (c.cut is); sized = λ last. m.sized id (c.sized last) })
      (λ id n d. (let top = m.top id in let more = used_more u v m id in let low = d.0 in let most = d.1 in (omega (arith, top, low), omega (arith, more, most), up_more u v m id d.2, m.sized id d.3))) i.sums;
}

module _ (wide each_wide : ℕ) where
  -- where more was used of the same streams
  pub grown : (u v : Usage) → UsesMore u v → (s : StreamsState) → Of (Uses wide each_wide u) s → Of (Uses wide each_wide v) s
  grown u v m s i = uses_grow wide each_wide u v m s.side s.receiving s.opening.announced s.opening.configured i

  module _ (before : StreamsState) (u : Usage) where
    abbrev K : Side → Receiving → Counts → Counts → Type 0
    K = Uses wide each_wide u

    pub half_counts : (s : StreamsState) (id : ℕ) (h : RecvHalf) → receiving_half s id ≡ Some h → Of K s → IsCounted u id h
    half_counts s id h is i = half_sums IsAny (IsCounted u) (IsSpent u) (new_counted u) s id h is i.sums

    -- one half has another value
    uses_with : (s : StreamsState) (id : ℕ) (old new : RecvHalf) → receiving_half s id ≡ Some old → IsCounted u id new → Stays before s → Of K s → Of K (with_recv s id new)
    uses_with s id old new is now known i = record { window = i.window; stream_window = i.stream_window; sums = sums_with IsAny (IsCounted u) (IsSpent u) before s id old new is now known i.sums }

    -- one is done
    uses_done : (s : StreamsState) (id : ℕ) (h : RecvHalf) → at s.receiving.halves.live id ≡ Some h → IsSpent u id h.seen → Stays before s → Of K s → Of K (recv_done s id)
    uses_done s id h is now known i = record {
      window = (recv_same s id).0 ∙ i.window;
      stream_window = (recv_same s id).1 ∙ i.stream_window;
      sums = sums_done IsAny (IsCounted u) (IsSpent u) before s id h is now known i.sums;
    }

    -- ---- frames that come

    -- the half of a frame has another value
    value_counts : (s : StreamsState) (id : ℕ) (old new : RecvHalf) (tells : Bool) → beyond s id ≡ None → part_for s id ≡ Some old → Change Any s.receiving id old new → (IsCounted u id old → IsCounted u id new) → Stays before s → Of K s → Of K (renewed s id old new tells)
    value_counts s id old new tells within part change step known i =
        let t : StreamsState = opened_by s id in
        let there : Stays before t = known_opened before s id within known in
        let was : Of K t = opened_left K s id i in
        let on : Change Any t.receiving id old new = subst (λ (r : Receiving). Change Any r id old new) (sym (opened_receiving s id)) change in
        let counted : IsCounted u id new = step (half_counts t id old part was) in
        let now : Of K (with_recv t id new) = uses_with t id old new part counted there was in
        let later : Stays before (with_recv t id new) = known_with before Any t id old new part on there in
        renewed_to K s id old new tells now (λ halted known_size. uses_done (with_recv t id new) id new (at-half t.side t.receiving.halves id new) (cut_spent u id new counted (inl halted) (inl known_size)) later now)

    pub frame_counts : (f : FrameValue) (e : End) → SaysFrame u f → Stays before e.streams → Of K e.streams → Of K (take_frame f e).end.streams
    frame_counts f e says known i = frame_left K f e
        (λ g is. stream_cases e.streams e.waiting.frames g (Of K) (λ b broken. i) (λ within none. i)
        (λ h within part kept. value_counts e.streams g.id h (after_frame h g) true within part (takes g tt refl kept refl) (λ c. (let said = says.brings g is in frame_counted u g.id h g said.0 said.1 c)) known i))
        (λ g is. reset_cases e.streams e.waiting.frames g (Of K) (λ b broken. i) (λ within none. i)
        (λ h within part kept. (let said = says.resets g is in value_counts e.streams g.id h (after_reset_stream h g.code g.final_size) (not (is_some h.reset)) within part (resets g tt refl kept refl) (λ c. reset_counted u g.id h g.code g.final_size said.0 said.1 said.2 c) known i)))
        i

    -- all frames of a packet
    pub frames_count : (fs : List FrameValue) (e : End) → ((f : FrameValue) → In f fs → SaysFrame u f) → Stays before e.streams → Of K e.streams → Of K (passed fs e).end.streams
    frames_count fs e says known i = (frames_leave (λ (left : List FrameValue) (x : End). ((f : FrameValue) → In f left → SaysFrame u f) × Stays before x.streams × Of K x.streams) (λ f left x all. (
      λ g among. all.0 g (inr among),
      stays_frame before f x all.1,
      frame_counts f x (all.0 f (inl refl)) all.1 all.2,
    )) fs e (says, known, i)).1.2

  -- ---- a read

  -- of each stream so many bytes were read as these chunks have
  abbrev reading : Usage → (ℕ → Reads) → Usage
  reading u r = record { top = u.top; read = λ id. length (bytes_of (r id).chunks); halted = u.halted; cut = u.cut; ended = u.ended; sized = u.sized }

  -- a `next` only adds to them
  next_uses : (u : Usage) (id : ℕ) (x : Next) (r : ℕ → Reads) → UsesMore (reading u r) (reading u (read_next_by x id r))
  next_uses u id x r = record { top = λ q. omega arith; read = λ q. go x q; halted = λ q is. is; cut = λ q is. is; ended = λ q is. is; sized = λ q is. is }
    where
      go : (x : Next) (q : ℕ) → length (bytes_of (r q).chunks) ≤ length (bytes_of (read_next_by x id r q).chunks)
      go (Ok (Some c)) q = by_stream (q == id)
        where
          by_stream : (b : Bool) → length (bytes_of (r q).chunks) ≤ length (bytes_of (if b then with_chunk_read c (r q) else r q).chunks)
          by_stream true =
              let both : length (bytes_of ((r q).chunks ++ c ∷ [])) ≡ length (bytes_of (r q).chunks) + length (bytes_of (c ∷ [])) = ap length (bytes_append (r q).chunks (c ∷ [])) ∙ length-append (bytes_of (r q).chunks) (bytes_of (c ∷ [])) in
              omega (arith, both)
          by_stream false = omega arith
      go (Ok None) q = omega arith
      go (Err e) q = omega arith

  module _ (before : StreamsState) (u : Usage) (done : ℕ → Wrote) (taken : StreamValue → Type 0) (id : ℕ) where
    -- all that was seen of a half that was read up was read
    out_spent : (r : ℕ → Reads) (v : Usage) → UsesMore (reading u r) v → (s : StreamsState) (h : RecvHalf) → receiving_half s id ≡ Some h → IsReadOut h → (is_some h.reset ≡ true) ⊎ (v.ended id ≡ true) → HoldsRead done r s → Stays before s → IsCounted v id h → IsSpent v id h.seen
    out_spent r v m s h e (inl cut) up holds known c = cut_spent v id h c (inr cut) (inr cut)
    out_spent r v m s h e (inr sized) (inl cut) holds known c = cut_spent v id h c (inr cut) (inr cut)
    out_spent r v m s h e (inr sized) (inr ended_there) holds known c =
        let ended : h.seen ≡ bytes_read_of h.arrived = (half_within before s id h e known.receives).ended (bytes_read_of h.arrived) sized in
        let counted : bytes_read_of h.arrived ≡ length (laws.bytes_of (r id).chunks) = (read_at done r s id h e holds).counted in
        let same : length (bytes_of (r id).chunks) ≡ length (laws.bytes_of (r id).chunks) = ap length (bytes_same (r id).chunks) in
        let more : length (bytes_of (r id).chunks) ≤ v.read id = m.read id in
        (c.seen, omega (arith, ended, counted, same, more), or_left (v.ended id) (v.halted id || v.cut id) ended_there, c.sized (inl (ap is_some sized)))

    one_next : (told : Told) (s : StreamsState) (r : ℕ → Reads) (most : ℕ) (x : Next) → (x ≡ Ok None → u.ended id ≡ true) → IsNextAnswer told s id most x → HoldsRead done r s → Stays before s → Of (Uses wide each_wide (reading u r)) s → Of (Uses wide each_wide (reading u (read_next_by x id r))) (after_next told x s id most)
    one_next told s r most x ends is holds known i = elim is [
      | inl same ↦ subst (λ (a : Next). Of (Uses wide each_wide v) (after_next told a s id most)) (sym same)
          (next_to (Of (Uses wide each_wide v)) told s id most j
          (λ h e. (let c = half_counts before v s id h e j in uses_with before v s id h (read_on h most) e (record { seen = c.seen; halted = λ f. c.halted f; cut = λ f. c.cut f; sized = λ f. c.sized f }) known j))
          (λ h e out up. uses_done before v s id h (live_of s id h e out) (out_spent r v more s h e out (elim up [ inl cut ↦ inl cut | inr said ↦ inr (ends (same ∙ said)) ]) holds known (half_counts before v s id h e j)) known j))
      | inr lacks ↦ subst (λ (a : Next). Of (Uses wide each_wide v) (after_next told a s id most)) (sym lacks) (subst (Of (Uses wide each_wide v)) (sym (next_lacking told s id most)) j)
    ]
      where
        v : Usage
        v = reading u (read_next_by x id r)

        more : UsesMore (reading u r) v
        more = next_uses u id x r

        j : Of (Uses wide each_wide v) s
        j = grown (reading u r) v more s i

    all_nexts : (told : Told) (s : StreamsState) (r : ℕ → Reads) (mosts : List ℕ) (said : List Next) → (tells_end said ≡ true → u.ended id ≡ true) → AreNexts told s id mosts said → IsReading done taken id told s r → Stays before s → Of (Uses wide each_wide (reading u r)) s
        → Of (Uses wide each_wide (reading u (read_nexts said id r))) (after_nexts told s id mosts said)
    all_nexts told s r [] [] ends are on known i = i
    all_nexts told s r [] (x ∷ said) ends are on known i = absurd are
    all_nexts told s r (most ∷ mosts) [] ends are on known i = absurd are
    all_nexts told s r (most ∷ mosts) (x ∷ said) ends are on known i =
        all_nexts (told_by x told) (after_next told x s id most) (read_next_by x id r) mosts said (λ e. ends (later x e)) are.1 (next_on done taken id told s r most x are.0 on) ((known_calls before).next told s id most x are.0 known)
        (one_next told s r most x (λ e. ends (subst (λ (a : Next). tells_end (a ∷ said) ≡ true) (sym e) refl)) are.0 on.holds known i)
      where
        later : (a : Next) → tells_end said ≡ true → tells_end (a ∷ said) ≡ true
        later (Ok (Some chunk)) e = e
        later (Ok None) e = refl
        later (Err error) e = e

  -- ---- calls

  module _ (packets : List Packet) (ts : List runs.Told) (state : State) (e : End) (before : StreamsState) (done : ℕ → Wrote) (taken : StreamValue → Type 0) (known : Stays before e.streams) (i : Of (Uses wide each_wide (usage packets ts)) e.streams) where
    abbrev After : Call → Answer → StreamsState → Type 0
    After call a s = Of (Uses wide each_wide (usage packets (ts ++ told_of call a state ∷ []))) s

    -- what a call tells only adds to it
    told_more : (call : Call) (a : Answer) (s : StreamsState) → Of (Uses wide each_wide (usage packets ts)) s → After call a s
    told_more call a s j = grown (usage packets ts) (usage packets (ts ++ told_of call a state ∷ [])) (told_uses packets ts (told_of call a state)) s j

    -- a read
    read_counts : (rd : ReadCall) (said : List Next) → IsRead e.streams rd.id rd.ordered rd.nexts.items (answers.Read (Ok said)) → HoldsRead done (read ts) e.streams → HoldsTaken taken e.streams
        → After (calls.Read rd) (answers.Read (Ok said)) (after_nexts told_bytes (after_read_begun e.streams rd.id rd.ordered) rd.id rd.nexts.items said)
    read_counts rd said is holds keeps =
        let u : Usage = usage packets (ts ++ t ∷ []) in
        let first : ℕ → Reads = begun_reads rd.ordered rd.id (read ts) in
        let last : ℕ → Reads = read_nexts said rd.id first in
        let s : StreamsState = after_read_begun e.streams rd.id rd.ordered in
        let j : Of (Uses wide each_wide (reading u first)) e.streams = grown (usage packets ts) (reading u first) begins_more e.streams i in
        let k : Of (Uses wide each_wide (reading u first)) s = begun_to (Of (Uses wide each_wide (reading u first))) e.streams rd.id rd.ordered j
        (λ h there. (let c = half_counts before (reading u first) e.streams rd.id h there j in uses_with before (reading u first) e.streams rd.id h (begun h false) there (record { seen = c.seen; halted = λ f. c.halted f; cut = λ f. c.cut f; sized = λ f. c.sized f }) known j)) in
        let all : Of (Uses wide each_wide (reading u last)) (after_nexts told_bytes s rd.id rd.nexts.items said) = all_nexts before u done taken rd.id told_bytes s first rd.nexts.items said said_ended is.1
        (begins done taken rd.id e.streams rd.ordered (read ts) is.0 holds keeps) ((known_calls before).begun e.streams rd.id rd.ordered known) k in
        grown (reading u last) u ends_more (after_nexts told_bytes s rd.id rd.nexts.items said) all
      where
        t : runs.Told
        t = told_of (calls.Read rd) (answers.Read (Ok said)) state

        -- where it told the end, the lists say so
        said_ended : tells_end said ≡ true → finished rd.id (ts ++ t ∷ []) ≡ true
        said_ended e = ap tells_end (nexts_more rd.id ts t) ∙ tells_append (nexts rd.id ts) (nexts_by rd.id t.call t.answer) ∙ or_right (tells_end (nexts rd.id ts)) (tells_end (nexts_by rd.id t.call t.answer)) (ap (λ (b : Bool). tells_end (if b then said else [])) (eq-eqb rd.id rd.id refl) ∙ e)

        begins_more : UsesMore (usage packets ts) (reading (usage packets (ts ++ t ∷ [])) (begun_reads rd.ordered rd.id (read ts)))
        begins_more = (let m = told_uses packets ts t in record { top = m.top; read = λ q. go rd.ordered q; halted = m.halted; cut = m.cut; ended = m.ended; sized = m.sized })
          where
            go : (ordered : Bool) (q : ℕ) → length (bytes_of (reads q ts)) ≤ length (bytes_of (begun_reads ordered rd.id (read ts) q).chunks)
            go true q = omega arith
            go false q = by_stream (q == rd.id)
              where
                by_stream : (b : Bool) → length (bytes_of (reads q ts)) ≤ length (bytes_of (if b then with_unordered (read ts q) else read ts q).chunks)
                by_stream true = omega arith
                by_stream false = omega arith

        ends_more : UsesMore (reading (usage packets (ts ++ t ∷ [])) (read_nexts said rd.id (begun_reads rd.ordered rd.id (read ts)))) (usage packets (ts ++ t ∷ []))
        ends_more = record {
          top = λ q. omega arith;
          read = λ q. (let same : length (bytes_of (read_nexts said rd.id (begun_reads rd.ordered rd.id (read ts)) q).chunks) ≡ length (bytes_of (reads q (ts ++ t ∷ []))) = ap (λ (x : Reads). length (bytes_of x.chunks)) (reads_after ts rd said state q) in omega (arith, same));
          halted = λ q is. is;
          cut = λ q is. is;
          ended = λ q is. is;
          sized = λ q is. is;
        }

    -- what a stop is answered, where nothing may be read or something may
    abbrev stop_said : Bool → Result (Unit {0}) UpdateError
    stop_said closed = if closed then Err update_errors.ClosedStream else Ok tt

    -- a stop
    stop_counts : (id code : ℕ) → After (calls.Stop id code) (answers.Stop (stop_answer e.streams id)) (if_ok (stop_answer e.streams id) (after_stop e.streams e.waiting.frames id code) (streams_at e)).state
    stop_counts id code = go (receiving_half e.streams id) refl
      where
        s : StreamsState
        s = e.streams

        Then : Result (Unit {0}) UpdateError → StreamsState → Type 0
        Then r x = After (calls.Stop id code) (answers.Stop r) x

        u : Usage
        u = usage packets (ts ++ told_of (calls.Stop id code) (answers.Stop (Ok tt)) state ∷ [])

        there : Then (Ok tt) s
        there = told_more (calls.Stop id code) (answers.Stop (Ok tt)) s i

        counted : (h : RecvHalf) → receiving_half s id ≡ Some h → IsCounted u id (stopped_now h)
        counted h is = (let c = half_counts before u s id h is there in record {
          seen = c.seen;
          halted = λ f. stopped_last id ts (told_of (calls.Stop id code) (answers.Stop (Ok tt)) state) (eq-eqb id id refl);
          cut = λ f. c.cut f;
          sized = λ f. c.sized f;
        })

        now : (h : RecvHalf) → receiving_half s id ≡ Some h → Then (Ok tt) (with_recv s id (stopped_now h))
        now h is = uses_with before u s id h (stopped_now h) is (counted h is) known there

        stopped_ends : (h : RecvHalf) → receiving_half s id ≡ Some h → h.stopped ≡ false → is_some h.final ≡ true → Then (Ok tt) (recv_done (with_recv s id (stopped_now h)) id)
        stopped_ends h is free sized = uses_done before u (with_recv s id (stopped_now h)) id (stopped_now h) (at-half s.side s.receiving.halves id (stopped_now h)) (cut_spent u id (stopped_now h) (counted h is) (inl refl) (inl sized)) (known_with before Any s id h (stopped_now h) is (stops free refl) known) (now h is)

        by_half : (h : RecvHalf) (b : Bool) → h.stopped ≡ b → receiving_half s id ≡ Some h → Then (stop_said b) (if_ok (stop_said b) (stopped_at (Some h) s e.waiting.frames id code) (streams_at e)).state
        by_half h true f is = told_more (calls.Stop id code) (answers.Stop (Err update_errors.ClosedStream)) s i
        by_half h false f is = subst (λ (o : Option RecvHalf). Then (Ok tt) (stopped_at o s e.waiting.frames id code).state) is (stop_to (Then (Ok tt)) s e.waiting.frames id code there (λ g found free. (now g found, λ sized. stopped_ends g found free sized)))

        go : (o : Option RecvHalf) → receiving_half s id ≡ o → Then (stop_said (is_closed_at o)) (if_ok (stop_said (is_closed_at o)) (stopped_at o s e.waiting.frames id code) (streams_at e)).state
        go None is = told_more (calls.Stop id code) (answers.Stop (Err update_errors.ClosedStream)) s i
        go (Some h) is = by_half h h.stopped refl is

    module _ (p : Policy) (theirs : List (List ℕ)) (holds : HoldsRead done (read ts) e.streams) (keeps : HoldsTaken taken e.streams) where
      -- any call but a delivery; of a poll as is shown
      pub call_counts : (call : Call) (a : Answer) → is_delivery call ≡ false → IsAnswer p e theirs call a → ((now : ℕ) → is_poll call ≡ true → After call a (poll.polled p e now).end.streams) → After call a (after_call p e theirs call a).streams
      call_counts (calls.Accept dir) a apart is polls = cond_both {A = Option ℕ × Opening} (nat_lt (of dir e.streams.opening.accepted) (of dir e.streams.opening.remote)) _ _ (λ t. After (calls.Accept dir) a (record e.streams { opening = t.1 }))
          (λ f. told_more (calls.Accept dir) a e.streams i) (λ f. told_more (calls.Accept dir) a e.streams i)
      call_counts (calls.Read rd) (answers.Read (Ok said)) apart is polls = read_counts rd said is holds keeps
      call_counts (calls.Read rd) a apart is polls = told_more (calls.Read rd) a e.streams i
      call_counts (calls.Stop id code) a apart (inl is) polls = subst (λ (b : Answer). After (calls.Stop id code) b (after_call p e theirs (calls.Stop id code) b).streams) (sym is) (stop_counts id code)
      call_counts (calls.Stop id code) a apart (inr is) polls = subst (λ (b : Answer). After (calls.Stop id code) b (after_call p e theirs (calls.Stop id code) b).streams) (sym is) (told_more (calls.Stop id code) (answers.Stop (Err update_errors.Memory)) e.streams i)
      call_counts (calls.ReceivedReset id) a apart is polls =
          let v : Usage = usage packets (ts ++ told_of (calls.ReceivedReset id) a state ∷ []) in
          let j : After (calls.ReceivedReset id) a e.streams = told_more (calls.ReceivedReset id) a e.streams i in
          reset_told_to (After (calls.ReceivedReset id) a) e.streams e.waiting.frames id j
          (λ h there cut. uses_done before v e.streams id h (live_of e.streams id h there (inl cut)) (cut_spent v id h (half_counts before v e.streams id h there j) (inr cut) (inr cut)) known j)
      call_counts call a apart is polls = quiet_left (Uses wide each_wide (usage packets (ts ++ told_of call a state ∷ []))) p e theirs call a apart refl is (λ now it. polls now it) (told_more call a e.streams i)
