-- Which bytes and ends of streams wait, as each small step leaves them: those that waited, that
-- were written, or that are lost.
use Rattle.std.proofs.Common.{◌≡◌, ℕ, zero, suc, ◌<◌, ◌≤◌, Bool, true, false, not, ◌||◌, ◌&&◌, length, take, List, [], ◌∷◌, Option, Some, None, Result, Ok, Err, refl, sym, ap, ◌∙◌, subst, inl, inr, arith, length-append}
use Rattle.std.specs.Prelude.{◌==◌, ltb, leb}
use Rattle.std.specs.Option.{is_none}
use Rattle.std.proofs.lemmas.Bool.{or_left, or_right, or_cases, and_parts, and_from, both_ways, cond_both, lt-ltb, le-leb, le-ltb, leb-true, eqb-false, cases_lt}
use Rattle.quic_sets.specs.Offsets.{is_within, has, has_any}
use Rattle.quic_sets.proofs.Offsets.Edits.{within_is}
use Rattle.quic_send_buffer.specs.declared.stream_meta.StreamMeta.{StreamMeta}
use Rattle.quic_send_buffer.specs.Buffered.{Buffered, IsBuffered, nothing_written, written, is_lost, is_unsent, is_in_flight, has_unsent, after_write, after_writes, next_start, sent_end}
use Rattle.quic_send_buffer.specs.Source.{bytes_of, cut_to}
use Rattle.quic_send_buffer.specs.WritesLaws.{writes_add}
use Rattle.quic_send_buffer.proofs.Buffered.Calls.{ack_lawful, loss_lawful, poll_lawful}
use Rattle.quic_send_buffer.proofs.Buffered.Places.{has_without, ack_lost, ack_unsent, loss_lost}
use Rattle.quic_streams_parts.specs.declared.answers.WriteError.{WriteError}
use Rattle.quic_streams_parts.specs.declared.answers.WriteError.TheVariants as write_errors
use Rattle.quic_streams_parts.specs.SendHalf.{SendHalf, new_send_half, has_pending, written_to, grown, grown_all, ended, reset_now, half_after, half_acked, half_lost}
use Rattle.quic_streams_parts.specs.Table.{at}
use Rattle.quic_streams_halves.specs.Halves.{status_from, has_place}
use Rattle.quic_retransmits.specs.Retransmits.{Retransmits}
use Rattle.quic_streams_state.specs.declared.state.StreamsState.{StreamsState}
use Rattle.quic_streams_state.specs.State.{sending_half, sends_on, is_opened, room}
use Rattle.quic_streams_state.specs.Writing.{grown_by, accepted_at, written_by, chunks_accepted_at}
use Rattle.quic_streams_state.specs.Writing as writing
use Rattle.quic_streams_laws.specs.Each.{HalfIs, StatusIs, EachSends, AreOfHalves}
use Rattle.quic_streams_laws.specs.EachLaws.{each_kept, half_follows, said_of}
use Rattle.quic_streams_laws.specs.Keeping.{KeepsBy}
use Rattle.quic_streams_laws.specs.Keeping as changes
use Rattle.quic_streams_laws.specs.KeepingLaws.{by_option, taken, cut_bytes, by_blocked}
use Rattle.quic_streams_laws.specs.Written.{Wrote, IsOver, nothing_done, IsSendHalf, HoldsWritten}
use Rattle.quic_headline.specs.Duties.{on_half}
use Rattle.quic_headline.specs.Begins.{Thing, Byte, Fin, byte_waits, fin_waits}

-- of a half that wasn't reset, each offset that waits, and an end that waits, is F; and B holds of
-- its buffer
pub record PendsIn (B : Buffered → Type 0) (F : Thing → Type 0) (id : ℕ) (h : SendHalf) : Type 0 where
  pub lawful : B h.buffer
  pub bytes : h.reset ≡ None → (o : ℕ) → (is_lost h.buffer o || is_unsent h.buffer o) ≡ true → F (Byte id o)
  pub fin : h.reset ≡ None → h.end_waits ≡ true → F (Fin id)

-- so it is of each half
abbrev pub AllPend : (Buffered → Type 0) → (Thing → Type 0) → StreamsState → Type 0
AllPend B F s = EachSends (λ id limit. Unit {0}) (λ id. Unit {0}) (λ id h. PendsIn B F id h) (λ id. Unit {0}) s

-- ---- what waits

-- nothing of a new half waits
none_unsent : (o : ℕ) → is_unsent nothing_written o ≡ true → ⊥
none_unsent o is = both_ways (ltb o 0) (le-ltb o 0 (omega arith)) (and_parts (leb 0 o) (ltb o 0) is).1

module _ (B : Buffered → Type 0) (F : Thing → Type 0) (fresh : B nothing_written) where
  pub none_pends : (id limit : ℕ) → PendsIn B F id (new_send_half limit)
  none_pends id limit = record {
    lawful = fresh;
    bytes = λ none o is. elim (or_cases (is_lost nothing_written o) (is_unsent nothing_written o) is) [ inl lost ↦ absurd (let clash : false ≡ true = lost in cc) | inr unsent ↦ absurd (none_unsent o unsent) ];
    fin = λ none is. cc;
  }

  pub of_halves : AreOfHalves (λ id limit. Unit {0}) (λ id. Unit {0}) (λ id h. PendsIn B F id h) (λ id. Unit {0})
  of_halves = record {
    fresh = λ id limit small none. none_pends id limit;
    over = λ id h i over. tt;
    blocked = λ id h b i. record { lawful = i.lawful; bytes = i.bytes; fin = i.fin };
    noted = λ id h said i. record { lawful = i.lawful; bytes = i.bytes; fin = i.fin };
    placed = λ id h p i. record { lawful = i.lawful; bytes = i.bytes; fin = i.fin };
  }

  -- each word keeps it whose changes of a half do
  pub pend_kept : KeepsBy (λ r id old new. Unit {0}) (λ s id old new. PendsIn B F id old → PendsIn B F id new) (λ s id n old new. PendsIn B F id old → PendsIn B F id new) (AllPend B F)
  pend_kept = each_kept (λ id limit. Unit {0}) (λ id. Unit {0}) (λ id h. PendsIn B F id h) (λ id. Unit {0}) of_halves

  -- what is said of a half on which something may be done
  pub pend_half : (s : StreamsState) (id : ℕ) (h : SendHalf) → sending_half s id ≡ Some h → AllPend B F s → PendsIn B F id h
  pend_half s id h e i = said_of (λ id limit. Unit {0}) (λ id. Unit {0}) (λ id h. PendsIn B F id h) (λ id. Unit {0}) of_halves s id h e i

-- where more is F
pub pends_more : (B C : Buffered → Type 0) (F G : Thing → Type 0) (s : StreamsState) → ((b : Buffered) → B b → C b) → ((q : Thing) → F q → G q) → AllPend B F s → AllPend C G s
pends_more B C F G s laws more i = record {
  shape = i.shape;
  first = i.first;
  each = λ id. half_follows {N = Unit {0}} {N' = Unit {0}} {Q = λ h. PendsIn B F id h} {Q' = λ h. PendsIn C G id h} {D = Unit {0}} {D' = Unit {0}} (λ x. x)
      (λ h x. record { lawful = laws h.buffer x.lawful; bytes = λ none o is. more (Byte id o) (x.bytes none o is); fin = λ none is. more (Fin id) (x.fin none is) }) (λ x. x) (at s.sending.halves.live id) (has_place s.side s.sending.halves.places id) (i.each id);
}

-- a half that wasn't reset
pub none_reset : (o : Option ℕ) → is_none o ≡ true → o ≡ None
none_reset None is = refl
none_reset (Some n) is = cc

-- so what waits of a stream is F
pub byte_is : (B : Buffered → Type 0) (F : Thing → Type 0) (s : StreamsState) (id o : ℕ) → AllPend B F s → on_half (byte_waits o) (at s.sending.halves.live id) ≡ true → F (Byte id o)
byte_is B F s id o i is = go (at s.sending.halves.live id) (has_place s.side s.sending.halves.places id) (i.each id) is
  where
    go : (h : Option SendHalf) (used : Bool) → HalfIs (Unit {0}) (λ g. PendsIn B F id g) (Unit {0}) h used → on_half (byte_waits o) h ≡ true → F (Byte id o)
    go None used x is = cc
    go (Some h) used x is = let parts = and_parts (is_none h.reset) (is_lost h.buffer o || is_unsent h.buffer o) is in x.bytes (none_reset h.reset parts.0) o parts.1

pub fin_is : (B : Buffered → Type 0) (F : Thing → Type 0) (s : StreamsState) (id : ℕ) → AllPend B F s → on_half fin_waits (at s.sending.halves.live id) ≡ true → F (Fin id)
fin_is B F s id i is = go (at s.sending.halves.live id) (has_place s.side s.sending.halves.places id) (i.each id) is
  where
    go : (h : Option SendHalf) (used : Bool) → HalfIs (Unit {0}) (λ g. PendsIn B F id g) (Unit {0}) h used → on_half fin_waits h ≡ true → F (Fin id)
    go None used x is = cc
    go (Some h) used x is = let parts = and_parts (is_none h.reset) h.end_waits is in x.fin (none_reset h.reset parts.0) parts.1

-- bytes or an end of a stream wait
abbrev pub Waits : StreamsState → Thing → Type 0
Waits s (Byte id o) = on_half (byte_waits o) (at s.sending.halves.live id) ≡ true
Waits s (Fin id) = on_half fin_waits (at s.sending.halves.live id) ≡ true
Waits s q = ⊥

-- what waits at an end that holds what was written
pub all_pend : (done : ℕ → Wrote) (s : StreamsState) → HoldsWritten done s → AllPend IsBuffered (λ q. Waits s q) s
all_pend done s i = record { shape = i.shape; first = λ id. tt; each = λ id. go id (at s.sending.halves.live id) refl (sends_on s.side id && is_opened s id) (has_place s.side s.sending.halves.places id) (i.each id) }
  where
    there : (id : ℕ) (h : SendHalf) → at s.sending.halves.live id ≡ Some h → IsSendHalf (done id) h → PendsIn IsBuffered (λ q. Waits s q) id h
    there id h is held = record {
      lawful = held.lawful;
      bytes = λ none o waits. subst (λ (x : Option SendHalf). on_half (byte_waits o) x ≡ true) (sym is) (and_from (is_none h.reset) (is_lost h.buffer o || is_unsent h.buffer o) (ap is_none none) waits);
      fin = λ none waits. subst (λ (x : Option SendHalf). on_half fin_waits x ≡ true) (sym is) (and_from (is_none h.reset) h.end_waits (ap is_none none) waits);
    }

    go : (id : ℕ) (o : Option SendHalf) → at s.sending.halves.live id ≡ o → (m u : Bool) → StatusIs (done id ≡ nothing_done) (λ h. IsSendHalf (done id) h) (IsOver (done id)) (status_from o m u) → HalfIs (Unit {0}) (λ h. PendsIn IsBuffered (λ q. Waits s q) id h) (Unit {0}) o u
    go id (Some h) is m u x = there id h is x
    go id None is m true x = tt
    go id None is m false x = tt

-- ---- a frame is acknowledged or lost

module _ (F : Thing → Type 0) (id : ℕ) (h : SendHalf) (m : StreamMeta) (i : PendsIn IsBuffered F id h) where
  -- nothing of it waits anew once it is acknowledged
  pub pends_acked : PendsIn IsBuffered F id (half_acked h m)
  pends_acked = record {
    lawful = ack_lawful h.buffer m.offsets.start m.offsets.end i.lawful;
    bytes = λ none o is. i.bytes none o (elim (or_cases (is_lost (half_acked h m).buffer o) (is_unsent (half_acked h m).buffer o) is) [
      | inl lost ↦ or_left (is_lost h.buffer o) (is_unsent h.buffer o) (and_parts (is_lost h.buffer o) (not (is_within m.offsets.start m.offsets.end o)) (sym (ack_lost h.buffer m.offsets.start m.offsets.end o i.lawful) ∙ lost)).0
      | inr unsent ↦ or_right (is_lost h.buffer o) (is_unsent h.buffer o) (sym (ack_unsent h.buffer m.offsets.start m.offsets.end o i.lawful) ∙ unsent)
    ]);
    fin = i.fin;
  }

  -- and what it carried does once it is lost
  pub pends_lost : ((o : ℕ) → m.offsets.start ≤ o → o < m.offsets.end → F (Byte id o)) → (m.fin ≡ true → F (Fin id)) → PendsIn IsBuffered F id (half_lost h m)
  pends_lost bytes ends = record {
    lawful = loss_lawful h.buffer m.offsets.start m.offsets.end i.lawful;
    bytes = λ none o is. elim (or_cases (is_lost (half_lost h m).buffer o) (is_unsent (half_lost h m).buffer o) is) [
      | inl lost ↦ elim (or_cases (is_lost h.buffer o) (is_within m.offsets.start m.offsets.end o && is_in_flight h.buffer o) (sym (loss_lost h.buffer m.offsets.start m.offsets.end o i.lawful) ∙ lost)) [
        | inl was ↦ i.bytes none o (or_left (is_lost h.buffer o) (is_unsent h.buffer o) was)
        | inr new ↦ (let place = within_is m.offsets.start m.offsets.end o (and_parts (is_within m.offsets.start m.offsets.end o) (is_in_flight h.buffer o) new).0 in bytes o place.0 place.1)
      ]
      | inr unsent ↦ i.bytes none o (or_right (is_lost h.buffer o) (is_unsent h.buffer o) unsent)
    ];
    fin = λ none is. elim (or_cases h.end_waits m.fin is) [ inl was ↦ i.fin none was | inr new ↦ ends new ];
  }

-- no offset waits anew once a frame goes
pub went_fewer : (h : SendHalf) (room o : ℕ) → (is_lost (half_after h room).buffer o || is_unsent (half_after h room).buffer o) ≡ true → (is_lost h.buffer o || is_unsent h.buffer o) ≡ true
went_fewer h room o is = elim (or_cases (is_lost (half_after h room).buffer o) (is_unsent (half_after h room).buffer o) is) [
  | inl lost ↦ or_left (is_lost h.buffer o) (is_unsent h.buffer o) (and_parts (is_lost h.buffer o) (not (is_within (next_start h.buffer) (sent_end h.buffer room) o)) (sym (has_without (next_start h.buffer) (sent_end h.buffer room) h.buffer.lost o) ∙ lost)).0
  | inr unsent ↦ (
      let parts = and_parts (leb (half_after h room).buffer.unsent o) (ltb o (written h.buffer)) unsent in
      let above = leb-true (half_after h room).buffer.unsent o parts.0 in
      or_right (is_lost h.buffer o) (is_unsent h.buffer o) (and_from (leb h.buffer.unsent o) (ltb o (written h.buffer)) (le-leb h.buffer.unsent o (omega arith)) parts.1))
]

-- nor an end
pub pends_went : (F : Thing → Type 0) (id : ℕ) (h : SendHalf) (room : ℕ) → PendsIn IsBuffered F id h → PendsIn IsBuffered F id (half_after h room)
pends_went F id h room i = record {
  lawful = poll_lawful h.buffer room i.lawful;
  bytes = λ none o is. i.bytes none o (went_fewer h room o is);
  fin = λ none is. i.fin none (and_parts h.end_waits _ is).0;
}

-- ---- what an application does

module _ (B : Buffered → Type 0) (F : Thing → Type 0) (fresh : B nothing_written) (id : ℕ) (h : SendHalf) (i : PendsIn B F id h) where
  pub pends_reset : PendsIn B F id (reset_now h)
  pends_reset = record { lawful = fresh; bytes = λ none. cc; fin = λ none is. cc }

  pub pends_ended : F (Fin id) → PendsIn B F id (ended h)
  pends_ended here = record { lawful = i.lawful; bytes = i.bytes; fin = λ none is. here }

-- whatever a buffer holds
abbrev pub Any : Buffered → Type 0
Any b = Unit {0}

-- writes leave what is lost
writes_lost : (b : Buffered) (cs : List (List ℕ)) → (after_writes b cs).lost ≡ b.lost
writes_lost b [] = refl
writes_lost b (c ∷ cs) = writes_lost (after_write b c) cs

module _ (F : Thing → Type 0) (id : ℕ) (h : SendHalf) (i : PendsIn Any F id h) (new : h.reset ≡ None → (o : ℕ) → written h.buffer ≤ o → F (Byte id o)) where
  -- what is written behind the rest waits
  more_waits : (b : Buffered) → b.lost ≡ h.buffer.lost → b.unsent ≡ h.buffer.unsent → h.reset ≡ None → (o : ℕ) → (is_lost b o || is_unsent b o) ≡ true → F (Byte id o)
  more_waits b lost unsent none o is = elim (or_cases (is_lost b o) (is_unsent b o) is) [
    | inl gone ↦ i.bytes none o (or_left (is_lost h.buffer o) (is_unsent h.buffer o) (ap (λ rs. has rs o) (sym lost) ∙ gone))
    | inr waits ↦ elim (cases_lt o (written h.buffer)) [
      | inl below ↦ (
          let parts = and_parts (leb b.unsent o) (ltb o (written b)) waits in
          let above : leb h.buffer.unsent o ≡ true = ap (λ (n : ℕ). leb n o) (sym unsent) ∙ parts.0 in
          i.bytes none o (or_right (is_lost h.buffer o) (is_unsent h.buffer o) (and_from (leb h.buffer.unsent o) (ltb o (written h.buffer)) above (lt-ltb o (written h.buffer) below))))
      | inr behind ↦ new none o behind
    ]
  ]

  pub pends_grown : (bytes : List ℕ) → PendsIn Any F id (grown h bytes)
  pends_grown bytes = record { lawful = tt; bytes = more_waits (grown h bytes).buffer refl refl; fin = i.fin }

  pub pends_all_grown : (cs : List (List ℕ)) → PendsIn Any F id (grown_all h cs)
  pends_all_grown cs = record { lawful = tt; bytes = more_waits (grown_all h cs).buffer (writes_lost h.buffer cs) (writes_add h.buffer cs).unsent; fin = i.fin }

-- a write that accepts bytes on a stream
module _ (F : Thing → Type 0) (s : StreamsState) (i : AllPend Any F s) (id : ℕ) (h : SendHalf) (is : sending_half s id ≡ Some h) (bounded : h.buffer.unsent ≤ written h.buffer) (new : h.reset ≡ None → (o : ℕ) → written h.buffer ≤ o → F (Byte id o)) where
  abbrev k : KeepsBy (λ r id old new. Unit {0}) (λ s id old new. PendsIn Any F id old → PendsIn Any F id new) (λ s id n old new. PendsIn Any F id old → PendsIn Any F id new) (AllPend Any F)
  k = pend_kept Any F tt

  pub accepted_pends : (bytes : List ℕ) → AllPend Any F (accepted_at (Some h) s id bytes)
  accepted_pends bytes = cond_both (length bytes == 0) s (grown_by h s id bytes) (AllPend Any F) (λ e. i) (λ e. (
      let some : 0 < length bytes = omega (arith, eqb-false (length bytes) 0 e) in
      let more = length-append h.buffer.kept bytes in
      let waits : has_pending (grown h bytes) ≡ true = or_left (has_unsent (grown h bytes).buffer) h.end_waits (or_right (has_any h.buffer.lost) (ltb h.buffer.unsent (written (grown h bytes).buffer)) (lt-ltb h.buffer.unsent (written (grown h bytes).buffer) (omega (arith, more, some, bounded)))) in
      k (changes.writes id (length bytes) h (grown h bytes)) s (is, (λ p. pends_grown F id h p new bytes), waits) i))

  pub chunks_pend : (n : ℕ) (cs : List (List ℕ)) → n ≤ bytes_of cs → AllPend Any F (chunks_accepted_at (Some h) s id n cs)
  chunks_pend zero cs all = i
  chunks_pend (suc n) cs all =
      let count : bytes_of (cut_to (suc n) cs) ≡ suc n = cut_bytes (suc n) cs all in
      let adds = writes_add h.buffer (cut_to (suc n) cs) in
      let t : SendHalf = grown_all h (cut_to (suc n) cs) in
      let base = adds.base in
      let kept = adds.kept in
      let unsent = adds.unsent in
      let waits : has_pending t ≡ true = or_left (has_unsent t.buffer) t.end_waits (or_right (has_any t.buffer.lost) (ltb t.buffer.unsent (written t.buffer)) (lt-ltb t.buffer.unsent (written t.buffer) (omega (arith, base, kept, unsent, count, bounded)))) in
      k (changes.writes id (suc n) h t) s (is, (λ p. pends_all_grown F id h p new (cut_to (suc n) cs)), waits) i

module _ (F : Thing → Type 0) (s : StreamsState) (i : AllPend Any F s) (id : ℕ) (bounded : (h : SendHalf) → sending_half s id ≡ Some h → h.buffer.unsent ≤ written h.buffer) (new : (h : SendHalf) → sending_half s id ≡ Some h → h.reset ≡ None → (o : ℕ) → written h.buffer ≤ o → F (Byte id o)) where
  -- a write, as it is answered
  pub write_pends : (is_open : Bool) (p : Retransmits) (bytes : List ℕ) → AllPend Any F (writing.after_write is_open (writing.write_answer is_open s id (length bytes)) s p id bytes).state
  write_pends false p bytes = i
  write_pends true p bytes = go (written_to (sending_half s id) (room s.sending) (length bytes)) refl
    where
      go : (answer : Result ℕ WriteError) → written_to (sending_half s id) (room s.sending) (length bytes) ≡ answer → AllPend Any F (written_by answer s p id bytes).state
      go (Ok n) is = by_option (sending_half s id) (λ o. AllPend Any F (accepted_at o s id (take n bytes))) (λ e. i) (λ h e. accepted_pends F s i id h e (bounded h e) (new h e) (take n bytes))
      go (Err write_errors.Blocked) is = by_blocked (AllPend Any F) (pend_kept Any F tt) s p id (sending_half s id) refl i
      go (Err (write_errors.Stopped code)) is = i
      go (Err write_errors.ClosedStream) is = i
      go (Err write_errors.Memory) is = i

  pub write_chunks_pends : (is_open : Bool) (p : Retransmits) (cs : List (List ℕ)) → AllPend Any F (writing.after_write_chunks is_open (writing.write_chunks_answer is_open s id cs) s p id cs).state
  write_chunks_pends false p cs = i
  write_chunks_pends true p cs = go (written_to (sending_half s id) (room s.sending) (bytes_of cs)) refl
    where
      go : (answer : Result ℕ WriteError) → written_to (sending_half s id) (room s.sending) (bytes_of cs) ≡ answer → AllPend Any F (writing.chunks_written_by (writing.chunks_of answer cs) s p id cs).state
      go (Ok n) is = by_option (sending_half s id) (λ o. written_to o (room s.sending) (bytes_of cs) ≡ Ok n → AllPend Any F (chunks_accepted_at o s id n cs)) (λ e f. i) (λ h e f. (let t = taken h (room s.sending) (bytes_of cs) n f in chunks_pend F s i id h e (bounded h e) (new h e) n cs t.3)) is
      go (Err write_errors.Blocked) is = by_blocked (AllPend Any F) (pend_kept Any F tt) s p id (sending_half s id) refl i
      go (Err (write_errors.Stopped code)) is = i
      go (Err write_errors.ClosedStream) is = i
      go (Err write_errors.Memory) is = i
