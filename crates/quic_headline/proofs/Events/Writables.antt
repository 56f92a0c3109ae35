-- Where an application is told nothing next, it was told of each stream that takes bytes again: at
-- each place of an honest run.
use Rattle.std.proofs.Common.{◌≡◌, ℕ, ◌<◌, ◌≤◌, ◌⊎◌, inl, inr, Bool, true, false, ◌==◌, ◌||◌, List, [], ◌∷◌, ◌++◌, length, Option, Some, None, Result, Ok, Err, refl, sym, ap, ◌∙◌, subst, arith, length-append}
use Rattle.std.specs.Prelude.{min, max, if◌then◌else◌}
use Rattle.std.specs.Option.{is_some, IsSome}
use Rattle.std.proofs.lemmas.Bool.{or_cases, eqb-true, ne_eqb, leb-true, both_ways}
use Rattle.std.proofs.lemmas.List.{append-nil, append_assoc}
use Rattle.quic_wire_core.specs.StreamId.{other_side, dir_of}
use Rattle.quic_wire.specs.Value.{FrameValue}
use Rattle.quic_send_buffer.specs.Source.{bytes_of}
use Rattle.quic_streams_parts.specs.declared.answers.WriteError.{WriteError}
use Rattle.quic_streams_parts.specs.declared.answers.WriteError.TheVariants as write_errors
use Rattle.quic_streams_parts.specs.Dirs.{is_own}
use Rattle.quic_streams_parts.specs.SendHalf.{written_on, written_to}
use Rattle.quic_streams_state.specs.declared.state.StreamsState.{StreamsState}
use Rattle.quic_streams_state.specs.State.{room, sending_half, first_limit}
use Rattle.quic_streams_state.specs.Writing.{write_answer, after_write, chunks_of, write_chunks_answer, after_write_chunks, blocked_at}
use Rattle.quic_streams_laws.specs.Queued.{IsBlockedRight}
use Rattle.quic_streams_laws.specs.Written.{Wrote, Grows, IsOver, HoldsWritten}
use Rattle.quic_streams_laws.specs.WrittenHalves.{all_written}
use Rattle.quic_streams_laws.specs.WrittenLaws.{half_holds}
use Rattle.quic_machine.specs.declared.answers.State.{State}
use Rattle.quic_machine.specs.declared.answers.State.TheVariants as states
use Rattle.quic_machine.specs.declared.run.Call.{Call}
use Rattle.quic_machine.specs.declared.run.Call.TheVariants as calls
use Rattle.quic_machine.specs.declared.run.Answer.{Answer}
use Rattle.quic_machine.specs.declared.run.Answer.TheVariants as answers
use Rattle.quic_machine.specs.Calls.{is_open}
use Rattle.quic_machine.specs.End.{End}
use Rattle.quic_machine.specs.Receive.{Outcome}
use Rattle.quic_machine.specs.FrameCases.{begun, passed}
use Rattle.quic_machine.specs.CallCases.{is_delivery, asks_event}
use Rattle.quic_machine.specs.Machine.{World, IsAnswer, after_call}
use Rattle.quic_headline.specs.Runs.{Run, Told, Packet, Intake, and_told, folded, written, ended, reset}
use Rattle.quic_headline.specs.Observer.{Sent}
use Rattle.quic_headline.specs.Headline.{IsHonest, IsRun}
use Rattle.quic_headline.specs.Amounts.{peer_parameters, first_told, stream_limit_in, greatest, data_left, stream_left, window_left}
use Rattle.quic_headline.specs.Events.{tells_writable, is_blocked, is_used_up, Writing, no_writing, writing_told, writing, WritablesAreTold}
use Rattle.quic_headline.proofs.Packets.Delivered.{Arrivals, frames_at, with_taken}
use Rattle.quic_headline.proofs.Packets.Group.{PacketsHold, meets}
use Rattle.quic_headline.proofs.Packets.Intakes.{folded_more}
use Rattle.quic_headline.proofs.Places.Parties.{told_of, Party, called, came_to}
use Rattle.quic_headline.proofs.Places.Groups.{Way, Nothing, And, Calls, Group, both}
use Rattle.quic_headline.proofs.Places.Coming.{came_same, by_coming}
use Rattle.quic_headline.proofs.Places.Placed.{party_at, Placed, placed, placed_less, answered}
use Rattle.quic_headline.proofs.Places.Openings.{took_is}
use Rattle.quic_headline.proofs.Causes.Shown.{call_closes}
use Rattle.quic_headline.proofs.Channel.Counted.{listed_call}
use Rattle.quic_headline.proofs.Halves.Ghosts.{wrote}
use Rattle.quic_headline.proofs.Halves.Writer.{WritesHold, grows_behind}
use Rattle.quic_headline.proofs.Amounts.Tally.{Tally, IsTallied, Tallies, half_tallied}
use Rattle.quic_headline.proofs.Amounts.Frames.{frames_limit, greatest_at, limit_same}
use Rattle.quic_headline.proofs.Amounts.Group.{tally_of, Tallied}
use Rattle.quic_headline.proofs.Amounts.Clause.{Whole, whole, first_is, room_left}
use Rattle.quic_headline.proofs.Events.Again.{Tells, Has, has_more, has_joined, IsPassed, event_stays, nothing_writable, blocked_tells, Between, stands_first, due_frames, passed_over}
use Rattle.quic_headline.proofs.Packets.Moved.{by_migrated}

-- ---- what an end owes

-- all was written that these packets let come on a stream, which may come so far at first
abbrev IsFull : ℕ → ℕ → List Packet → List Told → Type 0
IsFull first id packets told = max first (greatest (stream_limit_in id) packets) ≤ length (written id told)

-- it is to tell that the stream takes bytes again; or this takes none until its limit grows, or any
-- more
abbrev Owes : ℕ → ℕ → StreamsState → List Packet → List Told → Type 0
Owes first id s packets told = Tells id s ⊎ (IsFull first id packets told ⊎ IsOver (wrote told id))

-- more was done
over_grows : (w more : Wrote) → Grows w more → IsOver w → IsOver more
over_grows w more g (inl e) = inl (g.ended e)
over_grows w more g (inr e) = inr (go w.reset refl e)
  where
    go : (o : Option ℕ) → w.reset ≡ o → IsSome o → IsSome more.reset
    go (Some code) is e = ap is_some (g.reset code is)
    go None is e = cc

full_grows : (first id : ℕ) (packets : List Packet) (told more : List Told) → Grows (wrote told id) (wrote more id) → IsFull first id packets told → IsFull first id packets more
full_grows first id packets told more g full =
    let sum = length-append (written id told) g.rest in
    let same = ap (λ (bytes : List ℕ). length bytes) g.bytes in
    omega arith

-- whether x is to be told that a stream takes bytes again
abbrev pub writing_of : ℕ → Party → Party → Writing
writing_of id x y = folded (writing_told x.policy y.final (first_limit x.made.streams id) id) x.told no_writing

same_intake : (p : _) (given : List (List ℕ)) (first id : ℕ) (told : List Told) (w : Writing) → (folded (writing_told p given first id) told w).intake ≡ folded (and_told p given) told w.intake
same_intake p given first id [] w = refl
same_intake p given first id (t ∷ told) w = same_intake p given first id told (writing_told p given first id t w)

same_told : (p : _) (given : List (List ℕ)) (first id : ℕ) (told : List Told) (w : Writing) → (folded (writing_told p given first id) told w).told ≡ w.told ++ told
same_told p given first id [] w = sym (append-nil w.told)
same_told p given first id (t ∷ told) w = same_told p given first id told (writing_told p given first id t w) ∙ append_assoc w.told (t ∷ []) told

-- ---- the group

-- while x is open
pub record Awaits (id : ℕ) (x y : Party) : Type 0 where
  pub waits : x.end.closing.state ≡ states.Open → (writing_of id x y).waits ≡ true → Owes (first_limit x.made.streams id) id x.end.streams (came_to x y).took x.told

-- What it rests on.
pub record IsAwaiting (B : Way) : Type 1 where
  pub packets : (x y : Party) → B x y → PacketsHold x y
  pub writes : (x y : Party) → B x y → WritesHold x y
  pub tallied : (x y : Party) → B x y → Tallied x y

module _ (B : Way) (b : IsAwaiting B) (id : ℕ) (x y : Party) (call : Call) (a : Answer) (c : Calls B x y call a) (h : Awaits id x y) where
  abbrev next : Party
  next = called x y.given call a

  abbrev t : Told
  t = told_of call a x.end.closing.state

  abbrev came : Intake
  came = came_to x y

  abbrev later : List Told
  later = x.told ++ t ∷ []

  abbrev first : ℕ
  first = first_limit x.made.streams id

  abbrev IsOpen : End → Type 0
  IsOpen e = e.closing.state ≡ states.Open

  holds : HoldsWritten (wrote x.told) x.end.streams
  holds = (b.writes x y c.gives).writes.keeps.holds

  right : IsBlockedRight x.end.streams
  right = (b.writes x y c.gives).writes.keeps.blocked

  tallies : IsOpen x.end → Tallies (tally_of x.made.streams came.took x.told) x.end.streams
  tallies state = (b.tallied x y c.gives).still state

  grows : Grows (wrote x.told id) (wrote later id)
  grows = grows_behind B b.packets x y call a c (b.writes x y c.gives) id

  -- what isn't to be told stays so
  rest : (packets : List Packet) → IsFull first id packets x.told ⊎ IsOver (wrote x.told id) → IsFull first id packets later ⊎ IsOver (wrote later id)
  rest packets (inl full) = inl (full_grows first id packets x.told later grows full)
  rest packets (inr over) = inr (over_grows (wrote x.told id) (wrote later id) grows over)

  -- what an end must show behind the call, if it is open: it was before, and owes what it owed
  abbrev Shows : End → Intake → Type 0
  Shows e j = IsOpen e → IsOpen x.end × (Owes first id x.end.streams came.took x.told → Owes first id e.streams j.took later)

  -- where nothing came
  quiet : (e : End) → (IsOpen e → IsOpen x.end) → (Tells id x.end.streams → Tells id e.streams) → Shows e came
  quiet e before keeps still = (before still, λ (o : Owes first id x.end.streams came.took x.told). elim o [ inl tells ↦ inl (keeps tells) | inr owed ↦ inr (rest came.took owed) ])

  open_before : is_delivery call ≡ false → IsOpen (after_call x.policy x.end y.given call a) → IsOpen x.end
  open_before apart still = elim (call_closes x.policy x.end y.given call a apart) [
    | inl k ↦ sym k.state ∙ still
    | inr shut ↦ absurd (shut.shut still)
  ]

  -- each case of a delivery
  arrives : (now : ℕ) (s : Sent) (here : Bool) → Arrivals x.end now s.number s.frames (frames_at here s.frames) came (λ (o : Outcome) (j : Intake). Shows o.end j)
  arrives now s here = record {
    ignored = λ reason. quiet x.end (λ still. still) (λ tells. tells);
    noted = λ state reason still. (let clash : states.Closing ≡ states.Open = sym state ∙ still in cc);
    takes = λ words state new none urged mark still. (state, taken state none);
    moves = λ p o same remote z opened j. by_migrated (λ (e : End). Shows e (with_taken came s.number s.frames)) p o remote z (λ c. j) (λ c most. j);
    drains = λ words state new close fault still. cc;
    refuses = λ words state new f fault still. cc;
    exhausts = λ state still. cc;
  }
    where
      packet : Packet
      packet = record { number = s.number; frames = s.frames }

      seen : List FrameValue
      seen = frames_at here s.frames

      after : StreamsState
      after = (passed seen (begun x.end now s.number)).end.streams

      before : Tally
      before = tally_of x.made.streams came.took x.told

      bytes : ℕ
      bytes = length (written id x.told)

      -- where the stream was neither ended nor reset
      goes : IsOpen x.end → (passed seen (begun x.end now s.number)).fault ≡ None → ended id x.told ≡ false → reset id x.told ≡ None → Tells id x.end.streams ⊎ IsFull first id came.took x.told → Owes first id after (packet ∷ came.took) later
      goes state none unended kept due =
          let between : Between (first_limit x.end.streams) id bytes x.end.streams = record { stands = stands_first (wrote x.told) id x.end.streams holds unended kept; blocked = right } in
          let limit = frames_limit id seen before in
          let told = greatest_at (stream_limit_in id) (limit_same id) here s.frames in
          elim (due_frames (first_limit x.end.streams) id bytes before seen (begun x.end now s.number) none (tallies state) between due) [
            | inl tells ↦ inl tells
            | inr full ↦ (
                let packed : max first (greatest (stream_limit_in id) (packet ∷ came.took)) ≤ bytes = omega arith in
                inr (rest (packet ∷ came.took) (inl packed)))
          ]

      over : IsOver (wrote x.told id) → Owes first id after (packet ∷ came.took) later
      over is = inr (rest (packet ∷ came.took) (inr is))

      taken : IsOpen x.end → (passed seen (begun x.end now s.number)).fault ≡ None → Owes first id x.end.streams came.took x.told → Owes first id after (packet ∷ came.took) later
      taken state none owes = by_end (ended id x.told) refl
        where
          due : Owes first id x.end.streams came.took x.told → (IsOver (wrote x.told id) → ⊥) → Tells id x.end.streams ⊎ IsFull first id came.took x.told
          due (inl tells) free = inl tells
          due (inr (inl full)) free = inr full
          due (inr (inr is)) free = absurd (free is)

          free : ended id x.told ≡ false → reset id x.told ≡ None → IsOver (wrote x.told id) → ⊥
          free unended kept (inl is) = both_ways (ended id x.told) unended is
          free unended kept (inr is) = both_ways (is_some (reset id x.told)) (ap is_some kept) is

          by_reset : (o : Option ℕ) → reset id x.told ≡ o → ended id x.told ≡ false → Owes first id after (packet ∷ came.took) later
          by_reset None kept unended = goes state none unended kept (due owes (free unended kept))
          by_reset (Some code) was unended = over (inr (ap is_some was))

          by_end : (b : Bool) → ended id x.told ≡ b → Owes first id after (packet ∷ came.took) later
          by_end true is = over (inl is)
          by_end false unended = by_reset (reset id x.told) refl unended

  shows : asks_event call ≡ false → Shows next.end (came_to next y)
  shows still = by_coming x y a c.joined c.served (meets y x (b.packets y x c.takes)) Shows call c.answer (record {
    apart = λ apart. quiet (after_call x.policy x.end y.given call a) (open_before apart) (listed_call (Has id) (has_more id) (has_joined id) x.policy x.end y.given call a apart c.answer (λ asks. cc));
    none = λ delivery is. quiet x.end (λ on. on) (λ tells. tells);
    comes = λ delivery is s among here. arrives delivery.now s here;
  })

  -- whether it is to be told behind the call
  waits_more : (writing_of id next y).waits ≡ (if tells_writable id call a then false else (writing_of id x y).waits || (is_used_up first id came.took x.told || is_blocked id call a))
  waits_more =
      let w : Writing = writing_of id x y in
      ap (λ (v : Writing). v.waits) (folded_more (writing_told x.policy y.final first id) x.told t no_writing
      ∙ ap (λ (i : Intake). writing_told x.policy y.final first id t (record { intake = i; told = w.told; waits = w.waits })) (same_intake x.policy y.final first id x.told no_writing)
      ∙ ap (λ (ts : List Told). writing_told x.policy y.final first id t (record { intake = came; told = ts; waits = w.waits })) (same_told x.policy y.final first id x.told no_writing))

  -- behind a call that tells it, it isn't; and behind one that doesn't
  by_tells : (tells : Bool) → tells_writable id call a ≡ tells → (tells ≡ false → Shows next.end (came_to next y)) → (is_blocked id call a ≡ true → IsOpen x.end → Owes first id next.end.streams (came_to next y).took later) → Awaits id next y
  by_tells tells is s blocks = record { waits = λ still on. go tells s (sym (waits_more ∙ ap (λ (b : Bool). if b then false else (writing_of id x y).waits || (is_used_up first id came.took x.told || is_blocked id call a)) is) ∙ on) still }
    where
      go : (tells : Bool) → (tells ≡ false → Shows next.end (came_to next y)) → (if tells then false else (writing_of id x y).waits || (is_used_up first id came.took x.told || is_blocked id call a)) ≡ true → IsOpen next.end → Owes first id next.end.streams (came_to next y).took later
      go true s on still = cc
      go false s on still =
          let shown = s refl still in
          elim (or_cases (writing_of id x y).waits (is_used_up first id came.took x.told || is_blocked id call a) on) [
            | inl was ↦ shown.1 (h.waits shown.0 was)
            | inr now ↦ elim (or_cases (is_used_up first id came.took x.told) (is_blocked id call a) now) [
              | inl used ↦ shown.1 (inr (inl (leb-true (max first (greatest (stream_limit_in id) came.took)) (length (written id x.told)) used)))
              | inr met ↦ blocks met shown.0
            ]
          ]

  -- a write that is blocked
  write_owes : (p : _) (len : ℕ) → (came_to next y).took ≡ came.took → IsOpen x.end → written_to (sending_half x.end.streams id) (room x.end.streams.sending) len ≡ Err write_errors.Blocked → next.end.streams ≡ (blocked_at (sending_half x.end.streams id) x.end.streams p id).state
      → Owes first id next.end.streams (came_to next y).took later
  write_owes p len none state told left = elim (blocked_tells x.end.streams p id len (sending_half x.end.streams id) refl right.blocked told) [
    | inl tells ↦ inl (subst (Tells id) (sym left) tells)
    | inr full ↦ (
        let half = full.0 in
        let there = full.1 in
        let known : IsTallied (tally_of x.made.streams came.took x.told) id half = half_tallied (tally_of x.made.streams came.took x.told) x.end.streams id half there (tallies state).halves in
        let limit = known.limit in
        let bytes : written_on half ≡ length (written id x.told) = all_written (wrote x.told id) half (half_holds (wrote x.told) x.end.streams holds id half there) in
        let within = full.2 in
        let is : IsFull first id came.took x.told = omega arith in
        inr (subst (λ (ps : List Packet). IsFull first id ps later ⊎ IsOver (wrote later id)) (sym none) (rest came.took (inl is))))
  ]

-- a call that is no event tells nothing
quiet_tells : (id : ℕ) (call : Call) (a : Answer) → asks_event call ≡ false → tells_writable id call a ≡ false
quiet_tells id calls.Event a still = cc
quiet_tells id call a still = refl

-- what a write of several buffers is answered
chunks_blocked : (r : Result ℕ WriteError) (cs : List (List ℕ)) → chunks_of r cs ≡ Err write_errors.Blocked → r ≡ Err write_errors.Blocked
chunks_blocked (Ok n) cs is = cc
chunks_blocked (Err e) cs is = cc

module _ (B : Way) (b : IsAwaiting B) (id : ℕ) (x y : Party) where
  -- a write that is blocked
  blocks : (call : Call) (a : Answer) (c : Calls B x y call a) → Awaits id x y → is_blocked id call a ≡ true → x.end.closing.state ≡ states.Open
      → Owes (first_limit x.made.streams id) id (called x y.given call a).end.streams (came_to (called x y.given call a) y).took (x.told ++ told_of call a x.end.closing.state ∷ [])
  blocks (calls.Write q bytes) (answers.Write (Err write_errors.Blocked)) c h met state = go c.answer
    where
      same : q ≡ id
      same = eqb-true q id met

      here : write_answer (is_open x.end.closing.state) x.end.streams q (length bytes) ≡ Err write_errors.Blocked → written_to (sending_half x.end.streams id) (room x.end.streams.sending) (length bytes) ≡ Err write_errors.Blocked
      here is = sym (ap (λ (n : ℕ). write_answer true x.end.streams n (length bytes)) same) ∙ (sym (ap (λ (st : State). write_answer (is_open st) x.end.streams q (length bytes)) state) ∙ is)

      left : (called x y.given (calls.Write q bytes) (answers.Write (Err write_errors.Blocked))).end.streams ≡ (blocked_at (sending_half x.end.streams id) x.end.streams x.end.waiting.frames id).state
      left = ap (λ (st : State). (after_write (is_open st) (Err write_errors.Blocked) x.end.streams x.end.waiting.frames q bytes).state) state ∙ ap (λ (n : ℕ). (blocked_at (sending_half x.end.streams n) x.end.streams x.end.waiting.frames n).state) same

      go : IsAnswer x.policy x.end y.given (calls.Write q bytes) (answers.Write (Err write_errors.Blocked))
          → Owes (first_limit x.made.streams id) id (called x y.given (calls.Write q bytes) (answers.Write (Err write_errors.Blocked))).end.streams (came_to (called x y.given (calls.Write q bytes) (answers.Write (Err write_errors.Blocked))) y).took (x.told ++ told_of (calls.Write q bytes) (answers.Write (Err write_errors.Blocked)) x.end.closing.state ∷ [])
      go (inl is) = write_owes B b id x y (calls.Write q bytes) (answers.Write (Err write_errors.Blocked)) c h x.end.waiting.frames (length bytes) (ap (λ (i : Intake). i.took) (came_same x y (calls.Write q bytes) (answers.Write (Err write_errors.Blocked)) refl)) state (here (cc)) left
      go (inr is) = cc
  blocks (calls.WriteChunks q chunks) (answers.WriteChunks (Err write_errors.Blocked)) c h met state = go c.answer
    where
      same : q ≡ id
      same = eqb-true q id met

      here : write_chunks_answer (is_open x.end.closing.state) x.end.streams q chunks.items ≡ Err write_errors.Blocked → written_to (sending_half x.end.streams id) (room x.end.streams.sending) (bytes_of chunks.items) ≡ Err write_errors.Blocked
      here is = sym (ap (λ (n : ℕ). write_answer true x.end.streams n (bytes_of chunks.items)) same)
          ∙ (sym (ap (λ (st : State). write_answer (is_open st) x.end.streams q (bytes_of chunks.items)) state) ∙ chunks_blocked (write_answer (is_open x.end.closing.state) x.end.streams q (bytes_of chunks.items)) chunks.items is)

      left : (called x y.given (calls.WriteChunks q chunks) (answers.WriteChunks (Err write_errors.Blocked))).end.streams ≡ (blocked_at (sending_half x.end.streams id) x.end.streams x.end.waiting.frames id).state
      left = ap (λ (st : State). (after_write_chunks (is_open st) (Err write_errors.Blocked) x.end.streams x.end.waiting.frames q chunks.items).state) state ∙ ap (λ (n : ℕ). (blocked_at (sending_half x.end.streams n) x.end.streams x.end.waiting.frames n).state) same

      go : IsAnswer x.policy x.end y.given (calls.WriteChunks q chunks) (answers.WriteChunks (Err write_errors.Blocked))
          → Owes (first_limit x.made.streams id) id (called x y.given (calls.WriteChunks q chunks) (answers.WriteChunks (Err write_errors.Blocked))).end.streams (came_to (called x y.given (calls.WriteChunks q chunks) (answers.WriteChunks (Err write_errors.Blocked))) y).took (x.told ++ told_of (calls.WriteChunks q chunks) (answers.WriteChunks (Err write_errors.Blocked)) x.end.closing.state ∷ [])
      go (inl is) = write_owes B b id x y (calls.WriteChunks q chunks) (answers.WriteChunks (Err write_errors.Blocked)) c h x.end.waiting.frames (bytes_of chunks.items) (ap (λ (i : Intake). i.took) (came_same x y (calls.WriteChunks q chunks) (answers.WriteChunks (Err write_errors.Blocked)) refl)) state (here (cc)) left
      go (inr is) = cc
  blocks call a c h met state = cc

  awaits_step : (call : Call) (a : Answer) → Calls B x y call a → Awaits id x y → Awaits id (called x y.given call a) y
  awaits_step calls.Event a c h = by_tells B b id x y calls.Event a c h (tells_writable id calls.Event a) refl stays (λ met state. cc)
    where
      next : Party
      next = called x y.given calls.Event a

      later : List Told
      later = x.told ++ told_of calls.Event a x.end.closing.state ∷ []

      first : ℕ
      first = first_limit x.made.streams id

      told : (tells_writable id calls.Event a ≡ true) ⊎ (Tells id x.end.streams → Tells id next.end.streams ⊎ IsPassed id x.end.streams)
      told = subst (λ (d : Answer). (tells_writable id calls.Event d ≡ true) ⊎ (Tells id x.end.streams → Tells id (after_call x.policy x.end y.given calls.Event d).streams ⊎ IsPassed id x.end.streams)) (sym c.answer) (event_stays id x.end)

      -- one that is passed takes no bytes
      over : x.end.closing.state ≡ states.Open → IsPassed id x.end.streams → IsFull first id (came_to x y).took later ⊎ IsOver (wrote later id)
      over state is = rest B b id x y calls.Event a c h (came_to x y).took (passed_over (wrote x.told) id x.end.streams (holds B b id x y calls.Event a c h) (tally_of x.made.streams (came_to x y).took x.told) (tallies B b id x y calls.Event a c h state) (right B b id x y calls.Event a c h).blocked is)

      owes : tells_writable id calls.Event a ≡ false → x.end.closing.state ≡ states.Open → Owes first id x.end.streams (came_to x y).took x.told → Owes first id next.end.streams (came_to x y).took later
      owes silent state (inr owed) = inr (rest B b id x y calls.Event a c h (came_to x y).took owed)
      owes silent state (inl tells) = elim told [
        | inl is ↦ absurd (both_ways (tells_writable id calls.Event a) silent is)
        | inr on ↦ elim (on tells) [ inl waits ↦ inl waits | inr is ↦ inr (over state is) ]
      ]

      stays : tells_writable id calls.Event a ≡ false → Shows B b id x y calls.Event a c h next.end (came_to next y)
      stays silent = subst (Shows B b id x y calls.Event a c h next.end) (sym (came_same x y calls.Event a refl)) (λ still. (let state = open_before B b id x y calls.Event a c h refl still in (state, owes silent state)))
  awaits_step call a c h = by_tells B b id x y call a c h false (quiet_tells id call a refl) (λ silent. shows B b id x y call a c h refl) (λ met state. blocks call a c h met state)

pub awaits_group : (B : Way) → IsAwaiting B → (id : ℕ) → Group B (Awaits id)
awaits_group B b id = record {
  first = λ x y m there back. record { waits = λ state on. cc };
  writer = λ x y call a c i back. awaits_step B b id x y call a c i;
  reader = λ x y call a c there i. record { waits = i.waits };
  shows = λ x y here there back b i j. record { waits = i.waits };
}

-- ---- the clause

pub writables_are_told : (r : Run) (end : World) → IsHonest r → IsRun r end → WritablesAreTold r
writables_are_told r end given run s side i id served event state unended kept some = told_so (writing r s side id i).waits refl
  where
    honest : IsHonest r
    honest = record { start = s; keys = given.keys; ids = given.ids }

    All : Way
    All = And Whole (Awaits id)

    all : Group Nothing All
    all = both Nothing Whole (Awaits id) whole (awaits_group (And Nothing Whole) (record { packets = λ x y h. h.1.0.0.0.0; writes = λ x y h. h.1.0.0.0.1.0; tallied = λ x y h. h.1.1.0 }) id)

    p : Placed All r end side i
    p = placed All all r end honest run side i served

    x : Party
    x = party_at r i p.world side p.sents

    y : Party
    y = party_at r i p.world (other_side side) p.theirs

    first : ℕ
    first = first_limit x.made.streams id

    first_so : first ≡ first_told (peer_parameters side r.start s) (is_own side id) (dir_of id)
    first_so = first_is side id r.start s

    open_now : x.end.closing.state ≡ states.Open
    open_now = p.state ∙ state

    same : writing r s side id i ≡ writing_of id x y
    same = ap (λ (n : ℕ). folded (writing_told x.policy y.final n id) x.told no_writing) (sym first_so)

    room_is : room x.end.streams.sending ≡ min (data_left r s side i) (window_left r s side i)
    room_is = room_left r end honest side i (placed_less All Whole r end side i (λ x y h. h.0) p) state

    has_room : (room x.end.streams.sending == 0) ≡ false
    has_room = (let is = room_is in ne_eqb (room x.end.streams.sending) 0 (λ none. omega (arith, is, none, some)))

    left : 0 < stream_left r s side i id
    left = omega (arith, some)

    -- the limit isn't used up
    not_full : IsFull first id (came_to x y).took x.told → ⊥
    not_full full =
        let more : 0 < stream_left r s side i id = left in
        let packets : (came_to x y).took ≡ _ = sym (ap (λ (k : Intake). k.took) (took_is r honest p.world i side p.sents p.theirs)) in
        let known : IsFull (first_told (peer_parameters side r.start s) (is_own side id) (dir_of id)) id _ x.told = subst (λ (ps : List Packet). IsFull (first_told (peer_parameters side r.start s) (is_own side id) (dir_of id)) id ps x.told) packets (subst (λ (n : ℕ). IsFull n id (came_to x y).took x.told) first_so full) in
        omega (arith, more, known)

    not_over : IsOver (wrote x.told id) → ⊥
    not_over (inl is) = both_ways (ended id x.told) unended is
    not_over (inr is) = both_ways (is_some (reset id x.told)) (ap is_some kept) is

    none_owed : Owes first id x.end.streams (came_to x y).took x.told → ⊥
    none_owed (inr (inl full)) = not_full full
    none_owed (inr (inr over)) = not_over over
    none_owed (inl tells) = elim (passed_over (wrote x.told) id x.end.streams p.gives.0.0.0.0.1.0.writes.keeps.holds (tally_of x.made.streams (came_to x y).took x.told) (p.gives.0.1.0.still open_now) p.gives.0.0.0.0.1.0.writes.keeps.blocked.blocked
        (nothing_writable id x.end (answered r p.world end i side calls.Event (answers.Event None) p.goes_on event) has_room tells)) [ inl full ↦ not_full full | inr over ↦ not_over over ]

    told_so : (b : Bool) → (writing r s side id i).waits ≡ b → (writing r s side id i).waits ≡ false
    told_so false is = is
    told_so true is = absurd (none_owed (p.gives.1.waits open_now (sym (ap (λ (w : Writing). w.waits) same) ∙ is)))
