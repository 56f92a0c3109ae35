-- The clauses of what is read, at each place of a run where a group says it.
use Rattle.std.proofs.Common.{◌≡◌, ℕ, ◌≤◌, Bool, true, false, not, ◌||◌, ◌&&◌, List, ◌∷◌, ◌++◌, length, Option, Some, None, Ok, Err, refl, sym, ap, ◌∙◌, subst, inl, inr, arith}
use Rattle.std.specs.Prelude.{◌==◌, nat_lt, if◌then◌else◌}
use Rattle.std.proofs.lemmas.Bool.{lt-ltb, ltb-true}
use Rattle.quic_wire_core.specs.declared.stream_id.Side.{Side}
use Rattle.quic_wire_core.specs.declared.stream_id.Side.TheVariants.{Client, Server}
use Rattle.quic_wire_core.specs.declared.stream_id.Dir.{Dir}
use Rattle.quic_wire_core.specs.StreamId.{side_bit, stream_id, other_side, dir_of, index_of}
use Rattle.quic_wire_core.specs.StreamIdLaw.{initiator_of_stream_id, dir_of_stream_id, index_of_stream_id}
use Rattle.quic_wire.specs.Value.{StreamValue, stream}
use Rattle.quic_assembler.specs.declared.assembler.Chunk.{Chunk}
use Rattle.quic_assembler.specs.ArrivedHistory.{was_given}
use Rattle.quic_streams_parts.specs.declared.answers.ReadError.TheVariants as read_errors
use Rattle.quic_streams_parts.specs.declared.answers.ReadableError.TheVariants as readable_errors
use Rattle.quic_streams_parts.specs.Dirs.{of, is_own}
use Rattle.quic_streams_parts.specs.RecvHalf.{RecvHalf, readable}
use Rattle.quic_streams_state.specs.declared.state.StreamsState.{StreamsState}
use Rattle.quic_streams_state.specs.State.{receiving_half, is_opened}
use Rattle.quic_streams_state.specs.Opening.{accept_answer}
use Rattle.quic_streams_state.specs.Reading.{Told, told_bytes, told_end, told_reset, read_answer, next_answer}
use Rattle.quic_streams_laws.specs.Written.{Wrote}
use Rattle.quic_streams_laws.specs.Reads.{Reads, IsRecvHalf}
use Rattle.quic_streams_laws.specs.Reads as laws
use Rattle.quic_streams_laws.specs.Content.{HoldsRead, MayRead, IsOpenHalf, IsNextAnswer}
use Rattle.quic_streams_laws.specs.ContentLaws.{read_at, reads_are}
use Rattle.quic_streams_laws.specs.Kept.{HoldsTaken, BringsNothing}
use Rattle.quic_streams_laws.specs.TakenLaws.{taken_blocked}
use Rattle.quic_streams_laws.specs.AcceptedLaws.{all_accepted}
use Rattle.quic_machine.specs.declared.run.Call.TheVariants as calls
use Rattle.quic_machine.specs.declared.run.Answer.TheVariants as answers
use Rattle.quic_machine.specs.declared.run.ReadCall.{ReadCall}
use Rattle.quic_machine.specs.End.{End}
use Rattle.quic_machine.specs.StreamCalls.{IsRead}
use Rattle.quic_machine.specs.Machine.{World}
use Rattle.quic_headline.specs.Runs as runs
use Rattle.quic_headline.specs.Runs.{Run, Next, Packet, Intake, In, AreServed, nexts, reads, chunks_of, bytes_of, accepts, WasTaken, WasNamed, EndHasArrived}
use Rattle.quic_headline.specs.Observer.{took}
use Rattle.quic_headline.specs.Headline.{IsHonest, read_before, NoneToGive, HasOffsets, EndAfterAll, BlockedOnlyWithoutBytes, AcceptsAll}
use Rattle.quic_headline.proofs.Places.Told.{chunks_append}
use Rattle.quic_headline.proofs.Places.Order.{bytes_same, given_in, in_given, all_given, ReadsRight}
use Rattle.quic_headline.proofs.Places.Openings.{took_is}
use Rattle.quic_headline.proofs.Places.Parties.{Party, came_to}
use Rattle.quic_headline.proofs.Places.Groups.{Way}
use Rattle.quic_headline.proofs.Places.Placed.{party_at, Placed, answered}
use Rattle.quic_headline.proofs.Halves.Wrote.{wrote}
use Rattle.quic_headline.proofs.Halves.Ghosts.{read}
use Rattle.quic_headline.proofs.Halves.Reading.{read_nexts, begun_reads, nexts_here, begun_here}
use Rattle.quic_headline.proofs.Halves.Ends.{told_at, chunks_at}
use Rattle.quic_headline.proofs.Halves.ReadGroup.{WasIn, ReadsHold}

-- ---- a read that is blocked

or_true : (b : Bool) → (b || true) ≡ true
or_true true = refl
or_true false = refl

-- a read in order is only begun where all before were
ordered_before : (done : ℕ → Wrote) (r : ℕ → Reads) (s : StreamsState) (id : ℕ) → read_answer s id true ≡ Ok tt → HoldsRead done r s → (r id).unordered ≡ false
ordered_before done r s id is i = go (receiving_half s id) refl is
  where
    plain : (x : Unit {0}) (stopped unordered : Bool) → (if stopped then Err readable_errors.ClosedStream else (if true && unordered then Err readable_errors.IllegalOrderedRead else Ok x)) ≡ Ok x → unordered ≡ false
    plain x true unordered e = cc
    plain x false true e = cc
    plain x false false e = refl

    go : (o : Option RecvHalf) → receiving_half s id ≡ o → readable o true ≡ Ok tt → (r id).unordered ≡ false
    go None there e = cc
    go (Some h) there e = let half : IsRecvHalf (done id) (r id) h = read_at done r s id h there i in sym half.ordered ∙ plain tt h.stopped h.arrived.unordered e

-- only a `next` that told nothing yet is blocked, of a half that isn't stopped
blocked_bytes : (told : Told) (s : StreamsState) (id most : ℕ) → IsNextAnswer told s id most (Err read_errors.Blocked) → MayRead told s id → IsOpenHalf s id × (next_answer told_bytes s id most ≡ Err read_errors.Blocked)
blocked_bytes told_bytes s id most (inl is) may = (may, sym is)
blocked_bytes told_bytes s id most (inr is) may = cc
blocked_bytes told_end s id most (inl is) may = cc
blocked_bytes told_end s id most (inr is) may = cc
blocked_bytes (told_reset code) s id most (inl is) may = cc
blocked_bytes (told_reset code) s id most (inr is) may = cc

module _ (done : ℕ → Wrote) (packets : List Packet) (told : List runs.Told) (e : End) (i : HoldsRead done (read told) e.streams) (k : HoldsTaken (λ g. WasIn packets (stream g)) e.streams)
    (rd : ReadCall) (front behind : List Next) (is : IsRead e.streams rd.id rd.ordered rd.nexts.items (answers.Read (Ok (front ++ Err read_errors.Blocked ∷ behind)))) where
  -- what was read by then
  so_far : Reads
  so_far = read_nexts front rd.id (begun_reads rd.ordered rd.id (read told)) rd.id

  so_far_chunks : so_far.chunks ≡ read_before told rd.id front
  unfolding so_far
  so_far_chunks = chunks_at done (λ g. WasIn packets (stream g)) told e.closing.state e i k rd front ∙ chunks_append (nexts rd.id told) front

  so_far_order : so_far.unordered ≡ ((read told rd.id).unordered || not rd.ordered)
  unfolding so_far
  so_far_order = ap (λ (x : Reads). x.unordered) (nexts_here front rd.id (begun_reads rd.ordered rd.id (read told))) ∙ ap (λ (x : Reads). x.unordered) (begun_here rd.ordered rd.id (read told))

  -- a frame that was taken of its stream brings nothing to it
  lacks : (f : StreamValue) → WasTaken packets f → f.id ≡ rd.id → BringsNothing so_far f
  unfolding so_far
  lacks f taken same =
      let at = told_at done (λ g. WasIn packets (stream g)) told e.closing.state e i k rd front behind (Err read_errors.Blocked) is in
      let goes = blocked_bytes at.told at.state rd.id at.most at.is at.on.may in
      taken_blocked (λ g. WasIn packets (stream g)) done (read_nexts front rd.id (begun_reads rd.ordered rd.id (read told))) at.state rd.id at.most f goes.0 goes.1 (record { packet = taken.packet; was_taken = taken.was_taken; carried = taken.carried }) same at.on.holds at.on.keeps

  -- no byte that arrived may be given
  none_to_give : NoneToGive rd.ordered packets rd.id (read_before told rd.id front)
  none_to_give = go rd.ordered refl
    where
      go : (b : Bool) → rd.ordered ≡ b → NoneToGive b packets rd.id (read_before told rd.id front)
      go true kind = λ a.
          let x = lacks a.frame a.taken a.of_stream in
          let before : (read told rd.id).unordered ≡ false = ordered_before done (read told) e.streams rd.id (subst (λ (b : Bool). read_answer e.streams rd.id b ≡ Ok tt) kind is.0) i in
          let plain : so_far.unordered ≡ false = so_far_order ∙ (ap (λ (b : Bool). b || not rd.ordered) before ∙ ap not kind) in
          let next : length (bytes_of (read_before told rd.id front)) ≡ length (laws.bytes_of so_far.chunks) = ap length (bytes_same (read_before told rd.id front) ∙ ap laws.bytes_of (sym so_far_chunks)) in
          let from = a.from in
          let below = a.below in
          x.ordered plain (omega arith) (omega arith)
      go false kind = λ offset a.
          let x = lacks a.frame a.taken a.of_stream in
          let picks : so_far.unordered ≡ true = so_far_order ∙ (ap (λ (b : Bool). (read told rd.id).unordered || not b) kind ∙ or_true (read told rd.id).unordered) in
          given_in (read_before told rd.id front) offset (ap (λ (cs : List Chunk). was_given cs offset) (sym so_far_chunks) ∙ x.unordered picks offset a.from a.below)

  -- nor, with all read, the end
  no_end : (size : ℕ) → EndHasArrived packets rd.id size → HasOffsets (read_before told rd.id front) size → ⊥
  no_end size a all =
      let behind_it = a.behind in
      (lacks a.frame a.taken a.of_stream).end a.fin (λ o below. ap (λ (cs : List Chunk). was_given cs o) so_far_chunks ∙ in_given (read_before told rd.id front) o (all o (omega arith)))

-- ---- nothing is accepted

-- a stream of the other side's isn't one that this end opens
pub other_opens : (side : Side) (dir : Dir) (index : ℕ) → is_own side (stream_id (other_side side) dir index) ≡ false
other_opens side dir index = ap (λ (s : Side). side_bit s == side_bit side) (initiator_of_stream_id (other_side side) dir index) ∙ go side
  where
    go : (side : Side) → (side_bit (other_side side) == side_bit side) ≡ false
    go Client = refl
    go Server = refl

-- whether one of the other side's is opened is told by its place
pub opened_place : (s : StreamsState) (side : Side) (dir : Dir) (index : ℕ) → s.side ≡ side → is_opened s (stream_id (other_side side) dir index) ≡ nat_lt index (of dir s.opening.remote)
opened_place s side dir index same =
    let id : ℕ = stream_id (other_side side) dir index in
    let theirs : is_own s.side id ≡ false = ap (λ (x : Side). is_own x id) same ∙ other_opens side dir index in
    ap (λ (b : Bool). nat_lt (index_of id) (of (dir_of id) (if b then s.opening.own else s.opening.remote))) theirs
    ∙ (ap (λ (n : ℕ). nat_lt n (of (dir_of id) s.opening.remote)) (index_of_stream_id (other_side side) dir index)
    ∙ ap (λ (d : Dir). nat_lt index (of d s.opening.remote)) (dir_of_stream_id (other_side side) dir index))

-- with a stream those of its kind below it are opened
below_opened : (s : StreamsState) (side : Side) (dir : Dir) (index below : ℕ) → s.side ≡ side → below ≤ index → is_opened s (stream_id (other_side side) dir index) ≡ true → is_opened s (stream_id (other_side side) dir below) ≡ true
below_opened s side dir index below same le opened =
    let here = ltb-true index (of dir s.opening.remote) (sym (opened_place s side dir index same) ∙ opened) in
    opened_place s side dir below same ∙ lt-ltb below (of dir s.opening.remote) (omega arith)

-- ---- the clauses

-- What they rest on at a place.
pub record SaysWhatIsRead (G : Way) : Type 1 where
  pub reads : (x y : Party) → G x y → ReadsHold x y

module _ (G : Way) (g : SaysWhatIsRead G) (r : Run) (end : World) (honest : IsHonest r) (all : (side : Side) (i : ℕ) → AreServed r i → Placed G r end side i) where
  -- what an end read is what the other wrote
  pub reads_right : ReadsRight r
  reads_right side id i served =
      let p = all side i served in
      let x : Party = party_at r i p.world side p.sents in
      let y : Party = party_at r i p.world (other_side side) p.theirs in
      reads_are (wrote y.told) (read x.told) x.end.streams id (g.reads y x p.takes).reads

  -- the end is told only behind all bytes
  pub end_after_all : EndAfterAll r
  end_after_all side id i front behind served is =
      let p = all side i served in
      let x : Party = party_at r i p.world side p.sents in
      let y : Party = party_at r i p.world (other_side side) p.theirs in
      let ends = (g.reads y x p.takes).ends id front behind is in
      (ends.0, all_given (chunks_of front) (length (wrote y.told id).bytes) ends.1)

  -- a read is blocked only where nothing came for it
  pub blocked_only_without_bytes : BlockedOnlyWithoutBytes r
  blocked_only_without_bytes side i rd front behind served at =
      let p = all side i served in
      let x : Party = party_at r i p.world side p.sents in
      let y : Party = party_at r i p.world (other_side side) p.theirs in
      let holds = g.reads y x p.takes in
      let is = answered r p.world end i side (calls.Read rd) (answers.Read (Ok (front ++ Err read_errors.Blocked ∷ behind))) p.goes_on at in
      let packets : List Packet = (came_to x y).took in
      let same : took r side i ≡ packets = ap (λ (j : Intake). j.took) (took_is r honest p.world i side p.sents p.theirs) in
      subst (λ (ps : List Packet). NoneToGive rd.ordered ps rd.id (read_before x.told rd.id front) × ((size : ℕ) → EndHasArrived ps rd.id size → HasOffsets (read_before x.told rd.id front) size → ⊥)) (sym same)
      (none_to_give (wrote y.told) packets x.told x.end holds.reads holds.brought.taken rd front behind is, no_end (wrote y.told) packets x.told x.end holds.reads holds.brought.taken rd front behind is)

  -- nothing is accepted only where each stream that a frame opened was
  pub accepts_all : AcceptsAll r
  accepts_all side i dir index below served at named le =
      let p = all side i served in
      let x : Party = party_at r i p.world side p.sents in
      let y : Party = party_at r i p.world (other_side side) p.theirs in
      let holds = g.reads y x p.takes in
      let s : StreamsState = x.end.streams in
      let is = answered r p.world end i side (calls.Accept dir) (answers.Accept None) p.goes_on at in
      let none : accept_answer dir s ≡ None = nothing (accept_answer dir s) is in
      let id : ℕ = stream_id (other_side side) dir index in
      let there : WasNamed (came_to x y).took id = subst (λ (ps : List Packet). WasNamed ps id) (ap (λ (j : Intake). j.took) (took_is r honest p.world i side p.sents p.theirs)) named in
      let opened : is_opened s id ≡ true = holds.brought.opened there.frame id (record { packet = there.packet; was_taken = there.was_taken; carried = there.carried }) there.opens (other_opens side dir index) in
      let it : ℕ = stream_id (other_side side) dir below in
      all_accepted (λ (q : ℕ). In q (accepts x.told)) dir s it none (dir_of_stream_id (other_side side) dir below) (ap (λ (z : Side). is_own z it) holds.brought.of_side ∙ other_opens side dir below)
      (below_opened s side dir index below holds.brought.of_side le opened) holds.accepted
    where
      nothing : (o : Option ℕ) → answers.Accept None ≡ answers.Accept o → o ≡ None
      nothing None is = refl
      nothing (Some id) is = cc
