-- Each byte that a read gives stood in a frame that was handed in before.
use Rattle.std.proofs.Common.{◌≡◌, ℕ, ◌+◌, ◌-◌, ◌≤◌, ltb, cond, Bool, true, false, List, [], take, Some, None, Ok, refl, subst}
use Rattle.std.specs.Prelude.{slice_get, ◌==◌, if◌then◌else◌}
use Rattle.std.proofs.lemmas.Bool.{ltb-false, eqb-true}
use Rattle.quic_wire.specs.Value.{StreamValue, stream}
use Rattle.quic_wire_core.specs.declared.stream_id.Side.{Side}
use Rattle.quic_config.specs.Transport.{Settings}
use Rattle.quic_parameters.specs.Parameters.{ParameterValues}
use Rattle.quic_sets.specs.Parts.{byte_from}
use Rattle.quic_assembler.specs.declared.assembler.Chunk.{Chunk}
use Rattle.quic_streams_state.specs.Reading.{told_bytes, after_read_begun}
use Rattle.quic_machine.specs.declared.run.Call.{Call}
use Rattle.quic_machine.specs.declared.run.Call.TheVariants as calls
use Rattle.quic_machine.specs.declared.run.Answer.{Answer}
use Rattle.quic_machine.specs.declared.run.Answer.TheVariants as answers
use Rattle.quic_machine.specs.Policy.{Policy}
use Rattle.quic_machine.specs.Parts.{Windows}
use Rattle.quic_machine.specs.End.{End, new_end}
use Rattle.quic_machine.specs.Machine.{IsAnswer}
use Rattle.quic_headline.specs.Runs.{In, chunks_of, nexts_by}
use Rattle.quic_headline.specs.Alone.{Lone, IsNew, FollowsAlone, ByteCame, BytesCame, handed_in}
use Rattle.quic_headline.proofs.Alone.Halves.{HoldsCame, came_first, came_begun}
use Rattle.quic_headline.proofs.Alone.Taking.{Stands, came_open}
use Rattle.quic_headline.proofs.Alone.Calls.{Brings, nexts_came, call_came}
use Rattle.quic_headline.proofs.Alone.Places.{made_holds, AtCall, at_call}

-- ---- at the start

-- what holds of each end as it is made holds of a new one
pub new_holds : (P : End → Type 0) (e : End) → ((side : Side) (settings : Settings) (windows : Windows) (theirs : ParameterValues) (own_id peer_id : List ℕ) (remote now : ℕ) (validated : Bool) (words : ℕ → ℕ) → P (new_end side settings windows theirs own_id peer_id remote now validated words))
    → IsNew e → P e
new_holds P e all new = made_holds P e new (λ theirs. all new.side new.settings new.windows theirs new.own_id new.peer_id new.remote new.moment new.validated new.words)

-- ---- a frame

-- where a byte of a frame stands
stands_at : (f : StreamValue) (o b : ℕ) → byte_from f.offset f.bytes o ≡ Some b → (f.offset ≤ o) × (slice_get f.bytes (o - f.offset) ≡ Some b)
stands_at f o b is = go (ltb o f.offset) refl is
  where
    go : (low : Bool) → ltb o f.offset ≡ low → cond low None (slice_get f.bytes (o - f.offset)) ≡ Some b → (f.offset ≤ o) × (slice_get f.bytes (o - f.offset) ≡ Some b)
    go true low at = cc
    go false low at = (ltb-false o f.offset low, at)

-- each byte of a frame of a datagram that was handed in came
frame_brings : (p : Policy) (ds : List (List ℕ)) (e : End) (d : List ℕ) → In d ds → (f : StreamValue) → Stands p e d (stream f) → Brings (ByteCame p ds) f
frame_brings p ds e d handed f stands o b is =
    let packet = came_open p ds e d (stream f) stands handed in
    let at = stands_at f o b is in
    record { packet = packet.0; frame = f; carried = packet.1; of_stream = refl; from = at.0; is = at.1 }

-- ---- a read

-- each byte that a call gives of a stream came
call_gives : (came : ℕ → ℕ → ℕ → Type 0) (p : Policy) (e : End) (theirs : List (List ℕ)) (id : ℕ) (call : Call) (a : Answer) → IsAnswer p e theirs call a → HoldsCame came e.streams → (chunk : Chunk) → In chunk (chunks_of (nexts_by id call a)) → (k b : ℕ) → slice_get chunk.bytes k ≡ Some b
    → came id (chunk.offset + k) b
call_gives came p e theirs id (calls.Read rd) (answers.Read (Ok said)) is i chunk among k b at = go (rd.id == id) refl among
  where
    read : In chunk (chunks_of said) → came rd.id (chunk.offset + k) b
    read here = nexts_came came told_bytes (after_read_begun e.streams rd.id rd.ordered) rd.id rd.nexts.items said is.1 (came_begun came e.streams rd.id rd.ordered i) chunk here k b at

    go : (same : Bool) → (rd.id == id) ≡ same → In chunk (chunks_of (if same then said else [])) → came id (chunk.offset + k) b
    go true same here = subst (λ (q : ℕ). came q (chunk.offset + k) b) (eqb-true rd.id id same) (read here)
    go false same here = absurd here
call_gives came p e theirs id call a is i chunk among k b at = absurd among

pub bytes_come : (p : Policy) (theirs : List (List ℕ)) (x left : Lone) (calls : List Call) (told : List Answer) → IsNew x.end → FollowsAlone p theirs x calls told left → BytesCame p theirs calls told
bytes_come p theirs x left cs told new f i id k byte call a chunk served at_place at_answer among at =
    let ds : List (List ℕ) = handed_in theirs (take i cs) in
    let came : ℕ → ℕ → ℕ → Type 0 = ByteCame p ds in
    let here : AtCall p theirs (λ (e : End). HoldsCame came e.streams) call a = at_call p theirs (λ d. In d ds) (λ (e : End). HoldsCame came e.streams) (λ window blocked pacing e h. h)
    (λ e c b is hands h. call_came came p e theirs h (λ d. In d ds) (λ d handed g stands. frame_brings p ds e d handed g stands) c b is hands)
    i x left cs told call a f served at_place at_answer (λ d among. among)
    (new_holds (λ (e : End). HoldsCame came e.streams) x.end (λ side settings windows theirs own_id peer_id remote now validated words. (came_first came side settings.max_uni settings.max_bidi settings.send_window settings.receive_window settings.stream_receive_window theirs)) new) in
    call_gives came p here.end theirs id call a here.answer here.holds chunk among k byte at
