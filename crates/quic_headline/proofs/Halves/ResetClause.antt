-- A reset is told with the code with which the other end's application reset the stream.
use Rattle.std.proofs.Common.{◌≡◌, ℕ, Bool, true, false, List, ◌∷◌, ◌++◌, Option, Some, None, Result, Ok, Err, refl}
use Rattle.std.specs.Prelude.{if◌then◌else◌}
use Rattle.quic_wire_core.specs.declared.stream_id.Side.{Side}
use Rattle.quic_wire_core.specs.StreamId.{other_side}
use Rattle.quic_wire.specs.Value.{StreamValue, stream}
use Rattle.quic_streams_parts.specs.declared.answers.ReadError.TheVariants as read_errors
use Rattle.quic_streams_parts.specs.declared.answers.ClosedStream.{ClosedStream}
use Rattle.quic_streams_parts.specs.RecvHalf.{RecvHalf}
use Rattle.quic_streams_state.specs.declared.state.StreamsState.{StreamsState}
use Rattle.quic_streams_state.specs.State.{receiving_half}
use Rattle.quic_streams_state.specs.Reading.{reset_of, received_reset_answer}
use Rattle.quic_streams_laws.specs.Written.{Wrote}
use Rattle.quic_streams_laws.specs.Reads.{Reads, IsRecvHalf}
use Rattle.quic_streams_laws.specs.Content.{HoldsRead}
use Rattle.quic_streams_laws.specs.ContentLaws.{read_at}
use Rattle.quic_streams_laws.specs.Kept.{HoldsTaken}
use Rattle.quic_machine.specs.declared.run.Call.TheVariants as calls
use Rattle.quic_machine.specs.declared.run.Answer.TheVariants as answers
use Rattle.quic_machine.specs.declared.run.ReadCall.{ReadCall}
use Rattle.quic_machine.specs.End.{End}
use Rattle.quic_machine.specs.StreamCalls.{IsRead}
use Rattle.quic_machine.specs.Machine.{World}
use Rattle.quic_headline.specs.Runs as runs
use Rattle.quic_headline.specs.Runs.{Run, Next, AreServed}
use Rattle.quic_headline.specs.Headline.{IsHonest, IsAt}
use Rattle.quic_headline.specs.Resets.{WasResetWith, ResetsAreTold}
use Rattle.quic_headline.proofs.Places.Parties.{Party, came_to}
use Rattle.quic_headline.proofs.Places.Groups.{Way}
use Rattle.quic_headline.proofs.Places.Placed.{party_at, Placed, answered}
use Rattle.quic_headline.proofs.Halves.Wrote.{wrote}
use Rattle.quic_headline.proofs.Halves.Ghosts.{read}
use Rattle.quic_headline.proofs.Halves.Reading.{read_nexts, begun_reads, next_on}
use Rattle.quic_headline.proofs.Halves.Ends.{told_at}
use Rattle.quic_headline.proofs.Halves.ReadGroup.{WasIn}
use Rattle.quic_headline.proofs.Halves.ReadClauses.{SaysWhatIsRead}

-- a `next` tells a reset of a stream that was reset so
read_resets : (done : ℕ → Wrote) (taken : StreamValue → Type 0) (told : List runs.Told) (e : End) (rd : ReadCall) (code : ℕ) (front behind : List Next) → HoldsRead done (read told) e.streams → HoldsTaken taken e.streams
    → IsRead e.streams rd.id rd.ordered rd.nexts.items (answers.Read (Ok (front ++ Err (read_errors.Reset code) ∷ behind))) → (done rd.id).reset ≡ Some code
read_resets done taken told e rd code front behind i k is =
    let at = told_at done taken told e.closing.state e i k rd front behind (Err (read_errors.Reset code)) is in
    let after = next_on done taken rd.id at.told at.state (read_nexts front rd.id (begun_reads rd.ordered rd.id (read told))) at.most (Err (read_errors.Reset code)) at.is at.on in
    after.right

-- so does a call that asks for one
asked_resets : (done : ℕ → Wrote) (r : ℕ → Reads) (s : StreamsState) (id code : ℕ) → HoldsRead done r s → received_reset_answer s id ≡ Ok (Some code) → (done id).reset ≡ Some code
asked_resets done r s id code i is = go (receiving_half s id) refl is
  where
    held : (closed : ClosedStream) (stopped : Bool) (o : Option ℕ) → (if stopped then Err closed else Ok o) ≡ Ok (Some code) → o ≡ Some code
    held closed true o e = cc
    held closed false o e = cc

    go : (o : Option RecvHalf) → receiving_half s id ≡ o → reset_of o ≡ Ok (Some code) → (done id).reset ≡ Some code
    go None there e = cc
    go (Some h) there e = let half : IsRecvHalf (done id) (r id) h = read_at done r s id h there i in half.reset code (held (record {}) h.stopped h.reset e)

-- the clause
pub resets_are_told : (G : Way) → SaysWhatIsRead G → (r : Run) (end : World) → IsHonest r → ((side : Side) (i : ℕ) → AreServed r i → Placed G r end side i) → ResetsAreTold r
resets_are_told G g r end honest all side i served = record { read = reads; asked = asks }
  where
    reads : (rd : ReadCall) (code : ℕ) (front behind : List Next) → IsAt r i side (calls.Read rd) (answers.Read (Ok (front ++ Err (read_errors.Reset code) ∷ behind))) → WasResetWith r side i rd.id code
    reads rd code front behind at =
        let p = all side i served in
        let x : Party = party_at r i p.world side p.sents in
        let y : Party = party_at r i p.world (other_side side) p.theirs in
        let holds = g.reads y x p.takes in
        let is = answered r p.world end i side (calls.Read rd) (answers.Read (Ok (front ++ Err (read_errors.Reset code) ∷ behind))) p.goes_on at in
        read_resets (wrote y.told) (λ f. WasIn (came_to x y).took (stream f)) x.told x.end rd code front behind holds.reads holds.brought.taken is

    said : (a : Result (Option ℕ) ClosedStream) (code : ℕ) → answers.ReceivedReset (Ok (Some code)) ≡ answers.ReceivedReset a → a ≡ Ok (Some code)
    said a code e = cc

    asks : (id code : ℕ) → IsAt r i side (calls.ReceivedReset id) (answers.ReceivedReset (Ok (Some code))) → WasResetWith r side i id code
    asks id code at =
        let p = all side i served in
        let x : Party = party_at r i p.world side p.sents in
        let y : Party = party_at r i p.world (other_side side) p.theirs in
        let holds = g.reads y x p.takes in
        let is = answered r p.world end i side (calls.ReceivedReset id) (answers.ReceivedReset (Ok (Some code))) p.goes_on at in
        asked_resets (wrote y.told) (read x.told) x.end.streams id code holds.reads (said (received_reset_answer x.end.streams id) code is)
