-- Ends that close without a reason break the clauses, and no run of the machine is answered so.
use Rattle.std.proofs.Common.{◌≡◌, ℕ, zero, suc, ◌+◌, ◌<◌, ◌≤◌, ◌⊎◌, eqb, false, List, [], ◌∷◌, ◌++◌, length, Some, refl, sym, ap, ◌∙◌, subst, inl, inr, arith}
use Rattle.std.specs.Prelude.{drop}
use Rattle.std.specs.List.{IsDistinct}
use Rattle.quic_wire.specs.Value.{FrameValue, StreamValue, stream}
use Rattle.quic_wire.specs.Items.{items}
use Rattle.quic_wire.specs.Reading.{connection_close_at}
use Rattle.quic_packet.specs.Datagram.{Opening}
use Rattle.quic_wire_core.specs.declared.stream_id.Side.TheVariants.{Client, Server}
use Rattle.quic_machine.specs.declared.answers.State.TheVariants as states
use Rattle.quic_machine.specs.declared.answers.LostReason.TheVariants as reasons
use Rattle.quic_machine.specs.declared.answers.Received.TheVariants as receives
use Rattle.quic_machine.specs.declared.run.Call.TheVariants as calls
use Rattle.quic_machine.specs.declared.run.Answer.{Answer}
use Rattle.quic_machine.specs.declared.run.Answer.TheVariants as answers
use Rattle.quic_machine.specs.declared.run.ReadCall.{ReadCall}
use Rattle.quic_machine.specs.Receive.{plain_error}
use Rattle.quic_headline.specs.Observer.{next_number}
use Rattle.quic_headline.specs.Runs.{Told, Packet, Intake, In, until, handed, opens_by_key, came_open, frames_of, HasArrived}
use Rattle.quic_headline.specs.Causes.{Shows, NoBlame, ordinary, AreUsedUp, NumberLimit, came_by, PacketCame, IsCrowded, IsTakenOrCrowded, BeginsRun, HasMoreRuns, IsUnread, most_runs, stream_window_at, TooManyPieces, TakenOrTooMany}
use Rattle.quic_worked.specs.Worked.{worked_policies, worked_run, once_ended, once_sent, once_taken, delivery, delivers, asks_datagram, sent_view, hello_datagram, hello_opening, hello_frame, gives_bytes, server_open, id_frames, behind_ids, hello_whole}
use Rattle.quic_worked.specs.Broken.{IsNoRun}
use Rattle.quic_worked.specs.Closed.{closed_view, below_limits, early_pieces, early_limit, closed_server}
use Rattle.quic_worked.proofs.BrokenRuns.{IsRefused, behind, behind_sent, stops}
use Rattle.quic_worked.proofs.MessageRuns.{given_bytes}
use Rattle.quic_worked.proofs.WorkedRun as worked

-- ---- bytes below the limits that are refused

-- the server's view behind the delivery
below_shows : Shows below_limits Server 4 (Some (reasons.Transport (plain_error 3)))
below_shows = record { served = refl; view = record { client = sent_view; server = closed_server (reasons.Transport (plain_error 3)) }; there = refl; is = refl }

pub below_blames : NoBlame below_limits → ⊥
below_blames h = h Server 4 (Some (reasons.Transport (plain_error 3))) below_shows

-- ---- the packet that came

-- the packet of the client comes to the server of the worked run, which takes it
pub hello_came : (read : ReadCall) → PacketCame worked_policies.server (hello_datagram ∷ []) (until (worked_run read) Server 8)
hello_came read = record {
  before = [];
  call = record { call = calls.Deliver delivery; answer = answers.Deliver receives.Taken; state = states.Open };
  behind = drop 1 (until (worked_run read) Server 8);
  split = refl;
  was_open = refl;
  datagram = hello_datagram;
  handed_in = refl;
  opening = hello_opening;
  opened = refl;
  new = refl;
}

pub hello_is_taken : (read : ReadCall) → (hello_came read).call.answer ≡ answers.Deliver receives.Taken
unfolding hello_came
hello_is_taken read = refl

-- it comes to the server that refuses it
refused_came : PacketCame worked_policies.server (hello_datagram ∷ []) (until below_limits Server 5)
refused_came = record {
  before = [];
  call = record { call = calls.Deliver delivery; answer = answers.Deliver (receives.Closed (plain_error 3)); state = states.Open };
  behind = [];
  split = refl;
  was_open = refl;
  datagram = hello_datagram;
  handed_in = refl;
  opening = hello_opening;
  opened = refl;
  new = refl;
}

-- the code of the error with which an end closed
code_in : Answer → ℕ
code_in (answers.Deliver (receives.Closed error)) = error.code
code_in a = 0

pub below_takes : TakenOrTooMany below_limits → ⊥
unfolding code_in refused_came
below_takes h = go (h Server 5 refl refused_came)
  where
    go : IsTakenOrCrowded worked_policies.server (stream_window_at below_limits Server) (hello_datagram ∷ []) (until below_limits Server 5) refused_came → ⊥
    go (inl taken) = let codes : ◌≡◌ {A = ℕ} 3 0 = ap code_in taken in omega arith
    go (inr crowded) = let codes : ◌≡◌ {A = ℕ} 3 1 = ap code_in crowded.0 in omega arith

-- the machine takes it
below_no : IsRefused once_sent delivers (answers.Deliver (receives.Closed (plain_error 3)))
unfolding once_taken
below_no (inl e) = cc
below_no (inr e) = cc

pub no_below : IsNoRun below_limits
no_below = behind_sent (stops _ _ _ _ _ below_no)

-- ---- numbers that aren't used up

early_shows : Shows early_limit Client 3 (Some reasons.NumberLimit)
early_shows = record { served = refl; view = record { client = closed_view reasons.NumberLimit; server = server_open }; there = refl; is = refl }

-- it gave its close alone
early_next : next_number (ordinary early_limit Client 4) ≡ 0
unfolding once_taken connection_close_at
early_next = refl

pub early_numbers : NumberLimit early_limit → ⊥
early_numbers h = go (subst (λ (n : ℕ). AreUsedUp n 0) early_next (h Client 3 early_shows))
  where
    go : AreUsedUp 0 0 → ⊥
    go (inl many) = omega arith
    go (inr many) = omega arith

-- the machine gives a datagram of another size
early_no : IsRefused once_ended asks_datagram (gives_bytes 30)
unfolding once_sent
early_no (inl e) = let clash : ◌≡◌ {A = ℕ} 30 230 = ap given_bytes e in omega (arith, clash)
early_no (inr e) = cc

pub no_early : IsNoRun early_limit
no_early = behind refl worked.opens (behind refl worked.writes (behind refl worked.finishes (stops _ _ _ _ _ early_no)))

-- ---- one piece, which is not too many

-- what the packet of the client has
abbrev hello_frames : List FrameValue
hello_frames = behind_ids (stream hello_frame ∷ [])

-- where it alone came, and nothing was read, a run of stream 0 begins at offset 0 alone
first_run : (packet : Packet) → packet.frames ≡ hello_frames → (o : ℕ) → BeginsRun (IsUnread (packet ∷ []) [] 0) o → o ≡ 0
first_run packet frames zero b = refl
first_run packet frames (suc o) b = absurd (b.alone o (omega arith) (earlier b.here.0, λ i. i))
  where
    earlier : HasArrived (packet ∷ []) 0 (suc o) → HasArrived (packet ∷ []) 0 o
    earlier a = record { frame = a.frame; taken = a.taken; of_stream = a.of_stream; from = from; below = below }
      where
        among : (a.taken.packet ≡ packet) ⊎ In a.taken.packet [] → In (stream a.frame) hello_frames
        among (inl is) = subst (λ (fs : List FrameValue). In (stream a.frame) fs) (ap (λ (p : Packet). p.frames) is ∙ frames) a.taken.carried
        among (inr i) = absurd i

        is_hello : In (stream a.frame) hello_frames → a.frame ≡ hello_frame
        is_hello (inl is) = cc
        is_hello (inr (inl is)) = cc
        is_hello (inr (inr (inl is))) = cc
        is_hello (inr (inr (inr (inl is)))) = cc
        is_hello (inr (inr (inr (inr (inl is))))) = cc
        is_hello (inr (inr (inr (inr (inr (inl is)))))) = cc
        is_hello (inr (inr (inr (inr (inr (inr (inl is))))))) = cc
        is_hello (inr (inr (inr (inr (inr (inr (inr (inl is)))))))) = cc
        is_hello (inr (inr (inr (inr (inr (inr (inr (inr i)))))))) = absurd i

        same : a.frame ≡ hello_frame
        same = is_hello (among a.taken.was_taken)

        from : a.frame.offset ≤ o
        from = let start : a.frame.offset ≡ 0 = ap (λ (f : StreamValue). f.offset) same in omega arith

        below : o < a.frame.offset + length a.frame.bytes
        below = let more = a.below in omega arith

-- so there is one run, and no more
one_run : (count : ℕ) → 0 < count → (packet : Packet) → packet.frames ≡ hello_frames → HasMoreRuns (IsUnread (packet ∷ []) [] 0) count → ⊥
unfolding IsDistinct
one_run count some packet frames h = go h.starts h.distinct h.begins h.more
  where
    go : (starts : List ℕ) → IsDistinct eqb starts → ((o : ℕ) → In o starts → BeginsRun (IsUnread (packet ∷ []) [] 0) o) → count < length starts → ⊥
    go [] distinct begins more = omega arith
    go (a ∷ []) distinct begins more = omega arith
    go (a ∷ b ∷ starts) distinct begins more =
        let first = first_run packet frames a (begins a (inl refl)) in
        let second = first_run packet frames b (begins b (inr (inl refl))) in
        let apart : eqb a b ≡ false = distinct.0.0 in
        let clash : eqb 0 0 ≡ false = sym (ap (λ (n : ℕ). eqb n b) first ∙ ap (λ (n : ℕ). eqb 0 n) second) ∙ apart in
        cc

-- no call stands in no list
none_behind : (before behind : List Told) (call : Told) → [] ≡ before ++ call ∷ behind → ⊥
none_behind [] behind call is = cc
none_behind (t ∷ before) behind call is = cc

-- a list of one is not split but at it
one_told : (before behind : List Told) (t call : Told) → t ∷ [] ≡ before ++ call ∷ behind → (before ≡ []) × (call ≡ t)
one_told [] behind t call is = let same : call ≡ t = cc in (refl, same)
one_told (b ∷ before) behind t call is = let tail : [] ≡ before ++ call ∷ behind = cc in absurd (none_behind before behind call tail)

no_frames_behind : (front rest : List FrameValue) (f : FrameValue) → [] ≡ front ++ f ∷ rest → ⊥
no_frames_behind [] rest f is = cc
no_frames_behind (g ∷ front) rest f is = cc

one_frame : (front rest : List FrameValue) (f : StreamValue) → hello_frames ≡ front ++ stream f ∷ rest → (front ≡ id_frames) × (f ≡ hello_frame)
one_frame [] rest f is = cc
one_frame (a ∷ []) rest f is = cc
one_frame (a ∷ b ∷ []) rest f is = cc
one_frame (a ∷ b ∷ c ∷ []) rest f is = cc
one_frame (a ∷ b ∷ c ∷ d ∷ []) rest f is = cc
one_frame (a ∷ b ∷ c ∷ d ∷ e ∷ []) rest f is = cc
one_frame (a ∷ b ∷ c ∷ d ∷ e ∷ g ∷ []) rest f is = cc
one_frame (a ∷ b ∷ c ∷ d ∷ e ∷ g ∷ h ∷ []) rest f is = let front : a ∷ b ∷ c ∷ d ∷ e ∷ g ∷ h ∷ [] ≡ id_frames = cc in let same : f ≡ hello_frame = cc in (front, same)
one_frame (a ∷ b ∷ c ∷ d ∷ e ∷ g ∷ h ∷ j ∷ front) rest f is = let tail : [] ≡ front ++ stream f ∷ rest = cc in absurd (no_frames_behind front rest (stream f) tail)

-- the call that closes the server
abbrev closing_call : Told
closing_call = record { call = calls.Deliver delivery; answer = answers.Deliver (receives.Closed (plain_error 1)); state = states.Open }

abbrev HasComeEarly : Type 0
HasComeEarly = PacketCame worked_policies.server (hello_datagram ∷ []) (until early_pieces Server 5)

-- what came to it by calls
abbrev came : List Told → Intake
came told = came_by worked_policies.server (hello_datagram ∷ []) told

opens_hello : opens_by_key worked_policies.server 0 hello_datagram ≡ Some hello_opening
opens_hello = refl

hello_frames_are : frames_of (items hello_whole) ≡ hello_frames
unfolding once_taken
hello_frames_are = refl

-- no packet that came to it is crowded
none_crowded : (count : ℕ) → 0 < count → (c : HasComeEarly) → IsCrowded worked_policies.server (hello_datagram ∷ []) (until early_pieces Server 5) c count → ⊥
none_crowded count some c k =
    let told = one_told c.before c.behind closing_call c.call c.split in
    let datagrams : Some c.datagram ≡ Some hello_datagram = sym c.handed_in ∙ ap (λ (t : Told). handed (hello_datagram ∷ []) t.call t.answer) told.1 in
    let datagram : c.datagram ≡ hello_datagram = cc in
    let openings : Some c.opening ≡ Some hello_opening =
    sym c.opened ∙ ap (λ (ts : List Told). came_open worked_policies.server (came ts).took c.call.answer c.datagram) told.0
    ∙ ap (λ (t : Told). came_open worked_policies.server [] t.answer c.datagram) told.1
    ∙ ap (λ (d : List ℕ). opens_by_key worked_policies.server 0 d) datagram ∙ opens_hello in
    let opening : c.opening ≡ hello_opening = cc in
    let split = one_frame k.front k.rest k.frame (sym hello_frames_are ∙ ap (λ (o : Opening). frames_of (items o.payload)) (sym opening) ∙ k.frames) in
    let packet : Packet = record { number = c.opening.number; frames = k.front ++ stream k.frame ∷ [] } in
    let frames : packet.frames ≡ hello_frames = ap (λ (fs : List FrameValue). fs ++ stream k.frame ∷ []) split.0 ∙ ap (λ (f : StreamValue). id_frames ++ stream f ∷ []) split.1 in
    let many : HasMoreRuns (IsUnread (packet ∷ []) [] k.frame.id) count =
    subst (λ (ts : List Told). HasMoreRuns (IsUnread (packet ∷ (came ts).took) ts k.frame.id) count) told.0 k.many in
    one_run count some packet frames (subst (λ (f : StreamValue). HasMoreRuns (IsUnread (packet ∷ []) [] f.id) count) split.1 many)

pieces_show : Shows early_pieces Server 4 (Some reasons.Pieces)
pieces_show = record { served = refl; view = record { client = sent_view; server = closed_server reasons.Pieces }; there = refl; is = refl }

pub early_crowd : TooManyPieces early_pieces → ⊥
early_crowd h = let c = h Server 4 pieces_show in none_crowded (most_runs (stream_window_at early_pieces Server)) (omega arith) c.packet c.crowded

-- the machine takes it
pieces_no : IsRefused once_sent delivers (answers.Deliver (receives.Closed (plain_error 1)))
unfolding once_taken
pieces_no (inl e) = cc
pieces_no (inr e) = cc

pub no_early_pieces : IsNoRun early_pieces
no_early_pieces = behind_sent (stops _ _ _ _ _ pieces_no)
