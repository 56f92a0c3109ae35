-- A call on the streams of an end is one at the end.
use Rattle.std.proofs.Common.{◌≡◌, ◌⊎◌, ℕ, Bool, true, false, List, [], Ok, Err, inl, inr, refl, ap, ◌∙◌}
use Rattle.quic_retransmits.specs.Retransmits.{Retransmits}
use Rattle.quic_streams_handles.specs.declared.end_streams.EndStreams.{EndStreams}
use Rattle.quic_streams_state.specs.declared.state.StreamsState.{StreamsState}
use Rattle.quic_streams_state.specs.State.{Streams, streams_of}
use Rattle.quic_machine.specs.declared.run.Call.{Call}
use Rattle.quic_machine.specs.declared.run.Call.TheVariants as calls
use Rattle.quic_machine.specs.declared.run.Answer.{Answer}
use Rattle.quic_machine.specs.declared.run.Answer.TheVariants as answers
use Rattle.quic_machine.specs.Policy.{Policy}
use Rattle.quic_machine.specs.End.{End, with_streams, streams_at}
use Rattle.quic_machine.specs.Control.{Control}
use Rattle.quic_machine.specs.Heard.{Heard}
use Rattle.quic_machine.specs.Calls.{is_open}
use Rattle.quic_machine.specs.StreamCalls.{is_on_streams, IsRead, IsStreamAnswer, after_on_streams}
use Rattle.quic_machine.specs.Lacking.{StreamCallLacks, LacksWhere}
use Rattle.quic_machine.specs.Machine.{IsAnswer, IsLeft, IsTold, end_on_streams, end_left, fails, gives}
use Rattle.quic_connection.specs.OnStreams.{left_by, IsCallOn}

-- ---- no end fails at it

served : (a b : Answer) → a ≡ b → fails b ≡ false → fails a ≡ false
served a b same kept = ap fails same ∙ kept

served_either : (a b c : Answer) → (a ≡ b) ⊎ (a ≡ c) → fails b ≡ false → fails c ≡ false → fails a ≡ false
served_either a b c (inl same) one other = served a b same one
served_either a b c (inr same) one other = served a c same other

read_served : (s : StreamsState) (id : ℕ) (ordered : Bool) (mosts : List ℕ) (a : Answer) → IsRead s id ordered mosts a → fails a ≡ false
read_served s id ordered mosts (answers.Read (Ok nexts)) is = refl
read_served s id ordered mosts (answers.Read (Err error)) is = refl
read_served s id ordered mosts a is = absurd is

pub on_streams_served : (b : Bool) (s : StreamsState) (call : Call) (a : Answer) → IsStreamAnswer b s call a → fails a ≡ false
on_streams_served b s (calls.Open dir) a is = served a _ is refl
on_streams_served b s (calls.Accept dir) a is = served a _ is refl
on_streams_served b s (calls.Write id bytes) a is = served_either a _ _ is refl refl
on_streams_served b s (calls.WriteChunks id chunks) a is = served_either a _ _ is refl refl
on_streams_served b s (calls.Finish id) a is = served_either a _ _ is refl refl
on_streams_served b s (calls.Reset id code) a is = served_either a _ _ is refl refl
on_streams_served b s (calls.SetPriority id priority) a is = served_either a _ _ is refl refl
on_streams_served b s (calls.Read read) a is = read_served s read.id read.ordered read.nexts.items a is
on_streams_served b s (calls.Stop id code) a is = served_either a _ _ is refl refl
on_streams_served b s (calls.ReceivedReset id) a is = served a _ is refl
on_streams_served b s call a is = absurd is

-- ---- at an end

-- What a call at an end has to meet, whose controller shows these windows; it gives no datagram,
-- and tells the controller nothing.
pub record IsCallAt (p : Policy) (control : Control) (heard : Heard) (e : End) (theirs : List (List ℕ)) (call : Call) (a : Answer) (next : End) : Type 0 where
  pub answer : IsAnswer p e theirs call a
  pub lacking : LacksWhere p e theirs call a
  pub end : IsLeft (fails a) p control heard e theirs call a next
  pub told : IsTold (fails a) p control heard e theirs call control
  pub given : gives p e call a ≡ []

-- no end fails that is left so
left_whole : (p : Policy) (control : Control) (heard : Heard) (e : End) (theirs : List (List ℕ)) (call : Call) (a : Answer) (next : End) → fails a ≡ false → next ≡ end_left p control heard e theirs call a → IsLeft (fails a) p control heard e theirs call a next
left_whole p control heard e theirs call a next kept left = rw kept left

told_whole : (p : Policy) (control : Control) (heard : Heard) (e : End) (theirs : List (List ℕ)) (call : Call) (a : Answer) → fails a ≡ false → IsTold false p control heard e theirs call control → IsTold (fails a) p control heard e theirs call control
told_whole p control heard e theirs call a kept told = rw kept told

-- a call on streams is such a call
by_streams : (p : Policy) (control : Control) (heard : Heard) (e : End) (theirs : List (List ℕ)) (call : Call) (a : Answer) (next : End) → is_on_streams call ≡ true → fails a ≡ false
    → IsStreamAnswer (is_open e.closing.state) e.streams call a → StreamCallLacks (is_open e.closing.state) e.streams e.waiting.frames call a → next ≡ end_on_streams e call a → IsCallAt p control heard e theirs call a next
by_streams p control heard e theirs (calls.Open dir) a next on kept is lacks left = record { answer = is; lacking = lacks; end = left_whole p control heard e theirs (calls.Open dir) a next kept left; told = told_whole p control heard e theirs (calls.Open dir) a kept refl; given = refl }
by_streams p control heard e theirs (calls.Accept dir) a next on kept is lacks left = record { answer = is; lacking = lacks; end = left_whole p control heard e theirs (calls.Accept dir) a next kept left; told = told_whole p control heard e theirs (calls.Accept dir) a kept refl; given = refl }
by_streams p control heard e theirs (calls.Write id bytes) a next on kept is lacks left = record { answer = is; lacking = lacks; end = left_whole p control heard e theirs (calls.Write id bytes) a next kept left; told = told_whole p control heard e theirs (calls.Write id bytes) a kept refl; given = refl }
by_streams p control heard e theirs (calls.WriteChunks id chunks) a next on kept is lacks left = record { answer = is; lacking = lacks; end = left_whole p control heard e theirs (calls.WriteChunks id chunks) a next kept left; told = told_whole p control heard e theirs (calls.WriteChunks id chunks) a kept refl; given = refl }
by_streams p control heard e theirs (calls.Finish id) a next on kept is lacks left = record { answer = is; lacking = lacks; end = left_whole p control heard e theirs (calls.Finish id) a next kept left; told = told_whole p control heard e theirs (calls.Finish id) a kept refl; given = refl }
by_streams p control heard e theirs (calls.Reset id code) a next on kept is lacks left = record { answer = is; lacking = lacks; end = left_whole p control heard e theirs (calls.Reset id code) a next kept left; told = told_whole p control heard e theirs (calls.Reset id code) a kept refl; given = refl }
by_streams p control heard e theirs (calls.SetPriority id priority) a next on kept is lacks left = record { answer = is; lacking = lacks; end = left_whole p control heard e theirs (calls.SetPriority id priority) a next kept left; told = told_whole p control heard e theirs (calls.SetPriority id priority) a kept refl; given = refl }
by_streams p control heard e theirs (calls.Read read) a next on kept is lacks left = record { answer = is; lacking = lacks; end = left_whole p control heard e theirs (calls.Read read) a next kept left; told = told_whole p control heard e theirs (calls.Read read) a kept refl; given = refl }
by_streams p control heard e theirs (calls.Stop id code) a next on kept is lacks left = record { answer = is; lacking = lacks; end = left_whole p control heard e theirs (calls.Stop id code) a next kept left; told = told_whole p control heard e theirs (calls.Stop id code) a kept refl; given = refl }
by_streams p control heard e theirs (calls.ReceivedReset id) a next on kept is lacks left = record { answer = is; lacking = lacks; end = left_whole p control heard e theirs (calls.ReceivedReset id) a next kept left; told = told_whole p control heard e theirs (calls.ReceivedReset id) a kept refl; given = refl }
by_streams p control heard e theirs call a next on kept is lacks left = absurd is

-- the same, where the streams were lent
pub at_end : (p : Policy) (control : Control) (heard : Heard) (e : End) (theirs : List (List ℕ)) (call : Call) (b : Bool) (old new : EndStreams) (a : Answer) → is_on_streams call ≡ true → b ≡ is_open e.closing.state → old.state ≡ e.streams → old.pending ≡ e.waiting.frames
    → IsCallOn b old call a new → IsCallAt p control heard e theirs call a (with_streams e (streams_of new.state new.pending))
at_end p control heard e theirs call b old new a on opened state pending c =
    let is : IsStreamAnswer (is_open e.closing.state) e.streams call a = rw (opened, state) at c.answer in
    let lacks : StreamCallLacks (is_open e.closing.state) e.streams e.waiting.frames call a = rw (opened, state, pending) at c.lacking in
    let both : streams_of new.state new.pending ≡ left_by b old call a = joined (left_by b old call a) new.state new.pending c.state c.pending in
    let left : streams_of new.state new.pending ≡ after_on_streams (is_open e.closing.state) (streams_at e) call a = rw (opened, state, pending) at both in
    by_streams p control heard e theirs call a (with_streams e (streams_of new.state new.pending)) on (on_streams_served (is_open e.closing.state) e.streams call a is) is lacks (ap (with_streams e) left)
  where
    joined : (t : Streams) (s : StreamsState) (q : Retransmits) → s ≡ t.state → q ≡ t.pending → streams_of s q ≡ t
    joined t s q state pending = rw (state, pending) refl
