-- Only a call that hands bytes in is answered what became of these.
use Rattle.std.proofs.Common.{◌≡◌, ◌⊎◌, ℕ, Bool, true, false, List, refl, ap, ◌∙◌, inl, inr}
use Rattle.quic_streams_state.specs.declared.state.StreamsState.{StreamsState}
use Rattle.quic_machine.specs.declared.run.Call.{Call}
use Rattle.quic_machine.specs.declared.run.Call.TheVariants as calls
use Rattle.quic_machine.specs.declared.run.Answer.{Answer}
use Rattle.quic_machine.specs.declared.run.Answer.TheVariants as answers
use Rattle.quic_machine.specs.Policy.{Policy}
use Rattle.quic_machine.specs.End.{End}
use Rattle.quic_machine.specs.Calls.{is_open}
use Rattle.quic_machine.specs.StreamCalls.{IsRead, IsStreamAnswer}
use Rattle.quic_machine.specs.Machine.{IsAnswer}

-- whether a call hands bytes in
abbrev pub hands_in : Call → Bool
hands_in (calls.Deliver delivery) = true
hands_in (calls.Inject injection) = true
hands_in call = false

-- whether an answer says what became of bytes
abbrev pub is_handed : Answer → Bool
is_handed (answers.Deliver a) = true
is_handed (answers.Inject a) = true
is_handed a = false

either_handed : (a b c : Answer) → is_handed b ≡ false → is_handed c ≡ false → (a ≡ b) ⊎ (a ≡ c) → is_handed a ≡ false
either_handed a b c first second (inl is) = ap is_handed is ∙ first
either_handed a b c first second (inr is) = ap is_handed is ∙ second

read_handed : (s : StreamsState) (id : ℕ) (ordered : Bool) (mosts : List ℕ) (a : Answer) → IsRead s id ordered mosts a → is_handed a ≡ false
read_handed s id ordered mosts (answers.Read said) is = refl
read_handed s id ordered mosts a is = absurd is

streams_handed : (opened : Bool) (s : StreamsState) (call : Call) (a : Answer) → IsStreamAnswer opened s call a → is_handed a ≡ false
streams_handed opened s (calls.Open dir) a is = ap is_handed is
streams_handed opened s (calls.Accept dir) a is = ap is_handed is
streams_handed opened s (calls.Write id bytes) a is = either_handed a _ _ refl refl is
streams_handed opened s (calls.WriteChunks id chunks) a is = either_handed a _ _ refl refl is
streams_handed opened s (calls.Finish id) a is = either_handed a _ _ refl refl is
streams_handed opened s (calls.Reset id code) a is = either_handed a _ _ refl refl is
streams_handed opened s (calls.SetPriority id priority) a is = either_handed a _ _ refl refl is
streams_handed opened s (calls.Read read) a is = read_handed s read.id read.ordered read.nexts.items a is
streams_handed opened s (calls.Stop id code) a is = either_handed a _ _ refl refl is
streams_handed opened s (calls.ReceivedReset id) a is = ap is_handed is
streams_handed opened s call a is = absurd is

pub only_handed : (p : Policy) (e : End) (theirs : List (List ℕ)) (call : Call) (a : Answer) → hands_in call ≡ false → IsAnswer p e theirs call a → is_handed a ≡ false
only_handed p e theirs calls.Ping a other is = ap is_handed is
only_handed p e theirs (calls.Poll now) a other is = either_handed a _ _ refl refl is
only_handed p e theirs (calls.Timeout now) a other is = either_handed a _ _ refl refl is
only_handed p e theirs (calls.Deliver delivery) a other is = cc
only_handed p e theirs (calls.Inject injection) a other is = cc
only_handed p e theirs calls.Event a other is = ap is_handed is
only_handed p e theirs (calls.Timer timer) a other is = ap is_handed is
only_handed p e theirs calls.NextTimeout a other is = ap is_handed is
only_handed p e theirs calls.State a other is = ap is_handed is
only_handed p e theirs (calls.Close close) a other is = ap is_handed is
only_handed p e theirs calls.UseNextId a other is = either_handed a _ _ refl refl is
only_handed p e theirs calls.HandshakeDone a other is = ap is_handed is
only_handed p e theirs (calls.Send message makes_room) a other is = either_handed a _ _ refl refl is
only_handed p e theirs calls.Recv a other is = ap is_handed is
only_handed p e theirs call a other is = streams_handed (is_open e.closing.state) e.streams call a is
