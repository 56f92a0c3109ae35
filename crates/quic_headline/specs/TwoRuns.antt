-- Two runs of one start over the same events come to the same: nothing but memory is left to
-- chance. So what changes nothing of a run changes nothing of what is computed either.
use Rattle.std.specs.Prelude.{ℕ, ◌≡◌, Bool, List, length}
use Rattle.quic_machine.specs.declared.run.RunEvent.{RunEvent}
use Rattle.quic_machine.specs.declared.run.Answer.{Answer}
use Rattle.quic_machine.specs.declared.run.View.{View}
use Rattle.quic_machine.specs.Machine.{World}
use Rattle.quic_headline.specs.Runs.{Run}
use Rattle.quic_headline.specs.Headline.{IsRun}
use Rattle.quic_headline.specs.Isolated.{without, OnlyIdle, FailuresStayBelow, AreValidated, SameButCounts}
use Rattle.quic_headline.specs.Memory.{FindsMemory}

-- A run began as another one, with the same keys and random sources, over these events, and so many
-- of them were answered. Its calls found memory.
pub record BeganSo (r s : Run) (over : List RunEvent) (many : ℕ) : Type 0 where
  pub keys : s.keys ≡ r.keys
  pub start : s.start ≡ r.start
  pub events : s.events ≡ over
  pub count : length s.answers ≡ many
  pub finds : FindsMemory s

-- it was answered so, with these views, and both ends gave the datagrams of the other one
pub record CameTo (r s : Run) (told : List Answer) (seen : List View) : Type 0 where
  pub answers : s.answers ≡ told
  pub views : s.views ≡ seen
  pub from_client : s.from_client ≡ r.from_client
  pub from_server : s.from_server ≡ r.from_server

-- Any run that began so, over the same events, is answered the same, with the same views and
-- datagrams, and leaves the same ends.
abbrev pub RunsAgree : Run → World → Type 0
RunsAgree r end = FindsMemory r → (s : Run) (left : World) → IsRun s left → BeganSo r s r.events (length r.answers) → CameTo r s r.answers r.views × (left ≡ end)

-- So is any run that began so, over these events less any choice of idle ones, where keys last and
-- the addresses are validated throughout: each call is answered as it was with the others, with the
-- same view behind it, both ends gave the same datagrams, and are the same but for what they count.
abbrev pub IdleRunsAgree : Run → World → Type 0
IdleRunsAgree r end = AreValidated r → FailuresStayBelow r → FindsMemory r → (gone : ℕ → Bool) → OnlyIdle r gone
    → (s : Run) (left : World) → IsRun s left → BeganSo r s (without gone r.events) (length (without gone r.answers)) → CameTo r s (without gone r.answers) (without gone r.views) × SameButCounts end left
