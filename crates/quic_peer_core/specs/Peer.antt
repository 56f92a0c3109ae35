-- What the lines of one end do, each with what it prints.
use Rattle.std.specs.Prelude.{ℕ, ◌≡◌, ◌≢◌, true, false, List, [], codes, Option, Some, None, IsSome, IsNone}
use Rattle.quic_wire_core.specs.declared.shared.EcnCodepoint.{EcnCodepoint}
use Rattle.quic_time.specs.Rtt.{best_rtt}
use Rattle.quic_parameters.specs.ParametersRead.{parameters_at}
use Rattle.quic_congestion.specs.NewReno.{Reno, default_reno, reno_made, reno_steps, window_after}
use Rattle.quic_stats.specs.declared.connection.ConnectionStats.{ConnectionStats}
use Rattle.quic_machine.specs.Policy.{Policy}
use Rattle.quic_machine.specs.Parts.{current_mtu}
use Rattle.quic_machine.specs.End.{ConnectionValue, drawing, words_drawn, policy_of, MadeFrom, HasFailed, refusal_of}
use Rattle.quic_machine.specs.Heard.{nothing_heard, is_last, heard_datagram}
use Rattle.quic_machine.specs.Arrival.{Arrival, arriving}
use Rattle.quic_machine.specs.Migration.{is_there, has_moved}
use Rattle.quic_machine.specs.Machine.{IsAnswer, IsLeft, IsTold, IsHeard, CountsOpenings, reads_window, fails, gives}
use Rattle.quic_machine.specs.Receive.{received, told_received}
use Rattle.quic_machine.specs.declared.answers.ConfigError.{ConfigError}
use Rattle.quic_machine.specs.declared.answers.Received.{Received}
use Rattle.quic_machine.specs.declared.answers.Received.TheVariants as receives_as
use Rattle.quic_machine.specs.declared.run.Call.{Call}
use Rattle.quic_machine.specs.declared.run.Answer.{Answer}
use Rattle.quic_connection_parts.specs.Drawn.{words_of, after_words}
use Rattle.quic_connection_parts.specs.Telling.{taking, KeepsKeys}
use Rattle.quic_connection.specs.Ends.{GoesOn, may_move}
use Rattle.quic_keys.specs.declared.key.PlainHeaderKey.{PlainHeaderKey}
use Rattle.quic_keys.specs.declared.key.PlainKey.{PlainKey}
use Rattle.quic_lines.specs.declared.options.Options.{Options}
use Rattle.quic_keys.specs.declared.words.Words.{Words}
use Rattle.quic_keys.specs.KeysOf.{keys_with}
use Rattle.quic_lines.specs.Language.{Asked, asked_of}
use Rattle.quic_keys.specs.Plain.{plain_protection, plain_aead}
use Rattle.quic_lines.specs.LineByLine.{LineRules}
use Rattle.quic_lines.specs.Options.{first_options, settings_of, with_setting, limits_in, first_windows}
use Rattle.quic_lines.specs.Printed.{call_text, received_text}
use Rattle.quic_keys.specs.Words.{stream_from, source_stream, words_from}
use Rattle.quic_peer_core.specs.declared.command.NewEnd.{NewEnd}
use Rattle.quic_peer_core.specs.Language.{Command, nothing, sets, tells, makes, hears_from, receives, tells_window, tells_stats, asks, said}
use Rattle.quic_peer_core.specs.Printed.{line_text, refusal_text, parameters_text, told_text, window_line, stats_line}

-- ---- an end

-- an end with the stand-in keys
abbrev pub Held : Type 0
Held = ConnectionValue PlainHeaderKey PlainKey Words Reno

-- what its keys do, and its random source from here on
abbrev pub policy_at : Held → Policy
policy_at held = policy_of (λ _. plain_protection) (λ k. plain_aead k.mark) (λ k. k.confidentiality_limit) (λ k. k.integrity_limit) (words_of stream_from) held

-- why no end is made of these, if none is
abbrev pub refusal : Options → NewEnd → Option ConfigError
refusal options new = refusal_of (settings_of options) default_reno.initial (limits_in options) (parameters_at new.parameters) new.id new.peer_id

-- An end is made of its options and of these for a peer at address 0, with NewReno as its
-- congestion controller. Whether its peer's address counts as validated is an option.
pub record IsNew (options : Options) (new : NewEnd) (held : Held) : Type 0 where
  pub end : MadeFrom new.side (settings_of options) first_windows new.parameters new.id new.peer_id 0 new.now options.validated (words_from options.source) held.end
  pub control : held.control ≡ reno_made default_reno new.now 1200
  pub keys : held.keys ≡ keys_with options.seal_limit options.open_limit new.side
  pub random : stream_from held.random ≡ after_words (words_drawn held.end) (source_stream options.source)
  pub heard : held.heard ≡ nothing_heard

-- how bytes come to an end, at a moment from an address, and with a mark or with none: whether the
-- last packet comes that may not open is by what it has counted
abbrev pub arrival_at : Held → ℕ → ℕ → Option EcnCodepoint → Arrival
arrival_at old now remote mark = arriving now remote mark (is_last (policy_at old).openings old.heard)

-- Bytes came to an end from an address, at a moment and with a mark or with none: this is printed of
-- what came of them, and the end is left so.
pub record Receives (remote now : ℕ) (mark : Option EcnCodepoint) (bytes : List ℕ) (old : Held) (text : List ℕ) (new : Held) : Type 0 where
  pub answer : Received
  pub is_answer : answer ≢ receives_as.Failed → answer ≡ (received (policy_at old) old.end (arrival_at old now remote mark) bytes).answer
  pub left : answer ≢ receives_as.Failed → let after = (received (policy_at old) old.end (arrival_at old now remote mark) bytes).end in
      new ≡ drawing new.random (taking reno_steps (λ c. c.window) old (heard_datagram (is_there remote old.end) (has_moved old.end after) bytes answer old.heard) (told_received (policy_at old) old.end (arrival_at old now remote mark) bytes) after)
  pub failed : answer ≡ receives_as.Failed → HasFailed old new
  pub line : text ≡ line_text (codes "receive") (received_text answer)

-- A call was made at an end: the machine answers so, and leaves the end so; a poll that gave a
-- datagram is printed with it.
pub record IsCall (asked : Asked) (old : Held) (text : List ℕ) (new : Held) : Type 0 where
  pub call : Call
  pub of_call : asked_of call ≡ asked
  pub answer : Answer
  pub is_answer : IsAnswer (policy_at old) (reads_window (window_after old.control) old.heard call old.end) [] call answer
  pub left : IsLeft (fails answer) (policy_at old) (window_after old.control) old.heard old.end [] call answer new.end
  pub control : IsTold (fails answer) (policy_at old) (window_after old.control) old.heard old.end [] call (window_after new.control)
  pub heard : IsHeard (fails answer) old.end new.end [] call answer old.heard new.heard
  pub openings : CountsOpenings (policy_at old).openings old.end.closing.state old.heard answer
  pub keys : may_move call ≡ false → KeepsKeys old new
  pub draws : may_move call ≡ true → GoesOn stream_from old new
  pub line : text ≡ line_text (call_text call) (told_text (gives (policy_at old) (reads_window (window_after old.control) old.heard call old.end) call answer) answer)

-- What was counted of an end is printed: its estimates of the path, its window and its size are
-- those of the machine.
pub record Counts (held : Held) (text : List ℕ) : Type 0 where
  pub stats : ConnectionStats
  pub rtt : stats.path.rtt ≡ best_rtt held.end.path.rtt
  pub min_rtt : stats.path.min_rtt ≡ held.end.path.rtt.least
  pub size : stats.path.current_mtu ≡ current_mtu held.end.path
  pub window : stats.path.cwnd ≡ held.control.window
  pub line : text ≡ stats_line stats

-- ---- a line

-- how far the lines are: the options, from where datagrams come, and the end once it is made
pub record Stage : Type 0 where
  pub options : Options
  pub hears : ℕ
  pub end : Option Held

-- nothing was done
abbrev pub first_stage : Stage
first_stage = record { options = first_options; hears = 0; end = None }

-- a stage with this end
abbrev pub with_held : Stage → Held → Stage
with_held s held = record s { end = Some held }

-- an end is made, or it is told why not, and nothing has changed
abbrev pub IsMaking : Option ConfigError → NewEnd → Stage → List ℕ → Stage → Type 0
IsMaking None new s text t = (held : Held) × IsNew s.options new held × (text ≡ line_text (codes "new") (codes "ok")) × (t ≡ with_held s held)
IsMaking (Some e) new s text t = (name : List ℕ) × (refusal_text e ≡ Some name) × (text ≡ line_text (codes "new") name) × (t ≡ s)

-- the end that is made goes on from one value to another
abbrev pub Goes : (Held → List ℕ → Held → Type 0) → Option Held → Stage → List ℕ → Stage → Type 0
Goes step None s text t = ⊥
Goes step (Some old) s text t = (new : Held) × step old text new × (t ≡ with_held s new)

-- the end that is made is shown, and nothing has changed
abbrev pub Shows : (Held → List ℕ → Type 0) → Option Held → Stage → List ℕ → Stage → Type 0
Shows shown None s text t = ⊥
Shows shown (Some held) s text t = shown held text × (t ≡ s)

-- What a command prints, and the stage behind it. Options are set before the end is made.
abbrev pub IsDone : Command → Stage → List ℕ → Stage → Type 0
IsDone nothing s text t = (text ≡ []) × (t ≡ s)
IsDone (sets setting) s text t = (s.end ≡ None) × (text ≡ line_text (codes "set") (codes "ok")) × (t ≡ record s { options = with_setting setting s.options })
IsDone tells s text t = (text ≡ line_text (codes "params") (parameters_text s.options)) × (t ≡ s)
IsDone (makes new) s text t = (s.end ≡ None) × IsMaking (refusal s.options new) new s text t
IsDone (hears_from remote) s text t = (text ≡ line_text (codes "from") (codes "ok")) × (t ≡ record s { hears = remote })
IsDone (receives now ecn bytes) s text t = Goes (Receives s.hears now ecn bytes) s.end s text t
IsDone tells_window s text t = Shows (λ held text. text ≡ window_line held.control.window) s.end s text t
IsDone tells_stats s text t = Shows Counts s.end s text t
IsDone (asks asked) s text t = Goes (IsCall asked) s.end s text t

-- what a line prints, and the stage behind it, by what it asks for
abbrev pub Does : Option Command → Stage → List ℕ → Stage → Type 0
Does None s text t = ⊥
Does (Some command) s text t = IsDone command s text t

-- a command that can't be run at a stage: it sets an option or makes the end when that is made, or
-- needs the end before that
abbrev pub IsBad : Command → Stage → Type 0
IsBad nothing s = ⊥
IsBad (sets setting) s = IsSome s.end
IsBad tells s = ⊥
IsBad (makes new) s = IsSome s.end
IsBad (hears_from remote) s = ⊥
IsBad (receives now ecn bytes) s = IsNone s.end
IsBad tells_window s = IsNone s.end
IsBad tells_stats s = IsNone s.end
IsBad (asks asked) s = IsNone s.end

-- a line that can't be run at a stage: it isn't in the language, or its command can't be run
abbrev pub IsRefused : Option Command → Stage → Type 0
IsRefused None s = Unit {0}
IsRefused (Some command) s = IsBad command s

-- what the language says of lines
abbrev pub peer_rules : LineRules Stage
peer_rules = record { Does = λ line s text t. Does (said line) s text t; IsRefused = λ line s. IsRefused (said line) s }
