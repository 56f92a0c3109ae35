-- What each line of a script does, with what it prints.
use Rattle.std.specs.Prelude.{◌≡◌, ◌≤◌, ◌||◌, ℕ, Bool, true, false, List, [], ◌++◌, length, replicate, codes, Option, Some, None, IsSome, IfSome, Ok}
use Rattle.std.specs.declared.alloc.AllocError.{AllocError}
use Rattle.quic_wire_core.specs.declared.stream_id.Side.{Side}
use Rattle.quic_wire_core.specs.declared.stream_id.Side.TheVariants.{Client, Server}
use Rattle.quic_wire_core.specs.StreamId.{other_side}
use Rattle.quic_config.specs.Transport.{parameters_of}
use Rattle.quic_parameters.specs.ParametersWritten.{written_parameters}
use Rattle.quic_congestion.specs.NewReno.{Reno, default_reno, reno_made, window_after}
use Rattle.quic_machine.specs.End.{End, new_end, are_keys_short}
use Rattle.quic_machine.specs.Heard.{nothing_heard}
use Rattle.quic_machine.specs.Start.{Making}
use Rattle.quic_connection.specs.Ends.{in_order}
use Rattle.quic_machine.specs.Machine.{World, Policies, IsStep, given_by}
use Rattle.quic_machine.specs.declared.run.RunEvent.{RunEvent}
use Rattle.quic_machine.specs.declared.run.Answer.{Answer}
use Rattle.quic_connection.specs.Settled.{AreAtRest, Settles}
use Rattle.quic_lines.specs.declared.options.Options.{Options}
use Rattle.quic_lines.specs.declared.script.Setting.{Setting}
use Rattle.quic_keys.specs.Words.{words_from}
use Rattle.quic_keys.specs.Policies.{plain_policies}
use Rattle.quic_lines.specs.LineByLine.{LineRules}
use Rattle.quic_lines.specs.Options.{first_options, settings_of, with_setting, limits_in, first_windows}
use Rattle.quic_lines.specs.Printed.{line_feed, call_text, rest_text, answer_text}
use Rattle.quic_run_core.specs.Shown.{shown_text}
use Rattle.quic_lines.specs.Language.{Command, Asked, nothing, sets, asks, shows, hears_from, settles, asked_of, from_address, said}

-- ---- the ends

-- whether no ends can be made of the client's options and the server's: the keys of one last too
-- short
abbrev pub are_short : Options → Options → Bool
are_short client server = are_keys_short (limits_in client) || are_keys_short (limits_in server)

-- what the keys and the random sources of ends with these options do
abbrev pub policies_for : Options → Options → Policies
policies_for client server = plain_policies (limits_in client) (limits_in server) (words_from client.source) (words_from server.source)

-- the first id of an end: eight times c0 or 50
abbrev pub first_id : Side → List ℕ
first_id Client = replicate 8 0xc0
first_id Server = replicate 8 0x50

-- the controller of an end as it is made at moment 0: NewReno as nothing is set of it, for
-- datagrams of 1200 bytes
abbrev pub first_controller : Reno
first_controller = reno_made default_reno 0 1200

-- an end as it is made at moment 0 for a peer at address 0: the other end's options are its limits
abbrev pub first_end : Side → Options → Options → End
first_end side own peer = new_end side (settings_of own) first_windows (parameters_of (settings_of peer)) (first_id side) (first_id (other_side side)) 0 0 own.validated (words_from own.source)

-- both ends as they are made, of the client's options and the server's
abbrev pub first_world : Options → Options → World
first_world client server = record {
  client = first_end Client client server;
  server = first_end Server server client;
  from_client = [];
  from_server = [];
  client_control = window_after first_controller;
  server_control = window_after first_controller;
  client_heard = nothing_heard;
  server_heard = nothing_heard;
}

-- how an end is made, as the premises of every promise on runs name it (its parameters are written
-- in the order of their ids)
abbrev pub making : Side → Options → Making
making side own =
    let settings = settings_of own in
    record { settings = settings; windows = first_windows; parameters = written_parameters (parameters_of settings) in_order; id = first_id side; remote = 0; moment = 0; validated = own.validated; words = words_from own.source }

-- What is printed of an event in a world, and the world behind it: the machine answers so, and
-- leaves it so.
pub record IsTold (k : Policies) (w : World) (event : RunEvent) (text : List ℕ) (next : World) : Type 0 where
  pub answer : Answer
  pub step : IsStep k w event answer next
  pub is : text ≡ answer_text (length (given_by event.side next)) answer

-- an event's answer is appended to a text
abbrev pub Tells : Policies → World → RunEvent → List ℕ → List ℕ → World → Type 0
Tells k w event old new next = (text : List ℕ) × IsTold k w event text next × (new ≡ old ++ text)

-- What is printed where two ends talk from a moment on, turn by turn, and the world behind it: a
-- moment, not before that one, at which both rest, or that they were given up.
pub record IsSettled (k : Policies) (w : World) (now : ℕ) (text : List ℕ) (next : World) : Type 0 where
  pub answer : Option ℕ
  pub talk : Settles {E = AllocError} k now w (Ok answer) next
  pub rest : IfSome answer (λ moment. AreAtRest k now w moment next)
  pub later : IfSome answer (λ moment. now ≤ moment)
  pub is : text ≡ rest_text answer

-- what comes of a talk is appended to a text
abbrev pub TellsRest : Policies → World → ℕ → List ℕ → List ℕ → World → Type 0
TellsRest k w now old new next = (text : List ℕ) × IsSettled k w now text next × (new ≡ old ++ text)

-- ---- a line

-- Two ends as they are made and go on: the world that they make, and what their keys and random
-- sources do.
pub record Made : Type 0 where
  pub world : World
  pub policies : Policies

-- those that are made of the client's options and the server's
abbrev pub first_made : Options → Options → Made
first_made client server = record { world = first_world client server; policies = policies_for client server }

-- how far a script is: the options of both ends, from where comes what comes to each, and the ends
-- once they are made
pub record Stage : Type 0 where
  pub client : Options
  pub server : Options
  pub client_hears : ℕ
  pub server_hears : ℕ
  pub made : Option Made

-- nothing was done
abbrev pub first_stage : Stage
first_stage = record { client = first_options; server = first_options; client_hears = 0; server_hears = 0; made = None }

-- a stage with an option of an end set
abbrev pub with_option : Side → Setting → Stage → Stage
with_option Client setting s = record s { client = with_setting setting s.client }
with_option Server setting s = record s { server = with_setting setting s.server }

-- a stage where what comes to an end comes from an address
abbrev pub with_address : Side → ℕ → Stage → Stage
with_address Client remote s = record s { client_hears = remote }
with_address Server remote s = record s { server_hears = remote }

-- that address
abbrev pub address_at : Side → Stage → ℕ
address_at Client s = s.client_hears
address_at Server s = s.server_hears

-- a stage with these ends
abbrev pub with_made : Made → Stage → Stage
with_made m s = record s { made = Some m }

-- these ends, or those that are made of the options
abbrev pub made_or_first : Option Made → Options → Options → Made
made_or_first None client server = first_made client server
made_or_first (Some m) client server = m

-- the ends at a stage, which are made now if they aren't yet
abbrev pub made_at : Stage → Made
made_at s = made_or_first s.made s.client s.server

-- whether ends can't be made of these options, where there are none yet
abbrev pub lack_ends : Option Made → Options → Options → Bool
lack_ends None client server = are_short client server
lack_ends (Some m) client server = false

-- whether a stage has no ends, and none can be made
abbrev pub has_no_ends : Stage → Bool
has_no_ends s = lack_ends s.made s.client s.server

-- a stage whose ends went on to this world
abbrev pub with_world : World → Stage → Stage
with_world w s = with_made (record { world = w; policies = (made_at s).policies }) s

-- how an end is named
abbrev pub side_text : Side → List ℕ
side_text Client = codes "c"
side_text Server = codes "s"

-- the first two words of a line, and a blank
abbrev pub heading : Side → List ℕ → List ℕ
heading side name = side_text side ++ (codes " " ++ (name ++ codes " "))

-- a line's answer behind its first two words
abbrev pub line_text : Side → List ℕ → List ℕ → List ℕ
line_text side name answer = heading side name ++ (answer ++ line_feed)

-- A call that was asked for, where what comes by it comes from the address of the stage: the line
-- has its first two words and what the end answers.
pub record IsCall (side : Side) (asked : Asked) (s : Stage) (text : List ℕ) (t : Stage) : Type 0 where
  pub event : RunEvent
  pub of_side : event.side ≡ side
  pub of_call : asked_of event.call ≡ asked
  pub of_address : event.call ≡ from_address (address_at side s) event.call
  pub answer : List ℕ
  pub next : World
  pub told : IsTold (made_at s).policies (made_at s).world event answer next
  pub line : text ≡ line_text side (call_text event.call) answer
  pub after : t ≡ with_world next s

-- Both ends settle: the line has its first word and what comes of it.
pub record IsSettling (now : ℕ) (s : Stage) (text : List ℕ) (t : Stage) : Type 0 where
  pub answer : List ℕ
  pub next : World
  pub settled : IsSettled (made_at s).policies (made_at s).world now answer next
  pub line : text ≡ codes "settle " ++ (answer ++ line_feed)
  pub after : t ≡ with_world next s

-- What a command prints, and the stage behind it. An option is set before the ends are made; they
-- are made where another command needs them, if they can be.
abbrev pub IsDone : Command → Stage → List ℕ → Stage → Type 0
IsDone nothing s text t = (text ≡ []) × (t ≡ s)
IsDone (sets side setting) s text t = (s.made ≡ None) × (text ≡ line_text side (codes "set") (codes "ok")) × (t ≡ with_option side setting s)
IsDone (asks side asked) s text t = (has_no_ends s ≡ false) × IsCall side asked s text t
IsDone (shows side index) s text t = (has_no_ends s ≡ false) × (text ≡ line_text side (codes "show") (shown_text side (given_by side (made_at s).world) index)) × (t ≡ with_made (made_at s) s)
IsDone (hears_from side remote) s text t = (has_no_ends s ≡ false) × (text ≡ line_text side (codes "from") (codes "ok")) × (t ≡ with_address side remote (with_made (made_at s) s))
IsDone (settles now) s text t = (has_no_ends s ≡ false) × IsSettling now s text t

-- what a line prints, and the stage behind it, by what it asks for
abbrev pub Does : Option Command → Stage → List ℕ → Stage → Type 0
Does None s text t = ⊥
Does (Some command) s text t = IsDone command s text t

-- a line that can't be run at a stage: it isn't in the language, sets an option once the ends are
-- made, or needs ends that can't be made
abbrev pub IsRefused : Option Command → Stage → Type 0
IsRefused None s = Unit {0}
IsRefused (Some nothing) s = ⊥
IsRefused (Some (sets side setting)) s = IsSome s.made
IsRefused (Some (asks side asked)) s = has_no_ends s ≡ true
IsRefused (Some (shows side index)) s = has_no_ends s ≡ true
IsRefused (Some (hears_from side remote)) s = has_no_ends s ≡ true
IsRefused (Some (settles now)) s = has_no_ends s ≡ true

-- what scripts say of lines
abbrev pub script_rules : LineRules Stage
script_rules = record { Does = λ line s text t. Does (said line) s text t; IsRefused = λ line s. IsRefused (said line) s }
