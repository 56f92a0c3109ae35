-- What a line of a script asks for.
use Rattle.std.specs.Prelude.{ℕ, ℤ, pos, ◌≡◌, ◌^◌, Bool, true, false, ◌==◌, ◌&&◌, nat_lt, if◌then◌else◌, List, [], ◌∷◌, length, codes, Option, Some, None, Result, Ok, Err, nat_eq}
use denote.Ref.{Bor}
use Rattle.std.specs.Cmp.Lexicographic.{pointwise}
use Rattle.std.specs.List.{slice_split}
use Rattle.std.specs.Option.{option_map}
use Rattle.std.specs.Str.{all_ascii_digits, is_utf8}
use Rattle.std.specs.Str.Parse.{digits_value}
use Rattle.quic_wire_core.specs.declared.stream_id.Side.{Side}
use Rattle.quic_wire_core.specs.declared.stream_id.Dir.{Dir}
use Rattle.quic_wire_core.specs.declared.shared.EcnCodepoint.{EcnCodepoint}
use Rattle.quic_time.specs.declared.timer.Timer.{Timer}
use Rattle.quic_machine.specs.declared.run.Call.{Call}
use Rattle.quic_machine.specs.declared.run.Call.TheVariants as calls
use Rattle.quic_lines.specs.declared.script.Line.{Line}
use Rattle.quic_lines.specs.declared.script.Line.TheVariants as lines
use Rattle.quic_lines.specs.declared.script.LineError.{LineError}
use Rattle.quic_lines.specs.declared.script.LineError.TheVariants.{BadCommand, OutOfMemory}
use Rattle.quic_lines.specs.declared.script.CallName.{CallName}
use Rattle.quic_lines.specs.declared.script.CallName.TheVariants as names
use Rattle.quic_lines.specs.declared.script.Setting.{Setting}
use Rattle.quic_lines.specs.declared.script.Setting.TheVariants.{ReceiveWindow, StreamWindow, SendWindow, Bidi, Uni, Idle, Messages, Search, SealLimit, OpenLimit, Validated, Word, Pcg}
use Rattle.quic_lines.specs.Named.{side_named, dir_named, mark_named, timer_named, bytes_named}

-- ---- what may be asked for

-- a call at one end
pub data Asked : Type 0 where
  opens : Dir → Asked
  accepts : Dir → Asked
  writes : ℕ → List ℕ → Asked
  finishes : ℕ → Asked
  resets : ℕ → ℕ → Asked
  sets_priority : ℕ → ℤ → Asked
  -- one `next` of at most so many bytes, and `finalize`, in order or not
  reads : ℕ → ℕ → Asked
  picks : ℕ → ℕ → Asked
  stops : ℕ → ℕ → Asked
  -- a message, for which no older one goes
  sends : List ℕ → Asked
  reads_message : Asked
  pings : Asked
  -- a close by the application, with its code and text
  closes : ℕ → ℕ → List ℕ → Asked
  uses_next_id : Asked
  says_handshake_done : Asked
  polls : ℕ → Asked
  times_out : ℕ → Asked
  delivers : ℕ → Option EcnCodepoint → ℕ → Asked
  injects : ℕ → Option EcnCodepoint → List ℕ → Asked
  asks_event : Asked
  asks_timer : Timer → Asked
  asks_next : Asked
  asks_state : Asked
  -- a call that no line asks for
  others : Asked

-- what is done at a line
pub data Command : Type 0 where
  nothing : Command
  sets : Side → Setting → Command
  asks : Side → Asked → Command
  shows : Side → ℕ → Command
  -- what comes to an end comes from an address from now on
  hears_from : Side → ℕ → Command
  -- both ends talk from a moment on
  settles : ℕ → Command

-- ---- words

-- what the first of some words names
abbrev pub first : {A : Type 0} → (List ℕ → Option A) → List (List ℕ) → Option A
first f [] = None
first f (w ∷ ws) = f w

-- the words of a line: what stands between its blanks
abbrev pub words : List ℕ → List (List ℕ)
words line = slice_split (λ b. b == 32) line

-- whether a word is this one
abbrev pub is_word : List ℕ → List ℕ → Bool
is_word word name = pointwise nat_eq word name

-- the words that are left, where a text may be left
abbrev pub words_left : Option (Bor (List ℕ)) → List (List ℕ)
words_left None = []
words_left (Some text) = words text.now

-- the number that a word names in decimal digits, where it has 64 bits at most
abbrev pub number_named : List ℕ → Option ℕ
number_named word = if nat_lt 0 (length word) && all_ascii_digits word && nat_lt (digits_value 10 word) (2 ^ 64) then Some (digits_value 10 word) else None

-- a number below 2^62
abbrev pub varint_of : ℕ → Option ℕ
varint_of n = if nat_lt n (2 ^ 62) then Some n else None

-- the same, of a number if there is one
abbrev pub varint_in : Option ℕ → Option ℕ
varint_in None = None
varint_in (Some n) = varint_of n

-- the number below 2^62 that a word names: a stream's, or a limit
abbrev pub varint_named : List ℕ → Option ℕ
varint_named word = varint_in (number_named word)

-- what is on for 1, and off for 0
abbrev pub switch_in : Option ℕ → Option Bool
switch_in None = None
switch_in (Some n) = if n == 0 then Some false else (if n == 1 then Some true else None)

-- a priority, below 2^31
abbrev pub priority_in : Option ℕ → Option ℤ
priority_in None = None
priority_in (Some n) = if nat_lt n (2 ^ 31) then Some (pos n) else None

-- the priority that a word names
abbrev pub priority_named : List ℕ → Option ℤ
priority_named word = priority_in (number_named word)

-- ---- words that stand alone behind a name

-- a whole that names something, if no words are left behind it
abbrev pub ends : {A : Type 0} → List (List ℕ) → Option A → Option A
ends [] whole = whole
ends (w ∷ ws) whole = None

-- both of two, made into one
abbrev pub both : {A B C : Type 0} → (A → B → C) → Option A → Option B → Option C
both make None b = None
both make (Some a) None = None
both make (Some a) (Some b) = Some (make a b)

-- just one word
abbrev pub one : {A B : Type 0} → (A → B) → (List ℕ → Option A) → List (List ℕ) → Option B
one make f [] = None
one make f (v ∷ []) = option_map make (f v)
one make f (v ∷ w ∷ ws) = None

-- just two words
abbrev pub two : {A B C : Type 0} → (A → B → C) → (List ℕ → Option A) → (List ℕ → Option B) → List (List ℕ) → Option C
two make f g [] = None
two make f g (v ∷ []) = None
two make f g (v ∷ w ∷ []) = both make (f v) (g w)
two make f g (v ∷ w ∷ x ∷ ws) = None

-- just three words
abbrev pub three : {A B C D : Type 0} → (A → B → C → D) → (List ℕ → Option A) → (List ℕ → Option B) → (List ℕ → Option C) → List (List ℕ) → Option D
three make f g h [] = None
three make f g h (v ∷ []) = None
three make f g h (v ∷ w ∷ []) = None
three make f g h (v ∷ w ∷ x ∷ []) = both (λ m c. m c) (both make (f v) (g w)) (h x)
three make f g h (v ∷ w ∷ x ∷ y ∷ ws) = None

-- what there is within another, if it is there
abbrev pub within : {A : Type 0} → Option (Option A) → Option A
within None = None
within (Some whole) = whole

-- ---- lines

-- the option of this name, set to this number
abbrev pub setting_with : List ℕ → ℕ → Option Setting
setting_with name n =
    if is_word name (codes "receive_window") then option_map ReceiveWindow (varint_of n)
    else (if is_word name (codes "stream_window") then option_map StreamWindow (varint_of n)
    else (if is_word name (codes "send_window") then Some (SendWindow n)
    else (if is_word name (codes "bidi") then option_map Bidi (varint_of n)
    else (if is_word name (codes "uni") then option_map Uni (varint_of n)
    else (if is_word name (codes "idle") then option_map Idle (varint_of n)
    else (if is_word name (codes "messages") then Some (Messages n)
    else (if is_word name (codes "search") then option_map Search (switch_in (Some n))
    else (if is_word name (codes "seal_limit") then Some (SealLimit n)
    else (if is_word name (codes "open_limit") then Some (OpenLimit n)
    else (if is_word name (codes "validated") then option_map Validated (switch_in (Some n))
    else (if is_word name (codes "word") then Some (Word n)
    else (if is_word name (codes "pcg") then Some (Pcg n)
    else None))))))))))))

-- the option that these words set: one word behind its name, a number
abbrev pub setting_said : List ℕ → List (List ℕ) → Option Setting
setting_said name args = within (one (setting_with name) number_named args)

-- the same, where there is a name
abbrev pub settings_said : List (List ℕ) → Option Setting
settings_said [] = None
settings_said (name ∷ args) = setting_said name args

-- a read of one `next`, in order or not
abbrev pub reading : Bool → ℕ → ℕ → Asked
reading true = reads
reading false = picks

-- which call has this name
abbrev pub call_named : List ℕ → Option CallName
call_named name =
    if is_word name (codes "open") then Some names.Open
    else (if is_word name (codes "accept") then Some names.Accept
    else (if is_word name (codes "write") then Some names.Write
    else (if is_word name (codes "finish") then Some names.Finish
    else (if is_word name (codes "reset") then Some names.Reset
    else (if is_word name (codes "priority") then Some names.Priority
    else (if is_word name (codes "read") then Some names.Read
    else (if is_word name (codes "pick") then Some names.Pick
    else (if is_word name (codes "stop") then Some names.Stop
    else (if is_word name (codes "send") then Some names.Send
    else (if is_word name (codes "recv") then Some names.Recv
    else (if is_word name (codes "ping") then Some names.Ping
    else (if is_word name (codes "close") then Some names.Close
    else (if is_word name (codes "use_next_id") then Some names.UseNextId
    else (if is_word name (codes "handshake_done") then Some names.HandshakeDone
    else (if is_word name (codes "poll") then Some names.Poll
    else (if is_word name (codes "timeout") then Some names.Timeout
    else (if is_word name (codes "deliver") then Some names.Deliver
    else (if is_word name (codes "inject") then Some names.Inject
    else (if is_word name (codes "event") then Some names.Event
    else (if is_word name (codes "timer") then Some names.Timer
    else (if is_word name (codes "next") then Some names.Next
    else (if is_word name (codes "state") then Some names.State
    else None))))))))))))))))))))))

-- what the words behind this name ask for
abbrev pub asked_by : CallName → List (List ℕ) → Option Asked
asked_by names.Open args = one opens dir_named args
asked_by names.Accept args = one accepts dir_named args
asked_by names.Write args = two writes varint_named bytes_named args
asked_by names.Finish args = one finishes varint_named args
asked_by names.Reset args = two resets varint_named varint_named args
asked_by names.Priority args = two sets_priority varint_named priority_named args
asked_by names.Read args = two (reading true) varint_named number_named args
asked_by names.Pick args = two (reading false) varint_named number_named args
asked_by names.Stop args = two stops varint_named varint_named args
asked_by names.Send args = one sends bytes_named args
asked_by names.Recv args = ends args (Some reads_message)
asked_by names.Ping args = ends args (Some pings)
asked_by names.Close args = three closes number_named varint_named bytes_named args
asked_by names.UseNextId args = ends args (Some uses_next_id)
asked_by names.HandshakeDone args = ends args (Some says_handshake_done)
asked_by names.Poll args = one polls number_named args
asked_by names.Timeout args = one times_out number_named args
asked_by names.Deliver args = three delivers number_named mark_named number_named args
asked_by names.Inject args = three injects number_named mark_named bytes_named args
asked_by names.Event args = ends args (Some asks_event)
asked_by names.Timer args = one asks_timer timer_named args
asked_by names.Next args = ends args (Some asks_next)
asked_by names.State args = ends args (Some asks_state)

-- the same, where there is such a name
abbrev pub asked_as : Option CallName → List (List ℕ) → Option Asked
asked_as None args = None
asked_as (Some name) args = asked_by name args

-- the call that these words ask for
abbrev pub call_said : List ℕ → List (List ℕ) → Option Asked
call_said name args = asked_as (call_named name) args

-- what the words behind an end's ask for
abbrev pub command_said : Side → List ℕ → List (List ℕ) → Option Command
command_said side name args =
    if is_word name (codes "set") then option_map (sets side) (settings_said args)
    else (if is_word name (codes "show") then one (shows side) number_named args
    else (if is_word name (codes "from") then one (hears_from side) number_named args
    else option_map (asks side) (call_said name args)))

-- the same, where there are an end and a word
abbrev pub end_said : Option Side → List (List ℕ) → Option Command
end_said None more = None
end_said (Some side) [] = None
end_said (Some side) (name ∷ args) = command_said side name args

-- what a line's words ask for: `settle` and a moment, or an end's name and then what is asked of it
abbrev pub words_said : List (List ℕ) → Option Command
words_said [] = None
words_said (word ∷ more) =
    if is_word word (codes "settle") then one settles number_named more
    else end_said (side_named word) more

-- whether a line is empty, or a comment, which begins with `#`
abbrev pub is_skipped : List ℕ → Bool
is_skipped [] = true
is_skipped (b ∷ bs) = b == 35

-- What a line asks for, if it is in the language: it has 2^20 bytes at most, and is empty, a
-- comment, or text whose words ask for something.
abbrev pub said : List ℕ → Option Command
said line =
    if nat_lt 1048576 (length line) then None
    else (if is_skipped line then Some nothing
    else (if is_utf8 line then words_said (words line) else None))

-- ---- what was read of a line

-- a read, by its nexts and by whether it ends by `finalize`
abbrev pub asked_read : ℕ → Bool → List ℕ → Bool → Asked
asked_read id ordered [] done = others
asked_read id ordered (most ∷ []) true = reading ordered id most
asked_read id ordered (most ∷ []) false = others
asked_read id ordered (most ∷ next ∷ mosts) done = others

-- a message, by whether older ones go for it
abbrev pub asked_send : List ℕ → Bool → Asked
asked_send message true = others
asked_send message false = sends message

-- what a call asks for
abbrev pub asked_of : Call → Asked
asked_of (calls.Open dir) = opens dir
asked_of (calls.Accept dir) = accepts dir
asked_of (calls.Write id bytes) = writes id bytes
asked_of (calls.Finish id) = finishes id
asked_of (calls.Reset id code) = resets id code
asked_of (calls.SetPriority id priority) = sets_priority id priority
asked_of (calls.Read read) = asked_read read.id read.ordered read.nexts.items read.finalize
asked_of (calls.Stop id code) = stops id code
asked_of (calls.WriteChunks id chunks) = others
asked_of (calls.ReceivedReset id) = others
asked_of (calls.Send message makes_room) = asked_send message makes_room
asked_of calls.Recv = reads_message
asked_of calls.Ping = pings
asked_of (calls.Close close) = closes close.now close.error_code close.reason
asked_of calls.UseNextId = uses_next_id
asked_of calls.HandshakeDone = says_handshake_done
asked_of (calls.Poll now) = polls now
asked_of (calls.Timeout now) = times_out now
asked_of (calls.Deliver delivery) = delivers delivery.now delivery.ecn delivery.index
asked_of (calls.Inject injection) = injects injection.now injection.ecn injection.bytes
asked_of calls.Event = asks_event
asked_of (calls.Timer timer) = asks_timer timer
asked_of calls.NextTimeout = asks_next
asked_of calls.State = asks_state

-- a call by which something comes from an address, and any other as it is
abbrev pub from_address : ℕ → Call → Call
from_address remote (calls.Deliver delivery) = calls.Deliver (record delivery { remote = remote })
from_address remote (calls.Inject injection) = calls.Inject (record injection { remote = remote })
from_address remote call = call

-- what is done at a line
abbrev pub command_of : Line → Command
command_of lines.Empty = nothing
command_of (lines.Set side setting) = sets side setting
command_of (lines.Call event) = asks event.side (asked_of event.call)
command_of (lines.Show side index) = shows side index
command_of (lines.From side remote) = hears_from side remote
command_of (lines.Settle now) = settles now

-- What was read of a line's words, with those that are left: the whole names it where none are
-- left, and nothing else. A bad command: the whole names nothing.
abbrev pub Reads : {T A : Type 0} → Result T LineError → (T → A) → Option A → List (List ℕ) → Type 0
Reads (Ok x) view whole left = whole ≡ ends left (Some (view x))
Reads (Err BadCommand) view whole left = whole ≡ None
Reads (Err OutOfMemory) view whole left = Unit {0}
