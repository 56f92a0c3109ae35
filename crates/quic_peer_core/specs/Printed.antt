-- What is printed of what one end answers.
use Rattle.std.specs.Prelude.{ℕ, List, ◌∷◌, ◌++◌, codes, Option, Some, None, Ok}
use Rattle.std.specs.Fmt.{decimal}
use Rattle.quic_stats.specs.declared.connection.ConnectionStats.{ConnectionStats}
use Rattle.quic_stats.specs.declared.drops.DropStats.{DropStats}
use Rattle.quic_stats.specs.declared.path.PathStats.{PathStats}
use Rattle.quic_wire.specs.Close.{CloseValue, by_transport, by_application}
use Rattle.quic_parameters.specs.ParametersWritten.{written_parameters}
use Rattle.quic_config.specs.Transport.{parameters_of}
use Rattle.quic_machine.specs.declared.answers.ConfigError.{ConfigError}
use Rattle.quic_machine.specs.declared.answers.ConfigError.TheVariants as config_errors
use Rattle.quic_machine.specs.declared.answers.LostReason.TheVariants as losses
use Rattle.quic_machine.specs.declared.answers.Transmit.{Transmit}
use Rattle.quic_machine.specs.declared.answers.Event.TheVariants as events
use Rattle.quic_machine.specs.declared.run.Answer.{Answer}
use Rattle.quic_machine.specs.declared.run.Answer.TheVariants as answers
use Rattle.quic_connection.specs.Ends.{in_order}
use Rattle.quic_lines.specs.declared.options.Options.{Options}
use Rattle.quic_lines.specs.Options.{settings_of}
use Rattle.quic_lines.specs.Printed.{bytes_text, line_feed, mark_text, address_text, answer_text}

-- a line: a name, a blank and what is answered
abbrev pub line_text : List ℕ → List ℕ → List ℕ
line_text name answer = name ++ (codes " " ++ (answer ++ line_feed))

-- why an end isn't made; want of memory isn't printed
abbrev pub refusal_text : ConfigError → Option (List ℕ)
refusal_text config_errors.Parameters = Some (codes "parameters")
refusal_text config_errors.IdLength = Some (codes "idlength")
refusal_text config_errors.Size = Some (codes "size")
refusal_text config_errors.Window = Some (codes "window")
refusal_text config_errors.KeyLimit = Some (codes "keylimit")
refusal_text config_errors.FirstSample = Some (codes "firstsample")
refusal_text config_errors.Memory = None

-- the transport parameters of an end with these options, in the order of their ids
abbrev pub parameters_text : Options → List ℕ
parameters_text options = bytes_text (written_parameters (parameters_of (settings_of options)) in_order)

-- the mark and the bytes of a datagram, and its address
abbrev pub datagram_text : Transmit → List ℕ → List ℕ
datagram_text transmit bytes = mark_text transmit.ecn ++ (codes " " ++ (bytes_text bytes ++ address_text transmit.remote))

-- the peer closed the connection: by which kind of close, its code and its text
abbrev pub close_text : List ℕ → ℕ → List ℕ → List ℕ
close_text kind code reason = codes "lost peer " ++ (kind ++ (codes " " ++ (decimal code ++ (codes " " ++ bytes_text reason))))

-- what it said, by an error of QUIC or as an application (RFC 9000, section 19.19)
abbrev pub peer_close_text : CloseValue → List ℕ
peer_close_text (by_transport c) = close_text (codes "transport") c.code c.reason
peer_close_text (by_application c) = close_text (codes "application") c.code c.reason

-- An answer of an end that gave these datagrams at the call: of a poll the first of them, if it
-- gave one, and of an event by which the peer closed all that it said.
abbrev pub told_text : List (List ℕ) → Answer → List ℕ
told_text (bytes ∷ more) (answers.Poll (Ok (Some transmit))) = datagram_text transmit bytes
told_text given (answers.Event (Some (events.Lost (losses.Peer close)))) = peer_close_text close
told_text given answer = answer_text 0 answer

-- ---- figures

-- how many bytes may be in flight
abbrev pub window_line : ℕ → List ℕ
window_line bytes = line_text (codes "window") (decimal bytes)

-- a figure: a blank, its name, a blank and its value
abbrev pub figure : List ℕ → ℕ → List ℕ
figure name value = codes " " ++ (name ++ (codes " " ++ decimal value))

-- the datagrams that were sent and came, and their bytes
abbrev pub udp_text : ConnectionStats → List ℕ
udp_text s = figure (codes "udp_tx_datagrams") s.udp_tx.datagrams ++ (figure (codes "udp_tx_bytes") s.udp_tx.bytes ++ (figure (codes "udp_rx_datagrams") s.udp_rx.datagrams ++ figure (codes "udp_rx_bytes") s.udp_rx.bytes))

-- what is estimated of the path, and what it carries
abbrev pub rtt_text : PathStats → List ℕ
rtt_text p = figure (codes "rtt") p.rtt ++ (figure (codes "min_rtt") p.min_rtt ++ (figure (codes "cwnd") p.cwnd ++ figure (codes "current_mtu") p.current_mtu))

-- how many packets were sent and lost, the bytes of these, and how often there was congestion
abbrev pub losses_text : PathStats → List ℕ
losses_text p = figure (codes "sent_packets") p.sent_packets ++ (figure (codes "lost_packets") p.lost_packets ++ (figure (codes "lost_bytes") p.lost_bytes ++ figure (codes "congestion_events") p.congestion_events))

-- how many MTU probes were sent and lost, and how many black holes were found
abbrev pub probes_text : PathStats → List ℕ
probes_text p = figure (codes "sent_plpmtud_probes") p.sent_plpmtud_probes ++ (figure (codes "lost_plpmtud_probes") p.lost_plpmtud_probes ++ figure (codes "black_holes_detected") p.black_holes_detected)

-- how many datagrams were dropped whose header can't be read or names no ID
abbrev pub headers_text : DropStats → List ℕ
headers_text d = figure (codes "dropped_too_short") d.too_short ++ (figure (codes "dropped_not_short") d.not_short ++ (figure (codes "dropped_fixed_bit") d.fixed_bit ++ figure (codes "dropped_unknown_id") d.unknown_id))

-- how many were dropped for their packet
abbrev pub packets_text : DropStats → List ℕ
packets_text d = figure (codes "dropped_not_opened") d.not_opened ++ (figure (codes "dropped_key_phase") d.key_phase ++ figure (codes "dropped_duplicate") d.duplicate)

-- how many were dropped for the state of the endpoint
abbrev pub states_text : DropStats → List ℕ
states_text d = figure (codes "dropped_closing") d.closing ++ (figure (codes "dropped_drained") d.drained ++ figure (codes "dropped_failed") d.failed)

-- how many datagrams were dropped, by reason
abbrev pub drops_text : DropStats → List ℕ
drops_text d = headers_text d ++ (packets_text d ++ states_text d)

-- what was counted of an end: its datagrams, its path and what it dropped, not its frames
abbrev pub stats_line : ConnectionStats → List ℕ
stats_line s = codes "stats" ++ (udp_text s ++ (rtt_text s.path ++ (losses_text s.path ++ (probes_text s.path ++ (drops_text s.dropped ++ line_feed)))))
