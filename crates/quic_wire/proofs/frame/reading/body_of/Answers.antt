use Rattle.std.proofs.Common.{true, false, arith}
use Rattle.quic_wire.specs.FrameTypes.{is_padding, is_ping, is_ack, is_reset_stream, is_stop_sending, is_crypto, is_new_token, is_max_data, is_max_stream_data, is_max_streams, is_data_blocked, is_stream_data_blocked, is_streams_blocked, is_new_connection_id, is_retire_connection_id, is_path_challenge, is_path_response, is_connection_close, is_application_close, is_handshake_done, is_immediate_ack, is_datagram, is_ack_frequency}
use Rattle.quic_wire.specs.FrameView.{frame_view}
use Rattle.quic_wire.proofs.FrameKinds.{of_type, of_stream_type, body_is, body_other}
use Rattle.quic_wire.proofs.frame.reading.body_of.Goals as goal

pub returns-in-0 : goal.returns-in-0
returns-in-0 c = body_is is_padding c.args.ty c.args.bytes.now.now tt c.in-0.is

pub returns-in-1 : goal.returns-in-1
returns-in-1 c = body_is is_ping c.args.ty c.args.bytes.now.now tt c.in-1.is

pub returns-in-2 : goal.returns-in-2
returns-in-2 c = of_type frame_view (is_ack false) c.args.ty c.args.bytes.now.now c.ack_frame_of.new.bytes.now c.ack_frame_of.result tt c.in-2.is c.ack_frame_of.ensures

pub returns-in-3 : goal.returns-in-3
returns-in-3 c = of_type frame_view (is_ack true) c.args.ty c.args.bytes.now.now c.ack_frame_of-in-3.new.bytes.now c.ack_frame_of-in-3.result tt c.in-3.is c.ack_frame_of-in-3.ensures

pub returns-in-4 : goal.returns-in-4
returns-in-4 c = of_type frame_view is_reset_stream c.args.ty c.args.bytes.now.now c.reset_stream_of.new.bytes.now c.reset_stream_of.result tt c.in-4.is c.reset_stream_of.ensures

pub returns-in-5 : goal.returns-in-5
returns-in-5 c = of_type frame_view is_stop_sending c.args.ty c.args.bytes.now.now c.stop_sending_of.new.bytes.now c.stop_sending_of.result tt c.in-5.is c.stop_sending_of.ensures

pub returns-in-6 : goal.returns-in-6
returns-in-6 c = of_type frame_view is_crypto c.args.ty c.args.bytes.now.now c.crypto_of.new.bytes.now c.crypto_of.result tt c.in-6.is c.crypto_of.ensures

pub returns-in-7 : goal.returns-in-7
returns-in-7 c = of_type frame_view is_new_token c.args.ty c.args.bytes.now.now c.new_token_of.new.bytes.now c.new_token_of.result tt c.in-7.is c.new_token_of.ensures

pub returns-in-16 : goal.returns-in-16
returns-in-16 c = of_type frame_view is_max_data c.args.ty c.args.bytes.now.now c.max_data_of.new.bytes.now c.max_data_of.result tt c.in-16.is c.max_data_of.ensures

pub returns-in-17 : goal.returns-in-17
returns-in-17 c = of_type frame_view is_max_stream_data c.args.ty c.args.bytes.now.now c.max_stream_data_of.new.bytes.now c.max_stream_data_of.result tt c.in-17.is c.max_stream_data_of.ensures

pub returns-in-18 : goal.returns-in-18
returns-in-18 c = of_type frame_view (is_max_streams false) c.args.ty c.args.bytes.now.now c.max_streams_of.new.bytes.now c.max_streams_of.result tt c.in-18.is c.max_streams_of.ensures

pub returns-in-19 : goal.returns-in-19
returns-in-19 c = of_type frame_view (is_max_streams true) c.args.ty c.args.bytes.now.now c.max_streams_of-in-19.new.bytes.now c.max_streams_of-in-19.result tt c.in-19.is c.max_streams_of-in-19.ensures

pub returns-in-20 : goal.returns-in-20
returns-in-20 c = of_type frame_view is_data_blocked c.args.ty c.args.bytes.now.now c.data_blocked_of.new.bytes.now c.data_blocked_of.result tt c.in-20.is c.data_blocked_of.ensures

pub returns-in-21 : goal.returns-in-21
returns-in-21 c = of_type frame_view is_stream_data_blocked c.args.ty c.args.bytes.now.now c.stream_data_blocked_of.new.bytes.now c.stream_data_blocked_of.result tt c.in-21.is c.stream_data_blocked_of.ensures

pub returns-in-22 : goal.returns-in-22
returns-in-22 c = of_type frame_view (is_streams_blocked false) c.args.ty c.args.bytes.now.now c.streams_blocked_of.new.bytes.now c.streams_blocked_of.result tt c.in-22.is c.streams_blocked_of.ensures

pub returns-in-23 : goal.returns-in-23
returns-in-23 c = of_type frame_view (is_streams_blocked true) c.args.ty c.args.bytes.now.now c.streams_blocked_of-in-23.new.bytes.now c.streams_blocked_of-in-23.result tt c.in-23.is c.streams_blocked_of-in-23.ensures

pub returns-in-24 : goal.returns-in-24
returns-in-24 c = of_type frame_view is_new_connection_id c.args.ty c.args.bytes.now.now c.new_connection_id_of.new.bytes.now c.new_connection_id_of.result tt c.in-24.is c.new_connection_id_of.ensures

pub returns-in-25 : goal.returns-in-25
returns-in-25 c = of_type frame_view is_retire_connection_id c.args.ty c.args.bytes.now.now c.retire_connection_id_of.new.bytes.now c.retire_connection_id_of.result tt c.in-25.is c.retire_connection_id_of.ensures

pub returns-in-26 : goal.returns-in-26
returns-in-26 c = of_type frame_view is_path_challenge c.args.ty c.args.bytes.now.now c.path_challenge_of.new.bytes.now c.path_challenge_of.result tt c.in-26.is c.path_challenge_of.ensures

pub returns-in-27 : goal.returns-in-27
returns-in-27 c = of_type frame_view is_path_response c.args.ty c.args.bytes.now.now c.path_response_of.new.bytes.now c.path_response_of.result tt c.in-27.is c.path_response_of.ensures

pub returns-in-28 : goal.returns-in-28
returns-in-28 c = of_type frame_view is_connection_close c.args.ty c.args.bytes.now.now c.connection_close_of.new.bytes.now c.connection_close_of.result tt c.in-28.is c.connection_close_of.ensures

pub returns-in-29 : goal.returns-in-29
returns-in-29 c = of_type frame_view is_application_close c.args.ty c.args.bytes.now.now c.application_close_of.new.bytes.now c.application_close_of.result tt c.in-29.is c.application_close_of.ensures

pub returns-in-30 : goal.returns-in-30
returns-in-30 c = body_is is_handshake_done c.args.ty c.args.bytes.now.now tt c.in-30.is

pub returns-in-31 : goal.returns-in-31
returns-in-31 c = body_is is_immediate_ack c.args.ty c.args.bytes.now.now tt c.in-31.is

pub returns-in-48 : goal.returns-in-48
returns-in-48 c = of_type frame_view (is_datagram false) c.args.ty c.args.bytes.now.now c.datagram_of.new.bytes.now c.datagram_of.result tt c.in-48.is c.datagram_of.ensures

pub returns-in-49 : goal.returns-in-49
returns-in-49 c = of_type frame_view (is_datagram true) c.args.ty c.args.bytes.now.now c.datagram_of-in-49.new.bytes.now c.datagram_of-in-49.result tt c.in-49.is c.datagram_of-in-49.ensures

pub returns-in-175 : goal.returns-in-175
returns-in-175 c = of_type frame_view is_ack_frequency c.args.ty c.args.bytes.now.now c.ack_frequency_of.new.bytes.now c.ack_frequency_of.result tt c.in-175.is c.ack_frequency_of.ensures

pub returns-in-8-to-15 : goal.returns-in-8-to-15
returns-in-8-to-15 c = of_stream_type frame_view c.args.ty c.args.bytes.now.now c.stream_frame_of.new.bytes.now c.stream_frame_of.result (omega arith) (omega arith) c.stream_frame_of.ensures

pub returns-in_default : goal.returns-in_default
returns-in_default c = body_other c.args.ty c.args.bytes.now.now (λ e. omega arith) (λ e. omega arith) (λ h k. omega arith) (λ e. omega arith) (λ e. omega arith) (λ e. omega arith)
